-- The rules for whole entries: behind their keywords, and at the keyword, with the room that it needs.
-- Assumes nothing.
use Rattle.std.specs.Prelude.{◌≡◌, Bool, true, List, [], ◌∷◌, ◌++◌, ◌⊎◌, ℕ, ◌+◌, ◌-◌, ◌≤◌, ◌<◌, eqb, length, Result, Ok, Err}
use Rattle.std.proofs.Math.Path.{refl}
use Rattle.std.proofs.Common.{◌∙◌, append_assoc, inl, inr}
use Rattle.std.proofs.Math.Bool.{false}
use Rattle.std.proofs.Math.Option.{none, some}
use native.Mathlib.Omega.{arith}
use borrow.Author.Tests.{eq-eqb, ne_eqb, lt-leb, le-leb, eqb-true, eqb-false}
use Rattle.classes.specs.Choice.{pick}
use Rattle.tokenforms.specs.declared.Refusal.{Refusal}
use Rattle.tokenforms.specs.Tokens.{Got, Refused}
use Rattle.tokenforms.specs.Tokens.{token_at}
use Rattle.tokens.specs.Stream.{Placed, placed}
use Rattle.words.specs.Words.{key_of}
use Rattle.kinds.specs.Kinds.{has_second, rows_of, is_signed, facts_of, table}
use Rattle.grammar.specs.Answers.{Name, ValueTo, EndTo}
use Rattle.grammar.specs.Ll.{lit, non, choose}
use Rattle.grammar.specs.Machine.{fine, bad}
use Rattle.grammar.specs.declared.Value.{Value}
use Rattle.grammar.specs.declared.Entry.{Entry}
use Rattle.grammar.specs.Grammar.{N, Note, word, keys, ◌‼◌, ◌!◌, ◌⇒◌, entry, alts, fits, port, plain, close, end?, iopath_tail, interconnect_tail, port_tail, value_list, two_ends, one_value, two_values, device, delay, check}
use Rattle.grammar.specs.Meaning.{Log, pushed, started, head_of, wrongly}
use Rattle.grammar.specs.Reading.{reading, stepped, goes, halts}
use Rattle.grammar.specs.Outcome.{Stack, state}
use Rattle.rules.specs.Promises.{Marked, OpensValue, ReadsValues, OpensValues, ValuesFrom, shut, listed, PortHere, ReadsPort, ReadsEnd, Entered, Listable}
use Rattle.rules.specs.Rules.{ahead, heads}

-- an entry with these ends
abbrev pub ended : ℕ → ℕ → ℕ → ℕ → ℕ → ℕ → ℕ → ℕ → ℕ → Entry
ended k g pl e1 b1 t1 e2 b2 t2 = record { kind = k; group = g; place = pl; edge1 = e1; from1 = b1; to1 = t1; edge2 = e2; from2 = b2; to2 = t2 }

-- behind the keyword of an entry of kind k in group g, which stands at pl
module _ (s : List ℕ) (p : ℕ) (slash : Bool) (unit k g pl : ℕ) where
  pub end_not : (ys : Stack) (i : Bool) (n q : ℕ) (h : Entry) (vs : List Value) → ReadsEnd s p i slash (Refused n q) →
      Entered s p (non (end? i slash) ∷ ys) slash unit k g pl (Refused n q) h vs
  end_not ys i n q h vs a = λ ss cr ir l. a (ys ++ ss) unit cr ir _

  pub name_not : (ys : Stack) (m : Note) (n q : ℕ) (h : Entry) (vs : List Value) → ReadsPort s p slash (Refused n q) →
      Entered s p (lit (port slash ! m) ∷ ys) slash unit k g pl (Refused n q) h vs
  name_not ys m n q h vs a = λ ss cr ir l. a m (ys ++ ss) unit cr ir _

  -- IOPATH: an end that may have an edge, a port, values
  pub iopath-port-not : (e b t x n q : ℕ) (h : Entry) (vs : List Value) → ReadsEnd s p false slash (EndTo e b t x) → ReadsPort s x slash (Refused n q) →
      Entered s p (iopath_tail slash) slash unit k g pl (Refused n q) h vs
  iopath-port-not e b t x n q h vs a w = λ ss cr ir l. a.0 _ unit cr ir _ ∙ w (plain true) _ unit cr ir _

  pub iopath-done : (e b t x b2 t2 : ℕ) (st : Result ℕ Refusal) (vs : List Value) → ReadsEnd s p false slash (EndTo e b t x) → ReadsPort s x slash (Name b2 t2) →
      OpensValues s t2 unit st vs → Entered s p (iopath_tail slash) slash unit k g pl st (ended k g pl e b t 0 b2 t2) vs
  iopath-done e b t x b2 t2 (Ok y) vs a w u =
      (λ ss cr ir l. a.0 _ unit cr ir _ ∙ w.1 (plain true) _ unit cr ir _ ∙ u.0 ss slash cr ir _ ∙ rw (w.2, w.3), omega (arith, a.1, w.4, u.1), u.2)
  iopath-done e b t x b2 t2 (Err why) vs a w u = λ ss cr ir l. a.0 _ unit cr ir _ ∙ w.1 (plain true) _ unit cr ir _ ∙ u ss slash cr ir _

  -- INTERCONNECT: two ports, values
  pub wire_port-not : (b t n q : ℕ) (h : Entry) (vs : List Value) → ReadsPort s p slash (Name b t) → ReadsPort s t slash (Refused n q) →
      Entered s p (interconnect_tail slash) slash unit k g pl (Refused n q) h vs
  wire_port-not b t n q h vs a w = λ ss cr ir l. a.1 (plain false) _ unit cr ir _ ∙ w (plain true) _ unit cr ir _

  pub wire_done : (b t b2 t2 : ℕ) (st : Result ℕ Refusal) (vs : List Value) → ReadsPort s p slash (Name b t) → ReadsPort s t slash (Name b2 t2) →
      OpensValues s t2 unit st vs → Entered s p (interconnect_tail slash) slash unit k g pl st (ended k g pl 0 b t 0 b2 t2) vs
  wire_done b t b2 t2 (Ok y) vs a w u =
      (λ ss cr ir l. a.1 (plain false) _ unit cr ir _ ∙ w.1 (plain true) _ unit cr ir _ ∙ u.0 ss slash cr ir _ ∙ rw (a.2, a.3, w.2, w.3), omega (arith, a.4, w.4, u.1), u.2)
  wire_done b t b2 t2 (Err why) vs a w u = λ ss cr ir l. a.1 (plain false) _ unit cr ir _ ∙ w.1 (plain true) _ unit cr ir _ ∙ u ss slash cr ir _

  -- PORT: a port, values
  pub port-done : (b t : ℕ) (st : Result ℕ Refusal) (vs : List Value) → ReadsPort s p slash (Name b t) → OpensValues s t unit st vs →
      Entered s p (port_tail slash) slash unit k g pl st (ended k g pl 0 b t 0 0 0) vs
  port-done b t (Ok y) vs w u =
      (λ ss cr ir l. w.1 (plain false) _ unit cr ir _ ∙ u.0 ss slash cr ir _ ∙ rw (w.2, w.3), omega (arith, w.4, u.1), u.2)
  port-done b t (Err why) vs w u = λ ss cr ir l. w.1 (plain false) _ unit cr ir _ ∙ u ss slash cr ir _

  -- DEVICE: perhaps a port, values
  pub device-stops : (n q : ℕ) (h : Entry) (vs : List Value) → p ≤ length s → token_at s p ≡ Refused n q →
      Entered s p (non (device slash) ∷ []) slash unit k g pl (Refused n q) h vs
  device-stops n q h vs f t = λ ss cr ir l. halts s _ ss _ p n q f t

  module _ (c b e : ℕ) (long : Bool) (h : p ≤ length s) (tok : token_at s p ≡ Got c b e long) where
    pub device-bare : (st : Result ℕ Refusal) (vs : List Value) → c ≡ 2 → ReadsValues s e unit st vs →
        Entered s p (non (device slash) ∷ []) slash unit k g pl st (head_of k g pl) vs
    unfolding alts
    device-bare (Ok y) vs q u =
        let d = ahead s p c b e long h tok in
        (λ ss cr ir l. goes s _ p 2 b e long (fine _) h (rw q at tok) refl ∙ u.0 ss slash cr ir _, omega (arith, u.1), u.2)
    device-bare (Err why) vs q u = λ ss cr ir l. goes s _ p 2 b e long (fine _) h (rw q at tok) refl ∙ u ss slash cr ir _

    device-port : (ss : Stack) (cr ir : ℕ) (l : Log) → (c ≡ 2 → ⊥) →
        stepped (state (non (device slash) ∷ ss) false slash unit cr ir l) (placed s c b e long) ≡
        stepped (state (lit (port slash ! (plain false)) ∷ (value_list ++ ss)) false slash unit cr ir l) (placed s c b e long)
    unfolding alts
    device-port ss cr ir l n = heads (device slash) (port slash ! (plain false) ⇒ value_list) ss false slash unit cr ir l (placed s c b e long) (rw (ne_eqb c 2 n))

    pub device-not : (m q : ℕ) (x : Entry) (vs : List Value) → (c ≡ 2 → ⊥) → PortHere (placed s c b e long) slash (Refused m q) →
        Entered s p (non (device slash) ∷ []) slash unit k g pl (Refused m q) x vs
    device-not m q x vs n w = λ ss cr ir l. goes s _ p c b e long (bad m q) h tok (device-port ss cr ir _ n ∙ w (plain false) _ unit cr ir _)

    pub device-done : (st : Result ℕ Refusal) (vs : List Value) → (c ≡ 2 → ⊥) → PortHere (placed s c b e long) slash (Ok tt) → OpensValues s e unit st vs →
        Entered s p (non (device slash) ∷ []) slash unit k g pl st (ended k g pl 0 b e 0 0 0) vs
    device-done (Ok y) vs n w u =
        let d = ahead s p c b e long h tok in
        (λ ss cr ir l. goes s _ p c b e long (fine _) h tok (device-port ss cr ir _ n ∙ w (plain false) _ unit cr ir _) ∙ u.0 ss slash cr ir _, omega (arith, u.1), u.2)
    device-done (Err why) vs n w u =
        λ ss cr ir l. goes s _ p c b e long (fine _) h tok (device-port ss cr ir _ n ∙ w (plain false) _ unit cr ir _) ∙ u ss slash cr ir _

-- the values of a check, one or two, and its closing bracket
abbrev pub check_values : Bool → Bool → Stack
check_values two sg = pick two (two_values sg) (one_value sg)

-- the second of two values was read, behind the first one, v
abbrev pub SecondValue : List ℕ → ℕ → Bool → ℕ → Value → Result ℕ Refusal → List Value → Type 0
SecondValue s p sg unit v (Ok e) vs =
    ((ss : Stack) (slash : Bool) (cr ir : ℕ) (l : Log) →
    reading s (state (one_value sg ++ ss) false slash unit cr ir (pushed v l)) p ≡ reading s (state ss false slash unit cr ir (shut (listed vs l))) e)
    × (p < e) × (e ≤ length s)
SecondValue s p sg unit v (Err why) vs =
    (ss : Stack) (slash : Bool) (cr ir : ℕ) (l : Log) → reading s (state (one_value sg ++ ss) false slash unit cr ir (pushed v l)) p ≡ bad why.number why.place

-- the values of a check, from behind its ends
module _ (s : List ℕ) (p unit : ℕ) (sg : Bool) where
  pub one-not : (two : Bool) (n q : ℕ) (vs : List Value) → OpensValue s p sg unit (Refused n q) → ValuesFrom s p (check_values two sg) false unit (Refused n q) vs
  one-not true n q vs u = λ ss slash cr ir l. u.0 _ slash cr ir l
  one-not false n q vs u = λ ss slash cr ir l. u.0 _ slash cr ir l

  module _ (v : Value) (x : ℕ) (u : OpensValue s p sg unit (ValueTo v x)) where
    pub one-shut : (q : ℕ) → Marked s x 3 (Ok q) → ValuesFrom s p (check_values false sg) false unit (Ok q) (v ∷ [])
    one-shut q m = (λ ss slash cr ir l. u.0 _ slash cr ir l ∙ m.1 close _ slash unit cr ir _, omega (arith, u.1.0, m.2), m.3)

    pub one_open : (n q : ℕ) (vs : List Value) → Marked s x 3 (Refused n q) → ValuesFrom s p (check_values false sg) false unit (Refused n q) vs
    one_open n q vs m = λ ss slash cr ir l. u.0 _ slash cr ir l ∙ m close _ slash unit cr ir _

    pub two-done : (st : Result ℕ Refusal) (vs : List Value) → SecondValue s x sg unit v st vs → ValuesFrom s p (check_values true sg) false unit st vs
    two-done (Ok q) vs w = (λ ss slash cr ir l. u.0 _ slash cr ir l ∙ w.0 ss slash cr ir l, omega (arith, u.1.0, w.1), w.2)
    two-done (Err why) vs w = λ ss slash cr ir l. u.0 _ slash cr ir l ∙ w ss slash cr ir l

module _ (s : List ℕ) (p unit : ℕ) (sg : Bool) (v : Value) where
  pub second_not : (n q : ℕ) (vs : List Value) → OpensValue s p sg unit (Refused n q) → SecondValue s p sg unit v (Refused n q) vs
  second_not n q vs w = λ ss slash cr ir l. w.0 _ slash cr ir _

  module _ (v2 : Value) (x2 : ℕ) (w : OpensValue s p sg unit (ValueTo v2 x2)) where
    pub second_shut : (q : ℕ) → Marked s x2 3 (Ok q) → SecondValue s p sg unit v (Ok q) (v ∷ v2 ∷ [])
    second_shut q m =
        (λ ss slash cr ir l. w.0 _ slash cr ir _ ∙ m.1 close _ slash unit cr ir _ ∙ rw append_assoc, omega (arith, w.1.0, m.2), m.3)

    pub second_open : (n q : ℕ) (vs : List Value) → Marked s x2 3 (Refused n q) → SecondValue s p sg unit v (Refused n q) vs
    second_open n q vs m = λ ss slash cr ir l. w.0 _ slash cr ir _ ∙ m close _ slash unit cr ir _

-- a check behind its keyword: one end or two, then its values
module _ (s : List ℕ) (p : ℕ) (slash : Bool) (unit k g pl : ℕ) (ys : Stack) (e b t x : ℕ) (a : ReadsEnd s p false slash (EndTo e b t x)) where
  pub single_done : (st : Result ℕ Refusal) (vs : List Value) → ValuesFrom s x ys false unit st vs →
      Entered s p (non (end? false slash) ∷ ys) slash unit k g pl st (ended k g pl e b t 0 0 0) vs
  single_done (Ok y) vs u = (λ ss cr ir l. a.0 _ unit cr ir _ ∙ u.0 ss slash cr ir _, omega (arith, a.1, u.1), u.2)
  single_done (Err why) vs u = λ ss cr ir l. a.0 _ unit cr ir _ ∙ u ss slash cr ir _

  pub pair-not : (n q : ℕ) (h : Entry) (vs : List Value) → ReadsEnd s x true slash (Refused n q) →
      Entered s p (two_ends slash ys) slash unit k g pl (Refused n q) h vs
  pair-not n q h vs w = λ ss cr ir l. a.0 _ unit cr ir _ ∙ w _ unit cr ir _

  pub pair-done : (e2 b2 t2 x2 : ℕ) (st : Result ℕ Refusal) (vs : List Value) → ReadsEnd s x true slash (EndTo e2 b2 t2 x2) → ValuesFrom s x2 ys false unit st vs →
      Entered s p (two_ends slash ys) slash unit k g pl st (ended k g pl e b t e2 b2 t2) vs
  pair-done e2 b2 t2 x2 (Ok y) vs w u =
      (λ ss cr ir l. a.0 _ unit cr ir _ ∙ w.0 _ unit cr ir _ ∙ u.0 ss slash cr ir _, omega (arith, a.1, w.1, u.1), u.2)
  pair-done e2 b2 t2 x2 (Err why) vs w u = λ ss cr ir l. a.0 _ unit cr ir _ ∙ w.0 _ unit cr ir _ ∙ u ss slash cr ir _

-- what follows the keyword of each kind of entry
abbrev pub delay_tail : ℕ → Bool → Stack
delay_tail k d = pick (eqb k 1) (iopath_tail d) (pick (eqb k 2) (interconnect_tail d) (pick (eqb k 3) (port_tail d) (non (device d) ∷ [])))

abbrev pub check_tail : ℕ → Bool → Stack
check_tail k d =
    pick (has_second k) (two_ends d (check_values (eqb (rows_of k) 2) (is_signed k))) (non (end? false d) ∷ check_values false false)

-- AT THE KEYWORD. y is the place of the grammar: an entry of a group, or a check
abbrev pub Chosen : Placed → N → ℕ → ℕ → ℕ → Stack → Type 0
Chosen t y lo hi g rest = choose fits (alts y) t ≡ some (word keys lo hi ‼ (entry g) ⇒ rest)

pub listable_stops : (s : List ℕ) (p n q : ℕ) (y : N) (slash : Bool) (unit room : ℕ) (h : Entry) (vs : List Value) → p ≤ length s → token_at s p ≡ Refused n q →
    Listable s p y slash unit room (Refused n q) h vs
listable_stops s p n q y slash unit room h vs f t = λ ss cr l. halts s _ ss _ p n q f t

module _ (s : List ℕ) (p k b e : ℕ) (long : Bool) (h : p ≤ length s) (tok : token_at s p ≡ Got k b e long) (y : N) (slash : Bool) (unit room : ℕ) where
  pub listable_not : (w : ℕ) (x : Entry) (vs : List Value) → w ≡ wrongly true k (placed s k b e long).bytes → choose fits (alts y) (placed s k b e long) ≡ none →
      Listable s p y slash unit room (Refused w b) x vs
  listable_not w x vs v c = λ ss cr l. goes s _ p k b e long (bad w b) h tok (rw (c, v))

  module _ (lo hi g : ℕ) (rest : Stack) (c : Chosen (placed s k b e long) y lo hi g rest) where
    pub listable_long : (x : Entry) (vs : List Value) → long ≡ true → Listable s p y slash unit room (Refused 8 b) x vs
    listable_long x vs f = λ ss cr l. goes s _ p k b e long (bad 8 b) h tok (rw (c, f))

    pub listable_full : (x : Entry) (vs : List Value) → long ≡ false → room ≡ 0 → Listable s p y slash unit room (Refused 9 b) x vs
    listable_full x vs f r = λ ss cr l. goes s _ p k b e long (bad 9 b) h tok (rw (c, f, r))

    onto : (ss : Stack) (cr : ℕ) (l : Log) → k ≡ 7 → long ≡ false → (room ≡ 0 → ⊥) →
        reading s (state (non y ∷ ss) true slash unit cr room l) p ≡
        reading s (state (rest ++ ss) false slash unit cr (room - 1) (started (key_of (placed s k b e long).bytes) g b l)) e
    onto ss cr l q f r = let z : eqb k 2 ≡ false = rw q refl in goes s _ p k b e long (fine _) h tok (rw (c, f, ne_eqb room 0 r, z))

    pub listable_done : (st : Result ℕ Refusal) (x : Entry) (vs : List Value) → k ≡ 7 → long ≡ false → (room ≡ 0 → ⊥) →
        Entered s e rest slash unit (key_of (placed s k b e long).bytes) g b st x vs → Listable s p y slash unit room st x vs
    listable_done (Ok z) x vs q f r u =
        let d = ahead s p k b e long h tok in
        (λ ss cr l. onto ss cr l q f r ∙ u.0 ss cr (room - 1) l, omega (arith, u.1), u.2, omega arith)
    listable_done (Err why) x vs q f r u = λ ss cr l. onto ss cr l q f r ∙ u ss cr (room - 1) l

-- a number that is not below another is that one, or above it
upward : {X : Type 0} (a b : ℕ) → b ≤ a → (a ≡ b → X) → (b < a → X) → X
upward {X} a b h f g = by (eqb a b) refl
  where
    by : (t : Bool) → eqb a b ≡ t → X
    by true e = f (eqb-true a b e)
    by false e = g (let n = eqb-false a b e in omega (arith, n))

-- which alternative a keyword takes
module _ (t : Placed) (g : ℕ) (slash : Bool) where
  pub no_delay_kind : (t.kind ≡ 7 → ⊥) → choose fits (alts (delay g slash)) t ≡ none
  unfolding alts
  no_delay_kind n = rw (ne_eqb t.kind 7 n)

  pub no_check_kind : (t.kind ≡ 7 → ⊥) → choose fits (alts (check slash)) t ≡ none
  unfolding alts
  no_check_kind n = rw (ne_eqb t.kind 7 n)

  module _ (q : t.kind ≡ 7) where
    pub no_delay : (key_of t.bytes < 1) ⊎ (4 < key_of t.bytes) → choose fits (alts (delay g slash)) t ≡ none
    unfolding alts
    no_delay (inl h) = rw (eq-eqb t.kind 7 q, lt-leb 1 (key_of t.bytes) h, lt-leb 2 (key_of t.bytes) (omega arith), lt-leb 3 (key_of t.bytes) (omega arith), lt-leb 4 (key_of t.bytes) (omega arith))
    no_delay (inr h) =
        rw (
          eq-eqb t.kind 7 q,
          le-leb 1 (key_of t.bytes) (omega arith),
          lt-leb (key_of t.bytes) 1 (omega arith),
          le-leb 2 (key_of t.bytes) (omega arith),
          lt-leb (key_of t.bytes) 2 (omega arith),
          le-leb 3 (key_of t.bytes) (omega arith),
          lt-leb (key_of t.bytes) 3 (omega arith),
          le-leb 4 (key_of t.bytes) (omega arith),
          lt-leb (key_of t.bytes) 4 (omega arith),
        )

    pub delay_1 : key_of t.bytes ≡ 1 → Chosen t (delay g slash) 1 1 g (iopath_tail slash)
    unfolding alts
    delay_1 f = rw (eq-eqb t.kind 7 q, f)

    pub delay_2 : key_of t.bytes ≡ 2 → Chosen t (delay g slash) 2 2 g (interconnect_tail slash)
    unfolding alts
    delay_2 f = rw (eq-eqb t.kind 7 q, f)

    pub delay_3 : key_of t.bytes ≡ 3 → Chosen t (delay g slash) 3 3 g (port_tail slash)
    unfolding alts
    delay_3 f = rw (eq-eqb t.kind 7 q, f)

    pub delay_4 : key_of t.bytes ≡ 4 → Chosen t (delay g slash) 4 4 g (non (device slash) ∷ [])
    unfolding alts
    delay_4 f = rw (eq-eqb t.kind 7 q, f)

    pub no_check : (key_of t.bytes < 11) ⊎ (21 < key_of t.bytes) → choose fits (alts (check slash)) t ≡ none
    unfolding alts
    no_check (inl h) =
        let x = key_of t.bytes in
        rw (
          eq-eqb t.kind 7 q,
          lt-leb 11 x h,
          lt-leb 14 x (omega arith),
          lt-leb 17 x (omega arith),
          lt-leb 13 x (omega arith),
          lt-leb 16 x (omega arith),
          lt-leb 21 x (omega arith),
          lt-leb 18 x (omega arith),
          lt-leb 19 x (omega arith),
        )
    no_check (inr h) =
        let x = key_of t.bytes in
        rw (
          eq-eqb t.kind 7 q,
          le-leb 11 x (omega arith),
          lt-leb x 12 (omega arith),
          le-leb 14 x (omega arith),
          lt-leb x 15 (omega arith),
          le-leb 17 x (omega arith),
          lt-leb x 17 (omega arith),
          le-leb 13 x (omega arith),
          lt-leb x 13 (omega arith),
          le-leb 16 x (omega arith),
          lt-leb x 16 (omega arith),
          le-leb 21 x (omega arith),
          lt-leb x 21 (omega arith),
          le-leb 18 x (omega arith),
          lt-leb x 18 (omega arith),
          le-leb 19 x (omega arith),
          lt-leb x 20 (omega arith),
        )

    -- 'SETUP, HOLD, RECOVERY, REMOVAL (two ends, one unsigned value)'
    pub check_11 : (key_of t.bytes ≡ 11) ⊎ (key_of t.bytes ≡ 12) → Chosen t (check slash) 11 12 84 (two_ends slash (check_values false false))
    unfolding alts
    check_11 (inl f) = rw (eq-eqb t.kind 7 q, f)
    check_11 (inr f) = rw (eq-eqb t.kind 7 q, f)

    pub check_14 : (key_of t.bytes ≡ 14) ⊎ (key_of t.bytes ≡ 15) → Chosen t (check slash) 14 15 84 (two_ends slash (check_values false false))
    unfolding alts
    check_14 (inl f) = rw (eq-eqb t.kind 7 q, f)
    check_14 (inr f) = rw (eq-eqb t.kind 7 q, f)

    -- 'SKEW (two ends, one signed)'
    pub check_17 : key_of t.bytes ≡ 17 → Chosen t (check slash) 17 17 84 (two_ends slash (check_values false true))
    unfolding alts
    check_17 f = rw (eq-eqb t.kind 7 q, f)

    -- 'SETUPHOLD, RECREM, NOCHANGE (two ends, two signed)'
    pub check_13 : key_of t.bytes ≡ 13 → Chosen t (check slash) 13 13 84 (two_ends slash (check_values true true))
    unfolding alts
    check_13 f = rw (eq-eqb t.kind 7 q, f)

    pub check_16 : key_of t.bytes ≡ 16 → Chosen t (check slash) 16 16 84 (two_ends slash (check_values true true))
    unfolding alts
    check_16 f = rw (eq-eqb t.kind 7 q, f)

    pub check_21 : key_of t.bytes ≡ 21 → Chosen t (check slash) 21 21 84 (two_ends slash (check_values true true))
    unfolding alts
    check_21 f = rw (eq-eqb t.kind 7 q, f)

    -- 'BIDIRECTSKEW (two ends, two unsigned)'
    pub check_18 : key_of t.bytes ≡ 18 → Chosen t (check slash) 18 18 84 (two_ends slash (check_values true false))
    unfolding alts
    check_18 f = rw (eq-eqb t.kind 7 q, f)

    -- 'WIDTH, PERIOD (one end, one unsigned)'
    pub check_19 : (key_of t.bytes ≡ 19) ⊎ (key_of t.bytes ≡ 20) → Chosen t (check slash) 19 20 84 (non (end? false slash) ∷ check_values false false)
    unfolding alts
    check_19 (inl f) = rw (eq-eqb t.kind 7 q, f)
    check_19 (inr f) = rw (eq-eqb t.kind 7 q, f)

    -- whichever it is, one alternative takes it
    pub delay_chosen : 1 ≤ key_of t.bytes → key_of t.bytes ≤ 4 → (lo hi : ℕ) × Chosen t (delay g slash) lo hi g (delay_tail (key_of t.bytes) slash)
    delay_chosen a b =
        upward (key_of t.bytes) 1 a (λ f. (1, 1, rw f (delay_1 f)))
        (λ a. upward (key_of t.bytes) 2 a (λ f. (2, 2, rw f (delay_2 f)))
        (λ a. upward (key_of t.bytes) 3 a (λ f. (3, 3, rw f (delay_3 f)))
        (λ a. let f : key_of t.bytes ≡ 4 = omega arith in (4, 4, rw f (delay_4 f)))))

    pub check_chosen : 11 ≤ key_of t.bytes → key_of t.bytes ≤ 21 → (lo hi : ℕ) × Chosen t (check slash) lo hi 84 (check_tail (key_of t.bytes) slash)
    unfolding has_second rows_of is_signed facts_of table
    check_chosen a b =
        upward (key_of t.bytes) 11 a (λ f. (11, 12, rw f (check_11 (inl f))))
        (λ a. upward (key_of t.bytes) 12 a (λ f. (11, 12, rw f (check_11 (inr f))))
        (λ a. upward (key_of t.bytes) 13 a (λ f. (13, 13, rw f (check_13 f)))
        (λ a. upward (key_of t.bytes) 14 a (λ f. (14, 15, rw f (check_14 (inl f))))
        (λ a. upward (key_of t.bytes) 15 a (λ f. (14, 15, rw f (check_14 (inr f))))
        (λ a. upward (key_of t.bytes) 16 a (λ f. (16, 16, rw f (check_16 f)))
        (λ a. upward (key_of t.bytes) 17 a (λ f. (17, 17, rw f (check_17 f)))
        (λ a. upward (key_of t.bytes) 18 a (λ f. (18, 18, rw f (check_18 f)))
        (λ a. upward (key_of t.bytes) 19 a (λ f. (19, 20, rw f (check_19 (inl f))))
        (λ a. upward (key_of t.bytes) 20 a (λ f. (19, 20, rw f (check_19 (inr f))))
        (λ a. let f : key_of t.bytes ≡ 21 = omega arith in (21, 21, rw f (check_21 f))))))))))))
