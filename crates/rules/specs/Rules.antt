-- The rules by which the readers of the code are proved: one for each way through a reader, over the tokens it met. They say nothing of code.
-- Assumes nothing.
use Rattle.std.specs.Prelude.{◌≡◌, Bool, List, [], ◌∷◌, ◌++◌, ℕ, ◌+◌, ◌*◌, ◌/◌, ◌%◌, ◌^◌, ◌≤◌, ◌<◌, eqb, leb, length, ℤ, Result, Ok, Err, Some, None, Option}
use Rattle.std.proofs.Math.Path.{refl}
use Rattle.std.proofs.Common.{◌∙◌, sym, append_assoc}
use Rattle.std.proofs.Math.Bool.{true, false}
use Rattle.std.proofs.Math.Option.{none, some}
use native.Mathlib.Omega.{arith}
use Rattle.std.proofs.Math.Dec.{ltb}
use borrow.Author.Tests.{eq-eqb, ne_eqb, lt-ltb, le-ltb, le-leb, lt-leb}
use Rattle.classes.specs.Choice.{pick}
use Rattle.tokenforms.specs.declared.Token.{Token}
use Rattle.tokenforms.specs.declared.Refusal.{Refusal}
use Rattle.tokenforms.specs.Tokens.{Got, Refused}
use Rattle.tokenforms.specs.Tokens.{token_at}
use Rattle.tokens.specs.Stream.{Placed, placed, onwards, part}
use Rattle.words.specs.Words.{edge_of, edges}
use Rattle.words.specs.Scales.{find_most}
use Rattle.nameshape.specs.Shape.{is_port, name_run}
use Rattle.nametokens.specs.Shaped.{shape_of, name_fault}
use Rattle.nametokens.specs.ShapeLaws.{judged}
use Rattle.numbershape.specs.Shape.{is_number, parts_of}
use Rattle.numbershape.specs.Value.{number_of, exact, with_sign}
use Rattle.numbershape.specs.declared.NotTime.{NotTime}
use Rattle.numbershape.specs.declared.NotTime.TheVariants.{Fine, Beyond, Wrong}
use Rattle.grammar.specs.declared.End.{End}
use Rattle.grammar.specs.Answers.{Name, ValueTo, EndTo}
use Rattle.grammar.specs.Ll.{Sym, lit, non, Alt, choose}
use Rattle.grammar.specs.Machine.{fine, bad, ◌then◌, as_head}
use Rattle.grammar.specs.declared.Value.{Value}
use Rattle.grammar.specs.declared.ReadValue.{ReadValue}
use Rattle.grammar.specs.Grammar.{Term, N, time, ◌!◌, ◌‼◌, this, value, second, third, first, alts, whole, fits, skip, closes, colon, ◌⇒◌, values, port, edged, end, plain, end?, ⟩}
use Rattle.grammar.specs.Grammar as G
use Rattle.grammar.specs.Meaning.{Log, judge, wrong, nothing, wrongly, headed, edge_put, end_put_lem}
use Rattle.grammar.specs.Reading.{At, reading, stepped, goes, halts}
use Rattle.grammar.specs.Outcome.{Stack, state}
use Rattle.rules.specs.Promises.{NumberHere, Marked, Reads, ReadsValue, took_number, Ahead, OpensValue, Listed, listed, ReadsValues, OpensValues, PortHere, ReadsPort, an_edge, EdgeIs, ReadsEnd, ReadsEdged}

-- a token goes forward, and ends within the text
pub ahead : (s : List ℕ) (p k b e : ℕ) (l : Bool) → p ≤ length s → token_at s p ≡ Got k b e l → (p < e) × (e ≤ length s)
ahead s p k b e l h q = let g = onwards s p k b e l h q in (omega arith, g.2)

-- where one alternative of a place is left that may fit, it is as if its head stood there
pub heads : (n : N) (a : Alt Term N) (ss : Stack) (o slash : Bool) (unit cr ir : ℕ) (l : Log) (t : Placed) → choose fits (alts n) t ≡ pick (fits a.head t) (some a) none →
    stepped (state (non n ∷ ss) o slash unit cr ir l) t ≡ stepped (state (lit a.head ∷ (a.rest ++ ss)) o slash unit cr ir l) t
heads n a ss o slash unit cr ir l t e = as_head fits alts judge wrong (λ x. x.start) n a ss _ t e

-- what ends the tokens, where a value is to come
pub stops : (s : List ℕ) (p n q : ℕ) (y : Sym Term N) (o : Bool) (v : Value) (unit : ℕ) → p ≤ length s → token_at s p ≡ Refused n q → Reads s p y o v unit (Refused n q)
stops s p n q y o v unit h t = (λ ss slash cr ir l. halts s y ss _ p n q h t, tt)

later : (p q n : ℕ) (r : Result ReadValue Refusal) → p < q → Ahead q n r → Ahead p n r
later p q n (Ok got) h g = (omega arith, g.1)
later p q n (Err why) h g = tt

further : (s : List ℕ) (p k b e : ℕ) (long : Bool) → p ≤ length s → token_at s p ≡ Got k b e long → (r : Result ReadValue Refusal) → Ahead e (length s) r → Ahead p (length s) r
further s p k b e long h tok r g = later p e (length s) r (ahead s p k b e long h tok).0 g

-- a mark where it is expected
pub mark-stops : (s : List ℕ) (p m n q : ℕ) → p ≤ length s → token_at s p ≡ Refused n q → Marked s p m (Refused n q)
mark-stops s p m n q h t = λ x ss slash unit cr ir l. halts s _ ss _ p n q h t

-- the answer of a number's reader tells whether the word has a number's shape
shaped : (sg : Bool) (unit : ℕ) (w : List ℕ) → (number_of sg unit w ≡ Err Wrong → ⊥) → is_number sg w ≡ true
unfolding number_of
shaped sg unit w n = by (is_number sg w) refl
  where
    by : (b : Bool) → is_number sg w ≡ b → is_number sg w ≡ true
    by true e = e
    by false e = absurd (n (rw e))

-- an exact product is never a wrong shape
never : (minus : Bool) (m u d : ℕ) → exact minus m u d ≡ Err Wrong → ⊥
unfolding exact
never minus m u d e = by (eqb ((m * 10 ^ u) % 10 ^ d) 0) (leb ((m * 10 ^ u) / 10 ^ d) (10 ^ 15)) e
  where
    by : (a b : Bool) → pick a (pick b (Ok (with_sign minus ((m * 10 ^ u) / 10 ^ d))) (Err Beyond)) (Err Fine) ≡ Err Wrong → ⊥
    by true true x = let z : ◌≡◌ {A = ℕ} 0 1 = cc in omega arith
    by true false x = let z : ◌≡◌ {A = ℕ} 0 1 = cc in omega arith
    by false b x = let z : ◌≡◌ {A = ℕ} 0 1 = cc in omega arith

shapeless : (sg : Bool) (unit : ℕ) (w : List ℕ) → number_of sg unit w ≡ Err Wrong → is_number sg w ≡ false
unfolding number_of
shapeless sg unit w e = by (is_number sg w) refl
  where
    by : (b : Bool) → is_number sg w ≡ b → is_number sg w ≡ false
    by true x = absurd (never (parts_of sg w).minus _ _ _ (rw x at e))
    by false x = x

unlike : {x y : Result ℤ NotTime} → x ≡ y → (y ≡ Err Wrong → ⊥) → x ≡ Err Wrong → ⊥
unlike e n f = n (sym e ∙ f)

time_not : (z : ℤ) → ◌≡◌ {A = Result ℤ NotTime} (Ok z) (Err Wrong) → ⊥
time_not z e = let x : ◌≡◌ {A = ℕ} 0 1 = cc in omega arith

fine_not : ◌≡◌ {A = Result ℤ NotTime} (Err Fine) (Err Wrong) → ⊥
fine_not e = let x : ◌≡◌ {A = ℕ} 0 1 = cc in omega arith

beyond_not : ◌≡◌ {A = Result ℤ NotTime} (Err Beyond) (Err Wrong) → ⊥
beyond_not e = let x : ◌≡◌ {A = ℕ} 0 1 = cc in omega arith

-- a number where one is expected
module _ (t : Placed) (sg : Bool) (unit : ℕ) (o : Bool) where
  pub number-kind : (t.kind ≡ 7 → ⊥) → NumberHere t sg unit o (Refused (wrongly o t.kind t.bytes) t.start)
  number-kind n = λ i ss slash cr ir l. rw (ne_eqb t.kind 7 n, ne_eqb t.kind 7 n)

  pub number-wrong : t.kind ≡ 7 → number_of sg unit t.bytes ≡ Err Wrong → NumberHere t sg unit o (Refused (wrongly o t.kind t.bytes) t.start)
  number-wrong q a = λ i ss slash cr ir l. rw (eq-eqb t.kind 7 q, shapeless sg unit t.bytes a, eq-eqb t.kind 7 q)

  pub number_fine : t.kind ≡ 7 → number_of sg unit t.bytes ≡ Err Fine → NumberHere t sg unit o (Refused 6 t.start)
  number_fine q f = λ i ss slash cr ir l. rw (eq-eqb t.kind 7 q, shaped sg unit t.bytes (unlike f fine_not), f)

  pub number_beyond : t.kind ≡ 7 → number_of sg unit t.bytes ≡ Err Beyond → NumberHere t sg unit o (Refused 7 t.start)
  number_beyond q f = λ i ss slash cr ir l. rw (eq-eqb t.kind 7 q, shaped sg unit t.bytes (unlike f beyond_not), f)

  pub number-long : (z : ℤ) → t.kind ≡ 7 → number_of sg unit t.bytes ≡ Ok z → t.long ≡ true → NumberHere t sg unit o (Refused 8 t.start)
  number-long z q f g = λ i ss slash cr ir l. rw (eq-eqb t.kind 7 q, shaped sg unit t.bytes (unlike f (time_not z)), f, g)

  pub number_time : (z : ℤ) → t.kind ≡ 7 → number_of sg unit t.bytes ≡ Ok z → t.long ≡ false → NumberHere t sg unit o (Ok z)
  number_time z q f g = λ i ss slash cr ir l. rw (q, shaped sg unit t.bytes (unlike f (time_not z)), f, g)

module _ (s : List ℕ) (p k b e : ℕ) (long : Bool) (h : p ≤ length s) (tok : token_at s p ≡ Got k b e long) where
  by_three : k ≡ 3 → token_at s p ≡ Got 3 b e long
  by_three q = rw q at tok

  by-four : k ≡ 4 → token_at s p ≡ Got 4 b e long
  by-four q = rw q at tok

  pub mark_got : (m : ℕ) → k ≡ m → Marked s p m (Ok e)
  mark_got m q =
      let g = ahead s p k b e long h tok in
      (placed s m b e long, λ n ss slash unit cr ir l. goes s _ p m b e long (fine _) h (rw q at tok) (rw (eq-eqb m m refl)), g.0, g.1)

  pub mark-not : (m : ℕ) → (k ≡ m → ⊥) → Marked s p m (Refused 4 b)
  mark-not m n = λ x ss slash unit cr ir l. goes s _ p k b e long (bad 4 b) h tok (rw (ne_eqb k m n))

  -- a number where one is expected, and then what follows
  numbered : (sg : Bool) (unit : ℕ) (o : Bool) (z : Result ℤ Refusal) (st : At) (i : ℕ) (ss : Stack) (slash : Bool) (cr ir : ℕ) (l : Log) → NumberHere (placed s k b e long) sg unit o z →
      stepped st (placed s k b e long) ≡ stepped (state (lit (G.number sg ‼ time sg i) ∷ ss) o slash unit cr ir l) (placed s k b e long) →
      reading s st p ≡ took_number z i ss slash unit cr ir l then (λ y. reading s y e)
  numbered sg unit o z st i ss slash cr ir l n q = goes s st p k b e long _ h tok (q ∙ n i ss slash cr ir l)

  module _ (sg : Bool) (unit : ℕ) where
    third_number : (f : Bool) (ss : Stack) (o slash : Bool) (cr ir : ℕ) (l : Log) → (k ≡ 3 → ⊥) →
        stepped (state (non (third f sg) ∷ ss) o slash unit cr ir l) (placed s k b e long) ≡
        stepped (state (lit (G.number sg ‼ time sg 2) ∷ lit (this 3 ! whole) ∷ ss) o slash unit cr ir l) (placed s k b e long)
    unfolding alts
    third_number true ss o slash cr ir l n = heads (third true sg) (G.number sg ‼ (time sg 2) ⇒ lit (closes whole) ∷ []) ss o slash unit cr ir l (placed s k b e long) (rw (ne_eqb k 3 n))
    third_number false ss o slash cr ir l n = heads (third false sg) (G.number sg ‼ (time sg 2) ⇒ lit (closes whole) ∷ []) ss o slash unit cr ir l (placed s k b e long) refl

    pub third_shut : (f : Bool) (x y : Option ℤ) → k ≡ 3 → f ≡ true → Reads s p (non (third f sg)) false (record { min = x; typ = y; max = None }) unit (ValueTo (record { min = x; typ = y; max = None }) e)
    unfolding alts
    third_shut f x y q g = (λ ss slash cr ir l. rw g (goes s _ p 3 b e long (fine _) h (by_three q) refl), ahead s p k b e long h tok)

    pub third_lacks : (f : Bool) (v : Value) → k ≡ 3 → f ≡ false → Reads s p (non (third f sg)) false v unit (Refused 4 b)
    unfolding alts
    third_lacks f v q g = (λ ss slash cr ir l. rw g (goes s _ p 3 b e long (bad 4 b) h (by_three q) refl), tt)

    pub third_wrong : (f : Bool) (v : Value) (m q : ℕ) → (k ≡ 3 → ⊥) → NumberHere (placed s k b e long) sg unit false (Refused m q) → Reads s p (non (third f sg)) false v unit (Refused m q)
    third_wrong f v m q n z = (λ ss slash cr ir l. numbered sg unit false (Refused m q) _ 2 _ slash cr ir _ z (third_number f ss false slash cr ir _ n), tt)

    pub third_open : (f : Bool) (x y : Option ℤ) (z : ℤ) (m q : ℕ) → (k ≡ 3 → ⊥) → NumberHere (placed s k b e long) sg unit false (Ok z) → Marked s e 3 (Refused m q) →
        Reads s p (non (third f sg)) false (record { min = x; typ = y; max = None }) unit (Refused m q)
    third_open f x y z m q n a w =
        (λ ss slash cr ir l. numbered sg unit false (Ok z) _ 2 _ slash cr ir _ a (third_number f ss false slash cr ir _ n) ∙ w whole ss slash unit cr ir _, tt)

    pub third_done : (f : Bool) (x y : Option ℤ) (z : ℤ) (q : ℕ) → (k ≡ 3 → ⊥) → NumberHere (placed s k b e long) sg unit false (Ok z) → Marked s e 3 (Ok q) →
        Reads s p (non (third f sg)) false (record { min = x; typ = y; max = None }) unit (ValueTo (record { min = x; typ = y; max = Some z }) q)
    third_done f x y z q n a w =
        let g = ahead s p k b e long h tok in
        (λ ss slash cr ir l. numbered sg unit false (Ok z) _ 2 _ slash cr ir _ a (third_number f ss false slash cr ir _ n) ∙ w.1 whole ss slash unit cr ir _, (omega (arith, w.2), w.3))

    second_number : (f : Bool) (ss : Stack) (o slash : Bool) (cr ir : ℕ) (l : Log) → (k ≡ 4 → ⊥) →
        stepped (state (non (second f sg) ∷ ss) o slash unit cr ir l) (placed s k b e long) ≡
        stepped (state (lit (G.number sg ‼ time sg 1) ∷ lit (colon skip) ∷ non (third true sg) ∷ ss) o slash unit cr ir l) (placed s k b e long)
    unfolding alts
    second_number f ss o slash cr ir l n = heads (second f sg) (G.number sg ‼ (time sg 1) ⇒ lit (colon skip) ∷ non (third true sg) ∷ []) ss o slash unit cr ir l (placed s k b e long) (rw (ne_eqb k 4 n))

    pub second_colon : (f : Bool) (x : Option ℤ) (r : Result ReadValue Refusal) → k ≡ 4 → Reads s e (non (third f sg)) false (record { min = x; typ = None; max = None }) unit r →
        Reads s p (non (second f sg)) false (record { min = x; typ = None; max = None }) unit r
    unfolding alts
    second_colon f x r q w =
        (λ ss slash cr ir l. goes s _ p 4 b e long (fine _) h (by-four q) refl ∙ w.0 ss slash cr ir l, further s p k b e long h tok r w.1)

    pub second_wrong : (f : Bool) (v : Value) (m q : ℕ) → (k ≡ 4 → ⊥) → NumberHere (placed s k b e long) sg unit false (Refused m q) → Reads s p (non (second f sg)) false v unit (Refused m q)
    second_wrong f v m q n z = (λ ss slash cr ir l. numbered sg unit false (Refused m q) _ 1 _ slash cr ir _ z (second_number f ss false slash cr ir _ n), tt)

    pub second_open : (f : Bool) (x : Option ℤ) (z : ℤ) (m q : ℕ) → (k ≡ 4 → ⊥) → NumberHere (placed s k b e long) sg unit false (Ok z) → Marked s e 4 (Refused m q) →
        Reads s p (non (second f sg)) false (record { min = x; typ = None; max = None }) unit (Refused m q)
    second_open f x z m q n a w =
        (λ ss slash cr ir l. numbered sg unit false (Ok z) _ 1 _ slash cr ir _ a (second_number f ss false slash cr ir _ n) ∙ w skip _ slash unit cr ir _, tt)

    pub second_done : (f : Bool) (x : Option ℤ) (z : ℤ) (q : ℕ) (r : Result ReadValue Refusal) → (k ≡ 4 → ⊥) → NumberHere (placed s k b e long) sg unit false (Ok z) → Marked s e 4 (Ok q) →
        Reads s q (non (third true sg)) false (record { min = x; typ = Some z; max = None }) unit r →
        Reads s p (non (second f sg)) false (record { min = x; typ = None; max = None }) unit r
    second_done f x z q r n a w u =
        let g = ahead s p k b e long h tok in (
          λ ss slash cr ir l. numbered sg unit false (Ok z) _ 1 _ slash cr ir _ a (second_number f ss false slash cr ir _ n) ∙ w.1 skip _ slash unit cr ir _ ∙ u.0 ss slash cr ir l,
          later p q (length s) r (omega (arith, w.2)) u.1,
        )

    pub first-shut : (x : Option ℤ) → k ≡ 3 → Reads s p (non (first sg)) false (record { min = x; typ = None; max = None }) unit (ValueTo (record { min = x; typ = x; max = x }) e)
    unfolding alts
    first-shut x q = (λ ss slash cr ir l. goes s _ p 3 b e long (fine _) h (by_three q) refl, ahead s p k b e long h tok)

    pub first-colon : (x : Option ℤ) (r : Result ReadValue Refusal) → k ≡ 4 → Reads s e (non (second true sg)) false (record { min = x; typ = None; max = None }) unit r →
        Reads s p (non (first sg)) false (record { min = x; typ = None; max = None }) unit r
    unfolding alts
    first-colon x r q w =
        (λ ss slash cr ir l. goes s _ p 4 b e long (fine _) h (by-four q) refl ∙ w.0 ss slash cr ir l, further s p k b e long h tok r w.1)

    pub first-wrong : (v : Value) → (k ≡ 3 → ⊥) → (k ≡ 4 → ⊥) → Reads s p (non (first sg)) false v unit (Refused 4 b)
    unfolding alts
    first-wrong v m n = (λ ss slash cr ir l. goes s _ p k b e long (bad 4 b) h tok (rw (ne_eqb k 3 m, ne_eqb k 4 n)), tt)

    value-number : (ss : Stack) (o slash : Bool) (cr ir : ℕ) (l : Log) → (k ≡ 3 → ⊥) → (k ≡ 4 → ⊥) →
        stepped (state (non (value sg) ∷ ss) o slash unit cr ir l) (placed s k b e long) ≡
        stepped (state (lit (G.number sg ‼ time sg 0) ∷ non (first sg) ∷ ss) o slash unit cr ir l) (placed s k b e long)
    unfolding alts
    value-number ss o slash cr ir l m n = heads (value sg) (G.number sg ‼ (time sg 0) ⇒ non (first sg) ∷ []) ss o slash unit cr ir l (placed s k b e long) (rw (ne_eqb k 3 m, ne_eqb k 4 n))

    pub value-shut : k ≡ 3 → ReadsValue s p sg unit (ValueTo nothing e)
    unfolding alts
    value-shut q = λ v. (λ ss slash cr ir l. goes s _ p 3 b e long (fine _) h (by_three q) refl, ahead s p k b e long h tok)

    pub value-colon : (r : Result ReadValue Refusal) → k ≡ 4 → Reads s e (non (second false sg)) false nothing unit r → ReadsValue s p sg unit r
    unfolding alts
    value-colon r q w = λ v. (λ ss slash cr ir l. goes s _ p 4 b e long (fine _) h (by-four q) refl ∙ w.0 ss slash cr ir l, further s p k b e long h tok r w.1)

    pub value-wrong : (m q : ℕ) → (k ≡ 3 → ⊥) → (k ≡ 4 → ⊥) → NumberHere (placed s k b e long) sg unit true (Refused m q) → ReadsValue s p sg unit (Refused m q)
    value-wrong m q x y z = λ v. (λ ss slash cr ir l. numbered sg unit true (Refused m q) _ 0 _ slash cr ir _ z (value-number ss true slash cr ir _ x y), tt)

    pub value-done : (z : ℤ) (r : Result ReadValue Refusal) → (k ≡ 3 → ⊥) → (k ≡ 4 → ⊥) → NumberHere (placed s k b e long) sg unit true (Ok z) →
        Reads s e (non (first sg)) false (record { min = Some z; typ = None; max = None }) unit r → ReadsValue s p sg unit r
    value-done z r x y a w =
        λ v. (λ ss slash cr ir l. numbered sg unit true (Ok z) _ 0 _ slash cr ir _ a (value-number ss true slash cr ir _ x y) ∙ w.0 ss slash cr ir l, further s p k b e long h tok r w.1)

-- a value with its opening bracket
pub opens_not : (s : List ℕ) (p : ℕ) (sg : Bool) (unit n q : ℕ) → Marked s p 2 (Refused n q) → OpensValue s p sg unit (Refused n q)
opens_not s p sg unit n q w = (λ ss slash cr ir l. w skip _ slash unit cr ir l, tt)

pub opens_then : (s : List ℕ) (p e : ℕ) (sg : Bool) (unit : ℕ) (r : Result ReadValue Refusal) → Marked s p 2 (Ok e) → ReadsValue s e sg unit r → OpensValue s p sg unit r
opens_then s p e sg unit r w u = (λ ss slash cr ir l. w.1 skip _ slash unit cr ir l ∙ (u l.value).0 ss slash cr ir l, later p e (length s) r w.2 (u nothing).1)

-- the values of an entry
pub values_start : (s : List ℕ) (p unit : ℕ) (v : Value) (e : ℕ) → ReadsValue s p true unit (ValueTo v e) → Listed s p unit e (v ∷ []) 1
values_start s p unit v e u = λ ss slash cr ir l. (u l.value).0 (non (values 1) ∷ ss) slash cr ir l

pub values_none : (s : List ℕ) (p unit n q : ℕ) (vs : List Value) → ReadsValue s p true unit (Refused n q) → ReadsValues s p unit (Refused n q) vs
values_none s p unit n q vs u = λ ss slash cr ir l. (u l.value).0 (non (values 1) ∷ ss) slash cr ir l

pub values_stop : (s : List ℕ) (p0 p unit : ℕ) (vs ws : List Value) (i n q : ℕ) → Listed s p0 unit p vs i → p ≤ length s → token_at s p ≡ Refused n q → ReadsValues s p0 unit (Refused n q) ws
values_stop s p0 p unit vs ws i n q w h t = λ ss slash cr ir l. w ss slash cr ir l ∙ halts s _ ss _ p n q h t

module _ (s : List ℕ) (p k b e : ℕ) (long : Bool) (h : p ≤ length s) (tok : token_at s p ≡ Got k b e long) (p0 unit : ℕ) (vs : List Value) (n : ℕ) (w : Listed s p0 unit p vs n) where
  pub values_shut : p0 ≤ p → k ≡ 3 → ReadsValues s p0 unit (Ok e) vs
  unfolding alts
  values_shut a q =
      let g = ahead s p k b e long h tok in
      (λ ss slash cr ir l. w ss slash cr ir l ∙ goes s _ p 3 b e long (fine _) h (rw q at tok) refl, omega arith, g.1)

  pub values_wrong : (ws : List Value) → (k ≡ 3 → ⊥) → (k ≡ 2 → ⊥) → ReadsValues s p0 unit (Refused 4 b) ws
  unfolding alts
  values_wrong ws x y = λ ss slash cr ir l. w ss slash cr ir l ∙ goes s _ p k b e long (bad 4 b) h tok (no (ltb n 6) refl ss slash cr ir (listed vs l))
    where
      no : (f : Bool) → ltb n 6 ≡ f → (ss : Stack) (slash : Bool) (cr ir : ℕ) (l : Log) → stepped (state (non (values n) ∷ ss) false slash unit cr ir l) (placed s k b e long) ≡ bad 4 b
      no true f ss slash cr ir l = rw (f, ne_eqb k 3 x, ne_eqb k 2 y)
      no false f ss slash cr ir l = rw (f, ne_eqb k 3 x)

  pub values_many : (ws : List Value) → k ≡ 2 → 6 ≤ n → ReadsValues s p0 unit (Refused 4 b) ws
  unfolding alts
  values_many ws q f = λ ss slash cr ir l. w ss slash cr ir l ∙ goes s _ p 2 b e long (bad 4 b) h (rw q at tok) (rw (le-ltb n 6 f))

  onto-value : k ≡ 2 → n < 6 → (ss : Stack) (slash : Bool) (cr ir : ℕ) (l : Log) →
      reading s (state (non (value true) ∷ non (values 1) ∷ ss) true slash unit cr ir l) p0 ≡ reading s (state (non (value true) ∷ non (values (n + 1)) ∷ ss) true slash unit cr ir (listed vs l)) e
  unfolding alts
  onto-value q f ss slash cr ir l = w ss slash cr ir l ∙ goes s _ p 2 b e long (fine _) h (rw q at tok) (rw (lt-ltb n 6 f))

  pub values_more : (v : Value) (x : ℕ) → k ≡ 2 → n < 6 → ReadsValue s e true unit (ValueTo v x) → Listed s p0 unit x (vs ++ v ∷ []) (n + 1)
  values_more v x q f u = λ ss slash cr ir l. onto-value q f ss slash cr ir l ∙ (u nothing).0 (non (values (n + 1)) ∷ ss) slash cr ir (listed vs l) ∙ rw append_assoc

  pub values_bad : (ws : List Value) (m x : ℕ) → k ≡ 2 → n < 6 → ReadsValue s e true unit (Refused m x) → ReadsValues s p0 unit (Refused m x) ws
  values_bad ws m x q f u = λ ss slash cr ir l. onto-value q f ss slash cr ir l ∙ (u nothing).0 (non (values (n + 1)) ∷ ss) slash cr ir (listed vs l)

pub open_values : (s : List ℕ) (p e unit : ℕ) (st : Result ℕ Refusal) (vs : List Value) → Marked s p 2 (Ok e) → ReadsValues s e unit st vs → OpensValues s p unit st vs
open_values s p e unit (Ok x) vs w u =
    (λ ss slash cr ir l. w.1 skip _ slash unit cr ir l ∙ u.0 ss slash cr ir l, omega (arith, w.2, u.1), u.2)
open_values s p e unit (Err why) vs w u = λ ss slash cr ir l. w.1 skip _ slash unit cr ir l ∙ u ss slash cr ir l

pub open_not : (s : List ℕ) (p unit n q : ℕ) (vs : List Value) → Marked s p 2 (Refused n q) → OpensValues s p unit (Refused n q) vs
open_not s p unit n q vs w = λ ss slash cr ir l. w skip _ slash unit cr ir l

-- ports and edges
module _ (t : Placed) (slash : Bool) where
  port-kind : (t.kind ≡ 7 → ⊥) → PortHere t slash (Refused 4 t.start)
  port-kind n = λ m ss unit cr ir l. rw (ne_eqb t.kind 7 n)

  port_shape : t.kind ≡ 7 → is_port slash t.bytes ≡ false → PortHere t slash (Refused 4 t.start)
  port_shape q a = λ m ss unit cr ir l. rw (eq-eqb t.kind 7 q, a)

  port-long : t.kind ≡ 7 → is_port slash t.bytes ≡ true → t.long ≡ true → PortHere t slash (Refused 8 t.start)
  port-long q a g = λ m ss unit cr ir l. rw (eq-eqb t.kind 7 q, a, g)

  port_fine : t.kind ≡ 7 → is_port slash t.bytes ≡ true → t.long ≡ false → PortHere t slash (Ok tt)
  port_fine q a g = let z : eqb t.kind 2 ≡ false = rw q refl in λ m ss unit cr ir l. rw (eq-eqb t.kind 7 q, a, g, z)

-- a port's name by where its reader stands
module _ (s : List ℕ) (slash : Bool) (k b e : ℕ) (long : Bool) where
  pub port-judged : (q : ℕ) → q ≡ pick (eqb k 7) (name_run slash 0 (part b e s)) 9 →
      PortHere (placed s k b e long) slash (name_fault true (record { token = record { kind = k; start = b; end = e; long = long }; state = q }))
  unfolding is_port
  port-judged =
      let t = placed s k b e long in
      judged (PortHere t slash) true slash s k b e long (port-kind t slash) (port_shape t slash) (port-long t slash) (port_fine t slash)

edge_most : (w : List ℕ) → leb (edge_of w) 8 ≡ true
unfolding edge_of
edge_most w = le-leb (edge_of w) 8 (find_most edges w 8 refl)

module _ (t : Placed) where
  pub edge_kind : (w : ℕ) → w ≡ wrongly true t.kind t.bytes → (t.kind ≡ 7 → ⊥) → EdgeIs t (Refused w t.start)
  edge_kind w v n = λ i ss slash unit cr ir l. rw (v, ne_eqb t.kind 7 n, ne_eqb t.kind 7 n)

  pub edge_shape : (w : ℕ) → w ≡ wrongly true t.kind t.bytes → t.kind ≡ 7 → edge_of t.bytes < 1 → EdgeIs t (Refused w t.start)
  edge_shape w v q a = λ i ss slash unit cr ir l. rw (v, eq-eqb t.kind 7 q, lt-leb 1 (edge_of t.bytes) a, eq-eqb t.kind 7 q)

  pub edge_long : t.kind ≡ 7 → 1 ≤ edge_of t.bytes → t.long ≡ true → EdgeIs t (Refused 8 t.start)
  edge_long q a g = λ i ss slash unit cr ir l. rw (eq-eqb t.kind 7 q, le-leb 1 (edge_of t.bytes) a, edge_most t.bytes, g)

  pub edge_fine : (g : ℕ) → t.kind ≡ 7 → g ≡ edge_of t.bytes → 1 ≤ edge_of t.bytes → t.long ≡ false → EdgeIs t (Ok g)
  edge_fine g q v a f = λ i ss slash unit cr ir l. rw (q, v, le-leb 1 (edge_of t.bytes) a, edge_most t.bytes, f)

pub port-stops : (s : List ℕ) (p n q : ℕ) (slash : Bool) → p ≤ length s → token_at s p ≡ Refused n q → ReadsPort s p slash (Refused n q)
port-stops s p n q slash h t = λ m ss unit cr ir l. halts s _ ss _ p n q h t

pub end_stops : (s : List ℕ) (p n q : ℕ) (i slash : Bool) → p ≤ length s → token_at s p ≡ Refused n q → ReadsEnd s p i slash (Refused n q)
end_stops s p n q i slash h t = λ ss unit cr ir l. halts s _ ss _ p n q h t

pub edged-stops : (s : List ℕ) (p n q : ℕ) (i slash : Bool) → p ≤ length s → token_at s p ≡ Refused n q → ReadsEdged s p i slash (Refused n q)
edged-stops s p n q i slash h t = λ ss unit cr ir l. halts s _ (lit (port slash ! (end i)) ∷ ⟩ ∷ ss) _ p n q h t

module _ (s : List ℕ) (p k b e : ℕ) (long : Bool) (h : p ≤ length s) (tok : token_at s p ≡ Got k b e long) (slash : Bool) where
  pub port_got : PortHere (placed s k b e long) slash (Ok tt) → ReadsPort s p slash (Name b e)
  port_got z =
      let g = ahead s p k b e long h tok in
      (placed s k b e long, λ n ss unit cr ir l. goes s _ p k b e long _ h tok (z n ss unit cr ir l), refl, refl, g.0, g.1)

  pub port-not : (m q : ℕ) → PortHere (placed s k b e long) slash (Refused m q) → ReadsPort s p slash (Refused m q)
  port-not m q z = λ n ss unit cr ir l. goes s _ p k b e long (bad m q) h tok (z n ss unit cr ir l)

  module _ (i : Bool) where
    edged-port : (ss : Stack) (unit cr ir : ℕ) (l : Log) → (k ≡ 2 → ⊥) →
        stepped (state (non (end? i slash) ∷ ss) false slash unit cr ir l) (placed s k b e long) ≡ stepped (state (lit (port slash ! (plain i)) ∷ ss) false slash unit cr ir l) (placed s k b e long)
    unfolding alts
    edged-port ss unit cr ir l n = heads (end? i slash) (port slash ! (plain i) ⇒ []) ss false slash unit cr ir l (placed s k b e long) (rw (ne_eqb k 2 n))

    pub end_plain : (k ≡ 2 → ⊥) → PortHere (placed s k b e long) slash (Ok tt) → ReadsEnd s p i slash (EndTo 0 b e e)
    end_plain n z =
        let g = ahead s p k b e long h tok in
        (λ ss unit cr ir l. goes s _ p k b e long _ h tok (edged-port ss unit cr ir l n ∙ z (plain i) ss unit cr ir l), g.0, g.1)

    pub end_not : (m q : ℕ) → (k ≡ 2 → ⊥) → PortHere (placed s k b e long) slash (Refused m q) → ReadsEnd s p i slash (Refused m q)
    end_not m q n z = λ ss unit cr ir l. goes s _ p k b e long (bad m q) h tok (edged-port ss unit cr ir l n ∙ z (plain i) ss unit cr ir l)

    pub end_edged : (r : Result End Refusal) → k ≡ 2 → ReadsEdged s e i slash r → ReadsEnd s p i slash r
    unfolding alts
    end_edged (Ok stop) f w =
        let d = ahead s p k b e long h tok in
        (λ ss unit cr ir l. goes s _ p 2 b e long (fine _) h (rw f at tok) refl ∙ w.0 ss unit cr ir l, omega (arith, w.1), w.2)
    end_edged (Err why) f w = λ ss unit cr ir l. goes s _ p 2 b e long (fine _) h (rw f at tok) refl ∙ w ss unit cr ir l

    pub edged-not : (m q : ℕ) → EdgeIs (placed s k b e long) (Refused m q) → ReadsEdged s p i slash (Refused m q)
    edged-not m q z = λ ss unit cr ir l. goes s _ p k b e long (bad m q) h tok (z i _ slash unit cr ir l)

    edged_on : (g : ℕ) → EdgeIs (placed s k b e long) (Ok g) → (ss : Stack) (unit cr ir : ℕ) (l : Log) →
        reading s (state (lit (an_edge ! (edged i)) ∷ lit (port slash ! (end i)) ∷ ⟩ ∷ ss) true slash unit cr ir l) p ≡
        reading s (state (lit (port slash ! (end i)) ∷ ⟩ ∷ ss) false slash unit cr ir (headed (edge_put i g l.head) l)) e
    edged_on g z ss unit cr ir l = goes s _ p k b e long _ h tok (z i _ slash unit cr ir l)

    pub edged-port-not : (g n q : ℕ) → EdgeIs (placed s k b e long) (Ok g) → ReadsPort s e slash (Refused n q) → ReadsEdged s p i slash (Refused n q)
    edged-port-not g n q z w = λ ss unit cr ir l. edged_on g z ss unit cr ir l ∙ w (end i) _ unit cr ir _

    pub edged_open : (g x y n q : ℕ) → EdgeIs (placed s k b e long) (Ok g) → ReadsPort s e slash (Name x y) → Marked s y 3 (Refused n q) → ReadsEdged s p i slash (Refused n q)
    edged_open g x y n q z w m = λ ss unit cr ir l. edged_on g z ss unit cr ir l ∙ w.1 (end i) _ unit cr ir _ ∙ m skip _ slash unit cr ir _

    pub edged-done : (g x y q : ℕ) → EdgeIs (placed s k b e long) (Ok g) → ReadsPort s e slash (Name x y) → Marked s y 3 (Ok q) → ReadsEdged s p i slash (EndTo g x y q)
    edged-done g x y q z w m =
        let d = ahead s p k b e long h tok in (
          λ ss unit cr ir l.
              edged_on g z ss unit cr ir l ∙ w.1 (end i) _ unit cr ir _ ∙ m.1 skip _ slash unit cr ir _
              ∙ rw (w.2, w.3, end_put_lem i g x y l.head),
          omega (arith, w.4, m.2),
          m.3,
        )
