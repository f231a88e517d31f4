-- The rules by which the header's reader is proved: one for each way through a reader, over the tokens it met. They say nothing of code.
-- Assumes nothing.
use Rattle.std.specs.Prelude.{◌≡◌, Bool, ℕ, ◌+◌, ◌-◌, ◌≤◌, ◌<◌, eqb, leb, length, Result, Ok, Err}
use Rattle.std.proofs.Math.Path.{refl, ap}
use Rattle.std.proofs.Common.{◌∙◌, sym, arith}
use Rattle.std.proofs.Math.Bool.{true, false}
use mathlib.Core.List.{List, [], ◌∷◌, ◌++◌}
use Rattle.std.proofs.Math.Option.{none, some}
use borrow.Author.Tests.{eq-eqb, ne_eqb, le-leb, lt-leb, leb-true, eqb-true, eqb-false}
use Rattle.classes.specs.Choice.{pick, or, within}
use Rattle.tokenforms.specs.Tokens.{Got, Refused}
use Rattle.tokenforms.specs.Tokens.{token_at}
use Rattle.tokens.specs.Stream.{Placed, placed, part, onwards}
use Rattle.words.specs.Words.{find, key_of, scale_of, divider_of, unit_of}
use Rattle.words.specs.Words as w
use Rattle.words.specs.Laws.{stands, held}
use Rattle.words.specs.Scales.{find_most}
use Rattle.numbershape.specs.Shape.{is_number}
use Rattle.grammar.specs.Answers.{Name, HandAt}
use Rattle.tokenforms.specs.declared.Refusal.{Refusal}
use Rattle.grammar.specs.Ll.{lit, non, Alt, choose}
use Rattle.grammar.specs.Machine.{fine, bad}
use Rattle.grammar.specs.declared.Hand.{Hand}
use Rattle.headsteps.specs.declared.Divided.{Divided}
use Rattle.headsteps.specs.declared.scales.Scale.{Scale}
use Rattle.headsteps.specs.declared.scales.Scaled.{Scaled}
use Rattle.grammar.specs.Grammar.{Term, N, this, word, keys, dividers, scales, units, number, heading, skip, ◌!◌, ◌⇒◌, keyword, colon, unity, ◌‼◌, ⟨, ⟩}
use Rattle.grammar.specs.Grammar.{header, divider, timescale, bare, bare1, bare2, bare3, alts, fits, file, next}
use Rattle.grammar.specs.Meaning.{Log, wrongly, tidy}
use Rattle.grammar.specs.Reading.{reading, stepped, goes, halts}
use Rattle.grammar.specs.Outcome.{Stack, state}
use Rattle.rules.specs.Promises.{Marked, holds, InHand, HeaderRead}
use Rattle.rules.specs.Rules.{ahead}
use Rattle.rules.specs.Rules as rules
use Rattle.headsteps.specs.Short.{short}
use Rattle.headtexts.specs.Texts.{put}
use Rattle.headsteps.specs.Steps.{Takes, KeyRead, TextRead, HeadingRead, NumberShape, Skips, UnitRead, ScaleRead, before, place, Stands}
use Rattle.headsteps.specs.Steps.{IsText, IsBare, Passes, PassesBare, DividerRead, PassesDivider, PassesScale, FileOpened}

-- ---- the token in hand

pub take-stops : (s : List ℕ) (p n q : ℕ) → p ≤ length s → token_at s p ≡ Refused n q → Takes s p [] true (Refused n q)
take-stops s p n q h t = (λ y ss slash unit cr ir l. halts s y ss _ p n q h t, tt)

module _ (s : List ℕ) (p k b e : ℕ) (long : Bool) (h : p ≤ length s) (tok : token_at s p ≡ Got k b e long) where
  pub take_word : (v : ℕ) → k ≡ 7 → v ≡ key_of (part b e s) → Takes s p [] true (HandAt p k b e long v)
  take_word v q f = (λ y ss slash unit cr ir l. refl, (h, tok, rw (eq-eqb k 7 q) f))

  pub take_other : (k ≡ 7 → ⊥) → Takes s p [] true (HandAt p k b e long 0)
  take_other n = (λ y ss slash unit cr ir l. refl, (h, tok, rw (ne_eqb k 7 n)))

-- behind a mark
module _ (s : List ℕ) (p m : ℕ) (ys : Stack) where
  pub mark-not : (n q : ℕ) → Marked s p m (Refused n q) → Takes s p (lit (this m ! skip) ∷ ys) false (Refused n q)
  mark-not n q w = (λ y ss slash unit cr ir l. w skip _ slash unit cr ir l, tt)

  pub mark_then : (e : ℕ) (r : Result Hand Refusal) → Marked s p m (Ok e) → Takes s e ys (eqb m 2) r → Takes s p (lit (this m ! skip) ∷ ys) false r
  mark_then e r w u = (λ y ss slash unit cr ir l. w.1 skip _ slash unit cr ir l ∙ u.0 y ss slash unit cr ir l, u.1)

-- a number is not another
other : (n x : ℕ) → (x ≡ n → ⊥) → within n n x ≡ false
other n x f = by (leb n x) refl
  where
    by : (t : Bool) → leb n x ≡ t → within n n x ≡ false
    by true q = let g = leb-true n x q in rw (q, lt-leb x n (omega (arith, f)))
    by false q = rw q

-- the token in hand is the keyword n, or is not
module _ (s : List ℕ) (h : Hand) (i : InHand s (Ok h)) (n : ℕ) where
  abbrev seen : Placed
  seen = placed s h.token.kind h.token.start h.token.end h.token.long

  abbrev spelt : List ℕ
  spelt = part h.token.start h.token.end s

  tok : token_at s h.from ≡ Got h.token.kind h.token.start h.token.end h.token.long
  tok = i.1

  no_key : (h.key ≡ n → ⊥) → fits (keyword n) seen ≡ false
  no_key x = by (eqb h.token.kind 7) refl
    where
      by : (t : Bool) → eqb h.token.kind 7 ≡ t → pick t (within n n (key_of spelt)) false ≡ false
      by true q = let f : h.key ≡ key_of spelt = rw q at i.2 in other n (key_of spelt) (λ z. x (f ∙ z))
      by false q = refl

  is_key : 1 ≤ n → h.key ≡ n → (h.token.kind ≡ 7) × (key_of spelt ≡ n) × (h.token.long ≡ false)
  is_key g x = by (eqb h.token.kind 7) refl
    where
      by : (t : Bool) → eqb h.token.kind 7 ≡ t → (h.token.kind ≡ 7) × (key_of spelt ≡ n) × (h.token.long ≡ false)
      by true q =
          let f : h.key ≡ key_of spelt = rw q at i.2 in
          let z : key_of spelt ≡ n = sym f ∙ x in
          (eqb-true h.token.kind 7 q, z, short s h.from h.token.kind h.token.start h.token.end h.token.long keys i.0 i.1 (eqb-true h.token.kind 7 q) (omega arith))
      by false q = let f : h.key ≡ 0 = rw q at i.2 in absurd (omega arith)

  a_key : 1 ≤ n → h.key ≡ n → fits (keyword n) seen ≡ true
  a_key g x = let (q, f, l) = is_key g x in rw (eq-eqb h.token.kind 7 q, f, le-leb n n (omega arith))

  pub key_read : 1 ≤ n → h.key ≡ n → KeyRead s (Ok h) n (Ok h.token.end)
  key_read g x =
      let (q, f, z) = is_key g x in (
        λ ss slash unit cr ir l. goes s _ h.from 7 h.token.start h.token.end false (fine _) i.0 (rw (q, z) at tok) (rw (f, le-leb n n (omega arith))),
        (ahead s h.from h.token.kind h.token.start h.token.end h.token.long i.0 i.1).1,
      )

  pub key-wrong : (w : ℕ) → (h.key ≡ n → ⊥) → w ≡ wrongly true h.token.kind spelt → KeyRead s (Ok h) n (Refused w h.token.start)
  key-wrong w x f = (λ ss slash unit cr ir l. goes s _ h.from h.token.kind h.token.start h.token.end h.token.long (bad w h.token.start) i.0 i.1 (rw (no_key x, f)), tt)

  -- an entry that is not there is passed over; one that is there is read from behind its keyword
  module _ (rest : Bool → Stack) (a : Stands n rest) where
    over : (d : Bool) → (h.key ≡ n → ⊥) →
        choose fits (alts (header (place n) d)) seen ≡ choose fits (alts (header (place n + 1) d)) seen
    unfolding alts
    over d x = ap (λ (l : List (Alt Term N)). choose fits l seen) (a d) ∙ rw (no_key x)

    pub not_there : (h.key ≡ n → ⊥) → (d : Bool) (unit cr ir : ℕ) (ts : List ℕ) →
        reading s (before (place n) d unit cr ir ts) h.from ≡ reading s (before (place n + 1) d unit cr ir ts) h.from
    not_there x d unit cr ir ts =
        goes s _ h.from h.token.kind h.token.start h.token.end h.token.long (stepped (before (place n + 1) d unit cr ir ts) seen) i.0 i.1 (rw (over d x))
        ∙ sym (goes s _ h.from h.token.kind h.token.start h.token.end h.token.long _ i.0 i.1 refl)

    chosen : (d : Bool) → 1 ≤ n → h.key ≡ n →
        choose fits (alts (header (place n) d)) seen ≡ pick (fits (keyword n) seen) (some (keyword n ⇒ rest d)) none
    unfolding alts
    chosen d g x = ap (λ (l : List (Alt Term N)). choose fits l seen) (a d) ∙ rw (a_key g x)

    pub there : 1 ≤ n → h.key ≡ n → (d : Bool) (unit cr ir : ℕ) (ts : List ℕ) →
        reading s (before (place n) d unit cr ir ts) h.from ≡ reading s (state (rest d ++ []) false d unit cr ir (tidy ts [] [])) h.token.end
    there g x d unit cr ir ts =
        goes s _ h.from h.token.kind h.token.start h.token.end h.token.long _ i.0 i.1
        (rules.heads (header (place n) d) (keyword n ⇒ rest d) [] true d unit cr ir (tidy ts [] []) seen (chosen d g x))
        ∙ sym (goes s _ h.from h.token.kind h.token.start h.token.end h.token.long _ i.0 i.1 refl) ∙ (key_read g x).0 (rest d ++ []) d unit cr ir (tidy ts [] [])

pub key_refused : (s : List ℕ) (n m q : ℕ) → KeyRead s (Refused m q) n (Refused m q)
key_refused s n m q = (λ ss slash unit cr ir l. refl, tt)

-- ---- entries with a text

pub text-stops : (s : List ℕ) (p n q : ℕ) → p ≤ length s → token_at s p ≡ Refused n q → TextRead s p (Refused n q)
text-stops s p n q h t = (λ slash m ss unit cr ir l. halts s _ ss _ p n q h t, tt)

module _ (s : List ℕ) (p k b e : ℕ) (long : Bool) (h : p ≤ length s) (tok : token_at s p ≡ Got k b e long) where
  pub text-kind : (k ≡ 6 → ⊥) → TextRead s p (Refused 4 b)
  text-kind n = (λ slash m ss unit cr ir l. goes s _ p k b e long (bad 4 b) h tok (rw (ne_eqb k 6 n)), tt)

  pub text-long : k ≡ 6 → long ≡ true → TextRead s p (Refused 8 b)
  text-long q f = (λ slash m ss unit cr ir l. goes s _ p 6 b e true (bad 8 b) h (rw (q, f) at tok) refl, tt)

  pub text_fine : k ≡ 6 → long ≡ false → TextRead s p (Name b e)
  text_fine q f =
      let g = ahead s p k b e long h tok in (
        λ slash. (placed s 6 b e false, λ m ss unit cr ir l. goes s _ p 6 b e false (fine _) h (rw (q, f) at tok) refl, refl, refl, g.0, g.1),
        (onwards s p k b e long h tok).1,
      )

module _ (s : List ℕ) (p h : ℕ) (ts : List ℕ) where
  pub heading_not : (n q : ℕ) → TextRead s p (Refused n q) → HeadingRead s p h ts ts (Refused n q)
  heading_not n q w = (λ y ss slash unit cr ir. w.0 slash (heading h) _ unit cr ir _, tt)

  module _ (b e : ℕ) (w : TextRead s p (Name b e)) where
    pub heading_open : (n q : ℕ) → Takes s e (⟩ ∷ ⟨ ∷ []) false (Refused n q) → HeadingRead s p h ts ts (Refused n q)
    heading_open n q u = (λ y ss slash unit cr ir. (w.0 slash).1 (heading h) _ unit cr ir _ ∙ u.0 y ss slash unit cr ir _, tt)

    pub heading_done : (r : Result Hand Refusal) → Takes s e (⟩ ∷ ⟨ ∷ []) false r → HeadingRead s p h ts (put h (b + 1) (e - 1) ts) r
    heading_done r u = (
      λ y ss slash unit cr ir.
          let x = w.0 slash in
          x.1 (heading h) _ unit cr ir _ ∙ rw (x.2, x.3) (u.0 y ss slash unit cr ir _),
      u.1,
    )

pub refused_passes : (s : List ℕ) (n m q : ℕ) (ts : List ℕ) → Passes s n (Refused m q) ts (Refused m q) ts
refused_passes s n m q ts = (λ d unit cr ir. refl, tt)

module _ (s : List ℕ) (h : Hand) (i : InHand s (Ok h)) (n : ℕ) where
  pub passes_over : (rest : Bool → Stack) → Stands n rest → (h.key ≡ n → ⊥) → (ts : List ℕ) →
      Passes s n (Ok h) ts (Ok h) ts
  passes_over rest a x ts = (λ d unit cr ir. not_there s h i n rest a x d unit cr ir ts, i)

  pub passes-text : (m : ℕ) (ts ts' : List ℕ) (r : Result Hand Refusal) → IsText n m → 1 ≤ n → h.key ≡ n → HeadingRead s h.token.end m ts ts' r →
      Passes s n (Ok h) ts r ts'
  passes-text m ts ts' r a g x w = (λ d unit cr ir. there s h i n _ a g x d unit cr ir ts ∙ w.0 _ [] d unit cr ir, w.1)

  pub passes-bare-not : (m q : ℕ) → IsBare n → 1 ≤ n → h.key ≡ n → Skips s h.token.end bare (Refused m q) →
      PassesBare s n (Ok h) (Refused m q)
  passes-bare-not m q a g x w = λ ts. (λ d unit cr ir. there s h i n _ a g x d unit cr ir ts ∙ w.0 _ d unit cr ir _, tt)

  pub passes-bare : (y : ℕ) (r : Result Hand Refusal) → IsBare n → 1 ≤ n → h.key ≡ n → Skips s h.token.end bare (Ok y) → Takes s y (⟨ ∷ []) false r →
      PassesBare s n (Ok h) r
  passes-bare y r a g x w u =
      λ ts. (λ d unit cr ir. there s h i n _ a g x d unit cr ir ts ∙ w.0 _ d unit cr ir _ ∙ u.0 _ [] d unit cr ir _, u.1)

-- ---- VOLTAGE and TEMPERATURE: a bare number or triple

module _ (t : Placed) where
  pub shape_kind : (t.kind ≡ 7 → ⊥) → NumberShape t (Refused 4 t.start)
  shape_kind n = λ ss slash unit cr ir l. rw (ne_eqb t.kind 7 n)

  pub shape_not : t.kind ≡ 7 → is_number true t.bytes ≡ false → NumberShape t (Refused 4 t.start)
  shape_not q a = λ ss slash unit cr ir l. rw (eq-eqb t.kind 7 q, a)

  pub shape_long : t.kind ≡ 7 → is_number true t.bytes ≡ true → t.long ≡ true → NumberShape t (Refused 8 t.start)
  shape_long q a g = λ ss slash unit cr ir l. rw (eq-eqb t.kind 7 q, a, g)

  pub shape_fine : t.kind ≡ 7 → is_number true t.bytes ≡ true → t.long ≡ false → NumberShape t (Ok tt)
  shape_fine q a g = let z : eqb t.kind 2 ≡ false = rw q refl in λ ss slash unit cr ir l. rw (eq-eqb t.kind 7 q, a, g, z)

pub skip_stops : (s : List ℕ) (p n q : ℕ) (y : N) → p ≤ length s → token_at s p ≡ Refused n q → Skips s p y (Refused n q)
skip_stops s p n q y h t = (λ ss slash unit cr ir l. halts s _ ss _ p n q h t, tt)

-- the place's alternative that begins with a number is the only one that this token may take
abbrev Numeric : Placed → N → Stack → Type 0
Numeric t y rest = choose fits (alts y) t ≡ pick (fits (number true ! skip) t) (some (number true ! skip ⇒ rest)) none

module _ (s : List ℕ) (p k b e : ℕ) (long : Bool) (h : p ≤ length s) (tok : token_at s p ≡ Got k b e long) where
  module _ (y : N) (rest : Stack) (a : Numeric (placed s k b e long) y rest) where
    by_number : (ss : Stack) (slash : Bool) (unit cr ir : ℕ) (l : Log) →
        stepped (state (non y ∷ ss) false slash unit cr ir l) (placed s k b e long) ≡
        stepped (state (lit (number true ! skip) ∷ (rest ++ ss)) false slash unit cr ir l) (placed s k b e long)
    by_number ss slash unit cr ir l = rules.heads y (number true ! skip ⇒ rest) ss false slash unit cr ir l (placed s k b e long) a

    no_number : (m q : ℕ) → NumberShape (placed s k b e long) (Refused m q) → Skips s p y (Refused m q)
    no_number m q z =
        (λ ss slash unit cr ir l. goes s _ p k b e long (bad m q) h tok (by_number ss slash unit cr ir l ∙ z (rest ++ ss) slash unit cr ir l), tt)

    a_number : NumberShape (placed s k b e long) (Ok tt) → (ss : Stack) (slash : Bool) (unit cr ir : ℕ) (l : Log) →
        reading s (state (non y ∷ ss) false slash unit cr ir l) p ≡ reading s (state (rest ++ ss) false slash unit cr ir l) e
    a_number z ss slash unit cr ir l = goes s _ p k b e long (fine _) h tok (by_number ss slash unit cr ir l ∙ z (rest ++ ss) slash unit cr ir l)

  -- behind two colons
  numeric_3 : (f : Bool) → (k ≡ 3 → ⊥) → Numeric (placed s k b e long) (bare3 f) (⟩ ∷ [])
  unfolding alts
  numeric_3 true n = rw (ne_eqb k 3 n)
  numeric_3 false n = refl

  pub bare3_shut : (f : Bool) → k ≡ 3 → f ≡ true → Skips s p (bare3 f) (Ok e)
  unfolding alts
  bare3_shut f q g = (λ ss slash unit cr ir l. rw g (goes s _ p 3 b e long (fine _) h (rw q at tok) refl), (ahead s p k b e long h tok).1)

  pub bare3_lacks : (f : Bool) → k ≡ 3 → f ≡ false → Skips s p (bare3 f) (Refused 4 b)
  unfolding alts
  bare3_lacks f q g = (λ ss slash unit cr ir l. rw g (goes s _ p 3 b e long (bad 4 b) h (rw q at tok) refl), tt)

  pub bare3_wrong : (f : Bool) (m q : ℕ) → (k ≡ 3 → ⊥) → NumberShape (placed s k b e long) (Refused m q) → Skips s p (bare3 f) (Refused m q)
  bare3_wrong f m q n z = no_number (bare3 f) (⟩ ∷ []) (numeric_3 f n) m q z

  pub bare3_done : (f : Bool) (r : Result ℕ Refusal) → (k ≡ 3 → ⊥) → NumberShape (placed s k b e long) (Ok tt) → Marked s e 3 r → Skips s p (bare3 f) r
  bare3_done f (Ok q) n z m =
      (λ ss slash unit cr ir l. a_number (bare3 f) (⟩ ∷ []) (numeric_3 f n) z ss slash unit cr ir l ∙ m.1 skip ss slash unit cr ir l, m.3)
  bare3_done f (Err why) n z m =
      (λ ss slash unit cr ir l. a_number (bare3 f) (⟩ ∷ []) (numeric_3 f n) z ss slash unit cr ir l ∙ m skip ss slash unit cr ir l, tt)

  -- behind one
  numeric_2 : (f : Bool) → (k ≡ 4 → ⊥) → Numeric (placed s k b e long) (bare2 f) (lit (colon skip) ∷ non (bare3 true) ∷ [])
  unfolding alts
  numeric_2 f n = rw (ne_eqb k 4 n)

  pub bare2_colon : (f : Bool) (r : Result ℕ Refusal) → k ≡ 4 → Skips s e (bare3 f) r → Skips s p (bare2 f) r
  unfolding alts
  bare2_colon f r q w = (λ ss slash unit cr ir l. goes s _ p 4 b e long (fine _) h (rw q at tok) refl ∙ w.0 ss slash unit cr ir l, w.1)

  pub bare2_wrong : (f : Bool) (m q : ℕ) → (k ≡ 4 → ⊥) → NumberShape (placed s k b e long) (Refused m q) → Skips s p (bare2 f) (Refused m q)
  bare2_wrong f m q n z = no_number (bare2 f) (lit (colon skip) ∷ non (bare3 true) ∷ []) (numeric_2 f n) m q z

  pub bare2_open : (f : Bool) (c q : ℕ) → (k ≡ 4 → ⊥) → NumberShape (placed s k b e long) (Ok tt) → Marked s e 4 (Refused c q) →
      Skips s p (bare2 f) (Refused c q)
  bare2_open f c q n z m = (
    λ ss slash unit cr ir l.
        a_number (bare2 f) (lit (colon skip) ∷ non (bare3 true) ∷ []) (numeric_2 f n) z ss slash unit cr ir l ∙ m skip _ slash unit cr ir l,
    tt,
  )

  pub bare2_done : (f : Bool) (q : ℕ) (r : Result ℕ Refusal) → (k ≡ 4 → ⊥) → NumberShape (placed s k b e long) (Ok tt) → Marked s e 4 (Ok q) →
      Skips s q (bare3 true) r → Skips s p (bare2 f) r
  bare2_done f q r n z m w = (
    λ ss slash unit cr ir l.
        a_number (bare2 f) (lit (colon skip) ∷ non (bare3 true) ∷ []) (numeric_2 f n) z ss slash unit cr ir l ∙ m.1 skip _ slash unit cr ir l
        ∙ w.0 ss slash unit cr ir l,
    w.1,
  )

  -- behind its first number
  pub bare1_shut : k ≡ 3 → Skips s p bare1 (Ok e)
  unfolding alts
  bare1_shut q = (λ ss slash unit cr ir l. goes s _ p 3 b e long (fine _) h (rw q at tok) refl, (ahead s p k b e long h tok).1)

  pub bare1_colon : (r : Result ℕ Refusal) → k ≡ 4 → Skips s e (bare2 true) r → Skips s p bare1 r
  unfolding alts
  bare1_colon r q w = (λ ss slash unit cr ir l. goes s _ p 4 b e long (fine _) h (rw q at tok) refl ∙ w.0 ss slash unit cr ir l, w.1)

  pub bare1_wrong : (k ≡ 3 → ⊥) → (k ≡ 4 → ⊥) → Skips s p bare1 (Refused 4 b)
  unfolding alts
  bare1_wrong m n = (λ ss slash unit cr ir l. goes s _ p k b e long (bad 4 b) h tok (rw (ne_eqb k 3 m, ne_eqb k 4 n)), tt)

  -- the whole of it
  numeric : (k ≡ 4 → ⊥) → Numeric (placed s k b e long) bare (non bare1 ∷ [])
  unfolding alts
  numeric n = rw (ne_eqb k 4 n)

  pub bare-colon : (r : Result ℕ Refusal) → k ≡ 4 → Skips s e (bare2 false) r → Skips s p bare r
  unfolding alts
  bare-colon r q w = (λ ss slash unit cr ir l. goes s _ p 4 b e long (fine _) h (rw q at tok) refl ∙ w.0 ss slash unit cr ir l, w.1)

  pub bare-wrong : (m q : ℕ) → (k ≡ 4 → ⊥) → NumberShape (placed s k b e long) (Refused m q) → Skips s p bare (Refused m q)
  bare-wrong m q n z = no_number bare (non bare1 ∷ []) (numeric n) m q z

  pub bare-done : (r : Result ℕ Refusal) → (k ≡ 4 → ⊥) → NumberShape (placed s k b e long) (Ok tt) → Skips s e bare1 r → Skips s p bare r
  bare-done r n z w = (λ ss slash unit cr ir l. a_number bare (non bare1 ∷ []) (numeric n) z ss slash unit cr ir l ∙ w.0 ss slash unit cr ir l, w.1)

-- ---- DIVIDER

pub divider-stops : (s : List ℕ) (p n q : ℕ) → p ≤ length s → token_at s p ≡ Refused n q → DividerRead s p (Refused n q)
divider-stops s p n q h t = λ unit cr ir ts. halts s _ [] _ p n q h t

module _ (s : List ℕ) (p k b e : ℕ) (long : Bool) (h : p ≤ length s) (tok : token_at s p ≡ Got k b e long) where
  pub divider-kind : (k ≡ 7 → ⊥) → DividerRead s p (Refused 4 b)
  unfolding alts
  divider-kind n = λ unit cr ir ts. goes s _ p k b e long (bad 4 b) h tok (rw (ne_eqb k 7 n))

  pub divider-not : k ≡ 7 → divider_of (part b e s) < 1 → DividerRead s p (Refused 4 b)
  unfolding alts
  divider-not q f =
      let x = divider_of (part b e s) in
      λ unit cr ir ts. goes s _ p k b e long (bad 4 b) h tok (rw (eq-eqb k 7 q, lt-leb 1 x f, lt-leb 2 x (omega arith)))

  -- reading on behind the divider's brackets
  abbrev Divides : Result Hand Refusal → Bool → Type 0
  Divides r slash =
      (unit cr ir : ℕ) (ts : List ℕ) →
      reading s (state (non divider ∷ []) false false unit cr ir (tidy ts [] [])) p ≡ holds s r (before 6 slash unit cr ir ts)

  divider_1 : (r : Result Hand Refusal) → k ≡ 7 → divider_of (part b e s) ≡ 1 → Takes s e (⟩ ∷ ⟨ ∷ []) false r → Divides r false
  unfolding alts
  divider_1 r q f u =
      let z = short s p k b e long dividers h tok q (omega arith) in
      λ unit cr ir ts. goes s _ p 7 b e false (fine _) h (rw (q, z) at tok) (rw f) ∙ u.0 _ [] false unit cr ir _

  divider_2 : (r : Result Hand Refusal) → k ≡ 7 → divider_of (part b e s) ≡ 2 → Takes s e (⟩ ∷ ⟨ ∷ []) false r → Divides r true
  unfolding alts
  divider_2 r q f u =
      let z = short s p k b e long dividers h tok q (omega arith) in
      λ unit cr ir ts. goes s _ p 7 b e false (fine _) h (rw (q, z) at tok) (rw f) ∙ u.0 _ [] true unit cr ir _

  divider_most : divider_of (part b e s) ≤ 2
  unfolding divider_of
  divider_most = find_most w.dividers (part b e s) 2 refl

  divides : (v : ℕ) (r : Result Hand Refusal) → k ≡ 7 → v ≡ divider_of (part b e s) → 1 ≤ v → Takes s e (⟩ ∷ ⟨ ∷ []) false r → Divides r (eqb v 2)
  divides v r q f g u = by (eqb v 2) refl
    where
      by : (t : Bool) → eqb v 2 ≡ t → Divides r t
      by true x = divider_2 r q (sym f ∙ eqb-true v 2 x) u
      by false x = let n = eqb-false v 2 x in let m = divider_most in divider_1 r q (omega (arith, n)) u

  pub divider-open : (v n m : ℕ) → k ≡ 7 → v ≡ divider_of (part b e s) → 1 ≤ v → Takes s e (⟩ ∷ ⟨ ∷ []) false (Refused n m) → DividerRead s p (Refused n m)
  divider-open v n m q f g u = divides v (Refused n m) q f g u

  pub divider-done : (v : ℕ) (hand : Hand) → k ≡ 7 → v ≡ divider_of (part b e s) → 1 ≤ v → Takes s e (⟩ ∷ ⟨ ∷ []) false (Ok hand) →
      DividerRead s p (Ok (record { hand = hand; slash = eqb v 2 }))
  divider-done v hand q f g u = (divides v (Ok hand) q f g u, u.1)

pub divider_refused : (s : List ℕ) (m q : ℕ) → PassesDivider s (Refused m q) (Refused m q)
divider_refused s m q = λ unit cr ir ts. refl

module _ (s : List ℕ) (h : Hand) (i : InHand s (Ok h)) where
  pub divider_over : (h.key ≡ 48 → ⊥) → PassesDivider s (Ok h) (Ok (record { hand = h; slash = false }))
  divider_over x = (λ unit cr ir ts. not_there s h i 48 (λ d. non divider ∷ []) (λ d. refl) x false unit cr ir ts, i)

  divider_step : h.key ≡ 48 → (unit cr ir : ℕ) (ts : List ℕ) →
      holds s (Ok h) (before 5 false unit cr ir ts) ≡ reading s (state (non divider ∷ []) false false unit cr ir (tidy ts [] [])) h.token.end
  divider_step x unit cr ir ts = there s h i 48 (λ d. non divider ∷ []) (λ d. refl) (omega arith) x false unit cr ir ts

  pub divider_there : (r : Result Divided Refusal) → h.key ≡ 48 → DividerRead s h.token.end r → PassesDivider s (Ok h) r
  divider_there (Ok said) x w = (λ unit cr ir ts. divider_step x unit cr ir ts ∙ w.0 unit cr ir ts, w.1)
  divider_there (Err why) x w = λ unit cr ir ts. divider_step x unit cr ir ts ∙ w unit cr ir ts

  -- ---- TIMESCALE, as a step
  abbrev scale_tail : Bool → Stack
  scale_tail d = non timescale ∷ next 10 d

  pub scale_over : (h.key ≡ 52 → ⊥) → PassesScale s (Ok h) (Ok (record { hand = h; unit = 6; most = omega arith }))
  scale_over x = (λ d cr ir ts. not_there s h i 52 scale_tail (λ d. refl) x d 6 cr ir ts, i)

  pub scale_there_not : (m q : ℕ) → h.key ≡ 52 → ScaleRead s h.token.end (Refused m q) → PassesScale s (Ok h) (Refused m q)
  scale_there_not m q x w =
      λ d cr ir ts. there s h i 52 scale_tail (λ d. refl) (omega arith) x d 6 cr ir ts ∙ w _ d 6 cr ir _

  module _ (scale : Scale) (x : h.key ≡ 52) (w : ScaleRead s h.token.end (Ok scale)) where
    scale_step : (r : Result Hand Refusal) → Takes s scale.end (⟩ ∷ ⟨ ∷ []) false r → (d : Bool) (cr ir : ℕ) (ts : List ℕ) →
        holds s (Ok h) (before 9 d 6 cr ir ts) ≡ holds s r (before 10 d scale.unit cr ir ts)
    scale_step r u d cr ir ts =
        there s h i 52 scale_tail (λ d. refl) (omega arith) x d 6 cr ir ts ∙ w.0 _ d 6 cr ir _ ∙ u.0 _ [] d scale.unit cr ir _

    pub scale_open : (m q : ℕ) → Takes s scale.end (⟩ ∷ ⟨ ∷ []) false (Refused m q) → PassesScale s (Ok h) (Refused m q)
    scale_open m q u = scale_step (Refused m q) u

    pub scale_there : (hand : Hand) → Takes s scale.end (⟩ ∷ ⟨ ∷ []) false (Ok hand) →
        PassesScale s (Ok h) (Ok (record { hand = hand; unit = scale.unit; most = scale.most }))
    scale_there hand u = (scale_step (Ok hand) u, u.1)

pub scale_refused : (s : List ℕ) (m q : ℕ) → PassesScale s (Refused m q) (Refused m q)
scale_refused s m q = λ d cr ir ts. refl

-- its words
pub scale_most : (v : List ℕ) → scale_of v ≤ 28
unfolding scale_of
scale_most v = find_most w.scales v 28 refl

pub unit_most : (v : List ℕ) → unit_of v ≤ 16
unfolding unit_of
unit_most v = find_most w.units v 16 refl

-- a multiple is at most 3, and with its unit at least 11
pub scale_gap : (v : List ℕ) → 1 ≤ scale_of v → scale_of v < 11 → scale_of v ≤ 3
unfolding scale_of
scale_gap v h g =
    by (leb n 3) refl (held (λ k. or (leb k.number 3) (leb 11 k.number)) w.scales (record { word = v; number = n }) refl (stands w.scales v n h refl))
  where
    n : ℕ
    n = find w.scales v

    by : (t : Bool) → leb (find w.scales v) 3 ≡ t → or t (leb 11 (find w.scales v)) ≡ true → find w.scales v ≤ 3
    by true q x = leb-true (find w.scales v) 3 q
    by false q x = let z = leb-true 11 (find w.scales v) x in absurd (omega arith)

pub unit_stops : (s : List ℕ) (p n q power : ℕ) → p ≤ length s → token_at s p ≡ Refused n q → UnitRead s p power (Refused n q)
unit_stops s p n q power h t = λ ss slash cr ir l. halts s _ ss _ p n q h t

pub scale_stops : (s : List ℕ) (p n q : ℕ) → p ≤ length s → token_at s p ≡ Refused n q → ScaleRead s p (Refused n q)
scale_stops s p n q h t = λ ss slash u cr ir l. halts s _ ss _ p n q h t

module _ (s : List ℕ) (p k b e : ℕ) (long : Bool) (h : p ≤ length s) (tok : token_at s p ≡ Got k b e long) where
  pub unit_kind : (power : ℕ) → (k ≡ 7 → ⊥) → UnitRead s p power (Refused 4 b)
  unit_kind power n = λ ss slash cr ir l. goes s _ p k b e long (bad 4 b) h tok (rw (ne_eqb k 7 n))

  pub unit_not : (power : ℕ) → k ≡ 7 → unit_of (part b e s) < 1 → UnitRead s p power (Refused 4 b)
  unit_not power q f = λ ss slash cr ir l. goes s _ p k b e long (bad 4 b) h tok (rw (eq-eqb k 7 q, lt-leb 1 (unit_of (part b e s)) f))

  pub unit_done : (power v : ℕ) → k ≡ 7 → v ≡ unit_of (part b e s) → 1 ≤ v → (m : power + (v - 1) ≤ 17) →
      UnitRead s p power (Ok (record { unit = power + (v - 1); end = e; most = m }))
  unit_done power v q f g m =
      let z = short s p k b e long units h tok q (omega arith) in
      let x = unit_of (part b e s) in (
        λ ss slash cr ir l.
            goes s _ p 7 b e false (fine _) h (rw (q, z) at tok) (rw (f, le-leb 1 x (omega arith), le-leb x 16 (unit_most (part b e s)))),
        (ahead s p k b e long h tok).1,
      )

  pub scale_kind : (k ≡ 7 → ⊥) → ScaleRead s p (Refused 4 b)
  unfolding alts
  scale_kind n = λ ss slash u cr ir l. goes s _ p k b e long (bad 4 b) h tok (rw (ne_eqb k 7 n))

  pub scale_not : k ≡ 7 → scale_of (part b e s) < 1 → ScaleRead s p (Refused 4 b)
  unfolding alts
  scale_not q f =
      let x = scale_of (part b e s) in
      λ ss slash u cr ir l. goes s _ p k b e long (bad 4 b) h tok (rw (eq-eqb k 7 q, lt-leb 1 x f, lt-leb 11 x (omega arith)))

  pub scale_joined : (v : ℕ) → k ≡ 7 → v ≡ scale_of (part b e s) → 11 ≤ v → (m : v - 11 ≤ 17) →
      ScaleRead s p (Ok (record { unit = v - 11; end = e; most = m }))
  unfolding alts
  scale_joined v q f g m =
      let x = scale_of (part b e s) in
      let z = short s p k b e long scales h tok q (omega arith) in (
        λ ss slash u cr ir l.
            goes s _ p 7 b e false (fine _) h (rw (q, z) at tok)
            (rw (f, le-leb 1 x (omega arith), lt-leb x 3 (omega arith), le-leb 11 x (omega arith), le-leb x 28 (scale_most (part b e s)))),
        (ahead s p k b e long h tok).1,
      )

  pub scale_split : (v : ℕ) (r : Result Scale Refusal) → k ≡ 7 → v ≡ scale_of (part b e s) → 1 ≤ v → v < 11 → UnitRead s e (v - 1) r → ScaleRead s p r
  unfolding alts
  scale_split v r q f g m u = by r u
    where
      unit_next : (ss : Stack) (slash : Bool) (y cr ir : ℕ) (l : Log) →
          reading s (state (non timescale ∷ ss) false slash y cr ir l) p ≡
          reading s (state (lit (word units 1 16 ‼ unity) ∷ ss) false slash (v - 1) cr ir l) e
      unit_next ss slash y cr ir l =
          let x = scale_of (part b e s) in
          let z = short s p k b e long scales h tok q (omega arith) in
          let three : x ≤ 3 = scale_gap (part b e s) (omega arith) (omega arith) in
          goes s _ p 7 b e false (fine _) h (rw (q, z) at tok) (rw (f, le-leb 1 x (omega arith), le-leb x 3 three))

      by : (r : Result Scale Refusal) → UnitRead s e (v - 1) r → ScaleRead s p r
      by (Ok scale) u = (λ ss slash y cr ir l. unit_next ss slash y cr ir l ∙ u.0 ss slash cr ir l, u.1)
      by (Err why) u = λ ss slash y cr ir l. unit_next ss slash y cr ir l ∙ u ss slash cr ir l

-- ---- the whole header

module _ (s ts : List ℕ) (o : Result Hand Refusal) (a : Takes s 0 (⟨ ∷ []) false o) where
  pub file-not : (n q : ℕ) → KeyRead s o 41 (Refused n q) → FileOpened s ts ts (Refused n q)
  unfolding file
  file-not n q b = (λ cr ir. a.0 _ _ false 6 cr ir _ ∙ b.0 _ false 6 cr ir _, tt)

  module _ (x : ℕ) (b : KeyRead s o 41 (Ok x)) (i : Result Hand Refusal) (c : Takes s x (⟨ ∷ []) false i) where
    pub version_not : (n q : ℕ) → KeyRead s i 42 (Refused n q) → FileOpened s ts ts (Refused n q)
    unfolding file
    version_not n q d = (λ cr ir. a.0 _ _ false 6 cr ir _ ∙ b.0 _ false 6 cr ir _ ∙ c.0 _ _ false 6 cr ir _ ∙ d.0 _ false 6 cr ir _, tt)

    pub file-done : (y : ℕ) (ts' : List ℕ) (r : Result Hand Refusal) → KeyRead s i 42 (Ok y) → HeadingRead s y 0 ts ts' r → FileOpened s ts ts' r
    unfolding file
    file-done y ts' r d u = (
      λ cr ir.
          a.0 _ _ false 6 cr ir _ ∙ b.0 _ false 6 cr ir _ ∙ c.0 _ _ false 6 cr ir _ ∙ d.0 _ false 6 cr ir _ ∙ u.0 _ [] false 6 cr ir,
      u.1,
    )

-- DESIGN, DATE, VENDOR, PROGRAM, VERSION, DIVIDER, VOLTAGE, PROCESS, TEMPERATURE, TIMESCALE
module _ (s t0 t1 t2 t3 t4 t5 t6 : List ℕ) (h0 h1 h2 h3 h4 h5 : Result Hand Refusal) (a : FileOpened s t0 t1 h0)
    (b : Passes s 43 h0 t1 h1 t2) (c : Passes s 44 h1 t2 h2 t3) (d : Passes s 45 h2 t3 h3 t4) (e : Passes s 46 h3 t4 h4 t5) (f : Passes s 47 h4 t5 h5 t6)
  where
    to_divider : (cr ir : ℕ) → reading s (state file false false 6 cr ir (tidy t0 [] [])) 0 ≡ holds s h5 (before 5 false 6 cr ir t6)
    to_divider cr ir = a.0 cr ir ∙ b.0 false 6 cr ir ∙ c.0 false 6 cr ir ∙ d.0 false 6 cr ir ∙ e.0 false 6 cr ir ∙ f.0 false 6 cr ir

    pub header_undivided : (t7 : List ℕ) (n q : ℕ) → PassesDivider s h5 (Refused n q) → HeaderRead s t0 t7 (Refused n q)
    header_undivided t7 n q g = λ cr ir. to_divider cr ir ∙ g 6 cr ir t6

    module _ (t7 : List ℕ) (said : Divided) (h7 h8 h9 : Result Hand Refusal) (g : PassesDivider s h5 (Ok said))
        (h : PassesBare s 49 (Ok said.hand) h7) (i : Passes s 50 h7 t6 h8 t7) (j : PassesBare s 51 h8 h9) where
      to_scale : (cr ir : ℕ) → reading s (state file false false 6 cr ir (tidy t0 [] [])) 0 ≡ holds s h9 (before 9 said.slash 6 cr ir t7)
      to_scale cr ir = to_divider cr ir ∙ g.0 6 cr ir t6 ∙ (h t6).0 said.slash 6 cr ir ∙ i.0 said.slash 6 cr ir ∙ (j t7).0 said.slash 6 cr ir

      pub header_unscaled : (n q : ℕ) → PassesScale s h9 (Refused n q) → HeaderRead s t0 t7 (Refused n q)
      header_unscaled n q k = λ cr ir. to_scale cr ir ∙ k said.slash cr ir t7

      pub header_read : (scaled : Scaled) → PassesScale s h9 (Ok scaled) →
          HeaderRead s t0 t7 (Ok (record { hand = scaled.hand; slash = said.slash; unit = scaled.unit }))
      header_read scaled k = (λ cr ir. to_scale cr ir ∙ k.0 said.slash cr ir t7, k.1)
