-- The eighteen values of one arc, run in 144 bytes of their own: an entry is let through to the slots that are touched, and what these come to
-- is written back to the sheet.
-- Assumes nothing.
use Prim.Native.Nat.{ℕ, zero, suc, ◌+◌, ◌*◌, ◌/◌, ◌%◌, ◌≤◌, ◌<◌, ◌^◌}
use Rattle.std.specs.Prelude.{◌≡◌, Bool, not, leb, ltb, nat_abs, ◌+ℤ◌, length, get_or, take, drop, set}
use Rattle.std.proofs.Math.Path.{refl, sym, ap}
use Rattle.std.proofs.Common.{◌∙◌, arith, add-zero, length-set, length-drop, length-take-le, get_or-take, get_or-drop, get_or-set_same, get_or-set_other}
use Rattle.std.proofs.Math.Bool.{true, false}
use mathlib.Core.List.{List, [], ◌∷◌}
use Rattle.std.proofs.Math.Option.{none, some}
use Rattle.std.proofs.Math.Nat.{zero-add}
use Rattle.std.proofs.Math.Dec.{eqb}
use Rattle.std.proofs.Math.Seq.{paste}
use Rattle.std.proofs.lemmas.List.Edits.{length-paste}
use Rattle.std.specs.Int.{w64}
use mir.ValLaws.{of_z_fits}
use borrow.Author.Tests.{ltb-true, ltb-false, leb-true, eqb-true, eqb-false, lt-ltb, le-ltb, eq-eqb}
use Rattle.classes.specs.Choice.{pick, and, or}
use Rattle.wire.specs.Wire.{Bytes, be64, be_bytes}
use Rattle.wire.specs.Frame.{number_back, number-before, number_behind}
use Rattle.sheetparts.specs.Form.{Good, values_at, check_of}
use Rattle.sheetlaws.specs.Sheet.{place}
use Rattle.history.specs.Events.{limit, Value, holds, fails, summed, step, final, fails_with, supplied, any_of}
use Rattle.history.specs.Ranges.{InRange}
use Rattle.history.specs.Sheet.{Slot, Values, Group, absolute, increment, check, Entry, each, giving, below, arc_slots}
use Rattle.applying.specs.Slots.{numeral, word_of, slot_number, slot_at, same_slot, put, values_of, spelled, sheet_at}
use Rattle.applying.specs.Numbers.{slot_number_lem, slot_at_lem, slot_below, value-fits}
use Rattle.applying.specs.Spelled.{start, room-all, spelled_same, word_set, word_get}
use Rattle.applying.specs.Shapes.{values_in_range}
use Rattle.applying.specs.Amounts.{empty, lesser, given, refusal, changed, arc_refusal, value_written, arc_written}
use Rattle.applying.specs.Laws.{first_of, lesser-first, held_refusal, held_first, is_add, word_is-empty, given-none, refusal_is, changed-is}
use Rattle.applying.specs.Judged.{any_below, supply}
use Rattle.applying.specs.Arcs.{number, Expanded}

-- 1. What the touched slots are given

-- the word for slot i, nothing where its flag is 0
unfoldable pub masked_word : List (List ℕ) → List ℕ → ℕ → ℕ
masked_word rows flags i = pick (eqb (get_or flags i 0) 0) empty (given rows i)

-- the expanded list with nothing for the slots whose flag is 0: six rows of three
unfoldable pub masked : List (List ℕ) → List ℕ → List (List ℕ)
masked rows flags =
    (masked_word rows flags 0 ∷ masked_word rows flags 1 ∷ masked_word rows flags 2 ∷ [])
    ∷ (masked_word rows flags 3 ∷ masked_word rows flags 4 ∷ masked_word rows flags 5 ∷ [])
    ∷ (masked_word rows flags 6 ∷ masked_word rows flags 7 ∷ masked_word rows flags 8 ∷ [])
    ∷ (masked_word rows flags 9 ∷ masked_word rows flags 10 ∷ masked_word rows flags 11 ∷ [])
    ∷ (masked_word rows flags 12 ∷ masked_word rows flags 13 ∷ masked_word rows flags 14 ∷ [])
    ∷ (masked_word rows flags 15 ∷ masked_word rows flags 16 ∷ masked_word rows flags 17 ∷ [])
    ∷ []

-- row by row, and corner by corner
corner_of : (w : ℕ → ℕ) (a r : ℕ) → r < 3 → get_or (w a ∷ w (a + 1) ∷ w (a + 2) ∷ []) r 0 ≡ w (a + r)
corner_of w a zero l = rw add-zero
corner_of w a (suc zero) l = refl
corner_of w a (suc (suc zero)) l = refl
corner_of w a (suc (suc (suc r))) l = absurd (omega arith)

row_of : (rows : List (List ℕ)) (flags : List ℕ) (q r : ℕ) → q < 6 → r < 3
    → get_or (get_or (masked rows flags) q []) r 0 ≡ masked_word rows flags (3 * q + r)
unfolding masked
row_of rows flags zero r h l = corner_of (masked_word rows flags) 0 r l
row_of rows flags (suc zero) r h l = corner_of (masked_word rows flags) 3 r l
row_of rows flags (suc (suc zero)) r h l = corner_of (masked_word rows flags) 6 r l
row_of rows flags (suc (suc (suc zero))) r h l = corner_of (masked_word rows flags) 9 r l
row_of rows flags (suc (suc (suc (suc zero)))) r h l = corner_of (masked_word rows flags) 12 r l
row_of rows flags (suc (suc (suc (suc (suc zero))))) r h l = corner_of (masked_word rows flags) 15 r l
row_of rows flags (suc (suc (suc (suc (suc (suc q)))))) r h l = absurd (omega arith)

-- a slot is given its word if its flag is not 0
pub given-masked : (rows : List (List ℕ)) (flags : List ℕ) (i : ℕ) → i < 18
    → given (masked rows flags) i ≡ pick (eqb (get_or flags i 0) 0) empty (given rows i)
unfolding masked_word given
given-masked rows flags i l =
    let z : 3 * (i / 3) + i % 3 ≡ i = omega arith in
    row_of rows flags (i / 3) (i % 3) (omega arith) (omega arith) ∙ ap (masked_word rows flags) z

-- 2. The bytes of one arc's values, and the flags of its slots

-- 144 bytes hold the values of arc j, slot by slot
pub record Holds18 (st : List ℕ) (j : ℕ) (now : Values) : Type 0 where
  pub size : length st ≡ 144
  pub words : (i : ℕ) → i < 18 → be64 st (8 * i) ≡ word_of (now (slot_at j i))
  pub fine : (t : Slot) → InRange (now t)

-- a flag for each slot of arc j, 0 for those that are not touched
pub record Flags (flags : List ℕ) (j : ℕ) (touched : Slot → Bool) : Type 0 where
  pub count : length flags ≡ 18
  pub flag : (i : ℕ) → i < 18 → eqb (get_or flags i 0) 0 ≡ not (touched (slot_at j i))

-- an arc's slots, by their numbers
by_number : (f : Slot → Bool) (j : ℕ) → any_of f (arc_slots j) ≡ any_of (λ i. f (slot_at j i)) (below 18)
unfolding any_of arc_slots each below slot_at
by_number f j = refl

-- no slots, no refusal
none_yet : (F G : ℕ → Bool) → 0 ≡ first_of false (any_of F (below 0)) (any_of G (below 0))
unfolding first_of any_of below
none_yet F G = refl

module _ {Word : Type 0} {e : Entry Word} {rows : List (List ℕ)} {add : Bool} (x : Expanded e rows add) {st : List ℕ} {j : ℕ} {now : Values}
    (h : Holds18 st j now) {flags : List ℕ} {touched : Slot → Bool} (g : Flags flags j touched) where
  -- the word for a slot
  word_is : (i : ℕ) → i < 18 → given rows i ≡ word_of (number e (slot_at j i))
  unfolding slot_at
  word_is i l = x.words i l

  -- a touched slot is given it
  given_is : (i : ℕ) → i < 18 → given (masked rows flags) i ≡ pick (touched (slot_at j i)) (word_of (number e (slot_at j i))) empty
  given_is i l = given-masked rows flags i l ∙ rw (g.flag i l, word_is i l) (by (touched (slot_at j i)))
    where
      by : (y : Bool) → pick (not y) empty (word_of (number e (slot_at j i))) ≡ pick y (word_of (number e (slot_at j i))) empty
      by true = refl
      by false = refl

  -- what a slot fails with, if it is touched
  abbrev fails_at_lem : ℕ → Slot → Bool
  fails_at_lem c t = and (touched t) (fails_with c (step (now t) (supply e t)))

  -- one slot
  slot_refusal_lem : (i : ℕ) → i < 18 → refusal add (be64 st (0 + 8 * i)) (given (masked rows flags) i)
      ≡ first_of false (fails_at_lem 15 (slot_at j i)) (fails_at_lem 16 (slot_at j i))
  unfolding supply refusal first_of
  slot_refusal_lem i l = rw (given_is i l, x.adds, zero-add (8 * i), h.words i l) (by (touched u))
    where
      u : Slot
      u = slot_at j i

      by : (y : Bool) → refusal (is_add e.group) (word_of (now u)) (pick y (word_of (number e u)) empty)
          ≡ first_of false (and y (fails_with 15 (step (now u) (supply e u)))) (and y (fails_with 16 (step (now u) (supply e u))))
      by true = refusal_is e.group (now u) (number e u) (h.fine u) (x.times u) ∙ held_first (now u) (supply e u)
      by false = refl

  -- the first i of them
  slots-refusal : (i : ℕ) → i ≤ 18 → arc_refusal st 0 (masked rows flags) add i
      ≡ first_of false (any_of (λ k. fails_at_lem 15 (slot_at j k)) (below i)) (any_of (λ k. fails_at_lem 16 (slot_at j k)) (below i))
  unfolding arc_refusal
  slots-refusal zero l = none_yet _ _
  slots-refusal (suc i) l = rw (slots-refusal i (omega arith), slot_refusal_lem i (omega arith), lesser-first, any_below, any_below)

  -- an entry is refused where a touched slot refuses it
  pub scratch_refusal : arc_refusal st 0 (masked rows flags) add 18
      ≡ first_of false (any_of (λ (t : Slot). and (touched t) (fails_with 15 (step (now t) (supply e t)))) (arc_slots j))
      (any_of (λ (t : Slot). and (touched t) (fails_with 16 (step (now t) (supply e t)))) (arc_slots j))
  scratch_refusal = rw (by_number (fails_at_lem 15) j, by_number (fails_at_lem 16) j) (slots-refusal 18 (omega arith))

-- 3. What is written

-- the lesser of two refusals is none: neither is there
lesser-zero : (a c : ℕ) → lesser a c ≡ 0 → (a ≡ 0) × (c ≡ 0)
unfolding lesser
lesser-zero a c = by (eqb a 0) refl (eqb c 0) refl (leb a c)
  where
    by : (y : Bool) → eqb a 0 ≡ y → (z : Bool) → eqb c 0 ≡ z → (w : Bool) → pick y c (pick z a (pick w a c)) ≡ 0 → (a ≡ 0) × (c ≡ 0)
    by true p z q w r = (eqb-true a 0 p, r)
    by false p true q w r = (r, eqb-true c 0 q)
    by false p false q true r = absurd (eqb-false a 0 p r)
    by false p false q false r = absurd (eqb-false c 0 q r)

-- nothing is refused among the first i, and so not at any of them
each-zero : (out : List ℕ) (start : ℕ) (rows : List (List ℕ)) (add : Bool) (i k : ℕ) → k < i → arc_refusal out start rows add i ≡ 0
    → refusal add (be64 out (start + 8 * k)) (given rows k) ≡ 0
unfolding arc_refusal
each-zero out start rows add zero k l z = absurd (omega arith)
each-zero out start rows add (suc i) k l z =
    let both : (arc_refusal out start rows add i ≡ 0) × (refusal add (be64 out (start + 8 * i)) (given rows i) ≡ 0) = lesser-zero _ _ z in
    by (eqb k i) refl both.1 (λ g. each-zero out start rows add i k g both.0)
  where
    by : (y : Bool) → eqb k i ≡ y → refusal add (be64 out (start + 8 * i)) (given rows i) ≡ 0
        → (k < i → refusal add (be64 out (start + 8 * k)) (given rows k) ≡ 0) → refusal add (be64 out (start + 8 * k)) (given rows k) ≡ 0
    by true p last before = rw (eqb-true k i p) last
    by false p last before = let q = eqb-false k i p in before (omega arith)

-- a step that does not fail keeps the range
held_range : (g : Group) (v w : Value) → InRange v → InRange w → held_refusal (step v (giving g w)) ≡ 0 → InRange (final (step v (giving g w)))
unfolding giving step summed final held_refusal
held_range absolute v none r q z = r
held_range increment v none r q z = r
held_range check v none r q z = r
held_range absolute v (some t) r q z = q
held_range check v (some t) r q z = q
held_range increment none (some t) r q z = absurd (omega arith)
held_range increment (some u) (some t) r q z = by (leb (nat_abs (u +ℤ t)) limit) refl z
  where
    by : (y : Bool) → leb (nat_abs (u +ℤ t)) limit ≡ y → held_refusal (pick y (holds (some (u +ℤ t))) (fails 16)) ≡ 0
        → InRange (final (pick y (holds (some (u +ℤ t))) (fails 16)))
    by true p k = leb-true (nat_abs (u +ℤ t)) limit p
    by false p k = absurd (omega arith)

no_bool : ◌≡◌ {A = Bool} false true → ⊥
no_bool p = let z : ◌≡◌ {A = ℕ} 0 1 = cc in omega arith

-- a number other than i is below i + 1 if it is below i
one_more : (k i : ℕ) → (k ≡ i → ⊥) → ltb k (suc i) ≡ ltb k i
one_more k i d = by (ltb k i) refl
  where
    by : (y : Bool) → ltb k i ≡ y → ltb k (suc i) ≡ y
    by true p = let q = ltb-true k i p in lt-ltb k (suc i) (omega arith)
    by false p = let q = ltb-false k i p in le-ltb k (suc i) (omega arith)

-- 64 bits hold a value
word_fits : (v : Value) → InRange v → word_of v < 2 ^ 64
unfolding word_of
word_fits v r = (of_z_fits w64 (numeral v) (value-fits v r)).fits

-- word i of the scratch is written: the others stay
one_written : (d : List ℕ) (i k c : ℕ) → length d ≡ 144 → i < 18 → k < 18 → c < 2 ^ 64
    → be64 (paste d (8 * i) (be_bytes c) 8) (8 * k) ≡ pick (eqb k i) c (be64 d (8 * k))
one_written d i k c s l g f = by (eqb k i) refl (ltb k i) refl
  where
    by : (y : Bool) → eqb k i ≡ y → (z : Bool) → ltb k i ≡ z
        → be64 (paste d (8 * i) (be_bytes c) 8) (8 * k) ≡ pick y c (be64 d (8 * k))
    by true p z q = rw (eqb-true k i p) (number_back d (8 * i) c (omega arith) f)
    by false p true q = let a = ltb-true k i q in number-before d (8 * i) (8 * k) c (omega arith) (omega arith)
    by false p false q =
        let a = ltb-false k i q in
        let b = eqb-false k i p in
        number_behind d (8 * i) (8 * k) c (omega arith) (omega arith)

-- or is written as it was
one_kept : (d : List ℕ) (i k c : ℕ) → be64 d (8 * i) ≡ c → be64 d (8 * k) ≡ pick (eqb k i) c (be64 d (8 * k))
one_kept d i k c s = by (eqb k i) refl
  where
    by : (y : Bool) → eqb k i ≡ y → be64 d (8 * k) ≡ pick y c (be64 d (8 * k))
    by true p = rw (eqb-true k i p) s
    by false p = refl

-- d is the scratch o with c for its word i
record Next (o d : List ℕ) (i c : ℕ) : Type 0 where
  size : length d ≡ 144
  words : (k : ℕ) → k < 18 → be64 d (8 * k) ≡ pick (eqb k i) c (be64 o (8 * k))

module _ {Word : Type 0} {e : Entry Word} {rows : List (List ℕ)} {add : Bool} (x : Expanded e rows add) {st : List ℕ} {j : ℕ} {now : Values}
    (h : Holds18 st j now) {flags : List ℕ} {touched : Slot → Bool} (g : Flags flags j touched)
    (calm : arc_refusal st 0 (masked rows flags) add 18 ≡ 0) where
  -- the values behind the entry
  abbrev after : Values
  after t = pick (and (eqb t.arc j) (touched t)) (final (step (now t) (supply e t))) (now t)

  -- at the arc's slots
  after-at : (i : ℕ) → after (slot_at j i)
      ≡ pick (touched (slot_at j i)) (final (step (now (slot_at j i)) (supply e (slot_at j i)))) (now (slot_at j i))
  unfolding slot_at
  after-at i = rw (eq-eqb j j refl)

  -- a touched slot is not refused its number
  slot_calm : (i : ℕ) → i < 18 → touched (slot_at j i) ≡ true
      → refusal (is_add e.group) (word_of (now (slot_at j i))) (word_of (number e (slot_at j i))) ≡ 0
  slot_calm i l p = rw (zero-add (8 * i), given_is x h g i l, x.adds, h.words i l, p) at (each-zero st 0 (masked rows flags) add 18 i l calm)

  -- and keeps the range
  slot_range : (i : ℕ) → i < 18 → touched (slot_at j i) ≡ true → InRange (final (step (now (slot_at j i)) (supply e (slot_at j i))))
  unfolding supply
  slot_range i l p =
      let u = slot_at j i in
      held_range e.group (now u) (number e u) (h.fine u) (x.times u)
      (sym (refusal_is e.group (now u) (number e u) (h.fine u) (x.times u)) ∙ slot_calm i l p)

  -- as all values do
  after_range : (t : Slot) → InRange (after t)
  after_range t = by (eqb t.arc j) refl (touched t) refl
    where
      by : (y : Bool) → eqb t.arc j ≡ y → (z : Bool) → touched t ≡ z → InRange (pick (and y z) (final (step (now t) (supply e t))) (now t))
      by false p z q = h.fine t
      by true p false q = h.fine t
      by true p true q =
          let s : slot_at j (slot_number t) ≡ t = ap (λ k. slot_at k (slot_number t)) (sym (eqb-true t.arc j p)) ∙ slot_at_lem t in
          rw s at (slot_range (slot_number t) (slot_below t) (ap touched s ∙ q))

  -- one value written
  slot_written_lem : (o : List ℕ) (i : ℕ) → i < 18 → length o ≡ 144 → be64 o (8 * i) ≡ word_of (now (slot_at j i))
      → Next o (value_written o (0 + 8 * i) (given (masked rows flags) i) add) i (word_of (after (slot_at j i)))
  unfolding value_written supply
  slot_written_lem o i l s w = rw (zero-add (8 * i), given_is x h g i l, after-at i) (by (touched u) refl)
    where
      u : Slot
      u = slot_at j i

      v : Value
      v = final (step (now u) (giving e.group (number e u)))

      kept : (c : ℕ) → be64 o (8 * i) ≡ c → Next o o i c
      kept c q = record { size = s; words = λ k a. one_kept o i k c q }

      filled : touched u ≡ true → (z : Bool) → eqb (word_of (number e u)) empty ≡ z
          → Next o (pick z o (paste o (8 * i) (be_bytes (changed add (be64 o (8 * i)) (word_of (number e u)))) 8)) i (word_of v)
      filled p true q =
          let a : number e u ≡ none = (word_is-empty (number e u) (x.times u)).0 q in
          kept (word_of v) (w ∙ rw (a, given-none e.group (now u)))
      filled p false q =
          let a : number e u ≡ none → ⊥ = λ r. no_bool (sym q ∙ (word_is-empty (number e u) (x.times u)).1 r) in
          let r : InRange v = slot_range i l p in
          rw (w, x.adds, changed-is e.group (now u) (number e u) (h.fine u) (x.times u) a (slot_calm i l p))
          (record {
            size = length-paste o (8 * i) (be_bytes (word_of v)) 8 (omega arith) (omega arith) ∙ s;
            words = λ k b. one_written o i k (word_of v) s l b (word_fits v r);
          })

      by : (y : Bool) → touched u ≡ y
          → Next o (pick (eqb (pick y (word_of (number e u)) empty) empty) o
          (paste o (8 * i) (be_bytes (changed add (be64 o (8 * i)) (pick y (word_of (number e u)) empty))) 8)) i (word_of (pick y v (now u)))
      by false p = kept (word_of (now u)) w
      by true p = filled p (eqb (word_of (number e u)) empty) refl

  -- the first i are, the others are not yet
  record Written (d : List ℕ) (i : ℕ) : Type 0 where
    size : length d ≡ 144
    words : (k : ℕ) → k < 18 → be64 d (8 * k) ≡ pick (ltb k i) (word_of (after (slot_at j k))) (word_of (now (slot_at j k)))

  slots-written : (i : ℕ) → i ≤ 18 → Written (arc_written st 0 (masked rows flags) add i) i
  unfolding arc_written
  slots-written zero l = record { size = h.size; words = λ k a. h.words k a ∙ rw (le-ltb k 0 (omega arith)) }
  slots-written (suc i) l = step_on (slots-written i (omega arith))
    where
      o : List ℕ
      o = arc_written st 0 (masked rows flags) add i

      step_on : Written o i → Written (value_written o (0 + 8 * i) (given (masked rows flags) i) add) (suc i)
      step_on was =
          let here : be64 o (8 * i) ≡ word_of (now (slot_at j i)) = was.words i (omega arith) ∙ rw (le-ltb i i (omega arith)) in
          let n = slot_written_lem o i (omega arith) was.size here in
          record { size = n.size; words = λ k a. n.words k a ∙ rw (was.words k a) (by k (eqb k i) refl) }
        where
          by : (k : ℕ) (y : Bool) → eqb k i ≡ y
              → pick y (word_of (after (slot_at j i))) (pick (ltb k i) (word_of (after (slot_at j k))) (word_of (now (slot_at j k))))
              ≡ pick (ltb k (suc i)) (word_of (after (slot_at j k))) (word_of (now (slot_at j k)))
          by k true p = let q = eqb-true k i p in rw (q, lt-ltb i (suc i) (omega arith))
          by k false p = rw (one_more k i (eqb-false k i p))

  -- what is not refused leaves in the touched slots what their steps come to
  pub scratch_written : Holds18 (arc_written st 0 (masked rows flags) add 18) j
      (λ t. pick (and (eqb t.arc j) (touched t)) (final (step (now t) (supply e t))) (now t))
  scratch_written =
      let w = slots-written 18 (omega arith) in
      record { size = w.size; words = λ k a. w.words k a ∙ rw (lt-ltb k 18 a); fine = after_range }

-- 4. At first: the bytes of the starting sheet

-- a number within a part
part-number : (b : List ℕ) (p n q : ℕ) → q + 8 ≤ n → be64 (take n (drop p b)) q ≡ be64 b (p + q)
unfolding be64
part-number b p n q l =
    let f : (k : ℕ) → k < 8 → get_or (take n (drop p b)) (q + k) 0 ≡ get_or b (p + q + k) 0
    = λ k g. let z : p + (q + k) ≡ p + q + k = omega arith in
    get_or-take n (drop p b) (q + k) 0 (omega arith) ∙ get_or-drop p b (q + k) 0 ∙ ap (λ i. get_or b i 0) z in
    rw (rw (add-zero q, add-zero (p + q)) at (f 0 (omega arith)), f 1 (omega arith), f 2 (omega arith), f 3 (omega arith))
    (rw (f 4 (omega arith), f 5 (omega arith), f 6 (omega arith), f 7 (omega arith)))

module _ (b : List ℕ) (bytes : Bytes b) (n m f : ℕ) (good : check_of b ≡ Good n m f) where
  -- the 144 bytes of arc j hold its values
  pub scratch_start : (j : ℕ) → j < m → Holds18 (take 144 (drop (values_at b (place b j f)) b)) j (values_of (sheet_at b n m f))
  scratch_start j l =
      let p = values_at b (place b j f) in
      let v = values_of (sheet_at b n m f) in
      let r = room-all b bytes n m f good j l in
      let fine = values_in_range b bytes n m f good in
      record {
        size = length-take-le 144 (drop p b) (rw (length-drop p b) (omega arith));
        words =
            λ i g. part-number b p 144 (8 * i) (omega arith)
            ∙ (rw (start b bytes n m f good) at (word_get b bytes n m f good v fine j i l g));
        fine = fine;
      }

-- 5. Touching

-- the flags, with 1 for those of the first n slots to which a number is given
unfoldable pub touched_flags : List ℕ → List (List ℕ) → ℕ → List ℕ
touched_flags flags rows zero = flags
touched_flags flags rows (suc n) = pick (eqb (given rows n) empty) (touched_flags flags rows n) (set (touched_flags flags rows n) n 1)

-- as many
pub touched-length : (flags : List ℕ) (rows : List (List ℕ)) (n : ℕ) → length (touched_flags flags rows n) ≡ length flags
unfolding touched_flags
touched-length flags rows zero = refl
touched-length flags rows (suc n) = by (eqb (given rows n) empty) ∙ touched-length flags rows n
  where
    by : (y : Bool) → length (pick y (touched_flags flags rows n) (set (touched_flags flags rows n) n 1)) ≡ length (touched_flags flags rows n)
    by true = refl
    by false = length-set (touched_flags flags rows n) n 1

-- one by one
touched-at : (flags : List ℕ) (rows : List (List ℕ)) (n k : ℕ) → k < length flags
    → get_or (touched_flags flags rows n) k 0 ≡ pick (and (ltb k n) (not (eqb (given rows k) empty))) 1 (get_or flags k 0)
unfolding touched_flags
touched-at flags rows zero k l = rw (le-ltb k 0 (omega arith))
touched-at flags rows (suc n) k l = by (eqb k n) refl (eqb (given rows n) empty) refl (touched-at flags rows n k l)
  where
    o : List ℕ
    o = touched_flags flags rows n

    by : (y : Bool) → eqb k n ≡ y → (z : Bool) → eqb (given rows n) empty ≡ z
        → get_or o k 0 ≡ pick (and (ltb k n) (not (eqb (given rows k) empty))) 1 (get_or flags k 0)
        → get_or (pick z o (set o n 1)) k 0 ≡ pick (and (ltb k (suc n)) (not (eqb (given rows k) empty))) 1 (get_or flags k 0)
    by true p true q was =
        let a = eqb-true k n p in
        was ∙ rw (a, q, le-ltb n n (omega arith), lt-ltb n (suc n) (omega arith))
    by true p false q was =
        let a = eqb-true k n p in
        let s = touched-length flags rows n in
        rw (a, q, lt-ltb n (suc n) (omega arith)) (get_or-set_same o n 1 0 (omega arith))
    by false p true q was = rw (one_more k n (eqb-false k n p)) was
    by false p false q was = rw (one_more k n (eqb-false k n p)) (get_or-set_other o n k 1 0 (eqb-false k n p) ∙ was)

-- a number is supplied where its word is not empty
supplied-is : (g : Group) (v : Value) → InRange v → supplied (giving g v) ≡ not (eqb (word_of v) empty)
unfolding giving supplied
supplied-is g none r = rw ((word_is-empty none r).1 refl)
supplied-is g (some z) r = by (eqb (word_of (some z)) empty) refl
  where
    there : (k : Group) → supplied (giving k (some z)) ≡ true
    there absolute = refl
    there increment = refl
    there check = refl

    by : (y : Bool) → eqb (word_of (some z)) empty ≡ y → supplied (giving g (some z)) ≡ not y
    by false p = there g
    by true p = let q = (word_is-empty (some z) r).0 p in let n : ◌≡◌ {A = ℕ} 0 1 = cc in absurd (omega arith)

-- an entry that means the arc touches the slots to which it gives a number
pub touch_flags : {Word : Type 0} {e : Entry Word} {rows : List (List ℕ)} {add : Bool} → Expanded e rows add
    → {flags : List ℕ} {j : ℕ} {touched : Slot → Bool} → Flags flags j touched
    → Flags (touched_flags flags rows 18) j (λ t. or (touched t) (and (eqb t.arc j) (supplied (supply e t))))
unfolding slot_at supply
touch_flags {e = e} {rows = rows} x {flags = flags} {j = j} {touched = touched} g =
    record {
      count = touched-length flags rows 18 ∙ g.count;
      flag =
          λ i l. let s = g.count in
          let u = slot_at j i in
          rw (
            touched-at flags rows 18 i (omega arith),
            lt-ltb i 18 l,
            eq-eqb j j refl,
            x.words i l,
            supplied-is e.group (number e u) (x.times u),
          )
          (by (eqb (word_of (number e u)) empty) (get_or flags i 0) (touched u) (g.flag i l));
    }
  where
    by : (y : Bool) (a : ℕ) (z : Bool) → eqb a 0 ≡ not z → eqb (pick (not y) 1 a) 0 ≡ not (or z (not y))
    by true a true p = p
    by true a false p = p
    by false a true p = refl
    by false a false p = refl

-- 6. Writing back

-- the sheet, with what the scratch holds in those of the first n slots whose flag is not 0
unfoldable pub back_written : List ℕ → ℕ → List ℕ → List ℕ → ℕ → List ℕ
back_written cur at st flags zero = cur
back_written cur at st flags (suc n) =
    pick (eqb (get_or flags n 0) 0) (back_written cur at st flags n)
    (paste (back_written cur at st flags n) (at + 8 * n) (be_bytes (be64 st (8 * n))) 8)

module _ (j : ℕ) (touched : Slot → Bool) (now current : Values) where
  -- the values, with those of the first slots of the arc that are touched
  unfoldable mixed : ℕ → Values
  mixed i t = pick (and (and (eqb t.arc j) (ltb (slot_number t) i)) (touched t)) (now t) (current t)

  -- none
  mixed-none : (t : Slot) → mixed 0 t ≡ current t
  unfolding mixed
  mixed-none t = rw (le-ltb (slot_number t) 0 (omega arith)) (by (eqb t.arc j))
    where
      by : (y : Bool) → pick (and (and y false) (touched t)) (now t) (current t) ≡ current t
      by true = refl
      by false = refl

  -- all eighteen
  mixed-all : (t : Slot) → mixed 18 t ≡ pick (and (eqb t.arc j) (touched t)) (now t) (current t)
  unfolding mixed
  mixed-all t = rw (lt-ltb (slot_number t) 18 (slot_below t)) (by (eqb t.arc j))
    where
      by : (y : Bool) → pick (and (and y true) (touched t)) (now t) (current t) ≡ pick (and y (touched t)) (now t) (current t)
      by true = refl
      by false = refl

  -- slot i is next: if it is touched, its value is put in; if not, nothing changes
  mixed-next : (i : ℕ) → i < 18 → (t : Slot)
      → pick (touched (slot_at j i)) (put (mixed i) (slot_at j i) (now (slot_at j i)) t) (mixed i t) ≡ mixed (suc i) t
  unfolding mixed put same_slot slot_at
  mixed-next i l t = rw (slot_number_lem j i l) (by (eqb t.arc j) refl (eqb (slot_number t) i) refl (touched (slot_at j i)) refl)
    where
      by : (y : Bool) → eqb t.arc j ≡ y → (z : Bool) → eqb (slot_number t) i ≡ z → (w : Bool) → touched (slot_at j i) ≡ w
          → pick w (pick (and y z) (now (slot_at j i)) (pick (and (and y (ltb (slot_number t) i)) (touched t)) (now t) (current t)))
          (pick (and (and y (ltb (slot_number t) i)) (touched t)) (now t) (current t))
          ≡ pick (and (and y (ltb (slot_number t) (suc i))) (touched t)) (now t) (current t)
      by false p z q true c = refl
      by false p z q false c = refl
      by true p false q true c = rw (one_more (slot_number t) i (eqb-false (slot_number t) i q))
      by true p false q false c = rw (one_more (slot_number t) i (eqb-false (slot_number t) i q))
      by true p true q w c =
          let k = eqb-true (slot_number t) i q in
          let s : slot_at j i ≡ t = ap (λ a. slot_at a i) (sym (eqb-true t.arc j p)) ∙ ap (slot_at t.arc) (sym k) ∙ slot_at_lem t in
          let d : touched t ≡ w = sym (ap touched s) ∙ c in
          rw (s, d, k, le-ltb i i (omega arith), lt-ltb i (suc i) (omega arith))

module _ (b : List ℕ) (bytes : Bytes b) (n m f : ℕ) (good : check_of b ≡ Good n m f) where
  module _ {st : List ℕ} {j : ℕ} {now : Values} (h : Holds18 st j now) {flags : List ℕ} {touched : Slot → Bool} (g : Flags flags j touched)
      (l : j < m) (current : Values) where
    -- one slot
    slot_back : (i : ℕ) → i < 18
        → pick (eqb (get_or flags i 0) 0) (spelled (sheet_at b n m f) (mixed j touched now current i))
        (paste (spelled (sheet_at b n m f) (mixed j touched now current i)) (values_at b (place b j f) + 8 * i) (be_bytes (be64 st (8 * i))) 8)
        ≡ spelled (sheet_at b n m f) (mixed j touched now current (suc i))
    slot_back i k = rw (g.flag i k, h.words i k) (by (touched (slot_at j i)) refl)
      where
        v : Values
        v = mixed j touched now current i

        by : (y : Bool) → touched (slot_at j i) ≡ y
            → pick (not y) (spelled (sheet_at b n m f) v)
            (paste (spelled (sheet_at b n m f) v) (values_at b (place b j f) + 8 * i) (be_bytes (word_of (now (slot_at j i)))) 8)
            ≡ spelled (sheet_at b n m f) (mixed j touched now current (suc i))
        by true p =
            word_set b bytes n m f good v j i (now (slot_at j i)) l k
            ∙ spelled_same b bytes n m f good (put v (slot_at j i) (now (slot_at j i))) (mixed j touched now current (suc i))
            (λ t a. rw p at (mixed-next j touched now current i k t))
        by false p =
            spelled_same b bytes n m f good v (mixed j touched now current (suc i)) (λ t a. rw p at (mixed-next j touched now current i k t))

    -- and the first i
    slots_back : (i : ℕ) → i ≤ 18
        → back_written (spelled (sheet_at b n m f) current) (values_at b (place b j f)) st flags i
        ≡ spelled (sheet_at b n m f) (mixed j touched now current i)
    unfolding back_written
    slots_back zero k = sym (spelled_same b bytes n m f good (mixed j touched now current 0) current (λ t a. mixed-none j touched now current t))
    slots_back (suc i) k = rw (slots_back i (omega arith)) (slot_back i (omega arith))

    -- the sheet, with what the touched slots of the arc have come to
    pub back_written_lem : (cur : List ℕ) → cur ≡ spelled (sheet_at b n m f) current
        → back_written cur (values_at b (place b j f)) st flags 18
        ≡ spelled (sheet_at b n m f) (λ t. pick (and (eqb t.arc j) (touched t)) (now t) (current t))
    back_written_lem cur c =
        rw c (slots_back 18 (omega arith)
        ∙ spelled_same b bytes n m f good (mixed j touched now current 18) _ (λ t a. mixed-all j touched now current t))
