-- The values of one arc, and of several: what the bytes refuse and write for an entry is what the entry's step of each slot's history says.
-- Assumes nothing.
use Prim.Native.Nat.{ℕ, zero, suc, ◌+◌, ◌*◌, ◌≤◌, ◌<◌}
use Rattle.std.specs.Prelude.{◌≡◌, Bool, List, leb, nat_abs, ◌+ℤ◌}
use Rattle.std.proofs.Math.Path.{refl, sym}
use Rattle.std.proofs.Common.{ap, ◌∙◌, arith}
use Rattle.std.proofs.Math.Bool.{true, false}
use Rattle.std.proofs.Math.Option.{none, some}
use Rattle.std.proofs.Math.Dec.{eqb, ltb}
use Rattle.std.proofs.Math.Seq.{paste}
use borrow.Author.Tests.{ltb-true, ltb-false, leb-true, eqb-true, eqb-false, lt-ltb, le-ltb}
use Rattle.classes.specs.Choice.{pick, and, or}
use Rattle.wire.specs.Wire.{Bytes, be64, be_bytes}
use Rattle.sheetparts.specs.Form.{Good, values_at, check_of}
use Rattle.sheetlaws.specs.Sheet.{place}
use Rattle.history.specs.Events.{limit, Value, holds, fails, summed, step, final, fails_with, any_of}
use Rattle.history.proofs.EventLaws.{any_cong}
use Rattle.history.specs.Ranges.{InRange}
use Rattle.history.specs.Sheet as h
use Rattle.history.specs.Sheet.{Slot, Values, Group, absolute, increment, check, Entry, each, amount, giving, below, arc_slots}
use Rattle.amounts.specs.Slots.{word_of, slot_number, slot_at, same_slot, put, spelled, sheet_at}
use Rattle.amounts.specs.Numbers.{slot_number_lem, slot_at_lem, slot_below, same_exactly}
use Rattle.amounts.specs.Spelled.{spelled_same, word_set, word_get}
use Rattle.amounts.specs.Amounts.{empty, lesser, given, refusal, changed, arc_refusal, value_written, arc_written}
use Rattle.amounts.specs.Laws.{first_of, lesser-first, held_refusal, held_first, is_add, word_is-empty, given-none, refusal_is, changed-is}
use Rattle.applying.specs.Judged.{any_below, supply, arc_fails, changed_at}
use Rattle.applying.specs.Bytes.{least_of, written_of}

-- the number that an entry has for a slot; none where it is absent
abbrev pub number : {Word : Type 0} → Entry Word → Slot → Value
number e t = amount (h.rows e.group e.values t.row) t.corner

-- the words `rows` are what the entry supplies, and its times are in range; `add`: it is an INCREMENT
pub record Expanded {Word : Type 0} (e : Entry Word) (rows : List (List ℕ)) (add : Bool) : Type 0 where
  pub adds : add ≡ is_add e.group
  pub words : (i : ℕ) → i < 18 → given rows i ≡ word_of (number e (slot_at 0 i))
  pub times : (t : Slot) → InRange (number e t)

-- an arc's slots, by their numbers
pub by_number : (g : Slot → Bool) (j : ℕ) → any_of g (arc_slots j) ≡ any_of (λ i. g (slot_at j i)) (below 18)
unfolding any_of arc_slots each below slot_at
by_number g j = refl

-- no slots, no refusal
pub none_yet : (F G : ℕ → Bool) → 0 ≡ first_of false (any_of F (below 0)) (any_of G (below 0))
unfolding first_of any_of below
none_yet F G = refl

-- the lesser of two refusals is none: neither is there
pub lesser-zero : (a c : ℕ) → lesser a c ≡ 0 → (a ≡ 0) × (c ≡ 0)
unfolding lesser
lesser-zero a c = by (eqb a 0) refl (eqb c 0) refl (leb a c)
  where
    by : (y : Bool) → eqb a 0 ≡ y → (z : Bool) → eqb c 0 ≡ z → (w : Bool) → pick y c (pick z a (pick w a c)) ≡ 0 → (a ≡ 0) × (c ≡ 0)
    by true p z q w r = (eqb-true a 0 p, r)
    by false p true q w r = (r, eqb-true c 0 q)
    by false p false q true r = absurd (eqb-false a 0 p r)
    by false p false q false r = absurd (eqb-false c 0 q r)

-- nothing is refused among the first i, and so not at any of them
each-zero : (out : List ℕ) (start : ℕ) (rows : List (List ℕ)) (add : Bool) (i k : ℕ) → k < i → arc_refusal out start rows add i ≡ 0
    → refusal add (be64 out (start + 8 * k)) (given rows k) ≡ 0
unfolding arc_refusal
each-zero out start rows add zero k l z = absurd (omega arith)
each-zero out start rows add (suc i) k l z =
    let both : (arc_refusal out start rows add i ≡ 0) × (refusal add (be64 out (start + 8 * i)) (given rows i) ≡ 0) = lesser-zero _ _ z in
    by (eqb k i) refl both.1 (λ g. each-zero out start rows add i k g both.0)
  where
    by : (y : Bool) → eqb k i ≡ y → refusal add (be64 out (start + 8 * i)) (given rows i) ≡ 0
        → (k < i → refusal add (be64 out (start + 8 * k)) (given rows k) ≡ 0) → refusal add (be64 out (start + 8 * k)) (given rows k) ≡ 0
    by true p last before = rw (eqb-true k i p) last
    by false p last before = let q = eqb-false k i p in before (omega arith)

-- a step that does not fail keeps the range
pub held_range : (g : Group) (v w : Value) → InRange v → InRange w → held_refusal (step v (giving g w)) ≡ 0 → InRange (final (step v (giving g w)))
unfolding giving step summed final held_refusal
held_range absolute v none r q z = r
held_range increment v none r q z = r
held_range check v none r q z = r
held_range absolute v (some t) r q z = q
held_range check v (some t) r q z = q
held_range increment none (some t) r q z = absurd (omega arith)
held_range increment (some u) (some t) r q z = by (leb (nat_abs (u +ℤ t)) limit) refl z
  where
    by : (y : Bool) → leb (nat_abs (u +ℤ t)) limit ≡ y → held_refusal (pick y (holds (some (u +ℤ t))) (fails 16)) ≡ 0
        → InRange (final (pick y (holds (some (u +ℤ t))) (fails 16)))
    by true p k = leb-true (nat_abs (u +ℤ t)) limit p
    by false p k = absurd (omega arith)

-- a number other than i is below i + 1 if it is below i
pub one_more : (k i : ℕ) → (k ≡ i → ⊥) → ltb k (suc i) ≡ ltb k i
one_more k i d = by (ltb k i) refl
  where
    by : (y : Bool) → ltb k i ≡ y → ltb k (suc i) ≡ y
    by true p = let q = ltb-true k i p in lt-ltb k (suc i) (omega arith)
    by false p = let q = ltb-false k i p in le-ltb k (suc i) (omega arith)

pub no_bool : ◌≡◌ {A = Bool} false true → ⊥
no_bool p = let z : ◌≡◌ {A = ℕ} 0 1 = cc in omega arith

-- The values with the first slots of an arc changed.

module _ {Word : Type 0} (e : Entry Word) (j : ℕ) (now : Values) where
  -- those numbered below i
  unfoldable partly : ℕ → Values
  partly i t = pick (and (eqb t.arc j) (ltb (slot_number t) i)) (final (step (now t) (supply e t))) (now t)

  -- none
  partly_none : (t : Slot) → partly 0 t ≡ now t
  unfolding partly
  partly_none t = rw (le-ltb (slot_number t) 0 (omega arith)) (by (eqb t.arc j))
    where
      by : (y : Bool) → pick (and y false) (final (step (now t) (supply e t))) (now t) ≡ now t
      by true = refl
      by false = refl

  -- all eighteen
  partly-all : (t : Slot) → partly 18 t ≡ changed_at e (λ k. eqb k j) now t
  unfolding partly changed_at
  partly-all t = rw (lt-ltb (slot_number t) 18 (slot_below t)) (by (eqb t.arc j))
    where
      by : (y : Bool) → pick (and y true) (final (step (now t) (supply e t))) (now t) ≡ pick y (final (step (now t) (supply e t))) (now t)
      by true = refl
      by false = refl

  -- slot i is as it was
  partly_here : (i : ℕ) → i < 18 → partly i (slot_at j i) ≡ now (slot_at j i)
  unfolding partly
  partly_here i l = rw (slot_number_lem j i l, le-ltb i i (omega arith)) (by (eqb (slot_at j i).arc j))
    where
      by : (y : Bool) → pick (and y false) (final (step (now (slot_at j i)) (supply e (slot_at j i)))) (now (slot_at j i)) ≡ now (slot_at j i)
      by true = refl
      by false = refl

  -- and is changed next
  partly-next : (i : ℕ) → i < 18 → (t : Slot)
      → put (partly i) (slot_at j i) (final (step (now (slot_at j i)) (supply e (slot_at j i)))) t ≡ partly (suc i) t
  unfolding partly put same_slot slot_at
  partly-next i l t = rw (slot_number_lem j i l) (by (eqb t.arc j) refl (eqb (slot_number t) i) refl)
    where
      after : Slot → Value
      after u = final (step (now u) (supply e u))

      by : (y : Bool) → eqb t.arc j ≡ y → (z : Bool) → eqb (slot_number t) i ≡ z
          → pick (and y z) (after (slot_at j i)) (pick (and y (ltb (slot_number t) i)) (after t) (now t))
          ≡ pick (and y (ltb (slot_number t) (suc i))) (after t) (now t)
      by false p z q = refl
      by true p true q =
          let k = eqb-true (slot_number t) i q in
          let a = eqb-true t.arc j p in
          let s : slot_at j i ≡ t = ap (λ g. slot_at g i) (sym a) ∙ ap (slot_at t.arc) (sym k) ∙ slot_at_lem t in
          rw (s, lt-ltb (slot_number t) (suc i) (omega arith))
      by true p false q = rw (one_more (slot_number t) i (eqb-false (slot_number t) i q))

-- putting in what is there changes nothing
put_same : (v : Values) (u t : Slot) → put v u (v u) t ≡ v t
unfolding put
put_same v u t = by (same_slot t u) refl
  where
    by : (y : Bool) → same_slot t u ≡ y → pick y (v u) (v t) ≡ v t
    by true p = ap v (sym ((same_exactly t u).0 p))
    by false p = refl

-- Several things that pass a test.

-- the least refusal is none, and so is that of each thing that passes the test
least_zero : (hit : ℕ → Bool) (r : ℕ → ℕ) (k j : ℕ) → j < k → hit j ≡ true → least_of hit r k ≡ 0 → r j ≡ 0
unfolding least_of
least_zero hit r zero j l p z = absurd (omega arith)
least_zero hit r (suc k) j l p z = by (eqb j k) refl (hit k) refl z (λ g w. least_zero hit r k j g p w)
  where
    by : (y : Bool) → eqb j k ≡ y → (c : Bool) → hit k ≡ c → pick c (lesser (least_of hit r k) (r k)) (least_of hit r k) ≡ 0
        → (j < k → least_of hit r k ≡ 0 → r j ≡ 0) → r j ≡ 0
    by true q true a w before = rw (eqb-true j k q) (lesser-zero (least_of hit r k) (r k) w).1
    by true q false a w before = absurd (no_bool (sym a ∙ (rw (eqb-true j k q) at p)))
    by false q true a w before = let d = eqb-false j k q in before (omega arith) (lesser-zero (least_of hit r k) (r k) w).0
    by false q false a w before = let d = eqb-false j k q in before (omega arith) w

-- and that of the things before the last
least-before : (hit : ℕ → Bool) (r : ℕ → ℕ) (k : ℕ) → least_of hit r (suc k) ≡ 0 → least_of hit r k ≡ 0
unfolding least_of
least-before hit r k = by (hit k)
  where
    by : (c : Bool) → pick c (lesser (least_of hit r k) (r k)) (least_of hit r k) ≡ 0 → least_of hit r k ≡ 0
    by true w = (lesser-zero (least_of hit r k) (r k) w).0
    by false w = w

or-false : (c : Bool) → or c false ≡ c
or-false true = refl
or-false false = refl

-- an arc whose values are the same fails as it did
fails_same : {Word : Type 0} (e : Entry Word) (c j : ℕ) (v w : Values) → ((t : Slot) → t.arc ≡ j → v t ≡ w t)
    → arc_fails e c v j ≡ arc_fails e c w j
unfolding arc_fails slot_at
fails_same e c j v w s =
    by_number (λ (t : Slot). fails_with c (step (v t) (supply e t))) j
    ∙ any_cong _ _ (below 18) (λ i k. ap (λ y. fails_with c (step y (supply e (slot_at j i)))) (s (slot_at j i) refl))
    ∙ sym (by_number (λ (t : Slot). fails_with c (step (w t) (supply e t))) j)

-- the values with those of the arcs below k that pass the test changed: the others are as they were
still : {Word : Type 0} (e : Entry Word) (hit : ℕ → Bool) (k : ℕ) (now : Values) (t : Slot) → k ≤ t.arc
    → changed_at e (λ j. and (hit j) (ltb j k)) now t ≡ now t
unfolding changed_at
still e hit k now t a = rw (le-ltb t.arc k (omega arith)) (by (hit t.arc))
  where
    by : (c : Bool) → pick (and c false) (final (step (now t) (supply e t))) (now t) ≡ now t
    by true = refl
    by false = refl

-- and then, if it passes, arc k's too
changed-next : {Word : Type 0} (e : Entry Word) (hit : ℕ → Bool) (k : ℕ) (now : Values) (t : Slot) → hit k ≡ true
    → changed_at e (λ j. eqb j k) (changed_at e (λ j. and (hit j) (ltb j k)) now) t ≡ changed_at e (λ j. and (hit j) (ltb j (suc k))) now t
unfolding changed_at
changed-next e hit k now t p = by (eqb t.arc k) refl
  where
    after : Value → Value
    after v = final (step v (supply e t))

    by : (y : Bool) → eqb t.arc k ≡ y
        → pick y (after (pick (and (hit t.arc) (ltb t.arc k)) (after (now t)) (now t)))
        (pick (and (hit t.arc) (ltb t.arc k)) (after (now t)) (now t))
        ≡ pick (and (hit t.arc) (ltb t.arc (suc k))) (after (now t)) (now t)
    by true q =
        let a = eqb-true t.arc k q in
        rw (a, p, le-ltb k k (omega arith), lt-ltb k (suc k) (omega arith))
    by false q = rw (one_more t.arc k (eqb-false t.arc k q))

-- if it does not, the test is the same
unchanged_next : {Word : Type 0} (e : Entry Word) (hit : ℕ → Bool) (k : ℕ) (now : Values) (t : Slot) → hit k ≡ false
    → changed_at e (λ j. and (hit j) (ltb j k)) now t ≡ changed_at e (λ j. and (hit j) (ltb j (suc k))) now t
unfolding changed_at
unchanged_next e hit k now t p = by (eqb t.arc k) refl
  where
    by : (y : Bool) → eqb t.arc k ≡ y
        → pick (and (hit t.arc) (ltb t.arc k)) (final (step (now t) (supply e t))) (now t)
        ≡ pick (and (hit t.arc) (ltb t.arc (suc k))) (final (step (now t) (supply e t))) (now t)
    by true q = let a = eqb-true t.arc k q in rw (a, p)
    by false q = rw (one_more t.arc k (eqb-false t.arc k q))

module _ (b : List ℕ) (bytes : Bytes b) (n m f : ℕ) (good : check_of b ≡ Good n m f) {Word : Type 0} (e : Entry Word)
    (rows : List (List ℕ)) (add : Bool) (x : Expanded e rows add) where
  -- the place of arc j's values
  abbrev from : ℕ → ℕ
  from j = values_at b (place b j f)

  -- what arc j refuses on a sheet
  abbrev refuses : List ℕ → ℕ → ℕ
  refuses out j = arc_refusal out (from j) rows add 18

  -- the word for a slot, whichever its arc
  word_is : (j i : ℕ) → i < 18 → given rows i ≡ word_of (number e (slot_at j i))
  unfolding slot_at
  word_is j i l = x.words i l

  module _ (now : Values) (fine : (t : Slot) → InRange (now t)) where
    -- one slot
    slot_refusal_lem : (j i : ℕ) → j < m → i < 18
        → refusal add (be64 (spelled (sheet_at b n m f) now) (from j + 8 * i)) (given rows i)
        ≡ held_refusal (step (now (slot_at j i)) (supply e (slot_at j i)))
    unfolding supply
    slot_refusal_lem j i l g =
        let u = slot_at j i in
        rw (word_get b bytes n m f good now fine j i l g, word_is j i g, x.adds)
        (refusal_is e.group (now u) (number e u) (fine u) (x.times u))

    -- the first i of them
    slots-refusal : (j i : ℕ) → j < m → i ≤ 18 → arc_refusal (spelled (sheet_at b n m f) now) (from j) rows add i
        ≡ first_of false (any_of (λ k. fails_with 15 (step (now (slot_at j k)) (supply e (slot_at j k)))) (below i))
        (any_of (λ k. fails_with 16 (step (now (slot_at j k)) (supply e (slot_at j k)))) (below i))
    unfolding arc_refusal
    slots-refusal j zero l g = none_yet _ _
    slots-refusal j (suc i) l g =
        let u = slot_at j i in
        rw (slots-refusal j i l (omega arith), slot_refusal_lem j i l (omega arith), held_first (now u) (supply e u), lesser-first, any_below, any_below)

    -- the arc refuses what its slots refuse
    pub arc-refusal : (j : ℕ) → j < m → arc_refusal (spelled (sheet_at b n m f) now) (values_at b (place b j f)) rows add 18
        ≡ first_of false (arc_fails e 15 now j) (arc_fails e 16 now j)
    unfolding arc_fails
    arc-refusal j l =
        rw (
          by_number (λ (t : Slot). fails_with 15 (step (now t) (supply e t))) j,
          by_number (λ (t : Slot). fails_with 16 (step (now t) (supply e t))) j,
        )
        (slots-refusal j 18 l (omega arith))

    -- what is left in slot i of an arc that refuses nothing is in range
    slot_range : (j i : ℕ) → j < m → i < 18 → refuses (spelled (sheet_at b n m f) now) j ≡ 0
        → InRange (final (step (now (slot_at j i)) (supply e (slot_at j i))))
    unfolding supply
    slot_range j i l g z =
        let u = slot_at j i in
        let r : held_refusal (step (now u) (giving e.group (number e u))) ≡ 0
        = sym (slot_refusal_lem j i l g) ∙ each-zero _ (from j) rows add 18 i g z in
        held_range e.group (now u) (number e u) (fine u) (x.times u) r

    -- and so any slot of it
    change_range : (t : Slot) → t.arc < m → refuses (spelled (sheet_at b n m f) now) t.arc ≡ 0 → InRange (final (step (now t) (supply e t)))
    change_range t l z = rw (slot_at_lem t) at (slot_range t.arc (slot_number t) l (slot_below t) z)

    -- and all values, while the arc's are written
    partly_range : (j i : ℕ) → j < m → refuses (spelled (sheet_at b n m f) now) j ≡ 0 → (t : Slot) → InRange (partly e j now i t)
    unfolding partly
    partly_range j i l z t = by (eqb t.arc j) refl (ltb (slot_number t) i)
      where
        by : (y : Bool) → eqb t.arc j ≡ y → (w : Bool) → InRange (pick (and y w) (final (step (now t) (supply e t))) (now t))
        by false p w = fine t
        by true p false = fine t
        by true p true = let a = eqb-true t.arc j p in change_range t (omega arith) (rw a z)

    -- the values of an arc that refuses nothing stay in range
    pub arc_in_range : (j : ℕ) → j < m → arc_refusal (spelled (sheet_at b n m f) now) (values_at b (place b j f)) rows add 18 ≡ 0
        → (t : Slot) → InRange (changed_at e (λ k. eqb k j) now t)
    arc_in_range j l z t = rw (partly-all e j now t) at (partly_range j 18 l z t)

    -- one value written
    slot_written_lem : (j i : ℕ) → j < m → i < 18 → refuses (spelled (sheet_at b n m f) now) j ≡ 0
        → value_written (spelled (sheet_at b n m f) (partly e j now i)) (from j + 8 * i) (given rows i) add
        ≡ spelled (sheet_at b n m f) (put (partly e j now i) (slot_at j i) (final (step (now (slot_at j i)) (supply e (slot_at j i)))))
    unfolding value_written supply
    slot_written_lem j i l g z = rw (word_is j i g) (by (eqb (word_of (number e u)) empty) refl)
      where
        u : Slot
        u = slot_at j i

        v : Values
        v = partly e j now i

        r : refusal (is_add e.group) (word_of (now u)) (word_of (number e u)) ≡ 0
        r =
            rw (word_get b bytes n m f good now fine j i l g, word_is j i g, x.adds)
            at (each-zero (spelled (sheet_at b n m f) now) (from j) rows add 18 i g z)

        by : (y : Bool) → eqb (word_of (number e u)) empty ≡ y
            → pick y (spelled (sheet_at b n m f) v)
            (paste (spelled (sheet_at b n m f) v) (from j + 8 * i)
            (be_bytes (changed add (be64 (spelled (sheet_at b n m f) v) (from j + 8 * i)) (word_of (number e u)))) 8)
            ≡ spelled (sheet_at b n m f) (put v u (final (step (now u) (giving e.group (number e u)))))
        by true p =
            let a : number e u ≡ none = (word_is-empty (number e u) (x.times u)).0 p in
            rw (a, given-none e.group (now u), ← partly_here e j now i g)
            (sym (spelled_same b bytes n m f good (put v u (v u)) v (λ t k. put_same v u t)))
        by false p =
            let a : number e u ≡ none → ⊥ = λ q. no_bool (sym p ∙ (word_is-empty (number e u) (x.times u)).1 q) in
            rw (
              word_get b bytes n m f good v (partly_range j i l z) j i l g,
              partly_here e j now i g,
              x.adds,
              changed-is e.group (now u) (number e u) (fine u) (x.times u) a r,
            )
            (word_set b bytes n m f good v j i (final (step (now u) (giving e.group (number e u)))) l g)

    -- and the first i
    slots-written : (j i : ℕ) → j < m → i ≤ 18 → refuses (spelled (sheet_at b n m f) now) j ≡ 0
        → arc_written (spelled (sheet_at b n m f) now) (from j) rows add i ≡ spelled (sheet_at b n m f) (partly e j now i)
    unfolding arc_written
    slots-written j zero l g z = sym (spelled_same b bytes n m f good (partly e j now 0) now (λ t k. partly_none e j now t))
    slots-written j (suc i) l g z =
        rw (slots-written j i l (omega arith) z) (slot_written_lem j i l (omega arith) z
        ∙ spelled_same b bytes n m f good (put (partly e j now i) (slot_at j i) (final (step (now (slot_at j i)) (supply e (slot_at j i)))))
        (partly e j now (suc i)) (λ t k. partly-next e j now i (omega arith) t))

    -- the arc's bytes, written, spell the values with the arc's changed
    pub arc-written : (j : ℕ) → j < m → arc_refusal (spelled (sheet_at b n m f) now) (values_at b (place b j f)) rows add 18 ≡ 0
        → arc_written (spelled (sheet_at b n m f) now) (values_at b (place b j f)) rows add 18
        ≡ spelled (sheet_at b n m f) (changed_at e (λ k. eqb k j) now)
    arc-written j l z =
        slots-written j 18 l (omega arith) z ∙ spelled_same b bytes n m f good (partly e j now 18) _ (λ t k. partly-all e j now t)

  -- Several arcs.

  module _ (now : Values) (fine : (t : Slot) → InRange (now t)) where
    -- those below k that pass the test refuse what their slots refuse
    pub hits-refusal : (hit : ℕ → Bool) (k : ℕ) → k ≤ m
        → least_of hit (λ j. arc_refusal (spelled (sheet_at b n m f) now) (values_at b (place b j f)) rows add 18) k
        ≡ first_of false (any_of (λ j. and (hit j) (arc_fails e 15 now j)) (below k)) (any_of (λ j. and (hit j) (arc_fails e 16 now j)) (below k))
    unfolding least_of
    hits-refusal hit zero l = none_yet _ _
    hits-refusal hit (suc k) l =
        rw (hits-refusal hit k (omega arith), arc-refusal now fine k (omega arith), any_below, any_below) (by (hit k) _ _)
      where
        by : (c p q : Bool)
            → pick c (lesser (first_of false p q) (first_of false (arc_fails e 15 now k) (arc_fails e 16 now k))) (first_of false p q)
            ≡ first_of false (or p (and c (arc_fails e 15 now k))) (or q (and c (arc_fails e 16 now k)))
        by true p q = lesser-first false p q false (arc_fails e 15 now k) (arc_fails e 16 now k)
        by false p q = rw (or-false p, or-false q)

    -- if they refuse nothing, the values stay in range
    pub hits_in_range : (hit : ℕ → Bool) (k : ℕ) → k ≤ m
        → least_of hit (λ j. arc_refusal (spelled (sheet_at b n m f) now) (values_at b (place b j f)) rows add 18) k ≡ 0
        → (t : Slot) → InRange (changed_at e (λ j. and (hit j) (ltb j k)) now t)
    unfolding changed_at
    hits_in_range hit k l z t = by (hit t.arc) refl (ltb t.arc k) refl
      where
        by : (c : Bool) → hit t.arc ≡ c → (y : Bool) → ltb t.arc k ≡ y → InRange (pick (and c y) (final (step (now t) (supply e t))) (now t))
        by false p y q = fine t
        by true p false q = fine t
        by true p true q =
            let g = ltb-true t.arc k q in
            change_range now fine t (omega arith) (least_zero hit (refuses (spelled (sheet_at b n m f) now)) k t.arc g p z)

    -- arc k refuses nothing, on the sheet with those before it written
    next-refusal : (hit : ℕ → Bool) (k : ℕ) → k < m → ((t : Slot) → InRange (changed_at e (λ j. and (hit j) (ltb j k)) now t))
        → refuses (spelled (sheet_at b n m f) (changed_at e (λ j. and (hit j) (ltb j k)) now)) k ≡ refuses (spelled (sheet_at b n m f) now) k
    next-refusal hit k l r =
        let same : (t : Slot) → t.arc ≡ k → changed_at e (λ j. and (hit j) (ltb j k)) now t ≡ now t
        = λ t a. still e hit k now t (omega arith) in
        arc-refusal _ r k l ∙ rw (fails_same e 15 k _ now same, fails_same e 16 k _ now same) (sym (arc-refusal now fine k l))

    -- and their bytes, written, spell the values with theirs changed
    pub hits-written : (hit : ℕ → Bool) (k : ℕ) → k ≤ m
        → least_of hit (λ j. arc_refusal (spelled (sheet_at b n m f) now) (values_at b (place b j f)) rows add 18) k ≡ 0
        → written_of hit (λ j o. arc_written o (values_at b (place b j f)) rows add 18) (spelled (sheet_at b n m f) now) k
        ≡ spelled (sheet_at b n m f) (changed_at e (λ j. and (hit j) (ltb j k)) now)
    unfolding written_of
    hits-written hit zero l z =
        sym (spelled_same b bytes n m f good (changed_at e (λ j. and (hit j) (ltb j 0)) now) now (λ t g. still e hit 0 now t (omega arith)))
    hits-written hit (suc k) l z =
        let before = least-before hit (refuses (spelled (sheet_at b n m f) now)) k z in
        let r = hits_in_range hit k (omega arith) before in
        rw (hits-written hit k (omega arith) before) (by r (hit k) refl)
      where
        old : Values
        old = changed_at e (λ j. and (hit j) (ltb j k)) now

        by : ((t : Slot) → InRange (old t)) → (c : Bool) → hit k ≡ c
            → pick c (arc_written (spelled (sheet_at b n m f) old) (values_at b (place b k f)) rows add 18) (spelled (sheet_at b n m f) old)
            ≡ spelled (sheet_at b n m f) (changed_at e (λ j. and (hit j) (ltb j (suc k))) now)
        by r true p =
            let w = least_zero hit (refuses (spelled (sheet_at b n m f) now)) (suc k) k (omega arith) p z in
            arc-written old r k (omega arith) (next-refusal hit k (omega arith) r ∙ w)
            ∙ spelled_same b bytes n m f good (changed_at e (λ j. eqb j k) old) _ (λ t g. changed-next e hit k now t p)
        by r false p = spelled_same b bytes n m f good old _ (λ t g. unchanged_next e hit k now t p)
