-- A slot and its number among its arc's eighteen; a value and its bits.
-- Assumes nothing.
use Rattle.std.specs.Prelude.{ℕ, zero, suc, ◌+◌, ◌-◌, ◌*◌, ◌/◌, ◌%◌, ◌≤◌, ◌<◌, ◌≡◌, refl, Bool, true, false, List, [], ◌∷◌, map, ◌↔◌, eqb, ℤ, pos, negsuc, nat_abs, length, get_or}
use Rattle.std.proofs.Common.{sym, ap, ◌∙◌, arith, add-zero, zero-add, SFits, eqb-true, eq-eqb}
use Rattle.std.proofs.Math.Option.{none, some}
use Rattle.std.specs.Int.{w64}
use Rattle.classes.specs.Choice.{pick, and}
use Rattle.history.specs.Events.{Value}
use Rattle.history.specs.Ranges.{InRange}
use Rattle.history.specs.Sheet.{Row, r01, r10, r0z, rz1, r1z, rz0, Corner, minimum, typical, maximum, Slot, arc_slots, each}
use Rattle.slots.specs.Slots.{meant, numeral, word_of, row_number_of, corner_number, slot_number, slot_at, same_slot}

-- The number of a slot.

-- a row, a corner and its number, both ways
row_number : (q : ℕ) → q < 6 → row_number_of (get_or (r01 ∷ r10 ∷ r0z ∷ rz1 ∷ r1z ∷ rz0 ∷ []) q rz0) ≡ q
unfolding row_number_of
row_number zero h = refl
row_number (suc zero) h = refl
row_number (suc (suc zero)) h = refl
row_number (suc (suc (suc zero))) h = refl
row_number (suc (suc (suc (suc zero)))) h = refl
row_number (suc (suc (suc (suc (suc zero))))) h = refl
row_number (suc (suc (suc (suc (suc (suc q)))))) h = absurd (omega arith)

corner_number_lem : (r : ℕ) → r < 3 → corner_number (get_or (minimum ∷ typical ∷ maximum ∷ []) r maximum) ≡ r
unfolding corner_number
corner_number_lem zero h = refl
corner_number_lem (suc zero) h = refl
corner_number_lem (suc (suc zero)) h = refl
corner_number_lem (suc (suc (suc r))) h = absurd (omega arith)

row_at : (r : Row) → (row_number_of r < 6) × (get_or (r01 ∷ r10 ∷ r0z ∷ rz1 ∷ r1z ∷ rz0 ∷ []) (row_number_of r) rz0 ≡ r)
unfolding row_number_of
row_at r01 = (omega arith, refl)
row_at r10 = (omega arith, refl)
row_at r0z = (omega arith, refl)
row_at rz1 = (omega arith, refl)
row_at r1z = (omega arith, refl)
row_at rz0 = (omega arith, refl)

corner_at : (c : Corner) → (corner_number c < 3) × (get_or (minimum ∷ typical ∷ maximum ∷ []) (corner_number c) maximum ≡ c)
unfolding corner_number
corner_at minimum = (omega arith, refl)
corner_at typical = (omega arith, refl)
corner_at maximum = (omega arith, refl)

-- slot number i has the number i
pub slot_number_lem : (j i : ℕ) → i < 18 → slot_number (slot_at j i) ≡ i
unfolding slot_number slot_at
slot_number_lem j i h = rw (row_number (i / 3) (omega arith), corner_number_lem (i % 3) (omega arith)) (omega arith)

-- and every slot is the one of its number
pub slot_at_lem : (t : Slot) → slot_at t.arc (slot_number t) ≡ t
unfolding slot_number slot_at
slot_at_lem t =
    let r = row_at t.row in
    let c = corner_at t.corner in
    let q : (3 * row_number_of t.row + corner_number t.corner) / 3 ≡ row_number_of t.row = omega (arith, c.0) in
    let m : (3 * row_number_of t.row + corner_number t.corner) % 3 ≡ corner_number t.corner = omega (arith, c.0) in
    rw (q, m, r.1, c.1)

-- there are eighteen
pub slot_below : (t : Slot) → slot_number t < 18
unfolding slot_number
slot_below t = let r = row_at t.row in let c = corner_at t.corner in omega (arith, r.0, c.0)

-- the test of two slots says that they are the same
pub same_exactly : (t u : Slot) → (same_slot t u ≡ true) ↔ (t ≡ u)
unfolding same_slot
same_exactly t u = (
  λ e. by (eqb t.arc u.arc) refl (eqb (slot_number t) (slot_number u)) refl e,
  λ e. rw (e, eq-eqb u.arc u.arc refl, eq-eqb (slot_number u) (slot_number u) refl),
)
  where
    by : (x : Bool) → eqb t.arc u.arc ≡ x → (y : Bool) → eqb (slot_number t) (slot_number u) ≡ y → and x y ≡ true → t ≡ u
    by true a true b e =
        sym (slot_at_lem t) ∙ rw (eqb-true (slot_number t) (slot_number u) b, eqb-true t.arc u.arc a) (slot_at_lem u)
    by true a false b e = let z : ◌≡◌ {A = ℕ} 0 1 = cc in absurd (omega arith)
    by false a y b e = let z : ◌≡◌ {A = ℕ} 0 1 = cc in absurd (omega arith)

-- The slots of an arc, one after the other.

-- the n numbers from a on
unfoldable count : ℕ → ℕ → List ℕ
count a zero = []
count a (suc n) = a ∷ count (suc a) n

-- what is made of them, one by one
count_at : {A : Type 0} (g : ℕ → A) (a n i : ℕ) (d : A) → i < n → get_or (map g (count a n)) i d ≡ g (a + i)
unfolding count
count_at g a zero i d h = absurd (omega arith)
count_at g a (suc n) zero d h = rw add-zero
count_at g a (suc n) (suc i) d h = let e : a + suc i ≡ suc a + i = omega arith in count_at g (suc a) n i d (omega arith) ∙ ap g (sym e)

-- what is made of an arc's slots, in the order of their numbers
pub slots_at : {A : Type 0} (g : Slot → A) (j i : ℕ) (d : A) → i < 18 → get_or (map g (arc_slots j)) i d ≡ g (slot_at j i)
unfolding arc_slots each count slot_at
slots_at g j i d h = rw zero-add at (count_at (λ k. g (slot_at j k)) 0 18 i d h)

-- eighteen of them
pub slots_length : {A : Type 0} (g : Slot → A) (j : ℕ) → length (map g (arc_slots j)) ≡ 18
unfolding arc_slots each
slots_length g j = refl

-- The bits of a value.

-- 'The least 64-bit number means empty'
pub word_empty : word_of none ≡ 9223372036854775808
unfolding word_of numeral
word_empty = refl

-- and no time does
pub word_time : (z : ℤ) → nat_abs z ≤ 1000000000000000 → (word_of (some z) ≡ 9223372036854775808 → ⊥)
unfolding word_of numeral
word_time (pos n) h e = omega arith
word_time (negsuc n) h e = omega arith

-- 64 bits hold it
pub value-fits : (v : Value) → InRange v → SFits w64 (numeral v)
unfolding numeral
value-fits none r = record { sfits = omega arith }
value-fits (some (pos n)) r = record { sfits = omega arith }
value-fits (some (negsuc n)) r = record { sfits = omega arith }

-- what a number means is spelled by that number
pub numeral-meant : (z : ℤ) → SFits w64 z → numeral (meant z) ≡ z
unfolding meant numeral
numeral-meant (pos n) f = by (eqb n 9223372036854775808) refl
  where
    by : (t : Bool) → eqb n 9223372036854775808 ≡ t → numeral (pick t none (some (pos n))) ≡ pos n
    by true e = let q = eqb-true n 9223372036854775808 e in let l = f.sfits in absurd (omega arith)
    by false e = refl
numeral-meant (negsuc n) f = by (eqb (18446744073709551616 - suc n) 9223372036854775808) refl
  where
    by : (t : Bool) → eqb (18446744073709551616 - suc n) 9223372036854775808 ≡ t → numeral (pick t none (some (negsuc n))) ≡ negsuc n
    by true e =
        let q = eqb-true (18446744073709551616 - suc n) 9223372036854775808 e in
        let l = f.sfits in
        let m : 9223372036854775807 ≡ n = omega arith in
        ap negsuc m
    by false e = refl
