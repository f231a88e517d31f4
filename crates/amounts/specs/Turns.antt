-- One turn of each loop over an arc's values, bits there and back, and a list of six.
-- Assumes nothing.
use Rattle.std.specs.Prelude.{◌≡◌, ℕ, zero, suc, ◌+◌, ◌*◌, ◌^◌, ◌<◌, min, Bool, true, false, not, eqb, nat_le, List, [], ◌∷◌, length, ℤ, slice_index_or, None, Some, refl, Option, is_some, unwrap_or}
use Rattle.classes.specs.Choice.{pick}
use Rattle.std.proofs.Common.{add-one, ne_eqb, arith, to_z, of_z}
use Rattle.std.specs.Int.{w64}
use mir.ValLaws.{of_z-to_z}
use Rattle.wire.specs.Wire.{be64}
use Rattle.amounts.specs.Amounts.{refusal, refused, lesser, lesser_refusal, given, arc_refusal, value_written, arc_written}

-- the lesser of two refusals as the code has them; which is none
pub lesser-refused : (m n : ℕ) → lesser_refusal (refused m) (refused n) ≡ refused (lesser m n)
unfolding lesser_refusal refused lesser
lesser-refused zero n = refl
lesser-refused (suc m) zero = rw (ne_eqb (suc m) 0 (λ e. omega arith)) refl
lesser-refused (suc m) (suc n) = rw (ne_eqb (suc m) 0 (λ e. omega arith), ne_eqb (suc n) 0 (λ e. omega arith)) (by (nat_le (suc m) (suc n)) refl)
  where
    by : (t : Bool) → nat_le (suc m) (suc n) ≡ t → Some (min (suc m) (suc n)) ≡ refused (pick t (suc m) (suc n))
    by true e = grind arith
    by false e = grind arith

pub none-is : (r : Option ℕ) (n : ℕ) (none : Bool) → r ≡ refused n → is_some r ≡ not none → eqb n 0 ≡ none
unfolding refused
none-is r zero none e s = grind arith
none-is r (suc n) none e s = grind arith

pub none-refused : (n : ℕ) → refused n ≡ None → n ≡ 0
unfolding refused
none-refused zero e = refl
none-refused (suc n) e = grind arith

pub some-refused : (n k : ℕ) → refused n ≡ Some k → (k ≡ n) × (k ≡ 0 → ⊥)
unfolding refused
some-refused zero k e = grind arith
some-refused (suc n) k e = (grind arith, λ z. grind arith)

-- the number, or 0
pub number-is : (n : ℕ) → unwrap_or (refused n) 0 ≡ n
unfolding refused
number-is zero = refl
number-is (suc n) = refl

pub refusal-more : (b : List ℕ) (at : ℕ) (rows : List (List ℕ)) (add : Bool) (n : ℕ)
    → arc_refusal b at rows add (n + 1) ≡ lesser (arc_refusal b at rows add n) (refusal add (be64 b (at + 8 * n)) (given rows n))
unfolding arc_refusal
refusal-more b at rows add n = rw add-one

pub written-more : (b : List ℕ) (at : ℕ) (rows : List (List ℕ)) (add : Bool) (n : ℕ)
    → arc_written b at rows add (n + 1) ≡ value_written (arc_written b at rows add n) (at + 8 * n) (given rows n) add
unfolding arc_written
written-more b at rows add n = rw add-one

-- bits that are read as signed, and then written
pub bits_back : (z : ℤ) (n : ℕ) → n < 2 ^ 64 → z ≡ to_z w64 n → of_z w64 (to_z w64 (of_z w64 z)) ≡ n
bits_back z n h e =
    let f : of_z w64 (to_z w64 n) ≡ n = of_z-to_z w64 n (record { fits = h }) in
    rw (e, f) f

-- the six elements of a list, read one by one
pub six : {A : Type 0} (l : List A) (d : A) → length l ≡ 6
    → l ≡ slice_index_or l 0 d ∷ slice_index_or l 1 d ∷ slice_index_or l 2 d ∷ slice_index_or l 3 d ∷ slice_index_or l 4 d ∷ slice_index_or l 5 d ∷ []
six (a ∷ b ∷ c ∷ x ∷ y ∷ z ∷ []) d e = refl
six [] d e = absurd (omega arith)
six (a ∷ []) d e = absurd (omega arith)
six (a ∷ b ∷ []) d e = absurd (omega arith)
six (a ∷ b ∷ c ∷ []) d e = absurd (omega arith)
six (a ∷ b ∷ c ∷ x ∷ []) d e = absurd (omega arith)
six (a ∷ b ∷ c ∷ x ∷ y ∷ []) d e = absurd (omega arith)
six (a ∷ b ∷ c ∷ x ∷ y ∷ z ∷ w ∷ r) d e = absurd (omega arith)
