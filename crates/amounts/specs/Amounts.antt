-- One value and what an entry supplies to it, as words: 'two's complement. The least 64-bit number means empty', and an absent number.
-- Assumes nothing.
use Rattle.std.specs.Prelude.{ℕ, zero, suc, ◌+◌, ◌*◌, ◌/◌, ◌%◌, ◌^◌, Bool, List, [], ◌∷◌, map, ◌==◌, nat_le, slice_index, slice_index_or, min, Option, None, Some}
use Rattle.std.proofs.Math.Seq.{paste}
use Rattle.classes.specs.Choice.{pick, or}
use Rattle.wire.specs.Wire.{be64, be_bytes}

abbrev pub empty : ℕ
empty = 9223372036854775808

-- 'at most 10^15 either way'
unfoldable pub near : ℕ → Bool
near n = or (nat_le n 1000000000000000) (nat_le 18445744073709551616 n)

abbrev pub sum : ℕ → ℕ → ℕ
sum a b = (a + b) % 2 ^ 64

-- 15: 'INCREMENT supplies a number to an empty value'; 16: 'a sum beyond 10^15 either way'; 0: neither
unfoldable pub refusal : Bool → ℕ → ℕ → ℕ
refusal add old given =
    pick (given == empty) 0 (pick add (pick (old == empty) 15 (pick (near (sum old given)) 0 16)) 0)

-- ABSOLUTE and a check replace, INCREMENT adds
unfoldable pub changed : Bool → ℕ → ℕ → ℕ
changed add old given = pick add (sum old given) given

-- the lesser of two refusals, where 0 is none
unfoldable pub lesser : ℕ → ℕ → ℕ
lesser a b = pick (a == 0) b (pick (b == 0) a (pick (nat_le a b) a b))

-- a refusal as the code has it, and the lesser of two
unfoldable pub refused : ℕ → Option ℕ
refused zero = None
refused (suc n) = Some (suc n)

unfoldable pub lesser_refusal : Option ℕ → Option ℕ → Option ℕ
lesser_refusal None b = b
lesser_refusal (Some m) None = Some m
lesser_refusal (Some m) (Some n) = Some (min m n)

-- 'six rows of three sets, row first': what a slot is given
unfoldable pub given : List (List ℕ) → ℕ → ℕ
given rows i = slice_index (slice_index_or rows (i / 3) []) (i % 3)

-- the first n of an arc's values, which stand from a place of the sheet on: the least refusal among them
unfoldable pub arc_refusal : List ℕ → ℕ → List (List ℕ) → Bool → ℕ → ℕ
arc_refusal b at rows add zero = 0
arc_refusal b at rows add (suc n) = lesser (arc_refusal b at rows add n) (refusal add (be64 b (at + 8 * n)) (given rows n))

-- the sheet with one value changed, if a number is supplied
unfoldable pub value_written : List ℕ → ℕ → ℕ → Bool → List ℕ
value_written b at word add = pick (word == empty) b (paste b at (be_bytes (changed add (be64 b at) word)) 8)

-- and with the first n changed
unfoldable pub arc_written : List ℕ → ℕ → List (List ℕ) → Bool → ℕ → List ℕ
arc_written b at rows add zero = b
arc_written b at rows add (suc n) = value_written (arc_written b at rows add n) (at + 8 * n) (given rows n) add

-- Which of six values goes to each row, from 0; 6 is past the last, and is empty.
-- 'One value goes to all rows. Two: 1,2,1,1,2,2. Three: 1,2,3,1,3,2. Four or five: as six with trailing `()`.'
unfoldable pub delay_choice : ℕ → List ℕ
delay_choice n =
    pick (n == 1) (0 ∷ 0 ∷ 0 ∷ 0 ∷ 0 ∷ 0 ∷ [])
    (pick (n == 2) (0 ∷ 1 ∷ 0 ∷ 0 ∷ 1 ∷ 1 ∷ [])
    (pick (n == 3) (0 ∷ 1 ∷ 2 ∷ 0 ∷ 2 ∷ 1 ∷ [])
    (0 ∷ 1 ∷ 2 ∷ 3 ∷ 4 ∷ 5 ∷ [])))

-- 'Checks use row 1, two-value checks rows 1 and 2; their other rows are empty.'
unfoldable pub choice : Bool → ℕ → List ℕ
choice check n = pick check (0 ∷ 1 ∷ 6 ∷ 6 ∷ 6 ∷ 6 ∷ []) (delay_choice n)

-- value k of the six that stand in a table from a place on
unfoldable pub value_row : List ℕ → ℕ → ℕ → List ℕ
value_row t at k =
    pick (nat_le 6 k) (empty ∷ empty ∷ empty ∷ [])
    (slice_index t (at + 3 * k) ∷ slice_index t (at + 3 * k + 1) ∷ slice_index t (at + 3 * k + 2) ∷ [])

-- the expanded list
unfoldable pub expanded : List ℕ → ℕ → Bool → ℕ → List (List ℕ)
expanded t at check n = map (value_row t at) (choice check n)
