-- A number's exact value in femtoseconds, and what is answered for a word at a number's place (document 01, 'Numbers and times').
-- Assumes nothing.
use Rattle.std.specs.Prelude.{ℕ, ◌+◌, ◌*◌, ◌/◌, ◌%◌, ◌^◌, Bool, List, [], ◌∷◌, ◌++◌, eqb, leb, length, ℤ, pos, neg_ℤ, Result, Ok, Err}
use Rattle.classes.specs.Choice.{pick}
use Rattle.numbershape.specs.Shape.{is_number, Written, parts_of}
use Rattle.numbershape.specs.declared.NotTime.{NotTime}
use Rattle.numbershape.specs.declared.NotTime.TheVariants.{Fine, Beyond, Wrong}

-- the number that digits write behind a
abbrev pub horner : ℕ → List ℕ → ℕ
horner a [] = a
horner a (d ∷ ds) = horner (a * 10 + d) ds

-- 'at most 10^15 either way'
abbrev pub limit : ℕ
limit = 10 ^ 15

-- q with its sign
abbrev pub with_sign : Bool → ℕ → ℤ
with_sign minus q = pick minus (neg_ℤ (pos q)) (pos q)

-- q whole femtoseconds: a time, if they are not too many
abbrev pub at_most : Bool → ℕ → Result ℤ NotTime
at_most minus q = pick (leb q limit) (Ok (with_sign minus q)) (Err Beyond)

-- 'A time is the exact product in femtoseconds: whole, and at most 10^15 either way.' Here m * 10 ^ up / 10 ^ down
unfoldable pub exact : Bool → ℕ → ℕ → ℕ → Result ℤ NotTime
exact minus m up down = pick (eqb ((m * 10 ^ up) % 10 ^ down) 0) (at_most minus ((m * 10 ^ up) / 10 ^ down)) (Err Fine)

-- a number as written stands for (digits n) * 10 ^ (up n) / 10 ^ (down n)
abbrev pub digits : Written → ℕ
digits n = horner 0 (n.whole ++ n.fraction)

abbrev pub up : Written → ℕ
up n = pick n.below 0 (horner 0 n.power)

abbrev pub down : Written → ℕ
down n = length n.fraction + pick n.below (horner 0 n.power) 0

-- what a word at a number's place is, signed or not, with a time scale of 10 ^ scale femtoseconds
unfoldable pub number_of : Bool → ℕ → List ℕ → Result ℤ NotTime
number_of signed scale w =
    let n = parts_of signed w in
    pick (is_number signed w) (exact n.minus (digits n) (scale + up n) (down n)) (Err Wrong)

-- the paper's number for each answer: none, 0, for a time; 'time not a whole femtosecond'; 'whole, but beyond 10^15';
-- a word of the wrong shape is a token that no carried file goes on with
abbrev pub refusal : Result ℤ NotTime → ℕ
refusal (Ok z) = 0
refusal (Err Fine) = 6
refusal (Err Beyond) = 7
refusal (Err Wrong) = 4

-- and its value in femtoseconds
abbrev pub femtoseconds : Result ℤ NotTime → ℤ
femtoseconds (Ok z) = z
femtoseconds (Err Fine) = pos 0
femtoseconds (Err Beyond) = pos 0
femtoseconds (Err Wrong) = pos 0
