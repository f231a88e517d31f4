-- The shape of a number (document 01, 'Numbers and times'; document 000, A.1.7), and its parts as they are written.
-- Assumes nothing.
use Rattle.std.specs.Prelude.{ℕ, suc, ◌+◌, ◌-◌, Bool, false, List, [], ◌∷◌, eqb, length, get_or, take, drop}
use Rattle.classes.specs.Choice.{pick, or, and}
use Rattle.classes.specs.Classes.{is_digit}

-- the byte that a text begins with; 0, which no number has, where it is empty
abbrev pub first : List ℕ → ℕ
first w = get_or w 0 0

-- 'integer ::= decimal_digit { decimal_digit }': how many digits a text begins with
unfoldable pub run : List ℕ → ℕ
run [] = 0
run (b ∷ r) = pick (is_digit b) (suc (run r)) 0

-- 'sign := + | -', 'a sign or none': 1 where a text begins with a sign, else 0
unfoldable pub signs : List ℕ → ℕ
signs w = pick (or (eqb (first w) 43) (eqb (first w) 45)) 1 0

-- 'digits', at least one, and behind them what `rest` takes
unfoldable pub digits_then : (List ℕ → Bool) → List ℕ → Bool
digits_then rest w = pick (eqb (run w) 0) false (rest (drop (run w) w))

-- nothing more
abbrev pub is_end : List ℕ → Bool
is_end w = eqb (length w) 0

-- 'e, a sign or none': how many bytes that takes, 0 without an e
unfoldable pub marked : List ℕ → ℕ
marked w = pick (eqb (first w) 101) (1 + signs (drop 1 w)) 0

-- 'optionally e, a sign or none, and digits'
unfoldable pub exponent_fits : List ℕ → Bool
exponent_fits w = pick (eqb (first w) 101) (digits_then is_end (drop (marked w) w)) (is_end w)

-- 'optionally . and digits'
unfoldable pub fraction_fits : List ℕ → Bool
fraction_fits w = pick (eqb (first w) 46) (digits_then exponent_fits (drop 1 w)) (exponent_fits w)

-- 'Only a signed place also takes a leading + or -.' How many bytes that is
abbrev pub lead : Bool → List ℕ → ℕ
lead signed w = pick signed (signs w) 0

-- 'A number is digits, optionally . and digits, optionally e, a sign or none, and digits.'
unfoldable pub is_number : Bool → List ℕ → Bool
is_number signed w = digits_then fraction_fits (drop (lead signed w) w)

-- the digits that bytes stand for
abbrev pub digits_of : List ℕ → List ℕ
digits_of [] = []
digits_of (b ∷ r) = (b - 48) ∷ digits_of r

-- the digits that a text begins with
unfoldable pub leading : List ℕ → List ℕ
leading w = digits_of (take (run w) w)

-- a number as written: its sign, the digits before and after the point, the exponent's sign and digits
pub record Written : Type 0 where
  pub minus : Bool
  pub whole : List ℕ
  pub fraction : List ℕ
  pub below : Bool
  pub power : List ℕ

-- '. and digits': how many bytes that takes, 0 without a point
unfoldable pub pointed : List ℕ → ℕ
pointed w = pick (eqb (first w) 46) (1 + run (drop 1 w)) 0

-- the digits behind a point, where there is one
unfoldable pub fraction_of : List ℕ → List ℕ
fraction_of w = pick (eqb (first w) 46) (leading (drop 1 w)) []

-- whether an exponent is below zero, and its digits
unfoldable pub below_of : List ℕ → Bool
below_of w = and (eqb (first w) 101) (eqb (first (drop 1 w)) 45)

unfoldable pub power_of : List ℕ → List ℕ
power_of w = leading (drop (marked w) w)

-- the parts of a word: from `body` on without its leading sign, from `tail` on behind the whole digits, from `rest` on behind the fraction
unfoldable pub parts_of : Bool → List ℕ → Written
parts_of signed w =
    let body = drop (lead signed w) w in
    let tail = drop (run body) body in
    let rest = drop (pointed tail) tail in
    record {
      minus = and signed (eqb (first w) 45);
      whole = leading body;
      fraction = fraction_of tail;
      below = below_of rest;
      power = power_of rest;
    }
