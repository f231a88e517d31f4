-- A time that digits and points write where they stand in a text.
-- Assumes nothing.
use Rattle.std.specs.Prelude.{ℕ, ◌+◌, Bool, false, List, [], ◌∷◌, eqb, length, drop, ℤ, Option, Some, None, Result, Ok, Err}
use Rattle.classes.specs.Choice.{pick, or}
use Rattle.classes.specs.Classes.{is_digit}
use Rattle.numbershape.specs.declared.NotTime.{NotTime}
use Rattle.numbershape.specs.Value.{number_of}
use Rattle.times.specs.declared.PlainTime.{PlainTime}

abbrev pub is_dotted : ℕ → Bool
is_dotted b = or (is_digit b) (eqb b 46)

-- the digits and points that a text begins with
unfoldable pub dotted : List ℕ → List ℕ
dotted [] = []
dotted (b ∷ r) = pick (is_dotted b) (b ∷ dotted r) []

abbrev pub plain_time : ℤ → ℕ → PlainTime
plain_time z e = record { femtoseconds = z; end = e }

-- a number's time, with where it ends
abbrev pub time_to : ℕ → Result ℤ NotTime → Option PlainTime
time_to e (Ok z) = Some (plain_time z e)
time_to e (Err n) = None

-- what the digits and points from p on write, all of them, with a time scale of 10 ^ scale femtoseconds
unfoldable pub plainly : ℕ → List ℕ → ℕ → Option PlainTime
plainly scale s p = time_to (p + length (dotted (drop p s))) (number_of false scale (dotted (drop p s)))
