-- Document 01's eight worked numbers, and some more, computed by the definition.
-- Assumes nothing.
use Rattle.std.specs.Prelude.{◌^◌, ◌≡◌, refl, true, false, pos, negsuc, ℤ, Result, Ok, Err, Option, Some, None}
use Prim.Native.String.{String}
use Rattle.classes.specs.Text.{bytes}
use Rattle.numbershape.specs.declared.NotTime.{NotTime}
use Rattle.numbershape.specs.declared.NotTime.TheVariants.{Fine, Beyond, Wrong}
use Rattle.numbershape.specs.Shape.{run, signs, digits_then, marked, exponent_fits, fraction_fits, is_number}
use Rattle.numbershape.specs.Shape.{leading, pointed, fraction_of, below_of, power_of, parts_of}
use Rattle.numbershape.specs.Value.{exact, number_of}
use Rattle.numbershape.specs.Places.{found, parts_at}
use Rattle.times.specs.Reading.{number-placed}
use Rattle.times.specs.declared.PlainTime.{PlainTime}
use Rattle.times.specs.Standing.{dotted, plain_time, plainly}

-- a word in a signed place, and in another, with no TIMESCALE: 1 ns, 10 ^ 6 femtoseconds
abbrev pub in_signed : String → Result ℤ NotTime
in_signed s = number_of true 6 (bytes s)

abbrev pub in_unsigned : String → Result ℤ NotTime
in_unsigned s = number_of false 6 (bytes s)

-- 'With no TIMESCALE: ..'
pub eight :
    (in_signed "0.000001" ≡ Ok (pos 1))
    × (in_signed "0.0000001" ≡ Err Fine)
    × (in_signed "1.50e-5" ≡ Ok (pos 15))
    × (in_signed "15e-7" ≡ Err Fine)
    × (in_signed "0e99" ≡ Ok (pos 0))
    × (in_signed "-0" ≡ Ok (pos 0))
    × (in_signed "1000000000" ≡ Ok (pos (10 ^ 15)))
    × (in_signed "1000000000.000001" ≡ Err Beyond)
unfolding run signs digits_then marked exponent_fits fraction_fits is_number leading pointed fraction_of below_of power_of parts_of exact number_of
eight = (refl, refl, refl, refl, refl, refl, refl, refl)

-- 'Neither whole nor within 10^15 is 6'; trailing zeros don't count; a zero exponent; a minus
pub more :
    (in_signed "1e15" ≡ Err Beyond)
    × (in_signed "1000000000.0000000001" ≡ Err Fine)
    × (in_signed "10e-7" ≡ Ok (pos 1))
    × (in_signed "1e-000" ≡ Ok (pos 1000000))
    × (in_signed "-1.5" ≡ Ok (negsuc 1499999))
    × (in_unsigned "0.1" ≡ Ok (pos 100000))
unfolding run signs digits_then marked exponent_fits fraction_fits is_number leading pointed fraction_of below_of power_of parts_of exact number_of
more = (refl, refl, refl, refl, refl, refl)

-- no numbers
pub others :
    (in_unsigned "-0" ≡ Err Wrong)
    × (in_unsigned "+1" ≡ Err Wrong)
    × (in_signed ".5" ≡ Err Wrong)
    × (in_signed "1." ≡ Err Wrong)
    × (in_signed "1e" ≡ Err Wrong)
    × (in_signed "1e+" ≡ Err Wrong)
    × (in_signed "1E3" ≡ Err Wrong)
    × (in_signed "--1" ≡ Err Wrong)
    × (in_signed "" ≡ Err Wrong)
unfolding run signs digits_then marked exponent_fits fraction_fits is_number leading pointed fraction_of below_of power_of parts_of exact number_of
others = (refl, refl, refl, refl, refl, refl, refl, refl, refl)

-- exponents of any size
pub huge :
    (in_signed "1e99999999999999999999" ≡ Err Beyond)
    × (in_signed "1e-99999999999999999999" ≡ Err Fine)
    × (in_signed "0e99999999999999999999" ≡ Ok (pos 0))
    × (in_signed "0e-99999999999" ≡ Ok (pos 0))
unfolding run signs digits_then marked exponent_fits fraction_fits is_number pointed below_of parts_at found exact
huge = (
  number-placed true 6 (bytes "1e99999999999999999999"),
  number-placed true 6 (bytes "1e-99999999999999999999"),
  number-placed true 6 (bytes "0e99999999999999999999"),
  number-placed true 6 (bytes "0e-99999999999"),
)

-- where they stand, from the second byte on
abbrev pub standing : String → Option PlainTime
standing s = plainly 6 (bytes s) 1

pub stood :
    (standing "(1.25:2)" ≡ Some (plain_time (pos 1250000) 5))
    × (standing "(7" ≡ Some (plain_time (pos 7000000) 2))
    × (standing "(0.0000010)" ≡ Some (plain_time (pos 1) 10))
    × (standing "(0.0000001)" ≡ None)
    × (standing "(1.2.3)" ≡ None)
    × (standing "(1.)" ≡ None)
    × (standing "(-1)" ≡ None)
    × (standing "(" ≡ None)
unfolding run signs digits_then marked exponent_fits fraction_fits is_number leading pointed fraction_of below_of power_of parts_of exact number_of dotted plainly
stood = (refl, refl, refl, refl, refl, refl, refl, refl)
