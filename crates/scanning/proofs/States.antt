-- The two states of a word.
-- Assumes nothing.
use Rattle.std.specs.Prelude.{◌<◌, ◌≡◌, refl, Bool, true, false, not, eqb}
use Rattle.std.proofs.Common.{arith}
use Rattle.scanning.specs.Runs.{state_of}

pub state_low : (b : Bool) → state_of b < 2
state_low true = omega arith
state_low false = omega arith

pub outside_is : (b : Bool) → eqb (state_of b) 0 ≡ not b
outside_is true = refl
outside_is false = refl
