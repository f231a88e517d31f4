-- `times::read_plain` meets its contract: digits and points that begin otherwise, or go on with a point, are no time; the others are read in one
-- pass, or by `read_any` where they are finer than the scale.
use Rattle.std.proofs.Common.{arith}
use Rattle.std.proofs.lemmas.Grind.{common_steps}
use Rattle.times.specs.Plain.{plain_stands}
use Rattle.times.specs.StandingLaws.{plainly-none, plainly-more, plainly_any, plainly-value}
use Rattle.times.proofs.read_plain.Goals as goal

pub returns-in_err-value : goal.returns-in_err-value
returns-in_err-value c = grind (arith, common_steps, plainly-none)

pub returns-then-is_point : goal.returns-then-is_point
returns-then-is_point c = grind (arith, plain_stands, plainly-more)

pub returns-then-unit-fraction : goal.returns-then-unit-fraction
returns-then-unit-fraction c = grind (arith, plain_stands, plainly_any)

pub returns : goal.returns
returns c = grind (arith, common_steps, plain_stands, plainly-value)
