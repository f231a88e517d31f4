-- `numbershape::count_signs` meets its contract: a plus, a minus, or neither.
use Rattle.std.proofs.Common.{arith}
use Rattle.std.proofs.lemmas.Grind.{common_steps}
use Rattle.numbershape.specs.Places.{signs-is, signs_end}
use Rattle.numbershape.proofs.count_signs.Goals as goal

pub returns-in-Some-eq43 : goal.returns-in-Some-eq43
returns-in-Some-eq43 c = grind (arith, common_steps, signs-is)

pub returns-in-Some-eq43-2 : goal.returns-in-Some-eq43-2
returns-in-Some-eq43-2 c = grind (arith, common_steps, signs-is)

pub returns-in_default : goal.returns-in_default
returns-in_default c = grind (arith, common_steps, signs-is)

pub returns-in_default-2 : goal.returns-in_default-2
returns-in_default-2 c = grind (arith, common_steps, signs_end)
