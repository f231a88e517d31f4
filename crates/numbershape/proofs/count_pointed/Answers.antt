-- `numbershape::count_pointed` meets its contract: no point at the end or elsewhere, or one byte and the digits behind it.
use Rattle.std.proofs.Common.{arith}
use Rattle.std.proofs.lemmas.Grind.{common_steps}
use Rattle.numbershape.specs.Places.{pointed_end, pointed-none, pointed-some}
use Rattle.numbershape.proofs.count_pointed.Goals as goal

pub returns-in-Some-eq46 : goal.returns-in-Some-eq46
returns-in-Some-eq46 c = grind (arith, common_steps, pointed-some)

pub returns-in_default : goal.returns-in_default
returns-in_default c = grind (arith, common_steps, pointed-none)

pub returns-in_default-2 : goal.returns-in_default-2
returns-in_default-2 c = grind (arith, common_steps, pointed_end)
