-- `times::scaled` meets its contract: up, or down with the digits that are cut, by the two ways of `Steps`.
use Rattle.std.proofs.Common.{arith}
use Rattle.std.proofs.lemmas.Grind.{common_steps}
use Rattle.numbershape.specs.Steps.{up_way, down_way}
use Rattle.times.proofs.scaled.Goals as goal

pub returns-then-down-up : goal.returns-then-down-up
returns-then-down-up c = grind (arith, common_steps, up_way)

pub returns : goal.returns
returns c = grind (arith, common_steps, down_way)
