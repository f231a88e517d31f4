-- `times::step` meets its contract: each branch is one of the definition.
use Rattle.std.proofs.Common.{arith}
use Rattle.std.proofs.lemmas.Grind.{common_steps}
use Rattle.numbershape.specs.Steps.{step_of}
use Rattle.times.proofs.step.Goals as goal

pub returns-then-byte-lt48 : goal.returns-then-byte-lt48
unfolding step_of
returns-then-byte-lt48 c = grind (arith, common_steps)

pub returns-then-digits : goal.returns-then-digits
unfolding step_of
returns-then-digits c = grind (arith, common_steps)

pub returns-else-digits : goal.returns-else-digits
unfolding step_of
returns-else-digits c = grind (arith, common_steps)

pub returns : goal.returns
unfolding step_of
returns c = grind (arith, common_steps)
