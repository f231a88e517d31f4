-- `times::read_digits` meets its contract: the invariant: the steps from here on come to the whole fold.
use Rattle.std.proofs.Common.{arith}
use Rattle.std.proofs.lemmas.Grind.{common_steps}
use Rattle.numbershape.specs.Steps.{fold_turn, fold_end}
use Rattle.times.proofs.read_digits.Goals as goal

pub loop-byte-preserved : goal.loop-byte-preserved
loop-byte-preserved c = grind (arith, common_steps, fold_turn)

pub returns : goal.returns
returns c = grind (arith, common_steps, fold_end)
