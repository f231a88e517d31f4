-- `times::read_power` meets its contract: the invariant: the digits from here on, stopped, come to the whole number, stopped.
use Rattle.std.proofs.Common.{arith}
use Rattle.std.proofs.lemmas.Grind.{common_steps}
use Rattle.times.specs.Exponent.{capped_turn, capped_end, capped-whole}
use Rattle.times.proofs.read_power.Goals as goal

pub loop-byte-preserved : goal.loop-byte-preserved
loop-byte-preserved c = grind (arith, common_steps, capped_turn)

pub returns : goal.returns
returns c = grind (arith, common_steps, capped_end, capped-whole)
