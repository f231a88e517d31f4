-- `times::read_number` meets its contract: a plain word by `plain_value`, any other by `read_any`.
use Rattle.std.proofs.Common.{arith}
use Rattle.times.specs.Plain.{plain_stands, plain_value}
use Rattle.times.proofs.read_number.Goals as goal

pub returns-in-Some : goal.returns-in-Some
returns-in-Some c = grind (arith, plain_stands, plain_value)
