-- `numbershape::scan_digits` meets its contract: the invariant: the end of the run and the number of all its digits stay the same.
use Rattle.std.proofs.Common.{arith}
use Rattle.std.proofs.lemmas.Grind.{common_steps}
use Rattle.numbershape.specs.Scans.{scan_on, scan_end}
use Rattle.numbershape.specs.Places.{run_on, run-stop, run_end}
use Rattle.numbershape.proofs.scan_digits.Goals as goal

pub returns-then-not-is_digit : goal.returns-then-not-is_digit
returns-then-not-is_digit c = grind (arith, common_steps, run-stop, scan_end)

pub loop-i-preserved : goal.loop-i-preserved
loop-i-preserved c = grind (arith, common_steps, run_on, scan_on)

pub returns : goal.returns
returns c = grind (arith, common_steps, run_end, scan_end)
