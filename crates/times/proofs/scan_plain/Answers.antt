-- `times::scan_plain` meets its contract: its tests are those of the laws `plain-none` to `plain-pointed`.
use Rattle.std.proofs.Common.{arith}
use Rattle.std.proofs.lemmas.Grind.{common_steps}
use Rattle.numbershape.specs.Scans.{min-horner}
use Rattle.times.specs.Plain.{plain-none, plain-whole, plain_pointless, plain-pointed, point_within}
use Rattle.times.proofs.scan_plain.Goals as goal

pub returns-then-point-start-clause-plain : goal.returns-then-point-start-clause-plain
returns-then-point-start-clause-plain c = grind (arith, common_steps, plain-none)

pub returns-then-not-is_point-clause-plain : goal.returns-then-not-is_point-clause-plain
returns-then-not-is_point-clause-plain c = grind (arith, common_steps, plain-whole)

pub scan_digits-all-requires : goal.scan_digits-all-requires
scan_digits-all-requires c = grind (arith, common_steps, point_within)

pub returns-then-fraction-eq0-clause-plain : goal.returns-then-fraction-eq0-clause-plain
returns-then-fraction-eq0-clause-plain c = grind (arith, common_steps, plain_pointless)

pub returns-clause-plain : goal.returns-clause-plain
returns-clause-plain c = grind (arith, common_steps, plain-pointed, min-horner)
