-- `sheet::same_keys` meets its contract.
use Rattle.std.proofs.Common.{◌≡◌, ◌-◌}
use Rattle.sheet.specs.Find.{ArcsGood}
use Rattle.sheet.specs.Same.{same_keys}
use Rattle.sheet.proofs.same_keys.Given as goal

abbrev pub invariant-loop : goal.invariant-loop
invariant-loop l =
    ArcsGood l.sheet (l.count - l.counter) l.here
    × (same_keys l.sheet l.other (l.count - l.counter) l.here ≡ same_keys l.sheet l.other l.count l.first)
