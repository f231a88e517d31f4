-- `numbershape::scan_digits` meets its contract: the invariant: the end of the run and the number of all its digits stay the same.
use Prim.Native.Nat.{◌≤◌, ◌+◌, min}
use mathlib.Core.Path.{◌≡◌}
use lib.ListN.{drop}
use Rattle.numbershape.specs.Steps.{stop}
use Rattle.numbershape.specs.Value.{horner}
use Rattle.numbershape.specs.Shape.{run, leading}
use Rattle.numbershape.proofs.scan_digits.Given as goal

abbrev pub invariant-loop-i : goal.invariant-loop-i
invariant-loop-i l =
    (l.value ≤ stop) × (l.i + run (drop l.i l.word) ≡ l.from + run (drop l.from l.word))
    × (min (horner l.value (leading (drop l.i l.word))) stop ≡ min (horner l.base (leading (drop l.from l.word))) stop)
