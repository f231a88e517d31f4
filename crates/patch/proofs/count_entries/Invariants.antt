-- `patch::count_entries` meets its contract. Invariant: the sum of the cells so far.
use mathlib.Core.Path.{◌≡◌}
use Rattle.meant.specs.Cells.{entries_before}
use Rattle.patch.proofs.count_entries.Given as goal

abbrev pub invariant-loop-k : goal.invariant-loop-k
invariant-loop-k l = l.sum ≡ entries_before l.cells l.k
