-- `print_cells` is safe: the entries behind the cells that are printed end before all of them do.
use Rattle.std.proofs.Common.{◌≤◌}
use Rattle.listing.proofs.print_cells.Given as goal

abbrev pub invariant-loop-i : goal.invariant-loop-i
invariant-loop-i g l = l.first ≤ l.all
