-- `amounts::write_arc` meets its contract. Invariant: the values so far are written.
use Rattle.std.proofs.Common.{◌≡◌, length}
use Rattle.amounts.specs.Amounts.{arc_written}
use Rattle.amounts.proofs.write_arc.Given as goal

abbrev pub invariant-loop-slot : goal.invariant-loop-slot
invariant-loop-slot l = (l.sheet ≡ arc_written l.initial.sheet l.at l.rows l.add l.slot) × (length l.sheet ≡ length l.initial.sheet)
