-- `touchseats::touch_meant` meets its contract. Invariant: the first i seats have their flags.
use mathlib.Core.Path.{◌≡◌}
use lib.ListN.{length}
use Rattle.touchseats.specs.Laws.{SeatsSoFar}
use Rattle.touchseats.proofs.touch_meant.Given as goal

abbrev pub invariant-loop-seat : goal.invariant-loop-seat
invariant-loop-seat l =
    let s = l.asked.searched in
    (length l.flags ≡ length l.initial.flags)
    × SeatsSoFar s.start.now l.asked.text.now s.plan.slash s.plan.instances l.entries l.row l.asked.whom l.asked.celltype.now l.arcs l.initial.flags l.seat l.flags
