-- `touchseats::touch_seats` meets its contract. Invariant: all seats have their flags behind the entries so far.
use mathlib.Core.Path.{◌≡◌}
use lib.ListN.{length}
use Rattle.touchseats.specs.Touchseats.{SeatsTouched}
use Rattle.touchseats.proofs.touch_seats.Given as goal

abbrev pub invariant-loop-k : goal.invariant-loop-k
invariant-loop-k l =
    let s = l.asked.searched in
    (length l.flags ≡ length l.initial.flags)
    × SeatsTouched s.start.now l.asked.text.now s.plan.slash s.plan.instances l.entries l.first l.k l.asked.whom l.asked.celltype.now l.arcs l.initial.flags (length l.arcs) l.flags
