-- `entryseats::run_all` meets its contract. Invariant: the seats so far were run, with the least number.
use mathlib.Core.Path.{◌≡◌}
use lib.ListN.{length}
use Rattle.nearby.specs.Laws.{SeatsSoFar}
use Rattle.entryseats.proofs.run_all.Given as goal

abbrev pub invariant-loop-seat : goal.invariant-loop-seat
invariant-loop-seat l =
    let s = l.asked.searched in
    (length l.states ≡ length l.initial.states)
    × SeatsSoFar s.start.now l.asked.text.now s.plan.slash s.plan.instances l.entries l.row l.asked.whom l.asked.celltype.now l.arcs l.flags l.initial.states
    l.seat l.states l.least
