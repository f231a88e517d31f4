-- `entryseats::run_entries` meets its contract. Invariant: the seats were run through the first k entries.
use mathlib.Core.Path.{◌≡◌}
use lib.ListN.{length}
use Rattle.nearby.specs.Laws.{EntriesSoFar}
use Rattle.entryseats.proofs.run_entries.Given as goal

abbrev pub invariant-loop-k : goal.invariant-loop-k
invariant-loop-k l =
    let s = l.asked.searched in
    (length l.states ≡ length l.initial.states)
    × EntriesSoFar s.start.now l.asked.text.now s.plan.slash s.plan.instances s.plan.arcs s.plan.first l.side l.entries l.first l.some l.asked.whom
    l.asked.celltype.now l.event l.arcs l.flags l.initial.states (length l.arcs) l.k l.states
