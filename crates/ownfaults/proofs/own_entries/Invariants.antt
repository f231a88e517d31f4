-- `ownfaults::own_entries` meets its contract. Invariant: none of the first k entries lacks its arc.
use Rattle.ownfaults.specs.OwnLaws.{OwnSoFar}
use Rattle.ownfaults.proofs.own_entries.Given as goal

abbrev pub invariant-loop-k : goal.invariant-loop-k
invariant-loop-k l =
    let a = l.asked in
    let s = a.searched in
    OwnSoFar s.start.now s.plan.instances s.plan.arcs s.plan.first a.text.now s.plan.slash l.entries l.count a.whom a.celltype.now l.event l.k
