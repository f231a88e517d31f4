-- `marking::mark_entries` meets its contract. Invariant: the arcs that the entries so far mean are marked.
use mathlib.Core.Path.{◌≡◌}
use lib.ListN.{length}
use Rattle.marking.specs.Choosing.{Kept, EntriesMarked}
use Rattle.marking.proofs.mark_entries.Given as goal

abbrev pub invariant-loop-k : goal.invariant-loop-k
invariant-loop-k l =
    let s = l.asked.searched in
    (length l.bits ≡ 131072) × (Kept l.initial.bits l.bits)
    × EntriesMarked s.start.now l.asked.text.now s.plan.slash s.plan.instances s.plan.arcs s.plan.first l.entries l.first l.k l.asked.whom l.asked.celltype.now l.bits
