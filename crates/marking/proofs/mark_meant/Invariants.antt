-- `marking::mark_meant` meets its contract. Invariant: of the arcs so far those that the entry means are marked.
use mathlib.Core.Path.{◌≡◌}
use lib.ListN.{length}
use Rattle.sheetlaws.specs.Sheet.{place}
use Rattle.marking.specs.Choosing.{Kept, EntryMarked}
use Rattle.marking.proofs.mark_meant.Given as goal

abbrev pub invariant-loop-j : goal.invariant-loop-j
invariant-loop-j l =
    let s = l.asked.searched in
    (l.here ≡ place s.start.now l.j s.plan.first) × (length l.bits ≡ 131072) × (Kept l.initial.bits l.bits)
    × EntryMarked s.start.now l.asked.text.now s.plan.slash s.plan.instances l.j s.plan.first l.entry l.asked.whom l.asked.celltype.now l.bits
