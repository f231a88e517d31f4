-- `applycells::apply_entries` meets its contract. Invariant: the first k entries were gone through.
use mathlib.Core.Path.{◌≡◌}
use lib.ListN.{length}
use Rattle.wire.specs.Wire.{Bytes}
use Rattle.sheetparts.specs.Form.{Good, check_of}
use Rattle.applycells.specs.EntryLaws.{EntriesSoFar}
use Rattle.applycells.proofs.apply_entries.Given as goal

abbrev pub invariant-loop-k : goal.invariant-loop-k
invariant-loop-k l =
    ((y : Bytes l.lookup.start.sheet.now) (g : check_of l.lookup.start.sheet.now ≡ Good l.lookup.start.plan.instances l.lookup.start.plan.arcs l.lookup.start.plan.first) → EntriesSoFar l.lookup.start.sheet.now y l.lookup.start.plan.instances l.lookup.start.plan.arcs
    l.lookup.start.plan.first g l.read.text.now l.lookup.start.plan.slash l.read.entries.now l.first l.count l.whom l.celltype l.initial.out l.k l.out)
    × (length l.out ≡ length l.initial.out)
