-- `applycells::apply_cells` meets its contract. Invariant: the first k cells were gone through, and `first` is the number of their entries.
use mathlib.Core.Path.{◌≡◌}
use lib.ListN.{length}
use Rattle.wire.specs.Wire.{Bytes}
use Rattle.sheetparts.specs.Form.{Good, check_of}
use Rattle.meaning.specs.Cells.{entries_before}
use Rattle.applycells.specs.CellLaws.{CellsSoFar}
use Rattle.applycells.proofs.apply_cells.Given as goal

abbrev pub invariant-loop-k : goal.invariant-loop-k
invariant-loop-k l =
    (l.first ≡ entries_before l.read.cells.now l.k)
    × ((y : Bytes l.lookup.start.sheet.now) (g : check_of l.lookup.start.sheet.now ≡ Good l.lookup.start.plan.instances l.lookup.start.plan.arcs l.lookup.start.plan.first) → CellsSoFar l.lookup.start.sheet.now y l.lookup.start.plan.instances l.lookup.start.plan.arcs
    l.lookup.start.plan.first g l.read.text.now l.lookup.start.plan.slash l.read.cells.now l.count l.read.entries.now l.initial.out l.k l.out)
    × (length l.out ≡ length l.initial.out)
