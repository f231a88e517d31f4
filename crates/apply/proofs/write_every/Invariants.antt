-- `apply::write_every` meets its contract. Invariant: what is made of the sheet in the instances so far that are of the type is written.
use mathlib.Core.Path.{◌≡◌}
use lib.ListN.{length}
use Rattle.sheetlaws.specs.Sheet.{in_end, nth}
use Rattle.entryarcs.specs.Bytes.{written_of}
use Rattle.entryarcs.specs.Turns.{typed, writes_in}
use Rattle.apply.proofs.write_every.Given as goal

abbrev pub invariant-loop-k : goal.invariant-loop-k
invariant-loop-k l =
    (l.here ≡ nth (in_end l.start.sheet.now) l.k 12)
    × (l.out ≡ written_of (typed l.start.sheet.now l.celltype) (writes_in l.start.sheet.now l.change.text.now l.start.plan.slash l.start.plan.instances l.start.plan.arcs l.start.plan.first l.change.head l.change.rows) l.initial.out l.k)
    × (length l.out ≡ length l.initial.out)
