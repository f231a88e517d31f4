-- `apply::refusal_every` meets its contract. Invariant: the least refusal in the instances so far that are of the type.
use mathlib.Core.Path.{◌≡◌}
use Rattle.sheetlaws.specs.Sheet.{in_end, nth}
use Rattle.entryarcs.specs.Amounts.{refused}
use Rattle.entryarcs.specs.Bytes.{least_of}
use Rattle.entryarcs.specs.Turns.{typed, refuses_in}
use Rattle.apply.proofs.refusal_every.Given as goal

abbrev pub invariant-loop-k : goal.invariant-loop-k
invariant-loop-k l =
    (l.here ≡ nth (in_end l.start.sheet.now) l.k 12)
    × (l.least ≡ refused (least_of (typed l.start.sheet.now l.celltype) (refuses_in l.start.sheet.now l.change.text.now l.start.plan.slash l.start.plan.instances l.start.plan.arcs l.start.plan.first l.change.head l.change.rows l.out) l.k))
