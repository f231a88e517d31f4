-- `entryarcs::device_write` meets its contract. Invariant: what the arcs so far that are meant make of the sheet is written.
use Rattle.std.proofs.Common.{◌≡◌, length}
use Rattle.sheetlaws.specs.Sheet.{place}
use Rattle.applying.specs.Bytes.{written_of}
use Rattle.entryarcs.specs.Turns.{hits, writes}
use Rattle.entryarcs.proofs.device_write.Given as goal

abbrev pub invariant-loop-k : goal.invariant-loop-k
invariant-loop-k l =
    (l.here ≡ place l.start l.k l.plan.first)
    × (l.out ≡ written_of (hits l.start l.change.text.now l.plan.slash l.plan.first l.change.head l.instance)
    (writes l.start l.plan.first l.change.head l.change.rows) l.initial.out l.k)
    × (length l.out ≡ length l.initial.out)
