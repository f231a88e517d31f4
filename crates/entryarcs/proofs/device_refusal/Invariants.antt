-- `entryarcs::device_refusal` meets its contract. Invariant: whether one of the arcs so far is meant, and the least refusal of those that are.
use Rattle.std.proofs.Common.{◌≡◌}
use Rattle.sheetlaws.specs.Sheet.{place}
use Rattle.applying.specs.Amounts.{refused}
use Rattle.applying.specs.Bytes.{some_of, least_of}
use Rattle.entryarcs.specs.Turns.{hits, refuses}
use Rattle.entryarcs.proofs.device_refusal.Given as goal

abbrev pub invariant-loop-k : goal.invariant-loop-k
invariant-loop-k l =
    (l.here ≡ place l.start l.k l.plan.first)
    × (l.some ≡ some_of (hits l.start l.change.text.now l.plan.slash l.plan.first l.change.head l.instance) l.k)
    × (l.least ≡ refused (least_of (hits l.start l.change.text.now l.plan.slash l.plan.first l.change.head l.instance)
    (refuses l.start l.out l.plan.first l.change.head l.change.rows) l.k))
