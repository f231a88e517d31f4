-- `devices::refusal_chained` meets its contract. Invariant: whether one of the arcs before k is meant, the least refusal of those that are, and k is on the chain of the path's bucket.
use Rattle.entryarcs.specs.Turns.{hits, refuses}
use Rattle.entryarcs.specs.Amounts.{refused}
use Rattle.entryarcs.specs.Bytes.{some_of, least_of}
use Rattle.byend.specs.Ends.{end_bucket}
use Rattle.bytype.specs.Chains.{OnChain}
use Rattle.bytype.specs.ByType.{bucket_of}
use Rattle.sheetparts.specs.Form.{path_at}
use mathlib.Core.Path.{◌≡◌}
use Prim.Native.Nat.{◌-◌}
use Rattle.devices.proofs.refusal_chained.Given as goal

abbrev pub invariant-loop-k : goal.invariant-loop-k
invariant-loop-k l =
    OnChain (end_bucket l.start.sheet.now l.start.plan.first) l.start.plan.arcs (bucket_of (path_at l.start.sheet.now l.instance)) l.k
    × (l.some ≡ some_of (hits l.start.sheet.now l.change.text.now l.start.plan.slash l.start.plan.first l.change.head l.instance) l.k)
    × (l.least ≡ refused (least_of (hits l.start.sheet.now l.change.text.now l.start.plan.slash l.start.plan.first l.change.head l.instance) (refuses l.start.sheet.now l.out l.start.plan.first l.change.head l.change.rows) l.k))

abbrev pub decreases-loop-k : goal.decreases-loop-k
decreases-loop-k l = l.start.plan.arcs - l.k
