-- `starred::refusal_chained` meets its contract. Invariant: the least refusal in the instances before k that are of the type, and k is on the chain of the type's bucket.
use Rattle.entryarcs.specs.Amounts.{refused}
use Rattle.entryarcs.specs.Bytes.{least_of}
use Rattle.entryarcs.specs.Turns.{typed, refuses_in}
use Rattle.bytype.specs.Chains.{OnChain}
use Rattle.bytype.specs.ByType.{bucket_of, type_bucket}
use mathlib.Core.Path.{◌≡◌}
use Prim.Native.Nat.{◌-◌}
use Rattle.starred.proofs.refusal_chained.Given as goal

abbrev pub invariant-loop-k : goal.invariant-loop-k
invariant-loop-k l =
    OnChain (type_bucket l.lookup.start.sheet.now) l.lookup.start.plan.instances (bucket_of l.celltype) l.k
    × (l.least ≡ refused (least_of (typed l.lookup.start.sheet.now l.celltype) (refuses_in l.lookup.start.sheet.now l.change.text.now l.lookup.start.plan.slash l.lookup.start.plan.instances l.lookup.start.plan.arcs l.lookup.start.plan.first l.change.head l.change.rows l.out) l.k))

abbrev pub decreases-loop-k : goal.decreases-loop-k
decreases-loop-k l = l.lookup.start.plan.instances - l.k
