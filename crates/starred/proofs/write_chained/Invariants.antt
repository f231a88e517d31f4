-- `starred::write_chained` meets its contract. Invariant: what is made of the sheet in the instances before k that are of the type is written, and k is on the chain of the type's bucket.
use Rattle.entryarcs.specs.Bytes.{written_of}
use Rattle.entryarcs.specs.Turns.{typed, writes_in}
use Rattle.bytype.specs.Chains.{OnChain}
use Rattle.bytype.specs.ByType.{bucket_of, type_bucket}
use lib.ListN.{length}
use mathlib.Core.Path.{◌≡◌}
use Prim.Native.Nat.{◌-◌}
use Rattle.starred.proofs.write_chained.Given as goal

abbrev pub invariant-loop-k : goal.invariant-loop-k
invariant-loop-k l =
    OnChain (type_bucket l.lookup.start.sheet.now) l.lookup.start.plan.instances (bucket_of l.celltype) l.k
    × (l.out ≡ written_of (typed l.lookup.start.sheet.now l.celltype) (writes_in l.lookup.start.sheet.now l.change.text.now l.lookup.start.plan.slash l.lookup.start.plan.instances l.lookup.start.plan.arcs l.lookup.start.plan.first l.change.head l.change.rows) l.initial.out l.k)
    × (length l.out ≡ length l.initial.out)

abbrev pub decreases-loop-k : goal.decreases-loop-k
decreases-loop-k l = l.lookup.start.plan.instances - l.k
