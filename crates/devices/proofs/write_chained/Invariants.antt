-- `devices::write_chained` meets its contract. Invariant: what the arcs before k that are meant make of the sheet is written, and k is on the chain of the path's bucket.
use Rattle.entryarcs.specs.Turns.{hits, writes}
use Rattle.entryarcs.specs.Bytes.{written_of}
use Rattle.byend.specs.Ends.{end_bucket}
use Rattle.bytype.specs.Chains.{OnChain}
use Rattle.bytype.specs.ByType.{bucket_of}
use Rattle.sheetparts.specs.Form.{path_at}
use lib.ListN.{length}
use mathlib.Core.Path.{◌≡◌}
use Prim.Native.Nat.{◌-◌}
use Rattle.devices.proofs.write_chained.Given as goal

abbrev pub invariant-loop-k : goal.invariant-loop-k
invariant-loop-k l =
    OnChain (end_bucket l.start.sheet.now l.start.plan.first) l.start.plan.arcs (bucket_of (path_at l.start.sheet.now l.instance)) l.k
    × (l.out ≡ written_of (hits l.start.sheet.now l.change.text.now l.start.plan.slash l.start.plan.first l.change.head l.instance) (writes l.start.sheet.now l.start.plan.first l.change.head l.change.rows) l.initial.out l.k)
    × (length l.out ≡ length l.initial.out)

abbrev pub decreases-loop-k : goal.decreases-loop-k
decreases-loop-k l = l.start.plan.arcs - l.k
