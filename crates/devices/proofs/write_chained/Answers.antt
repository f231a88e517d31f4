-- `devices::write_chained` meets its contract. Invariant: what the arcs before k that are meant make of the sheet is written, and k is on the chain of the path's bucket.
use Rattle.entryarcs.specs.Turns.{written_with, written_without, written_same, hits, writes, hit-is}
use Rattle.entryarcs.specs.Bytes.{written_of, device_written}
use Rattle.deviceport.specs.ByPath.{other_end}
use Rattle.byend.specs.Ends.{end_place, end_bucket}
use Rattle.bytype.specs.Chains.{chain_head, chain_next, skip_head, skip_next}
use Rattle.bytype.specs.ByType.{bucket_of}
use Rattle.entryarcs.specs.Find.{arc_there}
use Rattle.sheetparts.specs.Form.{path_at}
use native.Mathlib.Omega.{arith}
use mathlib.Core.Path.{◌≡◌, refl, sym, ◌∙◌, ap}
use Prim.Native.Nat.{◌<◌}
use Rattle.devices.proofs.write_chained.Goals as goal
use Rattle.devices.proofs.write_chained.Goals.{then-device_hit, else-device_hit}

pub invariant_of-path : goal.invariant_of-path
invariant_of-path c =
    record { whole = (c.requires.0.there) }

pub offset_bounds-ends-bucket : goal.offset_bounds-ends-bucket
offset_bounds-ends-bucket c = omega (arith, c.bucket_of-bucket.ensures.1)

pub bounds-ends-bucket : goal.bounds-ends-bucket
bounds-ends-bucket c = omega (arith, c.bucket_of-bucket.ensures.1)

pub loop-k-init : goal.loop-k-init
unfolding written_of
loop-k-init c =
    let test = hits c.args.start.sheet.now c.args.change.text.now c.args.start.plan.slash c.args.start.plan.first c.args.change.head c.args.instance in
    let write = writes c.args.start.sheet.now c.args.start.plan.first c.args.change.head c.args.change.rows in
    let other = other_end c.args.start.sheet.now c.args.change.text.now c.args.start.plan.slash c.args.start.plan.first c.args.change.head c.args.instance c.requires.4 in
    let h : c.bucket_of-bucket.result ≡ bucket_of (path_at c.args.start.sheet.now c.args.instance) = c.bucket_of-bucket.ensures.0 ∙ ap bucket_of c.path.ensures in (
      chain_head end_place (end_bucket c.args.start.sheet.now c.args.start.plan.first) c.args.start.plan.arcs c.args.ends.now c.requires.3 (bucket_of (path_at c.args.start.sheet.now c.args.instance)) _ _ h c.bucket_of-bucket.ensures.1 refl,
      sym (skip_head end_place (end_bucket c.args.start.sheet.now c.args.start.plan.first) c.args.start.plan.arcs c.args.ends.now c.requires.3 (bucket_of (path_at c.args.start.sheet.now c.args.instance)) test other (written_of test write c.args.out.now) (written_same test write c.args.out.now) _ _ h c.bucket_of-bucket.ensures.1 refl),
      refl,
    )

pub arc_place-here-requires : goal.arc_place-here-requires
arc_place-here-requires c =
    (c.requires.1, omega (arith, c.loop-k-test.true))

pub device_hit-requires : goal.device_hit-requires
device_hit-requires c =
    (c.requires.0.there, rw c.arc_place-here.ensures (arc_there c.args.start.sheet.now c.loop-k.k c.args.start.plan.arcs c.args.start.plan.first (omega (arith, c.loop-k-test.true)) c.requires.0.arcs).1)

pub invariant_of-values : goal.invariant_of-values
invariant_of-values c =
    record { whole = (rw c.arc_place-here.ensures (arc_there c.args.start.sheet.now c.loop-k.k c.args.start.plan.arcs c.args.start.plan.first (omega (arith, c.loop-k-test.true)) c.requires.0.arcs).1) }

pub write_arc-requires : goal.write_arc-requires
write_arc-requires c =
    rw (c.values-values.ensures, c.loop-k.invariant.2, c.requires.0.long) (rw c.arc_place-here.ensures (arc_there c.args.start.sheet.now c.loop-k.k c.args.start.plan.arcs c.args.start.plan.first (omega (arith, c.loop-k-test.true)) c.requires.0.arcs).1)

pub overflow_add-k : goal.overflow_add-k
overflow_add-k c =
    omega (arith, c.requires.2, c.loop-k-test.true)

pub offset_bounds-ends-k : goal.offset_bounds-ends-k
offset_bounds-ends-k c =
    omega (arith, c.requires.2, c.loop-k-test.true)

pub bounds-ends-k : goal.bounds-ends-k
bounds-ends-k c =
    omega (arith, c.requires.2, c.loop-k-test.true)

pub loop-k-smaller : goal.loop-k-smaller
loop-k-smaller c =
    let s = chain_next end_place (end_bucket c.args.start.sheet.now c.args.start.plan.first) c.args.start.plan.arcs c.args.ends.now c.requires.3 (bucket_of (path_at c.args.start.sheet.now c.args.instance)) c.loop-k.k _
    (omega (arith, c.loop-k-test.true)) c.loop-k.invariant.0 refl in
    omega (arith, s.1, c.loop-k-test.true)

pub loop-k-preserved : goal.loop-k-preserved
loop-k-preserved c =
    let test = hits c.args.start.sheet.now c.args.change.text.now c.args.start.plan.slash c.args.start.plan.first c.args.change.head c.args.instance in
    let write = writes c.args.start.sheet.now c.args.start.plan.first c.args.change.head c.args.change.rows in
    let other = other_end c.args.start.sheet.now c.args.change.text.now c.args.start.plan.slash c.args.start.plan.first c.args.change.head c.args.instance c.requires.4 in
    let low : c.loop-k.k < c.args.start.plan.arcs = omega (arith, c.loop-k-test.true) in
    let hit = hit-is c.args.start.sheet.now c.args.change.text.now c.args.start.plan.slash c.args.start.plan.first c.args.change.head c.args.instance c.loop-k.k _ _ c.arc_place-here.ensures c.device_hit.ensures in
    let on = (chain_next end_place (end_bucket c.args.start.sheet.now c.args.start.plan.first) c.args.start.plan.arcs c.args.ends.now c.requires.3 (bucket_of (path_at c.args.start.sheet.now c.args.instance)) c.loop-k.k _ low c.loop-k.invariant.0 refl).0 in
    let skip = skip_next end_place (end_bucket c.args.start.sheet.now c.args.start.plan.first) c.args.start.plan.arcs c.args.ends.now c.requires.3 (bucket_of (path_at c.args.start.sheet.now c.args.instance)) test other (written_of test write c.args.out.now) (written_same test write c.args.out.now) c.loop-k.k _ low c.loop-k.invariant.0 refl in
    elim c.if-device_hit.branch [ then-device_hit w ↦ (on, written_with test c.loop-k.k write c.args.out.now _ c.loop-k.out (hit ∙ w.if-device_hit.true) c.loop-k.invariant.1 (w.out-is ∙ w.write_arc.ensures ∙ rw (w.values-values.ensures, c.arc_place-here.ensures)) ∙ sym skip, c.if-device_hit.auto.out ∙ c.loop-k.invariant.2) | else-device_hit w ↦ (on, written_without test c.loop-k.k write c.args.out.now _ (hit ∙ w.if-device_hit.false) (w.out-is ∙ c.loop-k.invariant.1) ∙ sym skip, c.if-device_hit.auto.out ∙ c.loop-k.invariant.2) ]

pub shape_of-out : goal.shape_of-out
shape_of-out c = c.loop-k.invariant.2

pub returns : goal.returns
unfolding device_written
returns c =
    let e : c.loop-k.k ≡ c.args.start.plan.arcs = omega (arith, c.loop-k.invariant.0.to, c.loop-k-test.false) in
    rw e at c.loop-k.invariant.1
