-- `devices::refusal_chained` meets its contract. Invariant: whether one of the arcs before k is meant, the least refusal of those that are, and k is on the chain of the path's bucket.
use Rattle.entryarcs.specs.Turns.{some_with, some_without, least_with, least_without, some_same, least-same, hits, refuses, hit-is}
use Rattle.entryarcs.specs.Amounts.{refused}
use Rattle.entryarcs.specs.AmountTurns.{lesser-refused}
use Rattle.entryarcs.specs.Bytes.{some_of, least_of, device_refusal}
use Rattle.deviceport.specs.ByPath.{other_end}
use Rattle.byend.specs.Ends.{end_place, end_bucket}
use Rattle.bytype.specs.Chains.{chain_head, chain_next, skip_head, skip_next}
use Rattle.bytype.specs.ByType.{bucket_of}
use Rattle.entryarcs.specs.Find.{arc_there}
use Rattle.sheetparts.specs.Form.{path_at}
use native.Mathlib.Omega.{arith}
use mathlib.Core.Path.{◌≡◌, refl, sym, ◌∙◌, ap}
use Prim.Native.Nat.{◌<◌}
use Rattle.devices.proofs.refusal_chained.Goals as goal
use Rattle.devices.proofs.refusal_chained.Goals.{then-device_hit, else-device_hit}

pub invariant_of-path : goal.invariant_of-path
invariant_of-path c =
    record { whole = (c.requires.0.there) }

pub offset_bounds-ends-bucket : goal.offset_bounds-ends-bucket
offset_bounds-ends-bucket c = omega (arith, c.bucket_of-bucket.ensures.1)

pub bounds-ends-bucket : goal.bounds-ends-bucket
bounds-ends-bucket c = omega (arith, c.bucket_of-bucket.ensures.1)

pub loop-k-init : goal.loop-k-init
unfolding some_of least_of refused
loop-k-init c =
    let test = hits c.args.start.sheet.now c.args.change.text.now c.args.start.plan.slash c.args.start.plan.first c.args.change.head c.args.instance in
    let refusal = refuses c.args.start.sheet.now c.args.out.now c.args.start.plan.first c.args.change.head c.args.change.rows in
    let other = other_end c.args.start.sheet.now c.args.change.text.now c.args.start.plan.slash c.args.start.plan.first c.args.change.head c.args.instance c.requires.4 in
    let h : c.bucket_of-bucket.result ≡ bucket_of (path_at c.args.start.sheet.now c.args.instance) = c.bucket_of-bucket.ensures.0 ∙ ap bucket_of c.path.ensures in (
      chain_head end_place (end_bucket c.args.start.sheet.now c.args.start.plan.first) c.args.start.plan.arcs c.args.ends.now c.requires.3 (bucket_of (path_at c.args.start.sheet.now c.args.instance)) _ _ h c.bucket_of-bucket.ensures.1 refl,
      sym (skip_head end_place (end_bucket c.args.start.sheet.now c.args.start.plan.first) c.args.start.plan.arcs c.args.ends.now c.requires.3 (bucket_of (path_at c.args.start.sheet.now c.args.instance)) test other (some_of test) (some_same test) _ _ h c.bucket_of-bucket.ensures.1 refl),
      ap refused (sym (skip_head end_place (end_bucket c.args.start.sheet.now c.args.start.plan.first) c.args.start.plan.arcs c.args.ends.now c.requires.3 (bucket_of (path_at c.args.start.sheet.now c.args.instance)) test other (least_of test refusal) (least-same test refusal) _ _ h c.bucket_of-bucket.ensures.1 refl)),
    )

pub arc_place-here-requires : goal.arc_place-here-requires
arc_place-here-requires c =
    (c.requires.1, omega (arith, c.loop-k-test.true))

pub device_hit-requires : goal.device_hit-requires
device_hit-requires c =
    (c.requires.0.there, rw c.arc_place-here.ensures (arc_there c.args.start.sheet.now c.loop-k.k c.args.start.plan.arcs c.args.start.plan.first (omega (arith, c.loop-k-test.true)) c.requires.0.arcs).1)

pub invariant_of-values : goal.invariant_of-values
invariant_of-values c =
    record { whole = (rw c.arc_place-here.ensures (arc_there c.args.start.sheet.now c.loop-k.k c.args.start.plan.arcs c.args.start.plan.first (omega (arith, c.loop-k-test.true)) c.requires.0.arcs).1) }

pub arc_refusal-requires : goal.arc_refusal-requires
arc_refusal-requires c =
    rw (c.values-values.ensures, c.requires.0.long) (rw c.arc_place-here.ensures (arc_there c.args.start.sheet.now c.loop-k.k c.args.start.plan.arcs c.args.start.plan.first (omega (arith, c.loop-k-test.true)) c.requires.0.arcs).1)

pub overflow_add-k : goal.overflow_add-k
overflow_add-k c =
    omega (arith, c.requires.2, c.loop-k-test.true)

pub offset_bounds-ends-k : goal.offset_bounds-ends-k
offset_bounds-ends-k c =
    omega (arith, c.requires.2, c.loop-k-test.true)

pub bounds-ends-k : goal.bounds-ends-k
bounds-ends-k c =
    omega (arith, c.requires.2, c.loop-k-test.true)

pub loop-k-smaller : goal.loop-k-smaller
loop-k-smaller c =
    let s = chain_next end_place (end_bucket c.args.start.sheet.now c.args.start.plan.first) c.args.start.plan.arcs c.args.ends.now c.requires.3 (bucket_of (path_at c.args.start.sheet.now c.args.instance)) c.loop-k.k _
    (omega (arith, c.loop-k-test.true)) c.loop-k.invariant.0 refl in
    omega (arith, s.1, c.loop-k-test.true)

pub loop-k-preserved : goal.loop-k-preserved
loop-k-preserved c =
    let test = hits c.args.start.sheet.now c.args.change.text.now c.args.start.plan.slash c.args.start.plan.first c.args.change.head c.args.instance in
    let refusal = refuses c.args.start.sheet.now c.args.out.now c.args.start.plan.first c.args.change.head c.args.change.rows in
    let other = other_end c.args.start.sheet.now c.args.change.text.now c.args.start.plan.slash c.args.start.plan.first c.args.change.head c.args.instance c.requires.4 in
    let low : c.loop-k.k < c.args.start.plan.arcs = omega (arith, c.loop-k-test.true) in
    let hit = hit-is c.args.start.sheet.now c.args.change.text.now c.args.start.plan.slash c.args.start.plan.first c.args.change.head c.args.instance c.loop-k.k _ _ c.arc_place-here.ensures c.device_hit.ensures in
    let on = (chain_next end_place (end_bucket c.args.start.sheet.now c.args.start.plan.first) c.args.start.plan.arcs c.args.ends.now c.requires.3 (bucket_of (path_at c.args.start.sheet.now c.args.instance)) c.loop-k.k _ low c.loop-k.invariant.0 refl).0 in
    let some-skip = skip_next end_place (end_bucket c.args.start.sheet.now c.args.start.plan.first) c.args.start.plan.arcs c.args.ends.now c.requires.3 (bucket_of (path_at c.args.start.sheet.now c.args.instance)) test other (some_of test) (some_same test) c.loop-k.k _ low c.loop-k.invariant.0 refl in
    let skip = skip_next end_place (end_bucket c.args.start.sheet.now c.args.start.plan.first) c.args.start.plan.arcs c.args.ends.now c.requires.3 (bucket_of (path_at c.args.start.sheet.now c.args.instance)) test other (least_of test refusal) (least-same test refusal) c.loop-k.k _ low c.loop-k.invariant.0 refl in
    elim c.if-device_hit.branch [
      | then-device_hit w ↦ (
        on,
        w.some-is ∙ some_with test c.loop-k.k (hit ∙ w.if-device_hit.true) ∙ sym some-skip,
        w.least-is ∙ w.lesser_of-least.ensures
            ∙ rw (c.loop-k.invariant.2, w.arc_refusal.ensures, w.values-values.ensures, c.arc_place-here.ensures) (lesser-refused (least_of test refusal c.loop-k.k) (refusal c.loop-k.k))
            ∙ ap refused (least_with test c.loop-k.k refusal _ (least_of test refusal c.loop-k.k) (hit ∙ w.if-device_hit.true) refl refl ∙ sym skip),
      )
      | else-device_hit w ↦ (
        on,
        some_without test c.loop-k.k _ (hit ∙ w.if-device_hit.false) (w.some-is ∙ c.loop-k.invariant.1) ∙ sym some-skip,
        w.least-is ∙ c.loop-k.invariant.2 ∙ ap refused (least_without test c.loop-k.k refusal (least_of test refusal c.loop-k.k) (hit ∙ w.if-device_hit.false) refl ∙ sym skip),
      )
    ]

pub returns-then-some : goal.returns-then-some
unfolding device_refusal
returns-then-some c =
    let e : c.loop-k.k ≡ c.args.start.plan.arcs = omega (arith, c.loop-k.invariant.0.to, c.loop-k-test.false) in
    rw (← e, ← c.loop-k.invariant.1, c.if-some.true) c.loop-k.invariant.2

pub returns-else-some : goal.returns-else-some
unfolding device_refusal refused
returns-else-some c =
    let e : c.loop-k.k ≡ c.args.start.plan.arcs = omega (arith, c.loop-k.invariant.0.to, c.loop-k-test.false) in
    rw (← e, ← c.loop-k.invariant.1, c.if-some.false)
