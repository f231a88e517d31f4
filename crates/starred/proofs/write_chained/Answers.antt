-- `starred::write_chained` meets its contract. Invariant: what is made of the sheet in the instances before k that are of the type is written, and k is on the chain of the type's bucket.
use Rattle.entryarcs.specs.Bytes.{written_of, written_every}
use Rattle.entryarcs.specs.Turns.{written_with, written_without, written_same, typed, type-is, writes_in}
use Rattle.bytype.specs.Chains.{chain_head, chain_next, skip_head, skip_next}
use Rattle.bytype.specs.ByType.{bucket_of, type_bucket, link_place, other_bucket}
use Rattle.entryarcs.specs.Find.{in_there}
use native.Mathlib.Omega.{arith}
use mathlib.Core.Path.{◌≡◌, refl, sym, ◌∙◌}
use Prim.Native.Nat.{◌<◌}
use Rattle.starred.proofs.write_chained.Goals as goal
use Rattle.starred.proofs.write_chained.Goals.{then-is_of, else-is_of}

pub loop-k-init : goal.loop-k-init
unfolding written_of
loop-k-init c =
    let test = typed c.args.lookup.start.sheet.now c.args.celltype.now in
    let write = writes_in c.args.lookup.start.sheet.now c.args.change.text.now c.args.lookup.start.plan.slash c.args.lookup.start.plan.instances c.args.lookup.start.plan.arcs c.args.lookup.start.plan.first c.args.change.head c.args.change.rows in (
      chain_head link_place (type_bucket c.args.lookup.start.sheet.now) c.args.lookup.start.plan.instances c.args.lookup.index.now c.requires.2.chain (bucket_of c.args.celltype.now) _ _ c.bucket_of-bucket.ensures.0 c.bucket_of-bucket.ensures.1 refl,
      sym (skip_head link_place (type_bucket c.args.lookup.start.sheet.now) c.args.lookup.start.plan.instances c.args.lookup.index.now c.requires.2.chain (bucket_of c.args.celltype.now) test (other_bucket c.args.lookup.start.sheet.now c.args.celltype.now) (written_of test write c.args.out.now) (written_same test write c.args.out.now) _ _ c.bucket_of-bucket.ensures.0
          c.bucket_of-bucket.ensures.1 refl),
      refl,
    )

pub is_of-requires : goal.is_of-requires
is_of-requires c =
    let e = c.requires.2.spots c.loop-k.k (omega (arith, c.loop-k-test.true)) in
    rw e (in_there c.args.lookup.start.sheet.now c.loop-k.k c.args.lookup.start.plan.instances 12 (omega (arith, c.loop-k-test.true)) c.requires.0.instances).1

pub write_at-requires : goal.write_at-requires
write_at-requires c =
    let e = c.requires.2.spots c.loop-k.k (omega (arith, c.loop-k-test.true)) in
    let whole = (in_there c.args.lookup.start.sheet.now c.loop-k.k c.args.lookup.start.plan.instances 12 (omega (arith, c.loop-k-test.true)) c.requires.0.instances).1 in
    (record { arcs = c.requires.0.search.good; long = c.loop-k.invariant.2 ∙ c.requires.0.long; there = rw e whole }, c.requires.0.search, c.requires.3)

pub loop-k-smaller : goal.loop-k-smaller
loop-k-smaller c =
    let s = chain_next link_place (type_bucket c.args.lookup.start.sheet.now) c.args.lookup.start.plan.instances c.args.lookup.index.now c.requires.2.chain (bucket_of c.args.celltype.now) c.loop-k.k _
    (omega (arith, c.loop-k-test.true)) c.loop-k.invariant.0 refl in
    omega (arith, s.1, c.loop-k-test.true)

pub loop-k-preserved : goal.loop-k-preserved
loop-k-preserved c =
    let low : c.loop-k.k < c.args.lookup.start.plan.instances = omega (arith, c.loop-k-test.true) in
    let test = typed c.args.lookup.start.sheet.now c.args.celltype.now in
    let write = writes_in c.args.lookup.start.sheet.now c.args.change.text.now c.args.lookup.start.plan.slash c.args.lookup.start.plan.instances c.args.lookup.start.plan.arcs c.args.lookup.start.plan.first c.args.change.head c.args.change.rows in
    let e = c.requires.2.spots c.loop-k.k low in
    let is = type-is c.args.lookup.start.sheet.now c.args.celltype.now c.loop-k.k _ _ e c.is_of.ensures in
    let skip = skip_next link_place (type_bucket c.args.lookup.start.sheet.now) c.args.lookup.start.plan.instances c.args.lookup.index.now c.requires.2.chain (bucket_of c.args.celltype.now) test (other_bucket c.args.lookup.start.sheet.now c.args.celltype.now) (written_of test write c.args.out.now) (written_same test write c.args.out.now) c.loop-k.k _ low c.loop-k.invariant.0 refl in
    let on = (chain_next link_place (type_bucket c.args.lookup.start.sheet.now) c.args.lookup.start.plan.instances c.args.lookup.index.now c.requires.2.chain (bucket_of c.args.celltype.now) c.loop-k.k _ low c.loop-k.invariant.0 refl).0 in
    elim c.if-is_of.branch [
      | then-is_of w ↦ (
        on,
        written_with test c.loop-k.k write c.args.out.now _ c.loop-k.out (is ∙ w.if-is_of.true) c.loop-k.invariant.1 (w.out-is ∙ w.write_at.ensures ∙ rw e refl) ∙ sym skip,
        c.if-is_of.auto.out ∙ c.loop-k.invariant.2,
      )
      | else-is_of w ↦ (on, written_without test c.loop-k.k write c.args.out.now _ (is ∙ w.if-is_of.false) (w.out-is ∙ c.loop-k.invariant.1) ∙ sym skip, c.if-is_of.auto.out ∙ c.loop-k.invariant.2)
    ]

pub shape_of-out : goal.shape_of-out
shape_of-out c = c.loop-k.invariant.2

pub returns : goal.returns
unfolding written_every
returns c =
    let e : c.loop-k.k ≡ c.args.lookup.start.plan.instances = omega (arith, c.loop-k.invariant.0.to, c.loop-k-test.false) in
    rw e at c.loop-k.invariant.1
