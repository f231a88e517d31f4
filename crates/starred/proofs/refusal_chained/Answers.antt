-- `starred::refusal_chained` meets its contract. Invariant: the least refusal in the instances before k that are of the type, and k is on the chain of the type's bucket.
use Rattle.entryarcs.specs.Amounts.{refused}
use Rattle.entryarcs.specs.AmountTurns.{lesser-refused}
use Rattle.entryarcs.specs.Bytes.{least_of, refusal_every}
use Rattle.entryarcs.specs.Turns.{least_with, least_without, least-same, typed, type-is, refuses_in}
use Rattle.bytype.specs.Chains.{chain_head, chain_next, skip_head, skip_next}
use Rattle.bytype.specs.ByType.{bucket_of, type_bucket, link_place, other_bucket}
use Rattle.entryarcs.specs.Find.{in_there}
use native.Mathlib.Omega.{arith}
use mathlib.Core.Path.{◌≡◌, refl, sym, ◌∙◌, ap}
use Prim.Native.Nat.{◌<◌}
use Rattle.starred.proofs.refusal_chained.Goals as goal
use Rattle.starred.proofs.refusal_chained.Goals.{then-is_of, else-is_of}

pub loop-k-init : goal.loop-k-init
unfolding least_of refused
loop-k-init c =
    let test = typed c.args.lookup.start.sheet.now c.args.celltype.now in
    let refusal = refuses_in c.args.lookup.start.sheet.now c.args.change.text.now c.args.lookup.start.plan.slash c.args.lookup.start.plan.instances c.args.lookup.start.plan.arcs c.args.lookup.start.plan.first c.args.change.head c.args.change.rows c.args.out.now in (
      chain_head link_place (type_bucket c.args.lookup.start.sheet.now) c.args.lookup.start.plan.instances c.args.lookup.index.now c.requires.2.chain (bucket_of c.args.celltype.now) _ _ c.bucket_of-bucket.ensures.0 c.bucket_of-bucket.ensures.1 refl,
      ap refused (sym (skip_head link_place (type_bucket c.args.lookup.start.sheet.now) c.args.lookup.start.plan.instances c.args.lookup.index.now c.requires.2.chain (bucket_of c.args.celltype.now) test (other_bucket c.args.lookup.start.sheet.now c.args.celltype.now) (least_of test refusal) (least-same test refusal) _ _ c.bucket_of-bucket.ensures.0
          c.bucket_of-bucket.ensures.1 refl)),
    )

pub is_of-requires : goal.is_of-requires
is_of-requires c =
    let e = c.requires.2.spots c.loop-k.k (omega (arith, c.loop-k-test.true)) in
    rw e (in_there c.args.lookup.start.sheet.now c.loop-k.k c.args.lookup.start.plan.instances 12 (omega (arith, c.loop-k-test.true)) c.requires.0.instances).1

pub refusal_at-refusal-requires : goal.refusal_at-refusal-requires
refusal_at-refusal-requires c =
    let e = c.requires.2.spots c.loop-k.k (omega (arith, c.loop-k-test.true)) in
    let whole = (in_there c.args.lookup.start.sheet.now c.loop-k.k c.args.lookup.start.plan.instances 12 (omega (arith, c.loop-k-test.true)) c.requires.0.instances).1 in
    (record { arcs = c.requires.0.search.good; long = c.requires.0.long; there = rw e whole }, c.requires.0.search, c.requires.3)

pub loop-k-smaller : goal.loop-k-smaller
loop-k-smaller c =
    let s = chain_next link_place (type_bucket c.args.lookup.start.sheet.now) c.args.lookup.start.plan.instances c.args.lookup.index.now c.requires.2.chain (bucket_of c.args.celltype.now) c.loop-k.k _
    (omega (arith, c.loop-k-test.true)) c.loop-k.invariant.0 refl in
    omega (arith, s.1, c.loop-k-test.true)

pub loop-k-preserved : goal.loop-k-preserved
loop-k-preserved c =
    let low : c.loop-k.k < c.args.lookup.start.plan.instances = omega (arith, c.loop-k-test.true) in
    let test = typed c.args.lookup.start.sheet.now c.args.celltype.now in
    let refusal = refuses_in c.args.lookup.start.sheet.now c.args.change.text.now c.args.lookup.start.plan.slash c.args.lookup.start.plan.instances c.args.lookup.start.plan.arcs c.args.lookup.start.plan.first c.args.change.head c.args.change.rows c.args.out.now in
    let e = c.requires.2.spots c.loop-k.k low in
    let is = type-is c.args.lookup.start.sheet.now c.args.celltype.now c.loop-k.k _ _ e c.is_of.ensures in
    let skip = skip_next link_place (type_bucket c.args.lookup.start.sheet.now) c.args.lookup.start.plan.instances c.args.lookup.index.now c.requires.2.chain (bucket_of c.args.celltype.now) test (other_bucket c.args.lookup.start.sheet.now c.args.celltype.now) (least_of test refusal) (least-same test refusal) c.loop-k.k _ low c.loop-k.invariant.0 refl in (
      (chain_next link_place (type_bucket c.args.lookup.start.sheet.now) c.args.lookup.start.plan.instances c.args.lookup.index.now c.requires.2.chain (bucket_of c.args.celltype.now) c.loop-k.k _ low c.loop-k.invariant.0 refl).0,
      elim c.if-is_of.branch [
        | then-is_of w ↦ w.least-is ∙ w.lesser_of-least.ensures
            ∙ rw (c.loop-k.invariant.1, w.refusal_at-refusal.ensures, e) (lesser-refused (least_of test refusal c.loop-k.k) (refusal c.loop-k.k))
            ∙ ap refused (least_with test c.loop-k.k refusal _ (least_of test refusal c.loop-k.k) (is ∙ w.if-is_of.true) refl refl ∙ sym skip)
        | else-is_of w ↦ w.least-is ∙ c.loop-k.invariant.1
            ∙ ap refused (least_without test c.loop-k.k refusal (least_of test refusal c.loop-k.k) (is ∙ w.if-is_of.false) refl ∙ sym skip)
      ],
    )

pub returns : goal.returns
unfolding refusal_every
returns c =
    let e : c.loop-k.k ≡ c.args.lookup.start.plan.instances = omega (arith, c.loop-k.invariant.0.to, c.loop-k-test.false) in
    rw e at c.loop-k.invariant.1
