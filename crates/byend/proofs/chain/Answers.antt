-- `byend::chain` meets its contract. Invariant: the table is the index of the arcs from k on, and holds the places of those before.
use Rattle.std.proofs.Common.{◌≡◌, suc, ◌-◌, ◌<◌, length, refl, ◌∙◌, ap, rules, arith}
use Rattle.sheet.specs.Find.{arc_there}
use Rattle.bytype.specs.Chains.{chained_more, put-stays}
use Rattle.byend.specs.Ends.{below_bucket, end_bucket, end_place, ends_far, ends_apart}
use Rattle.byend.proofs.chain.Goals as goal

pub invariant_of-second_end : goal.invariant_of-second_end
invariant_of-second_end c =
    record { whole = (rw (c.loop-k.invariant.1 (c.loop-k.k - 1) (omega arith)) (arc_there c.args.sheet.now (c.loop-k.k - 1) c.args.count c.args.first (omega arith) c.requires.0).1) }

pub loop-k-preserved : goal.loop-k-preserved
loop-k-preserved c =
    let k = c.loop-k.k - 1 in
    let e = c.loop-k.invariant.1 k (omega arith) in
    let s : c.loop-k.k ≡ suc k = omega arith in
    let b = c.below_bucket-bucket.ensures in
    let long : end_place k < length c.loop-k.ends = omega arith in (
      chained_more end_place (end_bucket c.args.sheet.now c.args.first) c.args.count ends_far ends_apart k c.loop-k.ends c.below_bucket-bucket.result b.1 long
          (rw s at c.loop-k.invariant.0) (omega arith) (b.0 ∙ ap below_bucket (c.second_end.ensures ∙ rw e refl)),
      (λ i g. put-stays end_place (end_bucket c.args.sheet.now c.args.first) c.args.count ends_far ends_apart k c.loop-k.ends c.below_bucket-bucket.result b.1 long
          (end_place i) (λ q. omega arith) (λ q. omega arith) ∙ c.loop-k.invariant.1 i (omega arith)),
      search rules,
    )

pub returns : goal.returns
returns c =
    let e : c.loop-k.k ≡ 0 = omega arith in
    (c.loop-k.invariant.2, rw e at c.loop-k.invariant.0)
