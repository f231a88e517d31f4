-- `bytype::chain` meets its contract. Invariant: the table is the index of the instances from k on.
use Rattle.std.proofs.Common.{◌≡◌, suc, ◌-◌, ◌<◌, length, refl, ◌∙◌, ap, rules, arith}
use Rattle.sheet.specs.Find.{in_there}
use Rattle.bytype.specs.Chains.{chained_more}
use Rattle.bytype.specs.ByType.{type_bucket, bucket_of, link_place, links_far, links_apart, spots_stay}
use Rattle.bytype.proofs.chain.Goals as goal

pub invariant_of-type_name : goal.invariant_of-type_name
invariant_of-type_name c =
    record { whole = (rw (c.loop-k.invariant.1 (c.loop-k.k - 1) (omega arith)) (in_there c.args.sheet.now (c.loop-k.k - 1) c.args.count 12 (omega arith) c.requires.0).1) }

pub loop-k-preserved : goal.loop-k-preserved
loop-k-preserved c =
    let k = c.loop-k.k - 1 in
    let e = c.loop-k.invariant.1 k (omega arith) in
    let s : c.loop-k.k ≡ suc k = omega arith in
    let b = c.bucket_of-bucket.ensures in
    let long : link_place k < length c.loop-k.index = omega arith in (
      chained_more link_place (type_bucket c.args.sheet.now) c.args.count links_far links_apart k c.loop-k.index c.bucket_of-bucket.result b.1 long
          (rw s at c.loop-k.invariant.0) (omega arith) (b.0 ∙ ap bucket_of (c.type_name.ensures ∙ rw e refl)),
      spots_stay c.args.sheet.now c.args.count k c.loop-k.index c.bucket_of-bucket.result b.1 long c.loop-k.invariant.1,
      search rules,
    )

pub returns : goal.returns
returns c =
    let e : c.loop-k.k ≡ 0 = omega arith in
    record { chain = rw e at c.loop-k.invariant.0; spots = c.loop-k.invariant.1 }
