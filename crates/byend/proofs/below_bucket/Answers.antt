-- `byend::below_bucket` meets its contract.
use Rattle.std.proofs.Common.{◌-◌, refl, sym, ◌∙◌, arith}
use Rattle.byend.specs.Ends.{below_bucket, below_none, bucket-take}
use Rattle.byend.proofs.below_bucket.Goals as goal

pub returns-then-start-eq0 : goal.returns-then-start-eq0
returns-then-start-eq0 c =
    (sym (below_none c.args.name.now (sym c.last_component-start.ensures.0 ∙ c.if-start-eq0.true)), omega arith)

pub returns : goal.returns
unfolding below_bucket
returns c =
    (c.bucket_of.ensures.0 ∙ bucket-take c.args.name.now (c.last_component-start.result - 1) (omega (arith, c.last_component-start.ensures.1)) ∙ rw (← c.last_component-start.ensures.0) refl, c.bucket_of.ensures.1)
