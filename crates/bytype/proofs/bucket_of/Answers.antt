-- `bytype::bucket_of` meets its contract. Invariant: the bucket of the bytes so far.
use Rattle.std.proofs.Common.{◌≡◌, refl, length, arith}
use Rattle.bytype.specs.ByType.{bucket_to, bucket_of, bucket-more, bucket-small}
use Rattle.bytype.proofs.bucket_of.Goals as goal

pub loop-byte-init : goal.loop-byte-init
unfolding bucket_to
loop-byte-init c = refl

pub overflow_mul-bucket : goal.overflow_mul-bucket
overflow_mul-bucket c =
    omega (arith, c.loop-byte.invariant, bucket-small c.args.text.now c.loop-byte.byte-index)

pub overflow_add-bucket : goal.overflow_add-bucket
overflow_add-bucket c =
    let s = bucket-small c.args.text.now c.loop-byte.byte-index in
    let b = c.loop-byte.invariant in
    omega arith

pub loop-byte-preserved : goal.loop-byte-preserved
loop-byte-preserved c = rw (bucket-more, c.from.ensures, c.loop-byte.invariant)

pub returns : goal.returns
unfolding bucket_of
returns c =
    let e : c.loop-byte.byte-index ≡ length c.args.text.now = omega arith in
    (rw (← e) c.loop-byte.invariant, omega (arith, c.loop-byte.invariant, bucket-small c.args.text.now c.loop-byte.byte-index))
