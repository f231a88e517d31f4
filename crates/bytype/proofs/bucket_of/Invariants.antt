-- `bytype::bucket_of` meets its contract. Invariant: the bucket of the bytes so far.
use Rattle.std.proofs.Common.{◌≡◌}
use Rattle.bytype.specs.ByType.{bucket_to}
use Rattle.bytype.proofs.bucket_of.Given as goal

abbrev pub invariant-loop-byte : goal.invariant-loop-byte
invariant-loop-byte l = l.bucket ≡ bucket_to l.text l.byte-index
