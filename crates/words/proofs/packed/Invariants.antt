-- `words::packed` meets its contract. The loop's invariant: the code of the bytes passed, taken on over those to come, is the word's,
-- and it is below 256 ^ i.
use Rattle.std.proofs.Common.{◌≡◌, ◌<◌, ◌^◌, drop}
use Rattle.words.specs.Packed.{packed_from, packed}
use Rattle.words.proofs.packed.Given as goal

abbrev pub invariant-loop-byte : goal.invariant-loop-byte
invariant-loop-byte l = (l.code < 256 ^ l.byte-index) × (packed_from l.code (drop l.byte-index l.word) ≡ packed l.word)
