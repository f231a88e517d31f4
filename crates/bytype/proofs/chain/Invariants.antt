-- `bytype::chain` meets its contract. Invariant: the table is the index of the instances from k on.
use Rattle.std.proofs.Common.{◌≡◌, length}
use Rattle.bytype.specs.Chains.{Chained, Noted}
use Rattle.bytype.specs.ByType.{type_bucket, spot_of, link_place, spot_place}
use Rattle.bytype.proofs.chain.Given as goal

abbrev pub invariant-loop-k : goal.invariant-loop-k
invariant-loop-k l = Chained link_place (type_bucket l.sheet) l.count l.k l.index × Noted spot_place (spot_of l.sheet) l.count l.index × (length l.index ≡ 135168)
