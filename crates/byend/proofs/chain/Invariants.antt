-- `byend::chain` meets its contract. Invariant: the table is the index of the arcs from k on, and holds the places of those before.
use Rattle.std.proofs.Common.{◌≡◌, length}
use Rattle.sheetlaws.specs.Sheet.{place}
use Rattle.bytype.specs.Chains.{Chained, Noted}
use Rattle.byend.specs.Ends.{end_bucket, end_place}
use Rattle.byend.proofs.chain.Given as goal

abbrev pub invariant-loop-k : goal.invariant-loop-k
invariant-loop-k l =
    Chained end_place (end_bucket l.sheet l.first) l.count l.k l.ends × Noted end_place (λ i. place l.sheet i l.first) l.k l.ends × (length l.ends ≡ 135168)
