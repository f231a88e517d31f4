-- `sheet::search` meets its contract.
use Rattle.std.proofs.Common.{◌≡◌, ◌-◌}
use Rattle.sheet.specs.Search.{search}
use Rattle.sheet.proofs.search.Given as goal

abbrev pub invariant-loop : goal.invariant-loop
invariant-loop g l =
    let R = g.R.Record in
    let b = l.sheet in
    ∥ R.Good b (l.count - l.counter) l.here ∥₁
    × (search (R.key b) (R.next b) R.order (R.wanted l.wanted) (l.count - l.counter) l.here
    ≡ search (R.key b) (R.next b) R.order (R.wanted l.wanted) l.count l.first)
