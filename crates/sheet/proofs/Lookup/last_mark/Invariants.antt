-- `sheet::Lookup::last_mark` meets its contract.
use Rattle.std.proofs.Common.{◌-◌, ◌≤◌, ◌<◌}
use Rattle.sheet.specs.Search.{NotBeyond, stride_of}
use Rattle.sheet.proofs.Lookup.last_mark.Given as goal

abbrev pub invariant-loop-low : goal.invariant-loop-low
invariant-loop-low g l =
    let R = g.R.Record in
    let b = l.self.sheet.now in
    (l.low < l.high) × (l.high ≤ 4096)
    × NotBeyond (R.key b) (R.next b) R.order (R.wanted l.self.wanted) l.self.count l.self.first (stride_of l.self.count) l.low

abbrev pub decreases-loop-low : goal.decreases-loop-low
decreases-loop-low g l = l.high - l.low
