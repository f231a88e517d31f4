-- `seats::run_cells` meets its contract. Invariant: the seats were run through the cells number `from` up to k, `first` entries stand before number k, and its events start at `event`.
use Prim.Native.Nat.{◌+◌, ◌≤◌}
use mathlib.Core.Path.{◌≡◌}
use lib.ListN.{length}
use Rattle.meant.specs.Cells.{entries_before}
use Rattle.nearby.specs.Laws.{AllSoFar}
use Rattle.seats.proofs.run_cells.Given as goal

abbrev pub invariant-loop-k : goal.invariant-loop-k
invariant-loop-k l =
    let s = l.searched in
    let t = l.seated in
    (l.first ≡ entries_before l.cells l.k) × (l.event ≤ l.begin + l.k + l.first)
    × (AllSoFar s.start.now l.file s.plan.slash s.plan.instances s.plan.arcs s.plan.first l.cells l.from l.to l.entries l.begin t.arcs.now t.flags.now
    l.initial.states (length t.arcs.now) l.k l.states l.event)
    × (length l.states ≡ length l.initial.states)
