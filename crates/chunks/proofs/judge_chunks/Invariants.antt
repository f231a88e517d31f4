-- `chunks::judge_chunks` meets its contract. Invariant: the least fault of the first j arcs is known.
use Prim.Native.Nat.{◌-◌, ◌≤◌}
use mathlib.Core.Path.{◌≡◌}
use lib.ListN.{length}
use Rattle.sheetlaws.specs.Sheet.{place}
use Rattle.swaparcs.proofs.ArcLaws.{ArcsSoFar}
use Rattle.chunks.proofs.judge_chunks.Given as goal

abbrev pub invariant-loop-j : goal.invariant-loop-j
invariant-loop-j l =
    let w = l.swapping in
    let s = w.searched in
    (l.j ≤ s.plan.arcs) × (l.arc ≡ place s.start.now l.j s.plan.first) × (length l.flags ≡ 73728) × (length l.states ≡ 589824)
    × ArcsSoFar s.start.now s.plan.instances s.plan.arcs s.plan.first w.file.now w.incoming.now s.plan.slash w.cells.now w.entries.now w.cells2.now w.entries2.now w.swap w.leaver w.leavertype.now w.comer w.comertype.now l.initial.best l.j l.best

abbrev pub decreases-loop-j : goal.decreases-loop-j
decreases-loop-j l = l.swapping.searched.plan.arcs - l.j
