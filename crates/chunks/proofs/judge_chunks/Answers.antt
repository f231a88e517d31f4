-- `chunks::judge_chunks` meets its contract. Invariant: the least fault of the first j arcs is known.
use mathlib.Core.Path.{refl, ◌∙◌}
use native.Mathlib.Omega.{arith}
use Rattle.sheetlaws.specs.Sheet.{nth}
use Rattle.touchseats.specs.Laws.{chosen_order}
use Rattle.swaparcs.proofs.ArcLaws.{arcs_none}
use Rattle.chunks.specs.Chunks.{part_long, part_chosen, part-judged}
use Rattle.chunks.proofs.judge_chunks.Goals as goal

pub loop-j-init : goal.loop-j-init
unfolding nth
loop-j-init c =
    let w = c.args.swapping in
    let s = w.searched in
    (omega arith, refl, c.requires.3, c.requires.4, arcs_none s.start.now s.plan.instances s.plan.arcs s.plan.first w.file.now w.incoming.now s.plan.slash w.cells.now w.entries.now w.cells2.now w.entries2.now w.swap w.leaver w.leavertype.now w.comer w.comertype.now c.args.own)

pub run_chunk-fault-requires : goal.run_chunk-fault-requires
run_chunk-fault-requires c =
    let w = c.args.swapping in
    let s = w.searched in
    let h = c.choose-chosen.result in
    let long = part_long h.count c.choose-chosen.new.arcs (omega (arith, c.choose-chosen.ensures.0, c.choose-chosen.ensures.1.6)) in
    let chose = part_chosen s.start.now s.plan.arcs s.plan.first c.args.bits.now c.loop-j.j h.count h.next h.place c.choose-chosen.new.arcs c.choose-chosen.ensures.1 in
    (c.requires.0, (rw long (chosen_order s.start.now s.plan.arcs s.plan.first c.args.bits.now c.loop-j.j h.count h.next h.place _ chose)), omega (arith, long, c.choose-chosen.ensures.1.6, c.loop-j.invariant.2), omega (arith, long, c.choose-chosen.ensures.1.6, c.loop-j.invariant.3))

pub loop-j-preserved : goal.loop-j-preserved
loop-j-preserved c =
    let w = c.args.swapping in
    let s = w.searched in
    let h = c.choose-chosen.result in
    let long = part_long h.count c.choose-chosen.new.arcs (omega (arith, c.choose-chosen.ensures.0, c.choose-chosen.ensures.1.6)) in
    let chose = part_chosen s.start.now s.plan.arcs s.plan.first c.args.bits.now c.loop-j.j h.count h.next h.place c.choose-chosen.new.arcs c.choose-chosen.ensures.1 in (
      chose.2,
      chose.4,
      c.run_chunk-fault.ensures.0 ∙ c.loop-j.invariant.2,
      c.run_chunk-fault.ensures.1 ∙ c.loop-j.invariant.3,
      rw c.better-best.ensures (part-judged s.start.now s.plan.instances s.plan.arcs s.plan.first w.file.now w.incoming.now s.plan.slash w.cells.now w.entries.now w.cells2.now w.entries2.now w.swap w.leaver w.leavertype.now w.comer w.comertype.now c.requires.0.ready c.args.bits.now c.requires.1 c.loop-j.j h.count h.next h.place _
          c.run_chunk-fault.new.flags c.run_chunk-fault.new.states chose (rw long at c.run_chunk-fault.ensures.2) c.run_chunk-fault.result
          (rw long at c.run_chunk-fault.ensures.3) c.args.own c.loop-j.best c.loop-j.invariant.4),
    )
