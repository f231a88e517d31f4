-- `chunks::write_chunks` meets its contract. Invariant: the touched slots of the first j arcs are written.
use mathlib.Core.Path.{refl, ◌∙◌}
use native.Mathlib.Omega.{arith}
use Rattle.sheetlaws.specs.Sheet.{nth}
use Rattle.findseat.specs.Laws.{order_there}
use Rattle.touchseats.specs.Laws.{chosen_order}
use Rattle.swaparcs.proofs.ArcLaws.{written_none}
use Rattle.chunks.specs.Chunks.{part_long, part_chosen, part-written}
use Rattle.chunks.proofs.write_chunks.Goals as goal

pub loop-j-init : goal.loop-j-init
unfolding nth
loop-j-init c =
    let w = c.args.swapping in
    let s = w.searched in
    (omega arith, refl, c.requires.3, c.requires.4, c.requires.5, written_none s.start.now s.plan.instances s.plan.arcs s.plan.first w.file.now w.incoming.now s.plan.slash w.cells.now w.entries.now w.cells2.now w.entries2.now w.swap w.leaver w.leavertype.now w.comer w.comertype.now c.args.current.now)

pub run_chunk-requires : goal.run_chunk-requires
run_chunk-requires c =
    let w = c.args.swapping in
    let s = w.searched in
    let h = c.choose-chosen.result in
    let long = part_long h.count c.choose-chosen.new.arcs (omega (arith, c.choose-chosen.ensures.0, c.choose-chosen.ensures.1.6)) in
    let chose = part_chosen s.start.now s.plan.arcs s.plan.first c.args.bits.now c.loop-j.j h.count h.next h.place c.choose-chosen.new.arcs c.choose-chosen.ensures.1 in
    (c.requires.0, (rw long (chosen_order s.start.now s.plan.arcs s.plan.first c.args.bits.now c.loop-j.j h.count h.next h.place _ chose)), omega (arith, long, c.choose-chosen.ensures.1.6, c.loop-j.invariant.2), omega (arith, long, c.choose-chosen.ensures.1.6, c.loop-j.invariant.3))

pub write_seats-requires : goal.write_seats-requires
write_seats-requires c =
    let w = c.args.swapping in
    let s = w.searched in
    let h = c.choose-chosen.result in
    let long = part_long h.count c.choose-chosen.new.arcs (omega (arith, c.choose-chosen.ensures.0, c.choose-chosen.ensures.1.6)) in
    let chose = part_chosen s.start.now s.plan.arcs s.plan.first c.args.bits.now c.loop-j.j h.count h.next h.place c.choose-chosen.new.arcs c.choose-chosen.ensures.1 in (
      order_there s.start.now s.plan.arcs s.plan.first _ _ c.requires.0.arcs.good (rw long (chosen_order s.start.now s.plan.arcs s.plan.first c.args.bits.now c.loop-j.j h.count h.next h.place _ chose)),
      omega (arith, long, c.choose-chosen.ensures.1.6, c.loop-j.invariant.2, c.run_chunk.ensures.0),
      omega (arith, long, c.choose-chosen.ensures.1.6, c.loop-j.invariant.3, c.run_chunk.ensures.1),
      c.loop-j.invariant.4,
    )

pub loop-j-preserved : goal.loop-j-preserved
loop-j-preserved c =
    let w = c.args.swapping in
    let s = w.searched in
    let h = c.choose-chosen.result in
    let long = part_long h.count c.choose-chosen.new.arcs (omega (arith, c.choose-chosen.ensures.0, c.choose-chosen.ensures.1.6)) in
    let chose = part_chosen s.start.now s.plan.arcs s.plan.first c.args.bits.now c.loop-j.j h.count h.next h.place c.choose-chosen.new.arcs c.choose-chosen.ensures.1 in (
      chose.2,
      chose.4,
      c.run_chunk.ensures.0 ∙ c.loop-j.invariant.2,
      c.run_chunk.ensures.1 ∙ c.loop-j.invariant.3,
      c.write_seats.auto.current ∙ c.loop-j.invariant.4,
      rw (c.write_seats.ensures, long) (part-written s.start.now s.plan.instances s.plan.arcs s.plan.first w.file.now w.incoming.now s.plan.slash w.cells.now w.entries.now w.cells2.now w.entries2.now w.swap w.leaver w.leavertype.now w.comer w.comertype.now c.requires.0.ready c.args.bits.now c.requires.1 c.loop-j.j h.count h.next h.place _
          c.run_chunk.new.flags c.run_chunk.new.states chose (rw long at c.run_chunk.ensures.2) c.run_chunk.result
          (rw long at c.run_chunk.ensures.3) c.args.current.now c.loop-j.current c.loop-j.invariant.5),
    )
