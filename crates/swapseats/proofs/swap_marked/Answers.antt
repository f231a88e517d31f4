-- `swapseats::swap_marked` meets its contract.
use mathlib.Core.Path.{◌≡◌, refl, sym, ◌∙◌}
use native.Mathlib.Omega.{arith}
use borrow.Author.Rules.{rules}
use Rattle.sheetlaws.specs.Sheet.{nth}
use Rattle.findseat.specs.Laws.{order_there}
use Rattle.touchseats.specs.Laws.{chosen_order}
use Rattle.swaparcs.proofs.ArcLaws.{arcs_none, written_none}
use Rattle.chunks.specs.Chunks.{part_long, part_chosen, last_judged, last_written, swapped-done, swapped-stop}
use Rattle.swapseats.proofs.swap_marked.Goals as goal

pub choose-chosen-requires : goal.choose-chosen-requires
unfolding nth
choose-chosen-requires c =
    (c.requires.0.arcs.good, omega arith, refl, c.requires.2, search rules)

pub run_chunk-fault-requires : goal.run_chunk-fault-requires
run_chunk-fault-requires c =
    let w = c.args.swapping in
    let s = w.searched in
    let h = c.choose-chosen.result in
    let long = part_long h.count c.choose-chosen.new.arcs (omega (arith, c.choose-chosen.ensures.0, c.choose-chosen.ensures.1.6)) in
    let chose = part_chosen s.start.now s.plan.arcs s.plan.first c.args.bits.now 0 h.count h.next h.place c.choose-chosen.new.arcs c.choose-chosen.ensures.1 in
    (c.requires.0, (rw long (chosen_order s.start.now s.plan.arcs s.plan.first c.args.bits.now 0 h.count h.next h.place _ chose)), omega (arith, long, c.choose-chosen.ensures.1.6, c.requires.3), omega (arith, long, c.choose-chosen.ensures.1.6, c.requires.4))

pub write_seats-requires : goal.write_seats-requires
write_seats-requires c =
    let w = c.args.swapping in
    let s = w.searched in
    let h = c.choose-chosen.result in
    let long = part_long h.count c.choose-chosen.new.arcs (omega (arith, c.choose-chosen.ensures.0, c.choose-chosen.ensures.1.6)) in
    let chose = part_chosen s.start.now s.plan.arcs s.plan.first c.args.bits.now 0 h.count h.next h.place c.choose-chosen.new.arcs c.choose-chosen.ensures.1 in (
      order_there s.start.now s.plan.arcs s.plan.first _ _ c.requires.0.arcs.good (rw long (chosen_order s.start.now s.plan.arcs s.plan.first c.args.bits.now 0 h.count h.next h.place _ chose)),
      omega (arith, long, c.choose-chosen.ensures.1.6, c.run_chunk-fault.ensures.0, c.requires.3),
      omega (arith, long, c.choose-chosen.ensures.1.6, c.run_chunk-fault.ensures.1, c.requires.4),
      c.requires.5,
    )

pub returns-then-not-is_fault : goal.returns-then-not-is_fault
returns-then-not-is_fault c =
    let w = c.args.swapping in
    let s = w.searched in
    let h = c.choose-chosen.result in
    let long = part_long h.count c.choose-chosen.new.arcs (omega (arith, c.choose-chosen.ensures.0, c.choose-chosen.ensures.1.6)) in
    let chose = part_chosen s.start.now s.plan.arcs s.plan.first c.args.bits.now 0 h.count h.next h.place c.choose-chosen.new.arcs c.choose-chosen.ensures.1 in
    let e : h.next ≡ s.plan.arcs = omega (arith, c.choose-chosen.ensures.1.2, c.if-chosen-plan.false) in
    let judged = last_judged s.start.now s.plan.instances s.plan.arcs s.plan.first w.file.now w.incoming.now s.plan.slash w.cells.now w.entries.now w.cells2.now w.entries2.now w.swap w.leaver w.leavertype.now w.comer w.comertype.now c.requires.0.ready c.args.bits.now c.requires.1 0 h.count h.next h.place _
    c.run_chunk-fault.new.flags c.run_chunk-fault.new.states chose (rw long at c.run_chunk-fault.ensures.2) c.run_chunk-fault.result
    (rw long at c.run_chunk-fault.ensures.3) c.args.own c.args.own c.better-best.result e c.better-best.ensures (arcs_none s.start.now s.plan.instances s.plan.arcs s.plan.first w.file.now w.incoming.now s.plan.slash w.cells.now w.entries.now w.cells2.now w.entries2.now w.swap w.leaver w.leavertype.now w.comer w.comertype.now c.args.own) in
    swapped-done s.start.now s.plan.instances s.plan.arcs s.plan.first w.file.now w.incoming.now s.plan.slash w.cells.now w.entries.now w.cells2.now w.entries2.now w.swap w.leaver w.leavertype.now w.comer w.comertype.now c.args.own c.args.current.now c.better-best.result _ (sym c.is_fault.ensures ∙ c.if-not-is_fault.true) judged
    (last_written s.start.now s.plan.instances s.plan.arcs s.plan.first w.file.now w.incoming.now s.plan.slash w.cells.now w.entries.now w.cells2.now w.entries2.now w.swap w.leaver w.leavertype.now w.comer w.comertype.now c.requires.0.ready c.args.bits.now c.requires.1 0 h.count h.next h.place _ c.run_chunk-fault.new.flags
    c.run_chunk-fault.new.states chose (rw long at c.run_chunk-fault.ensures.2) c.run_chunk-fault.result (rw long at c.run_chunk-fault.ensures.3)
    c.args.current.now c.args.current.now _ e (rw long at c.write_seats.ensures) (written_none s.start.now s.plan.instances s.plan.arcs s.plan.first w.file.now w.incoming.now s.plan.slash w.cells.now w.entries.now w.cells2.now w.entries2.now w.swap w.leaver w.leavertype.now w.comer w.comertype.now c.args.current.now))

pub returns-else-not-is_fault : goal.returns-else-not-is_fault
returns-else-not-is_fault c =
    let w = c.args.swapping in
    let s = w.searched in
    let h = c.choose-chosen.result in
    let long = part_long h.count c.choose-chosen.new.arcs (omega (arith, c.choose-chosen.ensures.0, c.choose-chosen.ensures.1.6)) in
    let chose = part_chosen s.start.now s.plan.arcs s.plan.first c.args.bits.now 0 h.count h.next h.place c.choose-chosen.new.arcs c.choose-chosen.ensures.1 in
    let e : h.next ≡ s.plan.arcs = omega (arith, c.choose-chosen.ensures.1.2, c.if-chosen-plan.false) in
    let judged = last_judged s.start.now s.plan.instances s.plan.arcs s.plan.first w.file.now w.incoming.now s.plan.slash w.cells.now w.entries.now w.cells2.now w.entries2.now w.swap w.leaver w.leavertype.now w.comer w.comertype.now c.requires.0.ready c.args.bits.now c.requires.1 0 h.count h.next h.place _
    c.run_chunk-fault.new.flags c.run_chunk-fault.new.states chose (rw long at c.run_chunk-fault.ensures.2) c.run_chunk-fault.result
    (rw long at c.run_chunk-fault.ensures.3) c.args.own c.args.own c.better-best.result e c.better-best.ensures (arcs_none s.start.now s.plan.instances s.plan.arcs s.plan.first w.file.now w.incoming.now s.plan.slash w.cells.now w.entries.now w.cells2.now w.entries2.now w.swap w.leaver w.leavertype.now w.comer w.comertype.now c.args.own) in
    swapped-stop s.start.now s.plan.instances s.plan.arcs s.plan.first w.file.now w.incoming.now s.plan.slash w.cells.now w.entries.now w.cells2.now w.entries2.now w.swap w.leaver w.leavertype.now w.comer w.comertype.now c.args.own c.args.current.now c.better-best.result _ (sym c.is_fault.ensures ∙ c.if-not-is_fault.false) judged refl
