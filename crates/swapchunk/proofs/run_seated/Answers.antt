-- `swapchunk::run_seated` meets its contract.
use mathlib.Core.Path.{refl, sym, ◌∙◌}
use native.Mathlib.Omega.{arith}
use lib.ListN.{length}
use Rattle.meant.specs.Cells.{entries_before}
use Rattle.seating.specs.Through.{through_before, front_ran}
use Rattle.swaparcs.specs.Turns.{front-room, events_fit}
use Rattle.swapchunk.proofs.run_seated.Goals as goal

pub run_cells-front-requires : goal.run_cells-front-requires
unfolding entries_before
run_cells-front-requires c =
    let fit = events_fit c.requires.2 (omega arith) (omega arith) (omega arith) in
    (c.requires.0, c.requires.1, c.requires.3, c.requires.4, c.requires.5, c.requires.6, omega (arith, c.requires.2.room, c.requires.2.there), refl, front-room c.requires.2, omega (arith, fit, c.requires.2.before))

pub returns-then-is_fault : goal.returns-then-is_fault
returns-then-is_fault c =
    let w = c.args.swapping in
    let s = w.searched in
    let t = c.args.seated in
    (c.run_cells-front.ensures.0, through_before s.start.now s.plan.instances s.plan.arcs s.plan.first w.file.now w.incoming.now s.plan.slash w.cells.now w.entries.now w.cells2.now w.entries2.now w.swap t.arcs.now t.flags.now (length t.arcs.now) c.requires.2 c.args.states.now c.run_cells-front.new.states c.run_cells-front.result (sym c.is_fault.ensures ∙ c.if-is_fault.true) c.requires.7 c.run_cells-front.ensures.1)

pub returns : goal.returns
returns c =
    let w = c.args.swapping in
    let s = w.searched in
    let t = c.args.seated in
    (c.run_rest.ensures.0 ∙ c.run_cells-front.ensures.0, c.run_rest.ensures.1 (front_ran s.start.now s.plan.instances s.plan.arcs s.plan.first w.file.now w.incoming.now s.plan.slash w.cells.now w.entries.now w.cells2.now w.entries2.now w.swap t.arcs.now t.flags.now (length t.arcs.now) c.requires.2 c.args.states.now c.run_cells-front.new.states c.run_cells-front.result (sym c.is_fault.ensures ∙ c.if-is_fault.false) c.requires.7 c.run_cells-front.ensures.1))
