-- `swapchunk::run_rest` meets its contract.
use mathlib.Core.Path.{sym, ◌∙◌}
use native.Mathlib.Omega.{arith}
use native.Mathlib.Numerals.{add-one}
use lib.ListN.{length}
use Rattle.seating.specs.Through.{through_own, through-behind}
use Rattle.swaparcs.specs.Turns.{leaves, behind-at, events_fit}
use Rattle.swapchunk.proofs.run_rest.Goals as goal

pub overflow_add-event : goal.overflow_add-event
overflow_add-event c =
    let fit = events_fit c.requires.2 (omega arith) (omega arith) (omega arith) in
    omega (arith, fit)

pub run_seats-own-requires : goal.run_seats-own-requires
run_seats-own-requires c =
    let fit = events_fit c.requires.2 (omega arith) (omega arith) (omega arith) in
    (c.requires.0, c.requires.1, c.requires.3, c.requires.4, c.requires.5, c.requires.6, c.requires.2.room2, omega (arith, c.requires.2.coming, c.requires.2.entries_room2), omega (arith, fit, c.requires.2.coming))

pub overflow_add-behind : goal.overflow_add-behind
overflow_add-behind c = omega (arith, leaves c.requires.2)

pub overflow_add-begin : goal.overflow_add-begin
overflow_add-begin c =
    let fit = events_fit c.requires.2 (omega arith) (omega arith) (omega arith) in
    omega (arith, fit)

pub overflow_add-begin-2 : goal.overflow_add-begin-2
overflow_add-begin-2 c =
    let fit = events_fit c.requires.2 (omega arith) (omega arith) (omega arith) in
    omega (arith, fit)

pub run_cells-requires : goal.run_cells-requires
run_cells-requires c =
    let fit = events_fit c.requires.2 (omega arith) (omega arith) (omega arith) in
    (c.requires.0, c.requires.1, c.requires.3, c.requires.4, c.requires.5, omega (arith, c.requires.6, c.run_seats-own.ensures.0), c.requires.2.room, behind-at c.requires.2, c.requires.2.entries_room, fit)

pub returns-then-is_fault : goal.returns-then-is_fault
returns-then-is_fault c =
    let w = c.args.swapping in
    let s = w.searched in
    let t = c.args.seated in
    (c.run_seats-own.ensures.0, λ front. through_own s.start.now s.plan.instances s.plan.arcs s.plan.first w.file.now w.incoming.now s.plan.slash w.cells.now w.entries.now w.cells2.now w.entries2.now w.swap t.arcs.now t.flags.now (length t.arcs.now) c.requires.2 c.args.states.now front c.run_seats-own.new.states c.run_seats-own.result (sym c.is_fault.ensures ∙ c.if-is_fault.true) c.run_seats-own.ensures.1)

pub returns : goal.returns
returns c =
    let w = c.args.swapping in
    let s = w.searched in
    let t = c.args.seated in (
      c.run_cells.ensures.0 ∙ c.run_seats-own.ensures.0,
      λ front. through-behind s.start.now s.plan.instances s.plan.arcs s.plan.first w.file.now w.incoming.now s.plan.slash w.cells.now w.entries.now w.cells2.now w.entries2.now w.swap t.arcs.now t.flags.now (length t.arcs.now) c.requires.2 c.args.states.now front c.run_seats-own.new.states c.run_cells.new.states c.run_seats-own.result c.run_cells.result
          (sym c.is_fault.ensures ∙ c.if-is_fault.false) c.run_seats-own.ensures.1 (rw (add-one w.swap.outgoing) at c.run_cells.ensures.1),
    )
