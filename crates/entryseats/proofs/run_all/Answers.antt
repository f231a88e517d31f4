-- `entryseats::run_all` meets its contract. Invariant: the first i seats were run, with the least number.
use mathlib.Core.Path.{sym, ◌∙◌}
use native.Mathlib.Omega.{arith}
use Rattle.nearby.specs.Laws.{seats_more, seats_pass}
use Rattle.entryseats.proofs.run_all.Goals as goal
use Rattle.entryseats.proofs.run_all.Goals.{then-is_meant, else-is_meant}

pub loop-seat-preserved : goal.loop-seat-preserved
loop-seat-preserved c =
    let a = c.args.asked in
    let s = a.searched in
    elim c.if-is_meant.branch [ then-is_meant w ↦ (c.if-is_meant.auto.states ∙ c.loop-seat.invariant.0, rw (w.states-is, w.least-is, w.lesser_of-least.ensures) (seats_more s.start.now a.text.now s.plan.slash s.plan.instances c.args.entries.now c.args.row a.whom a.celltype.now c.args.arcs.now c.args.flags.now c.args.states.now c.loop-seat.seat c.loop-seat.least _ c.loop-seat.states _ (omega (arith, c.loop-seat-test.true, c.loop-seat.invariant.0, c.requires.5)) c.loop-seat.invariant.1 w.run_seat-number.ensures.1)) | else-is_meant w ↦ (c.if-is_meant.auto.states ∙ c.loop-seat.invariant.0, rw (w.states-is, w.least-is) (seats_pass s.start.now a.text.now s.plan.slash s.plan.instances c.args.entries.now c.args.row a.whom a.celltype.now c.args.arcs.now c.args.flags.now c.args.states.now c.loop-seat.seat c.loop-seat.least c.loop-seat.states (sym (rw c.head_at-entry.ensures at c.is_meant.ensures) ∙ w.if-is_meant.false) c.loop-seat.invariant.1)) ]
