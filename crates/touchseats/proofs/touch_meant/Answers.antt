-- `touchseats::touch_meant` meets its contract. Invariant: the first i seats have their flags.
use mathlib.Core.Path.{sym, ◌∙◌}
use native.Mathlib.Omega.{arith}
use lib.ListN.{length}
use Rattle.findseat.specs.Laws.{order_there}
use Rattle.touchseats.specs.Laws.{seat-meant, seat_unmeant}
use Rattle.touchseats.proofs.touch_meant.Goals as goal
use Rattle.touchseats.proofs.touch_meant.Goals.{then-is_meant, else-is_meant}

pub is_meant-requires : goal.is_meant-requires
is_meant-requires c =
    let s = c.args.asked.searched in (c.requires.0, order_there s.start.now s.plan.arcs s.plan.first c.args.arcs.now (length c.args.arcs.now) c.requires.1 c.requires.3 c.loop-seat.seat c.loop-seat-test.true, c.requires.2)

pub loop-seat-preserved : goal.loop-seat-preserved
loop-seat-preserved c =
    let s = c.args.asked.searched in
    let text = c.args.asked.text.now in
    elim c.if-is_meant.branch [
      | then-is_meant w ↦ (
        c.if-is_meant.auto.flags ∙ c.loop-seat.invariant.0,
        seat-meant s.start.now text s.plan.slash s.plan.instances c.args.entries.now c.args.row c.args.asked.whom c.args.asked.celltype.now c.args.arcs.now
            c.args.flags.now c.loop-seat.seat c.loop-seat.flags _ (omega (arith, c.loop-seat-test.true, c.requires.5, c.loop-seat.invariant.0))
            (rw (← c.head_at-entry.ensures) (sym c.is_meant.ensures ∙ w.if-is_meant.true)) (w.flags-is ∙ w.touch_seat.ensures.1) c.loop-seat.invariant.1,
      )
      | else-is_meant w ↦ (
        c.if-is_meant.auto.flags ∙ c.loop-seat.invariant.0,
        seat_unmeant s.start.now text s.plan.slash s.plan.instances c.args.entries.now c.args.row c.args.asked.whom c.args.asked.celltype.now c.args.arcs.now
            c.args.flags.now c.loop-seat.seat c.loop-seat.flags _ (rw (← c.head_at-entry.ensures) (sym c.is_meant.ensures ∙ w.if-is_meant.false)) w.flags-is c.loop-seat.invariant.1,
      )
    ]
