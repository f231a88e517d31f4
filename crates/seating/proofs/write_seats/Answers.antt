-- `seating::write_seats` meets its contract. Invariant: the seats so far are written.
use mathlib.Core.Path.{refl, ◌∙◌}
use Rattle.seating.specs.Seating.{backs}
use Rattle.seating.specs.Through.{back_more}
use Rattle.seating.proofs.write_seats.Goals as goal

pub loop-seat-init : goal.loop-seat-init
unfolding backs
loop-seat-init c = refl

pub loop-seat-preserved : goal.loop-seat-preserved
loop-seat-preserved c =
    back_more c.args.start.now c.args.arcs.now c.args.flags.now c.args.states.now c.args.current.now c.loop-seat.seat c.loop-seat.current _ c.loop-seat.invariant
    (c.write_back.ensures ∙ rw (c.values.ensures, c.load.ensures, c.load-in-loop-seat.ensures))
