-- `seating::load_seats` meets its contract. Invariant: the seats so far have their values.
use mathlib.Core.Path.{◌∙◌}
use native.Mathlib.Omega.{arith}
use Rattle.seating.specs.Through.{loaded_more}
use Rattle.seating.proofs.load_seats.Goals as goal

pub loop-seat-preserved : goal.loop-seat-preserved
loop-seat-preserved c =
    let l = c.store.auto.table in (
      l ∙ c.loop-seat.invariant.0,
      loaded_more c.args.start.now c.args.arcs.now c.loop-seat.seat c.loop-seat.states _ _ (c.requires.0 c.loop-seat.seat c.loop-seat-test.true)
          (omega (arith, c.loop-seat-test.true, c.requires.1, c.loop-seat.invariant.0)) c.loop-seat.invariant.1 (rw c.values.ensures at c.load.ensures) c.store.ensures,
    )
