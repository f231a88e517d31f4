-- `seating::load_seats` meets its contract. Invariant: the first i seats have their values.
use mathlib.Core.Path.{◌≡◌}
use lib.ListN.{length}
use Rattle.seating.specs.Seating.{StatesLoaded}
use Rattle.seating.proofs.load_seats.Given as goal

abbrev pub invariant-loop-seat : goal.invariant-loop-seat
invariant-loop-seat l = (length l.states ≡ length l.initial.states) × StatesLoaded l.start l.arcs l.seat l.states
