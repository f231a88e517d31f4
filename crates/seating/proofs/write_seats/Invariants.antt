-- `seating::write_seats` meets its contract. Invariant: the first i seats are written.
use mathlib.Core.Path.{◌≡◌}
use Rattle.seating.specs.Seating.{backs}
use Rattle.seating.proofs.write_seats.Given as goal

abbrev pub invariant-loop-seat : goal.invariant-loop-seat
invariant-loop-seat l = l.current ≡ backs l.start l.arcs l.flags l.states l.initial.current l.seat
