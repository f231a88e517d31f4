-- `nearby::agreeing` meets its contract. Invariant: the first i bytes agree.
use mathlib.Core.Path.{◌≡◌}
use mathlib.Core.Bool.{true}
use lib.ListN.{take}
use Rattle.nearby.specs.Seats.{agree}
use Rattle.nearby.proofs.agreeing.Given as goal

abbrev pub invariant-loop-i : goal.invariant-loop-i
invariant-loop-i l = agree l.y (take l.i l.x) ≡ true
