-- `names::cmp_front` meets its contract.
use Rattle.std.proofs.Common.{◌≡◌, drop}
use Rattle.names.specs.Order.{front}
use Rattle.names.proofs.cmp_front.Given as goal

abbrev pub invariant-loop-i : goal.invariant-loop-i
invariant-loop-i l = front (drop l.i l.x) (drop l.i l.y) ≡ front l.x l.y
