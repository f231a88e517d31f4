-- `nearby::common_front` meets its contract. Invariant: the first n bytes agree with the ends of the first arcs.
use Prim.Native.Nat.{◌≤◌}
use lib.ListN.{length, take}
use Rattle.nearby.specs.Seats.{Common}
use Rattle.nearby.proofs.common_front.Given as goal

abbrev pub invariant-loop-arc : goal.invariant-loop-arc
invariant-loop-arc l = (l.n ≤ length l.name) × Common l.start l.arcs l.arc-index (take l.n l.name)
