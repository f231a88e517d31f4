-- `nearby::is_near` meets its contract. Invariant: the first arcs cannot be touched.
use Rattle.nearby.specs.Seats.{NoneNear}
use Rattle.nearby.proofs.is_near.Given as goal

abbrev pub invariant-loop-arc : goal.invariant-loop-arc
invariant-loop-arc l = NoneNear l.start l.text l.slash l.cell.pathfrom l.cell.pathto l.arcs l.arc-index
