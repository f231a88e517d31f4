-- `nearby::is_wanted` meets its contract. Invariant: the kind fits none of the first arcs.
use Rattle.nearby.specs.Seats.{NoneFits}
use Rattle.nearby.proofs.is_wanted.Given as goal

abbrev pub invariant-loop-arc : goal.invariant-loop-arc
invariant-loop-arc l = NoneFits l.start l.kind l.arcs l.arc-index
