-- `nameshape::plain_run` meets its contract.
use Rattle.std.proofs.Common.{◌≡◌, ◌+◌, drop}
use Rattle.nameshape.specs.Shape.{plain_run}
use Rattle.nameshape.proofs.plain_run.Given as goal

abbrev pub invariant-loop-i : goal.invariant-loop-i
invariant-loop-i l = l.i + plain_run (drop l.i l.word) ≡ plain_run l.word
