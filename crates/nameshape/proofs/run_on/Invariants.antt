-- `nameshape::run_on` meets its contract.
use Rattle.std.proofs.Common.{◌≡◌, drop}
use Rattle.nameshape.specs.Shape.{name_run}
use Rattle.nameshape.proofs.run_on.Given as goal

abbrev pub invariant-loop-byte : goal.invariant-loop-byte
invariant-loop-byte l = name_run l.slash l.state (drop l.byte-index l.part) ≡ name_run l.slash l.before l.part
