-- `times::read_digits` meets its contract: the invariant: the steps from here on come to the whole fold.
use Rattle.std.proofs.Common.{◌≡◌, ◌≤◌, drop}
use Rattle.numbershape.specs.Steps.{stop, fold, step_of, start}
use Rattle.times.proofs.read_digits.Given as goal

abbrev pub invariant-loop-byte : goal.invariant-loop-byte
invariant-loop-byte l = (l.digits.value ≤ stop) × (fold step_of l.digits (drop l.byte-index l.text) ≡ fold step_of (start l.keep) l.text)
