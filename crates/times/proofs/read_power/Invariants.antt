-- `times::read_power` meets its contract: the invariant: the digits from here on, stopped, come to the whole number, stopped.
use Rattle.std.proofs.Common.{◌≡◌, ◌≤◌, drop}
use Rattle.times.specs.Exponent.{capped}
use Rattle.times.proofs.read_power.Given as goal

abbrev pub invariant-loop-byte : goal.invariant-loop-byte
invariant-loop-byte l = (l.value ≤ l.cap) × (capped l.cap l.value (drop l.byte-index l.digits) ≡ capped l.cap 0 l.digits)
