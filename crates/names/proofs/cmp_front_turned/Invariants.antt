-- `names::cmp_front_turned` meets its contract.
use Rattle.std.proofs.Common.{◌≡◌, ◌≤◌, length, drop}
use Rattle.names.specs.Name.{canon, canon_from}
use Rattle.names.specs.Order.{front}
use Rattle.names.proofs.cmp_front_turned.Given as goal

abbrev pub invariant-loop-i : goal.invariant-loop-i
invariant-loop-i l = (l.i ≤ length l.x) × (front (drop l.i l.x) (canon_from l.slash l.escaped (drop l.i l.name)) ≡ front l.x (canon l.slash l.name))
