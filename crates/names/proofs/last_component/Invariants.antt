-- `names::last_component` meets its contract.
use Rattle.std.proofs.Common.{◌≡◌, ◌≤◌, drop}
use Rattle.names.specs.Name.{last_start, start_from}
use Rattle.names.proofs.last_component.Given as goal

abbrev pub invariant-loop-i : goal.invariant-loop-i
invariant-loop-i l = (l.start ≤ l.i) × (start_from l.escaped l.start l.i (drop l.i l.name) ≡ last_start l.name)
