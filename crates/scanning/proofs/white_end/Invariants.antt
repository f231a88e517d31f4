-- `scanning::white_end` meets its contract.
use Prim.Native.Nat.{◌≤◌}
use mathlib.Core.Path.{◌≡◌}
use lib.ListN.{length}
use Rattle.scanning.specs.Machines.{blank_end, blank_at}
use Rattle.scanning.proofs.white_end.Given as goal

abbrev pub invariant-loop-i : goal.invariant-loop-i
invariant-loop-i l = (l.from ≤ l.i) × (l.i ≤ length l.text) × (blank_end l.text l.i ≡ blank_end l.text l.from) × (blank_at l.text l.i ≡ blank_at l.text l.from)
