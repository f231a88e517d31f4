-- `scanning::close_end` meets its contract.
use Prim.Native.Nat.{◌≤◌, ◌+◌}
use mathlib.Core.Path.{◌≡◌}
use lib.ListN.{length, drop}
use Rattle.scanning.specs.Scan.{scan_len}
use Rattle.scanning.specs.Machines.{close_halts, text_goes}
use Rattle.scanning.proofs.close_end.Given as goal

abbrev pub invariant-loop-i : goal.invariant-loop-i
invariant-loop-i l = (l.i ≤ length l.text) × (l.from ≤ l.i) × (l.i + scan_len close_halts text_goes l.state (drop l.i l.text) ≡ l.from + scan_len close_halts text_goes l.begin (drop l.from l.text))
