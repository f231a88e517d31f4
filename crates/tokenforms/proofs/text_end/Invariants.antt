-- `tokenforms::text_end` meets its contract.
use Prim.Native.Nat.{◌≤◌, ◌+◌}
use mathlib.Core.Path.{◌≡◌}
use lib.ListN.{length, drop}
use Rattle.scanning.specs.Scan.{scan_len, scan_st}
use Rattle.scanning.specs.Machines.{text_halts, text_goes}
use Rattle.tokenforms.specs.Tokens.{spoilt}
use Rattle.tokenforms.proofs.text_end.Given as goal

abbrev pub invariant-loop-i : goal.invariant-loop-i
invariant-loop-i l = (l.i ≤ length l.text) × (l.from ≤ l.i) × (l.i + scan_len text_halts text_goes l.state (drop l.i l.text) ≡ spoilt l.text l.from) × (scan_st text_halts text_goes l.state (drop l.i l.text) ≡ scan_st text_halts text_goes 0 (drop l.from l.text))
