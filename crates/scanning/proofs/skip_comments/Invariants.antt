-- `scanning::skip_comments` meets its contract.
use Prim.Native.Nat.{◌≤◌, ◌+◌}
use mathlib.Core.Path.{◌≡◌}
use lib.ListN.{length, drop}
use Rattle.scanning.specs.Scan.{scan_len, scan_st}
use Rattle.scanning.specs.Machines.{blank_halts, blank_goes, outside, blank}
use Rattle.scanning.proofs.skip_comments.Given as goal

abbrev pub invariant-loop-i : goal.invariant-loop-i
invariant-loop-i l =
    (l.i ≤ length l.text) × (l.since ≤ l.i)
    × (l.i + scan_len blank_halts blank_goes (blank l.mode l.since) (drop l.i l.text) ≡ l.from + scan_len blank_halts blank_goes outside (drop l.from l.text))
    × (scan_st blank_halts blank_goes (blank l.mode l.since) (drop l.i l.text) ≡ scan_st blank_halts blank_goes outside (drop l.from l.text))
