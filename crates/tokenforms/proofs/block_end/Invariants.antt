-- `tokenforms::block_end` meets its contract.
use Prim.Native.Nat.{◌≤◌, ◌+◌}
use mathlib.Core.Path.{◌≡◌}
use lib.ListN.{length, drop}
use Rattle.scanning.specs.Scan.{scan_len}
use Rattle.scanning.specs.Machines.{block_halts, block_goes}
use Rattle.tokenforms.specs.Tokens.{block_end}
use Rattle.tokenforms.proofs.block_end.Given as goal

abbrev pub invariant-loop-i : goal.invariant-loop-i
invariant-loop-i l = (l.i ≤ length l.text) × (l.i + scan_len block_halts block_goes 0 (drop l.i l.text) ≡ block_end l.text l.from)
