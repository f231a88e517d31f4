-- `sheetparts::values_step` meets its contract.
use Prim.Native.Nat.{◌≤◌, ◌-◌}
use mathlib.Core.Path.{◌≡◌}
use lib.ListN.{length}
use Rattle.sheetparts.specs.Form.{values_step}
use Rattle.sheetparts.proofs.values_step.Given as goal

abbrev pub invariant-loop-slot : goal.invariant-loop-slot
invariant-loop-slot l =
    (l.here ≤ length l.sheet) × (values_step l.sheet l.kind (l.count - l.slot) l.slot l.here ≡ values_step l.sheet l.kind l.count 0 l.place)
