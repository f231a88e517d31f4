-- `sheetform::arcs_step` meets its contract.
use Prim.Native.Nat.{◌≤◌, ◌-◌}
use mathlib.Core.Path.{◌≡◌}
use lib.ListN.{length}
use Rattle.sheetparts.specs.Form.{arcs_step, values_at}
use Rattle.sheetform.proofs.arcs_step.Given as goal

abbrev pub invariant-loop : goal.invariant-loop
invariant-loop l =
    (l.here ≤ length l.sheet) × ((l.prev ≡ 0 → ⊥) → values_at l.sheet l.prev ≤ length l.sheet)
    × (arcs_step l.sheet (l.count - l.counter) l.prev l.here ≡ arcs_step l.sheet l.count 0 l.place)
