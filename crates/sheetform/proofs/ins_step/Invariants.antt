-- `sheetform::ins_step` meets its contract.
use Prim.Native.Nat.{◌≤◌, ◌-◌, ◌+◌}
use mathlib.Core.Path.{◌≡◌}
use lib.ListN.{length}
use Rattle.sheetparts.specs.Form.{ins_step, path_len}
use Rattle.sheetform.proofs.ins_step.Given as goal

abbrev pub invariant-loop : goal.invariant-loop
invariant-loop l =
    (l.here ≤ length l.sheet) × ((l.prev ≡ 0 → ⊥) → l.prev + 4 + path_len l.sheet l.prev ≤ length l.sheet)
    × (ins_step l.sheet (l.count - l.counter) l.prev l.here ≡ ins_step l.sheet l.count 0 l.place)
