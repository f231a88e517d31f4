-- Faults (the laws: proofs/Faults.antt).
-- Assumes nothing.
use Rattle.std.proofs.Math.Option.{Option, none, some}
use Prim.Native.Nat.{ℕ, suc}

-- what is wrong at an event: its number in the file, from 0, and the number of the refusal
pub record Fault : Type 0 where
  pub event : ℕ
  pub number : ℕ

-- the same behind one event more
unfoldable pub later : Option Fault → Option Fault
later none = none
later (some f) = some (record { event = suc f.event; number = f.number })
