-- The slots of one arc, run together through the events of the new file: the first fault of those that are touched, and what they come to.
-- Assumes nothing.
use Rattle.std.specs.Prelude.{ℕ, zero, suc, Bool, false, List, [], ◌∷◌, eqb}
use Rattle.std.proofs.Math.Option.{Option, none, some}
use Rattle.classes.specs.Choice.{pick, and}
use Rattle.history.specs.Events.{Value, step, final, fails_with, any_of, Event}
use Rattle.history.specs.Faults.{Fault, later}
use Rattle.history.specs.Scan.{better}
use Rattle.applying.specs.Laws.{first_of}

module _ {Slot Word : Type 0} (group : List Slot) (touched : Slot → Bool) where
  -- some touched slot of the group fails at this event with this number
  unfoldable pub fails_here : ℕ → (Slot → Value) → Event Slot Word → Bool
  fails_here n now e = any_of (λ (t : Slot). and (touched t) (fails_with n (step (now t) (e.gives t)))) group

  -- 15 over all of them, then 16; 0 is neither
  unfoldable pub number_here : (Slot → Value) → Event Slot Word → ℕ
  number_here now e = first_of false (fails_here 15 now e) (fails_here 16 now e)

  -- the values behind an event that is let pass
  unfoldable pub stepped : (Slot → Value) → Event Slot Word → Slot → Value
  stepped now e t = pick (touched t) (final (step (now t) (e.gives t))) (now t)

  -- the first fault, by the number of its event from 0 on
  unfoldable pub group_fault : (Slot → Value) → List (Event Slot Word) → Option Fault
  group_fault now [] = none
  group_fault now (e ∷ more) =
      pick (eqb (number_here now e) 0) (later (group_fault (stepped now e) more)) (some (record { event = 0; number = number_here now e }))

  -- and without one, what the slots come to
  unfoldable pub group_left : (Slot → Value) → List (Event Slot Word) → Slot → Value
  group_left now [] = now
  group_left now (e ∷ more) = group_left (stepped now e) more

-- The first n groups, one after the other: the least fault of all.
unfoldable pub least_fault : (ℕ → Option Fault) → Option Fault → ℕ → Option Fault
least_fault fault best zero = best
least_fault fault best (suc n) = better (least_fault fault best n) (fault n)
