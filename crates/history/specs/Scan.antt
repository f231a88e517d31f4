-- The lesser of two faults, and the first number that the records give (the laws: proofs/Scan.antt).
-- Assumes nothing.
use Rattle.std.specs.Prelude.{Bool, ltb, eqb}
use mathlib.Core.List.{List, [], ◌∷◌}
use Rattle.std.proofs.Math.Option.{Option, none, some}
use Prim.Native.Nat.{ℕ}
use Rattle.classes.specs.Choice.{pick, or, and}
use Rattle.history.specs.Events.{Event}
use Rattle.history.specs.Faults.{Fault, later}

-- g comes before f: it is of an earlier event, or of the same one with a lower number
abbrev pub precedes : Fault → Fault → Bool
precedes g f = or (ltb g.event f.event) (and (eqb g.event f.event) (ltb g.number f.number))

-- the lesser of two; the first, if they are equal
unfoldable pub better : Option Fault → Option Fault → Option Fault
better none g = g
better (some f) none = some f
better (some f) (some g) = pick (precedes g f) (some g) (some f)

-- the number that the records give to an event (12, 13 or 14), or else what the events behind it have
unfoldable pub own_here : Option ℕ → Option Fault → Option Fault
own_here none rest = later rest
own_here (some n) rest = some (record { event = 0; number = n })

module _ {Slot Word : Type 0} where
  -- the first number that the records give
  unfoldable pub own_fault : List (Event Slot Word) → Option Fault
  own_fault [] = none
  own_fault (e ∷ more) = own_here e.own (own_fault more)
