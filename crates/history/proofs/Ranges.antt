-- Values stay within 10^15 either way.
-- Assumes nothing.
use Rattle.std.specs.Prelude.{◌≡◌, refl, Bool, true, false, ℕ, leb, nat_abs, ◌+ℤ◌}
use Rattle.std.proofs.Common.{subst, arith, leb-true}
use mathlib.Core.List.{List, Memᴰ}
use Rattle.std.proofs.Math.Option.{none, some}
use Rattle.classes.specs.Choice.{pick}
use Rattle.history.specs.Events.{limit, Value, Supply, nothing, replace, add, Held, holds, fails, summed, step, Event, history}
use Rattle.history.specs.Ranges.{InRange, Fits}
use Rattle.history.proofs.EventLaws.{history_keeps, holds_inj}

not-holds : {v : Value} {n : ℕ} → ◌≡◌ {A = Held} (fails n) (holds v) → ⊥
not-holds e = let z : ◌≡◌ {A = ℕ} 0 1 = cc in omega arith

step_in_range : (v : Value) (x : Supply) (y : Value) → InRange v → Fits x → step v x ≡ holds y → InRange y
unfolding step summed
step_in_range v nothing y r f e = subst InRange (holds_inj e) r
step_in_range v (replace t) y r f e = subst InRange (holds_inj e) f
step_in_range none (add t) y r f e = absurd (not-holds e)
step_in_range (some u) (add t) y r f e = go (leb (nat_abs (u +ℤ t)) limit) refl e
  where
    go : (b : Bool) → leb (nat_abs (u +ℤ t)) limit ≡ b → pick b (holds (some (u +ℤ t))) (fails 16) ≡ holds y → InRange y
    go true p e = subst InRange (holds_inj e) (leb-true _ _ p)
    go false p e = absurd (not-holds e)

-- if the times of a file are in range, as reading ensures, so is whatever a history holds
pub history_in_range : {Slot Word : Type 0} (es : List (Event Slot Word)) (s : Slot) (v w : Value)
    → ((e : Event Slot Word) → Memᴰ e es → Fits (e.gives s)) → InRange v → history (holds v) es s ≡ holds w → InRange w
history_in_range es s v w f = history_keeps InRange es s v w (λ e m x y p q. step_in_range x (e.gives s) y p (f e m) q)
