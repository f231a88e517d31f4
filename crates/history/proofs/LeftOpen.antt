-- What demand 3 leaves open: a patch that judges 15 and 16 on every slot, and 12 to 14 on every cell, satisfies it too.
-- Assumes nothing.
use Rattle.std.specs.Prelude.{◌≡◌, refl, Bool, true, false}
use Rattle.std.proofs.Common.{sym, ◌∙◌}
use Rattle.std.proofs.Math.Path.{ap, fun_ext}
use mathlib.Core.List.{List, [], ◌++◌}
use Rattle.classes.specs.Choice.{pick}
use Rattle.history.specs.Events.{Value, Held, holds, final, Event, Answer, sheet, everywhere, history, outcome, annotated, affected}
use Rattle.history.proofs.EventLaws.{accepted_value, unaffected}

module _ {Slot Word : Type 0} where
  -- another definition of patching: nothing lenient, every slot judged
  unfoldable pub strict_patched : List Slot → (Slot → Value) → List (Event Slot Word) → List (Event Slot Word) → List (Event Slot Word)
      → List (Event Slot Word) → (Slot → Value) → Answer Slot Word
  strict_patched slots start before outgoing after incoming current =
      let new : List (Event Slot Word) = before ++ (incoming ++ after) in
      outcome slots everywhere start (λ s. pick (affected outgoing incoming s) (final (history (holds (start s)) new s)) (current s)) [] new

  pub strict_is_annotating : (slots : List Slot) (start : Slot → Value) (before outgoing after incoming : List (Event Slot Word))
      (current : Slot → Value)
      → annotated slots start (before ++ (outgoing ++ after)) ≡ sheet current
      → strict_patched slots start before outgoing after incoming current ≡ annotated slots start (before ++ (incoming ++ after))
  unfolding annotated strict_patched
  strict_is_annotating slots start before outgoing after incoming current e = ap (λ (v : Slot → Value). outcome slots everywhere start v []
      (before ++ (incoming ++ after))) (fun_ext (λ s. value s (affected outgoing incoming s) refl))
    where
      over : List (Event Slot Word) → Slot → Held
      over es s = history (holds (start s)) es s

      was : (s : Slot) → final (over (before ++ (outgoing ++ after)) s) ≡ current s
      was s = ap (λ (f : Slot → Value). f s) (accepted_value slots everywhere start (λ s. final (over (before ++ (outgoing ++ after)) s)) []
          (before ++ (outgoing ++ after)) current e)

      value : (s : Slot) (b : Bool) → affected outgoing incoming s ≡ b
          → pick b (final (over (before ++ (incoming ++ after)) s)) (current s) ≡ final (over (before ++ (incoming ++ after)) s)
      value s true p = refl
      value s false p = sym (was s) ∙ ap final (unaffected before outgoing after incoming s (holds (start s)) p)
