-- Patching is annotating events that supply the touched slots only, with the other values put back.
-- Assumes nothing.
use Rattle.std.specs.Prelude.{◌≡◌, ℕ}
use Rattle.std.proofs.Math.Path.{refl, sym, ap, fun_ext}
use Rattle.std.proofs.Common.{◌∙◌, ⊎_elim}
use Rattle.std.proofs.Math.Bool.{Bool, true, false}
use mathlib.Core.List.Memᴰ
use mathlib.Core.List.{List, [], ◌∷◌, ◌++◌, map, map-append}
use Rattle.std.proofs.Math.Option.{Option, none, some}
use Rattle.std.proofs.Math.Logic.{inl, inr}
use Rattle.classes.specs.Choice.{pick, and}
use Rattle.history.specs.Events.{Value, nothing, Held, holds, fails, step, next, final, fails_with, Event, Answer, sheet, refused, everywhere}
use Rattle.history.specs.Events.{unless, history, lenient, failing, number, outcome, annotated, affected, patched, folded}
use Rattle.history.proofs.EventLaws.{any_cong, Within, fold-is-annotated}

-- the same answer, with its values changed by g
unfoldable pub revalued : {Slot Word : Type 0} → ((Slot → Value) → Slot → Value) → Answer Slot Word → Answer Slot Word
revalued g (sheet v) = sheet (g v)
revalued g (refused n w) = refused n w

-- the values v where the test holds, and else those of `current`: 'all else stays'
abbrev pub put_back : {Slot : Type 0} → (Slot → Bool) → (Slot → Value) → (Slot → Value) → Slot → Value
put_back touched current v s = pick (touched s) (v s) (current s)

-- nothing changes nothing
quiet : (h : Held) → next h nothing ≡ h
unfolding next step
quiet (holds v) = refl
quiet (fails n) = refl

module _ {Slot Word : Type 0} where
  revalued-unless : (g : (Slot → Value) → Slot → Value) (w : Word) (o : Option ℕ) (a : Answer Slot Word)
      → unless w o (revalued g a) ≡ revalued g (unless w o a)
  unfolding unless revalued
  revalued-unless g w none a = refl
  revalued-unless g w (some n) a = refl

  -- which values are handed over has no part in the judgement
  pub outcome_values : (slots : List Slot) (judged : Slot → Bool) (start : Slot → Value) (g : (Slot → Value) → Slot → Value) (v : Slot → Value)
      (done todo : List (Event Slot Word))
      → outcome slots judged start (g v) done todo ≡ revalued g (outcome slots judged start v done todo)
  unfolding outcome revalued
  outcome_values slots judged start g v done [] = refl
  outcome_values slots judged start g v done (e ∷ more) = rw (outcome_values slots judged start g v (done ++ (e ∷ [])) more)
      (revalued-unless g e.word (number slots judged start done e) _)

  module _ (touched : Slot → Bool) where
    -- the event, supplying nothing where the test fails: such slots are OUT
    unfoldable pub only : Event Slot Word → Event Slot Word
    only e = record { word = e.word; own = e.own; gives = λ s. pick (touched s) (e.gives s) nothing }

    unfoldable pub restricted : List (Event Slot Word) → List (Event Slot Word)
    restricted es = map only es

    -- a touched slot has its history, and any other keeps what it has
    pub restricted_in : (es : List (Event Slot Word)) (s : Slot) (h : Held) → touched s ≡ true → history h (restricted es) s ≡ history h es s
    unfolding restricted only history
    restricted_in [] s h t = refl
    restricted_in (e ∷ more) s h t = restricted_in more s (next h ((only e).gives s)) t
        ∙ ap (λ (b : Bool). history (next h (pick b (e.gives s) nothing)) more s) t

    pub restricted_out : (es : List (Event Slot Word)) (s : Slot) (h : Held) → touched s ≡ false → history h (restricted es) s ≡ h
    unfolding restricted only history
    restricted_out [] s h t = refl
    restricted_out (e ∷ more) s h t = restricted_out more s (next h ((only e).gives s)) t
        ∙ ap (λ (b : Bool). next h (pick b (e.gives s) nothing)) t ∙ quiet h

    module _ (slots : List Slot) (start : Slot → Value) where
      restricted-failing : (n : ℕ) (es : List (Event Slot Word))
          → failing slots everywhere start n (restricted es) ≡ failing slots touched start n es
      unfolding failing fails_with
      restricted-failing n es = any_cong _ _ slots (λ s m. go s (touched s) refl)
        where
          go : (s : Slot) (b : Bool) → touched s ≡ b
              → fails_with n (history (holds (start s)) (restricted es) s) ≡ and b (fails_with n (history (holds (start s)) es s))
          go s true t = ap (fails_with n) (restricted_in es s (holds (start s)) t)
          go s false t = ap (fails_with n) (restricted_out es s (holds (start s)) t)

      restricted-number : (done : List (Event Slot Word)) (e : Event Slot Word)
          → number slots everywhere start (restricted done) (only e) ≡ number slots touched start done e
      unfolding number restricted only
      restricted-number done e = rw (← map-append only done (e ∷ []), restricted-failing 15 (done ++ (e ∷ [])), restricted-failing 16 (done ++ (e ∷ [])))

      -- JUDGING THE TOUCHED SLOTS is judging all, where the events supply the touched ones only
      pub restricted-outcome : (v : Slot → Value) (done todo : List (Event Slot Word))
          → outcome slots everywhere start v (restricted done) (restricted todo) ≡ outcome slots touched start v done todo
      unfolding outcome restricted only
      restricted-outcome v done [] = refl
      restricted-outcome v done (e ∷ more) = ap (unless e.word _)
          (ap (λ (l : List (Event Slot Word)). outcome slots everywhere start v l (restricted more)) (sym (map-append only done (e ∷ [])))
          ∙ restricted-outcome v (done ++ (e ∷ [])) more) ∙ rw (restricted-number done e)

      pub restricted-judged : (v : Slot → Value) (es : List (Event Slot Word))
          → outcome slots touched start v [] es ≡ outcome slots everywhere start v [] (restricted es)
      unfolding restricted
      restricted-judged v es = sym (restricted-outcome v [] es)

    restricted-within : (slots : List Slot) (es : List (Event Slot Word)) → Within slots es → Within slots (restricted es)
    unfolding Within restricted only
    restricted-within slots es w d m s = let (e, k, p) = Memᴰ.of_map only es m in rw (← p) (⊎_elim inl (λ q. inr (rw q (off (touched s)))) (w e k s))
      where
        off : (b : Bool) → pick b nothing nothing ≡ nothing
        off true = refl
        off false = refl

  -- where every slot is touched nothing is left out: annotating is the same run
  pub restricted-all : (es : List (Event Slot Word)) → restricted everywhere es ≡ es
  unfolding restricted only
  restricted-all [] = refl
  restricted-all (e ∷ more) = rw (restricted-all more)

  -- PATCHING, with the touched slots those that the outgoing or the incoming cell supplies
  module _ (slots : List Slot) (start : Slot → Value) (before outgoing after incoming : List (Event Slot Word)) (current : Slot → Value) where
    -- the new file's events, as patching reads them
    abbrev pub new_file : List (Event Slot Word)
    new_file = lenient before ++ (incoming ++ lenient after)

    -- is annotating the restricted events, with what is not touched put back
    pub patched-is-annotated : patched slots start before outgoing after incoming current
        ≡ revalued (put_back (affected outgoing incoming) current) (annotated slots start (restricted (affected outgoing incoming) new_file))
    unfolding patched annotated restricted
    patched-is-annotated = sym (restricted-outcome touched slots start _ [] new_file)
        ∙ ap (λ (v : Slot → Value). outcome slots everywhere start v [] (restricted touched new_file)) (fun_ext (λ s. same s (touched s) refl))
        ∙ outcome_values slots everywhere start (put_back touched current) (λ s. final (over (restricted touched new_file) s)) [] (restricted touched new_file)
      where
        touched : Slot → Bool
        touched = affected outgoing incoming

        over : List (Event Slot Word) → Slot → Held
        over es s = history (holds (start s)) es s

        same : (s : Slot) (b : Bool) → touched s ≡ b
            → pick b (final (over new_file s)) (current s) ≡ pick b (final (over (restricted touched new_file) s)) (current s)
        same s true t = ap final (sym (restricted_in touched new_file s (holds (start s)) t))
        same s false t = refl

    -- entry by entry, as the annotating program does it
    pub patched-by_entries : Within slots new_file → patched slots start before outgoing after incoming current
        ≡ revalued (put_back (affected outgoing incoming) current) (folded slots start (restricted (affected outgoing incoming) new_file))
    patched-by_entries w = rw (fold-is-annotated slots start (restricted (affected outgoing incoming) new_file)
        (restricted-within (affected outgoing incoming) slots new_file w)) patched-is-annotated
