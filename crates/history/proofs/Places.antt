-- Words (places) are only carried along: renaming them renames the word of a refusal, and nothing else.
-- Assumes nothing.
use Rattle.std.specs.Prelude.{◌≡◌, Bool, ℕ}
use Rattle.std.proofs.Math.Path.{refl, ap, fun_ext}
use Rattle.std.proofs.Common.{sym, ◌∙◌}
use mathlib.Core.List.{List, [], ◌∷◌, ◌++◌, map}
use Rattle.std.proofs.Math.Option.{Option, none, some}
use Rattle.classes.specs.Choice.{and}
use Rattle.history.specs.Events.{Value, Held, holds, next, final, fails_with, Event, Answer, sheet, everywhere, unless}
use Rattle.history.specs.Events.{history, failing, number, outcome, annotated}
use Rattle.history.proofs.EventLaws.{any_cong}
use Rattle.history.specs.Sheet.{Records, Values, Entry, Cell, applies, addresses, lacks, matches}
use Rattle.history.specs.Sheet.{cell_number, given, if_arc, cell_event, entry_event, events, file_events, each, slots_of, Cut, cut, swapped, annotate}
use Rattle.history.specs.Sheet.{patch}
use Rattle.history.specs.Places.{renamed_answer, renamed_entry, renamed_cell}
use Rattle.history.proofs.SheetLaws.{patch_annotates}

map-append : {A B : Type 0} (f : A → B) (x y : List A) → map f (x ++ y) ≡ map f x ++ map f y
map-append f [] y = refl
map-append f (a ∷ x) y = rw (map-append f x y)

module _ {Slot Word Other : Type 0} (f : Word → Other) where
  unfoldable pub renamed : Event Slot Word → Event Slot Other
  renamed e = record { word = f e.word; own = e.own; gives = e.gives }

  pub renamed-history : (es : List (Event Slot Word)) (s : Slot) (h : Held) → history h (map renamed es) s ≡ history h es s
  unfolding history renamed
  renamed-history [] s h = refl
  renamed-history (e ∷ more) s h = renamed-history more s (next h (e.gives s))

  module _ (slots : List Slot) (judged : Slot → Bool) (start v : Slot → Value) where
    renamed-failing : (n : ℕ) (es : List (Event Slot Word)) → failing slots judged start n (map renamed es) ≡ failing slots judged start n es
    unfolding failing
    renamed-failing n es = any_cong _ _ slots (λ s m. ap (λ (h : Held). and (judged s) (fails_with n h)) (renamed-history es s (holds (start s))))

    renamed-unless : (w : Word) (o : Option ℕ) (a : Answer Slot Word) → unless (f w) o (renamed_answer f a) ≡ renamed_answer f (unless w o a)
    unfolding unless renamed_answer
    renamed-unless w none a = refl
    renamed-unless w (some n) a = refl

    renamed-number : (done : List (Event Slot Word)) (e : Event Slot Word)
        → number slots judged start (map renamed done) (renamed e) ≡ number slots judged start done e
    unfolding number renamed
    renamed-number done e = rw (← map-append renamed done (e ∷ []), renamed-failing 15 (done ++ (e ∷ [])), renamed-failing 16 (done ++ (e ∷ [])))

    pub renamed-outcome : (done todo : List (Event Slot Word)) → outcome slots judged start v (map renamed done) (map renamed todo) ≡ renamed_answer f
        (outcome slots judged start v done todo)
    unfolding outcome renamed_answer renamed
    renamed-outcome done [] = refl
    renamed-outcome done (e ∷ more) =
        ap (λ (o : Option ℕ). unless (f e.word) o (outcome slots judged start v (map renamed done ++ (renamed e ∷ [])) (map renamed more)))
        (renamed-number done e)
        ∙ ap (unless (f e.word) (number slots judged start done e))
        (ap (λ (l : List (Event Slot Other)). outcome slots judged start v l (map renamed more)) (sym (map-append renamed done (e ∷ [])))
        ∙ renamed-outcome (done ++ (e ∷ [])) more)
        ∙ renamed-unless e.word (number slots judged start done e) (outcome slots judged start v (done ++ (e ∷ [])) more)

  pub renamed-annotated : (slots : List Slot) (start : Slot → Value) (es : List (Event Slot Word))
      → annotated slots start (map renamed es) ≡ renamed_answer f (annotated slots start es)
  unfolding annotated
  renamed-annotated slots start es = ap (λ (v : Slot → Value). outcome slots everywhere start v [] (map renamed es))
      (fun_ext (λ s. ap final (renamed-history es s (holds (start s))))) ∙ renamed-outcome slots everywhere start _ [] es

module _ {Word Other : Type 0} (f : Word → Other) where
  module _ (records : Records) where
    renamed-entry : (c : Cell Word) (e : Entry Word) → entry_event records (renamed_cell f c) (renamed_entry f e) ≡ renamed f (entry_event records c e)
    unfolding entry_event renamed_cell renamed_entry renamed lacks applies matches given if_arc addresses
    renamed-entry c e = refl

    renamed_entries : (c : Cell Word) (l : List (Entry Word)) → map (entry_event records (renamed_cell f c)) (map (renamed_entry f) l) ≡ map (renamed f)
        (map (entry_event records c) l)
    renamed_entries c [] = refl
    renamed_entries c (e ∷ more) = rw (renamed-entry c e, renamed_entries c more)

    renamed_own : (c : Cell Word) → cell_number records (renamed_cell f c) ≡ cell_number records c
    unfolding cell_number applies renamed_cell
    renamed_own c = refl

    pub renamed-events : (c : Cell Word) → events records (renamed_cell f c) ≡ map (renamed f) (events records c)
    unfolding events cell_event renamed renamed_cell
    renamed-events c = rw (renamed_own c, renamed_entries c c.entries)

    pub renamed-file : (cells : List (Cell Word)) → file_events records (map (renamed_cell f) cells) ≡ map (renamed f) (file_events records cells)
    unfolding file_events each
    renamed-file [] = refl
    renamed-file (c ∷ more) = rw (renamed-events c, renamed-file more, map-append)

    pub renamed-annotate : (start : Values) (cells : List (Cell Word))
        → annotate records start (map (renamed_cell f) cells) ≡ renamed_answer f (annotate records start cells)
    unfolding annotate
    renamed-annotate start cells = rw (renamed-file cells) (renamed-annotated f (slots_of records) start (file_events records cells))

    -- demand 3 with the new file's own places: its cells are the old ones with the incoming one in place of number k, but for their words, and f
    -- tells where in the new file a word stands
    pub patch-is-new-file : (start : Values) (cells : List (Cell Word)) (k : ℕ) (origin : Word) (incoming : Cell Word) (current : Values)
        (p : Cut (Cell Word)) (new : List (Cell Other))
        → annotate records start cells ≡ sheet current → cut cells k ≡ some p → new ≡ map (renamed_cell f) (swapped p incoming)
        → annotate records start new ≡ renamed_answer f (patch records start cells k origin incoming current)
    patch-is-new-file start cells k origin incoming current p new e c n = rw (n, patch_annotates records start cells k origin incoming current p e c)
        (renamed-annotate start (swapped p incoming))
