-- Patching carries words along, as annotating does; so two patches commute where the second takes a new text, whose words stand elsewhere.
-- Assumes nothing.
use Rattle.std.specs.Prelude.{◌≡◌, Bool, ℕ, zero, suc}
use Rattle.std.proofs.Math.Path.{refl, fun_ext}
use Rattle.std.proofs.Common.{ap, ◌∙◌}
use mathlib.Core.List.{List, [], ◌∷◌, ◌++◌, map, map-append, map-map}
use Rattle.std.proofs.Math.Option.{Option, none, some}
use Rattle.classes.specs.Choice.{pick}
use Rattle.history.specs.Events.{Value, holds, final, any_of, Event, sheet, history, supply, lenient, outcome, affected, patched}
use Rattle.history.specs.Sheet.{Records, Values, Cell, Cut, behind, cut, swapped, events, file_events, slots_of, patch_cut, patch}
use Rattle.history.proofs.SheetLaws.{patch_commutes}
use Rattle.history.specs.Places.{renamed_answer, renamed_entry, renamed_cell}
use Rattle.history.proofs.Places.{renamed, renamed-history, renamed-outcome, renamed-events, renamed-file}

module _ {Slot Word Other : Type 0} (f : Word → Other) where
  renamed-lenient : (es : List (Event Slot Word)) → lenient (map (renamed f) es) ≡ map (renamed f) (lenient es)
  unfolding lenient renamed
  renamed-lenient [] = refl
  renamed-lenient (e ∷ more) = rw (renamed-lenient more)

  renamed-supply : (es : List (Event Slot Word)) (s : Slot) → supply (map (renamed f) es) s ≡ supply es s
  unfolding supply any_of renamed
  renamed-supply [] s = refl
  renamed-supply (e ∷ more) s = rw (renamed-supply more s)

  pub renamed-patched : (slots : List Slot) (start : Slot → Value) (before outgoing after incoming : List (Event Slot Word)) (current : Slot → Value)
      → patched slots start (map (renamed f) before) (map (renamed f) outgoing) (map (renamed f) after) (map (renamed f) incoming) current
      ≡ renamed_answer f (patched slots start before outgoing after incoming current)
  unfolding patched affected
  renamed-patched slots start before outgoing after incoming current =
      go (affected outgoing incoming) _ (fun_ext (λ s. rw (renamed-supply outgoing s, renamed-supply incoming s))) (lenient before ++ (incoming ++ lenient after)) _
      (rw (renamed-lenient before, renamed-lenient after, map-append, map-append))
    where
      go : (t t' : Slot → Bool) → t' ≡ t → (new : List (Event Slot Word)) (new' : List (Event Slot Other)) → new' ≡ map (renamed f) new
          → outcome slots t' start (λ s. pick (t' s) (final (history (holds (start s)) new' s)) (current s)) [] new'
          ≡ renamed_answer f (outcome slots t start (λ s. pick (t s) (final (history (holds (start s)) new s)) (current s)) [] new)
      go t t' p new new' q = rw (p, q) (ap (λ (v : Slot → Value). outcome slots t start v [] (map (renamed f) new))
          (fun_ext (λ s. rw (renamed-history f new s (holds (start s))))) ∙ renamed-outcome f slots t start _ [] new)

-- the cut of a list, element by element
unfoldable pub cut_of : {A B : Type 0} → (A → B) → Cut A → Cut B
cut_of g p = record { before = map g p.before; one = g p.one; after = map g p.after }

unfoldable pub cut_option : {A B : Type 0} → (A → B) → Option (Cut A) → Option (Cut B)
cut_option g none = none
cut_option g (some p) = some (cut_of g p)

cut-map : {A B : Type 0} (g : A → B) (l : List A) (k : ℕ) → cut (map g l) k ≡ cut_option g (cut l k)
unfolding cut behind cut_option cut_of
cut-map g l zero = refl
cut-map g [] (suc k) = refl
cut-map g (a ∷ more) (suc zero) = refl
cut-map {A} {B} g (a ∷ more) (suc (suc k)) = rw (cut-map g more (suc k)) (go (cut more (suc k)))
  where
    go : (o : Option (Cut A)) → behind (g a) (cut_option g o) ≡ cut_option g (behind a o)
    go none = refl
    go (some p) = refl

cut_mapped : {A B : Type 0} (g : A → B) (l : List A) (k : ℕ) (p : Cut A) → cut l k ≡ some p → cut (map g l) k ≡ some (cut_of g p)
unfolding cut_option
cut_mapped g l k p e = cut-map g l k ∙ rw e

-- a cell without its words
abbrev pub bare : {Word : Type 0} → Cell Word → Cell (Unit {0})
bare {Word} = renamed_cell (λ (w : Word). tt)

bare-cell : {Word Other : Type 0} (f : Word → Other) (c : Cell Word) → bare (renamed_cell f c) ≡ bare c
unfolding renamed_cell renamed_entry
bare-cell f c = rw map-map

-- a cell whose words were renamed is the same without them
pub bare-renamed : {Word Other : Type 0} (f : Word → Other) (cells : List (Cell Word)) → map bare (map (renamed_cell f) cells) ≡ map bare cells
bare-renamed f [] = refl
bare-renamed f (c ∷ more) = rw (bare-cell f c, bare-renamed f more)

module _ (records : Records) where
  -- PATCHING, with the words renamed
  pub renamed-patch : {Word Other : Type 0} (f : Word → Other) (start : Values) (cells : List (Cell Word)) (k : ℕ) (origin : Word) (incoming : Cell Word)
      (current : Values)
      → patch records start (map (renamed_cell f) cells) k (f origin) (renamed_cell f incoming) current
      ≡ renamed_answer f (patch records start cells k origin incoming current)
  unfolding patch patch_cut cut_option cut_of renamed_answer
  renamed-patch {Word} f start cells k origin incoming current = rw (cut-map (renamed_cell f) cells k) (go (cut cells k))
    where
      go : (o : Option (Cut (Cell Word))) → patch_cut records start (cut_option (renamed_cell f) o) (f origin) (renamed_cell f incoming) current
          ≡ renamed_answer f (patch_cut records start o origin incoming current)
      go none = refl
      go (some p) = rw (renamed-file f records p.before, renamed-file f records p.after, renamed-events f records p.one, renamed-events f records incoming)
          (renamed-patched f (slots_of records) start (file_events records p.before) (events records p.one) (file_events records p.after)
          (events records incoming) current)

  pub accepted_bare : {Word : Type 0} (start : Values) (cells : List (Cell Word)) (k : ℕ) (origin : Word) (incoming : Cell Word) (current v : Values)
      → patch records start cells k origin incoming current ≡ sheet v → patch records start (map bare cells) k tt (bare incoming) current ≡ sheet v
  unfolding renamed_answer
  accepted_bare {Word} start cells k origin incoming current v e = renamed-patch (λ (w : Word). tt) start cells k origin incoming current ∙ rw e

  -- ASK 14, of texts: `first` is the file with c in place of number j, and `second` with d in place of number k, read anew, with words of their own;
  -- so are the cells d' and c' that come then
  pub ask_14_texts : {A B C : Type 0} (start : Values) (cells : List (Cell A)) (j k : ℕ) (x : A) (c d : Cell A) (current v1 w1 v2 w2 : Values) (p q : Cut (Cell A))
      (first : List (Cell B)) (y : B) (d' : Cell B) (second : List (Cell C)) (z : C) (c' : Cell C)
      → cut cells j ≡ some p → cut cells k ≡ some q → (j ≡ k → ⊥)
      → map bare first ≡ map bare (swapped p c) → bare d' ≡ bare d → map bare second ≡ map bare (swapped q d) → bare c' ≡ bare c
      → patch records start cells j x c current ≡ sheet v1 → patch records start first k y d' v1 ≡ sheet w1
      → patch records start cells k x d current ≡ sheet v2 → patch records start second j z c' v2 ≡ sheet w2
      → w1 ≡ w2
  unfolding swapped cut_of
  ask_14_texts {A} start cells j k x c d current v1 w1 v2 w2 p q first y d' second z c' f g n s1 s2 s3 s4 e1 f1 e2 f2 =
      patch_commutes records start (map bare cells) j k tt (bare c) (bare d) current v1 w1 v2 w2 (cut_of bare p) (cut_of bare q) (cut_mapped bare cells j p f)
      (cut_mapped bare cells k q g) n
      (accepted_bare start cells j x c current v1 e1) (rw (s1, s2, map-append) at (accepted_bare start first k y d' v1 w1 f1))
      (accepted_bare start cells k x d current v2 e2) (rw (s3, s4, map-append) at (accepted_bare start second j z c' v2 w2 f2))
