-- One cell as a text of its own: what one pass through it leaves, and the rules.
-- Assumes nothing.
use Rattle.std.specs.Prelude.{◌≡◌, Bool, true, false, List, [], ◌∷◌, ℕ, ◌-◌, ◌≤◌, ◌<◌, length, replicate, Result, Err, Ok}
use Rattle.std.proofs.Common.{◌∙◌, sym, lt-ltb, le-ltb}
use Rattle.tokens.specs.Stream.{part}
use Rattle.grammar.specs.Answers.{HandAt}
use Rattle.tokenforms.specs.declared.Refusal.{Refusal}
use Rattle.tokenforms.specs.Tokens.{Refused}
use Rattle.grammar.specs.Ll.{lit}
use Rattle.grammar.specs.Machine.{Res, bad}
use Rattle.grammar.specs.declared.Cell.{Cell}
use Rattle.grammar.specs.declared.Hand.{Hand}
use Rattle.grammar.specs.Grammar.{one_cell_of, cell_tail, key, cell, ◌‼◌, ⟨}
use Rattle.grammar.specs.Meaning.{Item, wrongly}
use Rattle.grammar.specs.Reading.{At, reading}
use Rattle.grammar.specs.Outcome.{state, no_log, read_cell_of, text_limit}
use Rattle.rules.specs.Promises.{holds}
use Rattle.headsteps.specs.Steps.{Takes}
use Rattle.cells.specs.Cells.{filled}
use Rattle.readcells.specs.declared.Counts.{Counts}
use Rattle.readcells.specs.Counted.{Read}
use Rattle.readcells.specs.Whole.{TailDone, TailNot, begun_at, filled_cells, word_full, word_begins, word_wrong}
use Rattle.readcells.specs.Left.{Finished}
use Rattle.readcells.specs.Files.{PassRead}

-- 'The incoming text is one cell .. read with the file's divider and time scale'
abbrev pub alone : List ℕ → Bool → ℕ → ℕ → ℕ → Res At
alone s d unit cr ir = reading s (state (one_cell_of d) false d unit cr ir no_log) 0

-- one pass through it; it has no header, so no header text stands anywhere
abbrev pub OneRead : List ℕ → Bool → ℕ → Bool → ℕ → ℕ → List ℕ → List ℕ → List ℕ → List ℕ → Result Counts Refusal → Type 0
OneRead s d unit fill cr ir u u' t t' r = PassRead (alone s d unit cr ir) fill cr ir u u' t t' (replicate 14 0) d unit r

-- a text over the limit, and one within it
pub cell_too_long : (d : Bool) (unit cr ir : ℕ) (s : List ℕ) → text_limit < length s → read_cell_of d unit cr ir s ≡ bad 1 0
unfolding read_cell_of
cell_too_long d unit cr ir s h = rw (lt-ltb text_limit (length s) h)

pub cell_short : (d : Bool) (unit cr ir : ℕ) (s : List ℕ) → length s ≤ text_limit → read_cell_of d unit cr ir s ≡ alone s d unit cr ir
unfolding read_cell_of
cell_short d unit cr ir s h = rw (le-ltb text_limit (length s) h)

module _ (s : List ℕ) (d : Bool) (unit cr ir : ℕ) where
  -- behind its opening bracket
  inside : (h : Result Hand Refusal) → Takes s 0 (⟨ ∷ []) false h → alone s d unit cr ir ≡ holds s h (state (lit (key 53 ‼ cell) ∷ cell_tail d) true d unit cr ir no_log)
  unfolding one_cell_of
  inside h a = a.0 (lit (key 53 ‼ cell)) (cell_tail d) d unit cr ir no_log

  pub one-stops : (k q : ℕ) → Takes s 0 (⟨ ∷ []) false (Refused k q) → alone s d unit cr ir ≡ bad k q
  one-stops k q a = inside (Refused k q) a

  module _ (p k b e v : ℕ) (long : Bool) (a : Takes s 0 (⟨ ∷ []) false (HandAt p k b e long v)) where
    pub one-wrong : (w : ℕ) → (v ≡ 53 → ⊥) → w ≡ wrongly true k (part b e s) → alone s d unit cr ir ≡ bad w b
    one-wrong w z q = inside (HandAt p k b e long v) a ∙ word_wrong s p k b e v long a.1 d w z q _ unit cr ir _

    pub one-full : v ≡ 53 → cr ≡ 0 → alone s d unit cr ir ≡ bad 9 b
    one-full z q = inside (HandAt p k b e long v) a ∙ rw q (word_full s p k b e v long a.1 d z _ unit ir _)

    module _ (z : v ≡ 53) (room : cr ≡ 0 → ⊥) where
      begun : alone s d unit cr ir ≡ reading s (state (cell_tail d) false d unit (cr - 1) ir (begun_at b (replicate 14 0) [] [])) e
      begun = inside (HandAt p k b e long v) a ∙ word_begins s p k b e v long a.1 d z (cell_tail d) unit cr ir (replicate 14 0) [] [] room

      pub one_tail_not : (j q : ℕ) → TailNot s e d unit ir b j q → alone s d unit cr ir ≡ bad j q
      one_tail_not j q u = begun ∙ u [] (cr - 1) (replicate 14 0) [] []

      -- a whole cell, and what ends the text behind it
      pub one-done : (x o : ℕ) (c : Cell) (js : List Item) → length js ≡ o → TailDone s e d unit ir b x c js →
          (fill : Bool) (u u' t t' : List ℕ) → u' ≡ filled_cells fill u 0 (c ∷ []) → t' ≡ filled fill t 0 js →
          (r : Result Counts Refusal) → Finished s x 1 o r → OneRead s d unit fill cr ir u u' t t' r
      one-done x o c js l y fill u u' t t' f g (Ok counts) w =
          (c ∷ [], js, sym w.0, l ∙ sym w.1, begun ∙ y [] (cr - 1) (replicate 14 0) [] [] ∙ w.2.1 d unit _ _ _ ∙ rw (l, w.0, w.1), f, g)
      one-done x o c js l y fill u u' t t' f g (Err why) w =
          (begun ∙ y [] (cr - 1) (replicate 14 0) [] [] ∙ w d unit _ _ _, λ h. (f ∙ rw h, g ∙ rw h))
