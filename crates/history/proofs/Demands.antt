-- The demands that the papers make of annotating and patching, above reading, under one name each.
-- Assumes nothing.
use Rattle.std.specs.Prelude.{◌≡◌, refl, false, ◌↔◌, ℕ}
use mathlib.Core.List.{List, map, Memᴰ}
use Rattle.std.proofs.Math.Option.{none, some}
use Rattle.history.specs.Events.{holds, Event, sheet, refused, left, history, affected}
use Rattle.history.proofs.EventLaws.{refused_unchanged}
use Rattle.history.specs.Sheet.{Records, Slot, Values, Cell, Cut, cut, swapped, events, file_events, annotate, patch}
use Rattle.history.proofs.SheetLaws.{patch_annotates, patch-outside, patch_commutes, annotate_exactly}
use Rattle.history.specs.Places.{renamed_cell, renamed_answer}
use Rattle.history.proofs.Places.{patch-is-new-file}

module _ (records : Records) {Word : Type 0} where
  -- Demand 2, for annotating: the sheet v is given exactly if no cell gets 12 or 13 and no entry 14, and every slot's history, over all entries in
  -- file order and from the starting value, ends without 15 or 16, in v
  pub demand_2 : (start v : Values) (cells : List (Cell Word))
      → (annotate records start cells ≡ sheet v)
      ↔ (((e : Event Slot Word) → Memᴰ e (file_events records cells) → e.own ≡ none)
      × ((s : Slot) → history (holds (start s)) (file_events records cells) s ≡ holds (v s)))
  demand_2 = annotate_exactly records

  -- Demand 3. The file has been accepted and gave `current`; number k is one of its cells, and the incoming text was read as one cell
  module _ (start : Values) (cells : List (Cell Word)) (k : ℕ) (origin : Word) (incoming : Cell Word) (current : Values) (p : Cut (Cell Word)) where
    pub record Demand3 : Type 1 where
      -- patching gives the very answer of annotating with the new file: its sheet, or the same number at the same word
      pub same : patch records start cells k origin incoming current ≡ annotate records start (swapped p incoming)
      -- the same, with the new file's own places: f says where in it a word stands
      pub places : {Place : Type 0} (f : Word → Place)
          → annotate records start (map (renamed_cell f) (swapped p incoming))
          ≡ renamed_answer f (patch records start cells k origin incoming current)
      -- 'all else stays': a value that neither cell supplies is as before
      pub outside : (s : Slot) → affected (events records p.one) (events records incoming) s ≡ false
          → left current (patch records start cells k origin incoming current) s ≡ current s
      -- 'A refused patch keeps the current sheet.'
      pub refusal : (n : ℕ) (w : Word) → patch records start cells k origin incoming current ≡ refused n w
          → left current (patch records start cells k origin incoming current) ≡ current

    pub demand_3 : annotate records start cells ≡ sheet current → cut cells k ≡ some p → Demand3
    demand_3 e c = record {
      same = patch_annotates records start cells k origin incoming current p e c;
      places = λ {Place} f. patch-is-new-file f records start cells k origin incoming current p _ e c refl;
      outside = λ s. patch-outside records start cells k origin incoming current p s c;
      refusal = λ n w. refused_unchanged current (patch records start cells k origin incoming current) n w;
    }

  -- 'all else stays', for any current sheet, accepted file or not, and whatever the answer
  pub outside_unchanged : (start : Values) (cells : List (Cell Word)) (k : ℕ) (origin : Word) (incoming : Cell Word) (current : Values)
      (p : Cut (Cell Word)) (s : Slot) → cut cells k ≡ some p
      → affected (events records p.one) (events records incoming) s ≡ false
      → left current (patch records start cells k origin incoming current) s ≡ current s
  outside_unchanged = patch-outside records

  -- Ask 14: 'for two different cell numbers, if both orders are accepted throughout, the final sheets are equal, the second patch in each order
  -- taking the file with the first swap made'; for any current sheet
  pub ask_14 : (start : Values) (cells : List (Cell Word)) (j k : ℕ) (origin : Word) (c d : Cell Word) (current v1 w1 v2 w2 : Values)
      (p q : Cut (Cell Word)) → cut cells j ≡ some p → cut cells k ≡ some q → (j ≡ k → ⊥)
      → patch records start cells j origin c current ≡ sheet v1 → patch records start (swapped p c) k origin d v1 ≡ sheet w1
      → patch records start cells k origin d current ≡ sheet v2 → patch records start (swapped q d) j origin c v2 ≡ sheet w2
      → w1 ≡ w2
  ask_14 = patch_commutes records
