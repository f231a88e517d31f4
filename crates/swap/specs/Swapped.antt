-- What the swap of one cell answers and leaves: the contracts of its functions.
-- Assumes nothing.
use Rattle.std.specs.Prelude.{ℕ, suc, ◌≡◌, Bool, false, List}
use Rattle.wire.specs.Wire.{Bytes}
use Rattle.sheetparts.specs.Form.{Good, check_of}
use Rattle.history.specs.Events.{Answer, sheet, refused}
use Rattle.history.specs.Sheet as history
use Rattle.history.specs.Sheet.{Slot, Values}
use Rattle.meant.specs.Slots.{values_of, spelled, sheet_at}
use Rattle.meant.specs.Instances.{records_at}
use Rattle.meant.specs.Where.{Where, at}
use Rattle.arcrun.specs.declared.Least.{Least}
use Rattle.arcrun.specs.declared.Least.TheVariants as least
use Rattle.swaparcs.specs.declared.Swap.{Swap}
use Rattle.swaparcs.specs.Swap.{Given, olds, comer}
use Rattle.swap.specs.declared.Patched.{Patched}
use Rattle.swap.specs.declared.Patched.TheVariants as patched

-- the answer, by the paper's numbers
abbrev pub says_of : Answer Slot Where → Patched
says_of (sheet v) = patched.Done
says_of (refused n w) = patched.Refused n w.place w.incoming

-- 'A refused patch keeps the current sheet.'
abbrev pub sheet_of : (start current : List ℕ) (n m f : ℕ) → Answer Slot Where → List ℕ
sheet_of start current n m f (sheet v) = spelled (sheet_at start n m f) v
sheet_of start current n m f (refused x w) = current

-- what a fault answers
abbrev pub answer_by : Least → Patched
answer_by least.Nothing = patched.Done
answer_by (least.Fault e n p i) = patched.Refused n p i

module _ (b : List ℕ) (n m f : ℕ) (file incoming : List ℕ) (slash : Bool) (cells entries cells2 entries2 : List ℕ) (swap : Swap) where
  -- the whole swap, on a current sheet that has the starting sheet's records and the values v
  abbrev pub SwapRun : (current current' : List ℕ) → Patched → Type 0
  SwapRun current current' r =
      Bytes b → check_of b ≡ Good n m f → (g : Given cells entries cells2 entries2 swap.cells swap.outgoing) → (v : Values)
      → current ≡ spelled (sheet_at b n m f) v
      → (r ≡ says_of (history.patch (records_at b n m f) (values_of (sheet_at b n m f)) (olds b n m f file incoming slash g) (suc swap.outgoing) (at false 0)
      (comer b n m f file incoming slash g) v))
      × (current' ≡ sheet_of b current n m f (history.patch (records_at b n m f) (values_of (sheet_at b n m f)) (olds b n m f file incoming slash g)
      (suc swap.outgoing) (at false 0) (comer b n m f file incoming slash g) v))
