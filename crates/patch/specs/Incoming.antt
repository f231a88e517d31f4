-- What reading the incoming text gives, and the swap after it: the contract of patching a file that was read.
-- Assumes nothing.
use Rattle.std.specs.Prelude.{ℕ, suc, ◌/◌, ◌≡◌, Bool, true, false, List, length}
use Rattle.wire.specs.Wire.{Bytes}
use Rattle.grammar.specs.declared.Cell as read
use Rattle.grammar.specs.Meaning.{Item}
use Rattle.grammar.specs.Machine.{Res, fine, bad}
use Rattle.grammar.specs.Reading.{At}
use Rattle.grammar.specs.Outcome.{read_cell_of}
use Rattle.meant.specs.Sound.{total}
use Rattle.tables.specs.Left.{cells_left, entries_left}
use Rattle.sheetparts.specs.Form.{Good, check_of}
use Rattle.history.specs.Sheet as history
use Rattle.history.specs.Sheet.{Values}
use Rattle.meant.specs.Slots.{values_of, spelled, sheet_at}
use Rattle.meant.specs.Says.{cells_of}
use Rattle.meant.specs.Instances.{records_at}
use Rattle.meant.specs.Entries.{EntriesAre}
use Rattle.meant.specs.Cells.{CellsAre}
use Rattle.meant.specs.Where.{at}
use Rattle.swap.specs.declared.Patched.{Patched}
use Rattle.swap.specs.declared.Patched.TheVariants as patched
use Rattle.swap.specs.Swapped.{says_of, sheet_of}
use Rattle.patch.specs.Meaning.{first_cell, said}

-- the incoming text is read, or refused with its own number and place; then the swap
module _ (b : List ℕ) (n m f : ℕ) (file incoming : List ℕ) (slash : Bool) (unit : ℕ) (cells entries : List ℕ) (count k : ℕ) where
  -- by what reading the incoming text gives
  abbrev pub ByIncoming : Res At → (cs : List read.Cell) (is : List Item) (cells2 cells2' entries2 entries2' current current' : List ℕ) (v : Values) → Patched
      → Type 0
  ByIncoming (bad x q) cs is cells2 cells2' entries2 entries2' current current' v r =
      (r ≡ patched.Refused x q true) × (cells2' ≡ cells2) × (entries2' ≡ entries2) × (current' ≡ current)
  ByIncoming (fine st2) cs is cells2 cells2' entries2 entries2' current current' v r =
      (cells2' ≡ cells_left (fine st2) cells2) × (entries2' ≡ entries_left (fine st2) entries2)
      × (r ≡ says_of (history.patch (records_at b n m f) (values_of (sheet_at b n m f)) (cells_of (at false) file slash cs is) (suc k) (at false 0)
      (first_cell (said true incoming st2)) v))
      × (current' ≡ sheet_of b current n m f (history.patch (records_at b n m f) (values_of (sheet_at b n m f)) (cells_of (at false) file slash cs is) (suc k)
      (at false 0) (first_cell (said true incoming st2)) v))

  abbrev pub CellPatched : (cells2 cells2' entries2 entries2' current current' : List ℕ) → Patched → Type 0
  CellPatched cells2 cells2' entries2 entries2' current current' r =
      Bytes b → check_of b ≡ Good n m f → (cs : List read.Cell) (is : List Item) → CellsAre cells count cs → EntriesAre entries 0 (total cs) is → (v : Values)
      → current ≡ spelled (sheet_at b n m f) v
      → ByIncoming (read_cell_of slash unit (length cells2 / 7) (length entries2 / 28) incoming) cs is cells2 cells2' entries2 entries2' current current' v r
