-- The cells of a text, one after the other: bytes, and the history that they stand for.
-- Assumes nothing.
use Rattle.std.specs.Prelude.{ℕ, zero, suc, ◌+◌, ◌-◌, ◌*◌, ◌<◌, ◌≤◌, ◌≡◌, Bool, true, false, List, length, get_or}
use Rattle.std.proofs.Common.{arith, add-zero}
use Rattle.wire.specs.Wire.{Bytes}
use Rattle.sheetparts.specs.Form.{Good, check_of}
use Rattle.grammar.specs.declared.Cell as read
use Rattle.grammar.specs.Meaning.{Item}
use Rattle.entryarcs.specs.Sound.{Each, total}
use Rattle.history.specs.Sheet.{Values, events, file_events}
use Rattle.entryarcs.specs.Slots.{records_of, sheet_at, values_of}
use Rattle.history.specs.Sheet as history
use Rattle.entryarcs.specs.Says.{cell_of, cells_of}
use Rattle.entryarcs.specs.Rows.{CellIs}
use Rattle.meaning.specs.declared.Annotated.{Annotated}
use Rattle.meaning.specs.declared.Annotated.TheVariants.{Done, Refused}
use Rattle.meaning.specs.Entries.{Kept, Went, EntriesAre}
use Rattle.meaning.specs.Meaning.{says_of, sheet_of}

-- how many entries the first k cells of the table have
unfoldable pub entries_before : List ℕ → ℕ → ℕ
entries_before t zero = 0
entries_before t (suc k) = entries_before t k + get_or t (7 * k + 6) 0

-- a cell's entries are among them
pub entries_grow : (t : List ℕ) (k j : ℕ) → entries_before t k ≤ entries_before t (k + j)
unfolding entries_before
entries_grow t k zero = rw (add-zero k) (omega arith)
entries_grow t k (suc j) =
    let e = entries_grow t k j in
    let z : k + suc j ≡ suc (k + j) = omega arith in
    rw z (omega (arith, e))

pub entries_within : (t : List ℕ) (k count : ℕ) → k < count → entries_before t k + get_or t (7 * k + 6) 0 ≤ entries_before t count
unfolding entries_before
entries_within t k count h =
    let e : suc k + (count - suc k) ≡ count = omega arith in
    rw e at (entries_grow t (suc k) (count - suc k))

unfoldable pub is_refusal : Annotated → Bool
is_refusal Done = false
is_refusal (Refused n q) = true

-- no cell, for a place behind the last
abbrev pub no_cell : read.Cell
no_cell = record { place = 0; typefrom = 0; typeto = 0; sort = 0; pathfrom = 0; pathto = 0; entries = 0 }

-- `count` cells stand in the table
abbrev pub CellsAre : List ℕ → ℕ → List read.Cell → Type 0
CellsAre t count cs =
    (length cs ≡ count) × ((k : ℕ) → k < count → CellIs t (7 * k) (get_or cs k no_cell)) × Each (λ (c : read.Cell). c.sort < 256) cs

module _ (b text : List ℕ) (slash : Bool) (n m f : ℕ) (cells : List ℕ) where
  -- the contract for one cell, whose row stands at a place and whose entries are numbered from `first` on
  abbrev pub CellRun : (row : ℕ) (entries : List ℕ) (first : ℕ) (out out' : List ℕ) → Annotated → Type 0
  CellRun row entries first out out' r =
      Bytes b → check_of b ≡ Good n m f → (cell : read.Cell) (is : List Item) (now : Values) → CellIs cells row cell → cell.sort < 256 → EntriesAre entries first cell.entries is
      → Kept b n m f out now → Went b n m f now (events (records_of (sheet_at b n m f)) (cell_of (λ p. p) text slash cell is)) out' r

  -- and for the first `count` cells
  abbrev pub CellsRun : (count : ℕ) (entries out out' : List ℕ) → Annotated → Type 0
  CellsRun count entries out out' r =
      Bytes b → check_of b ≡ Good n m f → (cs : List read.Cell) (is : List Item) (now : Values) → CellsAre cells count cs → EntriesAre entries 0 (total cs) is → Kept b n m f out now
      → Went b n m f now (file_events (records_of (sheet_at b n m f)) (cells_of (λ p. p) text slash cs is)) out' r

  -- and for the whole: the starting sheet's values are those that it begins with
  abbrev pub TextRun : (count : ℕ) (entries out' : List ℕ) → Annotated → Type 0
  TextRun count entries out' r =
      Bytes b → (cs : List read.Cell) (is : List Item) → CellsAre cells count cs → EntriesAre entries 0 (total cs) is
      → (r ≡ says_of (history.annotate (records_of (sheet_at b n m f)) (values_of (sheet_at b n m f)) (cells_of (λ p. p) text slash cs is)))
      × (out' ≡ sheet_of b (sheet_at b n m f) (history.annotate (records_of (sheet_at b n m f)) (values_of (sheet_at b n m f)) (cells_of (λ p. p) text slash cs is)))
