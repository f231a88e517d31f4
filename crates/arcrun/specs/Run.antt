-- The 18 values of one arc, run through the entries of cells: bytes, and the history that they stand for.
-- Assumes nothing.
use Rattle.std.specs.Prelude.{ℕ, ◌+◌, ◌<◌, ◌≤◌, ◌≡◌, Bool, true, false, List, map, eqb, take, drop}
use Rattle.std.proofs.Math.Option.{none, some}
use Rattle.std.proofs.Math.ListN.{get_elem?}
use Rattle.classes.specs.Choice.{pick}
use Rattle.wire.specs.Wire.{Bytes}
use Rattle.grammar.specs.declared.Cell as read
use Rattle.grammar.specs.Meaning.{Item}
use Rattle.names.specs.Order.{same_text}
use Rattle.sheetparts.specs.Form.{Good, check_of, path_at, type_at}
use Rattle.sheetlaws.specs.Sheet.{place, in_end, nth}
use Rattle.meant.specs.Sound.{total}
use Rattle.views.specs.Views.{head_at}
use Rattle.meant.specs.Amounts.{arc_refusal, arc_written}
use Rattle.history.specs.Events.{Event}
use Rattle.history.specs.Sheet as part
use Rattle.history.specs.Sheet.{every, Slot, Values, Cell, arc_slots, cell_number, entry_event, events, file_events}
use Rattle.meant.specs.Says.{entry_of, cell_of, cells_of}
use Rattle.meant.specs.Rows.{CellIs}
use Rattle.meant.specs.Instances.{records_at}
use Rattle.meant.specs.WhomType.{Whom}
use Rattle.meant.specs.WhomType.TheVariants.{One, Every, Nobody}
use Rattle.meant.specs.Entries.{rows_at, EntriesAre}
use Rattle.meant.specs.Cells.{CellsAre}
use Rattle.meant.specs.Where.{Where, at}
use Rattle.meant.specs.Group.{group_fault, group_left}
use Rattle.meant.specs.Scratch.{masked, Holds18, Flags}
use Rattle.arcrun.specs.declared.Least.{Least}
use Rattle.arcrun.specs.declared.Least.TheVariants as least
use Rattle.meant.specs.Touch.{meant_for}

-- one entry: its refusal, and the state behind it
module _ (b text : List ℕ) (slash : Bool) (n : ℕ) (t : List ℕ) (row : ℕ) (whom : Whom) (type : List ℕ) (q : ℕ) (flags st : List ℕ) where
  abbrev pub row_refusal : ℕ
  row_refusal = arc_refusal st 0 (masked (rows_at t row) flags) (eqb (head_at t row).group 73) 18

  unfoldable pub entry_number : ℕ
  entry_number = pick (meant_for b text slash n (head_at t row) whom type q) row_refusal 0

  unfoldable pub entry_state : List ℕ
  entry_state =
      pick (meant_for b text slash n (head_at t row) whom type q)
      (pick (eqb row_refusal 0) (arc_written st 0 (masked (rows_at t row) flags) (eqb (head_at t row).group 73) 18) st) st

-- The touched slots of arc j, which hold `now`, went through these events, the first of which has the number `event`: no fault, and the state
-- holds what they come to; or the first fault, with its event's number and its word.
abbrev pub Ran : (j : ℕ) (touched : Slot → Bool) → Values → List (Event Slot Where) → ℕ → List ℕ → Least → Type 0
Ran j touched now es event st' least.Nothing =
    (group_fault (arc_slots j) touched now es ≡ none) × Holds18 st' j (group_left (arc_slots j) touched now es)
Ran j touched now es event st' (least.Fault ev number place incoming) =
    (i : ℕ) × (ev ≡ event + i) × (group_fault (arc_slots j) touched now es ≡ some (record { event = i; number = number }))
    × ((e : Event Slot Where) × (get_elem? es i ≡ some e) × (e.word ≡ at incoming place))

-- the cell applies to these instances, or to none, and then it has its number
abbrev pub Of : (b : List ℕ) (n m f : ℕ) → Whom → Cell Where → Type 0
Of b n m f (One p) c =
    (k : ℕ) × (k < n) × (p ≡ nth (in_end b) k 12) × (c.part ≡ part.at (path_at b p))
    × (same_text (type_at b p) c.type ≡ true)
Of b n m f Every c = c.part ≡ every
Of b n m f (Nobody x) c = cell_number (records_at b n m f) c ≡ some x

-- what every run is told: the sheet was checked, the arc at q is its number j, and the flags are those of its touched slots
module _ (b text : List ℕ) (slash : Bool) (n m f : ℕ) where
  abbrev pub EntriesRan : (side : Bool) (t : List ℕ) (first count : ℕ) → Whom → (type : List ℕ) (q : ℕ) (flags st st' : List ℕ) (event : ℕ) → Least → Type 0
  EntriesRan side t first count whom type q flags st st' event r =
      Bytes b → check_of b ≡ Good n m f → (j : ℕ) → j < m → q ≡ place b j f → (touched : Slot → Bool) → Flags flags j touched
      → (c : Cell Where) (is : List Item) (now : Values) → EntriesAre t first count is → c.type ≡ type → Of b n m f whom c → Holds18 st j now
      → Ran j touched now (map (entry_event (records_at b n m f) c) (map (entry_of (at side) text slash) is)) event st' r

  abbrev pub CellRan : (side : Bool) (cells : List ℕ) (row : ℕ) (entries : List ℕ) (first q : ℕ) (flags st st' : List ℕ) (event : ℕ) → Least → Type 0
  CellRan side cells row entries first q flags st st' event r =
      Bytes b → check_of b ≡ Good n m f → (j : ℕ) → j < m → q ≡ place b j f → (touched : Slot → Bool) → Flags flags j touched
      → (cell : read.Cell) (is : List Item) (now : Values) → CellIs cells row cell → cell.sort < 256 → EntriesAre entries first cell.entries is
      → Holds18 st j now → Ran j touched now (events (records_at b n m f) (cell_of (at side) text slash cell is)) event st' r

  -- the file's cells number `from` up to `to`
  abbrev pub CellsRan : (cells : List ℕ) (from to : ℕ) (entries : List ℕ) (q : ℕ) (flags st st' : List ℕ) (event : ℕ) → Least → Type 0
  CellsRan cells from to entries q flags st st' event r =
      Bytes b → check_of b ≡ Good n m f → (j : ℕ) → j < m → q ≡ place b j f → (touched : Slot → Bool) → Flags flags j touched
      → (count : ℕ) (cs : List read.Cell) (is : List Item) (now : Values) → CellsAre cells count cs → from ≤ to → to ≤ count
      → EntriesAre entries 0 (total cs) is → Holds18 st j now
      → Ran j touched now (file_events (records_at b n m f) (drop from (take to (cells_of (at false) text slash cs is)))) event st' r
