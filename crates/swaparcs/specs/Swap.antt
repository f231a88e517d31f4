-- One cell of a file that was read is swapped for the incoming one: what the program is given, and what its loops say of the new file's history.
-- Assumes nothing.
use Rattle.std.specs.Prelude.{ℕ, suc, ◌<◌, ◌≡◌, Bool, true, false, List, ltb, take, drop}
use Rattle.std.proofs.Math.Option.{Option, none, some}
use Rattle.std.proofs.Math.ListN.{get_elem?}
use Rattle.classes.specs.Choice.{pick, and}
use Rattle.grammar.specs.declared.Cell as read
use Rattle.grammar.specs.Meaning.{Item}
use Rattle.meant.specs.Sound.{total}
use Rattle.history.specs.Events.{Event, holds, final, history, affected}
use Rattle.history.specs.Faults.{Fault}
use Rattle.history.specs.Sheet.{Slot, Values, Cell, Cut, events}
use Rattle.history.specs.BySlots.{new_events}
use Rattle.meant.specs.Slots.{records_of, values_of, sheet_at}
use Rattle.meant.specs.Says.{cell_of, cells_of}
use Rattle.meant.specs.Rows.{CellIs}
use Rattle.meant.specs.Entries.{EntriesAre}
use Rattle.meant.specs.Cells.{CellsAre}
use Rattle.meant.specs.CellList.{cell_no}
use Rattle.meant.specs.Where.{Where, at}
use Rattle.arcrun.specs.declared.Least.{Least}
use Rattle.arcrun.specs.declared.Least.TheVariants as least

-- What the tables say: the file's `count` cells and their entries, the incoming cell and its entries, and the number, from 0 on, of the cell that goes
pub record Given (cells entries cells2 entries2 : List ℕ) (count k : ℕ) : Type 0 where
  pub cs : List read.Cell
  pub is : List Item
  pub cell2 : read.Cell
  pub is2 : List Item
  pub cells_are_of : CellsAre cells count cs
  pub entries_are : EntriesAre entries 0 (total cs) is
  pub cell_is : CellIs cells2 0 cell2
  pub sort2 : cell2.sort < 256
  pub entries_are2 : EntriesAre entries2 0 cell2.entries is2
  pub there : k < count

module _ (b : List ℕ) (n m f : ℕ) (file incoming : List ℕ) (slash : Bool) {cells entries cells2 entries2 : List ℕ} {count k : ℕ}
    (g : Given cells entries cells2 entries2 count k) where
  -- the cells of the file, the one that goes between those before and behind it, and the one that comes
  abbrev pub olds : List (Cell Where)
  olds = cells_of (at false) file slash g.cs g.is

  abbrev pub parts : Cut (Cell Where)
  parts = record { before = take k olds; one = cell_no (at false) file slash g.cs g.is k; after = drop (suc k) olds }

  abbrev pub comer : Cell Where
  comer = cell_of (at true) incoming slash g.cell2 g.is2

  -- the new file's events, as patching reads them
  abbrev pub news : List (Event Slot Where)
  news = new_events (records_of (sheet_at b n m f)) parts comer

  -- 'every value slot supplied by the outgoing or the incoming cell'
  abbrev pub touched : Slot → Bool
  touched = affected (events (records_of (sheet_at b n m f)) parts.one) (events (records_of (sheet_at b n m f)) comer)

  -- the program's least fault is this one
  abbrev pub LeastIs : Option Fault → Least → Type 0
  LeastIs o least.Nothing = o ≡ none
  LeastIs o (least.Fault event number place incoming) =
      (o ≡ some (record { event = event; number = number })) × ((e : Event Slot Where) × (get_elem? news event ≡ some e) × (e.word ≡ at incoming place))

  -- the sheet with the touched slots of the first j arcs written
  abbrev pub written_up_to : Values → ℕ → Values
  written_up_to current j t =
      pick (and (ltb t.arc j) (touched t)) (final (history (holds (values_of (sheet_at b n m f) t)) news t)) (current t)
