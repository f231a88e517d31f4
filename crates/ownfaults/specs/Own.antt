-- What the records alone refuse of a cell that comes into a file: the contracts of its loops.
-- Assumes nothing.
use Rattle.std.specs.Prelude.{ℕ, ◌+◌, ◌<◌, ◌≡◌, Bool, true, List, map}
use Rattle.std.proofs.Math.Option.{none, some}
use Rattle.std.proofs.Math.ListN.{get_elem?}
use Rattle.wire.specs.Wire.{Bytes}
use Rattle.grammar.specs.declared.Cell as read
use Rattle.grammar.specs.Meaning.{Item}
use Rattle.sheetparts.specs.Form.{Good, check_of}
use Rattle.history.specs.Events.{Event}
use Rattle.history.specs.Scan.{own_fault}
use Rattle.history.specs.Sheet.{Slot, Cell, entry_event, events}
use Rattle.meant.specs.Says.{entry_of, cell_of}
use Rattle.meant.specs.Rows.{CellIs}
use Rattle.meant.specs.Instances.{records_at}
use Rattle.meant.specs.WhomType.{Whom}
use Rattle.meant.specs.WhomType.TheVariants.{Nobody}
use Rattle.meant.specs.Entries.{EntriesAre}
use Rattle.meant.specs.Where.{Where, at}
use Rattle.arcrun.specs.declared.Least.{Least}
use Rattle.arcrun.specs.declared.Least.TheVariants as least
use Rattle.arcrun.specs.Run.{Of}

-- a fault among these events, numbered from `event` on
abbrev pub FaultIn : List (Event Slot Where) → ℕ → Least → Type 0
FaultIn es event least.Nothing = own_fault es ≡ none
FaultIn es event (least.Fault ev number place incoming) =
    (i : ℕ) × (ev ≡ event + i) × (own_fault es ≡ some (record { event = i; number = number }))
    × ((e : Event Slot Where) × (get_elem? es i ≡ some e) × (e.word ≡ at incoming place))

module _ (b : List ℕ) (n m f : ℕ) (incoming : List ℕ) (slash : Bool) where
  -- the incoming cell's entries: the first that lacks an arc
  abbrev pub OwnEntries : (t : List ℕ) (count : ℕ) → Whom → (type : List ℕ) (event : ℕ) → Least → Type 0
  OwnEntries t count whom type event r =
      Bytes b → check_of b ≡ Good n m f → (c : Cell Where) (is : List Item) → EntriesAre t 0 count is → c.type ≡ type → Of b n m f whom c
      → ((x : ℕ) → whom ≡ Nobody x → ⊥)
      → FaultIn (map (entry_event (records_at b n m f) c) (map (entry_of (at true) incoming slash) is)) event r

  -- and the whole cell: 12 and 13 first
  abbrev pub OwnIs : (cells entries : List ℕ) (event : ℕ) → Least → Type 0
  OwnIs cells entries event r =
      Bytes b → check_of b ≡ Good n m f → (cell : read.Cell) (is : List Item) → CellIs cells 0 cell → cell.sort < 256 → EntriesAre entries 0 cell.entries is
      → FaultIn (events (records_at b n m f) (cell_of (at true) incoming slash cell is)) event r
