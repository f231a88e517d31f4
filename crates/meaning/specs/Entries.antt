-- The entries of one cell, one after the other: bytes, and the history that they stand for.
-- Assumes nothing.
use Rattle.std.specs.Prelude.{ℕ, ◌+◌, ◌*◌, ◌<◌, ◌≡◌, Bool, List, [], map, ◌++◌, eqb, length, get_or}
use Rattle.wire.specs.Wire.{Bytes}
use Rattle.sheetparts.specs.Form.{Good, check_of}
use Rattle.grammar.specs.Meaning.{Item, no_head}
use Rattle.entryarcs.specs.Sound.{Each, SoundItem}
use Rattle.views.specs.Views.{head_at}
use Rattle.history.specs.Events.{Event, refused, folded}
use Rattle.history.specs.Sheet.{Slot, Values, Cell, entry_event, slots_of}
use Rattle.history.specs.Ranges.{InRange}
use Rattle.entryarcs.specs.Slots.{records_of, spelled, sheet_at}
use Rattle.entryarcs.specs.Amounts.{expanded}
use Rattle.entryarcs.specs.Says.{entry_of}
use Rattle.entryarcs.specs.Rows.{EntryIs}
use Rattle.entryarcs.specs.Bytes.{refusal_in, applied_in, refusal_every, applied_every}
use Rattle.meaning.specs.declared.Whom.{Whom}
use Rattle.meaning.specs.declared.Whom.TheVariants.{One, Every, Nobody}
use Rattle.meaning.specs.declared.Annotated.{Annotated}
use Rattle.meaning.specs.declared.Annotated.TheVariants.{Done, Refused}
use Rattle.meaning.specs.Whom.{For}

-- the expanded list of the entry in the row at a place of the table
unfoldable pub rows_at : List ℕ → ℕ → List (List ℕ)
rows_at t row = expanded t (row + 10) (eqb (head_at t row).group 84) (get_or t (row + 9) 0)

-- what the entry in that row meets, and what it leaves
module _ (b text : List ℕ) (slash : Bool) (n m f : ℕ) (t : List ℕ) (row : ℕ) where
  unfoldable pub refusal_for : Whom → List ℕ → List ℕ → ℕ
  refusal_for (One p) type out = refusal_in b text slash n m f (head_at t row) (rows_at t row) out p
  refusal_for Every type out = refusal_every b text slash n m f (head_at t row) (rows_at t row) out type
  refusal_for (Nobody x) type out = 0

  unfoldable pub applied_for : Whom → List ℕ → List ℕ → List ℕ
  applied_for (One p) type out = applied_in b text slash n m f (head_at t row) (rows_at t row) out p
  applied_for Every type out = applied_every b text slash n m f (head_at t row) (rows_at t row) out type
  applied_for (Nobody x) type out = out

-- the bytes spell the sheet with the values `now`, which are in range
abbrev pub Kept : (b : List ℕ) (n m f : ℕ) → List ℕ → Values → Type 0
Kept b n m f out now = (out ≡ spelled (sheet_at b n m f) now) × ((t : Slot) → InRange (now t))

-- Events were gone through: the sheet has the values that they leave, and what comes behind them goes on from there; or they are refused.
abbrev pub Went : (b : List ℕ) (n m f : ℕ) → Values → List (Event Slot ℕ) → List ℕ → Annotated → Type 0
Went b n m f now es out Done =
    (later : Values) × Kept b n m f out later × ((more : List (Event Slot ℕ))
    → folded (slots_of (records_of (sheet_at b n m f))) now (es ++ more) ≡ folded (slots_of (records_of (sheet_at b n m f))) later more)
Went b n m f now es out (Refused k q) =
    (more : List (Event Slot ℕ)) → folded (slots_of (records_of (sheet_at b n m f))) now (es ++ more) ≡ refused k q

-- no entry, for a place behind the last
abbrev pub no_item : Item
no_item = record { head = no_head; values = [] }

-- the events of a cell's entries
unfoldable pub entry_events : (b text : List ℕ) (slash : Bool) (n m f : ℕ) → Cell ℕ → List Item → List (Event Slot ℕ)
entry_events b text slash n m f c is = map (entry_event (records_of (sheet_at b n m f)) c) (map (entry_of (λ p. p) text slash) is)

-- `count` entries from number `first` on stand in the table
abbrev pub EntriesAre : List ℕ → ℕ → ℕ → List Item → Type 0
EntriesAre t first count is =
    (length is ≡ count) × ((k : ℕ) → k < count → EntryIs t (28 * (first + k)) (get_or is k no_item)) × Each SoundItem is

-- THE CONTRACT of the loop over a cell's entries
abbrev pub EntriesRun : (b text : List ℕ) (slash : Bool) (n m f : ℕ) (t : List ℕ) (first count : ℕ) → Whom → (type out out' : List ℕ) → Annotated
    → Type 0
EntriesRun b text slash n m f t first count whom type out out' r =
    Bytes b → check_of b ≡ Good n m f → (c : Cell ℕ) (is : List Item) (now : Values) → EntriesAre t first count is → c.type ≡ type → For b n whom c → Kept b n m f out now
    → Went b n m f now (entry_events b text slash n m f c is) out' r
