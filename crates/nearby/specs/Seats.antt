-- Arcs that are seated in tables and run through cells together: each keeps to what `arcrun` says of one arc alone.
-- Assumes nothing.
use Rattle.std.specs.Prelude.{ℕ, ◌*◌, ◌<◌, ◌≤◌, ◌≡◌, Bool, true, false, List, [], ◌∷◌, ◌⊎◌, eqb, length, get_or}
use Rattle.std.proofs.Math.Seq.{paste}
use Rattle.classes.specs.Choice.{pick, and}
use Rattle.sheetparts.specs.Form.{key_at}
use Rattle.sheetlaws.specs.Sheet.{ar_next}
use Rattle.arcrun.specs.declared.Least.{Least}
use Rattle.marking.specs.Parts.{part_no}
use Rattle.arcrun.specs.declared.Least.TheVariants as least
use Rattle.meant.specs.WhomType.{Whom}
use Rattle.meant.specs.Meant.{may_touch}
use Rattle.arcrun.specs.Run.{entry_number, entry_state, EntriesRan, CellRan, CellsRan}
use Rattle.arcrun.specs.Late.{EntriesLate, CellLate, CellsLate}

-- two names are the same as far as both go
unfoldable pub agree : List ℕ → List ℕ → Bool
agree [] y = true
agree (c ∷ r) [] = true
agree (c ∷ r) (d ∷ s) = and (eqb c d) (agree r s)

-- the name agrees with both ends of the arc at q
abbrev pub Ends : List ℕ → ℕ → List ℕ → Type 0
Ends b q x = (agree (key_at b q).first x ≡ true) × (agree (key_at b q).second x ≡ true)

-- the seated arcs are there whole, and a name agrees with the ends of all
abbrev pub There : List ℕ → List ℕ → ℕ → Type 0
There b arcs count = (i : ℕ) → i < count → ar_next b (get_or arcs i 0) ≤ length b

abbrev pub Common : List ℕ → List ℕ → ℕ → List ℕ → Type 0
Common b arcs count x = (i : ℕ) → i < count → Ends b (get_or arcs i 0) x

-- a cell with this path touches none of them
abbrev pub NoneNear : (b text : List ℕ) (slash : Bool) (from to : ℕ) → List ℕ → ℕ → Type 0
NoneNear b text slash from to arcs count = (i : ℕ) → i < count → may_touch b text slash from to (get_or arcs i 0) ≡ false

-- an entry of a kind can mean an arc of another: DEVICE, 4, means IOPATH arcs
abbrev pub kind_fits : ℕ → ℕ → Bool
kind_fits kind other = pick (eqb kind 4) (eqb other 1) (eqb other kind)

-- it means none of them
abbrev pub NoneFits : List ℕ → ℕ → List ℕ → ℕ → Type 0
NoneFits b kind arcs count = (i : ℕ) → i < count → kind_fits kind (key_at b (get_or arcs i 0)).kind ≡ false

-- l is the least of the first i numbers that are not 0, or 0 if all are
abbrev pub LeastOf : (number : ℕ → ℕ) (i l : ℕ) → Type 0
LeastOf number i l =
    ((k : ℕ) → k < i → (number k ≡ 0) ⊎ ((0 < l) × (l ≤ number k))) × ((l ≡ 0 → ⊥) → (k : ℕ) × (k < i) × (number k ≡ l))

-- the entry whose row stands at a place of the table t
module _ (b text : List ℕ) (slash : Bool) (n : ℕ) (t : List ℕ) (row : ℕ) (whom : Whom) (type : List ℕ) where
  -- one seat went through it with the number r, a fault if it is not 0, and no other was changed
  abbrev pub SeatRan : (q : ℕ) (flags states states' : List ℕ) (seat r : ℕ) → Type 0
  SeatRan q flags states states' seat r =
      (r ≡ entry_number b text slash n t row whom type q (part_no 18 flags seat) (part_no 144 states seat)) × ((r ≡ 0 → ⊥) → states' ≡ states)
      × (r ≡ 0 → (st : List ℕ) × (length st ≡ 144) × (states' ≡ paste states (144 * seat) st 144)
      × (st ≡ entry_state b text slash n t row whom type q (part_no 18 flags seat) (part_no 144 states seat)))

  -- what it says to seat i
  abbrev pub number_at : (arcs flags states : List ℕ) → ℕ → ℕ
  number_at arcs flags states i = entry_number b text slash n t row whom type (get_or arcs i 0) (part_no 18 flags i) (part_no 144 states i)

  -- the first `count` seats went through it without a fault
  abbrev pub EntryRan : (arcs flags states : List ℕ) → ℕ → List ℕ → Type 0
  EntryRan arcs flags states count states' =
      (i : ℕ) → i < count → (entry_number b text slash n t row whom type (get_or arcs i 0) (part_no 18 flags i) (part_no 144 states i) ≡ 0)
      × (part_no 144 states' i ≡ entry_state b text slash n t row whom type (get_or arcs i 0) (part_no 18 flags i) (part_no 144 states i))

  -- one of them has the fault number r, and no other a lesser one
  abbrev pub EntryFault : (arcs flags states : List ℕ) (count r : ℕ) → Type 0
  EntryFault arcs flags states count r =
      ((i : ℕ) × (i < count) × (number_at arcs flags states i ≡ r))
      × ((i : ℕ) → i < count → (number_at arcs flags states i ≡ 0) ⊎ (r ≤ number_at arcs flags states i))

  -- they went through it with the least number r
  abbrev pub EntryRun : (arcs flags states : List ℕ) (count : ℕ) (states' : List ℕ) (r : ℕ) → Type 0
  EntryRun arcs flags states count states' r =
      (r ≡ 0 → EntryRan arcs flags states count states') × ((r ≡ 0 → ⊥) → EntryFault arcs flags states count r)

-- so many arcs ran together: all came through, or one has this fault and no other an earlier one
abbrev pub Together : (count : ℕ) (R : ℕ → Least → Type 0) (L : ℕ → ℕ → ℕ → Type 0) → Least → Type 0
Together count R L least.Nothing = (i : ℕ) → i < count → R i least.Nothing
Together count R L (least.Fault ev x p s) = ((i : ℕ) × (i < count) × R i (least.Fault ev x p s)) × ((i : ℕ) → i < count → L i ev x)

module _ (b text : List ℕ) (slash : Bool) (n m f : ℕ) where
  -- the first `count` seats went through these entries of one cell
  abbrev pub EntriesSeatsRan : (side : Bool) (t : List ℕ) (first some : ℕ) → Whom → (type : List ℕ) (event : ℕ) (arcs flags states : List ℕ) (count : ℕ)
      → List ℕ → Least → Type 0
  EntriesSeatsRan side t first some whom type event arcs flags states count states' =
      Together count
      (λ i r. EntriesRan b text slash n m f side t first some whom type (get_or arcs i 0) (part_no 18 flags i) (part_no 144 states i)
      (part_no 144 states' i) event r)
      (λ i ev x. EntriesLate b text slash n m f side t first some whom type (get_or arcs i 0) (part_no 18 flags i) (part_no 144 states i) event ev x)

  -- through a cell
  abbrev pub SeatsRan : (side : Bool) (cells : List ℕ) (row : ℕ) (entries : List ℕ) (first event : ℕ) (arcs flags states : List ℕ) (count : ℕ)
      → List ℕ → Least → Type 0
  SeatsRan side cells row entries first event arcs flags states count states' =
      Together count
      (λ i r. CellRan b text slash n m f side cells row entries first (get_or arcs i 0) (part_no 18 flags i) (part_no 144 states i)
      (part_no 144 states' i) event r)
      (λ i ev x. CellLate b text slash n m f side cells row entries first (get_or arcs i 0) (part_no 18 flags i) (part_no 144 states i) event ev x)

  -- through the file's cells number `from` up to `to`
  abbrev pub CellsSeatsRan : (cells : List ℕ) (from to : ℕ) (entries : List ℕ) (event : ℕ) (arcs flags states : List ℕ) (count : ℕ)
      → List ℕ → Least → Type 0
  CellsSeatsRan cells from to entries event arcs flags states count states' =
      Together count
      (λ i r. CellsRan b text slash n m f cells from to entries (get_or arcs i 0) (part_no 18 flags i) (part_no 144 states i)
      (part_no 144 states' i) event r)
      (λ i ev x. CellsLate b text slash n m f cells from to entries (get_or arcs i 0) (part_no 18 flags i) (part_no 144 states i) event ev x)
