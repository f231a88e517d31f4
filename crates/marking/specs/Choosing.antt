-- Arcs that the entries of a cell mean are marked in a table of 131,072 bytes, and the marked ones get seats.
-- Assumes nothing.
use Rattle.std.specs.Prelude.{ℕ, ◌+◌, ◌*◌, ◌/◌, ◌%◌, ◌<◌, ◌≤◌, ◌≡◌, Bool, true, List, eqb, length, get_or}
use Rattle.sheetlaws.specs.Sheet.{place}
use Rattle.grammar.specs.declared.Entry.{Entry}
use Rattle.views.specs.Views.{head_at}
use Rattle.meant.specs.WhomType.{Whom}
use Rattle.meant.specs.Touch.{meant_for}
use Rattle.marking.specs.Chosen.{chosen}

-- the arc at q is marked: the byte for its place is 1; a sheet within the limits has no two arcs with one byte, since an arc takes more than 128 bytes
unfoldable pub marked : List ℕ → ℕ → Bool
marked bits q = eqb (get_or bits ((q / 128) % 131072) 0) 1

-- arc number j from f on is marked
abbrev pub marked_at : (b : List ℕ) (f : ℕ) (bits : List ℕ) → ℕ → Bool
marked_at b f bits j = marked bits (place b j f)

-- no mark is taken away
abbrev pub Kept : (bits bits' : List ℕ) → Type 0
Kept bits bits' = (q : ℕ) → marked bits q ≡ true → marked bits' q ≡ true

-- of the first m arcs those that the entry h means are marked
abbrev pub EntryMarked : (b text : List ℕ) (slash : Bool) (n m f : ℕ) → Entry → Whom → (type bits : List ℕ) → Type 0
EntryMarked b text slash n m f h whom type bits =
    (j : ℕ) → j < m → meant_for b text slash n h whom type (place b j f) ≡ true → marked bits (place b j f) ≡ true

-- those that one of so many entries means, from entry number `first` of the table t on
abbrev pub EntriesMarked : (b text : List ℕ) (slash : Bool) (n m f : ℕ) (t : List ℕ) (first some : ℕ) → Whom → (type bits : List ℕ) → Type 0
EntriesMarked b text slash n m f t first some whom type bits =
    (j k : ℕ) → j < m → k < some → meant_for b text slash n (head_at t (28 * (first + k))) whom type (place b j f) ≡ true
    → marked bits (place b j f) ≡ true

-- the marked ones among k arcs from number `from` on have the first seats
abbrev pub ChosenTo : (b : List ℕ) (f : ℕ) (bits : List ℕ) (from k count : ℕ) (arcs : List ℕ) → Type 0
ChosenTo b f bits from k count arcs =
    (count ≡ length (chosen (marked_at b f bits) from k)) × (count ≤ 4096)
    × ((i : ℕ) → i < count → get_or arcs i 0 ≡ place b (get_or (chosen (marked_at b f bits) from k) i 0) f)

-- so do those up to the one that is next, and at least one arc was asked if there is one
abbrev pub Chose : (b : List ℕ) (m f : ℕ) (bits : List ℕ) (from count next at : ℕ) (arcs : List ℕ) → Type 0
Chose b m f bits from count next at arcs =
    (k : ℕ) × (next ≡ from + k) × (next ≤ m) × (from < m → 0 < k) × (at ≡ place b next f)
    × (count ≡ length (chosen (marked_at b f bits) from k)) × (count ≤ 4096)
    × ((i : ℕ) → i < count → get_or arcs i 0 ≡ place b (get_or (chosen (marked_at b f bits) from k) i 0) f)
