-- Which slots of the seated arcs the entries of a cell supply: each seat's flags are what they would be for its arc alone.
-- Assumes nothing.
use Rattle.std.specs.Prelude.{ℕ, ◌*◌, ◌<◌, ◌≡◌, Bool, List, get_or}
use Rattle.std.proofs.Math.Seq.{paste}
use Rattle.classes.specs.Choice.{pick}
use Rattle.views.specs.Views.{head_at}
use Rattle.meant.specs.WhomType.{Whom}
use Rattle.meant.specs.Entries.{rows_at}
use Rattle.meant.specs.Scratch.{touched_flags}
use Rattle.meant.specs.Touch.{meant_for, entries_touched}
use Rattle.marking.specs.Parts.{part_no}

-- the flags with those of one seat behind the entry in the row at a place of the table t
abbrev pub seat_touched : (t : List ℕ) (row : ℕ) (flags : List ℕ) (seat : ℕ) → List ℕ
seat_touched t row flags seat = paste flags (18 * seat) (touched_flags (part_no 18 flags seat) (rows_at t row) 18) 18

module _ (b text : List ℕ) (slash : Bool) (n : ℕ) (t : List ℕ) where
  -- the first `count` seats have their flags behind that entry
  abbrev pub EntryTouched : (row : ℕ) → Whom → (type arcs flags : List ℕ) (count : ℕ) (flags' : List ℕ) → Type 0
  EntryTouched row whom type arcs flags count flags' =
      (i : ℕ) → i < count → part_no 18 flags' i
      ≡ pick (meant_for b text slash n (head_at t row) whom type (get_or arcs i 0)) (touched_flags (part_no 18 flags i) (rows_at t row) 18) (part_no 18 flags i)

  -- behind so many entries, from entry number `first` on
  abbrev pub SeatsTouched : (first some : ℕ) → Whom → (type arcs flags : List ℕ) (count : ℕ) (flags' : List ℕ) → Type 0
  SeatsTouched first some whom type arcs flags count flags' =
      (i : ℕ) → i < count → part_no 18 flags' i ≡ entries_touched b text slash n t first whom type (get_or arcs i 0) (part_no 18 flags i) some
