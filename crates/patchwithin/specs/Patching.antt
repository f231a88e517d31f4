-- What patching leaves in the records that the caller lends for the file and for the incoming text.
-- Assumes nothing.
use Rattle.std.specs.Prelude.{◌≡◌, List, ℕ, ◌≤◌}
use Rattle.grammar.specs.declared.Cell.{Cell}
use Rattle.readrecords.specs.Reading.{records_left}
use Rattle.patch.specs.declared.Counted.{Counted}
use Rattle.patch.specs.Meaning.{Course, file_table, cell_table}
use Rattle.patch.specs.Counted.{CountedIs}

-- the core's contract, where so many cells of each text have a record
abbrev pub PatchWithin : (start : List ℕ) (c : Course) (room room2 : ℕ) (u u' t t' u2 u2' t2 t2' current current' : List ℕ) → Counted → Type 0
PatchWithin start c room room2 u u' t t' u2 u2' t2 t2' current current' r =
    CountedIs start c u u' t t' u2 u2' t2 t2' current current' r × (r.cells ≤ room) × (r.incoming ≤ room2)

-- THE CONTRACT of the patch that is lent records: the core's, and every record at exit.
-- 'Room after the last record is left as lent'; 'Tables of a text refused or not reached are as lent; those of a text already read keep its reading.'
abbrev pub PatchedRecords : (start : List ℕ) (c : Course) (u u' t t' u2 u2' t2 t2' current current' : List ℕ) (rs rs' rs2 rs2' : List Cell) → Counted → Type 0
PatchedRecords start c u u' t t' u2 u2' t2 t2' current current' rs rs' rs2 rs2' r =
    CountedIs start c u u' t t' u2 u2' t2 t2' current current' r × (rs' ≡ file_table records_left rs c) × (rs2' ≡ cell_table records_left rs2 c)
