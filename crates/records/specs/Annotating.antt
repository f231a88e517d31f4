-- What annotating leaves in the records that the caller lends.
-- Assumes nothing.
use Rattle.std.specs.Prelude.{◌≡◌, List, ℕ, ◌≤◌}
use Rattle.grammar.specs.declared.Cell.{Cell}
use Rattle.grammar.specs.Machine.{fine}
use Rattle.annotate.specs.declared.Counted.{Counted}
use Rattle.meaning.specs.Meaning.{Course, unfit, unread, judged, cell_count, AnnotateIs}
use Rattle.readrecords.specs.Reading.{records_left}

-- 'Tables of a text refused or not reached are as lent; those of a text already read keep its reading.'
unfoldable pub records_out : Course → List Cell → List Cell
records_out (unfit n) rs = rs
records_out (unread n q) rs = rs
records_out (judged s st a) rs = records_left (fine st) rs

-- the core's contract, with the number of cells
abbrev pub CountedIs : List ℕ → Course → List ℕ → List ℕ → List ℕ → List ℕ → List ℕ → List ℕ → Counted → Type 0
CountedIs start c u u' t t' out out' r = AnnotateIs start c u u' t t' out out' r.answer × (r.cells ≡ cell_count c)

-- and where so many cells have a record
abbrev pub CountedWithin : List ℕ → Course → ℕ → List ℕ → List ℕ → List ℕ → List ℕ → List ℕ → List ℕ → Counted → Type 0
CountedWithin start c room u u' t t' out out' r = CountedIs start c u u' t t' out out' r × (r.cells ≤ room)

-- THE CONTRACT of the annotator that is lent records: the core's, and every record at exit
abbrev pub RecordsOut : List ℕ → Course → List ℕ → List ℕ → List ℕ → List ℕ → List ℕ → List ℕ → List Cell → List Cell → Counted → Type 0
RecordsOut start c u u' t t' out out' rs rs' r = CountedIs start c u u' t t' out out' r × (rs' ≡ records_out c rs)
