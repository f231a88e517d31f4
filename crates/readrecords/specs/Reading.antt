-- What the entry points leave in the records that the caller lends.
-- Assumes nothing.
use Rattle.std.specs.Prelude.{◌≡◌, List, ◌++◌, ℕ, ◌+◌, ◌/◌, ◌≤◌, ltb, length, drop, Result, Ok, Err}
use Rattle.classes.specs.Choice.{pick}
use Rattle.grammar.specs.declared.Cell.{Cell}
use Rattle.grammar.specs.Machine.{Res, fine, bad}
use Rattle.grammar.specs.Reading.{At}
use Rattle.readcells.specs.declared.Counts.{Counts}
use Rattle.readcells.specs.Refusal.{Refusal}
use Rattle.readcells.specs.declared.FileRead.{FileRead}
use Rattle.readcells.specs.Files.{FileIs}

-- 'Reading is given room for so many cells and so many entries': a cell takes a row of the table and a record
abbrev pub room_for : ℕ → ℕ → ℕ
room_for words n = pick (ltb n (words / 7)) n (words / 7)

-- how many cells were read: none of a refused text
abbrev pub count_of : Result Counts Refusal → ℕ
count_of (Ok counts) = counts.cells
count_of (Err why) = 0

-- 'Room after the last record is left as lent'; 'Tables of a text refused .. are as lent'
abbrev pub records_left : Res At → List Cell → List Cell
records_left (fine st) rs = st.book.log.cells ++ drop (length st.book.log.cells) rs
records_left (bad n q) rs = rs

-- what the core leaves where so many cells have a record
abbrev pub WithinIs : Res At → ℕ → List ℕ → List ℕ → List ℕ → List ℕ → FileRead → Type 0
WithinIs o room u u' t t' r = FileIs o u u' t t' r × (count_of r.answer ≤ room)

-- THE CONTRACT of the reader that is lent records: the core's, and every record at exit
abbrev pub RecordsAre : Res At → List ℕ → List ℕ → List ℕ → List ℕ → List Cell → List Cell → FileRead → Type 0
RecordsAre o u u' t t' rs rs' r = FileIs o u u' t t' r × (rs' ≡ records_left o rs)
