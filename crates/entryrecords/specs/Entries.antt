-- The records that the rows of a table of entries stand for (crate tables has the layout, crate views a row's first fields).
-- Assumes nothing.
use Rattle.std.specs.Prelude.{List, [], ◌∷◌, ℕ, ◌+◌, ◌*◌, length, get_or}
use Rattle.grammar.specs.Meaning.{Item}
use Rattle.tables.specs.Layout.{values_row}
use Rattle.cellrecords.specs.Records.{first_of}
use Rattle.views.specs.Views.{head_at}
use Rattle.entryrecords.specs.declared.EntryRecord.{EntryRecord}

-- 'values' as the table has them: six of three numbers each
unfoldable pub numbers_at : List ℕ → ℕ → List ℕ
numbers_at t p =
    get_or t p 0 ∷ get_or t (p + 1) 0 ∷ get_or t (p + 2) 0 ∷ get_or t (p + 3) 0 ∷ get_or t (p + 4) 0 ∷ get_or t (p + 5) 0
    ∷ get_or t (p + 6) 0 ∷ get_or t (p + 7) 0 ∷ get_or t (p + 8) 0 ∷ get_or t (p + 9) 0 ∷ get_or t (p + 10) 0 ∷ get_or t (p + 11) 0
    ∷ get_or t (p + 12) 0 ∷ get_or t (p + 13) 0 ∷ get_or t (p + 14) 0 ∷ get_or t (p + 15) 0 ∷ get_or t (p + 16) 0 ∷ get_or t (p + 17) 0 ∷ []

-- 'The entry list has per entry, in file order': the record of row k
abbrev pub entry_of : List ℕ → ℕ → EntryRecord
entry_of t k = record { head = head_at t (28 * k); count = get_or t (28 * k + 9) 0; numbers = numbers_at t (28 * k + 10) }

-- those of the first n rows
abbrev pub entries_of : List ℕ → ℕ → List EntryRecord
entries_of t n = first_of (entry_of t) n

-- what stands past the end of a slice of records: `get_or` asks for one
abbrev pub no_entry : EntryRecord
no_entry = entry_of [] 0

-- and the record of an entry that was read: the numbers of a value that is not written are absent (crate tables, `values_row`)
abbrev pub entry_read : Item → EntryRecord
entry_read i = record { head = i.head; count = length i.values; numbers = values_row i.values 6 }
