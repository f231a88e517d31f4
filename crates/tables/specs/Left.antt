-- What reading leaves in the lent tables.
-- Assumes nothing.
use Rattle.std.specs.Prelude.{List, ◌++◌, ℕ, length, drop}
use Rattle.grammar.specs.Machine.{Res, fine, bad}
use Rattle.grammar.specs.Reading.{At}
use Rattle.tables.specs.Layout.{cell_rows, entry_rows}

-- 'Room after the last record is left as lent'; 'Tables of a text refused .. are as lent'
abbrev pub cells_left : Res At → List ℕ → List ℕ
cells_left (fine st) u = cell_rows st.book.log.cells ++ drop (length (cell_rows st.book.log.cells)) u
cells_left (bad n q) u = u

abbrev pub entries_left : Res At → List ℕ → List ℕ
entries_left (fine st) t = entry_rows st.book.log.items ++ drop (length (entry_rows st.book.log.items)) t
entries_left (bad n q) t = t
