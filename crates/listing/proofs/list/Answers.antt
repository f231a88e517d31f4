-- `list` is safe: the cells and entries that the reader counts are the records that it left in the tables, so none lies beyond their end.
use Rattle.std.proofs.Common.{Result, Ok, Err, ◌≡◌, ap, sym, ◌∙◌, List, ℕ, ◌*◌, ◌≤◌, length, drop, length-append, arith}
use Rattle.grammar.specs.Machine.{Res, fine, bad}
use Rattle.grammar.specs.Reading.{At}
use Rattle.tables.specs.Layout.{cell_rows, entry_rows, length-cells, length_entries}
use Rattle.readcells.specs.declared.Counts.{Counts}
use Rattle.readcells.specs.Refusal.{Refusal}
use Rattle.readcells.specs.Counted.{Read}
use Rattle.readcells.specs.declared.FileRead.{FileRead}
use Rattle.tables.specs.Left.{cells_left, entries_left}
use Rattle.readcells.specs.Files.{FileIs, answer_of}
use Rattle.listing.proofs.list.Goals as goal

-- how many cells and entries an answer counts
abbrev cell_count : Result Counts Refusal → ℕ
cell_count (Ok counts) = counts.cells
cell_count (Err why) = 0

abbrev entry_count : Result Counts Refusal → ℕ
entry_count (Ok counts) = counts.entries
entry_count (Err why) = 0

-- the records left for them take so many words
cells-within : (o : Res At) (u : List ℕ) → 7 * cell_count (answer_of o) ≤ length (cells_left o u)
cells-within (fine st) u =
    let cs = st.book.log.cells in
    let rows = length-cells cs in
    let whole = length-append (cell_rows cs) (drop (length (cell_rows cs)) u) in
    omega arith
cells-within (bad k q) u = omega arith

entries_within : (o : Res At) (t : List ℕ) → 28 * entry_count (answer_of o) ≤ length (entries_left o t)
entries_within (fine st) t =
    let is = st.book.log.items in
    let rows = length_entries is in
    let whole = length-append (entry_rows is) (drop (length (entry_rows is)) t) in
    omega arith
entries_within (bad k q) t = omega arith

-- what the reader counts lies within the tables as it leaves them
within : (o : Res At) (u u' t t' : List ℕ) (r : FileRead) (n m : ℕ) → FileIs o u u' t t' r → r.answer ≡ Read n m →
    (7 * n ≤ length u') × (28 * m ≤ length t')
within o u u' t t' r n m f e =
    let says : Read n m ≡ answer_of o = sym e ∙ f.says in
    let cells : n ≡ cell_count (answer_of o) = ap cell_count says in
    let entries : m ≡ entry_count (answer_of o) = ap entry_count says in
    (rw (cells, f.cells) (cells-within o u), rw (entries, f.entries) (entries_within o t))

pub print_cells-requires : goal.print_cells-requires
print_cells-requires g c =
    within _ _ _ _ _ _ _ _ c.read_file-read.ensures c.in-Ok.is
