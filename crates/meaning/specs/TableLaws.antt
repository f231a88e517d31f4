-- The tables that reading leaves: which cells and entries stand in them.
-- Assumes nothing.
use Rattle.std.specs.Prelude.{ℕ, zero, suc, ◌+◌, ◌*◌, ◌<◌, ◌≤◌, ◌≡◌, refl, List, [], ◌∷◌, ◌++◌, length, get_or, drop}
use Rattle.std.proofs.Common.{sym, ap, ◌∙◌, append_assoc, arith, zero-add, length-append, get_or-append-add, take_all}
use Rattle.std.proofs.Math.ListN.{get_or-append}
use Rattle.grammar.specs.declared.Cell as read
use Rattle.grammar.specs.Machine.{fine}
use Rattle.grammar.specs.Meaning.{Item}
use Rattle.grammar.specs.Reading.{At}
use Rattle.grammar.specs.Outcome.{read_file}
use Rattle.tables.specs.Layout.{cell_row, cell_rows, entry_row, entry_rows, length-cells, length_entries, length-entry}
use Rattle.entryarcs.specs.Sound.{SoundLog, total, read_sound}
use Rattle.tables.specs.Left.{cells_left, entries_left}
use Rattle.entryarcs.specs.Rows.{EntryIs, CellIs}
use Rattle.meaning.specs.Entries.{no_item, EntriesAre}
use Rattle.meaning.specs.Cells.{entries_before, no_cell, CellsAre}
use Rattle.meaning.specs.CellList.{before, before-is}

cells-front : (cs : List read.Cell) (rest : List ℕ) (k : ℕ) → k < length cs → CellIs (cell_rows cs ++ rest) (7 * k) (get_or cs k no_cell)
unfolding cell_rows
cells-front [] rest k h w l = absurd (omega arith)
cells-front (c ∷ cs) rest zero h w l =
    rw (append_assoc (cell_row c) (cell_rows cs) rest, zero-add w) (get_or-append (cell_row c) (cell_rows cs ++ rest) 0 w l)
cells-front (c ∷ cs) rest (suc k) h w l =
    let e : 7 * suc k + w ≡ length (cell_row c) + (7 * k + w) = omega arith in
    rw (append_assoc (cell_row c) (cell_rows cs) rest, e) (get_or-append-add (cell_row c) (cell_rows cs ++ rest) (7 * k + w) 0
    ∙ cells-front cs rest k (omega arith) w l)

entries_front : (is : List Item) (rest : List ℕ) (k : ℕ) → k < length is → EntryIs (entry_rows is ++ rest) (28 * k) (get_or is k no_item)
unfolding entry_rows
entries_front [] rest k h w l = absurd (omega arith)
entries_front (i ∷ is) rest zero h w l =
    rw (append_assoc (entry_row i) (entry_rows is) rest, zero-add w) (get_or-append (entry_row i) (entry_rows is ++ rest) 0 w (rw (length-entry i) l))
entries_front (i ∷ is) rest (suc k) h w l =
    let z = length-entry i in
    let e : 28 * suc k + w ≡ length (entry_row i) + (28 * k + w) = omega arith in
    rw (append_assoc (entry_row i) (entry_rows is) rest, e) (get_or-append-add (entry_row i) (entry_rows is ++ rest) (28 * k + w) 0
    ∙ entries_front is rest k (omega arith) w l)

-- what stands in them
pub record Tables (st : At) (u t : List ℕ) (count : ℕ) : Type 0 where
  pub cells : CellsAre u count st.book.log.cells
  pub entries : EntriesAre t 0 (total st.book.log.cells) st.book.log.items
  pub cells_fit : 7 * count ≤ length u
  pub entries_fit_of : 28 * entries_before u count ≤ length t

pub tables_sound : (st : At) (u t : List ℕ) → SoundLog st.book.log
    → Tables st (cells_left (fine st) u) (entries_left (fine st) t) (length st.book.log.cells)
tables_sound st u t l =
    let cs = st.book.log.cells in
    let is = st.book.log.items in
    let lc = length-cells cs in
    let li = length_entries is in
    let cells : CellsAre (cells_left (fine st) u) (length cs) cs = (refl, (λ k h. cells-front cs _ k h), l.cells) in
    let n = length-append (cell_rows cs) (drop (length (cell_rows cs)) u) in
    let m = length-append (entry_rows is) (drop (length (entry_rows is)) t) in
    let b = before-is (cells_left (fine st) u) (length cs) cs cells (length cs) (omega arith) in
    let w : before cs (length cs) ≡ total cs = ap total (take_all (length cs) cs (omega arith)) in
    let v = l.entries in
    record {
      cells = cells;
      entries = (sym v, (λ k h. rw (zero-add k) (entries_front is _ k (omega (arith, v, h)))), l.items);
      cells_fit = omega (arith, n, lc);
      entries_fit_of = omega (arith, m, li, b, w, v);
    }

pub tables-left : (st : At) (u t : List ℕ) (cr ir : ℕ) (s : List ℕ) → read_file cr ir s ≡ fine st
    → Tables st (cells_left (fine st) u) (entries_left (fine st) t) (length st.book.log.cells)
tables-left st u t cr ir s e = tables_sound st u t (read_sound cr ir s st e)

pub tables-at : (st : At) (u u' t t' : List ℕ) (count cr ir : ℕ) (s : List ℕ) → read_file cr ir s ≡ fine st → count ≡ length st.book.log.cells
    → u' ≡ cells_left (fine st) u → t' ≡ entries_left (fine st) t → Tables st u' t' count
tables-at st u u' t t' count cr ir s e k c d = rw (c, d, k) (tables-left st u t cr ir s e)
