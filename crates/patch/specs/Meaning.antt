-- What patching means (document 01, 'Patching' and 'Refusal numbers and their order'): the answer, the current sheet and all four tables.
-- Assumes nothing.
use Rattle.std.specs.Prelude.{ℕ, ◌≡◌, Bool, true, false, List, [], ◌∷◌, eqb, ltb, length, Ok, Err}
use Rattle.classes.specs.Choice.{pick, or}
use Rattle.grammar.specs.Machine.{Res, fine, bad}
use Rattle.grammar.specs.Reading.{At}
use Rattle.grammar.specs.Outcome.{read_file, read_cell_of}
use Rattle.tables.specs.Left.{cells_left, entries_left}
use Rattle.sheetparts.specs.Form.{SheetCheck, check_of}
use Rattle.meant.specs.Same.{same_records}
use Rattle.history.specs.Events.{Answer}
use Rattle.history.specs.Sheet.{Slot, Cell}
use Rattle.history.specs.Sheet as history
use Rattle.meant.specs.Slots.{records_of, values_of, sheet_at}
use Rattle.meant.specs.Says.{cell_of, cells_of}
use Rattle.meant.specs.Cells.{no_cell}
use Rattle.meant.specs.Where.{Where, at}
use Rattle.swap.specs.declared.Patched.{Patched}
use Rattle.swap.specs.declared.Patched.TheVariants as patched
use Rattle.swap.specs.Swapped.{says_of, sheet_of}

-- the cells of a text that was read, with the words of that text
unfoldable pub said : Bool → List ℕ → At → List (Cell Where)
said side text st = cells_of (at side) text st.book.slash st.book.log.cells st.book.log.items

-- 'The incoming text is one cell': the first, and there is no other
unfoldable pub first_cell : List (Cell Where) → Cell Where
first_cell [] = cell_of (at true) [] false no_cell []
first_cell (c ∷ more) = c

-- How far patching comes: 10, 11 or 18; the file is refused; 17; the incoming text is refused; or both are read, and the new file's history decides.
pub data Course : Type 0 where
  unfit : ℕ → Course
  unread : ℕ → ℕ → Course
  nonumber : At → Course
  unread_cell : At → ℕ → ℕ → Course
  judged : (n m f : ℕ) → At → At → Answer Slot Where → Course

module _ (start file : List ℕ) (number : ℕ) (incoming current : List ℕ) where
  -- on the sheet with n instances and m arcs from f on, of which the current one has the records
  abbrev pub by_history : (n m f : ℕ) → At → At → Answer Slot Where
  by_history n m f st st2 =
      history.patch (records_of (sheet_at start n m f)) (values_of (sheet_at start n m f)) (said false file st) number (at false 0)
      (first_cell (said true incoming st2)) (values_of (sheet_at current n m f))

  abbrev pub by_cell : (n m f : ℕ) → At → Res At → Course
  by_cell n m f st (fine st2) = judged n m f st st2 (by_history n m f st st2)
  by_cell n m f st (bad x q) = unread_cell st x q

  -- '17: cell number 0 or beyond the last'
  abbrev pub by_file : (cr ir n m f : ℕ) → Res At → Course
  by_file cr ir n m f (fine st) =
      pick (or (eqb number 0) (ltb (length st.book.log.cells) number)) (nonumber st)
      (by_cell n m f st (read_cell_of st.book.slash st.book.unit cr ir incoming))
  by_file cr ir n m f (bad x q) = unread x q

  abbrev pub by_sheet : (cr ir : ℕ) → Res At → SheetCheck → Course
  by_sheet cr ir r (Ok o) =
      pick (eqb (length current) (length start))
      (pick (same_records start current o.arcs o.first_arc) (by_file cr ir o.instances o.arcs o.first_arc r) (unfit 18)) (unfit 11)
  by_sheet cr ir r (Err d) = unfit 10

  -- 'In patching: 10, 11, 18, file, 17, incoming text, then as annotating.' With room for so many cells and entries of the file and of the incoming text
  unfoldable pub course : (cr ir cr2 ir2 : ℕ) → Course
  course cr ir cr2 ir2 = by_sheet cr2 ir2 (read_file cr ir file) (check_of start)

-- '10, 11, 17, 18: the file'
unfoldable pub answer_of : Course → Patched
answer_of (unfit x) = patched.Refused x 0 false
answer_of (unread x q) = patched.Refused x q false
answer_of (nonumber st) = patched.Refused 17 0 false
answer_of (unread_cell st x q) = patched.Refused x q true
answer_of (judged n m f st st2 a) = says_of a

-- and the current sheet
unfoldable pub current_of : (start current : List ℕ) → Course → List ℕ
current_of start current (unfit x) = current
current_of start current (unread x q) = current
current_of start current (nonumber st) = current
current_of start current (unread_cell st x q) = current
current_of start current (judged n m f st st2 a) = sheet_of start current n m f a

-- 'Tables of a text refused or not reached are as lent; those of a text already read keep its reading.' The file's, then the incoming text's;
-- `left` says what a reading leaves of what was lent
unfoldable pub file_table : {A : Type 0} → (Res At → A → A) → A → Course → A
file_table left t (unfit x) = t
file_table left t (unread x q) = t
file_table left t (nonumber st) = left (fine st) t
file_table left t (unread_cell st x q) = left (fine st) t
file_table left t (judged n m f st st2 a) = left (fine st) t

unfoldable pub cell_table : {A : Type 0} → (Res At → A → A) → A → Course → A
cell_table left t (unfit x) = t
cell_table left t (unread x q) = t
cell_table left t (nonumber st) = t
cell_table left t (unread_cell st x q) = t
cell_table left t (judged n m f st st2 a) = left (fine st2) t

-- THE CONTRACT of the patch: its answer, and every lent byte and word at exit
pub record PatchIs (start : List ℕ) (c : Course) (u u' t t' u2 u2' t2 t2' current current' : List ℕ) (r : Patched) : Type 0 where
  pub says : r ≡ answer_of c
  pub cells : u' ≡ file_table cells_left u c
  pub entries : t' ≡ file_table entries_left t c
  pub incoming_cells : u2' ≡ cell_table cells_left u2 c
  pub incoming_entries : t2' ≡ cell_table entries_left t2 c
  pub sheet : current' ≡ current_of start current c
