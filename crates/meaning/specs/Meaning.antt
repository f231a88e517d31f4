-- What annotating means (document 01, 'Annotating' and 'Refusal numbers and their order'): the answer, the output sheet and both tables.
-- Assumes nothing.
use Rattle.std.specs.Prelude.{ℕ, ◌≡◌, List, eqb, length}
use Rattle.classes.specs.Choice.{pick}
use Rattle.grammar.specs.Machine.{Res, fine, bad}
use Rattle.grammar.specs.Reading.{At}
use Rattle.grammar.specs.Outcome.{read_file}
use Rattle.tables.specs.Left.{cells_left, entries_left}
use Rattle.sheetlaws.specs.Sheet.{Sheet, Decoded, decode}
use Rattle.sheetlaws.specs.Sheet as bytes
use Rattle.history.specs.Events.{Answer, sheet, refused}
use Rattle.history.specs.Sheet.{Slot, Cell}
use Rattle.history.specs.Sheet as history
use Rattle.entryarcs.specs.Slots.{records_of, values_of, spelled}
use Rattle.entryarcs.specs.Says.{cells_of}
use Rattle.meaning.specs.declared.Annotated.{Annotated}
use Rattle.meaning.specs.declared.Annotated.TheVariants.{Done, Refused}

-- the cells of a text that was read; the word of a refusal is told by its place
unfoldable pub said : List ℕ → At → List (Cell ℕ)
said text st = cells_of (λ p. p) text st.book.slash st.book.log.cells st.book.log.items

-- How far annotating comes: 10 or 11, 'starting sheet not of the form above', 'output or current sheet not as long as the starting one'; the
-- text is refused; or the text is read, and its history decides.
pub data Course : Type 0 where
  unfit : ℕ → Course
  unread : ℕ → ℕ → Course
  judged : Sheet → At → Answer Slot ℕ → Course

abbrev pub by_text : List ℕ → Sheet → Res At → Course
by_text text s (fine st) = judged s st (history.annotate (records_of s) (values_of s) (said text st))
by_text text s (bad n q) = unread n q

abbrev pub by_sheet : List ℕ → List ℕ → ℕ → Res At → Decoded → Course
by_sheet start text long r (bytes.sheet s) = pick (eqb long (length start)) (by_text text s r) (unfit 11)
by_sheet start text long r (bytes.fault k p) = unfit 10

-- 'In annotating: 10, 11, text, then cell by cell 12, 13, its entries; for one entry 14, 15, 16.' With room for cr cells and ir entries, and
-- an output sheet that is so long
unfoldable pub course : (start text : List ℕ) (cr ir long : ℕ) → Course
course start text cr ir long = by_sheet start text long (read_file cr ir text) (decode start)

-- the answer, by the paper's numbers
abbrev pub says_of : Answer Slot ℕ → Annotated
says_of (sheet v) = Done
says_of (refused n q) = Refused n q

unfoldable pub answer_of : Course → Annotated
answer_of (unfit n) = Refused n 0
answer_of (unread n q) = Refused n q
answer_of (judged s st a) = says_of a

-- 'After 1 to 11 .. no sheet is touched. Annotating writes an output sheet apart from the starting one; after 12 to 16 it equals the starting sheet.'
abbrev pub sheet_of : List ℕ → Sheet → Answer Slot ℕ → List ℕ
sheet_of start s (sheet v) = spelled s v
sheet_of start s (refused n q) = start

unfoldable pub out_of : List ℕ → List ℕ → Course → List ℕ
out_of start out (unfit n) = out
out_of start out (unread n q) = out
out_of start out (judged s st a) = sheet_of start s a

-- 'Tables of a text refused or not reached are as lent; those of a text already read keep its reading.'
unfoldable pub cells_out : List ℕ → Course → List ℕ
cells_out t (unfit n) = t
cells_out t (unread n q) = t
cells_out t (judged s st a) = cells_left (fine st) t

unfoldable pub entries_out : List ℕ → Course → List ℕ
entries_out t (unfit n) = t
entries_out t (unread n q) = t
entries_out t (judged s st a) = entries_left (fine st) t

-- how many cells the tables then hold
unfoldable pub cell_count : Course → ℕ
cell_count (unfit n) = 0
cell_count (unread n q) = 0
cell_count (judged s st a) = length st.book.log.cells

-- THE CONTRACT of the annotator: its answer, and every lent byte and word at exit
pub record AnnotateIs (start : List ℕ) (c : Course) (u u' t t' out out' : List ℕ) (r : Annotated) : Type 0 where
  pub says : r ≡ answer_of c
  pub cells : u' ≡ cells_out u c
  pub entries : t' ≡ entries_out t c
  pub sheet : out' ≡ out_of start out c
