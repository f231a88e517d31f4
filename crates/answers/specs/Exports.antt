-- The answers of the static library: each answer's numbers, by the definitions that the other contracts use.
-- Assumes nothing.
use Rattle.std.specs.Prelude.{◌≡◌, Bool, List, ℕ, ◌≤◌, ◌<◌, eqb, ltb, Ok, Err, Result}
use Rattle.std.proofs.Common.{◌∙◌, ap, lt-ltb, le-ltb}
use Rattle.classes.specs.Choice.{pick}
use Rattle.grammar.specs.Machine.{Res, bad}
use Rattle.grammar.specs.Reading.{At}
use Rattle.grammar.specs.Outcome.{read_cell_of}
use Rattle.patch.specs.Counts.{Counts}
use Rattle.patch.specs.Refusal.{Refusal}
use Rattle.patch.specs.FileRead.{FileRead}
use Rattle.tables.specs.Left.{cells_left, entries_left}
use Rattle.patch.specs.Files.{answer_of, slash_of, unit_of, texts_of, FileIs}
use Rattle.sheetparts.specs.Form.{SheetCheck}
use Rattle.answers.specs.declared.ReadNumbers.{ReadNumbers}
use Rattle.answers.specs.declared.SheetNumbers.{SheetNumbers}
use Rattle.answers.specs.declared.ResultNumbers.{ResultNumbers}
use Rattle.patch.specs.Annotated.{Annotated}
use Rattle.patch.specs.Annotated.TheVariants as annotated
use Rattle.patch.specs.Annotating.{Course, AnnotateIs, cells_out, entries_out, out_of}
use Rattle.patch.specs.Annotating as meaning
use Rattle.patch.specs.Patched.{Patched}
use Rattle.patch.specs.Patched.TheVariants as patched
use Rattle.patch.specs.Meaning as patching

-- 0 and the counts, the divider (1 for /) and the time scale; or the refusal's number and its place, and nothing else
abbrev pub file_numbers : Result Counts Refusal → Bool → ℕ → List ℕ → ReadNumbers
file_numbers (Ok counts) slash unit texts = record { number = 0; place = 0; cells = counts.cells; entries = counts.entries; slash = pick slash 1 0; scale = unit; texts = texts }
file_numbers (Err why) slash unit texts = record { number = why.number; place = why.place; cells = 0; entries = 0; slash = 0; scale = 0; texts = texts }

abbrev pub read_numbers : Res At → ReadNumbers
read_numbers o = file_numbers (answer_of o) (slash_of o) (unit_of o) (texts_of o)

-- One cell, 'read with the file's divider and time scale', which come as numbers: 0 for . and 1 for /; a power of ten, 0 (1 fs) to 17 (100 s).
-- By numbers that no file has, the text is not judged: 255 at 0, no number of the paper's, and nothing is written, as after a refusal.
abbrev pub cell_by : ℕ → ℕ → ℕ → ℕ → List ℕ → Res At
cell_by slash scale cr ir s = pick (ltb 1 slash) (bad 255 0) (pick (ltb 17 scale) (bad 255 0) (read_cell_of (eqb slash 1) scale cr ir s))

-- what the reader leaves is what the library leaves
pub same_left : (o : Res At) (u u' t t' : List ℕ) (f : FileRead) (r : ReadNumbers) → FileIs o u u' t t' f →
    r ≡ file_numbers f.answer f.slash f.unit f.texts → (r ≡ read_numbers o) × (u' ≡ cells_left o u) × (t' ≡ entries_left o t)
same_left o u u' t t' f r a e = (e ∙ rw (a.says, a.slash, a.unit, a.texts), a.cells, a.entries)

pub no_divider : (slash scale cr ir : ℕ) (s : List ℕ) → 1 < slash → cell_by slash scale cr ir s ≡ bad 255 0
no_divider slash scale cr ir s h = rw (lt-ltb 1 slash h)

pub no_scale : (slash scale cr ir : ℕ) (s : List ℕ) → slash ≤ 1 → 17 < scale → cell_by slash scale cr ir s ≡ bad 255 0
no_scale slash scale cr ir s g h = rw (le-ltb 1 slash g, lt-ltb 17 scale h)

pub cell-by : (slash scale cr ir : ℕ) (s : List ℕ) → slash ≤ 1 → scale ≤ 17 → cell_by slash scale cr ir s ≡ read_cell_of (eqb slash 1) scale cr ir s
cell-by slash scale cr ir s g h = rw (le-ltb 1 slash g, le-ltb 17 scale h)

-- 0 and the counts; or refusal 10 at 0
abbrev pub sheet_numbers : SheetCheck → SheetNumbers
sheet_numbers (Ok o) = record { number = 0; place = 0; instances = o.instances; arcs = o.arcs }
sheet_numbers (Err d) = record { number = 10; place = 0; instances = 0; arcs = 0 }

-- 0; or the refusal's number and its place, in the file
abbrev pub result_of : Annotated → ResultNumbers
result_of annotated.Done = record { number = 0; place = 0; incoming = 0 }
result_of (annotated.Refused n q) = record { number = n; place = q; incoming = 0 }

abbrev pub annotated_numbers : Course → ResultNumbers
annotated_numbers c = result_of (meaning.answer_of c)

-- what the annotator leaves is what the library leaves
pub same-annotated : (start : List ℕ) (c : Course) (u u' t t' out out' : List ℕ) (a : Annotated) → AnnotateIs start c u u' t t' out out' a
    → (result_of a ≡ annotated_numbers c) × (u' ≡ cells_out u c) × (t' ≡ entries_out t c) × (out' ≡ out_of start out c)
same-annotated start c u u' t t' out out' a i = (ap result_of i.says, i.cells, i.entries, i.sheet)

-- 0; or the refusal's number and its place, in the incoming text where the last number is 1
abbrev pub patched_of : Patched → ResultNumbers
patched_of patched.Done = record { number = 0; place = 0; incoming = 0 }
patched_of (patched.Refused n q side) = record { number = n; place = q; incoming = pick side 1 0 }

-- the patch's contract, with the answer in numbers
pub record PatchLeft (start : List ℕ) (c : patching.Course) (u u' t t' u2 u2' t2 t2' current current' : List ℕ) (r : ResultNumbers) : Type 0 where
  pub says : r ≡ patched_of (patching.answer_of c)
  pub cells : u' ≡ patching.file_table cells_left u c
  pub entries : t' ≡ patching.file_table entries_left t c
  pub incoming_cells : u2' ≡ patching.cell_table cells_left u2 c
  pub incoming_entries : t2' ≡ patching.cell_table entries_left t2 c
  pub sheet : current' ≡ patching.current_of start current c

pub same-patched : (start : List ℕ) (c : patching.Course) (u u' t t' u2 u2' t2 t2' current current' : List ℕ) (a : Patched) (r : ResultNumbers)
    → patching.PatchIs start c u u' t t' u2 u2' t2 t2' current current' a → r ≡ patched_of a
    → PatchLeft start c u u' t t' u2 u2' t2 t2' current current' r
same-patched start c u u' t t' u2 u2' t2 t2' current current' a r i e =
    record {
      says = e ∙ ap patched_of i.says;
      cells = i.cells;
      entries = i.entries;
      incoming_cells = i.incoming_cells;
      incoming_entries = i.incoming_entries;
      sheet = i.sheet;
    }
