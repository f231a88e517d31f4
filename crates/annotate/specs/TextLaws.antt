-- From the loops to the whole: what annotating answers and leaves, for every input.
-- Assumes nothing.
use Rattle.std.specs.Prelude.{ℕ, Bool, true, false, List, [], ◌++◌, length, Result, Ok, Err}
use Rattle.std.proofs.Math.Path.{◌≡◌, refl, ap}
use Rattle.std.proofs.Common.{sym, ◌∙◌, true≢false, append-nil, arith}
use borrow.Author.Tests.{eq-eqb, ne_eqb}
use Rattle.wire.specs.Wire.{Bytes}
use Rattle.grammar.specs.declared.Cell as read
use Rattle.grammar.specs.Machine.{Res, fine, bad}
use Rattle.grammar.specs.Meaning.{Item}
use Rattle.grammar.specs.Reading.{At}
use Rattle.grammar.specs.Outcome.{read_file}
use Rattle.tables.specs.Left.{cells_left, entries_left}
use Rattle.readcells.specs.Files.{FileIs, slash_of}
use Rattle.readcells.specs.Files as file
use Rattle.readcells.specs.declared.Counts.{Counts}
use Rattle.readcells.specs.Refusal.{Refusal}
use Rattle.readcells.specs.declared.FileRead.{FileRead}
use Rattle.sheetparts.specs.Form.{Good, faulty, check_of}
use Rattle.sheetlaws.specs.Sheet.{decode}
use Rattle.history.specs.Events.{Answer, sheet, refused, folded}
use Rattle.history.specs.Sheet.{Slot, file_events, slots_of}
use Rattle.history.specs.Sheet as history
use Rattle.history.proofs.SheetLaws.{annotate-by_entries}
use Rattle.meaning.specs.Slots.{records_of, values_of, sheet_at}
use Rattle.meaning.specs.Spelled.{start}
use Rattle.meaning.specs.Shapes.{values_in_range}
use Rattle.meaning.specs.Says.{cells_of}
use Rattle.meaning.specs.declared.Annotated.{Annotated}
use Rattle.meaning.specs.declared.Annotated.TheVariants.{Done, Refused}
use Rattle.meaning.specs.Meaning.{said, by_text, course, says_of, answer_of, sheet_of, out_of, cells_out, entries_out, AnnotateIs, cell_count}
use Rattle.meaning.specs.Entries.{Kept}
use Rattle.meaning.specs.Cells.{is_refusal, CellsRun, TextRun}
use Rattle.meaning.specs.TableLaws.{Tables, tables-at}
use Rattle.applycells.specs.EntryLaws.{here}

-- 1. The whole text, applied to the starting sheet

module _ (b : List ℕ) (bytes : Bytes b) (n m f : ℕ) (good : check_of b ≡ Good n m f) (text : List ℕ) (slash : Bool) (cells : List ℕ) (count : ℕ)
    (entries : List ℕ) where
  begins : Kept b n m f b (values_of (sheet_at b n m f))
  begins = (sym (start b bytes n m f good), values_in_range b bytes n m f good)

  -- what the events come to is what annotating means
  means : (cs : List read.Cell) (is : List Item) (a : Answer Slot ℕ)
      → folded (slots_of (records_of (sheet_at b n m f))) (values_of (sheet_at b n m f)) (file_events (records_of (sheet_at b n m f)) (cells_of here text slash cs is) ++ []) ≡ a
      → history.annotate (records_of (sheet_at b n m f)) (values_of (sheet_at b n m f)) (cells_of here text slash cs is) ≡ a
  means cs is a e =
      sym (annotate-by_entries (records_of (sheet_at b n m f)) (values_of (sheet_at b n m f)) (cells_of here text slash cs is)) ∙ rw append-nil at e

  done : (out : List ℕ) → CellsRun b text slash n m f cells count entries b out Done → TextRun b text slash n m f cells count entries out Done
  unfolding folded
  done out run y cs is c e =
      let w = run bytes good cs is (values_of (sheet_at b n m f)) c e begins in
      let a = means cs is (sheet w.0) (w.2 []) in
      (ap says_of (sym a), w.1.0 ∙ ap (sheet_of b (sheet_at b n m f)) (sym a))

  stop : (out : List ℕ) (x q : ℕ) → CellsRun b text slash n m f cells count entries b out (Refused x q)
      → TextRun b text slash n m f cells count entries b (Refused x q)
  stop out x q run y cs is c e =
      let w = run bytes good cs is (values_of (sheet_at b n m f)) c e begins in
      let a = means cs is (refused x q) (w []) in
      (ap says_of (sym a), ap (sheet_of b (sheet_at b n m f)) (sym a))

  -- the sheet is as the cells left it, or the starting sheet again
  pub text-done : (out : List ℕ) (a : Annotated) → is_refusal a ≡ false → CellsRun b text slash n m f cells count entries b out a
      → TextRun b text slash n m f cells count entries out a
  unfolding is_refusal
  text-done out Done e run = done out run
  text-done out (Refused x q) e run = absurd (true≢false e)

  pub text-stop : (out : List ℕ) (a : Annotated) → is_refusal a ≡ true → CellsRun b text slash n m f cells count entries b out a
      → TextRun b text slash n m f cells count entries b a
  unfolding is_refusal
  text-stop out Done e run = absurd (true≢false (sym e))
  text-stop out (Refused x q) e run = stop out x q run

-- 2. For every input

-- how many cells were read: none of a refused text
abbrev count_of : Result Counts Refusal → ℕ
count_of (Ok counts) = counts.cells
count_of (Err why) = 0

-- the number and the place of an answer that refuses
abbrev number_of : Result Counts Refusal → ℕ
number_of (Ok counts) = 0
number_of (Err why) = why.number

abbrev place_of : Result Counts Refusal → ℕ
place_of (Ok counts) = 0
place_of (Err why) = why.place

module _ (start' text : List ℕ) (cr ir : ℕ) (u u' t t' out : List ℕ) where
  -- 10
  pub unfit_sheet : (k p : ℕ) → check_of start' ≡ faulty k p → AnnotateIs start' (course start' text cr ir (length out)) u u t t out out (Refused 10 0)
  unfolding course decode answer_of out_of cells_out entries_out
  unfit_sheet k p e = rw e (record { says = refl; cells = refl; entries = refl; sheet = refl })

  -- 11
  pub unfit-length : (n m f : ℕ) → check_of start' ≡ Good n m f → (length out ≡ length start' → ⊥)
      → AnnotateIs start' (course start' text cr ir (length out)) u u t t out out (Refused 11 0)
  unfolding course decode answer_of out_of cells_out entries_out
  unfit-length n m f e h = rw (e, ne_eqb (length out) (length start') h) (record { says = refl; cells = refl; entries = refl; sheet = refl })

  -- no cell is read before them
  pub unfit_sheet_none : (k p : ℕ) → check_of start' ≡ faulty k p → 0 ≡ cell_count (course start' text cr ir (length out))
  unfolding course decode cell_count
  unfit_sheet_none k p e = rw e

  pub unfit-length-none : (n m f : ℕ) → check_of start' ≡ Good n m f → (length out ≡ length start' → ⊥)
      → 0 ≡ cell_count (course start' text cr ir (length out))
  unfolding course decode cell_count
  unfit-length-none n m f e h = rw (e, ne_eqb (length out) (length start') h)

  module _ (n m f : ℕ) (good : check_of start' ≡ Good n m f) (same : length out ≡ length start') (r : FileRead)
      (file-is : FileIs (read_file cr ir text) u u' t t' r) where
    -- the course of a starting sheet and an output sheet that fit
    fits : course start' text cr ir (length out) ≡ by_text text (sheet_at start' n m f) (read_file cr ir text)
    unfolding course decode
    fits = rw (good, eq-eqb (length out) (length start') same)

    -- the text's own refusal
    pub unread_text : (why : Refusal) → r.answer ≡ Err why
        → AnnotateIs start' (course start' text cr ir (length out)) u u' t t' out out (Refused why.number why.place)
    unfolding answer_of out_of cells_out entries_out
    unread_text why e = rw fits (go (read_file cr ir text) (sym e ∙ file-is.says) file-is.cells file-is.entries)
      where
        go : (o : Res At) → Err why ≡ file.answer_of o → u' ≡ cells_left o u → t' ≡ entries_left o t
            → AnnotateIs start' (by_text text (sheet_at start' n m f) o) u u' t t' out out (Refused why.number why.place)
        go (fine st) e c d = let z : ◌≡◌ {A = ℕ} 0 1 = cc in absurd (omega arith)
        go (bad y p) e c d =
            let a : why.number ≡ y = ap number_of e in
            let b : why.place ≡ p = ap place_of e in
            record { says = rw (a, b); cells = c; entries = d; sheet = refl }

    -- a text that was read
    read_as : (o : Res At) (counts : Counts) → read_file cr ir text ≡ o → Ok counts ≡ file.answer_of o
        → (st : At) × (read_file cr ir text ≡ fine st) × (counts.cells ≡ length st.book.log.cells)
    read_as (fine st) counts e a = (st, e, ap count_of a)
    read_as (bad y p) counts e a = let z : ◌≡◌ {A = ℕ} 0 1 = cc in absurd (omega arith)

    pub read_tables : (counts : Counts) → r.answer ≡ Ok counts
        → (st : At) × (read_file cr ir text ≡ fine st) × (u' ≡ cells_left (fine st) u) × (t' ≡ entries_left (fine st) t) × (r.slash ≡ st.book.slash)
        × Tables st u' t' counts.cells
    read_tables counts e =
        let a = read_as (read_file cr ir text) counts refl (sym e ∙ file-is.says) in
        let c : u' ≡ cells_left (fine a.0) u = file-is.cells ∙ ap (λ (o : Res At). cells_left o u) a.1 in
        let d : t' ≡ entries_left (fine a.0) t = file-is.entries ∙ ap (λ (o : Res At). entries_left o t) a.1 in
        (a.0, a.1, c, d, file-is.slash ∙ ap slash_of a.1, tables-at a.0 u u' t t' counts.cells cr ir text a.1 a.2 c d)

    -- and its history
    pub read_text : Bytes start' → (counts : Counts) → r.answer ≡ Ok counts → (a : Annotated) (out' : List ℕ)
        → TextRun start' text r.slash n m f u' counts.cells t' out' a → AnnotateIs start' (course start' text cr ir (length out)) u u' t t' out out' a
    unfolding answer_of out_of cells_out entries_out said
    read_text bytes counts e a out' run =
        let l = read_tables counts e in
        let w = (rw l.4 at run) bytes l.0.book.log.cells l.0.book.log.items l.5.cells l.5.entries in
        rw (fits, l.1) (record { says = w.0; cells = l.2; entries = l.3; sheet = w.1 })

    -- how many cells were read
    pub count-is : (o : Res At) → read_file cr ir text ≡ o → count_of (file.answer_of o) ≡ cell_count (course start' text cr ir (length out))
    unfolding cell_count
    count-is (fine st) e = rw (fits, e)
    count-is (bad y p) e = rw (fits, e)

    pub unread_none : (why : Refusal) → r.answer ≡ Err why → 0 ≡ cell_count (course start' text cr ir (length out))
    unread_none why e = ap count_of (sym e ∙ file-is.says) ∙ count-is (read_file cr ir text) refl

    pub read_count : (counts : Counts) → r.answer ≡ Ok counts → counts.cells ≡ cell_count (course start' text cr ir (length out))
    read_count counts e = ap count_of (sym e ∙ file-is.says) ∙ count-is (read_file cr ir text) refl
