-- The rows that a patch left in a table are the records of the cells that were read; a patch that is lent a part of a table is one that is lent the table.
-- Assumes nothing.
use Rattle.std.specs.Prelude.{◌≡◌, Bool, true, false, List, ◌++◌, ℕ, ◌+◌, ◌*◌, ◌/◌, ◌≤◌, ◌<◌, eqb, ltb, length, take, drop, Ok, Err}
use Rattle.std.proofs.Math.Path.{refl, sym}
use Rattle.std.proofs.Common.{ap, ◌∙◌, arith, length-take-le, lt-ltb, le-ltb}
use Rattle.classes.specs.Choice.{pick, or}
use Rattle.grammar.specs.declared.Cell.{Cell}
use Rattle.grammar.specs.Machine.{Res, fine, bad, bad≢fine}
use Rattle.grammar.specs.Reading.{At}
use Rattle.grammar.specs.Outcome.{read_file, read_cell_of}
use Rattle.patch.specs.Sound.{read_sound, cell_sound}
use Rattle.tables.specs.Left.{cells_left}
use Rattle.sheetparts.specs.Form.{SheetCheck, check_of}
use Rattle.patch.specs.Same.{same_records}
use Rattle.cellrecords.specs.Records.{records_of}
use Rattle.readrecords.specs.Reading.{room_for, records_left}
use Rattle.readrecords.proofs.ReadingLaws.{Sounds, left_is, fit_of, part_left}
use Rattle.patch.specs.declared.Counted.{Counted}
use Rattle.patch.specs.Meaning.{Course, unfit, unread, nonumber, unread_cell, judged, by_cell, by_file, by_sheet, course, file_table, cell_table}
use Rattle.patch.specs.Counted.{cells_read, CountedIs}
use Rattle.patchwithin.specs.Patching.{PatchedRecords}

-- 1. What the reading of each text came to; a text that was not reached is as a refused one

abbrev file_of : Course → Res At
file_of (unfit x) = bad x 0
file_of (unread x q) = bad x q
file_of (nonumber st) = fine st
file_of (unread_cell st x q) = fine st
file_of (judged n m f st st2 a) = fine st

abbrev cell_of : Course → Res At
cell_of (unfit x) = bad x 0
cell_of (unread x q) = bad x q
cell_of (nonumber st) = bad 17 0
cell_of (unread_cell st x q) = bad x q
cell_of (judged n m f st st2 a) = fine st2

-- so what is left is what such a reading leaves
module _ {A : Type 0} (left : Res At → A → A) (t : A) (as_lent : (x q : ℕ) → left (bad x q) t ≡ t) where
  file-left : (c : Course) → file_table left t c ≡ left (file_of c) t
  unfolding file_table
  file-left (unfit x) = sym (as_lent x 0)
  file-left (unread x q) = sym (as_lent x q)
  file-left (nonumber st) = refl
  file-left (unread_cell st x q) = refl
  file-left (judged n m f st st2 a) = refl

  cell-left : (c : Course) → cell_table left t c ≡ left (cell_of c) t
  unfolding cell_table
  cell-left (unfit x) = sym (as_lent x 0)
  cell-left (unread x q) = sym (as_lent x q)
  cell-left (nonumber st) = sym (as_lent 17 0)
  cell-left (unread_cell st x q) = sym (as_lent x q)
  cell-left (judged n m f st st2 a) = refl

-- 2. What was read is in range

abbrev Sound : Course → Type 0
Sound c = Sounds (file_of c) × Sounds (cell_of c)

none : (x q : ℕ) → Sounds (bad x q)
none x q st e = absurd (bad≢fine e)

module _ (start file : List ℕ) (number : ℕ) (incoming current : List ℕ) where
  sound_cell : (n m f : ℕ) (st : At) (o : Res At) → Sounds (fine st) → Sounds o → Sound (by_cell start file number incoming current n m f st o)
  sound_cell n m f st (fine st2) a b = (a, b)
  sound_cell n m f st (bad x q) a b = (a, none x q)

  sound_file : (cr ir n m f : ℕ) (o : Res At) → Sounds o → Sound (by_file start file number incoming current cr ir n m f o)
  sound_file cr ir n m f (fine st) a = by (or (eqb number 0) (ltb (length st.book.log.cells) number))
    where
      by : (x : Bool) → Sound (pick x (nonumber st) (by_cell start file number incoming current n m f st (read_cell_of st.book.slash st.book.unit cr ir incoming)))
      by true = (a, none 17 0)
      by false = sound_cell n m f st (read_cell_of st.book.slash st.book.unit cr ir incoming) a (cell_sound st.book.slash st.book.unit cr ir incoming)
  sound_file cr ir n m f (bad x q) a = (none x q, none x q)

  sound_sheet : (cr ir : ℕ) (o : Res At) → Sounds o → (s : SheetCheck) → Sound (by_sheet start file number incoming current cr ir o s)
  sound_sheet cr ir o a (Ok g) = by (eqb (length current) (length start)) (same_records start current g.arcs g.first_arc)
    where
      by : (x y : Bool) → Sound (pick x (pick y (by_file start file number incoming current cr ir g.instances g.arcs g.first_arc o) (unfit 18)) (unfit 11))
      by true true = sound_file cr ir g.instances g.arcs g.first_arc o a
      by true false = (none 18 0, none 18 0)
      by false y = (none 11 0, none 11 0)
  sound_sheet cr ir o a (Err d) = (none 10 0, none 10 0)

  sound_course : (cr ir cr2 ir2 : ℕ) → Sound (course start file number incoming current cr ir cr2 ir2)
  unfolding course
  sound_course cr ir cr2 ir2 = sound_sheet cr2 ir2 (read_file cr ir file) (read_sound cr ir file) (check_of start)

-- 3. The two tables and the two counts, by such readings

module _ (start : List ℕ) (c : Course) (u u' t t' u2 u2' t2 t2' current current' : List ℕ) (r : Counted)
    (is : CountedIs start c u u' t t' u2 u2' t2 t2' current current' r) where
  file-is : u' ≡ cells_left (file_of c) u
  file-is = is.0.cells ∙ file-left cells_left u (λ x q. refl) c

  file-count : r.cells ≡ cells_read (file_of c)
  file-count = is.1 ∙ file-left (λ o k. cells_read o) 0 (λ x q. refl) c

  cell-is : u2' ≡ cells_left (cell_of c) u2
  cell-is = is.0.incoming_cells ∙ cell-left cells_left u2 (λ x q. refl) c

  cell-count : r.incoming ≡ cells_read (cell_of c)
  cell-count = is.2 ∙ cell-left (λ o k. cells_read o) 0 (λ x q. refl) c

  -- a row for each cell
  pub file-rows : length u' ≡ length u → 7 * r.cells ≤ length u
  file-rows e = rw file-count (fit_of (file_of c) u (ap length (sym file-is) ∙ e))

  pub cell-rows : length u2' ≡ length u2 → 7 * r.incoming ≤ length u2
  cell-rows e = rw cell-count (fit_of (cell_of c) u2 (ap length (sym cell-is) ∙ e))

-- 4. The fill

-- of one text, whose reading came to o
filled : (o : Res At) (u u' : List ℕ) (rs rs' : List Cell) (n : ℕ) → Sounds o → u' ≡ cells_left o u → n ≡ cells_read o → rs' ≡ records_of u' n ++ drop n rs
    → rs' ≡ records_left o rs
filled o u u' rs rs' n sound c e g =
    g ∙ ap (λ j. records_of u' j ++ drop j rs) e ∙ ap (λ v. records_of v (cells_read o) ++ drop (cells_read o) rs) c ∙ left_is o u rs sound

module _ (start file : List ℕ) (number : ℕ) (incoming current : List ℕ) (cr ir cr2 ir2 : ℕ) (u u' t t' u2 u2' t2 t2' current' : List ℕ) (r : Counted) where
  abbrev went : Course
  went = course start file number incoming current cr ir cr2 ir2

  pub patched_records : (rs rs' rs2 rs2' : List Cell) (n k : ℕ) → CountedIs start went u u' t t' u2 u2' t2 t2' current current' r
      → n ≡ r.cells → k ≡ r.incoming → rs' ≡ records_of u' n ++ drop n rs → rs2' ≡ records_of u2' k ++ drop k rs2
      → PatchedRecords start went u u' t t' u2 u2' t2 t2' current current' rs rs' rs2 rs2' r
  patched_records rs rs' rs2 rs2' n k is e d g h =
      let sound = sound_course start file number incoming current cr ir cr2 ir2 in (
        is,
        filled (file_of went) u u' rs rs' n sound.0 (file-is start went u u' t t' u2 u2' t2 t2' current current' r is)
            (e ∙ file-count start went u u' t t' u2 u2' t2 t2' current current' r is) g
            ∙ sym (file-left records_left rs (λ x q. refl) went),
        filled (cell_of went) u2 u2' rs2 rs2' k sound.1 (cell-is start went u u' t t' u2 u2' t2 t2' current current' r is)
            (d ∙ cell-count start went u u' t t' u2 u2' t2 t2' current current' r is) h
            ∙ sym (cell-left records_left rs2 (λ x q. refl) went),
      )

-- 5. A part of a table

-- the rows of the part that has a record for each, or of the whole
part_room : (u : List ℕ) (room : ℕ) → room < length u / 7 → (length (take (7 * room) u) / 7 ≡ room) × (room_for (length u) room ≡ room)
part_room u room h =
    let inside : 7 * room ≤ length u = omega arith in
    let l = length-take-le (7 * room) u inside in
    (omega (arith, l), rw (lt-ltb room (length u / 7) h))

whole_room : (u : List ℕ) (room : ℕ) → length u / 7 ≤ room → room_for (length u) room ≡ length u / 7
whole_room u room h = rw (le-ltb room (length u / 7) h)

-- the table behind the part stays, and the cells fit the part
cut : (o : Res At) (u p : List ℕ) (room : ℕ) → room < length u / 7 → p ≡ cells_left o (take (7 * room) u) → length p ≡ length (take (7 * room) u)
    → (p ++ drop (7 * room) u ≡ cells_left o u) × (cells_read o ≤ room)
cut o u p room h e l =
    let inside : 7 * room ≤ length u = omega arith in
    let long = length-take-le (7 * room) u inside in
    let same = ap length (sym e) ∙ l in
    let fits = fit_of o (take (7 * room) u) same in
    (ap (λ v. v ++ drop (7 * room) u) e ∙ part_left o u (7 * room) inside same, omega (arith, fits, long))

-- `by` is the course by the room for cells of the text whose table is cut
module _ (by : ℕ → Course) (start : List ℕ) (room : ℕ) (u u' t t' u2 u2' t2 t2' current current' : List ℕ) (r : Counted) where
  abbrev FileWithin : List ℕ → Type 0
  FileWithin v = CountedIs start (by (room_for (length u) room)) u v t t' u2 u2' t2 t2' current current' r × (r.cells ≤ room)

  pub file-part : room < length u / 7 → CountedIs start (by (length (take (7 * room) u) / 7)) (take (7 * room) u) u' t t' u2 u2' t2 t2' current current' r
      → length u' ≡ length (take (7 * room) u) → FileWithin (u' ++ drop (7 * room) u)
  file-part h is l =
      let n = part_room u room h in
      let g : CountedIs start (by room) (take (7 * room) u) u' t t' u2 u2' t2 t2' current current' r = rw n.0 at is in
      let o = file_of (by room) in
      let c = cut o u u' room h (file-is start (by room) (take (7 * room) u) u' t t' u2 u2' t2 t2' current current' r g) l in
      rw n.1 (
        (
          record {
            says = g.0.says;
            cells = c.0 ∙ sym (file-left cells_left u (λ x q. refl) (by room));
            entries = g.0.entries;
            incoming_cells = g.0.incoming_cells;
            incoming_entries = g.0.incoming_entries;
            sheet = g.0.sheet;
          },
          g.1,
          g.2,
        ),
        rw (file-count start (by room) (take (7 * room) u) u' t t' u2 u2' t2 t2' current current' r g) c.1,
      )

  pub file-whole : length u / 7 ≤ room → CountedIs start (by (length u / 7)) u u' t t' u2 u2' t2 t2' current current' r → length u' ≡ length u → FileWithin u'
  file-whole h is l =
      let fits = file-rows start (by (length u / 7)) u u' t t' u2 u2' t2 t2' current current' r is l in
      rw (whole_room u room h) (is, omega (arith, fits, h))

  abbrev CellWithin : List ℕ → Type 0
  CellWithin v = CountedIs start (by (room_for (length u2) room)) u u' t t' u2 v t2 t2' current current' r × (r.incoming ≤ room)

  pub cell-part : room < length u2 / 7 → CountedIs start (by (length (take (7 * room) u2) / 7)) u u' t t' (take (7 * room) u2) u2' t2 t2' current current' r
      → length u2' ≡ length (take (7 * room) u2) → CellWithin (u2' ++ drop (7 * room) u2)
  cell-part h is l =
      let n = part_room u2 room h in
      let g : CountedIs start (by room) u u' t t' (take (7 * room) u2) u2' t2 t2' current current' r = rw n.0 at is in
      let o = cell_of (by room) in
      let c = cut o u2 u2' room h (cell-is start (by room) u u' t t' (take (7 * room) u2) u2' t2 t2' current current' r g) l in
      rw n.1 (
        (
          record {
            says = g.0.says;
            cells = g.0.cells;
            entries = g.0.entries;
            incoming_cells = c.0 ∙ sym (cell-left cells_left u2 (λ x q. refl) (by room));
            incoming_entries = g.0.incoming_entries;
            sheet = g.0.sheet;
          },
          g.1,
          g.2,
        ),
        rw (cell-count start (by room) u u' t t' (take (7 * room) u2) u2' t2 t2' current current' r g) c.1,
      )

  pub cell-whole : length u2 / 7 ≤ room → CountedIs start (by (length u2 / 7)) u u' t t' u2 u2' t2 t2' current current' r → length u2' ≡ length u2 → CellWithin u2'
  cell-whole h is l =
      let fits = cell-rows start (by (length u2 / 7)) u u' t t' u2 u2' t2 t2' current current' r is l in
      rw (whole_room u2 room h) (is, omega (arith, fits, h))
