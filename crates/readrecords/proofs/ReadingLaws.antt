-- The rows of a table that a reading left are the records of the cells that were read; a reading into a part of a table is one into the table.
-- Assumes nothing.
use Rattle.std.specs.Prelude.{◌≡◌, refl, List, [], ◌∷◌, ◌++◌, ℕ, zero, suc, ◌+◌, ◌*◌, ◌/◌, ◌≤◌, ◌<◌, length, take, drop, get_or}
use Rattle.std.proofs.Common.{sym, ap, ◌∙◌, append_assoc, arith, length-append, take-append-drop, length-take-le, lt-ltb, le-ltb}
use Rattle.grammar.specs.declared.Cell.{Cell}
use Rattle.grammar.specs.Machine.{Res, fine, bad}
use Rattle.grammar.specs.Reading.{At}
use Rattle.meaning.specs.Sound.{SoundLog}
use Rattle.tables.specs.Layout.{cell_rows, length-cells}
use Rattle.readcells.specs.declared.FileRead.{FileRead}
use Rattle.tables.specs.Left.{cells_left}
use Rattle.readcells.specs.Files.{FileIs, answer_of}
use Rattle.meaning.specs.Rows.{cell-is}
use Rattle.meaning.specs.Cells.{CellsAre}
use Rattle.meaning.specs.CellList.{each_at}
use Rattle.meaning.specs.TableLaws.{tables_sound}
use Rattle.cellrecords.specs.Records.{first_of, record_of, records_of, no_record}
use Rattle.readrecords.specs.Reading.{room_for, count_of, records_left, WithinIs, RecordsAre}

-- the first k of a list, and one more
take_more : {A : Type 0} (l : List A) (d : A) (k : ℕ) → k < length l → take (suc k) l ≡ take k l ++ get_or l k d ∷ []
take_more [] d k h = absurd (omega arith)
take_more (a ∷ l) d zero h = refl
take_more (a ∷ l) d (suc k) h = ap (λ r. a ∷ r) (take_more l d k (omega arith))

take_whole : {A : Type 0} (l : List A) → take (length l) l ≡ l
take_whole [] = refl
take_whole (a ∷ l) = ap (λ r. a ∷ r) (take_whole l)

drop-front : {A : Type 0} (n : ℕ) (x y : List A) → n ≤ length x → drop n (x ++ y) ≡ drop n x ++ y
drop-front zero x y h = refl
drop-front (suc n) [] y h = absurd (omega arith)
drop-front (suc n) (a ∷ x) y h = drop-front n x y (omega arith)

rows_take : (t : List ℕ) (n : ℕ) (cs : List Cell) → CellsAre t n cs → (k : ℕ) → k ≤ n → records_of t k ≡ take k cs
unfolding first_of
rows_take t n cs a zero h = refl
rows_take t n cs a (suc k) h =
    let l : k < length cs = (let z = a.0 in omega arith) in
    let c = cell-is t (7 * k) (get_or cs k no_record) (a.1 k (omega arith)) (each_at (λ c. c.sort < 256) cs no_record a.2 k l) in
    ap (λ r. r ++ record_of t k ∷ []) (rows_take t n cs a k (omega arith)) ∙ ap (λ c. take k cs ++ c ∷ []) c ∙ sym (take_more cs no_record k l)

rows_are : (t : List ℕ) (cs : List Cell) → CellsAre t (length cs) cs → records_of t (length cs) ≡ cs
rows_are t cs a = rows_take t (length cs) cs a (length cs) (omega arith) ∙ take_whole cs

-- what stands in the log of a text that was read is in range: Sound has it of a file and of a patch's cell
abbrev pub Sounds : Res At → Type 0
Sounds o = (st : At) → o ≡ fine st → SoundLog st.book.log

-- what the fill leaves, of a text that was read and of a refused one
pub left_is : (o : Res At) (u : List ℕ) (rs : List Cell) → Sounds o
    → records_of (cells_left o u) (count_of (answer_of o)) ++ drop (count_of (answer_of o)) rs ≡ records_left o rs
unfolding first_of
left_is (fine st) u rs sound =
    let cs = st.book.log.cells in
    ap (λ r. r ++ drop (length cs) rs) (rows_are (cells_left (fine st) u) cs (tables_sound st u [] (sound st refl)).cells)
left_is (bad n q) u rs sound = refl

pub records-are : (o : Res At) (u u' t t' : List ℕ) (rs rs' : List Cell) (r : FileRead) (n : ℕ) → Sounds o → FileIs o u u' t t' r
    → n ≡ count_of r.answer → rs' ≡ records_of u' n ++ drop n rs → RecordsAre o u u' t t' rs rs' r
records-are o u u' t t' rs rs' r n sound f e g =
    let m : n ≡ count_of (answer_of o) = e ∙ ap count_of f.says in
    let k = count_of (answer_of o) in
    (f, g ∙ ap (λ j. records_of u' j ++ drop j rs) m ∙ ap (λ v. records_of v k ++ drop k rs) f.cells ∙ left_is o u rs sound)

-- a table is as long as it was, so it has a row for each cell
pub fit_of : (o : Res At) (u : List ℕ) → length (cells_left o u) ≡ length u → 7 * count_of (answer_of o) ≤ length u
fit_of (fine st) u e =
    let cs = st.book.log.cells in
    let a = length-append (cell_rows cs) (drop (length (cell_rows cs)) u) in
    let b = length-cells cs in
    omega (arith, a, b, e)
fit_of (bad n q) u e = omega arith

pub rows_fit : (o : Res At) (u u' t t' : List ℕ) (r : FileRead) → FileIs o u u' t t' r → length u' ≡ length u → 7 * count_of r.answer ≤ length u
rows_fit o u u' t t' r f e = rw f.says (fit_of o u (ap length (sym f.cells) ∙ e))

-- the table behind the part that the core was lent stays
pub part_left : (o : Res At) (u : List ℕ) (m : ℕ) → m ≤ length u → length (cells_left o (take m u)) ≡ length (take m u)
    → cells_left o (take m u) ++ drop m u ≡ cells_left o u
part_left (fine st) u m h e =
    let cs = st.book.log.cells in
    let f = fit_of (fine st) (take m u) e in
    let l = length-cells cs in
    append_assoc (cell_rows cs) _ (drop m u)
    ∙ ap (λ r. cell_rows cs ++ r) (sym (drop-front (length (cell_rows cs)) (take m u) (drop m u) (omega (arith, f, l)))
    ∙ ap (λ v. drop (length (cell_rows cs)) v) (take-append-drop m u))
part_left (bad n q) u m h e = take-append-drop m u

-- a reading into the part that has a record for each row, or into the whole: `read` is the reading by its room for cells
pub within-part : (read : ℕ → Res At) (room : ℕ) (u p t t' : List ℕ) (r : FileRead) → room < length u / 7
    → FileIs (read (length (take (7 * room) u) / 7)) (take (7 * room) u) p t t' r → length p ≡ length (take (7 * room) u)
    → WithinIs (read (room_for (length u) room)) room u (p ++ drop (7 * room) u) t t' r
within-part read room u p t t' r h f e =
    let inside : 7 * room ≤ length u = omega arith in
    let lt : length (take (7 * room) u) ≡ 7 * room = length-take-le (7 * room) u inside in
    let n : length (take (7 * room) u) / 7 ≡ room = omega (arith, lt) in
    let g : FileIs (read room) (take (7 * room) u) p t t' r = rw n at f in
    let k : room_for (length u) room ≡ room = rw (lt-ltb room (length u / 7) h) in
    let fits = rows_fit (read room) (take (7 * room) u) p t t' r g e in
    let left : p ++ drop (7 * room) u ≡ cells_left (read room) u =
    ap (λ v. v ++ drop (7 * room) u) g.cells ∙ part_left (read room) u (7 * room) inside (ap length (sym g.cells) ∙ e) in
    rw k (record { says = g.says; cells = left; entries = g.entries; slash = g.slash; unit = g.unit; texts = g.texts }, omega (arith, fits, lt))

pub within-whole : (read : ℕ → Res At) (room : ℕ) (u u' t t' : List ℕ) (r : FileRead) → length u / 7 ≤ room
    → FileIs (read (length u / 7)) u u' t t' r → length u' ≡ length u → WithinIs (read (room_for (length u) room)) room u u' t t' r
within-whole read room u u' t t' r h f e =
    let k : room_for (length u) room ≡ length u / 7 = rw (le-ltb room (length u / 7) h) in
    let fits = rows_fit (read (length u / 7)) u u' t t' r f e in
    rw k (f, omega (arith, fits, h))
