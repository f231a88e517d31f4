-- The same as ReadingLaws, of a course of annotating.
-- Assumes nothing.
use Rattle.std.specs.Prelude.{◌≡◌, refl, Bool, true, false, List, ◌++◌, ℕ, ◌+◌, ◌*◌, ◌/◌, ◌≤◌, ◌<◌, eqb, length, take, drop}
use Rattle.std.proofs.Common.{sym, ap, ◌∙◌, arith, take-append-drop, length-take-le, lt-ltb, le-ltb}
use Rattle.classes.specs.Choice.{pick}
use Rattle.grammar.specs.declared.Cell.{Cell}
use Rattle.grammar.specs.Machine.{Res, fine, bad}
use Rattle.grammar.specs.Reading.{At}
use Rattle.grammar.specs.Outcome.{read_file}
use Rattle.meaning.specs.Sound.{read_sound}
use Rattle.sheetlaws.specs.Sheet.{Sheet, Decoded, decode}
use Rattle.sheetlaws.specs.Sheet as bytes
use Rattle.annotate.specs.declared.Counted.{Counted}
use Rattle.meaning.specs.Meaning.{Course, unfit, unread, judged, by_text, by_sheet, course, cells_out, cell_count}
use Rattle.cellrecords.specs.Records.{first_of, records_of}
use Rattle.readrecords.specs.Reading.{room_for}
use Rattle.readrecords.proofs.ReadingLaws.{left_is, fit_of, part_left}
use Rattle.records.specs.Annotating.{records_out, CountedIs, CountedWithin, RecordsOut}

-- what the fill leaves
abbrev Left : List ℕ → List Cell → Course → Type 0
Left u rs c = records_of (cells_out u c) (cell_count c) ++ drop (cell_count c) rs ≡ records_out c rs

left-none : (u : List ℕ) (rs : List Cell) (n : ℕ) → Left u rs (unfit n)
unfolding cells_out cell_count records_out first_of
left-none u rs n = refl

left-text : (text : List ℕ) (cr ir : ℕ) (s : Sheet) (u : List ℕ) (rs : List Cell) (o : Res At) → read_file cr ir text ≡ o → Left u rs (by_text text s o)
unfolding cells_out cell_count records_out first_of
left-text text cr ir s u rs (fine st) e = left_is (fine st) u rs (λ st' x. read_sound cr ir text st' (e ∙ x))
left-text text cr ir s u rs (bad n q) e = refl

left_sheet : (start text : List ℕ) (cr ir long : ℕ) (u : List ℕ) (rs : List Cell) (d : Decoded) → Left u rs (by_sheet start text long (read_file cr ir text) d)
left_sheet start text cr ir long u rs (bytes.sheet s) = by (eqb long (length start))
  where
    by : (x : Bool) → Left u rs (pick x (by_text text s (read_file cr ir text)) (unfit 11))
    by true = left-text text cr ir s u rs (read_file cr ir text) refl
    by false = left-none u rs 11
left_sheet start text cr ir long u rs (bytes.fault k p) = left-none u rs 10

left-course : (start text : List ℕ) (cr ir long : ℕ) (u : List ℕ) (rs : List Cell) → Left u rs (course start text cr ir long)
unfolding course
left-course start text cr ir long u rs = left_sheet start text cr ir long u rs (decode start)

pub records-out : (start text : List ℕ) (cr ir long : ℕ) (u u' t t' out out' : List ℕ) (rs rs' : List Cell) (r : Counted) (n : ℕ)
    → CountedIs start (course start text cr ir long) u u' t t' out out' r → n ≡ r.cells → rs' ≡ records_of u' n ++ drop n rs
    → RecordsOut start (course start text cr ir long) u u' t t' out out' rs rs' r
records-out start text cr ir long u u' t t' out out' rs rs' r n f e g =
    let c = course start text cr ir long in
    let k = cell_count c in
    (f, g ∙ ap (λ j. records_of u' j ++ drop j rs) (e ∙ f.1) ∙ ap (λ v. records_of v k ++ drop k rs) f.0.cells ∙ left-course start text cr ir long u rs)

-- a row for each cell
fit_out : (c : Course) (u : List ℕ) → length (cells_out u c) ≡ length u → 7 * cell_count c ≤ length u
unfolding cells_out cell_count
fit_out (unfit n) u e = omega arith
fit_out (unread n q) u e = omega arith
fit_out (judged s st a) u e = fit_of (fine st) u e

pub rows_fit_out : (start : List ℕ) (c : Course) (u u' t t' out out' : List ℕ) (r : Counted) → CountedIs start c u u' t t' out out' r → length u' ≡ length u
    → 7 * r.cells ≤ length u
rows_fit_out start c u u' t t' out out' r f e = rw f.1 (fit_out c u (ap length (sym f.0.cells) ∙ e))

-- the table behind the part that the core was lent stays
part_out : (c : Course) (u : List ℕ) (m : ℕ) → m ≤ length u → length (cells_out (take m u) c) ≡ length (take m u) → cells_out (take m u) c ++ drop m u ≡ cells_out u c
unfolding cells_out
part_out (unfit n) u m h e = take-append-drop m u
part_out (unread n q) u m h e = take-append-drop m u
part_out (judged s st a) u m h e = part_left (fine st) u m h e

pub counted_part : (start text : List ℕ) (ir long room : ℕ) (u p t t' out out' : List ℕ) (r : Counted) → room < length u / 7
    → CountedIs start (course start text (length (take (7 * room) u) / 7) ir long) (take (7 * room) u) p t t' out out' r → length p ≡ length (take (7 * room) u)
    → CountedWithin start (course start text (room_for (length u) room) ir long) room u (p ++ drop (7 * room) u) t t' out out' r
counted_part start text ir long room u p t t' out out' r h f e =
    let inside : 7 * room ≤ length u = omega arith in
    let lt : length (take (7 * room) u) ≡ 7 * room = length-take-le (7 * room) u inside in
    let n : length (take (7 * room) u) / 7 ≡ room = omega (arith, lt) in
    let g : CountedIs start (course start text room ir long) (take (7 * room) u) p t t' out out' r = rw n at f in
    let k : room_for (length u) room ≡ room = rw (lt-ltb room (length u / 7) h) in
    let c = course start text room ir long in
    let fits = rows_fit_out start c (take (7 * room) u) p t t' out out' r g e in
    let left : p ++ drop (7 * room) u ≡ cells_out u c = ap (λ v. v ++ drop (7 * room) u) g.0.cells ∙ part_out c u (7 * room) inside (ap length (sym g.0.cells) ∙ e) in
    rw k ((record { says = g.0.says; cells = left; entries = g.0.entries; sheet = g.0.sheet }, g.1), omega (arith, fits, lt))

pub counted_whole : (start text : List ℕ) (ir long room : ℕ) (u u' t t' out out' : List ℕ) (r : Counted) → length u / 7 ≤ room
    → CountedIs start (course start text (length u / 7) ir long) u u' t t' out out' r → length u' ≡ length u
    → CountedWithin start (course start text (room_for (length u) room) ir long) room u u' t t' out out' r
counted_whole start text ir long room u u' t t' out out' r h f e =
    let k : room_for (length u) room ≡ length u / 7 = rw (le-ltb room (length u / 7) h) in
    let fits = rows_fit_out start (course start text (length u / 7) ir long) u u' t t' out out' r f e in
    rw k (f, omega (arith, fits, h))
