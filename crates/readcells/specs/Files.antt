-- What reading a file answers and leaves, as functions of the outcome: this is what the public contracts cite.
-- Assumes nothing.
use Rattle.std.specs.Prelude.{◌≡◌, Bool, true, false, List, [], ℕ, ◌-◌, ◌≤◌, ◌<◌, length, replicate, Err, Result, Ok, refl}
use Rattle.std.proofs.Common.{ap, ◌∙◌, sym, lt-ltb, le-ltb}
use Rattle.grammar.specs.Machine.{Res, fine, bad, fine_inj, bad≢fine}
use Rattle.grammar.specs.declared.Cell.{Cell}
use Rattle.grammar.specs.declared.Head.{Head}
use Rattle.grammar.specs.Grammar.{file}
use Rattle.grammar.specs.Meaning.{Item, tidy}
use Rattle.grammar.specs.Reading.{At, reading}
use Rattle.grammar.specs.Outcome.{state, read_file, text_limit}
use Rattle.rules.specs.Promises.{HeaderRead}
use Rattle.cells.specs.Cells.{filled}
use Rattle.tables.specs.Layout.{cell_rows, entry_rows}
use Rattle.tables.specs.Pastes.{put_front}
use Rattle.tables.specs.Left.{cells_left, entries_left}
use Rattle.tokenforms.specs.declared.Refusal.{Refusal}
use Rattle.tokenforms.specs.Tokens.{Refused}
use Rattle.readcells.specs.declared.Counts.{Counts}
use Rattle.readcells.specs.Counted.{Read}
use Rattle.readcells.specs.declared.FileRead.{FileRead}
use Rattle.readcells.specs.declared.Pass.{Pass}
use Rattle.readcells.specs.Whole.{filled_cells}
use Rattle.readcells.specs.Left.{CellsRead}

-- the answer: the counts, or the paper's refusal number with its place
abbrev pub answer_of : Res At → Result Counts Refusal
answer_of (fine st) = Read (length st.book.log.cells) (length st.book.log.items)
answer_of (bad n q) = Refused n q

-- the divider, the time scale and the places of the header's texts that the file says; of a refused file: '.', 1 ns, and none
abbrev pub slash_of : Res At → Bool
slash_of (fine st) = st.book.slash
slash_of (bad n q) = false

abbrev pub unit_of : Res At → ℕ
unit_of (fine st) = st.book.unit
unit_of (bad n q) = 6

abbrev pub texts_of : Res At → List ℕ
texts_of (fine st) = st.book.log.texts
texts_of (bad n q) = replicate 14 0

-- THE CONTRACT of the reader: its answer, and every lent word at exit
pub record FileIs (o : Res At) (u u' t t' : List ℕ) (r : FileRead) : Type 0 where
  pub says : r.answer ≡ answer_of o
  pub cells : u' ≡ cells_left o u
  pub entries : t' ≡ entries_left o t
  pub slash : r.slash ≡ slash_of o
  pub unit : r.unit ≡ unit_of o
  pub texts : r.texts ≡ texts_of o

-- one pass through a text whose outcome is o, with room for cr cells and ir entries
abbrev pub PassRead : Res At → Bool → ℕ → ℕ → List ℕ → List ℕ → List ℕ → List ℕ → List ℕ → Bool → ℕ → Result Counts Refusal → Type 0
PassRead o fill cr ir u u' t t' ts' d unit (Ok counts) =
    (cs : List Cell) × (is : List Item) × (length cs ≡ counts.cells) × (length is ≡ counts.entries)
    × (o ≡ fine (state [] false d unit (cr - counts.cells) (ir - counts.entries) (tidy ts' cs is)))
    × (u' ≡ filled_cells fill u 0 cs) × (t' ≡ filled fill t 0 is)
PassRead o fill cr ir u u' t t' ts' d unit (Err why) =
    (o ≡ bad why.number why.place) × (fill ≡ false → (u' ≡ u) × (t' ≡ t))

-- through a file, from places of texts ts to ts'
abbrev pub opening : List ℕ → ℕ → ℕ → List ℕ → Res At
opening s cr ir ts = reading s (state file false false 6 cr ir (tidy ts [] [])) 0

abbrev pub AllRead : List ℕ → Bool → ℕ → ℕ → List ℕ → List ℕ → List ℕ → List ℕ → List ℕ → List ℕ → Result Pass Refusal → Type 0
AllRead s fill cr ir u u' t t' ts ts' (Ok pass) = PassRead (opening s cr ir ts) fill cr ir u u' t t' ts' pass.slash pass.unit (Ok pass.counts)
AllRead s fill cr ir u u' t t' ts ts' (Err why) = PassRead (opening s cr ir ts) fill cr ir u u' t t' ts' false 0 (Err why)

-- the header, and the cells behind it
pub header-refused : (s : List ℕ) (fill : Bool) (cr ir : ℕ) (u t ts ts' : List ℕ) (k q : ℕ) → HeaderRead s ts ts' (Refused k q) → AllRead s fill cr ir u u t t ts ts' (Refused k q)
header-refused s fill cr ir u t ts ts' k q a = (a cr ir, λ e. (refl, refl))

pub cells-refused : (s : List ℕ) (fill : Bool) (cr ir : ℕ) (u u' t t' ts ts' : List ℕ) (h : Head) (k q : ℕ) → HeaderRead s ts ts' (Ok h) →
    CellsRead s (Ok h.hand) h.slash h.unit cr ir fill u u' t t' (Refused k q) → AllRead s fill cr ir u u' t t' ts ts' (Refused k q)
cells-refused s fill cr ir u u' t t' ts ts' h k q a b = (a.0 cr ir ∙ b.0 ts', b.1)

pub all_read : (s : List ℕ) (fill : Bool) (cr ir : ℕ) (u u' t t' ts ts' : List ℕ) (h : Head) (n m : ℕ) → HeaderRead s ts ts' (Ok h) →
    CellsRead s (Ok h.hand) h.slash h.unit cr ir fill u u' t t' (Read n m) →
    AllRead s fill cr ir u u' t t' ts ts' (Ok (record { counts = record { cells = n; entries = m }; slash = h.slash; unit = h.unit }))
all_read s fill cr ir u u' t t' ts ts' h n m a b = (b.0, b.1, b.2, b.3, a.0 cr ir ∙ b.4 ts', b.5, b.6)

-- one pass, whatever it answers
pub as_pass : (s : List ℕ) (fill : Bool) (cr ir : ℕ) (u u' t t' ts ts' : List ℕ) (r : Result Pass Refusal) → AllRead s fill cr ir u u' t t' ts ts' r →
    (d : Bool) × (unit : ℕ) × (a : Result Counts Refusal) × PassRead (opening s cr ir ts) fill cr ir u u' t t' ts' d unit a
as_pass s fill cr ir u u' t t' ts ts' (Ok pass) w = (pass.slash, pass.unit, Ok pass.counts, w)
as_pass s fill cr ir u u' t t' ts ts' (Err why) w = (false, 0, Err why, w)

-- the second pass fills the tables with what the first one read
pub second_pass : (o : Res At) (cr ir : ℕ) (u u' t t' ts' : List ℕ) (d : Bool) (unit : ℕ) (r : Result Counts Refusal) (st : At) →
    o ≡ fine st → PassRead o true cr ir u u' t t' ts' d unit r → (u' ≡ cells_left (fine st) u) × (t' ≡ entries_left (fine st) t)
second_pass o cr ir u u' t t' ts' d unit (Ok counts) st e a =
    let f : st ≡ state [] false d unit (cr - counts.cells) (ir - counts.entries) (tidy ts' a.0 a.1) = fine_inj (sym e ∙ a.4) in
    (a.5 ∙ put_front u (cell_rows a.0) ∙ ap (λ (x : At). cells_left (fine x) u) (sym f), a.6 ∙ put_front t (entry_rows a.1) ∙ ap (λ (x : At). entries_left (fine x) t) (sym f))
second_pass o cr ir u u' t t' ts' d unit (Err why) st e a = absurd (bad≢fine (sym a.0 ∙ e))

-- a text over the limit, and one within it
pub too_long : (cr ir : ℕ) (s : List ℕ) → text_limit < length s → read_file cr ir s ≡ bad 1 0
unfolding read_file
too_long cr ir s h = rw (lt-ltb text_limit (length s) h)

pub short_enough : (cr ir : ℕ) (s : List ℕ) → length s ≤ text_limit → read_file cr ir s ≡ opening s cr ir (replicate 14 0)
unfolding read_file
short_enough cr ir s h = rw (le-ltb text_limit (length s) h)

pub file_refused : (o : Res At) (k q : ℕ) (u u' t t' : List ℕ) (r : FileRead) → o ≡ bad k q → u' ≡ u → t' ≡ t →
    (r.answer ≡ Refused k q) × (r.slash ≡ false) × (r.unit ≡ 6) × (r.texts ≡ replicate 14 0) → FileIs o u u' t t' r
file_refused o k q u u' t t' r e f g a =
    record {
      says = a.0 ∙ ap answer_of (sym e);
      cells = f ∙ ap (λ x. cells_left x u) (sym e);
      entries = g ∙ ap (λ x. entries_left x t) (sym e);
      slash = a.1 ∙ ap slash_of (sym e);
      unit = a.2 ∙ ap unit_of (sym e);
      texts = a.3 ∙ ap texts_of (sym e);
    }

-- a first pass that was fine, and the second one
pub file_read : (o o' : Res At) (cr ir n m : ℕ) (u u1 u2 t t1 t2 ts' ts'' : List ℕ) (d d2 : Bool) (unit unit2 : ℕ) (a : Result Counts Refusal) (r : FileRead) →
    o ≡ o' → PassRead o' false cr ir u u1 t t1 ts' d unit (Read n m) → PassRead o' true cr ir u1 u2 t1 t2 ts'' d2 unit2 a →
    (r.answer ≡ Read n m) × (r.slash ≡ d) × (r.unit ≡ unit) × (r.texts ≡ ts') → FileIs o u u2 t t2 r
file_read o o' cr ir n m u u1 u2 t t1 t2 ts' ts'' d d2 unit unit2 a r e f g h =
    let st : At = state [] false d unit (cr - n) (ir - m) (tidy ts' f.0 f.1) in
    let p : o ≡ fine st = e ∙ f.4 in
    let w = second_pass o' cr ir u1 u2 t1 t2 ts'' d2 unit2 a st f.4 g in
    record {
      says = h.0 ∙ rw (← f.2, ← f.3) (ap answer_of (sym p));
      cells = w.0 ∙ rw f.5 (ap (λ x. cells_left x u) (sym p));
      entries = w.1 ∙ rw f.6 (ap (λ x. entries_left x t) (sym p));
      slash = h.1 ∙ ap slash_of (sym p);
      unit = h.2 ∙ ap unit_of (sym p);
      texts = h.3 ∙ ap texts_of (sym p);
    }
