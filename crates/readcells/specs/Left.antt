-- All cells of a text: the rules of the loop over them.
-- Assumes nothing.
use Rattle.std.specs.Prelude.{◌≡◌, refl, Bool, true, false, List, [], ◌∷◌, ◌++◌, ℕ, ◌+◌, ◌-◌, ◌*◌, ◌≤◌, ◌<◌, length, Result, Ok, Err}
use Rattle.std.proofs.Common.{ap, ◌∙◌, sym, arith, length-append}
use Rattle.tokens.specs.Stream.{part}
use Rattle.grammar.specs.Answers.{HandAt}
use Rattle.tokenforms.specs.declared.Refusal.{Refusal}
use Rattle.tokenforms.specs.Tokens.{Refused}
use Rattle.grammar.specs.Ll.{non}
use Rattle.grammar.specs.Machine.{Res, fine, bad}
use Rattle.grammar.specs.declared.Cell.{Cell}
use Rattle.grammar.specs.declared.Hand.{Hand}
use Rattle.grammar.specs.Grammar.{header}
use Rattle.grammar.specs.Meaning.{Item, tidy, wrongly}
use Rattle.grammar.specs.Reading.{At}
use Rattle.grammar.specs.Outcome.{state}
use Rattle.rules.specs.Promises.{holds, InHand}
use Rattle.cells.specs.Cells.{filled}
use Rattle.tables.specs.Layout.{cell_row, cell_rows, cells-more, entry_rows, entries_append, length-cells, length_entries}
use Rattle.tables.specs.Pastes.{put, put-none, put-put}
use Rattle.readcells.specs.declared.More.{More}
use Rattle.readcells.specs.declared.More.TheVariants as mr
use Rattle.readcells.specs.declared.Counts.{Counts}
use Rattle.readcells.specs.Counted.{Read}
use Rattle.readcells.specs.Whole.{TailDone, TailNot, filled_cells, more_to, MoreRead, EndRead, cell_full, cell_word_lem, cell-wrong}

-- at the first cell's keyword, with this in hand
abbrev pub at_cells : List ℕ → Result Hand Refusal → Bool → ℕ → ℕ → ℕ → List ℕ → List Cell → List Item → Res At
at_cells s h d unit cr ir ts cs is = holds s h (state (non (header 10 d) ∷ []) true d unit cr ir (tidy ts cs is))

-- n cells with m entries have been read, and this is in hand
abbrev pub Along : List ℕ → Result Hand Refusal → Bool → ℕ → ℕ → ℕ → Result Hand Refusal → ℕ → ℕ → List Cell → List Item → Type 0
Along s h0 d unit cr ir h n m cs is = (ts : List ℕ) → at_cells s h0 d unit cr ir ts [] [] ≡ at_cells s h d unit (cr - n) (ir - m) ts cs is

-- all cells, and the text's end
abbrev pub CellsDone : List ℕ → Result Hand Refusal → Bool → ℕ → ℕ → ℕ → ℕ → ℕ → List Cell → List Item → Type 0
CellsDone s h0 d unit cr ir n m cs is =
    (ts : List ℕ) → at_cells s h0 d unit cr ir ts [] [] ≡ fine (state [] false d unit (cr - n) (ir - m) (tidy ts cs is))

abbrev pub CellsNot : List ℕ → Result Hand Refusal → Bool → ℕ → ℕ → ℕ → ℕ → ℕ → Type 0
CellsNot s h0 d unit cr ir k q = (ts : List ℕ) → at_cells s h0 d unit cr ir ts [] [] ≡ bad k q

abbrev pub CellsRead : List ℕ → Result Hand Refusal → Bool → ℕ → ℕ → ℕ → Bool → List ℕ → List ℕ → List ℕ → List ℕ → Result Counts Refusal → Type 0
CellsRead s h0 d unit cr ir fill u u' t t' (Ok counts) =
    (cs : List Cell) × (is : List Item) × (length cs ≡ counts.cells) × (length is ≡ counts.entries) × CellsDone s h0 d unit cr ir counts.cells counts.entries cs is
    × (u' ≡ filled_cells fill u 0 cs) × (t' ≡ filled fill t 0 is)
CellsRead s h0 d unit cr ir fill u u' t t' (Err why) =
    CellsNot s h0 d unit cr ir why.number why.place × (fill ≡ false → (u' ≡ u) × (t' ≡ t))

-- behind the file's closing bracket: the answer for n cells with m entries, by what ends the text
abbrev pub Finished : List ℕ → ℕ → ℕ → ℕ → Result Counts Refusal → Type 0
Finished s p n m (Ok counts) = (counts.cells ≡ n) × (counts.entries ≡ m) × ((q : ℕ) × EndRead s p (Ok q))
Finished s p n m (Err why) = EndRead s p (Refused why.number why.place)

pub along-start : (s : List ℕ) (h : Result Hand Refusal) (d : Bool) (unit cr ir : ℕ) → Along s h d unit cr ir h 0 0 [] []
along-start s h d unit cr ir = λ ts. let a : cr - 0 ≡ cr = omega arith in let b : ir - 0 ≡ ir = omega arith in rw (a, b)

pub along_refused : (s : List ℕ) (h0 : Result Hand Refusal) (d : Bool) (unit cr ir k q n m : ℕ) (cs : List Cell) (is : List Item) →
    Along s h0 d unit cr ir (Refused k q) n m cs is → CellsNot s h0 d unit cr ir k q
along_refused s h0 d unit cr ir k q n m cs is a = a

module _ (s : List ℕ) (h0 : Result Hand Refusal) (d : Bool) (unit cr ir n m : ℕ) (cs : List Cell) (is : List Item) (p k b e v : ℕ) (long : Bool)
    (i : InHand s (HandAt p k b e long v)) (a : Along s h0 d unit cr ir (HandAt p k b e long v) n m cs is) where
  pub along-wrong : (w : ℕ) → (v ≡ 53 → ⊥) → w ≡ wrongly true k (part b e s) → CellsNot s h0 d unit cr ir w b
  along-wrong w z q = λ ts. a ts ∙ cell-wrong s p k b e v long i d w z q [] unit (cr - n) (ir - m) _

  pub along-full : v ≡ 53 → n ≡ cr → CellsNot s h0 d unit cr ir 9 b
  along-full z q = λ ts. a ts ∙ (let y : cr - n ≡ 0 = omega arith in rw y (cell_full s p k b e v long i d z [] unit (ir - m) _))

  module _ (z : v ≡ 53) (low : n < cr) where
    pub along_tail_not : (j q : ℕ) → TailNot s e d unit (ir - m) b j q → CellsNot s h0 d unit cr ir j q
    along_tail_not j q u = λ ts. a ts ∙ cell_word_lem s p k b e v long i d z [] unit (cr - n) (ir - m) ts cs is (λ y. omega arith) ∙ u _ (cr - n - 1) ts cs is

    module _ (x : ℕ) (c : Cell) (js : List Item) (u : TailDone s e d unit (ir - m) b x c js) (r : Result More Refusal) (w : MoreRead s x d r) where
      onto : (ts : List ℕ) → at_cells s h0 d unit cr ir ts [] [] ≡ more_to s r [] d unit (cr - (n + 1)) (ir - (m + length js)) (tidy ts (cs ++ c ∷ []) (is ++ js))
      onto ts =
          let f : cr - n - 1 ≡ cr - (n + 1) = omega arith in
          let g : ir - m - length js ≡ ir - (m + length js) = omega arith in
          a ts ∙ cell_word_lem s p k b e v long i d z [] unit (cr - n) (ir - m) ts cs is (λ y. omega arith) ∙ u _ (cr - n - 1) ts cs is ∙ rw (f, g) (w.0 [] unit _ _ _)

    module _ (x : ℕ) (c : Cell) (js : List Item) (u : TailDone s e d unit (ir - m) b x c js) where
      pub along-more-not : (j q : ℕ) → MoreRead s x d (Refused j q) → CellsNot s h0 d unit cr ir j q
      along-more-not j q w = λ ts. onto x c js u (Refused j q) w ts

      pub along-next : (h : Hand) (o : ℕ) → length js ≡ o → MoreRead s x d (Ok (mr.Next h)) → Along s h0 d unit cr ir (Ok h) (n + 1) (m + o) (cs ++ c ∷ []) (is ++ js)
      along-next h o y w = λ ts. onto x c js u (Ok (mr.Next h)) w ts ∙ rw y

      pub along_last : (y o q : ℕ) → length js ≡ o → MoreRead s x d (Ok (mr.Last y)) → EndRead s y (Ok q) →
          CellsDone s h0 d unit cr ir (n + 1) (m + o) (cs ++ c ∷ []) (is ++ js)
      along_last y o q f w g = λ ts. onto x c js u (Ok (mr.Last y)) w ts ∙ g d unit _ _ _ ∙ rw f

      pub along-after : (y j q : ℕ) → MoreRead s x d (Ok (mr.Last y)) → EndRead s y (Refused j q) → CellsNot s h0 d unit cr ir j q
      along-after y j q w g = λ ts. onto x c js u (Ok (mr.Last y)) w ts ∙ g d unit _ _ _

-- the tables with one cell more
pub cells-none : (fill : Bool) (u : List ℕ) → filled_cells fill u 0 [] ≡ u
unfolding cell_rows
cells-none true u = put-none u 0
cells-none false u = refl

pub cells-one : (c : Cell) → cell_rows (c ∷ []) ≡ cell_row c
unfolding cell_rows
cells-one c = refl

pub cells_on : (fill : Bool) (u : List ℕ) (n : ℕ) (cs : List Cell) (c : Cell) → length cs ≡ n → 7 * n ≤ length u →
    filled_cells fill (filled_cells fill u 0 cs) n (c ∷ []) ≡ filled_cells fill u 0 (cs ++ c ∷ [])
cells_on false u n cs c e h = refl
cells_on true u n cs c e h =
    let m = length-cells cs in
    put-put u (cell_rows cs) (cell_rows (c ∷ [])) 0 (7 * n) (omega arith) h ∙ ap (put u 0) (sym (together cs))
  where
    together : (cs : List Cell) → cell_rows (cs ++ c ∷ []) ≡ cell_rows cs ++ cell_rows (c ∷ [])
    together cs = cells-more cs c ∙ ap (λ z. cell_rows cs ++ z) (sym (cells-one c))

pub items_on : (fill : Bool) (t : List ℕ) (m : ℕ) (is js : List Item) → length is ≡ m → 28 * m ≤ length t →
    filled fill (filled fill t 0 is) m js ≡ filled fill t 0 (is ++ js)
items_on false t m is js e h = refl
items_on true t m is js e h =
    let l = length_entries is in
    put-put t (entry_rows is) (entry_rows js) 0 (28 * m) (omega arith) h ∙ ap (put t 0) (sym (entries_append is js))

-- the tables behind one cell more
pub cells_then : (fill : Bool) (u u1 u2 : List ℕ) (n : ℕ) (cs : List Cell) (c : Cell) → length cs ≡ n → 7 * n ≤ length u → u1 ≡ filled_cells fill u 0 cs →
    u2 ≡ filled_cells fill u1 n (c ∷ []) → u2 ≡ filled_cells fill u 0 (cs ++ c ∷ [])
cells_then fill u u1 u2 n cs c e h f g = g ∙ rw f (cells_on fill u n cs c e h)

pub items_then : (fill : Bool) (t t1 t2 : List ℕ) (m : ℕ) (is js : List Item) → length is ≡ m → 28 * m ≤ length t → t1 ≡ filled fill t 0 is →
    t2 ≡ filled fill t1 m js → t2 ≡ filled fill t 0 (is ++ js)
items_then fill t t1 t2 m is js e h f g = g ∙ rw f (items_on fill t m is js e h)

-- nothing is written where nothing is to be filled
pub unfilled_cells : (fill : Bool) (u : List ℕ) (row : ℕ) (cs : List Cell) → fill ≡ false → filled_cells fill u row cs ≡ u
unfilled_cells fill u row cs e = rw e

pub unfilled : (fill : Bool) (t : List ℕ) (row : ℕ) (is : List Item) → fill ≡ false → filled fill t row is ≡ t
unfilled fill t row is e = rw e

pub more-cells : (n : ℕ) (cs : List Cell) (c : Cell) → length cs ≡ n → length (cs ++ c ∷ []) ≡ n + 1
more-cells n cs c e = length-append cs (c ∷ []) ∙ ap (λ z. z + 1) e

pub more_items : (m o : ℕ) (is js : List Item) → length is ≡ m → length js ≡ o → length (is ++ js) ≡ m + o
more_items m o is js e f = length-append is js ∙ rw (e, f)

module _ (s : List ℕ) (h0 : Result Hand Refusal) (d : Bool) (unit cr ir n m : ℕ) (cs : List Cell) (is : List Item) (fill : Bool) (u u' t t' : List ℕ)
    (a : length cs ≡ n) (b : length is ≡ m) (f : u' ≡ filled_cells fill u 0 cs) (g : t' ≡ filled fill t 0 is) where
  -- what ends the text gives the answer
  pub finished-cells : (y : ℕ) → ((q : ℕ) → EndRead s y (Ok q) → CellsDone s h0 d unit cr ir n m cs is) →
      ((j q : ℕ) → EndRead s y (Refused j q) → CellsNot s h0 d unit cr ir j q) → (r : Result Counts Refusal) → Finished s y n m r →
      CellsRead s h0 d unit cr ir fill u u' t t' r
  finished-cells y good ill (Ok counts) w = (cs, is, a ∙ sym w.0, b ∙ sym w.1, rw (w.0, w.1) (good w.2.0 w.2.1), f, g)
  finished-cells y good ill (Err why) w = (ill why.number why.place w, λ e. (f ∙ rw e, g ∙ rw e))
