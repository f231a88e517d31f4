-- 'The incoming text is one cell': what a patch's text leaves is one cell, read with the file's divider and time scale to its end.
-- Assumes nothing.
use Rattle.std.specs.Prelude.{◌≡◌, refl, Bool, true, false, ℕ, ◌+◌, eqb, ltb, length, ℤ, Result, Ok, Err}
use Rattle.std.proofs.Common.{sym, ap, subst, ◌∙◌, true≢false, arith}
use mathlib.Core.List.{List, [], ◌∷◌, nil≢cons}
use Rattle.std.proofs.Math.Option.{none, some}
use Rattle.classes.specs.Choice.{pick}
use Rattle.tokens.specs.Stream.{Placed}
use Rattle.numbershape.specs.Value.{number_of}
use Rattle.numbershape.specs.declared.NotTime.{NotTime}
use Rattle.grammar.specs.declared.Cell.{Cell}
use Rattle.grammar.specs.Ll.{lit, non, Took, Row, feed, feeds, none≢some}
use Rattle.grammar.specs.Machine.{fine, bad, fine_inj, judges}
use Rattle.grammar.specs.Grammar.{
  Cls,
  Act,
  note,
  divide,
  scaled,
  unity,
  joined,
  cell,
  entry,
  time,
  Term,
  N,
  header,
  timescale,
  bare,
  bare1,
  bare2,
  bare3,
  value,
  first,
  second,
  third,
  more,
  instance,
  specs,
  spec,
  deltype,
  deltypes,
  checks,
  delays,
  delay,
  device,
  check,
  end?,
  values,
  ◌⇒◌,
  ◌∣◌,
  ◌‼◌,
  opens,
  closes,
  close,
  key,
  cell_tail,
  alts,
  fits,
  one_cell_of,
}
use Rattle.grammar.specs.Grammar as G
use Rattle.grammar.specs.Meaning.{Book, overlong, refused≢fine, timed, judge, judge_by}
use Rattle.grammar.specs.Reading.{At}
use Rattle.grammar.specs.Outcome.{Stack, read_cell_of}
use Rattle.laws.specs.Walk.{some_inj}
use Rattle.laws.specs.Sides.{a_cell}
use Rattle.laws.specs.Taken.{as_cell, starting, cell-is, Taken, tells, opens_cell, cell_words}
use Rattle.laws.proofs.Judged.{pick_fine}
use Rattle.laws.proofs.Behind.{then_fine, Fed, fed, fed_uncons}
use Rattle.laws.proofs.Exactly.{follows, says}
use Rattle.sound.specs.Coming.{passes, agree, taken-passes}

-- behind a cell's keyword: no cell more, and nothing of the header
abbrev inner : Act → Bool
inner (note n) = true
inner (divide d) = false
inner scaled = false
inner unity = false
inner joined = false
inner cell = false
inner (entry g) = true
inner (time s k) = true

abbrev inside : N → Bool
inside (header k d) = false
inside G.divider = false
inside timescale = false
inside bare = false
inside bare1 = false
inside (bare2 f) = false
inside (bare3 f) = false
inside (value s) = true
inside (first s) = true
inside (second f s) = true
inside (third f s) = true
inside (more d) = false
inside (instance d) = true
inside (specs d) = true
inside (spec d) = true
inside (deltype d) = true
inside (deltypes f d) = true
inside (checks f d) = true
inside (delays g f d) = true
inside (delay g d) = true
inside (device d) = true
inside (check d) = true
inside (end? i d) = true
inside (values n) = true

-- THE TEST: each alternative of a place inside a cell
table : (n : N) → inside n ≡ true → agree inner inside (alts n) ≡ true
unfolding alts
table (header k d) e = absurd (true≢false (sym e))
table G.divider e = absurd (true≢false (sym e))
table timescale e = absurd (true≢false (sym e))
table bare e = absurd (true≢false (sym e))
table bare1 e = absurd (true≢false (sym e))
table (bare2 f) e = absurd (true≢false (sym e))
table (bare3 f) e = absurd (true≢false (sym e))
table (value s) e = refl
table (first s) e = refl
table (second f s) e = refl
table (third true s) e = refl
table (third false s) e = refl
table (more d) e = absurd (true≢false (sym e))
table (instance d) e = refl
table (specs d) e = refl
table (spec d) e = refl
table (deltype d) e = refl
table (deltypes true d) e = refl
table (deltypes false d) e = refl
table (checks true d) e = refl
table (checks false d) e = refl
table (delays g true d) e = refl
table (delays g false d) e = refl
table (delay g d) e = refl
table (device d) e = refl
table (check d) e = refl
table (end? i d) e = refl
table (values n) e = by (ltb n 6)
  where
    by : (v : Bool) → agree inner inside (closes close ⇒ [] ∣ (pick v (opens ⇒ non (value true) ∷ non (values (n + 1)) ∷ [] ∣ []) [])) ≡ true
    by true = refl
    by false = refl

-- a token that neither divides nor rescales
abbrev Keeps : Book → Book → Type 0
Keeps b d = (d.slash ≡ b.slash) × (d.unit ≡ b.unit)

keeps_then : (b c d : Book) → Keeps b c → Keeps c d → Keeps b d
keeps_then b c d (h, i) (j, k) = (j ∙ h, k ∙ i)

simply : (c : Cls) (t : Placed) (b d₀ d : Book) → Keeps b d₀ → pick (overlong c t) (bad 8 t.start) (fine d₀) ≡ fine d → Keeps b d
simply c t b d₀ d h e = subst (Keeps b) (fine_inj (pick_fine (overlong c t) 8 t.start (fine d₀) d e).1) h

cell_keeps : (b : Book) (c : Cls) (t : Placed) (d : Book) → judge_by b c cell t ≡ fine d → Keeps b d
cell_keeps b c t d e =
    let (v, f) = pick_fine (overlong c t) 8 t.start _ d e in
    let (r, i) = pick_fine (eqb b.cell_room 0) 9 t.start _ d f in
    subst (Keeps b) (fine_inj i) (refl, refl)

inner_keeps : (b : Book) (c : Cls) (a : Act) (t : Placed) (d : Book) → inner a ≡ true → judge_by b c a t ≡ fine d → Keeps b d
inner_keeps b c (note n) t d g e = simply c t b _ d (refl, refl) e
inner_keeps b c (divide w) t d g e = absurd (true≢false (sym g))
inner_keeps b c scaled t d g e = absurd (true≢false (sym g))
inner_keeps b c unity t d g e = absurd (true≢false (sym g))
inner_keeps b c joined t d g e = absurd (true≢false (sym g))
inner_keeps b c cell t d g e = absurd (true≢false (sym g))
inner_keeps b c (entry k) t d g e =
    let (v, f) = pick_fine (overlong c t) 8 t.start _ d e in
    let (r, i) = pick_fine (eqb b.item_room 0) 9 t.start _ d f in
    subst (Keeps b) (fine_inj i) (refl, refl)
inner_keeps b c (time s k) t d g e = by (number_of s b.unit t.bytes) e
  where
    by : (v : Result ℤ NotTime) → timed b c k t v ≡ fine d → Keeps b d
    by (Ok z) e = simply c t b _ d (refl, refl) e
    by (Err y) e = absurd (refused≢fine b c k t y e)

inner_word : (a : Act) → inner a ≡ true → opens_cell a ≡ false
inner_word (note n) g = refl
inner_word (divide w) g = refl
inner_word scaled g = refl
inner_word unity g = refl
inner_word joined g = refl
inner_word cell g = absurd (true≢false (sym g))
inner_word (entry k) g = refl
inner_word (time s k) g = refl

-- ALL TOKENS behind the keyword
rest_keeps : (xs : List Taken) (ss l : Stack) (b d : Book) → passes inner inside ss ≡ true → Fed ss xs l → tells b xs ≡ fine d →
    (cell_words xs ≡ []) × Keeps b d
unfolding judges
rest_keeps [] ss l b d g f e = (refl, subst (Keeps b) (fine_inj e) (refl, refl))
rest_keeps (x ∷ xs) ss l b d g f e =
    let (k, u, v) = fed_uncons ss x xs l f in
    let (w, y) = taken-passes inner inside table ss x.tok _ g u in
    let (c, z, r) = then_fine (judge b x.by x.tok) (λ y. tells y xs) d e in
    let (i, j) = rest_keeps xs k l c d y v r in
    (rw (inner_word x.by.act w) i, keeps_then b c d (inner_keeps b x.by.cls x.by.act x.tok c w z) j)

-- a terminal that is waited for
awaited : (c : Term) (ss : Stack) (t : Placed) (w : Took Term N) → feed fits alts (lit c ∷ ss) t ≡ some w → (c ≡ w.by) × (ss ≡ w.left)
awaited c ss t w e = by (fits c t) e
  where
    by : (v : Bool) → pick v (some (record { by = c; left = ss })) none ≡ some w → (c ≡ w.by) × (ss ≡ w.left)
    by true e = (ap (λ (x : Took Term N). x.by) (some_inj e), ap (λ (x : Took Term N). x.left) (some_inj e))
    by false e = absurd (none≢some w e)

-- something waited for has to come
comes : (c : Term) (ss : Stack) → Fed (lit c ∷ ss) [] [] → ⊥
unfolding feeds
comes c ss e = nil≢cons (sym (ap (λ (x : Row Term N). x.left) (some_inj e)))

-- of a cell whole: its keyword, and no other cell's; the divider and the scale stay
cell_keeps_all : (s : Bool) (xs : List Taken) (b d : Book) → Fed (one_cell_of s) xs [] → tells b xs ≡ fine d →
    (length (cell_words xs) ≡ 1) × Keeps b d
unfolding one_cell_of judges
cell_keeps_all s [] b d f e = absurd (comes opens _ f)
cell_keeps_all s (x ∷ []) b d f e =
    let (k, u, v) = fed_uncons _ x [] [] f in
    let (i, j) = awaited opens (lit (key 53 ‼ cell) ∷ cell_tail s) x.tok _ u in
    absurd (comes (key 53 ‼ cell) (cell_tail s) (subst (λ (l : Stack). Fed l [] []) (sym j) v))
cell_keeps_all s (x ∷ y ∷ xs) b d f e =
    let (k, u, v) = fed_uncons _ x (y ∷ xs) [] f in
    let (i, j) = awaited opens (lit (key 53 ‼ cell) ∷ cell_tail s) x.tok _ u in
    let (m, g, h) = fed_uncons _ y xs [] (subst (λ (l : Stack). Fed l (y ∷ xs) []) (sym j) v) in
    let (o, p) = awaited (key 53 ‼ cell) (cell_tail s) y.tok _ g in
    let (b1, z, r) = then_fine (judge b x.by x.tok) (λ c. tells c (y ∷ xs)) d e in
    let (b2, q, t) = then_fine (judge b1 y.by y.tok) (λ c. tells c xs) d r in
    let (w, n) = rest_keeps xs (cell_tail s) [] b2 d refl (subst (λ (l : Stack). Fed l xs []) (sym p) h) t in (
      rw (← i, ← o, w),
      keeps_then b b1 d (inner_keeps b opens.cls opens.act x.tok b1 refl (subst (λ (c : Term). judge b c x.tok ≡ fine b1) (sym i) z))
          (keeps_then b1 b2 d (cell_keeps b1 (key 53) y.tok b2 (subst (λ (c : Term). judge b1 c y.tok ≡ fine b2) (sym o) q)) n),
    )

single : (cs : List Cell) → length cs ≡ 1 → (c : Cell) × (cs ≡ c ∷ [])
single [] e = absurd (omega arith)
single (c ∷ []) e = (c, refl)
single (c ∷ d ∷ cs) e = absurd (omega arith)

-- ONE CELL is what a patch's text leaves
pub one_cell : (slash : Bool) (unit cr ir : ℕ) (s : List ℕ) (st : At) → read_cell_of slash unit cr ir s ≡ fine st →
    (c : Cell) × (st.book.log.cells ≡ c ∷ [])
one_cell slash unit cr ir s st e =
    let a = as_cell slash unit cr ir in
    let g = sym (cell-is slash unit cr ir s) ∙ e in
    let (xs, f) = follows a (a_cell slash) s st g in
    let t = says a (a_cell slash) s st xs g f in
    let (n, k) = cell_keeps_all slash xs (starting a).book st.book (fed (one_cell_of slash) xs f.carried) t.told in
    single st.book.log.cells (t.cell_count ∙ n)

-- 'read with the file's divider and time scale': they are the same at its end
pub cell_slash : (slash : Bool) (unit cr ir : ℕ) (s : List ℕ) (st : At) → read_cell_of slash unit cr ir s ≡ fine st →
    (st.book.slash ≡ slash) × (st.book.unit ≡ unit)
cell_slash slash unit cr ir s st e =
    let a = as_cell slash unit cr ir in
    let g = sym (cell-is slash unit cr ir s) ∙ e in
    let (xs, f) = follows a (a_cell slash) s st g in
    let t = says a (a_cell slash) s st xs g f in
    (cell_keeps_all slash xs (starting a).book st.book (fed (one_cell_of slash) xs f.carried) t.told).1
