-- WHERE A CELL STANDS: from the bracket right before its keyword to the bracket that finishes it. A text that is read, cut there.
-- Assumes nothing.
use Rattle.std.specs.Prelude.{◌≡◌, refl, Bool, true, false, List, [], ◌∷◌, ◌++◌, ◌⊎◌, ℕ, zero, suc, ◌+◌, ◌-◌, ◌<◌, eqb, length, get_or}
use Rattle.std.proofs.Common.{sym, ap, subst, ◌∙◌, true≢false, append-nil, append_assoc, inl, inr, ⊎_elim, not-suc-le-zero, arith, length-append, eqb-true}
use Rattle.std.proofs.Math.Option.{Option, none, some}
use Rattle.std.proofs.lemmas.List.{get_or_at}
use Rattle.classes.specs.Choice.{pick}
use Rattle.tokens.specs.Stream.{Placed}
use Rattle.grammar.specs.Ll.{non, Row, feeds, none≢some}
use Rattle.grammar.specs.Machine.{fine, fine_inj}
use Rattle.grammar.specs.Grammar.{Note, skip, heading, type, top, named, any, finish, edged, end, plain, empty, all, whole, close, Act, note, divide, scaled, unity, joined, cell, entry, time, Term, N, header, more, opens, closes, key, ◌‼◌, cell_tail, alts, fits, file}
use Rattle.grammar.specs.Grammar as G
use Rattle.grammar.specs.Meaning.{Book}
use Rattle.grammar.specs.Outcome.{Stack}
use Rattle.laws.specs.Walk.{walk, through, along_inv, kept_if, some_inj}
use Rattle.laws.specs.Phases.{leaves, turns, proper, moves, every, from, to, in_turn}
use Rattle.laws.specs.Sides.{a_file}
use Rattle.laws.specs.Taken.{As, Taken, terms, toks, tells, opens_cell, those, cell_words}
use Rattle.laws.proofs.Behind.{Fed, fed, fed_uncons, fed_split, tells-append, then_fine}
use Rattle.laws.specs.Log.{starts}
use Rattle.laws.proofs.Exactly.{Follows}
use Rattle.splice.proofs.Phases.{in_note, in_act, in_moves, in_cell_of, in_cell}
use Rattle.splice.proofs.OneCell.{Block}
use Rattle.splice.proofs.Blocks.{Takes, behind-keyword, cell_ends}
use Rattle.splice.proofs.Several.{those-append}
use Rattle.splice.proofs.Shape.{is_header, Shaped, Slashed, shape_walks, shape_steps, file_shaped, file_no_header}
use Rattle.splice.specs.Span.{closes_cell, cell_closes, cell_opens_of, stops, cell_from, cell_to, pair_up, taken_by, taken_of}

pair-up : (xs : List Taken) → pair_up (terms xs) (toks xs) ≡ xs
pair-up [] = refl
pair-up (x ∷ xs) = ap (λ (l : List Taken). x ∷ l) (pair-up xs)

-- these are the tokens of which the laws speak
pub taken_is : (a : As) (s : List ℕ) (xs : List Taken) → Follows a s xs → taken_of a.start s ≡ xs
unfolding taken_of
taken_is a s xs f =
    ap (λ (ts : List Placed). taken_by (feeds fits alts a.start ts) ts) (sym f.tokens)
    ∙ (ap (λ (o : Option (Row Term N)). taken_by o (toks xs)) (fed a.start xs f.carried) ∙ pair-up xs)

-- the n-th cell's keyword, counted from 0
nth-cell : (n : ℕ) (xs : List Taken) → n < length (cell_words xs) →
    (pre : List Taken) × (w : Taken) × (post : List Taken) × (xs ≡ pre ++ w ∷ post) × (length (cell_words pre) ≡ n) × (opens_cell w.by.act ≡ true)
nth-cell n [] h = absurd (not-suc-le-zero h)
nth-cell n (x ∷ xs) h = by (opens_cell x.by.act) refl n h (λ m k. nth-cell m xs k)
  where
    Goal : ℕ → Type 0
    Goal n =
        (pre : List Taken) × (w : Taken) × (post : List Taken) × (x ∷ xs ≡ pre ++ w ∷ post) × (length (cell_words pre) ≡ n) × (opens_cell w.by.act ≡ true)

    by : (v : Bool) → opens_cell x.by.act ≡ v → (n : ℕ) → n < length (pick v (x.tok ∷ cell_words xs) (cell_words xs)) →
        ((m : ℕ) → m < length (cell_words xs) →
        (pre : List Taken) × (w : Taken) × (post : List Taken) × (xs ≡ pre ++ w ∷ post) × (length (cell_words pre) ≡ m) × (opens_cell w.by.act ≡ true)) →
        Goal n
    by true e zero h ih = ([], x, xs, refl, refl, e)
    by true e (suc n) h ih =
        let (pre, w, post, f, g, i) = ih n (omega arith) in
        (x ∷ pre, w, post, ap (λ (l : List Taken). x ∷ l) f, rw e (ap suc g), i)
    by false e n h ih =
        let (pre, w, post, f, g, i) = ih n h in
        (x ∷ pre, w, post, ap (λ (l : List Taken). x ∷ l) f, rw e g, i)

-- the last of some tokens
last_of : (xs : List Taken) → (xs ≡ []) ⊎ ((hs : List Taken) × (o : Taken) × (xs ≡ hs ++ o ∷ []))
last_of [] = inl refl
last_of (x ∷ xs) =
    inr (⊎_elim (λ e. ([], x, ap (λ (l : List Taken). x ∷ l) e)) (λ (hs, o, e). (x ∷ hs, o, ap (λ (l : List Taken). x ∷ l) e)) (last_of xs))

-- A CELL OF A FILE: the tokens before it, its own, and those behind it; and what the reading waits for
pub record CellAt (xs : List Taken) (n : ℕ) (b : Book) : Type 0 where
  pub hs : List Taken
  pub o : Taken
  pub w : Taken
  pub cs : List Taken
  pub zs : List Taken
  pub l : Stack
  pub k : ℕ
  pub d : Bool
  pub split : xs ≡ hs ++ (o ∷ w ∷ (cs ++ zs))
  pub front : Fed file hs l
  pub opener : Takes l o (non (header k d) ∷ [])
  pub keyword : Takes (non (header k d) ∷ []) w (cell_tail d ++ non (more d) ∷ [])
  pub block : Block d o w cs
  pub rest : Fed (non (more d) ∷ []) zs []
  pub number : length (cell_words hs) ≡ n
  pub slash : (e : Book) → tells b (hs ++ o ∷ []) ≡ fine e → e.slash ≡ d

fed_end : (ss l : Stack) → Fed ss [] l → ss ≡ l
unfolding feeds
fed_end ss l e = ap (λ (r : Row Term N). r.left) (some_inj e)

pub no_cell_word : (o : Taken) (hs : List Taken) → o.by ≡ opens → length (cell_words (hs ++ o ∷ [])) ≡ length (cell_words hs)
no_cell_word o hs e =
    ap length (those-append opens_cell hs (o ∷ [])) ∙ rw e (ap length (append-nil (cell_words hs)))

-- a header's keyword is next behind an opening bracket
behind_opener : (pre : List Taken) (l1 : Stack) (b y : Book) → b.slash ≡ false → Fed file pre l1 → tells b pre ≡ fine y → is_header l1 ≡ true →
    (hs : List Taken) × (o : Taken) × (l : Stack) × (pre ≡ hs ++ o ∷ []) × Fed file hs l × Takes l o l1 × (o.by ≡ opens)
behind_opener pre l1 b y s f t h =
    ⊎_elim
    (λ e. absurd (true≢false (sym h ∙ (ap is_header (sym (fed_end file l1 (subst (λ (x : List Taken). Fed file x l1) e f))) ∙ file_no_header))))
    (λ (hs, o, e). by hs o e (subst (λ (x : List Taken). Fed file x l1) e f) (ap (tells b) (sym e) ∙ t)) (last_of pre)
  where
    by : (hs : List Taken) (o : Taken) → pre ≡ hs ++ o ∷ [] → Fed file (hs ++ o ∷ []) l1 → tells b (hs ++ o ∷ []) ≡ fine y →
        (hs : List Taken) × (o : Taken) × (l : Stack) × (pre ≡ hs ++ o ∷ []) × Fed file hs l × Takes l o l1 × (o.by ≡ opens)
    by hs o e f t =
        let (l, g, k) = fed_split file hs (o ∷ []) l1 f in
        let (m, i, j) = fed_uncons l o [] l1 k in
        let (x, u, v) = then_fine (tells b hs) (λ z. tells z (o ∷ [])) y (sym (tells-append b hs (o ∷ [])) ∙ t) in
        let (q, p, r) = shape_walks hs file l b x (subst (λ (z : Bool). Shaped file z) (sym s) file_shaped) g u in
        let n : Takes l o l1 = subst (λ (z : Stack). Takes l o z) (fed_end m l1 j) i in
        (hs, o, l, e, g, n, (shape_steps q l l1 o p n).word h)

pub cell-at : (xs : List Taken) (n : ℕ) (b e : Book) → n < length (cell_words xs) → b.slash ≡ false → Fed file xs [] → tells b xs ≡ fine e → CellAt xs n b
cell-at xs n b e h s f t =
    let (pre, w, post, i, j, k) = nth-cell n xs h in
    by pre w post i j k (subst (λ (x : List Taken). Fed file x []) i f) (ap (tells b) (sym i) ∙ t)
  where
    there : (pre : List Taken) (w : Taken) (post : List Taken) → xs ≡ pre ++ w ∷ post → length (cell_words pre) ≡ n → (y : Book) → tells b pre ≡ fine y →
        (k : ℕ) (d : Bool) → y.slash ≡ d → w.by ≡ key 53 ‼ cell → Fed file pre (non (header k d) ∷ []) →
        Takes (non (header k d) ∷ []) w (cell_tail d ++ non (more d) ∷ []) → Fed (cell_tail d ++ non (more d) ∷ []) post [] → CellAt xs n b
    there pre w post i j y t k d sl wk f g r =
        let (hs, o, l, e, p, q, ob) = behind_opener pre (non (header k d) ∷ []) b y s f t refl in
        let (cs, zs, e2, fc, fz) = behind-keyword d post r in
        record {
          hs = hs;
          o = o;
          w = w;
          cs = cs;
          zs = zs;
          l = l;
          k = k;
          d = d;
          split = i ∙ (ap (λ (x : List Taken). x ++ w ∷ post) e ∙ (append_assoc hs (o ∷ []) (w ∷ post) ∙ ap (λ (x : List Taken). hs ++ (o ∷ w ∷ x)) e2));
          front = p;
          opener = q;
          keyword = g;
          block = record { opener = ob; keyword = wk; rest = fc };
          rest = fz;
          number = sym (no_cell_word o hs ob) ∙ (ap (λ (x : List Taken). length (cell_words x)) (sym e) ∙ j);
          slash = λ z u. ap (λ (x : Book). x.slash) (fine_inj (sym u ∙ (ap (tells b) (sym e) ∙ t))) ∙ sl;
        }

    by : (pre : List Taken) (w : Taken) (post : List Taken) → xs ≡ pre ++ w ∷ post → length (cell_words pre) ≡ n → opens_cell w.by.act ≡ true →
        Fed file (pre ++ w ∷ post) [] → tells b (pre ++ w ∷ post) ≡ fine e → CellAt xs n b
    by pre w post i j k f t =
        let (l1, p, q) = fed_split file pre (w ∷ post) [] f in
        let (m, r, u) = fed_uncons l1 w post [] q in
        let (y, v, _) = then_fine (tells b pre) (λ z. tells z (w ∷ post)) e (sym (tells-append b pre (w ∷ post)) ∙ t) in
        let (o, sh, sl) = shape_walks pre file l1 b y (subst (λ (z : Bool). Shaped file z) (sym s) file_shaped) p v in
        let c = (shape_steps o l1 m w sh r).cell k in
        let r' : Takes (non (header c.k c.d) ∷ []) w m = subst (λ (z : Stack). Takes z w m) c.before r in
        there pre w post i j y v c.k c.d (subst (λ (z : Option Bool). Slashed z y.slash) c.divider sl) c.term
        (subst (λ (z : Stack). Fed file pre z) c.before p) (subst (λ (z : Stack). Takes (non (header c.k c.d) ∷ []) w z) c.behind r')
        (subst (λ (z : Stack). Fed z post []) c.behind u)

-- COUNTING: one closing bracket for each keyword, but for the cell in hand
abbrev inside : ℕ → ℕ
inside q = pick (eqb q 0) 0 1

abbrev one_if : Bool → ℕ
one_if v = pick v 1 0

abbrev Counted : Act → ℕ → ℕ → Type 0
Counted x q p = one_if (closes_cell x) + inside p ≡ one_if (opens_cell x) + inside q

stay : (x : Act) (q p : ℕ) → closes_cell x ≡ false → opens_cell x ≡ false → some q ≡ some p → Counted x q p
stay x q p a b e = rw (a, b) (ap (λ (z : ℕ). 0 + inside z) (sym (some_inj e)))

turn : (x : Act) (q k p r : ℕ) → Counted x k r → pick (eqb q k) (some r) none ≡ some p → Counted x q p
turn x q k p r h e =
    let (v, f) = kept_if (eqb q k) (some r) p e in
    subst (λ (z : ℕ). Counted x z p) (sym (eqb-true q k v)) (subst (λ (z : ℕ). Counted x k z) (some_inj f) h)

note_counted : (n : Note) (q p : ℕ) → leaves q n ≡ some p → Counted (note n) q p
note_counted skip q p e = stay (note skip) q p refl refl e
note_counted (heading k) q p e = stay (note (heading k)) q p refl refl e
note_counted type q p e = stay (note type) q p refl refl e
note_counted top q p e = stay (note top) q p refl refl e
note_counted named q p e = stay (note named) q p refl refl e
note_counted any q p e = stay (note any) q p refl refl e
note_counted finish q p e = turn (note finish) q 1 p 0 refl e
note_counted (edged i) q p e = stay (note (edged i)) q p refl refl e
note_counted (end i) q p e = stay (note (end i)) q p refl refl e
note_counted (plain i) q p e = stay (note (plain i)) q p refl refl e
note_counted G.none q p e = stay (note G.none) q p refl refl e
note_counted empty q p e = stay (note empty) q p refl refl e
note_counted all q p e = stay (note all) q p refl refl e
note_counted whole q p e = stay (note whole) q p refl refl e
note_counted close q p e = turn (note close) q 2 p 1 refl e

act_counted : (x : Act) (q p : ℕ) → turns q x ≡ some p → Counted x q p
act_counted (note n) q p e = note_counted n q p e
act_counted (divide d) q p e = stay (divide d) q p refl refl e
act_counted scaled q p e = stay scaled q p refl refl e
act_counted unity q p e = stay unity q p refl refl e
act_counted joined q p e = stay joined q p refl refl e
act_counted cell q p e = turn cell q 0 p 1 refl e
act_counted (entry g) q p e = turn (entry g) q 1 p 2 refl e
act_counted (time s k) q p e = stay (time s k) q p refl refl e

those-one : (f : Act → Bool) (x : Taken) (xs : List Taken) → length (those f (x ∷ xs)) ≡ one_if (f x.by.act) + length (those f xs)
those-one f x xs = by (f x.by.act)
  where
    by : (v : Bool) → length (pick v (x.tok ∷ those f xs) (those f xs)) ≡ one_if v + length (those f xs)
    by true = omega arith
    by false = omega arith

closes_counted : (xs : List Taken) (q p : ℕ) → through moves every from to q (terms xs) ≡ some p →
    length (cell_closes xs) + inside p ≡ length (cell_words xs) + inside q
unfolding through
closes_counted [] q p e = ap (λ (z : ℕ). 0 + inside z) (sym (some_inj e))
closes_counted (x ∷ xs) q p e =
    let (o, i, j) = along_inv (moves q x.by) _ p e in
    let y = act_counted x.by.act q o (kept_if (proper x.by.cls x.by.act) _ o i).1 in
    let z = closes_counted xs o p j in
    omega (arith, those-one closes_cell x xs, those-one opens_cell x xs)

-- inside a cell there is no other keyword
in_note_counted : (n : Note) (q p : ℕ) → in_note q n ≡ some p → Counted (note n) q p
in_note_counted skip q p e = stay (note skip) q p refl refl e
in_note_counted (heading k) q p e = absurd (none≢some p e)
in_note_counted type q p e = turn (note type) q 1 p 1 refl e
in_note_counted top q p e = turn (note top) q 1 p 1 refl e
in_note_counted named q p e = turn (note named) q 1 p 1 refl e
in_note_counted any q p e = turn (note any) q 1 p 1 refl e
in_note_counted finish q p e = turn (note finish) q 1 p 0 refl e
in_note_counted (edged i) q p e = turn (note (edged i)) q 2 p 2 refl e
in_note_counted (end i) q p e = turn (note (end i)) q 2 p 2 refl e
in_note_counted (plain i) q p e = turn (note (plain i)) q 2 p 2 refl e
in_note_counted G.none q p e = turn (note G.none) q 2 p 2 refl e
in_note_counted empty q p e = turn (note empty) q 2 p 2 refl e
in_note_counted all q p e = turn (note all) q 2 p 2 refl e
in_note_counted whole q p e = turn (note whole) q 2 p 2 refl e
in_note_counted close q p e = turn (note close) q 2 p 1 refl e

in_act_counted : (x : Act) (q p : ℕ) → in_act q x ≡ some p → Counted x q p × (opens_cell x ≡ false)
in_act_counted (note n) q p e = (in_note_counted n q p e, refl)
in_act_counted (divide d) q p e = absurd (none≢some p e)
in_act_counted scaled q p e = absurd (none≢some p e)
in_act_counted unity q p e = absurd (none≢some p e)
in_act_counted joined q p e = absurd (none≢some p e)
in_act_counted cell q p e = absurd (none≢some p e)
in_act_counted (entry g) q p e = (turn (entry g) q 1 p 2 refl e, refl)
in_act_counted (time s k) q p e = (turn (time s k) q 2 p 2 refl e, refl)

in_counted : (xs : List Taken) (q p : ℕ) → through in_moves in_cell_of from to q (terms xs) ≡ some p →
    (length (cell_closes xs) + inside p ≡ inside q) × (length (cell_words xs) ≡ 0)
unfolding through
in_counted [] q p e = (ap (λ (z : ℕ). 0 + inside z) (sym (some_inj e)) ∙ omega arith, refl)
in_counted (x ∷ xs) q p e =
    let (o, i, j) = along_inv (in_moves q x.by) _ p e in
    let (y, v) = in_act_counted x.by.act q o i in
    let y' = rw v at y in
    let (z, u) = in_counted xs o p j in
    let c = those-one closes_cell x xs in
    let k : length (cell_words (x ∷ xs)) ≡ 0 = rw v u in
    (omega arith, k)

-- a cell's tokens behind its keyword: one bracket finishes it, the last
pub record Tail (cs : List Taken) : Type 0 where
  pub ms : List Taken
  pub x : Taken
  pub split : cs ≡ ms ++ x ∷ []
  pub last : x.by ≡ closes finish
  pub closes : cell_closes cs ≡ x.tok ∷ []
  pub words : length (cell_words cs) ≡ 0

none_of : {A : Type 0} (l : List A) → length l ≡ 0 → l ≡ []
none_of [] e = refl
none_of (a ∷ l) e = absurd (omega arith)

pub tail_of : (d : Bool) (cs : List Taken) → Fed (cell_tail d) cs [] → Tail cs
tail_of d cs f =
    let (ms, x, e, l) = cell_ends d cs f in
    let (u, v) = in_counted cs 1 0 (in_cell d (toks cs) (terms cs) f) in
    let y : cell_closes cs ≡ cell_closes ms ++ x.tok ∷ [] = ap cell_closes e ∙ (those-append closes_cell ms (x ∷ []) ∙ rw l) in
    let n : length (cell_closes ms) ≡ 0 = omega (arith, ap length y, length-append (cell_closes ms) (x.tok ∷ [])) in
    record { ms = ms; x = x; split = e; last = l; closes = y ∙ rw (none_of (cell_closes ms) n); words = v }

-- THE PLACES, from the tokens
starts-append : (l m : List Placed) → starts (l ++ m) ≡ starts l ++ starts m
starts-append [] m = refl
starts-append (t ∷ l) m = ap (λ (x : List ℕ). t.start ∷ x) (starts-append l m)

stops-append : (l m : List Placed) → stops (l ++ m) ≡ stops l ++ stops m
stops-append [] m = refl
stops-append (t ∷ l) m = ap (λ (x : List ℕ). t.end ∷ x) (stops-append l m)

pub starts-length : (l : List Placed) → length (starts l) ≡ length l
starts-length [] = refl
starts-length (t ∷ l) = ap suc (starts-length l)

stops-length : (l : List Placed) → length (stops l) ≡ length l
stops-length [] = refl
stops-length (t ∷ l) = ap suc (stops-length l)

opens-append : (hs : List Taken) (o w : Taken) (r : List Taken) → opens_cell w.by.act ≡ true →
    cell_opens_of (hs ++ (o ∷ w ∷ r)) ≡ cell_opens_of (hs ++ o ∷ []) ++ (o.tok ∷ cell_opens_of (w ∷ r))
opens-append [] o w r e = rw e
opens-append (h ∷ []) o w r e = rw e (by (opens_cell o.by.act))
  where
    by : (v : Bool) → pick v (h.tok ∷ (o.tok ∷ cell_opens_of (w ∷ r))) (o.tok ∷ cell_opens_of (w ∷ r)) ≡ pick v (h.tok ∷ []) [] ++ (o.tok ∷ cell_opens_of (w ∷ r))
    by true = refl
    by false = refl
opens-append (h ∷ (g ∷ hs)) o w r e = by (opens_cell g.by.act) (opens-append (g ∷ hs) o w r e)
  where
    by : (v : Bool) → cell_opens_of (g ∷ (hs ++ (o ∷ w ∷ r))) ≡ cell_opens_of (g ∷ (hs ++ o ∷ [])) ++ (o.tok ∷ cell_opens_of (w ∷ r)) →
        pick v (h.tok ∷ cell_opens_of (g ∷ (hs ++ (o ∷ w ∷ r)))) (cell_opens_of (g ∷ (hs ++ (o ∷ w ∷ r))))
        ≡ pick v (h.tok ∷ cell_opens_of (g ∷ (hs ++ o ∷ []))) (cell_opens_of (g ∷ (hs ++ o ∷ []))) ++ (o.tok ∷ cell_opens_of (w ∷ r))
    by true f = ap (λ (l : List Placed). h.tok ∷ l) f
    by false f = f

opens_counted : (x : Taken) (xs : List Taken) → length (cell_opens_of (x ∷ xs)) ≡ length (cell_words xs)
opens_counted x [] = refl
opens_counted x (y ∷ xs) = by (opens_cell y.by.act) (opens_counted y xs)
  where
    by : (v : Bool) → length (cell_opens_of (y ∷ xs)) ≡ length (cell_words xs) →
        length (pick v (x.tok ∷ cell_opens_of (y ∷ xs)) (cell_opens_of (y ∷ xs))) ≡ length (pick v (y.tok ∷ cell_words xs) (cell_words xs))
    by true e = ap suc e
    by false e = e

-- the tokens before the cell begin with a bracket
abbrev pub Begins : List Taken → Type 0
Begins [] = Unit {0}
Begins (x ∷ xs) = x.by ≡ opens

opens_before : (hs : List Taken) (o : Taken) → Begins hs → o.by ≡ opens → length (cell_opens_of (hs ++ o ∷ [])) ≡ length (cell_words hs)
opens_before [] o b e = refl
opens_before (h ∷ hs) o b e =
    opens_counted h (hs ++ o ∷ []) ∙ (no_cell_word o hs e ∙ rw b)

pub from_at : (hs : List Taken) (o w : Taken) (r : List Taken) (n : ℕ) → Begins hs → o.by ≡ opens → w.by ≡ key 53 ‼ cell → length (cell_words hs) ≡ n →
    cell_from (suc n) (hs ++ (o ∷ w ∷ r)) ≡ o.tok.start
unfolding cell_from
from_at hs o w r n b e f h =
    let k : suc n - 1 ≡ n = omega arith in
    let g : opens_cell w.by.act ≡ true = rw f in
    rw k (ap (λ (l : List Placed). get_or (starts l) n 0) (opens-append hs o w r g)
    ∙ (ap (λ (l : List ℕ). get_or l n 0) (starts-append (cell_opens_of (hs ++ o ∷ [])) (o.tok ∷ cell_opens_of (w ∷ r)))
    ∙ get_or_at (starts (cell_opens_of (hs ++ o ∷ []))) o.tok.start (starts (cell_opens_of (w ∷ r))) 0 n
    (starts-length (cell_opens_of (hs ++ o ∷ [])) ∙ (opens_before hs o b e ∙ h))))

pub to_at : (hs : List Taken) (o w : Taken) (cs zs : List Taken) (n : ℕ) (t : Tail cs) → o.by ≡ opens → w.by ≡ key 53 ‼ cell →
    length (cell_closes hs) ≡ n → cell_to (suc n) (hs ++ (o ∷ w ∷ (cs ++ zs))) ≡ t.x.tok.end
unfolding cell_to
to_at hs o w cs zs n t e f h =
    let k : suc n - 1 ≡ n = omega arith in
    let g : cell_closes (o ∷ w ∷ (cs ++ zs)) ≡ t.x.tok ∷ cell_closes zs =
    rw (e, f) (those-append closes_cell cs zs ∙ ap (λ (l : List Placed). l ++ cell_closes zs) t.closes) in
    rw k (ap (λ (l : List Placed). get_or (stops l) n 0) (those-append closes_cell hs (o ∷ w ∷ (cs ++ zs)) ∙ ap (λ (l : List Placed). cell_closes hs ++ l) g)
    ∙ (ap (λ (l : List ℕ). get_or l n 0) (stops-append (cell_closes hs) (t.x.tok ∷ cell_closes zs))
    ∙ get_or_at (stops (cell_closes hs)) t.x.tok.end (stops (cell_closes zs)) 0 n (stops-length (cell_closes hs) ∙ h)))

-- before a cell of a file as many cells are finished as were begun
walk-zero : (p k : ℕ) (d : Bool) → walk moves every from to p (non (header k d) ∷ []) ≡ some 0 → p ≡ 0
unfolding walk
walk-zero p k d e =
    let (o, i, j) = along_inv (pick (eqb p 0) (some 0) none) (λ x. some x) 0 e in
    eqb-true p 0 (kept_if (eqb p 0) (some 0) o i).0

pub outside_there : (xs : List Taken) (k : ℕ) (d : Bool) → Fed file xs (non (header k d) ∷ []) → through moves every from to 0 (terms xs) ≡ some 0
outside_there xs k d f =
    let (p, a, b) = in_turn a_file (toks xs) _ f in
    a ∙ ap (λ (x : ℕ). some x) (walk-zero p k d b)

pub closes_there : (hs : List Taken) (o : Taken) (k : ℕ) (d : Bool) → o.by ≡ opens → Fed file (hs ++ o ∷ []) (non (header k d) ∷ []) →
    length (cell_closes hs) ≡ length (cell_words hs)
closes_there hs o k d e f =
    let z = closes_counted (hs ++ o ∷ []) 0 0 (outside_there (hs ++ o ∷ []) k d f) in
    let y : length (cell_closes (hs ++ o ∷ [])) ≡ length (cell_closes hs) =
    ap length (those-append closes_cell hs (o ∷ [])) ∙ rw e (ap length (append-nil (cell_closes hs))) in
    omega (arith, no_cell_word o hs e)
