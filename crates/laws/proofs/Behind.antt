-- What is known behind tokens that passed, in the laws' words; and the machine's state there.
-- Assumes nothing.
use Rattle.std.specs.Prelude.{◌≡◌, refl, Bool, true, false, ℕ, ◌+◌, ◌-◌, ◌≤◌, eqb, length}
use Rattle.std.proofs.Common.{sym, ap, subst, ◌∙◌, zero-le, arith}
use mathlib.Core.List.{List, [], ◌∷◌, ◌++◌, head-eq_of_cons-eq, tail-eq_of_cons-eq}
use Rattle.std.proofs.Math.Option.{Option, none, some}
use Rattle.classes.specs.Choice.{pick}
use Rattle.tokens.specs.Stream.{Placed}
use Rattle.grammar.specs.Ll.{Row, Took, feed, feeds, onward, before_inv, none≢some, complete}
use Rattle.grammar.specs.Machine.{Res, fine, bad, ◌then◌, fine_inj, bad≢fine, judges, splits, joins}
use Rattle.grammar.specs.Grammar.{Act, Term, N, alts, fits}
use Rattle.grammar.specs.Meaning.{Book, judge, wrong}
use Rattle.grammar.specs.Reading.{At, runs}
use Rattle.grammar.specs.Outcome.{Stack}
use Rattle.laws.specs.Walk.{some_inj}
use Rattle.laws.specs.Sides.{Whole, sdf_apart, sdf_complete, sdf_ends}
use Rattle.laws.specs.Taken.{As, starting, Taken, terms, toks, Carried, tells, scale_behind, opens_cell, opens_entry, those, cell_words, entry_words, Amiss, broken, beyond, long, no_cell, no_entry}
use Rattle.laws.proofs.Judged.{passed}

pub tells-append : (b : Book) (xs ys : List Taken) → tells b (xs ++ ys) ≡ tells b xs then (λ d. tells d ys)
unfolding judges
tells-append b [] ys = refl
tells-append b (x ∷ xs) ys = by (judge b x.by x.tok) (λ d. tells-append d xs ys)
  where
    by : (r : Res Book) → ((d : Book) → tells d (xs ++ ys) ≡ tells d xs then (λ e. tells e ys)) →
        (r then (λ d. tells d (xs ++ ys))) ≡ ((r then (λ d. tells d xs)) then (λ e. tells e ys))
    by (fine d) ih = ih d
    by (bad n q) ih = refl

pub then_fine : {S T : Type 0} (r : Res S) (f : S → Res T) (z : T) → (r then f) ≡ fine z → (x : S) × (r ≡ fine x) × (f x ≡ fine z)
then_fine (fine x) f z e = (x, refl, e)
then_fine (bad n q) f z e = absurd (bad≢fine e)

-- whether the last token is an opening bracket
abbrev pub opened_behind : Bool → List Placed → Bool
opened_behind o [] = o
opened_behind o (t ∷ ts) = opened_behind (eqb t.kind 2) ts

pub record Behind (b : Book) (xs : List Taken) (d : Book) : Type 0 where
  pub unit : d.unit ≡ scale_behind b.unit xs
  pub cells : d.cell_room ≡ b.cell_room - length (cell_words xs)
  pub cells_fit : length (cell_words xs) ≤ b.cell_room
  pub entries : d.item_room ≡ b.item_room - length (entry_words xs)
  pub entries_fit_of : length (entry_words xs) ≤ b.item_room
  pub opened : d.opened ≡ opened_behind b.opened (toks xs)

pub those-cons : (f : Act → Bool) (x : Taken) (xs : List Taken) → length (those f (x ∷ xs)) ≡ length (those f (x ∷ [])) + length (those f xs)
those-cons f x xs = by (f x.by.act)
  where
    by : (v : Bool) → length (pick v (x.tok ∷ those f xs) (those f xs)) ≡ length (pick v (x.tok ∷ []) []) + length (those f xs)
    by true = omega arith
    by false = omega arith

one_of : (f : Act → Bool) (x : Taken) (n : ℕ) → (f x.by.act ≡ true → 1 ≤ n) → length (those f (x ∷ [])) ≤ n
one_of f x n h = by (f x.by.act) h
  where
    by : (v : Bool) → (v ≡ true → 1 ≤ n) → length (pick v (x.tok ∷ []) []) ≤ n
    by true h = h refl
    by false h = zero-le

rooms : (room left rest n m k : ℕ) → left ≡ room - n → n ≤ room → rest ≡ left - m → m ≤ left → k ≡ n + m → (rest ≡ room - k) × (k ≤ room)
rooms room left rest n m k a b c d e = (omega arith, omega arith)

-- WHAT IS KNOWN behind tokens that passed
pub behind : (xs : List Taken) (b d : Book) → tells b xs ≡ fine d → Behind b xs d
unfolding judges
behind [] b d e =
    subst (λ (x : Book). Behind b [] x) (fine_inj e)
    (record { unit = refl; cells = omega arith; cells_fit = zero-le; entries = omega arith; entries_fit_of = zero-le; opened = refl })
behind (x ∷ xs) b d e =
    let (c, f, g) = then_fine (judge b x.by x.tok) (λ y. tells y xs) d e in
    let p = passed b x c f in
    let h = behind xs c d g in
    let (i, j) = rooms _ _ _ _ _ _ p.cells (one_of opens_cell x b.cell_room p.cell_fits) h.cells h.cells_fit
    (those-cons opens_cell x xs) in
    let (k, l) = rooms _ _ _ _ _ _ p.entries (one_of opens_entry x b.item_room p.entry_fits) h.entries h.entries_fit_of
    (those-cons opens_entry x xs) in
    record {
      unit = h.unit ∙ ap (λ (u : ℕ). scale_behind u xs) p.unit;
      cells = i;
      cells_fit = j;
      entries = k;
      entries_fit_of = l;
      opened = h.opened ∙ ap (λ (o : Bool). opened_behind o (toks xs)) p.opened;
    }

-- what is amiss by the tokens before is amiss by what is known behind them, and the other way round
module _ (b : Book) (xs : List Taken) (d : Book) (h : Behind b xs d) (x : Taken) where
  pub amiss_here : (m : ℕ) → Amiss b.unit b.cell_room b.item_room xs x m → Amiss d.unit d.cell_room d.item_room [] x m
  amiss_here m (broken s k e f) = broken s k e (rw h.unit f)
  amiss_here m (beyond s k e f) = beyond s k e (rw h.unit f)
  amiss_here m (long e) = long e
  amiss_here m (no_cell e f) = let z = h.cells in no_cell e (omega arith)
  amiss_here m (no_entry e f) = let z = h.entries in no_entry e (omega arith)

  pub amiss_there : (m : ℕ) → Amiss d.unit d.cell_room d.item_room [] x m → Amiss b.unit b.cell_room b.item_room xs x m
  amiss_there m (broken s k e f) = broken s k e (rw (← h.unit) f)
  amiss_there m (beyond s k e f) = beyond s k e (rw (← h.unit) f)
  amiss_there m (long e) = long e
  amiss_there m (no_cell e f) = let z = h.cells in let y = h.cells_fit in no_cell e (omega arith)
  amiss_there m (no_entry e f) = let z = h.entries in let y = h.entries_fit_of in no_entry e (omega arith)

-- THE MACHINE'S STATE behind taken tokens: what it still waits for
abbrev pub Fed : Stack → List Taken → Stack → Type 0
Fed ss xs l = feeds fits alts ss (toks xs) ≡ some (record { labels = terms xs; left = l })

-- one token more at the front
fed_cons : (ss : Stack) (x : Taken) (xs : List Taken) (l m : Stack) → feed fits alts ss x.tok ≡ some (record { by = x.by; left = m }) →
    Fed m xs l →
    Fed ss (x ∷ xs) l
unfolding feeds
fed_cons ss x xs l m e f = rw (e, f)

row_labels : (r q : Row Term N) → r ≡ q → r.labels ≡ q.labels
row_labels r q e = ap (λ (x : Row Term N). x.labels) e

row-left : (r q : Row Term N) → r ≡ q → r.left ≡ q.left
row-left r q e = ap (λ (x : Row Term N). x.left) e

row_of : (o : Option (Row Term N)) (r : Row Term N) (cs : List Term) (l : Stack) → o ≡ some r → cs ≡ r.labels → l ≡ r.left →
    o ≡ some (record { labels = cs; left = l })
row_of o r cs l e f g = rw (f, g) e

pub fed_uncons : (ss : Stack) (x : Taken) (xs : List Taken) (l : Stack) → Fed ss (x ∷ xs) l →
    (m : Stack) × (feed fits alts ss x.tok ≡ some (record { by = x.by; left = m })) × Fed m xs l
unfolding feeds
fed_uncons ss x xs l e = by (feed fits alts ss x.tok) refl e
  where
    by : (o : Option (Took Term N)) → feed fits alts ss x.tok ≡ o →
        onward o (λ r. feeds fits alts r (toks xs)) ≡ some (record { labels = x.by ∷ terms xs; left = l }) →
        (m : Stack) × (feed fits alts ss x.tok ≡ some (record { by = x.by; left = m })) × Fed m xs l
    by none p e = absurd (none≢some _ e)
    by (some w) p e =
        let (q, f, g) = before_inv w.by (feeds fits alts w.left (toks xs)) _ e in
        let h = row_labels _ _ g in
        let i : x.by ≡ w.by = head-eq_of_cons-eq h in
        let j : terms xs ≡ q.labels = tail-eq_of_cons-eq h in
        let k : l ≡ q.left = row-left _ _ g in
        (w.left, rw i p, row_of _ q (terms xs) l f j k)

pub fed_append : (ss : Stack) (xs ys : List Taken) (l m : Stack) → Fed ss xs l → Fed l ys m → Fed ss (xs ++ ys) m
unfolding feeds
fed_append ss [] ys l m e f = rw (row-left _ _ (some_inj e)) f
fed_append ss (x ∷ xs) ys l m e f = let (n, g, h) = fed_uncons ss x xs l e in fed_cons ss x (xs ++ ys) m n g (fed_append n xs ys l m h f)

pub fed_split : (ss : Stack) (xs ys : List Taken) (m : Stack) → Fed ss (xs ++ ys) m → (l : Stack) × Fed ss xs l × Fed l ys m
unfolding feeds
fed_split ss [] ys m e = (ss, refl, e)
fed_split ss (x ∷ xs) ys m e =
    let (n, g, h) = fed_uncons ss x (xs ++ ys) m e in
    let (l, i, j) = fed_split n xs ys m h in
    (l, fed_cons ss x xs l n g i, j)

-- tokens that were fed, paired with the terminals that took them
pub paired : (ss : Stack) (ts : List Placed) (r : Row Term N) → feeds fits alts ss ts ≡ some r →
    (xs : List Taken) × (toks xs ≡ ts) × (terms xs ≡ r.labels)
unfolding feeds
paired ss [] r e = ([], refl, row_labels _ _ (some_inj e))
paired ss (t ∷ ts) r e = by (feed fits alts ss t) e (λ l q. paired l ts q)
  where
    by : (o : Option (Took Term N)) → onward o (λ l. feeds fits alts l ts) ≡ some r →
        ((l : Stack) (q : Row Term N) → feeds fits alts l ts ≡ some q → (xs : List Taken) × (toks xs ≡ ts) × (terms xs ≡ q.labels)) →
        (xs : List Taken) × (toks xs ≡ t ∷ ts) × (terms xs ≡ r.labels)
    by none e ih = absurd (none≢some r e)
    by (some w) e ih =
        let (q, f, g) = before_inv w.by (feeds fits alts w.left ts) r e in
        let (xs, h, i) = ih w.left q f in
        (record { by = w.by; tok = t } ∷ xs, ap (λ (x : List Placed). t ∷ x) h, ap (λ (x : List Term). w.by ∷ x) i ∙ sym (row_labels _ _ g))

pub fed : (ss : Stack) (xs : List Taken) → Carried ss xs → Fed ss xs []
fed ss xs d = (sdf_complete ss (toks xs) (terms xs)).0 d

-- what was fed, and one token more that is taken, begins something carried
pub carried_on : {ss : Stack} → Whole ss → (xs : List Taken) (x : Taken) (l m : Stack) → Fed ss xs l →
    feed fits alts l x.tok ≡ some (record { by = x.by; left = m }) →
    (after : List Taken) × Carried ss (xs ++ x ∷ after)
unfolding feeds
carried_on {ss} w xs x l m e f =
    let g : Fed ss (xs ++ x ∷ []) m = fed_append ss xs (x ∷ []) l m e (fed_cons l x [] m m f refl) in
    let (us, cs, d) = sdf_ends w (toks (xs ++ x ∷ [])) _ g in
    let h = complete fits alts sdf_apart us m cs d in
    let (ys, i, j) = paired m us _ h in
    (ys, (sdf_complete ss (toks (xs ++ x ∷ ys)) (terms (xs ++ x ∷ ys))).1 (fed_append ss xs (x ∷ ys) l [] e (fed_cons l x ys [] m f (rw (i, j) h))))

-- a run that was fine, in the laws' words
pub reached : (a : As) (ts : List Placed) (st : At) → runs (starting a) ts ≡ fine st →
    (xs : List Taken) × (toks xs ≡ ts) × Fed a.start xs st.stack × (tells (starting a).book xs ≡ fine st.book)
reached a ts st e =
    let (r, f, g, h) = splits fits alts judge wrong (λ t. t.start) (starting a) ts st e in
    let (xs, i, j) = paired a.start ts r f in
    (xs, i, ap (feeds fits alts a.start) i ∙ row_of _ r (terms xs) st.stack f j (sym g), said xs ts r.labels i j h)
  where
    said : (xs : List Taken) (ts : List Placed) (cs : List Term) → toks xs ≡ ts → terms xs ≡ cs →
        judges fits alts judge wrong (λ t. t.start) (starting a).book cs ts ≡ fine st.book → tells (starting a).book xs ≡ fine st.book
    said xs ts cs i j h = rw (i, j) h

pub reaches : (a : As) (xs : List Taken) (l : Stack) (d : Book) → Fed a.start xs l → tells (starting a).book xs ≡ fine d →
    runs (starting a) (toks xs) ≡ fine (record { stack = l; book = d })
reaches a xs l d e f = joins fits alts judge wrong (λ t. t.start) (starting a) (toks xs) _ d e f
