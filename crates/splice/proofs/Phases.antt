-- Inside a cell: behind its keyword (1), in an entry (2), behind its closing bracket (0). There the grammar takes no token of a header, and those
-- of an entry only in an entry: one more test of the table, computed, for the places inside a cell.
-- Assumes nothing.
use Rattle.std.specs.Prelude.{◌≡◌, refl, Bool, true, false, List, [], ◌∷◌, ◌++◌, ℕ, ◌+◌, eqb, ltb}
use Rattle.std.proofs.Common.{sym, ap, subst, ◌∙◌, true≢false, eqb-true}
use Rattle.std.proofs.Math.Option.{Option, none, some}
use Rattle.classes.specs.Choice.{pick}
use Rattle.tokens.specs.Stream.{Placed}
use Rattle.grammar.specs.Ll.{lit, non, Alt, Row, choose, feeds, before_inv, none≢some}
use Rattle.grammar.specs.Grammar.{Note, skip, heading, type, top, named, any, finish, edged, end, plain, empty, all, whole, close, Act, note, divide, scaled, unity, joined, cell, entry, time, Term, N, header, timescale, bare, bare1, bare2, bare3, value, first, second, third, more, instance, specs, spec, deltype, deltypes, checks, delays, delay, device, check, end?, values, ◌⇒◌, ◌∣◌, opens, closes, cell_tail, alts, fits}
use Rattle.grammar.specs.Grammar as G
use Rattle.grammar.specs.Outcome.{Stack}
use Rattle.laws.specs.Walk.{goes, walk, through, agrees, along_inv, kept_if, some_inj, through-cons, walk-append, agrees-chosen}
use Rattle.laws.specs.Phases.{from, to}

abbrev pub in_note : ℕ → Note → Option ℕ
in_note q skip = some q
in_note q (heading k) = none
in_note q type = pick (eqb q 1) (some 1) none
in_note q top = pick (eqb q 1) (some 1) none
in_note q named = pick (eqb q 1) (some 1) none
in_note q any = pick (eqb q 1) (some 1) none
in_note q finish = pick (eqb q 1) (some 0) none
in_note q (edged i) = pick (eqb q 2) (some 2) none
in_note q (end i) = pick (eqb q 2) (some 2) none
in_note q (plain i) = pick (eqb q 2) (some 2) none
in_note q G.none = pick (eqb q 2) (some 2) none
in_note q empty = pick (eqb q 2) (some 2) none
in_note q all = pick (eqb q 2) (some 2) none
in_note q whole = pick (eqb q 2) (some 2) none
in_note q close = pick (eqb q 2) (some 1) none

abbrev pub in_act : ℕ → Act → Option ℕ
in_act q (note n) = in_note q n
in_act q (divide d) = none
in_act q scaled = none
in_act q unity = none
in_act q joined = none
in_act q cell = none
in_act q (entry g) = pick (eqb q 1) (some 2) none
in_act q (time s k) = pick (eqb q 2) (some 2) none

abbrev pub in_moves : ℕ → Term → Option ℕ
in_moves q c = in_act q c.act

-- the places inside a cell
abbrev pub in_cell_of : N → Bool
in_cell_of (header k d) = false
in_cell_of G.divider = false
in_cell_of timescale = false
in_cell_of bare = false
in_cell_of bare1 = false
in_cell_of (bare2 f) = false
in_cell_of (bare3 f) = false
in_cell_of (value s) = true
in_cell_of (first s) = true
in_cell_of (second f s) = true
in_cell_of (third f s) = true
in_cell_of (more d) = false
in_cell_of (instance d) = true
in_cell_of (specs d) = true
in_cell_of (spec d) = true
in_cell_of (deltype d) = true
in_cell_of (deltypes f d) = true
in_cell_of (checks f d) = true
in_cell_of (delays g f d) = true
in_cell_of (delay g d) = true
in_cell_of (device d) = true
in_cell_of (check d) = true
in_cell_of (end? i d) = true
in_cell_of (values n) = true

-- THE TEST: each alternative of a place inside a cell goes where the place does
table : (n : N) → in_cell_of n ≡ true → agrees in_moves in_cell_of from to (from n) (to n) (alts n) ≡ true
unfolding alts walk agrees
table (header k d) e = absurd (true≢false (sym e))
table G.divider e = absurd (true≢false (sym e))
table timescale e = absurd (true≢false (sym e))
table bare e = absurd (true≢false (sym e))
table bare1 e = absurd (true≢false (sym e))
table (bare2 f) e = absurd (true≢false (sym e))
table (bare3 f) e = absurd (true≢false (sym e))
table (value s) e = refl
table (first s) e = refl
table (second f s) e = refl
table (third true s) e = refl
table (third false s) e = refl
table (more d) e = absurd (true≢false (sym e))
table (instance d) e = refl
table (specs d) e = refl
table (spec d) e = refl
table (deltype d) e = refl
table (deltypes true d) e = refl
table (deltypes false d) e = refl
table (checks true d) e = refl
table (checks false d) e = refl
table (delays g true d) e = refl
table (delays g false d) e = refl
table (delay g d) e = refl
table (device d) e = refl
table (check d) e = refl
table (end? i d) e = refl
table (values n) e = by (ltb n 6)
  where
    by : (v : Bool) → agrees in_moves in_cell_of from to 2 1
        (closes close ⇒ [] ∣ (pick v (opens ⇒ non (value true) ∷ non (values (n + 1)) ∷ [] ∣ []) [])) ≡ true
    by true = refl
    by false = refl

abbrev Goes_on : ℕ → ℕ → Row Term N → Type 0
Goes_on q z r = (p : ℕ) × (through in_moves in_cell_of from to q r.labels ≡ some p) × (walk in_moves in_cell_of from to p r.left ≡ some z)

kept : (ts : List Placed) (ss : Stack) (q z : ℕ) (r : Row Term N) → walk in_moves in_cell_of from to q ss ≡ some z → feeds fits alts ss ts ≡ some r →
    Goes_on q z r
unfolding feeds walk through
kept [] ss q z r w e = subst (λ (x : Row Term N). Goes_on q z x) (some_inj e) (q, refl, w)
kept (t ∷ ts) [] q z r w e = absurd (none≢some r e)
kept (t ∷ ts) (lit c ∷ ss) q z r w e =
    let (p, m, v) = along_inv (in_moves q c) (λ p. walk in_moves in_cell_of from to p ss) z w in
    by (fits c t) refl p m (λ x. kept ts ss p z x v)
  where
    by : (b : Bool) → fits c t ≡ b → (p : ℕ) → in_moves q c ≡ some p → ((x : Row Term N) → feeds fits alts ss ts ≡ some x → Goes_on p z x) →
        Goes_on q z r
    by true f p m ih =
        let (x, h, g) = before_inv c (feeds fits alts ss ts) r (rw f at e) in
        let (o, a, b) = ih x h in
        subst (λ (y : Row Term N). Goes_on q z y) (sym g) (o, through-cons in_moves in_cell_of from to q p o c x.labels m a, b)
    by false f p m ih = absurd (none≢some r (rw f at e))
kept (t ∷ ts) (non n ∷ ss) q z r w e =
    let (p, m, v) = along_inv (goes in_moves in_cell_of from to q (non n)) (λ p. walk in_moves in_cell_of from to p ss) z w in
    let (y, u) = kept_if (in_cell_of n) _ p m in
    let (i, j) = kept_if (eqb q (from n)) _ p u in
    by (choose fits (alts n) t) refl (table n y) (eqb-true q (from n) i) (rw (← some_inj j) at v) (λ a p x. kept ts (a.rest ++ ss) p z x)
  where
    by : (o : Option (Alt Term N)) → choose fits (alts n) t ≡ o → agrees in_moves in_cell_of from to (from n) (to n) (alts n) ≡ true → q ≡ from n →
        walk in_moves in_cell_of from to (to n) ss ≡ some z →
        ((a : Alt Term N) (p : ℕ) (x : Row Term N) → walk in_moves in_cell_of from to p (a.rest ++ ss) ≡ some z →
        feeds fits alts (a.rest ++ ss) ts ≡ some x → Goes_on p z x) → Goes_on q z r
    by none f k i v ih = absurd (none≢some r (rw f at e))
    by (some a) f k i v ih =
        let (x, h, g) = before_inv a.head (feeds fits alts (a.rest ++ ss) ts) r (rw f at e) in
        let (p, m, d) = along_inv (in_moves (from n) a.head) _ (to n) (agrees-chosen in_moves in_cell_of from to fits (from n) (to n) (alts n) t a k f) in
        let (o, b, c) = ih a p x (walk-append in_moves in_cell_of from to p a.rest ss ∙ rw d v) h in
        subst (λ (y : Row Term N). Goes_on q z y) (sym g)
        (o, through-cons in_moves in_cell_of from to q p o a.head x.labels (ap (λ (y : ℕ). in_moves y a.head) i ∙ m) b, c)

-- the terminals that take a cell's tokens behind its keyword
pub in_cell : (d : Bool) (ts : List Placed) (cs : List Term) → feeds fits alts (cell_tail d) ts ≡ some (record { labels = cs; left = [] }) →
    through in_moves in_cell_of from to 1 cs ≡ some 0
unfolding walk
in_cell d ts cs e = let (p, a, b) = kept ts (cell_tail d) 1 0 _ refl e in a ∙ b
