-- A file behind its first cell's keyword is cell after cell, and a closing bracket; a cell ends with the bracket that finishes it.
-- Assumes nothing.
use Rattle.std.specs.Prelude.{◌≡◌, refl, Bool, true, false, ◌⊎◌, ℕ, zero, suc, ◌≤◌, length}
use Rattle.std.proofs.Common.{sym, ap, subst, ◌∙◌, inl, inr, ⊎_elim, not-suc-le-zero, le_refl, arith, length-append}
use mathlib.Core.List.{List, [], ◌∷◌, ◌++◌, append_assoc, nil≢cons}
use Rattle.std.proofs.Math.Option.{Option, none, some}
use Rattle.classes.specs.Choice.{pick}
use Rattle.grammar.specs.Ll.{Sym, lit, non, Alt, Row, Took, choose, onto, feed, feeds, none≢some}
use Rattle.grammar.specs.Grammar.{text, type, finish, skip, cell, Term, N, header, more, instance, specs, spec, deltypes, checks, opens, closes, key, keyword, cell_tail, ◌!◌, ◌‼◌, ⟨, ⟩, alts, fits}
use Rattle.grammar.specs.Outcome.{Stack}
use Rattle.laws.specs.Walk.{some_inj}
use Rattle.laws.specs.Taken.{Taken}
use Rattle.laws.proofs.Behind.{Fed, fed_uncons}
use Rattle.splice.proofs.OneCell.{Block}

-- what a token that is taken leaves, and by which terminal
abbrev pub Takes : Stack → Taken → Stack → Type 0
Takes ss x m = feed fits alts ss x.tok ≡ some (record { by = x.by; left = m })

pub fed_cons : (ss : Stack) (x : Taken) (xs : List Taken) (l m : Stack) → feed fits alts ss x.tok ≡ some (record { by = x.by; left = m }) → Fed m xs l →
    Fed ss (x ∷ xs) l
unfolding feeds
fed_cons ss x xs l m e f = rw (e, f)

pub took_by : {v w : Took Term N} → ◌≡◌ {A = Option (Took Term N)} (some v) (some w) → v.by ≡ w.by
took_by e = ap (λ (x : Took Term N). x.by) (took_inj e)
  where
    took_inj : {v w : Took Term N} → ◌≡◌ {A = Option (Took Term N)} (some v) (some w) → v ≡ w
    took_inj e = cc

pub took_left : {v w : Took Term N} → ◌≡◌ {A = Option (Took Term N)} (some v) (some w) → v.left ≡ w.left
took_left e = ap (λ (x : Took Term N). x.left) (took_inj e)
  where
    took_inj : {v w : Took Term N} → ◌≡◌ {A = Option (Took Term N)} (some v) (some w) → v ≡ w
    took_inj e = cc

-- nothing more is taken where nothing is to come, and something is where something is
pub fed_nothing : (xs : List Taken) → Fed [] xs [] → xs ≡ []
unfolding feeds
fed_nothing [] e = refl
fed_nothing (x ∷ xs) e = absurd (none≢some _ e)

pub fed_something : (y : Sym Term N) (ss : Stack) → Fed (y ∷ ss) [] [] → ⊥
unfolding feeds
fed_something y ss e = nil≢cons (ap (λ (r : Row Term N). r.left) (some_inj (sym e)))

-- one alternative after the other
pub first-or : (v : Bool) (a : Alt Term N) (o : Option (Alt Term N)) (ss m : Stack) (c : Term) →
    onto ss (pick v (some a) o) ≡ some (record { by = c; left = m }) →
    ((c ≡ a.head) × (m ≡ a.rest ++ ss)) ⊎ (onto ss o ≡ some (record { by = c; left = m }))
first-or true a o ss m c e = inl (sym (took_by e), sym (took_left e))
first-or false a o ss m c e = inr e

-- A stack in two parts: what is taken from it is taken from the upper one, and then from the lower one.
pub feed_under : (y : Sym Term N) (ss zz m : Stack) (x : Taken) → Takes (y ∷ (ss ++ zz)) x m → (n : Stack) × (m ≡ n ++ zz) × Takes (y ∷ ss) x n
feed_under (lit c) ss zz m x e = by (fits c x.tok) e
  where
    by : (v : Bool) → pick {A = Option (Took Term N)} v (some (record { by = c; left = ss ++ zz })) none ≡ some (record { by = x.by; left = m }) →
        (n : Stack) × (m ≡ n ++ zz) × (pick {A = Option (Took Term N)} v (some (record { by = c; left = ss })) none ≡ some (record { by = x.by; left = n }))
    by true e = (ss, sym (took_left e), ap (λ (d : Term). some (record { by = d; left = ss })) (took_by e))
    by false e = absurd (none≢some _ e)
feed_under (non n) ss zz m x e = by (choose fits (alts n) x.tok) e
  where
    by : (o : Option (Alt Term N)) → onto (ss ++ zz) o ≡ some (record { by = x.by; left = m }) →
        (n : Stack) × (m ≡ n ++ zz) × (onto ss o ≡ some (record { by = x.by; left = n }))
    by none e = absurd (none≢some _ e)
    by (some a) e =
        (a.rest ++ ss, sym (took_left e) ∙ sym (append_assoc a.rest ss zz), ap (λ (d : Term). some (record { by = d; left = a.rest ++ ss })) (took_by e))

pub fed_parts : (xs : List Taken) (ss zz : Stack) → Fed (ss ++ zz) xs [] →
    (ys : List Taken) × (us : List Taken) × (xs ≡ ys ++ us) × Fed ss ys [] × Fed zz us []
unfolding feeds
fed_parts [] [] zz e = ([], [], refl, refl, e)
fed_parts (x ∷ xs) [] zz e = ([], x ∷ xs, refl, refl, e)
fed_parts [] (y ∷ ss) zz e = absurd (fed_something y (ss ++ zz) e)
fed_parts (x ∷ xs) (y ∷ ss) zz e =
    let (m, f, g) = fed_uncons (y ∷ (ss ++ zz)) x xs [] e in
    let (n, h, i) = feed_under y ss zz m x f in
    let (ys, us, j, k, l) = fed_parts xs n zz (subst (λ (s : Stack). Fed s xs []) h g) in
    (x ∷ ys, us, ap (λ (s : List Taken). x ∷ s) j, fed_cons (y ∷ ss) x ys [] n i k, l)

-- A CELL ENDS with the bracket that finishes it
abbrev Ends : List Taken → Type 0
Ends xs = (ys : List Taken) × (x : Taken) × (xs ≡ ys ++ x ∷ []) × (x.by ≡ closes finish)

ends_behind : (ys xs : List Taken) → Ends xs → Ends (ys ++ xs)
ends_behind ys xs (zs, x, e, f) = (ys ++ zs, x, rw e (sym (append_assoc ys zs (x ∷ []))), f)

sections_end : (n : ℕ) (d : Bool) (xs : List Taken) → length xs ≤ n → Fed (non (specs d) ∷ []) xs [] → Ends xs
unfolding alts
sections_end zero d [] h e = absurd (fed_something (non (specs d)) [] e)
sections_end zero d (x ∷ xs) h e = absurd (not-suc-le-zero h)
sections_end (suc n) d [] h e = absurd (fed_something (non (specs d)) [] e)
sections_end (suc n) d (x ∷ xs) h e =
    let (m, f, g) = fed_uncons (non (specs d) ∷ []) x xs [] e in
    ⊎_elim
    (λ (p, q). ([], x, ap (λ (s : List Taken). x ∷ s) (fed_nothing xs (subst (λ (s : Stack). Fed s xs []) q g)), p))
    (λ r. ⊎_elim (λ (p, q). ends_behind (x ∷ []) xs (section xs (omega arith) (subst (λ (s : Stack). Fed s xs []) q g) (sections_end n d)))
    (λ z. absurd (none≢some _ z)) (first-or (fits opens x.tok) _ _ [] m x.by r))
    (first-or (fits (closes finish) x.tok) _ _ [] m x.by f)
  where
    -- behind its keyword a section is read, and then the next one or the end
    rest : (y : Sym Term N) (ys : List Taken) → length ys ≤ n → Fed (y ∷ (non (specs d) ∷ [])) ys [] →
        ((us : List Taken) → length us ≤ n → Fed (non (specs d) ∷ []) us [] → Ends us) → Ends ys
    rest y ys h e ih =
        let (zs, us, f, g, k) = fed_parts ys (y ∷ []) (non (specs d) ∷ []) e in
        subst Ends (sym f) (ends_behind zs us (ih us (omega (arith, ap length f, length-append zs us)) k))

    section : (xs : List Taken) → length xs ≤ n → Fed (non (spec d) ∷ []) xs [] →
        ((us : List Taken) → length us ≤ n → Fed (non (specs d) ∷ []) us [] → Ends us) → Ends xs
    section [] h e ih = absurd (fed_something (non (spec d)) [] e)
    section (x ∷ xs) h e ih =
        let (m, f, g) = fed_uncons (non (spec d) ∷ []) x xs [] e in
        ⊎_elim
        (λ (p, q). ends_behind (x ∷ []) xs (rest (non (deltypes false d)) xs (omega arith) (subst (λ (s : Stack). Fed s xs []) q g) ih))
        (λ r. ⊎_elim (λ (p, q). ends_behind (x ∷ []) xs (rest (non (checks false d)) xs (omega arith) (subst (λ (s : Stack). Fed s xs []) q g) ih))
        (λ z. absurd (none≢some _ z)) (first-or (fits (keyword 57) x.tok) _ _ [] m x.by r))
        (first-or (fits (keyword 56) x.tok) _ _ [] m x.by f)

pub cell_ends : (d : Bool) (xs : List Taken) → Fed (cell_tail d) xs [] → Ends xs
cell_ends d xs e =
    let (ys, us, f, g, k) = fed_parts xs front (non (specs d) ∷ []) e in
    subst Ends (sym f) (ends_behind ys us (sections_end (length us) d us (le_refl (length us)) k))
  where
    front : Stack
    front = ⟨ ∷ lit (keyword 54) ∷ lit (text ! type) ∷ ⟩ ∷ ⟨ ∷ lit (keyword 55) ∷ non (instance d) ∷ []

-- CELL AFTER CELL, and a closing bracket
pub data Cells (d : Bool) : List Taken → Type 0 where
  last : (x : Taken) → x.by ≡ closes skip → Cells d (x ∷ [])
  next : (o w : Taken) (xs zs : List Taken) → Block d o w xs → Cells d zs → Cells d (o ∷ w ∷ (xs ++ zs))

-- behind a cell's keyword: the rest of the cell, and what follows
pub behind-keyword : (d : Bool) (xs : List Taken) → Fed (cell_tail d ++ non (more d) ∷ []) xs [] →
    (ys : List Taken) × (us : List Taken) × (xs ≡ ys ++ us) × Fed (cell_tail d) ys [] × Fed (non (more d) ∷ []) us []
behind-keyword d xs e = fed_parts xs (cell_tail d) (non (more d) ∷ []) e

more-cells : (n : ℕ) (d : Bool) (xs : List Taken) → length xs ≤ n → Fed (non (more d) ∷ []) xs [] → Cells d xs
unfolding alts
more-cells zero d [] h e = absurd (fed_something (non (more d)) [] e)
more-cells zero d (x ∷ xs) h e = absurd (not-suc-le-zero h)
more-cells (suc n) d [] h e = absurd (fed_something (non (more d)) [] e)
more-cells (suc n) d (x ∷ xs) h e =
    let (m, f, g) = fed_uncons (non (more d) ∷ []) x xs [] e in
    ⊎_elim
    (λ (p, q). subst (λ (s : List Taken). Cells d (x ∷ s)) (sym (fed_nothing xs (subst (λ (s : Stack). Fed s xs []) q g))) (last x p))
    (λ r. ⊎_elim (λ (p, q). one xs (omega arith) p (subst (λ (s : Stack). Fed s xs []) q g) (λ us. more-cells n d us))
    (λ z. absurd (none≢some _ z)) (first-or (fits opens x.tok) _ _ [] m x.by r))
    (first-or (fits (closes skip) x.tok) _ _ [] m x.by f)
  where
    one : (ys : List Taken) → length ys ≤ n → x.by ≡ opens → Fed (non (header 10 d) ∷ []) ys [] →
        ((us : List Taken) → length us ≤ n → Fed (non (more d) ∷ []) us [] → Cells d us) → Cells d (x ∷ ys)
    one [] h p e ih = absurd (fed_something (non (header 10 d)) [] e)
    one (w ∷ ys) h p e ih =
        let (m, f, g) = fed_uncons (non (header 10 d) ∷ []) w ys [] e in
        ⊎_elim
        (λ (r, q).
        let (cs, us, i, j, k) = behind-keyword d ys (subst (λ (s : Stack). Fed s ys []) q g) in
        subst (λ (s : List Taken). Cells d (x ∷ w ∷ s)) (sym i)
        (next x w cs us (record { opener = p; keyword = r; rest = j }) (ih us (omega (arith, ap length i, length-append cs us)) k)))
        (λ z. absurd (none≢some _ z))
        (first-or (fits (key 53 ‼ cell) w.tok) _ _ [] m w.by f)

pub cells_follow : (d : Bool) (xs : List Taken) → Fed (non (more d) ∷ []) xs [] → Cells d xs
cells_follow d xs e = more-cells (length xs) d xs (le_refl (length xs)) e
