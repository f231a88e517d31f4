-- What the tables' words and numbers obey: a word is found exactly if it stands in its table.
-- Assumes nothing.
use Rattle.std.specs.Prelude.{◌≡◌, refl, Bool, true, false, ◌↔◌, ℕ, ◌≤◌, leb, eqb}
use Rattle.std.proofs.Common.{ap, sym, ◌∙◌, ⊎_elim, arith, eqb-true, eq-eqb}
use mathlib.Core.List.Memᴰ
use mathlib.Core.List.{List, [], ◌∷◌, Memᴰ}
use Rattle.classes.specs.Choice.{and}
use Rattle.classes.specs.Text.{bytes}
use Rattle.words.specs.Words.{Key, same, find, keywords, edges, units, scales, dividers, key_of, edge_of, scale_of}

-- no number of the table is 0, and no word stands in it again further on
abbrev pub proper : List Key → Bool
proper [] = true
proper (k ∷ ks) = and (and (leb 1 k.number) (eqb (find ks k.word) 0)) (proper ks)

pub keywords-proper : proper keywords ≡ true
keywords-proper = refl

pub edges-proper : proper edges ≡ true
edges-proper = refl

pub units-proper : proper units ≡ true
units-proper = refl

pub scales-proper : proper scales ≡ true
scales-proper = refl

pub dividers-proper : proper dividers ≡ true
dividers-proper = refl

-- 'Keywords are upper case, edges and units lower case'
pub lower_case_key : key_of (bytes "iopath") ≡ 0
unfolding key_of
lower_case_key = refl

pub upper_case_edge : edge_of (bytes "POSEDGE") ≡ 0
unfolding edge_of
upper_case_edge = refl

-- 'spaced or not': 1.0ns in one word is 10 ^ (17 - 11) femtoseconds
pub one_nanosecond : scale_of (bytes "1.0ns") ≡ 17
unfolding scale_of
one_nanosecond = refl

pub both : (a b : Bool) → and a b ≡ true → (a ≡ true) × (b ≡ true)
both true b e = (refl, e)
both false b e = let z : ◌≡◌ {A = ℕ} 0 1 = cc in absurd (omega arith)

pub same_eq : (v w : List ℕ) → same v w ≡ true → v ≡ w
same_eq [] [] e = refl
same_eq [] (y ∷ ys) e = let z : ◌≡◌ {A = ℕ} 0 1 = cc in absurd (omega arith)
same_eq (x ∷ xs) [] e = let z : ◌≡◌ {A = ℕ} 0 1 = cc in absurd (omega arith)
same_eq (x ∷ xs) (y ∷ ys) e =
    let h = both (eqb x y) (same xs ys) e in
    let p = eqb-true x y h.0 in
    let q = same_eq xs ys h.1 in
    cc

pub same_refl : (w : List ℕ) → same w w ≡ true
same_refl [] = refl
same_refl (x ∷ xs) = rw (eq-eqb x x refl, same_refl xs)

key_eq : (k : Key) (w : List ℕ) (n : ℕ) → w ≡ k.word → n ≡ k.number → record { word = w; number = n } ≡ k
key_eq k w n p q = rw (p, q)

-- a number that is found stands beside the word
pub stands : (t : List Key) (w : List ℕ) (n : ℕ) → 1 ≤ n → find t w ≡ n → Memᴰ (record { word = w; number = n }) t
stands [] w n h e = absurd (omega arith)
stands (k ∷ ks) w n h e = by (same w k.word) refl (stands ks w n h)
  where
    Here : List Key → Type 0
    Here t = Memᴰ (record { word = w; number = n }) t

    by : (b : Bool) → same w k.word ≡ b → (find ks w ≡ n → Here ks) → Here (k ∷ ks)
    by true p below = Memᴰ.head (key_eq k w n (same_eq w k.word p) (sym (rw p at e)))
    by false p below = Memᴰ.tail (below (rw p at e))

-- a number that stands beside a word is found
pub found : (t : List Key) (w : List ℕ) (n : ℕ) → proper t ≡ true → 1 ≤ n →
    Memᴰ (record { word = w; number = n }) t → find t w ≡ n
found [] w n p h m = absurd (Memᴰ.not-nil m)
found (k ∷ ks) w n p h m =
    ⊎_elim here (λ m'. there (same w k.word) refl (found ks w n own.1 h m')) (Memᴰ.cases_cons m)
  where
    own : (and (leb 1 k.number) (eqb (find ks k.word) 0) ≡ true) × (proper ks ≡ true)
    own = both (and (leb 1 k.number) (eqb (find ks k.word) 0)) (proper ks) p

    here : record { word = w; number = n } ≡ k → find (k ∷ ks) w ≡ n
    here e =
        let q : same w k.word ≡ true = rw (ap (λ (x : Key). x.word) (sym e)) (same_refl w) in
        rw q (ap (λ (x : Key). x.number) (sym e))

    there : (b : Bool) → same w k.word ≡ b → find ks w ≡ n → find (k ∷ ks) w ≡ n
    there true q below =
        let g = both (leb 1 k.number) (eqb (find ks k.word) 0) own.0 in
        let z : find ks k.word ≡ 0 = eqb-true (find ks k.word) 0 g.1 in
        let i : find ks w ≡ find ks k.word = ap (find ks) (same_eq w k.word q) in
        absurd (omega arith)
    there false q below = rw q below

-- a word's number is n exactly if the word stands beside n in the table
pub find_exactly : (t : List Key) (w : List ℕ) (n : ℕ) → proper t ≡ true → 1 ≤ n →
    (find t w ≡ n) ↔ Memᴰ (record { word = w; number = n }) t
find_exactly t w n p h = (stands t w n h, found t w n p h)

-- a test holds of every word of a table
abbrev pub every : (Key → Bool) → List Key → Bool
every f [] = true
every f (k ∷ ks) = and (f k) (every f ks)

-- what a computed test finds of the whole table holds of each of its words
pub held : (f : Key → Bool) (t : List Key) (k : Key) → every f t ≡ true → Memᴰ k t → f k ≡ true
held f [] k e m = absurd (Memᴰ.not-nil m)
held f (x ∷ t) k e m =
    let h = both (f x) (every f t) e in
    ⊎_elim (λ p. ap f p ∙ h.0) (λ m'. held f t k h.1 m') (Memᴰ.cases_cons m)
