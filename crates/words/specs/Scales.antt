-- The first word of a time scale: a multiple alone, or a multiple and a unit joined, whose number is that of its two parts.
-- Assumes nothing.
use Rattle.std.specs.Prelude.{◌≡◌, refl, Bool, true, false, ◌⊎◌, ℕ, ◌+◌, ◌-◌, ◌≤◌, eqb, leb, length, take, drop}
use Rattle.std.proofs.Common.{ap, sym, ◌∙◌, inl, inr, ⊎_elim, arith, take-append-drop, length-append, take_at, drop_at, leb-true, leb-false, le-leb, eqb-true}
use mathlib.Core.List.Memᴰ
use mathlib.Core.List.{
  List,
  [],
  ◌∷◌,
  ◌++◌,
  map,
  Memᴰ,
}
use Rattle.classes.specs.Choice.{pick, and, or}
use Rattle.words.specs.Words.{Key, find, multiples, units, scales, with_unit, joined, scale_of, unit_of, multiple_of}
use Rattle.words.specs.Laws.{proper, stands, found, held, every, scales-proper, units-proper}

-- a multiple of one table and a unit of the other stand joined in the joined table
with_in : (u m : Key) (ms : List Key) → Memᴰ m ms → Memᴰ (with_unit u m) (map (with_unit u) ms)
with_in u m [] d = absurd (Memᴰ.not-nil d)
with_in u m (x ∷ ms) d =
    ⊎_elim (λ e. Memᴰ.head (ap (with_unit u) e)) (λ d'. Memᴰ.tail (with_in u m ms d')) (Memᴰ.cases_cons d)

joined_in : (m u : Key) (ms us : List Key) → Memᴰ m ms → Memᴰ u us → Memᴰ (with_unit u m) (joined ms us)
joined_in m u ms [] d b = absurd (Memᴰ.not-nil b)
joined_in m u ms (x ∷ us) d b =
    ⊎_elim
    (λ e. Memᴰ.append_left (joined ms us) (Memᴰ.cast (ap (λ (k : Key). with_unit k m) e) (with_in x m ms d)))
    (λ b'. Memᴰ.append_right (map (with_unit x) ms) (joined_in m u ms us d b'))
    (Memᴰ.cases_cons b)

-- the number of a joined word is that of its two parts
pub joined_number : (m u : List ℕ) → 1 ≤ multiple_of m → 1 ≤ unit_of u → scale_of (m ++ u) ≡ multiple_of m + unit_of u + 9
unfolding scale_of unit_of multiple_of
joined_number m u h g =
    found scales (m ++ u) (multiple_of m + find units u + 9) scales-proper (omega arith)
    (Memᴰ.append_right multiples
    (joined_in (record { word = m; number = multiple_of m }) (record { word = u; number = find units u }) multiples units
    (stands multiples m (multiple_of m) h refl) (stands units u (find units u) g refl)))

-- a multiple alone keeps its number
pub multiple_number : (m : List ℕ) → 1 ≤ multiple_of m → scale_of m ≡ multiple_of m
unfolding scale_of multiple_of
multiple_number m h =
    found scales m (multiple_of m) scales-proper h
    (Memᴰ.append_left (joined multiples units) (stands multiples m (multiple_of m) h refl))

-- and what stands in the joined table is joined of two such
with_out : (u k : Key) (ms : List Key) → Memᴰ k (map (with_unit u) ms) → (m : Key) × Memᴰ m ms × (k ≡ with_unit u m)
with_out u k [] d = absurd (Memᴰ.not-nil d)
with_out u k (x ∷ ms) d =
    ⊎_elim
    (λ e. (x, Memᴰ.head refl, e))
    (λ d'. let r = with_out u k ms d' in (r.0, Memᴰ.tail r.1, r.2))
    (Memᴰ.cases_cons d)

joined_out : (k : Key) (ms us : List Key) → Memᴰ k (joined ms us) →
    (m : Key) × (u : Key) × Memᴰ m ms × Memᴰ u us × (k ≡ with_unit u m)
joined_out k ms [] d = absurd (Memᴰ.not-nil d)
joined_out k ms (x ∷ us) d =
    ⊎_elim
    (λ a. let r = with_out x k ms a in (r.0, x, r.1, Memᴰ.head refl, r.2))
    (λ b. let r = joined_out k ms us b in (r.0, r.1, r.2, Memᴰ.tail r.3, r.4))
    (Memᴰ.append_cases (map (with_unit x) ms) d)

-- the scale that a multiple and a unit make, 0 where one of them is none
abbrev pub together : ℕ → ℕ → ℕ
together m u = pick (and (leb 1 m) (leb 1 u)) (m + u + 9) 0

-- the scale of a word whose unit is the last j bytes
unfoldable pub cut : ℕ → List ℕ → ℕ
cut j w = together (multiple_of (take (length w - j) w)) (unit_of (drop (length w - j) w))

-- what it is, by what is found of the two parts
pub cut_short : (j : ℕ) (w : List ℕ) → length w ≤ j → cut j w ≡ 0
unfolding cut multiple_of
cut_short j w h = let e : length w - j ≡ 0 = omega arith in rw e

pub cut_parts : (j : ℕ) (w : List ℕ) (m u : ℕ) → m ≡ multiple_of (take (length w - j) w) → u ≡ unit_of (drop (length w - j) w) →
    1 ≤ m → 1 ≤ u → m + u + 9 ≡ cut j w
unfolding cut
cut_parts j w m u e f h g = rw (← e, ← f, le-leb 1 m h, le-leb 1 u g)

pub cut_no_multiple : (j : ℕ) (w : List ℕ) → 0 ≡ multiple_of (take (length w - j) w) → 0 ≡ cut j w
unfolding cut
cut_no_multiple j w e = rw (← e)

pub cut_no_unit : (j : ℕ) (w : List ℕ) → 0 ≡ unit_of (drop (length w - j) w) → 0 ≡ cut j w
unfolding cut
cut_no_unit j w e = rw (← e) (by (leb 1 m))
  where
    m : ℕ
    m = multiple_of (take (length w - j) w)

    by : (b : Bool) → 0 ≡ pick (and b false) (m + 0 + 9) 0
    by true = refl
    by false = refl

-- where it is not 0, it is the word's
pub cut-found : (j : ℕ) (w : List ℕ) → 1 ≤ cut j w → scale_of w ≡ cut j w
unfolding cut
cut-found j w h = by (leb 1 m) (leb 1 u) refl refl
  where
    m : ℕ
    m = multiple_of (take (length w - j) w)

    u : ℕ
    u = unit_of (drop (length w - j) w)

    by : (a b : Bool) → leb 1 m ≡ a → leb 1 u ≡ b → scale_of w ≡ together m u
    by true true p q =
        rw (p, q)
        (ap scale_of (sym (take-append-drop (length w - j) w))
        ∙ joined_number (take (length w - j) w) (drop (length w - j) w) (leb-true 1 m p) (leb-true 1 u q))
    by true false p q = let g : 1 ≤ 0 = rw (p, q) at h in absurd (omega arith)
    by false b p q = let g : 1 ≤ 0 = rw p at h in absurd (omega arith)

-- every unit is one or two letters long
unit_length : (u : Key) → Memᴰ u units → (length u.word ≡ 1) ⊎ (length u.word ≡ 2)
unit_length u d =
    by (eqb (length u.word) 1) refl (held (λ k. or (eqb (length k.word) 1) (eqb (length k.word) 2)) units u refl d)
  where
    by : (b : Bool) → eqb (length u.word) 1 ≡ b → or (eqb (length u.word) 1) (eqb (length u.word) 2) ≡ true →
        (length u.word ≡ 1) ⊎ (length u.word ≡ 2)
    by true p e = inl (eqb-true _ 1 p)
    by false p e = inr (eqb-true _ 2 (rw p at e))

multiples-proper : proper multiples ≡ true
multiples-proper = refl

positive : (k : Key) (t : List Key) → every (λ k. leb 1 k.number) t ≡ true → Memᴰ k t → 1 ≤ k.number
positive k t e d = leb-true 1 k.number (held (λ k. leb 1 k.number) t k e d)

cut-joined : (m u : Key) (j : ℕ) → Memᴰ m multiples → Memᴰ u units → length u.word ≡ j →
    1 ≤ cut j (m.word ++ u.word)
unfolding cut unit_of multiple_of
cut-joined m u j d b l =
    let n : length (m.word ++ u.word) - j ≡ length m.word = simp length-append (omega arith) in
    let p = positive m multiples refl d in
    let q = positive u units refl b in
    rw (
      n,
      take_at m.word u.word (length m.word) refl,
      drop_at m.word u.word (length m.word) refl,
      found multiples m.word m.number multiples-proper p d,
      found units u.word u.number units-proper q b,
      le-leb 1 m.number p,
      le-leb 1 u.number q,
    )
    (omega arith)

-- a word that is no multiple, and no multiple with a unit of two letters or of one, is no scale
pub no_scale : (w : List ℕ) → multiple_of w ≡ 0 → cut 2 w ≡ 0 → cut 1 w ≡ 0 → scale_of w ≡ 0
unfolding scale_of multiple_of
no_scale w a b c = by (leb 1 (find scales w)) refl
  where
    n : ℕ
    n = find scales w

    out : (m : Key) × (u : Key) × Memᴰ m multiples × Memᴰ u units × (record { word = w; number = n } ≡ with_unit u m) → ⊥
    out r =
        let e : w ≡ r.0.word ++ r.1.word = ap (λ (k : Key). k.word) r.4 in
        ⊎_elim
        (λ l. let h = cut-joined r.0 r.1 1 r.2 r.3 l in let g = ap (cut 1) e in omega arith)
        (λ l. let h = cut-joined r.0 r.1 2 r.2 r.3 l in let g = ap (cut 2) e in omega arith)
        (unit_length r.1 r.3)

    by : (t : Bool) → leb 1 n ≡ t → find scales w ≡ 0
    by true p =
        let h = leb-true 1 n p in
        absurd
        (⊎_elim
        (λ d. let g = found multiples w n multiples-proper h d in omega arith)
        (λ d. out (joined_out (record { word = w; number = n }) multiples units d))
        (Memᴰ.append_cases multiples (stands scales w n h refl)))
    by false p = let h = leb-false 1 n p in omega arith

-- no number found is beyond the table's largest
pub find_most : (t : List Key) (w : List ℕ) (n : ℕ) → every (λ k. leb k.number n) t ≡ true → find t w ≤ n
find_most t w n e = by (leb 1 (find t w)) refl
  where
    by : (b : Bool) → leb 1 (find t w) ≡ b → find t w ≤ n
    by true p =
        leb-true (find t w) n
        (held (λ k. leb k.number n) t (record { word = w; number = find t w }) e (stands t w (find t w) (leb-true 1 (find t w) p) refl))
    by false p = let h = leb-false 1 (find t w) p in omega arith

-- where the two other forms fail, the last decides
pub last_cut : (w : List ℕ) → multiple_of w ≡ 0 → cut 2 w ≡ 0 → scale_of w ≡ cut 1 w
last_cut w a b = by (leb 1 (cut 1 w)) refl
  where
    by : (t : Bool) → leb 1 (cut 1 w) ≡ t → scale_of w ≡ cut 1 w
    by true p = cut-found 1 w (leb-true 1 (cut 1 w) p)
    by false p =
        let h = leb-false 1 (cut 1 w) p in
        let e : cut 1 w ≡ 0 = omega arith in
        no_scale w a b e ∙ sym e

-- no scale is beyond 28
pub at_most_28 : (m u : ℕ) (v w : List ℕ) → m ≡ multiple_of v → u ≡ unit_of w → m + u + 9 ≤ 28
unfolding unit_of multiple_of
at_most_28 m u v w e f = let h = find_most multiples v 3 refl in let g = find_most units w 16 refl in omega arith
