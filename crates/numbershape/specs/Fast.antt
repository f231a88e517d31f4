-- How the exact value is computed with small numbers: digits past the femtosecond must be zeros, the others count, and powers of ten above.
-- Assumes nothing.
use Rattle.std.specs.Prelude.{ℕ, zero, suc, ◌+◌, ◌-◌, ◌*◌, ◌/◌, ◌%◌, ◌^◌, ◌≤◌, ◌<◌, ◌≡◌, refl, Bool, true, false, List, [], ◌∷◌, ◌++◌, eqb, length, take, drop, Err}
use Rattle.std.proofs.Common.{ap, sym, ◌∙◌, zero-mul, mul-le-mul_right, mul-le-mul_left, mul-lt-mul_of_pos_right, div-add-mod', mod-lt, pow-suc, mul-one, add-zero, mod-eq_of_lt, mul_assoc, le_trans, arith, lit<, pow-add, take-append-drop, length-drop, eq-eqb, ne_eqb, eqb-true}
use Rattle.std.proofs.Math.Nat.{pow-le-pow_right, pow-zero, one-le-pow, mul-add-mod_self_right, mul-add-div_right, div-eq_of_lt}
use Rattle.std.proofs.lemmas.Bool.{eqb-false}
use Rattle.numbershape.specs.declared.NotTime.TheVariants.{Fine}
use Rattle.classes.specs.Choice.{pick}
use Rattle.numbershape.specs.Value.{horner, at_most, exact}

pub horner-append : (a : ℕ) (ds es : List ℕ) → horner a (ds ++ es) ≡ horner (horner a ds) es
horner-append a [] es = refl
horner-append a (d ∷ ds) es = horner-append (a * 10 + d) ds es

-- what stands before counts ten times for each digit after it
pub horner_shift : (a : ℕ) (es : List ℕ) → horner a es ≡ a * 10 ^ length es + horner 0 es
horner_shift a [] = simp (pow-zero, mul-one, add-zero)
horner_shift a (d ∷ es) =
    rw (horner_shift (a * 10 + d) es, horner_shift (0 * 10 + d) es, pow-suc) (omega arith)

-- digits
abbrev pub Small : List ℕ → Type 0
Small [] = Unit {0}
Small (d ∷ ds) = (d < 10) × Small ds

pub horner_lt : (es : List ℕ) → Small es → horner 0 es < 10 ^ length es
horner_lt [] h = rw pow-zero (omega arith)
horner_lt (d ∷ es) h =
    let p = horner_lt es h.1 in
    let d9 : d ≤ 9 = omega arith in
    rw (horner_shift (0 * 10 + d) es, pow-suc) (omega (arith, mul-le-mul_right (10 ^ length es) d9))

pub small-drop : (n : ℕ) (ds : List ℕ) → Small ds → Small (drop n ds)
small-drop zero ds h = h
small-drop (suc n) [] h = h
small-drop (suc n) (d ∷ ds) h = small-drop n ds h.1

-- all zeros
abbrev pub zeros : List ℕ → Bool
zeros [] = true
zeros (d ∷ ds) = pick (eqb d 0) (zeros ds) false

pub zeros_val : (es : List ℕ) → eqb (horner 0 es) 0 ≡ zeros es
zeros_val [] = refl
zeros_val (d ∷ es) = by (eqb d 0) refl (zeros_val es)
  where
    by : (b : Bool) → eqb d 0 ≡ b → eqb (horner 0 es) 0 ≡ zeros es → eqb (horner (0 * 10 + d) es) 0 ≡ pick b (zeros es) false
    by true e ih = let z : d ≡ 0 = eqb-true d 0 e in rw z ih
    by false e ih =
        ne_eqb (horner (0 * 10 + d) es) 0
        (λ h. eqb-false d 0 e (omega (arith, h, horner_shift (0 * 10 + d) es, mul-le-mul_left d (one-le-pow (length es) 10 (lit< tt)))))

-- a quotient and a remainder
core : (x y p : ℕ) → y < p → ((x * p + y) % p ≡ y) × ((x * p + y) / p ≡ x)
core x y p h = (
  mul-add-mod_self_right x p y ∙ mod-eq_of_lt h,
  mul-add-div_right (omega arith) x y ∙ ap (λ z. x + z) (div-eq_of_lt h) ∙ add-zero x,
)

pow_pos : (j : ℕ) → 0 < 10 ^ j
pow_pos j = one-le-pow j 10 (lit< tt)

eqb-mul : (r u : ℕ) → 0 < u → eqb (r * u) 0 ≡ eqb r 0
eqb-mul r u h = by (eqb r 0) refl
  where
    by : (b : Bool) → eqb r 0 ≡ b → eqb (r * u) 0 ≡ b
    by true e = let z : r ≡ 0 = eqb-true r 0 e in rw z (eq-eqb (0 * u) 0 (omega arith))
    by false e = ne_eqb (r * u) 0 (λ z. eqb-false r 0 e (omega (arith, z, mul-le-mul_left r h)))

-- up at least as far as down: no digit is lost
pub up-exact : (minus : Bool) (m up down : ℕ) → down ≤ up → exact minus m up down ≡ at_most minus (m * 10 ^ (up - down))
unfolding exact
up-exact minus m up down h =
    let u : up ≡ (up - down) + down = omega arith in
    let e : m * 10 ^ up ≡ m * 10 ^ (up - down) * 10 ^ down + 0
    = ap (λ n. m * 10 ^ n) u ∙ ap (λ n. m * n) (pow-add 10 (up - down) down)
    ∙ sym (mul_assoc m (10 ^ (up - down)) (10 ^ down)) ∙ sym (add-zero _) in
    let c = core (m * 10 ^ (up - down)) 0 (10 ^ down) (pow_pos down) in
    rw (e, c.0, c.1)

-- further down: by the difference
pub down-exact : (minus : Bool) (m up down : ℕ) → up < down → exact minus m up down ≡ exact minus m 0 (down - up)
unfolding exact
down-exact minus m up down h =
    let d : down ≡ (down - up) + up = omega arith in
    let f : 10 ^ down ≡ 10 ^ (down - up) * 10 ^ up = ap (λ n. 10 ^ n) d ∙ pow-add 10 (down - up) up in
    let q = m / 10 ^ (down - up) in
    let r = m % 10 ^ (down - up) in
    let w : m ≡ q * 10 ^ (down - up) + r = sym (div-add-mod' m (10 ^ (down - up))) in
    let e : m * 10 ^ up ≡ q * (10 ^ (down - up) * 10 ^ up) + r * 10 ^ up = ap (λ n. n * 10 ^ up) w ∙ omega arith in
    let c = core q (r * 10 ^ up) (10 ^ (down - up) * 10 ^ up) (mul-lt-mul_of_pos_right (mod-lt m (pow_pos (down - up))) (pow_pos up)) in
    let z : m * 10 ^ 0 ≡ m = mul-one m in
    rw (f, e, c.0, c.1, z) (ap (λ b. pick b (at_most minus q) (Err Fine)) (eqb-mul r (10 ^ up) (pow_pos up)))

-- the digits that are kept, and those past the femtosecond, which must be zeros
pub cut-exact : (minus : Bool) (ds : List ℕ) → Small ds → (j : ℕ)
    → exact minus (horner 0 ds) 0 j ≡ pick (zeros (drop (length ds - j) ds)) (at_most minus (horner 0 (take (length ds - j) ds))) (Err Fine)
unfolding exact
cut-exact minus ds h j =
    let n = length ds - j in
    let x = horner 0 (take n ds) in
    let y = horner 0 (drop n ds) in
    let s : horner 0 ds ≡ x * 10 ^ length (drop n ds) + y
    = ap (horner 0) (sym (take-append-drop n ds)) ∙ horner-append 0 (take n ds) (drop n ds) ∙ horner_shift x (drop n ds) in
    let l : length (drop n ds) ≡ length ds - n = length-drop n ds in
    let b : y < 10 ^ length (drop n ds) = horner_lt (drop n ds) (small-drop n ds h) in
    let c = core x y (10 ^ j) (le_trans b (pow-le-pow_right (lit< tt) (omega (arith, l)))) in
    let e : horner 0 ds * 10 ^ 0 ≡ x * 10 ^ j + y
    = mul-one (horner 0 ds) ∙ s ∙ ap (λ k. x * 10 ^ k + y) l ∙ ap (λ k. k + y) (same n refl) in
    rw (e, c.0, c.1, zeros_val (drop n ds))
  where
    same : (n : ℕ) → n ≡ length ds - j → horner 0 (take n ds) * 10 ^ (length ds - n) ≡ horner 0 (take n ds) * 10 ^ j
    same zero e = simp zero-mul
    same (suc n) e = let k : length ds - suc n ≡ j = omega arith in rw k
