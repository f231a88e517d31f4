-- An exponent may be stopped at a bound: beyond it the answer does not change any more. So it is read up to there.
-- Assumes nothing.
use Rattle.std.specs.Prelude.{ℕ, ◌+◌, ◌-◌, ◌*◌, ◌^◌, ◌≤◌, ◌<◌, min, ◌≡◌, refl, Bool, true, false, List, [], ◌∷◌, eqb, leb, length, get_or, take, drop, pos, Ok, Err}
use Rattle.std.proofs.Common.{ap, sym, ◌∙◌, mul-le-mul_right, zero-mul, add-one, arith, lit<, drop_of_length-le, drop-cons, eqb-true, leb-true, leb-false}
use Rattle.std.proofs.Math.Nat.{pow-le-pow_right}
use Rattle.std.proofs.lemmas.Bool.{lt-leb, eqb-false}
use Rattle.classes.specs.Choice.{pick}
use Rattle.numbershape.specs.declared.NotTime.TheVariants.{Fine, Beyond}
use Rattle.numbershape.specs.Shape.{digits_of}
use Rattle.numbershape.specs.Value.{horner, limit, at_most, exact}
use Rattle.numbershape.specs.Fast.{zeros, Small, up-exact, down-exact, cut-exact}

-- sixteen zeros are too many for any number but 0
big : (minus : Bool) (m c : ℕ) → 16 ≤ c → at_most minus (m * 10 ^ c) ≡ pick (eqb m 0) (Ok (pos 0)) (Err Beyond)
big minus m c h = by minus (eqb m 0) refl
  where
    pos? : (m : ℕ) → (m ≡ 0 → ⊥) → 1 ≤ m
    pos? m f = omega arith

    by : (minus b : Bool) → eqb m 0 ≡ b → at_most minus (m * 10 ^ c) ≡ pick b (Ok (pos 0)) (Err Beyond)
    by true true e = let z : m ≡ 0 = eqb-true m 0 e in rw (z, zero-mul)
    by false true e = let z : m ≡ 0 = eqb-true m 0 e in rw (z, zero-mul)
    by minus false e =
        let p : 10 ^ 16 ≤ 10 ^ c = pow-le-pow_right (lit< tt) h in
        let one : 1 ≤ m = pos? m (eqb-false m 0 e) in
        let q : limit < m * 10 ^ c = omega (arith, mul-le-mul_right (10 ^ c) one, p) in
        rw (lt-leb (m * 10 ^ c) limit q)

-- upwards, sixteen beyond the fraction's digits are enough
pub stop-up : (minus : Bool) (m k f e : ℕ) → exact minus m (k + e) f ≡ exact minus m (k + min e (f + 16)) f
stop-up minus m k f e = by (leb e (f + 16)) refl
  where
    by : (b : Bool) → leb e (f + 16) ≡ b → exact minus m (k + e) f ≡ exact minus m (k + min e (f + 16)) f
    by true x = let y : e ≤ f + 16 = leb-true e (f + 16) x in let z : min e (f + 16) ≡ e = omega arith in rw z
    by false x =
        let y : f + 16 < e = leb-false e (f + 16) x in
        let z : min e (f + 16) ≡ f + 16 = omega arith in
        rw z
        (up-exact minus m (k + e) f (omega arith) ∙ big minus m (k + e - f) (omega arith)
        ∙ sym (big minus m (k + (f + 16) - f) (omega arith)) ∙ sym (up-exact minus m (k + (f + 16)) f (omega arith)))

-- downwards, one beyond the scale and the digits before the point
pub stop-down : (minus : Bool) (ds : List ℕ) → Small ds → (k f e n : ℕ) → length ds ≡ n + f
    → exact minus (horner 0 ds) k (f + e) ≡ exact minus (horner 0 ds) k (f + min e (k + n + 1))
stop-down minus ds sm k f e n l = by (leb e (k + n + 1)) refl
  where
    by : (b : Bool) → leb e (k + n + 1) ≡ b → exact minus (horner 0 ds) k (f + e) ≡ exact minus (horner 0 ds) k (f + min e (k + n + 1))
    by true x = let y : e ≤ k + n + 1 = leb-true e (k + n + 1) x in let z : min e (k + n + 1) ≡ e = omega arith in rw z
    by false x =
        let y : k + n + 1 < e = leb-false e (k + n + 1) x in
        let z : min e (k + n + 1) ≡ k + n + 1 = omega arith in
        let same : length ds - (f + e - k) ≡ length ds - (f + (k + n + 1) - k) = omega arith in
        rw z
        (down-exact minus (horner 0 ds) k (f + e) (omega arith) ∙ cut-exact minus ds sm (f + e - k)
        ∙ ap (λ i. pick (zeros (drop i ds)) (at_most minus (horner 0 (take i ds))) (Err Fine)) same
        ∙ sym (cut-exact minus ds sm (f + (k + n + 1) - k)) ∙ sym (down-exact minus (horner 0 ds) k (f + (k + n + 1)) (omega arith)))

-- the number that bytes write behind a, stopped at a bound at each digit
unfoldable pub capped : ℕ → ℕ → List ℕ → ℕ
capped cap a [] = a
capped cap a (b ∷ r) = capped cap (min (a * 10 + (b - 48)) cap) r

capped-cons : (cap a b : ℕ) (r : List ℕ) → capped cap a (b ∷ r) ≡ capped cap (min (a * 10 + (b - 48)) cap) r
unfolding capped
capped-cons cap a b r = refl

pub capped_turn : (cap a : ℕ) (w : List ℕ) (i : ℕ) → i < length w
    → capped cap (min (a * 10 + (get_or w i 0 - 48)) cap) (drop (i + 1) w) ≡ capped cap a (drop i w)
capped_turn cap a w i h = rw (drop-cons w i 0 h, add-one, capped-cons)

pub capped_end : (cap a : ℕ) (w : List ℕ) (i : ℕ) → length w ≤ i → capped cap a (drop i w) ≡ a
unfolding capped
capped_end cap a w i h = rw (drop_of_length-le w h)

-- it is the number, stopped at the bound
pub capped_is : (cap a : ℕ) (t : List ℕ) → capped cap (min a cap) t ≡ min (horner a (digits_of t)) cap
unfolding capped
capped_is cap a [] = refl
capped_is cap a (b ∷ r) =
    let m : min (min a cap * 10 + (b - 48)) cap ≡ min (a * 10 + (b - 48)) cap = omega arith in
    rw m (capped_is cap (a * 10 + (b - 48)) r)

pub capped-whole : (cap : ℕ) (t : List ℕ) → capped cap 0 t ≡ min (horner 0 (digits_of t)) cap
capped-whole cap t = let z : 0 ≡ min 0 cap = omega arith in ap (λ a. capped cap a t) z ∙ capped_is cap 0 t
