-- Digits, with or without a point and digits behind it: how far they go, and the value of a word of them in one pass.
-- Assumes nothing.
use Rattle.std.specs.Prelude.{ℕ, ◌+◌, ◌-◌, ◌*◌, ◌^◌, ◌≤◌, ◌<◌, min, ◌≡◌, refl, Bool, true, false, not, eqb, leb, get_or, drop, Option, Some, None}
use Rattle.std.proofs.Common.{ap, sym, ◌∙◌, lit<, drop_of_length-le, length-drop}
use mathlib.Core.List.{List, [], ◌++◌, append-nil}
use Rattle.std.proofs.Math.Nat.{add-zero, one-le-pow}
use native.Mathlib.Omega.{arith}
use Rattle.std.proofs.Math.ListN.{length, get_or-eq_default}
use Rattle.std.proofs.Math.Seq.{drop-drop}
use borrow.Author.Tests.{eq-eqb, ne_eqb, eqb-true, leb-true, leb-false}
use Rattle.classes.specs.Choice.{pick, and}
use Rattle.times.specs.declared.Plain.{Plain}
use Rattle.numbershape.specs.Shape.{first, run, lead, pointed, leading, digits_then, marked}
use Rattle.numbershape.specs.Shape.{exponent_fits, is_number, fraction_of, below_of, power_of, parts_of}
use Rattle.numbershape.specs.Value.{horner, at_most, exact, number_of}
use Rattle.numbershape.specs.Places.{first-drop, run_le, pointed-none, pointed-some, fraction_fits_lem}
use Rattle.numbershape.specs.Fast.{horner-append, up-exact}
use Rattle.numbershape.specs.Steps.{stop, at_most-min, min_scale}
use Rattle.times.specs.Reading.{leads, follows}

leading-count : (u : List ℕ) → length (leading u) ≡ run u
unfolding leading
leading-count u = (leads u).count

-- 'digits, optionally . and digits': whether a text begins so, and how many bytes these are
unfoldable pub begins : List ℕ → Bool
begins u = pick (eqb (run u) 0) false (not (eqb (pointed (drop (run u) u)) 1))

unfoldable pub size : List ℕ → ℕ
size u = run u + pointed (drop (run u) u)

-- the digits' number, and how many stand behind the point
abbrev pub plain_digits : List ℕ → ℕ
plain_digits u = horner 0 (leading u ++ fraction_of (drop (run u) u))

abbrev pub plain_fraction : List ℕ → ℕ
plain_fraction u = length (fraction_of (drop (run u) u))

abbrev pub made_plain : ℕ → ℕ → ℕ → Plain
made_plain v f e = record { value = v; fraction = f; end = e }

-- what a text begins with that stands at s, its number stopped at 10^15 + 1
unfoldable pub plain_of : ℕ → List ℕ → Option Plain
plain_of s u = pick (begins u) (Some (made_plain (min (plain_digits u) stop) (plain_fraction u) (s + size u))) None

-- a point stands within its text
pub point_within : (w : List ℕ) (p : ℕ) → eqb (get_or w p 0) 46 ≡ true → p < length w
point_within w p e = by (leb (length w) p) refl
  where
    by : (t : Bool) → leb (length w) p ≡ t → p < length w
    by true h = absurd (omega (arith, eqb-true (get_or w p 0) 46 e, get_or-eq_default w 0 {n = p} (leb-true (length w) p h)))
    by false h = leb-false (length w) p h

-- the same by places: digits from s to p, and behind a point to q
module _ (w : List ℕ) (s p : ℕ) (ep : p ≡ s + run (drop s w)) where
  tail_at : drop (run (drop s w)) (drop s w) ≡ drop p w
  tail_at = drop-drop (run (drop s w)) s w ∙ ap (λ n. drop n w) (sym ep)

  pub plain-none : p ≡ s → plain_of s (drop s w) ≡ None
  unfolding plain_of begins
  plain-none z = rw (eq-eqb (run (drop s w)) 0 (omega arith))

  module _ (z : p ≡ s → ⊥) where
    some : eqb (run (drop s w)) 0 ≡ false
    some = ne_eqb (run (drop s w)) 0 (λ y. z (omega (arith, y)))

    pub plain-whole : eqb (get_or w p 0) 46 ≡ false → plain_of s (drop s w) ≡ Some (made_plain (min (horner 0 (leading (drop s w))) stop) 0 p)
    unfolding plain_of begins size fraction_of
    plain-whole e = rw (tail_at, pointed-none w p e, some, first-drop w p, e, append-nil, add-zero, ← ep)

    module _ (q : ℕ) (eq : q ≡ p + 1 + run (drop (p + 1) w)) (e : eqb (get_or w p 0) 46 ≡ true) where
      pub plain_pointless : q - (p + 1) ≡ 0 → plain_of s (drop s w) ≡ None
      unfolding plain_of begins
      plain_pointless y =
          rw (tail_at, pointed-some w p e, some, eq-eqb (1 + run (drop (p + 1) w)) 1 (omega arith))

      pub plain-pointed : (q - (p + 1) ≡ 0 → ⊥)
          → plain_of s (drop s w) ≡ Some (made_plain (min (horner (horner 0 (leading (drop s w))) (leading (drop (p + 1) w))) stop) (q - (p + 1)) q)
      unfolding plain_of begins size fraction_of
      plain-pointed y =
          let k : length (leading (drop (p + 1) w)) ≡ q - (p + 1) = leading-count (drop (p + 1) w) ∙ count in
          let m : s + (run (drop s w) + (1 + run (drop (p + 1) w))) ≡ q = omega arith in
          rw (
            tail_at,
            pointed-some w p e,
            some,
            ne_eqb (1 + run (drop (p + 1) w)) 1 (λ x. y (omega (arith, x))),
            first-drop w p,
            e,
            drop-drop 1 p w,
            horner-append 0 (leading (drop s w)) (leading (drop (p + 1) w)),
            k,
            m,
          )
        where
          count : run (drop (p + 1) w) ≡ q - (p + 1)
          count = omega arith

-- what was found, field by field
pub record Stands (s : ℕ) (u : List ℕ) (value fraction end : ℕ) : Type 0 where
  pub begun : begins u ≡ true
  pub number : value ≡ min (plain_digits u) stop
  pub behind : fraction ≡ plain_fraction u
  pub ends : end ≡ s + size u

pub plain_stands : (s : ℕ) (u : List ℕ) (p : Plain) → plain_of s u ≡ Some p → Stands s u p.value p.fraction p.end
unfolding plain_of
plain_stands s u p h = by (begins u) refl h
  where
    by : (t : Bool) → begins u ≡ t → pick t (Some (made_plain (min (plain_digits u) stop) (plain_fraction u) (s + size u))) None ≡ Some p
        → Stands s u p.value p.fraction p.end
    by true b k =
        let q : p ≡ made_plain (min (plain_digits u) stop) (plain_fraction u) (s + size u) = cc in
        record { begun = b; number = ap (λ (x : Plain). x.value) q; behind = ap (λ (x : Plain). x.fraction) q; ends = ap (λ (x : Plain). x.end) q }
    by false b k = let z : ◌≡◌ {A = ℕ} 0 1 = cc in absurd (omega arith)

pub plain_bound : {s : ℕ} {u : List ℕ} {value fraction end : ℕ} → Stands s u value fraction end → value ≤ stop
plain_bound r = omega (arith, r.number)

pub size_le : (u : List ℕ) → size u ≤ length u
unfolding size
size_le u = omega (arith, run_le u, (follows (drop (run u) u)).ends, length-drop (run u) u)

-- a number goes on from there with its exponent, or ends
pub number-begins : (signed : Bool) (w : List ℕ)
    → is_number signed w
    ≡ pick (begins (drop (lead signed w) w)) (exponent_fits (drop (size (drop (lead signed w) w)) (drop (lead signed w) w))) false
unfolding is_number digits_then begins size
number-begins signed w =
    let u = drop (lead signed w) w in
    let v = drop (run u) u in
    rw (fraction_fits_lem v, drop-drop (pointed v) (run u) u) (by (eqb (run u) 0) (eqb (pointed v) 1) _)
  where
    by : (t x y : Bool) → pick t false (pick x false y) ≡ pick (pick t false (not x)) y false
    by true x y = refl
    by false true y = refl
    by false false y = refl

-- the value of a word that ends there
pub plain-number : (signed : Bool) (scale : ℕ) (w : List ℕ) → begins (drop (lead signed w) w) ≡ true
    → drop (size (drop (lead signed w) w)) (drop (lead signed w) w) ≡ []
    → number_of signed scale w
    ≡ exact (and signed (eqb (first w) 45)) (plain_digits (drop (lead signed w) w)) scale (plain_fraction (drop (lead signed w) w))
unfolding number_of parts_of below_of power_of marked leading run exponent_fits size
plain-number signed scale w b e =
    let u = drop (lead signed w) w in
    let t : drop (pointed (drop (run u) u)) (drop (run u) u) ≡ [] = drop-drop (pointed (drop (run u) u)) (run u) u ∙ e in
    rw (number-begins signed w, b, e, t, add-zero scale, add-zero (plain_fraction u))

-- in femtoseconds, where the fraction is no finer
pub plain_value : (signed : Bool) (scale : ℕ) (w : List ℕ) (value fraction end v : ℕ)
    → Stands (lead signed w) (drop (lead signed w) w) value fraction end → length w ≤ end
    → fraction ≤ scale → v ≡ min (value * 10 ^ (scale - fraction)) stop
    → at_most (and signed (eqb (first w) 45)) v ≡ number_of signed scale w
plain_value signed scale w value fraction end v r n l e =
    let s = lead signed w in
    let u = drop s w in
    let minus = and signed (eqb (first w) 45) in
    let m = plain_digits u in
    let p = 10 ^ (scale - fraction) in
    let a : drop (size u) u ≡ [] = drop_of_length-le u {i = size u} (omega (arith, length-drop s w, r.ends)) in
    let x : v ≡ min (m * p) stop = e ∙ ap (λ k. min (k * p) stop) r.number ∙ min_scale m p (one-le-pow (scale - fraction) 10 (lit< tt)) in
    ap (at_most minus) x ∙ at_most-min minus (m * p) ∙ sym (up-exact minus m scale fraction l) ∙ ap (exact minus m scale) r.behind
    ∙ sym (plain-number signed scale w r.begun a)
