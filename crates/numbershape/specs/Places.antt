-- Runs of digits and signs, place by place, as a loop over a word meets them.
-- Assumes nothing.
use Rattle.std.specs.Prelude.{ℕ, suc, ◌+◌, ◌-◌, ◌≤◌, ◌<◌, ◌≡◌, refl, Bool, true, false, List, [], ◌∷◌, eqb, length, get_or, drop, Option, Some, None, is_some}
use Rattle.std.proofs.Common.{zero-le, suc-le-suc, ap, add-zero, add-one, arith, drop_of_length-le, length-drop, drop-cons, get_or-drop, drop-drop, eq-eqb, ne_eqb, eqb-true}
use Rattle.std.proofs.lemmas.Bool.{eqb-false}
use Rattle.classes.specs.Choice.{pick, or, and}
use Rattle.classes.specs.Classes.{is_digit}
use Rattle.numbershape.specs.Shape.{first, run, signs, lead, digits_then, pointed, marked, exponent_fits, fraction_fits, below_of, is_number}
use Rattle.numbershape.specs.declared.Parts.{Parts}
use Rattle.numbershape.specs.declared.Power.{Power}

pub run-cons : (b : ℕ) (r : List ℕ) → run (b ∷ r) ≡ pick (is_digit b) (suc (run r)) 0
unfolding run
run-cons b r = refl

pub first-drop : (w : List ℕ) (i : ℕ) → first (drop i w) ≡ get_or w i 0
first-drop w i = rw (get_or-drop, add-zero)

-- a digit at i, none at i, and the end
pub run_on : (w : List ℕ) (i : ℕ) → i < length w → is_digit (get_or w i 0) ≡ true → run (drop i w) ≡ suc (run (drop (i + 1) w))
run_on w i h e = rw (drop-cons w i 0 h, run-cons, e, add-one)

pub run-stop : (w : List ℕ) (i : ℕ) → i < length w → is_digit (get_or w i 0) ≡ false → run (drop i w) ≡ 0
run-stop w i h e = rw (drop-cons w i 0 h, run-cons, e)

pub run_end : (w : List ℕ) (i : ℕ) → length w ≤ i → run (drop i w) ≡ 0
unfolding run
run_end w i h = rw (drop_of_length-le w h)

pub signs-is : (w : List ℕ) (i : ℕ) → signs (drop i w) ≡ pick (or (eqb (get_or w i 0) 43) (eqb (get_or w i 0) 45)) 1 0
unfolding signs
signs-is w i = rw (get_or-drop, add-zero)

pub signs_end : (w : List ℕ) (i : ℕ) → length w ≤ i → signs (drop i w) ≡ 0
unfolding signs
signs_end w i h = rw (drop_of_length-le w h)

pub run_le : (w : List ℕ) → run w ≤ length w
unfolding run
run_le [] = zero-le
run_le (b ∷ r) = by (is_digit b) (run_le r)
  where
    by : (t : Bool) {n m : ℕ} → n ≤ m → pick t (suc n) 0 ≤ suc m
    by true h = suc-le-suc h
    by false h = zero-le

-- the exponent from a place on: whether it is below zero, and where its digits start
unfoldable pub power_at : List ℕ → ℕ → Option Power
power_at w i = pick (exponent_fits (drop i w)) (Some (record { below = below_of (drop i w); power = i + marked (drop i w) })) None

pub power_end : (w : List ℕ) (i : ℕ) → length w ≤ i → power_at w i ≡ Some (record { below = false; power = i })
unfolding power_at exponent_fits below_of marked
power_end w i h = rw (drop_of_length-le w h, add-zero)

pub power_other : (w : List ℕ) (i : ℕ) → i < length w → eqb (get_or w i 0) 101 ≡ false → power_at w i ≡ None
unfolding power_at exponent_fits
power_other w i h e =
    let n : eqb (length w - i) 0 ≡ false = ne_eqb (length w - i) 0 (λ z. omega (arith, z)) in
    rw (get_or-drop, add-zero, e, length-drop, n)

pick-pick : {A : Type 0} (b c : Bool) (x y : A) → pick (pick b false c) x y ≡ pick b y (pick c x y)
pick-pick true c x y = refl
pick-pick false c x y = refl

-- with an e at i, a sign or none behind it and k digits at j
pub power_marked : (w : List ℕ) (i j k : ℕ) → eqb (get_or w i 0) 101 ≡ true → j ≡ (i + 1) + signs (drop (i + 1) w) → k ≡ run (drop j w)
    → power_at w i ≡ pick (eqb k 0) None (pick (eqb (length w - (j + k)) 0) (Some (record { below = eqb (get_or w (i + 1) 0) 45; power = j })) None)
unfolding power_at exponent_fits below_of marked digits_then
power_marked w i j k e ej ek =
    let m : i + (1 + signs (drop (i + 1) w)) ≡ j = omega (arith, ej) in
    rw (
      first-drop w i,
      e,
      drop-drop 1 i w,
      drop-drop (1 + signs (drop (i + 1) w)) i w,
      m,
      ← ek,
      drop-drop k j w,
      length-drop,
      first-drop w (i + 1),
      pick-pick,
    )

-- the fraction from a place on: no point, or a point and digits
pub pointed-none : (w : List ℕ) (i : ℕ) → eqb (get_or w i 0) 46 ≡ false → pointed (drop i w) ≡ 0
unfolding pointed
pointed-none w i e = rw (first-drop w i, e)

pub pointed_end : (w : List ℕ) (i : ℕ) → length w ≤ i → pointed (drop i w) ≡ 0
unfolding pointed
pointed_end w i h = rw (drop_of_length-le w h)

pub pointed-some : (w : List ℕ) (i : ℕ) → eqb (get_or w i 0) 46 ≡ true → pointed (drop i w) ≡ 1 + run (drop (i + 1) w)
unfolding pointed
pointed-some w i e = rw (first-drop w i, e, drop-drop 1 i w)

eqb-more : (n : ℕ) → eqb (1 + n) 1 ≡ eqb n 0
eqb-more n = by (eqb n 0) refl
  where
    by : (b : Bool) → eqb n 0 ≡ b → eqb (1 + n) 1 ≡ b
    by true e = let z : n ≡ 0 = eqb-true n 0 e in eq-eqb (1 + n) 1 (omega arith)
    by false e = ne_eqb (1 + n) 1 (λ z. eqb-false n 0 e (omega (arith, z)))

-- a point alone is one byte
pub fraction_fits_lem : (w : List ℕ) → fraction_fits w ≡ pick (eqb (pointed w) 1) false (exponent_fits (drop (pointed w) w))
unfolding fraction_fits pointed digits_then
fraction_fits_lem w = by (eqb (first w) 46)
  where
    by : (b : Bool) → pick b (pick (eqb (run (drop 1 w)) 0) false (exponent_fits (drop (run (drop 1 w)) (drop 1 w)))) (exponent_fits w)
        ≡ pick (eqb (pick b (1 + run (drop 1 w)) 0) 1) false (exponent_fits (drop (pick b (1 + run (drop 1 w)) 0) w))
    by true = rw (drop-drop (run (drop 1 w)) 1 w, eqb-more (run (drop 1 w)))
    by false = refl

-- where the parts of a number stand
unfoldable pub parts_at : Bool → List ℕ → Parts
parts_at signed w =
    let start = lead signed w in
    let point = start + run (drop start w) in
    let end = point + pointed (drop point w) in
    record {
      minus = and signed (eqb (first w) 45);
      start = start;
      point = point;
      end = end;
      below = below_of (drop end w);
      power = end + marked (drop end w);
    }

unfoldable pub found : Bool → List ℕ → Option Parts
found signed w = pick (is_number signed w) (Some (parts_at signed w)) None

-- the mantissa's places, and what was found of the exponent
abbrev pub joined : Bool → ℕ → ℕ → ℕ → Option Power → Option Parts
joined minus start point end (Some p) =
    Some (record { minus = minus; start = start; point = point; end = end; below = p.below; power = p.power })
joined minus start point end None = None

-- the way of the code: whole digits, the fraction, the exponent
pub found-is : (signed : Bool) (w : List ℕ) (start whole p : ℕ)
    → start ≡ lead signed w → whole ≡ run (drop start w) → p ≡ pointed (drop (start + whole) w)
    → found signed w ≡ pick (eqb whole 0) None
    (pick (eqb p 1) None
    (joined (and signed (eqb (first w) 45)) start (start + whole) (start + whole + p) (power_at w (start + whole + p))))
unfolding found is_number digits_then parts_at power_at
found-is signed w start whole p es ew ep =
    rw (← es, ← ew, drop-drop whole start w, fraction_fits_lem, ← ep, drop-drop p (start + whole) w, pick-pick, pick-pick)
    (ap (λ f. pick (eqb whole 0) None (pick (eqb p 1) None f)) (join (exponent_fits (drop (start + whole + p) w)) _ _ _ _ _ _))
  where
    join : (b minus below : Bool) (start point end power : ℕ)
        → pick b (Some (record { minus = minus; start = start; point = point; end = end; below = below; power = power })) None
        ≡ joined minus start point end (pick b (Some (record { below = below; power = power })) None)
    join true m b s p e q = refl
    join false m b s p e q = refl

-- parts are found exactly where the word is a number
pub found_shape : (signed : Bool) (w : List ℕ) → is_some (found signed w) ≡ is_number signed w
unfolding found
found_shape signed w = by (is_number signed w) (parts_at signed w)
  where
    by : (b : Bool) (p : Parts) → is_some (pick b (Some p) None) ≡ b
    by true p = refl
    by false p = refl
