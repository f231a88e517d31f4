-- What the parts found in a word come to: its digits, its exponent, and so its value.
-- Assumes nothing.
use Rattle.std.specs.Prelude.{ℕ, suc, ◌+◌, ◌-◌, ◌≤◌, min, ◌≡◌, refl, Bool, true, false, List, [], ◌∷◌, ◌++◌, eqb, leb, length, take, drop}
use Rattle.std.specs.Prelude.{ℤ, Option, Some, None, is_some, Result, Err}
use Rattle.std.proofs.Common.{zero-le, ap, sym, ◌∙◌, arith, length-append, length-drop, drop-drop, take-add, eqb-true, leb-true}
use Rattle.std.proofs.Math.Nat.{add-zero}
use Rattle.std.proofs.Math.Seq.{take-length}
use Rattle.classes.specs.Choice.{pick, or, and}
use Rattle.classes.specs.Classes.{is_digit}
use Rattle.numbershape.specs.declared.Parts.{Parts}
use Rattle.numbershape.specs.Shape.{Written, first, run, signs, lead, pointed, marked, leading}
use Rattle.numbershape.specs.Shape.{digits_of, digits_then, is_end, exponent_fits, is_number, fraction_of, power_of, parts_of}
use Rattle.numbershape.specs.Value.{horner, exact, number_of}
use Rattle.numbershape.specs.Places.{run-cons, run_le, fraction_fits_lem, parts_at, found, found_shape}
use Rattle.numbershape.specs.Fast.{Small}
use Rattle.times.specs.Exponent.{stop-up, stop-down}
use Rattle.numbershape.specs.declared.NotTime.{NotTime}
use Rattle.numbershape.specs.declared.NotTime.TheVariants.{Wrong}
use Rattle.numbershape.specs.Steps.{figures}

figures-append : (a b : List ℕ) → figures (a ++ b) ≡ figures a ++ figures b
figures-append [] b = refl
figures-append (x ∷ a) b = by (leb 48 x) (figures-append a b)
  where
    by : (t : Bool) → figures (a ++ b) ≡ figures a ++ figures b
        → pick t ((x - 48) ∷ figures (a ++ b)) (figures (a ++ b)) ≡ pick t ((x - 48) ∷ figures a) (figures a) ++ figures b
    by true e = ap (λ l. (x - 48) ∷ l) e
    by false e = e

pub and-true : (x y : Bool) → and x y ≡ true → (x ≡ true) × (y ≡ true)
and-true true y e = (refl, e)
and-true false y e = let z : ◌≡◌ {A = ℕ} 0 1 = cc in absurd (omega arith)

-- the digits that a text begins with: they are all the figures there, as many as the run is long, each below ten
pub record Leads (w : List ℕ) : Type 0 where
  pub same : figures (take (run w) w) ≡ digits_of (take (run w) w)
  pub count : length (digits_of (take (run w) w)) ≡ run w
  pub small : Small (digits_of (take (run w) w))

pub leads : (w : List ℕ) → Leads w
unfolding run
leads [] = record { same = refl; count = refl; small = tt }
leads (b ∷ r) = by (is_digit b) refl (leads r)
  where
    by : (t : Bool) → is_digit b ≡ t → Leads r → Leads (b ∷ r)
    by true e h =
        let s = and-true (leb 48 b) (leb b 57) e in
        let lo : 48 ≤ b = leb-true 48 b s.0 in
        let hi : b ≤ 57 = leb-true b 57 s.1 in
        record {
          same = rw (run-cons b r, e, s.0) (ap (λ l. (b - 48) ∷ l) h.same);
          count = rw (run-cons b r, e) (ap suc h.count);
          small = rw (run-cons b r, e) (omega arith, h.small);
        }
    by false e h = record { same = rw (run-cons b r, e); count = rw (run-cons b r, e); small = rw (run-cons b r, e) tt }

-- the same of the digits behind a point
pub record Follows (v : List ℕ) : Type 0 where
  pub same : figures (take (pointed v) v) ≡ fraction_of v
  pub count : length (fraction_of v) ≡ pointed v - 1
  pub small : Small (fraction_of v)
  pub ends : pointed v ≤ length v

pub follows : (v : List ℕ) → Follows v
unfolding pointed fraction_of leading
follows [] = record { same = refl; count = refl; small = tt; ends = zero-le }
follows (b ∷ r) = by (eqb b 46) refl (leads r)
  where
    by : (t : Bool) → eqb b 46 ≡ t → Leads r → Follows (b ∷ r)
    by true e h =
        let z : b ≡ 46 = eqb-true b 46 e in
        let s : 1 + run r ≡ suc (run r) = omega arith in
        let d : suc (run r) - 1 ≡ run r = omega arith in
        rw z record { same = rw s h.same; count = rw (s, d) h.count; small = h.small; ends = rw s (omega (arith, run_le r)) }
    by false e h = record { same = rw e; count = rw e; small = rw e tt; ends = rw e zero-le }

small-append : (a b : List ℕ) → Small a → Small b → Small (a ++ b)
small-append [] b h k = k
small-append (x ∷ a) b h k = (h.0, small-append a b h.1 k)

pub no : {X : Type 0} → false ≡ true → X
no e = let z : ◌≡◌ {A = ℕ} 0 1 = cc in absurd (omega arith)

-- digits, and then the rest
pub then_fits : (rest : List ℕ → Bool) (w : List ℕ) → digits_then rest w ≡ true → (eqb (run w) 0 ≡ false) × (rest (drop (run w) w) ≡ true)
unfolding digits_then
then_fits rest w h = by (eqb (run w) 0) refl h
  where
    by : (t : Bool) → eqb (run w) 0 ≡ t → pick t false (rest (drop (run w) w)) ≡ true
        → (eqb (run w) 0 ≡ false) × (rest (drop (run w) w) ≡ true)
    by true e k = no k
    by false e k = (e, k)

pub fits_then : (rest : List ℕ → Bool) (w : List ℕ) → eqb (run w) 0 ≡ false → rest (drop (run w) w) ≡ true → digits_then rest w ≡ true
unfolding digits_then
fits_then rest w e h = rw e h

-- nothing more
pub ended : (w : List ℕ) → is_end w ≡ true → w ≡ []
ended [] h = refl
ended (b ∷ r) h = absurd (omega (arith, eqb-true (suc (length r)) 0 h))

-- an exponent goes on to the word's end
power_all : (u : List ℕ) → exponent_fits u ≡ true → leading (drop (marked u) u) ≡ digits_of (drop (marked u) u)
unfolding exponent_fits leading marked
power_all u h =
    ap (λ n. digits_of (take n (drop (marked u) u))) (by (eqb (first u) 101) h) ∙ ap digits_of (take-length (drop (marked u) u))
  where
    all : (v : List ℕ) → is_end (drop (run v) v) ≡ true → run v ≡ length v
    all v k = omega (arith, eqb-true (length (drop (run v) v)) 0 k, length-drop (run v) v, run_le v)

    by : (t : Bool) → pick t (digits_then is_end (drop (pick t (1 + signs (drop 1 u)) 0) u)) (is_end u) ≡ true
        → run (drop (pick t (1 + signs (drop 1 u)) 0) u) ≡ length (drop (pick t (1 + signs (drop 1 u)) 0) u)
    by true k = let v = drop (1 + signs (drop 1 u)) u in all v (then_fits is_end v k).1
    by false k = omega (arith, eqb-true (length u) 0 k, run_le u)

-- a number's parts, by their places
abbrev pub read_at : Parts → List ℕ → Written
read_at p w =
    record {
      minus = p.minus;
      whole = leading (drop p.start w);
      fraction = fraction_of (drop p.point w);
      below = p.below;
      power = leading (drop p.power w);
    }

parts-at : (signed : Bool) (w : List ℕ) → parts_of signed w ≡ read_at (parts_at signed w) w
unfolding parts_of parts_at power_of
parts-at signed w =
    let s = lead signed w in
    let p = s + run (drop s w) in
    let e = p + pointed (drop p w) in
    rw (drop-drop (run (drop s w)) s w, drop-drop (pointed (drop p w)) p w, drop-drop (marked (drop e w)) e w)

-- a number's exponent fits at its place
fits-at : (signed : Bool) (w : List ℕ) → is_number signed w ≡ true → exponent_fits (drop (parts_at signed w).end w) ≡ true
unfolding is_number digits_then parts_at
fits-at signed w h =
    let s = lead signed w in
    let p = s + run (drop s w) in
    by (eqb (run (drop s w)) 0) (eqb (pointed (drop p w)) 1) _
    (rw (drop-drop (run (drop s w)) s w, fraction_fits_lem (drop p w), drop-drop (pointed (drop p w)) p w) at h)
  where
    by : (t u v : Bool) → pick t false (pick u false v) ≡ true → v ≡ true
    by true u v k = no k
    by false true v k = no k
    by false false v k = k

lead_le : (signed : Bool) (w : List ℕ) → lead signed w ≤ length w
unfolding signs
lead_le false w = zero-le
lead_le true [] = zero-le
lead_le true (b ∷ r) = by (or (eqb b 43) (eqb b 45))
  where
    by : (t : Bool) → pick t 1 0 ≤ suc (length r)
    by true = omega arith
    by false = zero-le

behind : (w : List ℕ) (i n : ℕ) → i ≤ length w → n ≤ length (drop i w) → i + n ≤ length w
behind w i n h k = omega (arith, length-drop i w)

-- all that the code goes by, once the parts are found
pub record Reads (signed : Bool) (w : List ℕ) (p : Parts) : Type 0 where
  pub number : is_number signed w ≡ true
  pub parts : parts_of signed w ≡ read_at p w
  pub start_point : p.start ≤ p.point
  pub point_end : p.point ≤ p.end
  pub end_word : p.end ≤ length w
  pub mantissa : figures (take (p.end - p.start) (drop p.start w)) ≡ leading (drop p.start w) ++ fraction_of (drop p.point w)
  pub wholes : length (leading (drop p.start w)) ≡ p.point - p.start
  pub fractions : length (fraction_of (drop p.point w)) ≡ p.end - p.point - 1
  pub small : Small (leading (drop p.start w) ++ fraction_of (drop p.point w))
  pub power : leading (drop p.power w) ≡ digits_of (drop p.power w)

reads_at : (signed : Bool) (w : List ℕ) → is_number signed w ≡ true → Reads signed w (parts_at signed w)
unfolding parts_at leading
reads_at signed w h =
    let s = lead signed w in
    let u = drop s w in
    let p = s + run u in
    let v = drop p w in
    let l = leads u in
    let f = follows v in
    let d : drop (run u) u ≡ v = drop-drop (run u) s w in
    let a : p + pointed v - s ≡ run u + pointed v = omega arith in
    let b : p - s ≡ run u = omega arith in
    let c : p + pointed v - p - 1 ≡ pointed v - 1 = omega arith in
    record {
      number = h;
      parts = parts-at signed w;
      start_point = omega arith;
      point_end = omega arith;
      end_word = behind w p (pointed v) (behind w s (run u) (lead_le signed w) (run_le u)) f.ends;
      mantissa = rw (a, take-add (run u) (pointed v) u, d, figures-append) (cc (l.same, f.same));
      wholes = rw b l.count;
      fractions = rw c f.count;
      small = small-append (leading u) (fraction_of v) l.small f.small;
      power = rw (sym (drop-drop (marked (drop (p + pointed v) w)) (p + pointed v) w)) (power_all (drop (p + pointed v) w) (fits-at signed w h));
    }

-- and where they are found
pub reads : (signed : Bool) (w : List ℕ) (p : Parts) → found signed w ≡ Some p → Reads signed w p
unfolding found
reads signed w p h = by (is_number signed w) refl h
  where
    by : (t : Bool) → is_number signed w ≡ t → pick t (Some (parts_at signed w)) None ≡ Some p → Reads signed w p
    by true e k = let q : parts_at signed w ≡ p = cc in rw q at (reads_at signed w e)
    by false e k = let z : ◌≡◌ {A = ℕ} 0 1 = cc in absurd (omega arith)

-- how many digits the mantissa has, and that each is below ten
module _ (signed : Bool) (w : List ℕ) (p : Parts) (r : Reads signed w p) where
  pub figures-count : length (figures (take (p.end - p.start) (drop p.start w))) ≡ p.point - p.start + (p.end - p.point - 1)
  figures-count = rw (r.mantissa, length-append, r.wholes, r.fractions)

  pub figures-small : Small (figures (take (p.end - p.start) (drop p.start w)))
  figures-small = rw r.mantissa r.small

  -- the value with an exponent below zero, and with another; the exponent is stopped at a bound
  pub value-below : (scale : ℕ) → p.below ≡ true
      → number_of signed scale w
      ≡ exact p.minus (horner 0 (figures (take (p.end - p.start) (drop p.start w)))) scale
      (p.end - p.point - 1 + min (horner 0 (digits_of (drop p.power w))) (scale + (p.point - p.start) + 1))
  unfolding number_of
  value-below scale b =
      rw (r.number, r.parts, b, r.power, add-zero, ← r.mantissa, r.fractions)
      (stop-down p.minus (figures (take (p.end - p.start) (drop p.start w))) figures-small scale (p.end - p.point - 1)
      (horner 0 (digits_of (drop p.power w))) (p.point - p.start) figures-count)

  pub value_above : (scale : ℕ) → p.below ≡ false
      → number_of signed scale w
      ≡ exact p.minus (horner 0 (figures (take (p.end - p.start) (drop p.start w))))
      (scale + min (horner 0 (digits_of (drop p.power w))) (p.end - p.point - 1 + 16)) (p.end - p.point - 1)
  unfolding number_of
  value_above scale b =
      rw (r.number, r.parts, b, r.power, add-zero, ← r.mantissa, r.fractions)
      (stop-up p.minus (horner 0 (figures (take (p.end - p.start) (drop p.start w)))) scale (p.end - p.point - 1)
      (horner 0 (digits_of (drop p.power w))))

pub value-wrong : (signed : Bool) (scale : ℕ) (w : List ℕ) → is_number signed w ≡ false → number_of signed scale w ≡ Err Wrong
unfolding number_of
value-wrong signed scale w e = rw e

-- the value by the places found: small numbers only, whatever the exponent
abbrev pub placed : ℕ → List ℕ → Option Parts → Result ℤ NotTime
placed scale w (Some p) =
    let m = horner 0 (figures (take (p.end - p.start) (drop p.start w))) in
    let f = p.end - p.point - 1 in
    let e = horner 0 (digits_of (drop p.power w)) in
    pick p.below (exact p.minus m scale (f + min e (scale + (p.point - p.start) + 1))) (exact p.minus m (scale + min e (f + 16)) f)
placed scale w None = Err Wrong

pub number-placed : (signed : Bool) (scale : ℕ) (w : List ℕ) → number_of signed scale w ≡ placed scale w (found signed w)
number-placed signed scale w = by (found signed w) refl
  where
    split : (p : Parts) → Reads signed w p → (b : Bool) → p.below ≡ b → number_of signed scale w ≡ placed scale w (Some p)
    split p r true b = value-below signed w p r scale b ∙ rw b
    split p r false b = value_above signed w p r scale b ∙ rw b

    by : (f : Option Parts) → found signed w ≡ f → number_of signed scale w ≡ placed scale w f
    by (Some p) e = split p (reads signed w p e) p.below refl
    by None e = value-wrong signed scale w (sym (found_shape signed w) ∙ ap is_some e)
