-- A number as document 000's rules write it (A.1.7), and that `is_number` and `parts_of` are those rules.
-- Assumes nothing.
use Rattle.std.specs.Prelude.{ℕ, suc, ◌+◌, ◌-◌, ◌≤◌, ◌<◌, ◌≡◌, refl, Bool, true, false, List, [], ◌∷◌, ◌++◌, eqb, leb, length, take, drop}
use Rattle.std.proofs.Common.{ap, sym, subst, ◌∙◌, append-nil, arith, take-append-drop, drop_at, le-leb, ne_eqb, eqb-true, leb-true}
use Rattle.std.proofs.Math.Seq.{take_at}
use Rattle.std.proofs.lemmas.Bool.{eqb-false}
use Rattle.classes.specs.Choice.{pick, or, and}
use Rattle.classes.specs.Classes.{is_digit}
use Rattle.numbershape.specs.Shape.{first, run, signs, lead, pointed, marked, leading, digits_of, digits_then}
use Rattle.numbershape.specs.Shape.{is_end, exponent_fits, fraction_fits, is_number, Written, fraction_of, below_of, power_of, parts_of}
use Rattle.numbershape.specs.Places.{run-cons}
use Rattle.numbershape.specs.Fast.{Small}
use Rattle.times.specs.Reading.{leads, and-true, then_fits, ended}

-- the bytes of digits
abbrev pub in_bytes : List ℕ → List ℕ
in_bytes [] = []
in_bytes (d ∷ ds) = (48 + d) ∷ in_bytes ds

-- 'integer ::= decimal_digit { decimal_digit }'
abbrev pub Integer : List ℕ → Type 0
Integer ds = (1 ≤ length ds) × Small ds

-- '[ sign ]', 'sign := + | -': whether it is a minus, and its text
pub data Sign : Bool → List ℕ → Type 0 where
  none : Sign false []
  plus : Sign false (43 ∷ [])
  minus : Sign true (45 ∷ [])

-- '[ . integer ]': its digits, and its text
pub data Fraction : List ℕ → List ℕ → Type 0 where
  without : Fraction [] []
  with : (ds : List ℕ) → Integer ds → Fraction ds (46 ∷ in_bytes ds)

-- '[ e [ sign ] integer ]': whether it is below zero, its digits, and its text
pub data Exponent : Bool → List ℕ → List ℕ → Type 0 where
  without : Exponent false [] []
  with : (below : Bool) (sign ds : List ℕ) → Sign below sign → Integer ds → Exponent below ds (101 ∷ sign ++ in_bytes ds)

-- 'Only a signed place also takes a leading + or -.'
pub data Lead : Bool → Bool → List ℕ → Type 0 where
  bare : (signed : Bool) → Lead signed false []
  taken : (minus : Bool) (sign : List ℕ) → Sign minus sign → Lead true minus sign

-- 'real_number ::= integer [ . integer ] [ e [ sign ] integer ]', 'signed_real_number ::= [ sign ] real_number': w writes the number n
pub record Writes (signed : Bool) (n : Written) (w : List ℕ) : Type 0 where
  pub sign : List ℕ
  pub point : List ℕ
  pub rest : List ℕ
  pub led : Lead signed n.minus sign
  pub whole : Integer n.whole
  pub fraction : Fraction n.fraction point
  pub exponent : Exponent n.below n.power rest
  pub text : w ≡ sign ++ (in_bytes n.whole ++ (point ++ rest))

-- a byte of a digit is a digit, and no other sign of a number
digit_byte : (d : ℕ) → d < 10 → is_digit (48 + d) ≡ true
digit_byte d h = rw (le-leb 48 (48 + d) (omega arith), le-leb (48 + d) 57 (omega arith))

-- digits, and then something else: they are the run
run-digits : (ds r : List ℕ) → Small ds → is_digit (first r) ≡ false → run (in_bytes ds ++ r) ≡ length ds
unfolding run
run-digits [] [] h e = refl
run-digits [] (b ∷ r) h e = rw (run-cons b r, e)
run-digits (d ∷ ds) r h e = rw (run-cons (48 + d) (in_bytes ds ++ r), digit_byte d h.0) (ap suc (run-digits ds r h.1 e))

length-bytes : (ds : List ℕ) → length (in_bytes ds) ≡ length ds
length-bytes [] = refl
length-bytes (d ∷ ds) = ap suc (length-bytes ds)

digits-bytes : (ds : List ℕ) → digits_of (in_bytes ds) ≡ ds
digits-bytes [] = refl
digits-bytes (d ∷ ds) = let e : 48 + d - 48 ≡ d = omega arith in rw e (ap (λ l. d ∷ l) (digits-bytes ds))

module _ (ds r : List ℕ) (i : Integer ds) (e : is_digit (first r) ≡ false) where
  pub some-digits : eqb (run (in_bytes ds ++ r)) 0 ≡ false
  some-digits = rw (run-digits ds r i.1 e) (ne_eqb (length ds) 0 (λ z. omega (arith, i.0, z)))

  pub past-digits : drop (run (in_bytes ds ++ r)) (in_bytes ds ++ r) ≡ r
  past-digits = rw (run-digits ds r i.1 e) (drop_at (in_bytes ds) r (length ds) (length-bytes ds))

  pub the_digits : leading (in_bytes ds ++ r) ≡ ds
  unfolding leading
  the_digits = rw (run-digits ds r i.1 e, take_at (in_bytes ds) r (length ds) (length-bytes ds)) (digits-bytes ds)

  pub digits_then_lem : (rest : List ℕ → Bool) → digits_then rest (in_bytes ds ++ r) ≡ rest r
  unfolding digits_then
  digits_then_lem rest = rw (some-digits, past-digits)

-- what integers begin with
first_integer : (ds r : List ℕ) → Integer ds → (is_digit (first (in_bytes ds ++ r)) ≡ true)
first_integer [] r i = absurd (omega (arith, i.0))
first_integer (d ∷ ds) r i = digit_byte d i.1.0

no_sign : (b : ℕ) → is_digit b ≡ true → (eqb b 43 ≡ false) × (eqb b 45 ≡ false)
no_sign b e =
    let s = and-true (leb 48 b) (leb b 57) e in
    let h : 48 ≤ b = leb-true 48 b s.0 in
    (ne_eqb b 43 (λ z. omega (arith, z)), ne_eqb b 45 (λ z. omega (arith, z)))

no_signs : (w : List ℕ) → is_digit (first w) ≡ true → signs w ≡ 0
unfolding signs
no_signs w e = rw ((no_sign (first w) e).0, (no_sign (first w) e).1)

-- the rules are read: the exponent
record PowerRead (below : Bool) (ds t : List ℕ) : Type 0 where
  pub fits : exponent_fits t ≡ true
  pub negative : below_of t ≡ below
  pub digits : power_of t ≡ ds
  pub apart : is_digit (first t) ≡ false
  pub pointless : eqb (first t) 46 ≡ false

-- behind an e: a sign of so many bytes, and digits to the end
behind-e : (u ds : List ℕ) (below : Bool) → Integer ds → drop (signs u) u ≡ in_bytes ds → eqb (first u) 45 ≡ below
    → PowerRead below ds (101 ∷ u)
unfolding exponent_fits below_of power_of marked
behind-e u ds below i d b =
    let s : 1 + signs u ≡ suc (signs u) = omega arith in
    let a : in_bytes ds ≡ in_bytes ds ++ [] = sym (append-nil (in_bytes ds)) in
    record {
      fits = rw (s, d, a) (digits_then_lem ds [] i refl _);
      negative = b;
      digits = rw (s, d, a) (the_digits ds [] i refl);
      apart = refl;
      pointless = refl;
    }

power_read : {below : Bool} {ds t : List ℕ} → Exponent below ds t → PowerRead below ds t
unfolding exponent_fits below_of power_of marked leading run signs
power_read without = record { fits = refl; negative = refl; digits = refl; apart = refl; pointless = refl }
power_read (with below sign ds s i) = by s
  where
    front : is_digit (first (in_bytes ds)) ≡ true
    front = rw append-nil at (first_integer ds [] i)

    by : {below : Bool} {sign : List ℕ} → Sign below sign → PowerRead below ds (101 ∷ sign ++ in_bytes ds)
    by none = behind-e (in_bytes ds) ds false i (rw (no_signs (in_bytes ds) front)) (no_sign (first (in_bytes ds)) front).1
    by plus = behind-e (43 ∷ in_bytes ds) ds false i refl refl
    by minus = behind-e (45 ∷ in_bytes ds) ds true i refl refl

-- the fraction, before such a rest
record PointRead (ds t r : List ℕ) : Type 0 where
  pub fits : fraction_fits (t ++ r) ≡ true
  pub digits : fraction_of (t ++ r) ≡ ds
  pub past : drop (pointed (t ++ r)) (t ++ r) ≡ r
  pub apart : is_digit (first (t ++ r)) ≡ false

point_read : {below : Bool} {ps ds t r : List ℕ} → Fraction ds t → PowerRead below ps r → PointRead ds t r
unfolding fraction_fits fraction_of pointed
point_read without p =
    record { fits = rw p.pointless p.fits; digits = rw p.pointless; past = rw p.pointless; apart = p.apart }
point_read {r} (with ds i) p =
    let s : 1 + run (in_bytes ds ++ r) ≡ suc (run (in_bytes ds ++ r)) = omega arith in
    record {
      fits = digits_then_lem ds r i p.apart exponent_fits ∙ p.fits;
      digits = the_digits ds r i p.apart;
      past = rw s (past-digits ds r i p.apart);
      apart = refl;
    }

-- the leading sign, before a digit
record LeadRead (signed minus : Bool) (t r : List ℕ) : Type 0 where
  pub past : drop (lead signed (t ++ r)) (t ++ r) ≡ r
  pub negative : and signed (eqb (first (t ++ r)) 45) ≡ minus

lead_read : {signed minus : Bool} {t : List ℕ} (r : List ℕ) → is_digit (first r) ≡ true → Lead signed minus t → LeadRead signed minus t r
unfolding signs
lead_read r e (bare signed) = by signed
  where
    by : (signed : Bool) → LeadRead signed false [] r
    by true = record { past = rw (no_signs r e); negative = (no_sign (first r) e).1 }
    by false = record { past = refl; negative = refl }
lead_read r e (taken m sign s) = by s
  where
    by : {minus : Bool} {sign : List ℕ} → Sign minus sign → LeadRead true minus sign r
    by none = record { past = rw (no_signs r e); negative = (no_sign (first r) e).1 }
    by plus = record { past = refl; negative = refl }
    by minus = record { past = refl; negative = refl }

-- WHAT THE RULES WRITE IS A NUMBER, with those parts
pub written-number : (signed : Bool) (n : Written) (w : List ℕ) → Writes signed n w → (is_number signed w ≡ true) × (parts_of signed w ≡ n)
unfolding is_number parts_of
written-number signed n w h =
    let p = power_read h.exponent in
    let f = point_read h.fraction p in
    let tail = h.point ++ h.rest in
    let l = lead_read (in_bytes n.whole ++ tail) (first_integer n.whole tail h.whole) h.led in (
      rw (h.text, l.past) (digits_then_lem n.whole tail h.whole f.apart fraction_fits ∙ f.fits),
      rw (
        h.text,
        l.past,
        l.negative,
        past-digits n.whole tail h.whole f.apart,
        the_digits n.whole tail h.whole f.apart,
        f.digits,
        f.past,
        p.negative,
        p.digits,
      ),
    )

-- and back: a run's bytes are its digits' bytes
bytes_run : (w : List ℕ) → in_bytes (digits_of (take (run w) w)) ≡ take (run w) w
unfolding run
bytes_run [] = refl
bytes_run (b ∷ r) = by (is_digit b) refl (bytes_run r)
  where
    by : (t : Bool) → is_digit b ≡ t → in_bytes (digits_of (take (run r) r)) ≡ take (run r) r
        → in_bytes (digits_of (take (pick t (suc (run r)) 0) (b ∷ r))) ≡ take (pick t (suc (run r)) 0) (b ∷ r)
    by true e h =
        let h48 : 48 ≤ b = leb-true 48 b (and-true (leb 48 b) (leb b 57) e).0 in
        let back : 48 + (b - 48) ≡ b = omega arith in
        rw (back, h)
    by false e h = refl

split-run : (w : List ℕ) → w ≡ in_bytes (leading w) ++ drop (run w) w
unfolding leading
split-run w = sym (ap (λ t. t ++ drop (run w) w) (bytes_run w) ∙ take-append-drop (run w) w)

-- digits, at least one, and then the rest
then_split : (rest : List ℕ → Bool) (w : List ℕ) → digits_then rest w ≡ true → Integer (leading w) × (rest (drop (run w) w) ≡ true)
unfolding leading
then_split rest w h =
    let d = then_fits rest w h in
    let l = leads w in
    ((some (run w) (length (leading w)) l.count (eqb-false (run w) 0 d.0), l.small), d.1)
  where
    some : (n m : ℕ) → m ≡ n → (n ≡ 0 → ⊥) → 1 ≤ m
    some n m e z = omega arith

-- a sign or none
sign_of : (w : List ℕ) → (t : List ℕ) × Sign (eqb (first w) 45) t × (w ≡ t ++ drop (signs w) w)
unfolding signs
sign_of [] = ([], none, refl)
sign_of (b ∷ r) = by (eqb b 43) (eqb b 45) refl refl
  where
    by : (x y : Bool) → eqb b 43 ≡ x → eqb b 45 ≡ y → (t : List ℕ) × Sign y t × (b ∷ r ≡ t ++ drop (pick (or x y) 1 0) (b ∷ r))
    by true true e f = absurd (omega (arith, eqb-true b 43 e, eqb-true b 45 f))
    by true false e f = (43 ∷ [], plus, ap (λ n. n ∷ r) (eqb-true b 43 e))
    by false true e f = (45 ∷ [], minus, ap (λ n. n ∷ r) (eqb-true b 45 f))
    by false false e f = ([], none, refl)

exponent_e : (v : List ℕ) → digits_then is_end (drop (signs v) v) ≡ true → Exponent (eqb (first v) 45) (leading (drop (signs v) v)) (101 ∷ v)
exponent_e v h =
    let x = drop (signs v) v in
    let d = then_split is_end x h in
    let s = sign_of v in
    let end : x ≡ in_bytes (leading x)
    = split-run x ∙ ap (λ t. in_bytes (leading x) ++ t) (ended (drop (run x) x) d.1) ∙ append-nil (in_bytes (leading x)) in
    let e : v ≡ s.0 ++ in_bytes (leading x) = s.2 ∙ ap (λ t. s.0 ++ t) end in
    subst (λ t. Exponent (eqb (first v) 45) (leading x) (101 ∷ t)) (sym e) (with (eqb (first v) 45) s.0 (leading x) s.1 d.0)

exponent_of : (u : List ℕ) → exponent_fits u ≡ true → Exponent (below_of u) (power_of u) u
unfolding exponent_fits below_of power_of marked leading run
exponent_of [] h = without
exponent_of (b ∷ v) h = by (eqb b 101) refl h
  where
    by : (t : Bool) → eqb b 101 ≡ t → pick t (digits_then is_end (drop (pick t (1 + signs v) 0) (b ∷ v))) (is_end (b ∷ v)) ≡ true
        → Exponent (and t (eqb (first v) 45)) (leading (drop (pick t (1 + signs v) 0) (b ∷ v))) (b ∷ v)
    by true e k = let s : 1 + signs v ≡ suc (signs v) = omega arith in rw (s, eqb-true b 101 e) (exponent_e v (rw s at k))
    by false e k = absurd (omega (arith, eqb-true (suc (length v)) 0 k))

fraction_of_lem : (v : List ℕ) → fraction_fits v ≡ true
    → (t : List ℕ) × Fraction (fraction_of v) t × (v ≡ t ++ drop (pointed v) v) × (exponent_fits (drop (pointed v) v) ≡ true)
unfolding fraction_fits fraction_of pointed
fraction_of_lem [] h = ([], without, refl, h)
fraction_of_lem (b ∷ r) h = by (eqb b 46) refl h
  where
    by : (t : Bool) → eqb b 46 ≡ t → pick t (digits_then exponent_fits r) (exponent_fits (b ∷ r)) ≡ true
        → (s : List ℕ) × Fraction (pick t (leading r) []) s × (b ∷ r ≡ s ++ drop (pick t (1 + run r) 0) (b ∷ r))
        × (exponent_fits (drop (pick t (1 + run r) 0) (b ∷ r)) ≡ true)
    by true e k =
        let s : 1 + run r ≡ suc (run r) = omega arith in
        let d = then_split exponent_fits r k in
        (46 ∷ in_bytes (leading r), with (leading r) d.0, rw (s, eqb-true b 46 e) (ap (λ l. 46 ∷ l) (split-run r)), rw s d.1)
    by false e k = ([], without, refl, k)

lead_of : (signed : Bool) (w : List ℕ) → (t : List ℕ) × Lead signed (and signed (eqb (first w) 45)) t × (w ≡ t ++ drop (lead signed w) w)
lead_of true w = let s = sign_of w in (s.0, taken (eqb (first w) 45) s.0 s.1, s.2)
lead_of false w = ([], bare false, refl)

-- A NUMBER IS WRITTEN BY THE RULES
pub number-written : (signed : Bool) (w : List ℕ) → is_number signed w ≡ true → Writes signed (parts_of signed w) w
unfolding is_number parts_of
number-written signed w h =
    let l = lead_of signed w in
    let body = drop (lead signed w) w in
    let d = then_split fraction_fits body h in
    let tail = drop (run body) body in
    let f = fraction_of_lem tail d.1 in
    record {
      sign = l.0;
      point = f.0;
      rest = drop (pointed tail) tail;
      led = l.1;
      whole = d.0;
      fraction = f.1;
      exponent = exponent_of (drop (pointed tail) tail) f.3;
      text = l.2 ∙ ap (λ t. l.0 ++ t) (split-run body ∙ ap (λ t. in_bytes (leading body) ++ t) f.2);
    }
