-- Laws of digits and points where they stand: they begin as the text does, and what comes behind them does not count.
-- Assumes nothing.
use Rattle.std.specs.Prelude.{ℕ, zero, suc, ◌+◌, ◌-◌, ◌*◌, ◌^◌, ◌≤◌, ◌<◌, min, ◌≡◌, refl, Bool, true, List, [], ◌∷◌, eqb, leb, ℤ, get_or, take, drop}
use Rattle.std.specs.Prelude.{Some, None, Result, Ok, Err}
use Rattle.std.proofs.Math.Path.{ap}
use Rattle.std.proofs.Common.{sym, ◌∙◌, true≢false, arith, le_of_suc-le-suc, not-suc-le-zero, length-take, length-drop, drop-drop, get_or-drop, get_or-take, ne_eqb, eqb-true, leb-true}
use Rattle.std.proofs.Math.Bool.{false}
use Rattle.std.proofs.Math.Dec.{eqb-suc-zero}
use Rattle.std.proofs.Math.ListN.{length}
use Rattle.classes.specs.Choice.{pick, or}
use Rattle.classes.specs.Classes.{is_digit}
use Rattle.numbershape.specs.Shape.{first, run, signs, pointed, leading, exponent_fits, fraction_fits, fraction_of, is_number, parts_of}
use Rattle.numbershape.specs.Places.{first-drop}
use Rattle.numbershape.specs.Value.{at_most, number_of}
use Rattle.numbershape.specs.declared.NotTime.{NotTime}
use Rattle.numbershape.specs.declared.NotTime.TheVariants.{Wrong}
use Rattle.numbershape.specs.Steps.{stop}
use Rattle.times.specs.declared.PlainTime as time
use Rattle.times.specs.Reading.{value-wrong, and-true, then_fits}
use Rattle.times.specs.Plain.{begins, size, size_le, made_plain, plain_of, number-begins, plain_value, Stands}
use Rattle.times.specs.Standing.{is_dotted, dotted, plain_time, time_to, plainly}

-- the digits that a text begins with are kept
record Kept (u : List ℕ) : Type 0 where
  count : run (dotted u) ≡ run u
  taken : take (run u) (dotted u) ≡ take (run u) u
  rest : drop (run u) (dotted u) ≡ dotted (drop (run u) u)

kept : (u : List ℕ) → Kept u
unfolding run dotted
kept [] = record { count = refl; taken = refl; rest = refl }
kept (b ∷ r) = by (is_digit b) refl (kept r)
  where
    none : (t : Bool) → is_digit b ≡ false → run (pick t (b ∷ dotted r) []) ≡ 0
    none true e = rw e
    none false e = refl

    all : (u : List ℕ) (n : ℕ) → n ≡ 0 → drop n (dotted u) ≡ dotted (drop n u)
    all u n e = rw e

    by : (t : Bool) → is_digit b ≡ t → Kept r → Kept (b ∷ r)
    by true e h =
        record {
          count = rw (e, e) (ap suc h.count);
          taken = rw e (ap (λ l. b ∷ l) h.taken);
          rest = rw e h.rest;
        }
    by false e h =
        record {
          count = none (is_dotted b) e ∙ sym (rw e);
          taken = rw e;
          rest = all (b ∷ r) (run (b ∷ r)) (rw e);
        }

kept_leading : (u : List ℕ) → leading (dotted u) ≡ leading u
unfolding leading
kept_leading u = rw ((kept u).count, (kept u).taken)

-- and so is a point
or-false : (x y : Bool) → or x y ≡ false → y ≡ false
or-false true y e = absurd (true≢false e)
or-false false y e = e

or_right : (x y : Bool) → y ≡ true → or x y ≡ true
or_right true y e = refl
or_right false y e = e

kept_point : (v : List ℕ) → eqb (first (dotted v)) 46 ≡ eqb (first v) 46
unfolding dotted
kept_point [] = refl
kept_point (b ∷ r) = by (is_dotted b) refl
  where
    by : (t : Bool) → is_dotted b ≡ t → eqb (first (pick t (b ∷ dotted r) [])) 46 ≡ eqb b 46
    by true e = refl
    by false e = sym (or-false (is_digit b) (eqb b 46) e)

kept_next : (v : List ℕ) → eqb (first v) 46 ≡ true → drop 1 (dotted v) ≡ dotted (drop 1 v)
unfolding dotted
kept_next [] e = refl
kept_next (b ∷ r) e = rw (or_right (is_digit b) (eqb b 46) e)

kept_pointed : (v : List ℕ) → pointed (dotted v) ≡ pointed v
unfolding pointed
kept_pointed v = rw (kept_point v) (by (eqb (first v) 46) refl)
  where
    by : (t : Bool) → eqb (first v) 46 ≡ t → pick t (1 + run (drop 1 (dotted v))) 0 ≡ pick t (1 + run (drop 1 v)) 0
    by true e = rw (kept_next v e, (kept (drop 1 v)).count)
    by false e = refl

kept_fraction : (v : List ℕ) → fraction_of (dotted v) ≡ fraction_of v
unfolding fraction_of
kept_fraction v = rw (kept_point v) (by (eqb (first v) 46) refl)
  where
    by : (t : Bool) → eqb (first v) 46 ≡ t → pick t (leading (drop 1 (dotted v))) [] ≡ pick t (leading (drop 1 v)) []
    by true e = rw (kept_next v e, kept_leading (drop 1 v))
    by false e = refl

kept_rest : (v : List ℕ) → drop (pointed v) (dotted v) ≡ dotted (drop (pointed v) v)
unfolding pointed
kept_rest v = by (eqb (first v) 46) refl
  where
    by : (t : Bool) → eqb (first v) 46 ≡ t → drop (pick t (1 + run (drop 1 v)) 0) (dotted v) ≡ dotted (drop (pick t (1 + run (drop 1 v)) 0) v)
    by true e =
        sym (drop-drop (run (drop 1 v)) 1 (dotted v)) ∙ ap (drop (run (drop 1 v))) (kept_next v e) ∙ (kept (drop 1 v)).rest
        ∙ ap dotted (drop-drop (run (drop 1 v)) 1 v)
    by false e = refl

-- so digits, with or without a point and digits behind it, are the same
kept_begins : (u : List ℕ) → begins (dotted u) ≡ begins u
unfolding begins
kept_begins u = rw ((kept u).count, (kept u).rest, kept_pointed (drop (run u) u))

kept_size : (u : List ℕ) → size (dotted u) ≡ size u
unfolding size
kept_size u = rw ((kept u).count, (kept u).rest, kept_pointed (drop (run u) u))

kept_behind : (u : List ℕ) → drop (size u) (dotted u) ≡ dotted (drop (size u) u)
unfolding size
kept_behind u =
    let v = drop (run u) u in
    sym (drop-drop (pointed v) (run u) (dotted u)) ∙ ap (drop (pointed v)) (kept u).rest ∙ kept_rest v
    ∙ ap dotted (drop-drop (pointed v) (run u) u)

-- no digit stands where they end
over : (u : List ℕ) → is_digit (first (drop (run u) u)) ≡ false
unfolding run
over [] = refl
over (b ∷ r) = by (is_digit b) refl (over r)
  where
    by : (t : Bool) → is_digit b ≡ t → is_digit (first (drop (run r) r)) ≡ false → is_digit (first (drop (pick t (suc (run r)) 0) (b ∷ r))) ≡ false
    by true e h = h
    by false e h = e

size_over : (u : List ℕ) → is_digit (first (drop (size u) u)) ≡ false
unfolding size pointed
size_over u =
    let v = drop (run u) u in
    ap (λ l. is_digit (first l)) (sym (drop-drop (pointed v) (run u) u)) ∙ by v (eqb (first v) 46) (over u)
  where
    by : (v : List ℕ) (t : Bool) → is_digit (first v) ≡ false → is_digit (first (drop (pick t (1 + run (drop 1 v)) 0) v)) ≡ false
    by v true e = ap (λ l. is_digit (first l)) (sym (drop-drop (run (drop 1 v)) 1 v)) ∙ over (drop 1 v)
    by v false e = e

-- a point there, and any other byte
dotted_point : (v : List ℕ) → eqb (first v) 46 ≡ true → exponent_fits (dotted v) ≡ false
unfolding exponent_fits dotted
dotted_point [] e = absurd (true≢false (sym e))
dotted_point (b ∷ r) e =
    let z : b ≡ 46 = eqb-true b 46 e in
    rw (z, eqb-suc-zero (length (dotted r)))

dotted-none : (v : List ℕ) → is_digit (first v) ≡ false → eqb (first v) 46 ≡ false → dotted v ≡ []
unfolding dotted
dotted-none [] d e = refl
dotted-none (b ∷ r) d e = rw (d, e)

-- they are what the text begins with
dotted-take : (u : List ℕ) → take (length (dotted u)) u ≡ dotted u
unfolding dotted
dotted-take [] = refl
dotted-take (b ∷ r) = by (is_dotted b) (dotted-take r)
  where
    by : (t : Bool) → take (length (dotted r)) r ≡ dotted r → take (length (pick t (b ∷ dotted r) [])) (b ∷ r) ≡ pick t (b ∷ dotted r) []
    by true h = ap (λ l. b ∷ l) h
    by false h = refl

dotted-each : (u : List ℕ) (k : ℕ) → k < length (dotted u) → is_dotted (get_or u k 0) ≡ true
unfolding dotted
dotted-each [] k h = absurd (not-suc-le-zero h)
dotted-each (b ∷ r) k h = by (is_dotted b) refl k h (dotted-each r)
  where
    by : (t : Bool) → is_dotted b ≡ t → (k : ℕ) → k < length (pick t (b ∷ dotted r) [])
        → ((k : ℕ) → k < length (dotted r) → is_dotted (get_or r k 0) ≡ true) → is_dotted (get_or (b ∷ r) k 0) ≡ true
    by true e zero h f = e
    by true e (suc k) h f = f k (le_of_suc-le-suc h)
    by false e k h f = absurd (not-suc-le-zero h)

-- what was found where they stand is found in them alone
kept_stands : {s : ℕ} {u : List ℕ} {value fraction end : ℕ}
    → Stands s u value fraction end → Stands 0 (dotted u) value fraction (end - s)
kept_stands {s} {u} r =
    let v = drop (run u) u in
    record {
      begun = kept_begins u ∙ r.begun;
      number = rw (kept_leading u, (kept u).count, (kept u).rest, kept_fraction v) r.number;
      behind = rw ((kept u).count, (kept u).rest, kept_fraction v) r.behind;
      ends = omega (arith, r.ends, kept_size u);
    }

-- no time: where they begin otherwise
wrongly : (scale : ℕ) (w : List ℕ) (s : ℕ) → number_of false scale (dotted (drop s w)) ≡ Err Wrong → plainly scale w s ≡ None
unfolding plainly
wrongly scale w s e = rw e

pub plainly-none : (scale : ℕ) (w : List ℕ) (s : ℕ) → plain_of s (drop s w) ≡ None → plainly scale w s ≡ None
unfolding plain_of
plainly-none scale w s h =
    let d = dotted (drop s w) in
    let b : begins (drop s w) ≡ false = by (begins (drop s w)) _ _ _ h in
    wrongly scale w s (value-wrong false scale d (number-begins false d ∙ rw (kept_begins (drop s w), b)))
  where
    by : (t : Bool) (v f e : ℕ) → pick t (Some (made_plain v f e)) None ≡ None → t ≡ false
    by true v f e k = let z : ◌≡◌ {A = ℕ} 0 1 = cc in absurd (omega arith)
    by false v f e k = refl

module _ (scale : ℕ) (w : List ℕ) (s value fraction end : ℕ) (r : Stands s (drop s w) value fraction end) where
  ends_at : drop (size (drop s w)) (drop s w) ≡ drop end w
  ends_at = drop-drop (size (drop s w)) s w ∙ ap (λ n. drop n w) (sym r.ends)

  -- or go on with a point
  pub plainly-more : eqb (get_or w end 0) 46 ≡ true → plainly scale w s ≡ None
  plainly-more e =
      let u = drop s w in
      let d = dotted u in
      let p : exponent_fits (dotted (drop end w)) ≡ false = dotted_point (drop end w) (rw (first-drop w end) e) in
      wrongly scale w s (value-wrong false scale d (number-begins false d ∙ rw (kept_begins u, r.begun, kept_size u, kept_behind u, ends_at, p)))

  -- otherwise they end there
  module _ (e : eqb (get_or w end 0) 46 ≡ false) where
    none-behind : drop (size (drop s w)) (dotted (drop s w)) ≡ []
    none-behind =
        let o : is_digit (first (drop end w)) ≡ false = ap (λ l. is_digit (first l)) (sym ends_at) ∙ size_over (drop s w) in
        kept_behind (drop s w) ∙ ap dotted ends_at ∙ dotted-none (drop end w) o (rw (first-drop w end) e)

    dotted_end : length (dotted (drop s w)) ≡ end - s
    dotted_end =
        let d = dotted (drop s w) in
        omega (arith, size_le d, kept_size (drop s w), ap length none-behind, length-drop (size (drop s w)) d, r.ends)

    plainly-is : plainly scale w s ≡ time_to end (number_of false scale (dotted (drop s w)))
    unfolding plainly
    plainly-is =
        let n : s + length (dotted (drop s w)) ≡ end = omega (arith, dotted_end, r.ends) in
        ap (λ k. time_to k (number_of false scale (dotted (drop s w)))) n

    -- and are read as any word is, or in one pass
    pub plainly_any : plainly scale w s ≡ time_to end (number_of false scale (take (end - s) (drop s w)))
    plainly_any = rw (← dotted_end, dotted-take (drop s w)) plainly-is

    pub plainly-value : (v : ℕ) → fraction ≤ scale → v ≡ min (value * 10 ^ (scale - fraction)) stop → plainly scale w s ≡ time_to end (at_most false v)
    plainly-value v l x =
        plainly-is
        ∙ ap (time_to end) (sym (plain_value false scale (dotted (drop s w)) value fraction (end - s) v (kept_stands r) (omega (arith, dotted_end)) l x))

-- a word that begins with a digit is the same number in either place
pub number_unsigned : (signed : Bool) (scale : ℕ) (w : List ℕ) → is_digit (first w) ≡ true → number_of signed scale w ≡ number_of false scale w
unfolding number_of is_number parts_of signs
number_unsigned false scale w d = refl
number_unsigned true scale w d =
    let low : 48 ≤ first w = leb-true 48 (first w) (and-true (leb 48 (first w)) (leb (first w) 57) d).0 in
    rw (ne_eqb (first w) 43 (λ e. omega arith), ne_eqb (first w) 45 (λ e. omega arith))

-- a number that is a time begins with a digit
run-first : (u : List ℕ) → eqb (run u) 0 ≡ false → is_digit (first u) ≡ true
unfolding run
run-first [] e = absurd (true≢false e)
run-first (b ∷ r) e = by (is_digit b) e
  where
    by : (t : Bool) → eqb (pick t (suc (run r)) 0) 0 ≡ false → t ≡ true
    by true k = refl
    by false k = absurd (true≢false k)

time_first : (scale : ℕ) (w : List ℕ) (z : ℤ) → number_of false scale w ≡ Ok z → is_digit (first w) ≡ true
unfolding is_number
time_first scale w z h = by (is_number false w) refl
  where
    by : (t : Bool) → is_number false w ≡ t → is_digit (first w) ≡ true
    by true e = run-first w (then_fits fraction_fits w e).0
    by false e = let x = value-wrong false scale w e in let y : ◌≡◌ {A = ℕ} 0 1 = cc in absurd (omega arith)

time_of : (n : Result ℤ NotTime) (a e : ℕ) (z : ℤ) → time_to a n ≡ Some (plain_time z e) → (n ≡ Ok z) × (a ≡ e)
time_of (Ok y) a e z h = let t : plain_time y a ≡ plain_time z e = cc in (ap (λ (x : time.PlainTime). Ok x.femtoseconds) t, ap (λ (x : time.PlainTime). x.end) t)
time_of (Err n) a e z h = let x : ◌≡◌ {A = ℕ} 0 1 = cc in absurd (omega arith)

digit_some : (l : List ℕ) → is_digit (first l) ≡ true → 0 < length l
digit_some [] e = absurd (true≢false (sym e))
digit_some (b ∷ r) e = omega arith

-- a time that stands from p to e: digits and points, which are a word of that time in either place
pub record PlainTime (scale : ℕ) (s : List ℕ) (p : ℕ) (z : ℤ) (e : ℕ) : Type 0 where
  pub some : p < e
  pub fits : e ≤ length s
  pub digit : is_digit (get_or s p 0) ≡ true
  pub each : (k : ℕ) → p ≤ k → k < e → is_dotted (get_or s k 0) ≡ true
  pub time : (signed : Bool) → number_of signed scale (take (e - p) (drop p s)) ≡ Ok z

pub plainly_time : (scale : ℕ) (s : List ℕ) (p : ℕ) (z : ℤ) (e : ℕ) → plainly scale s p ≡ Some (plain_time z e) → PlainTime scale s p z e
unfolding plainly
plainly_time scale s p z e h =
    let u = drop p s in
    let t = time_of (number_of false scale (dotted u)) (p + length (dotted u)) e z h in
    let d : is_digit (first (dotted u)) ≡ true = time_first scale (dotted u) z t.0 in
    let o : 0 < length (dotted u) = digit_some (dotted u) d in
    let n : e - p ≡ length (dotted u) = omega (arith, t.1) in
    let w : take (e - p) u ≡ dotted u = ap (λ k. take k u) n ∙ dotted-take u in
    let f : get_or s p 0 ≡ first (dotted u)
    = sym (first-drop s p) ∙ sym (get_or-take (e - p) u 0 0 (omega arith)) ∙ ap first w in
    record {
      some = omega (arith, t.1);
      fits = omega (arith, t.1, ap length w, length-take (e - p) u, length-drop p s);
      digit = ap is_digit f ∙ d;
      each = λ k l m.
          let i : p + (k - p) ≡ k = omega arith in
          ap (λ j. is_dotted (get_or s j 0)) (sym i) ∙ ap is_dotted (sym (get_or-drop p s (k - p) 0)) ∙ dotted-each u (k - p) (omega arith);
      time = λ signed. rw w (number_unsigned signed scale (dotted u) d ∙ t.0);
    }
