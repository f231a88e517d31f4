-- The reading of digits one byte after the other, stopped at 10 ^ 15 + 1, and that it comes to the same.
-- Assumes nothing.
use Rattle.std.specs.Prelude.{ℕ, zero, suc, ◌+◌, ◌-◌, ◌*◌, ◌^◌, ◌≤◌, ◌<◌, min, ◌≡◌, refl, Bool, true, false, List, [], ◌∷◌, eqb, leb, length, take, drop, get_or}
use Rattle.std.specs.Prelude.{ℤ, Result, Err}
use Rattle.std.proofs.Common.{ap, sym, ◌∙◌, pow-suc, mul-le-mul_right, mul-le-mul_left, le_of_lt, not-suc-le-zero, le_of_suc-le-suc, add-one, arith, lit<, drop_of_length-le, drop-cons, leb-true, leb-false, eqb-true, ne_eqb, eq-eqb}
use Rattle.std.proofs.Math.Nat.{one-le-pow}
use Rattle.std.proofs.Math.Dec.{eqb-suc-zero}
use Rattle.std.proofs.Math.Seq.{drop-nil, take-nil}
use Rattle.std.proofs.lemmas.Bool.{eqb-false}
use Rattle.numbershape.specs.declared.Digits.{Digits}
use Rattle.numbershape.specs.declared.NotTime.{NotTime}
use Rattle.numbershape.specs.declared.NotTime.TheVariants.{Fine}
use Rattle.classes.specs.Choice.{pick}
use Rattle.numbershape.specs.Value.{horner, limit, at_most, exact}
use Rattle.numbershape.specs.Fast.{zeros, Small, up-exact, down-exact, cut-exact}

-- one more than the limit: where numbers are stopped, since all beyond are alike
abbrev pub stop : ℕ
stop = suc limit

-- the digits among the bytes: what is below 48, the point, is passed over
abbrev pub figures : List ℕ → List ℕ
figures [] = []
figures (b ∷ r) = pick (leb 48 b) ((b - 48) ∷ figures r) (figures r)

abbrev pub made : ℕ → ℕ → Bool → Digits
made v n f = record { value = v; left = n; fine = f }

unfoldable pub step_of : Digits → ℕ → Digits
step_of a b =
    pick (leb 48 b)
    (pick (eqb a.left 0) (pick (eqb b 48) a (made a.value a.left true)) (made (min (a.value * 10 + (b - 48)) stop) (a.left - 1) a.fine))
    a

unfoldable pub fold : (Digits → ℕ → Digits) → Digits → List ℕ → Digits
fold f a [] = a
fold f a (b ∷ r) = fold f (f a b) r

fold-cons : (f : Digits → ℕ → Digits) (a : Digits) (b : ℕ) (r : List ℕ) → fold f a (b ∷ r) ≡ fold f (f a b) r
unfolding fold
fold-cons f a b r = refl

-- one turn of a loop at i, and its end
pub fold_turn : (f : Digits → ℕ → Digits) (a : Digits) (s : List ℕ) (i : ℕ) → i < length s
    → fold f (f a (get_or s i 0)) (drop (i + 1) s) ≡ fold f a (drop i s)
fold_turn f a s i h = rw (drop-cons s i 0 h, add-one, fold-cons)

pub fold_end : (f : Digits → ℕ → Digits) (a : Digits) (s : List ℕ) (i : ℕ) → length s ≤ i → fold f a (drop i s) ≡ a
unfolding fold
fold_end f a s i h = rw (drop_of_length-le s h)

abbrev pub start : ℕ → Digits
start keep = made 0 keep false

abbrev pub answer_of : Bool → Digits → Result ℤ NotTime
answer_of minus a = pick a.fine (Err Fine) (at_most minus a.value)

pub at_most-min : (minus : Bool) (x : ℕ) → at_most minus (min x stop) ≡ at_most minus x
at_most-min minus x = by (leb x limit) refl
  where
    by : (b : Bool) → leb x limit ≡ b → at_most minus (min x stop) ≡ at_most minus x
    by true e =
        let h : x ≤ limit = leb-true x limit e in
        let m : min x stop ≡ x = omega arith in
        rw m
    by false e =
        let h : limit < x = leb-false x limit e in
        let m : min x stop ≡ stop = omega arith in
        rw (m, e)

min_digit : (x d : ℕ) → min (min x stop * 10 + d) stop ≡ min (x * 10 + d) stop
min_digit x d = omega arith

pub min_scale : (x p : ℕ) → 0 < p → min (min x stop * p) stop ≡ min (x * p) stop
min_scale x p h = by (leb x stop) refl
  where
    by : (b : Bool) → leb x stop ≡ b → min (min x stop * p) stop ≡ min (x * p) stop
    by true e =
        let k : x ≤ stop = leb-true x stop e in
        let m : min x stop ≡ x = omega arith in
        rw m
    by false e =
        let k : stop < x = leb-false x stop e in
        let m : min x stop ≡ stop = omega arith in
        rw m (omega (arith, mul-le-mul_right p (le_of_lt k), mul-le-mul_left x h))

skip_is : (b : ℕ) (a : Digits) → leb 48 b ≡ false → step_of a b ≡ a
unfolding step_of
skip_is b a e = rw e

keep-is : (b x n : ℕ) (f : Bool) → leb 48 b ≡ true → step_of (made (min x stop) (suc n) f) b ≡ made (min (x * 10 + (b - 48)) stop) n f
unfolding step_of
keep-is b x n f e =
    let l : suc n - 1 ≡ n = omega arith in
    rw (e, eqb-suc-zero n, min_digit x (b - 48), l)

abbrev Goal : Bool → List ℕ → ℕ → ℕ → Bool → Type 0
Goal minus t x left f =
    answer_of minus (fold step_of (made (min x stop) left f) t)
    ≡ pick f (Err Fine) (pick (zeros (drop left (figures t))) (at_most minus (horner x (take left (figures t)))) (Err Fine))

either_fine : (f : Bool) (x y : Result ℤ NotTime) → x ≡ Err Fine → y ≡ Err Fine → pick true (Err Fine) x ≡ pick f (Err Fine) y
either_fine true x y p q = refl
either_fine false x y p q = sym q

zero_is : (b v : ℕ) (f : Bool) → leb 48 b ≡ true → eqb b 48 ≡ true → step_of (made v 0 f) b ≡ made v 0 f
unfolding step_of
zero_is b v f e k = rw (e, k)

fine_is : (b v : ℕ) (f : Bool) → leb 48 b ≡ true → eqb b 48 ≡ false → step_of (made v 0 f) b ≡ made v 0 true
unfolding step_of
fine_is b v f e k = rw (e, k)

-- past what is kept
zero-step : (minus : Bool) (b : ℕ) (t : List ℕ) (x : ℕ) (f : Bool) → leb 48 b ≡ true → ((f : Bool) → Goal minus t x 0 f)
    → answer_of minus (fold step_of (step_of (made (min x stop) 0 f) b) t) ≡ pick f (Err Fine) (pick (zeros ((b - 48) ∷ figures t)) (at_most minus x) (Err Fine))
zero-step minus b t x f e ih = by (eqb b 48) refl
  where
    by : (c : Bool) → eqb b 48 ≡ c
        → answer_of minus (fold step_of (step_of (made (min x stop) 0 f) b) t)
        ≡ pick f (Err Fine) (pick (zeros ((b - 48) ∷ figures t)) (at_most minus x) (Err Fine))
    by true k =
        let n : eqb (b - 48) 0 ≡ true = eq-eqb (b - 48) 0 (omega (arith, eqb-true b 48 k)) in
        rw (zero_is b (min x stop) f e k, n) (ih f)
    by false k =
        let n : eqb (b - 48) 0 ≡ false = ne_eqb (b - 48) 0 (λ z. eqb-false b 48 k (omega (arith, z, leb-true 48 b e))) in
        rw (fine_is b (min x stop) f e k, n) (ih true ∙ either_fine f (Err Fine) (Err Fine) refl refl)

-- what the steps come to, where left digits are kept
pub steps_cut : (minus : Bool) (t : List ℕ) (x left : ℕ) (f : Bool) → Goal minus t x left f
unfolding fold
steps_cut minus [] x left f = rw (drop-nil left, take-nil left, at_most-min minus x)
steps_cut minus (b ∷ t) x left f = by (leb 48 b) refl left (steps_cut minus t)
  where
    by : (c : Bool) → leb 48 b ≡ c → (left : ℕ) → ((x left : ℕ) (f : Bool) → Goal minus t x left f)
        → answer_of minus (fold step_of (step_of (made (min x stop) left f) b) t)
        ≡ pick f (Err Fine)
        (pick (zeros (drop left (pick c ((b - 48) ∷ figures t) (figures t))))
        (at_most minus (horner x (take left (pick c ((b - 48) ∷ figures t) (figures t))))) (Err Fine))
    by true e zero ih = zero-step minus b t x f e (ih x 0)
    by true e (suc n) ih = rw (keep-is b x n f e) (ih (x * 10 + (b - 48)) n f)
    by false e left ih = rw (skip_is b (made (min x stop) left f) e) (ih x left f)

-- and where all are kept
pub steps_all : (t : List ℕ) (x left : ℕ) → length (figures t) ≤ left
    → (fold step_of (made (min x stop) left false) t).value ≡ min (horner x (figures t)) stop
unfolding fold
steps_all [] x left h = refl
steps_all (b ∷ t) x left h = by (leb 48 b) refl left h (steps_all t)
  where
    by : (c : Bool) → leb 48 b ≡ c → (left : ℕ) → length (pick c ((b - 48) ∷ figures t) (figures t)) ≤ left
        → ((x left : ℕ) → length (figures t) ≤ left
        → (fold step_of (made (min x stop) left false) t).value ≡ min (horner x (figures t)) stop)
        → (fold step_of (step_of (made (min x stop) left false) b) t).value ≡ min (horner x (pick c ((b - 48) ∷ figures t) (figures t))) stop
    by true e zero h ih = absurd (not-suc-le-zero h)
    by true e (suc n) h ih = rw (keep-is b x n false e) (ih (x * 10 + (b - 48)) n (le_of_suc-le-suc h))
    by false e left h ih = rw (skip_is b (made (min x stop) left false) e) (ih x left h)

-- one power of ten more
pub raise_step : (v n : ℕ) → 0 < n → min (min (v * 10 + 0) stop * 10 ^ (n - 1)) stop ≡ min (v * 10 ^ n) stop
raise_step v n h =
    let e : n ≡ suc (n - 1) = omega arith in
    let p : 10 ^ n ≡ 10 ^ (n - 1) * 10 = ap (λ k. 10 ^ k) e ∙ pow-suc 10 (n - 1) in
    min_scale (v * 10 + 0) (10 ^ (n - 1)) (one-le-pow (n - 1) 10 (lit< tt)) ∙ ap (λ k. min k stop) (omega (arith, ap (λ k. v * k) p))

-- the two ways of the code
pub up_way : (minus : Bool) (t : List ℕ) (n up down : ℕ) (a : Digits) (v : ℕ) → n ≡ length (figures t) → down ≤ up
    → a ≡ fold step_of (start n) t → v ≡ min (a.value * 10 ^ (up - down)) stop → at_most minus v ≡ exact minus (horner 0 (figures t)) up down
up_way minus t n up down a v hn h ea ev =
    let m = horner 0 (figures t) in
    let p = 10 ^ (up - down) in
    let c : a.value ≡ min m stop = ap (λ x. x.value) ea ∙ steps_all t 0 n (omega arith) in
    let w : v ≡ min (m * p) stop
    = ev ∙ ap (λ x. min (x * p) stop) c ∙ min_scale m p (one-le-pow (up - down) 10 (lit< tt)) in
    ap (at_most minus) w ∙ at_most-min minus (m * p) ∙ sym (up-exact minus m up down h)

pub down_way : (minus : Bool) (t : List ℕ) → Small (figures t) → (keep up down : ℕ) (a : Digits)
    → keep ≡ length (figures t) - (down - up) → up < down → a ≡ fold step_of (start keep) t → answer_of minus a ≡ exact minus (horner 0 (figures t)) up down
down_way minus t sm keep up down a hk h ea =
    let ds = figures t in
    ap (answer_of minus) ea ∙ steps_cut minus t 0 keep false
    ∙ ap (λ k. pick (zeros (drop k ds)) (at_most minus (horner 0 (take k ds))) (Err Fine)) hk
    ∙ sym (cut-exact minus ds sm (down - up)) ∙ sym (down-exact minus (horner 0 ds) up down h)
