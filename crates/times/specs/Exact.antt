-- THE LAW: which of the four answers a word gets, exactly when, in document 01's terms and document 000's rules.
-- Assumes nothing.
use Rattle.std.specs.Prelude.{ℕ, zero, suc, ◌+◌, ◌*◌, ◌/◌, ◌%◌, ◌^◌, ◌≤◌, ◌<◌, ◌≡◌, refl, Bool, true, false, List, ◌↔◌, ◌⊎◌, eqb, leb, ℤ, pos, nat_abs, Result, Ok, Err}
use Rattle.std.specs.Int.{◌∣◌}
use Rattle.std.proofs.Common.{ap, sym, ◌∙◌, inl, inr, ⊎_elim, arith, lit<, le-leb, ne_eqb, eqb-true, leb-true, leb-false}
use Rattle.std.proofs.Math.Nat.{one-le-pow, mul-mod_left, mul-div_cancel, div-mul_cancel, mod-eq-zero_of_dvd, dvd_of_mod-eq-zero, dvd-mul_left}
use Rattle.std.proofs.lemmas.Bool.{lt-leb, eqb-false}
use Rattle.classes.specs.Choice.{pick}
use Rattle.numbershape.specs.declared.NotTime.{NotTime}
use Rattle.numbershape.specs.declared.NotTime.TheVariants.{Fine, Beyond, Wrong}
use Rattle.numbershape.specs.Shape.{is_number, Written, parts_of}
use Rattle.numbershape.specs.Value.{limit, with_sign, at_most, exact, digits, up, down, number_of, refusal}
use Rattle.times.specs.Reading.{no, value-wrong}
use Rattle.times.specs.Grammar.{Lead, bare, Writes, written-number, number-written}

-- a number stands for product / divisor femtoseconds, with a time scale of 10 ^ scale femtoseconds
abbrev pub product : ℕ → Written → ℕ
product scale n = digits n * 10 ^ (scale + up n)

abbrev pub divisor : Written → ℕ
divisor n = 10 ^ down n

-- z is that, with the number's sign, and 'at most 10^15 either way'
pub record IsTime (scale : ℕ) (n : Written) (z : ℤ) : Type 0 where
  pub whole : product scale n ≡ nat_abs z * divisor n
  pub near : nat_abs z ≤ limit
  pub sign : z ≡ with_sign n.minus (nat_abs z)

-- 'whole, but beyond 10^15'
abbrev pub IsFar : ℕ → Written → Type 0
IsFar scale n = (q : ℕ) × (product scale n ≡ q * divisor n) × (limit < q)

-- each answer exactly when
pub record Exactly (signed : Bool) (scale : ℕ) (w : List ℕ) (r : Result ℤ NotTime) : Type 0 where
  pub time : (z : ℤ) → (r ≡ Ok z) ↔ ((n : Written) × Writes signed n w × IsTime scale n z)
  pub fine : (refusal r ≡ 6) ↔ ((n : Written) × Writes signed n w × (divisor n ∣ product scale n → ⊥))
  pub beyond : (refusal r ≡ 7) ↔ ((n : Written) × Writes signed n w × IsFar scale n)
  pub wrong : (refusal r ≡ 4) ↔ ((n : Written) → Writes signed n w → ⊥)

nat_abs_sign : (minus : Bool) (q : ℕ) → nat_abs (with_sign minus q) ≡ q
nat_abs_sign true zero = refl
nat_abs_sign true (suc q) = refl
nat_abs_sign false q = refl

-- what a written number gets
abbrev answer : ℕ → Written → Result ℤ NotTime
answer scale n = exact n.minus (digits n) (scale + up n) (down n)

-- it is whole, or not
module _ (scale : ℕ) (n : Written) where
  positive : 0 < divisor n
  positive = one-le-pow (down n) 10 (lit< tt)

  is_whole : (q : ℕ) → product scale n ≡ q * divisor n → answer scale n ≡ at_most n.minus q
  unfolding exact
  is_whole q e = rw (e, mul-mod_left q (divisor n), mul-div_cancel q positive)

  is_fine : (divisor n ∣ product scale n → ⊥) → answer scale n ≡ Err Fine
  unfolding exact
  is_fine f = rw (ne_eqb (product scale n % divisor n) 0 (λ z. f (dvd_of_mod-eq-zero (divisor n) z)))

  either : ((q : ℕ) × (product scale n ≡ q * divisor n)) ⊎ (divisor n ∣ product scale n → ⊥)
  either = by (eqb (product scale n % divisor n) 0) refl
    where
      by : (b : Bool) → eqb (product scale n % divisor n) 0 ≡ b
          → ((q : ℕ) × (product scale n ≡ q * divisor n)) ⊎ (divisor n ∣ product scale n → ⊥)
      by true e =
          inl (
            product scale n / divisor n,
            sym (div-mul_cancel (divisor n) (dvd_of_mod-eq-zero (divisor n) (eqb-true (product scale n % divisor n) 0 e))),
          )
      by false e = inr (λ d. eqb-false (product scale n % divisor n) 0 e (mod-eq-zero_of_dvd (divisor n) d))

  divides : (q : ℕ) → product scale n ≡ q * divisor n → divisor n ∣ product scale n
  divides q e = rw e (dvd-mul_left (divisor n) q)

-- the three answers that a written number may get, each with its reason
data View (scale : ℕ) (n : Written) : Result ℤ NotTime → Type 0 where
  near : (q : ℕ) → product scale n ≡ q * divisor n → q ≤ limit → View scale n (Ok (with_sign n.minus q))
  far : (q : ℕ) → product scale n ≡ q * divisor n → limit < q → View scale n (Err Beyond)
  finer : (divisor n ∣ product scale n → ⊥) → View scale n (Err Fine)

view : (scale : ℕ) (n : Written) → View scale n (answer scale n)
view scale n =
    ⊎_elim
    (λ p. rw (is_whole scale n p.0 p.1) (by p.0 p.1 (leb p.0 limit) refl))
    (λ f. rw (is_fine scale n f) (finer f))
    (either scale n)
  where
    by : (q : ℕ) → product scale n ≡ q * divisor n → (b : Bool) → leb q limit ≡ b
        → View scale n (pick b (Ok (with_sign n.minus q)) (Err Beyond))
    by q e true h = near q e (leb-true q limit h)
    by q e false h = far q e (leb-false q limit h)

module _ (scale : ℕ) (n : Written) where
  to_time : (r : Result ℤ NotTime) (z : ℤ) → View scale n r → r ≡ Ok z → IsTime scale n z
  to_time r z (near q e h) k =
      let s : z ≡ with_sign n.minus q = cc in
      let a : nat_abs z ≡ q = ap nat_abs s ∙ nat_abs_sign n.minus q in
      record { whole = rw a e; near = rw a h; sign = rw a s }
  to_time r z (far q e h) k = let f : ◌≡◌ {A = ℕ} 0 1 = cc in absurd (omega arith)
  to_time r z (finer f) k = let f : ◌≡◌ {A = ℕ} 0 1 = cc in absurd (omega arith)

  from_time : (z : ℤ) → IsTime scale n z → answer scale n ≡ Ok z
  from_time z t = is_whole scale n (nat_abs z) t.whole ∙ rw (le-leb (nat_abs z) limit t.near) (ap Ok (sym t.sign))

  to_fine : (r : Result ℤ NotTime) → View scale n r → refusal r ≡ 6 → divisor n ∣ product scale n → ⊥
  to_fine r (near q e h) k d = omega (arith, k)
  to_fine r (far q e h) k d = omega (arith, k)
  to_fine r (finer f) k d = f d

  to_far : (r : Result ℤ NotTime) → View scale n r → refusal r ≡ 7 → IsFar scale n
  to_far r (near q e h) k = absurd (omega (arith, k))
  to_far r (far q e h) k = (q, e, h)
  to_far r (finer f) k = absurd (omega (arith, k))

  from_far : IsFar scale n → answer scale n ≡ Err Beyond
  from_far f = is_whole scale n f.0 f.1 ∙ rw (lt-leb f.0 limit f.2)

  not-wrong : (r : Result ℤ NotTime) → View scale n r → refusal r ≡ 4 → ⊥
  not-wrong r (near q e h) k = omega (arith, k)
  not-wrong r (far q e h) k = omega (arith, k)
  not-wrong r (finer f) k = omega (arith, k)

-- the answer of a word that the rules write
of_written : (signed : Bool) (scale : ℕ) (w : List ℕ) (n : Written) → Writes signed n w → number_of signed scale w ≡ answer scale n
unfolding number_of
of_written signed scale w n h = let p = written-number signed n w h in rw (p.0, p.1)

-- the parts of a number, and the view of its answer
data Case (signed : Bool) (scale : ℕ) (w : List ℕ) : Result ℤ NotTime → Type 0 where
  number : (n : Written) {r : Result ℤ NotTime} → Writes signed n w → View scale n r → Case signed scale w r
  other : ((n : Written) → Writes signed n w → ⊥) → Case signed scale w (Err Wrong)

case : (signed : Bool) (scale : ℕ) (w : List ℕ) → Case signed scale w (number_of signed scale w)
case signed scale w = by (is_number signed w) refl
  where
    by : (b : Bool) → is_number signed w ≡ b → Case signed scale w (number_of signed scale w)
    by true e =
        let h = number-written signed w e in
        rw (of_written signed scale w (parts_of signed w) h) (number (parts_of signed w) h (view scale (parts_of signed w)))
    by false e = rw (value-wrong signed scale w e) (other (λ n h. no (sym e ∙ (written-number signed n w h).0)))

pub number-exact : (signed : Bool) (scale : ℕ) (w : List ℕ) → Exactly signed scale w (number_of signed scale w)
number-exact signed scale w =
    let c = case signed scale w in
    record {
      time = λ z. (time (number_of signed scale w) z c, λ p. of_written signed scale w p.0 p.1 ∙ from_time scale p.0 z p.2);
      fine = (fine (number_of signed scale w) c, λ p. ap refusal (of_written signed scale w p.0 p.1 ∙ is_fine scale p.0 p.2));
      beyond = (beyond (number_of signed scale w) c, λ p. ap refusal (of_written signed scale w p.0 p.1 ∙ from_far scale p.0 p.2));
      wrong = (wrong (number_of signed scale w) c, λ f. ap refusal (wrong_back f));
    }
  where
    time : (r : Result ℤ NotTime) (z : ℤ) → Case signed scale w r → r ≡ Ok z → (n : Written) × Writes signed n w × IsTime scale n z
    time r z (number n h v) e = (n, h, to_time scale n r z v e)
    time r z (other f) e = let f : ◌≡◌ {A = ℕ} 0 1 = cc in absurd (omega arith)

    fine : (r : Result ℤ NotTime) → Case signed scale w r → refusal r ≡ 6
        → (n : Written) × Writes signed n w × (divisor n ∣ product scale n → ⊥)
    fine r (number n h v) e = (n, h, to_fine scale n r v e)
    fine r (other f) e = absurd (omega (arith, e))

    beyond : (r : Result ℤ NotTime) → Case signed scale w r → refusal r ≡ 7 → (n : Written) × Writes signed n w × IsFar scale n
    beyond r (number n h v) e = (n, h, to_far scale n r v e)
    beyond r (other f) e = absurd (omega (arith, e))

    wrong : (r : Result ℤ NotTime) → Case signed scale w r → refusal r ≡ 4 → (n : Written) → Writes signed n w → ⊥
    wrong r (number n h v) e m k = not-wrong scale n r v e
    wrong r (other f) e m k = f m k

    wrong_back : ((n : Written) → Writes signed n w → ⊥) → number_of signed scale w ≡ Err Wrong
    wrong_back f = back (is_number signed w) refl
      where
        back : (b : Bool) → is_number signed w ≡ b → number_of signed scale w ≡ Err Wrong
        back true e = absurd (f (parts_of signed w) (number-written signed w e))
        back false e = value-wrong signed scale w e

-- what callers go by: no number's shape exactly if `Wrong`; a time is within 10^15; and in a place without signs not below zero
pub wrong_shape : (signed : Bool) (scale : ℕ) (w : List ℕ) → (number_of signed scale w ≡ Err Wrong) ↔ (is_number signed w ≡ false)
wrong_shape signed scale w = (by (is_number signed w) refl, value-wrong signed scale w)
  where
    by : (b : Bool) → is_number signed w ≡ b → number_of signed scale w ≡ Err Wrong → is_number signed w ≡ false
    by true e k = absurd ((number-exact signed scale w).wrong.0 (ap refusal k) (parts_of signed w) (number-written signed w e))
    by false e k = e

pub time_near : (signed : Bool) (scale : ℕ) (w : List ℕ) (z : ℤ) → number_of signed scale w ≡ Ok z → nat_abs z ≤ limit
time_near signed scale w z e = (((number-exact signed scale w).time z).0 e).2.near

pub time_unsigned : (scale : ℕ) (w : List ℕ) (z : ℤ) → number_of false scale w ≡ Ok z → z ≡ pos (nat_abs z)
time_unsigned scale w z e =
    let t = ((number-exact false scale w).time z).0 e in
    t.2.sign ∙ ap (λ m. with_sign m (nat_abs z)) (unled t.1.led)
  where
    unled : {m : Bool} {t : List ℕ} → Lead false m t → m ≡ false
    unled (bare s) = refl
