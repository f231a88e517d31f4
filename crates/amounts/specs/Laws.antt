-- The words agree with the history of a slot: what is added, refused and written is what one step of the history says.
-- Assumes nothing.
use Rattle.std.specs.Prelude.{◌≡◌, ℕ, suc, ◌+◌, ◌-◌, ◌*◌, ◌%◌, ◌^◌, ◌≤◌, Bool, true, false, cond, ◌↔◌, ℤ, pos, negsuc, ◌+ℤ◌, ◌==◌, ◌≢◌, nat_le, nat_lt, unsigned_abs, refl}
use Rattle.std.proofs.Common.{sym, ap, ◌∙◌, arith, of_z, leb-true, leb-false, ltb-true, ltb-false, le-leb, eqb-true, ne_eqb}
use Rattle.std.proofs.Math.Option.{none, some}
use Rattle.std.specs.Int.{w64}
use Rattle.std.proofs.lemmas.Bool.{lt-leb}
use Rattle.classes.specs.Choice.{pick, or}
use Rattle.history.specs.Events.{limit, Value, Supply, nothing, replace, add, Held, holds, fails, summed, step, final, fails_with}
use Rattle.history.specs.Sheet.{Group, absolute, increment, check, giving}
use Rattle.history.specs.Ranges.{InRange}
use Rattle.slots.specs.Slots.{numeral, word_of}
use Rattle.amounts.specs.Amounts.{empty, near, sum, refusal, changed, lesser}

-- 1. Refusals

-- the least of the numbers that apply; 0 for none
unfoldable pub first_of : Bool → Bool → Bool → ℕ
first_of a b c = pick a 14 (pick b 15 (pick c 16 0))

pub lesser-first : (a b c a' b' c' : Bool) → lesser (first_of a b c) (first_of a' b' c') ≡ first_of (or a a') (or b b') (or c c')
unfolding first_of lesser
lesser-first true b c true b' c' = refl
lesser-first true b c false true c' = refl
lesser-first true b c false false true = refl
lesser-first true b c false false false = refl
lesser-first false true c true b' c' = refl
lesser-first false true c false true c' = refl
lesser-first false true c false false true = refl
lesser-first false true c false false false = refl
lesser-first false false true true b' c' = refl
lesser-first false false true false true c' = refl
lesser-first false false true false false true = refl
lesser-first false false true false false false = refl
lesser-first false false false true b' c' = refl
lesser-first false false false false true c' = refl
lesser-first false false false false false true = refl
lesser-first false false false false false false = refl

-- the number with which a history has failed; 0 where it has not
unfoldable pub held_refusal : Held → ℕ
held_refusal (holds v) = 0
held_refusal (fails n) = n

pub held_first : (v : Value) (x : Supply) → held_refusal (step v x) ≡ first_of false (fails_with 15 (step v x)) (fails_with 16 (step v x))
unfolding step summed held_refusal fails_with first_of
held_first v nothing = refl
held_first v (replace t) = refl
held_first none (add t) = refl
held_first (some u) (add t) = go (nat_le (unsigned_abs (u +ℤ t)) limit)
  where
    go : (b : Bool) → held_refusal (pick b (holds (some (u +ℤ t))) (fails 16))
        ≡ first_of false (fails_with 15 (pick b (holds (some (u +ℤ t))) (fails 16))) (fails_with 16 (pick b (holds (some (u +ℤ t))) (fails 16)))
    go true = refl
    go false = refl

-- 2. Sums of words

difference : (a b : ℕ) (t : Bool) → nat_lt a b ≡ t → a ≤ limit → b ≤ limit
    → (a + (2 ^ 64 - b)) % 2 ^ 64 ≡ of_z w64 (cond t (negsuc (b - suc a)) (pos (a - b)))
difference a b true e h k = let l = ltb-true a b e in omega arith
difference a b false e h k = let l = ltb-false a b e in omega arith

-- the sum of the words is the word of the sum
pub sum_word : (x y : ℤ) → unsigned_abs x ≤ limit → unsigned_abs y ≤ limit → sum (of_z w64 x) (of_z w64 y) ≡ of_z w64 (x +ℤ y)
sum_word (pos a) (pos b) h k = omega arith
sum_word (pos a) (negsuc b) h k = difference a (suc b) (nat_lt a (suc b)) refl h k
sum_word (negsuc a) (pos b) h k =
    let z : (2 ^ 64 - suc a) + b ≡ b + (2 ^ 64 - suc a) = omega arith in
    rw z (difference b (suc a) (nat_lt b (suc a)) refl k h)
sum_word (negsuc a) (negsuc b) h k = omega arith

below : (a b : ℕ) (t : Bool) → nat_lt a b ≡ t → unsigned_abs (cond t (negsuc (b - suc a)) (pos (a - b))) ≤ a + b
below a b true e = let h = ltb-true a b e in omega arith
below a b false e = omega arith

pub sum-size : (x y : ℤ) → unsigned_abs (x +ℤ y) ≤ unsigned_abs x + unsigned_abs y
sum-size (pos a) (pos b) = omega arith
sum-size (pos a) (negsuc b) = below a (suc b) (nat_lt a (suc b)) refl
sum-size (negsuc a) (pos b) = let h = below b (suc a) (nat_lt b (suc a)) refl in omega arith
sum-size (negsuc a) (negsuc b) = omega arith

or-false : (b : Bool) → or b false ≡ b
or-false true = refl
or-false false = refl

-- the test on a word is that on the number
pub near_word : (z : ℤ) → unsigned_abs z ≤ 2 * limit → near (of_z w64 z) ≡ nat_le (unsigned_abs z) limit
unfolding near
near_word (pos n) h = rw (lt-leb 18445744073709551616 n (omega arith)) (or-false (nat_le n 1000000000000000))
near_word (negsuc n) h = go (nat_le (suc n) limit) refl
  where
    go : (b : Bool) → nat_le (suc n) limit ≡ b
        → or (nat_le (2 ^ 64 - suc n) 1000000000000000) (nat_le 18445744073709551616 (2 ^ 64 - suc n)) ≡ nat_le (suc n) limit
    go true e =
        let l = leb-true (suc n) limit e in
        rw (lt-leb (2 ^ 64 - suc n) 1000000000000000 (omega arith), le-leb 18445744073709551616 (2 ^ 64 - suc n) (omega arith), e)
    go false e =
        let l = leb-false (suc n) limit e in
        rw (lt-leb (2 ^ 64 - suc n) 1000000000000000 (omega arith), lt-leb 18445744073709551616 (2 ^ 64 - suc n) (omega arith), e)

-- 3. One value given another

-- INCREMENT adds
unfoldable pub is_add : Group → Bool
is_add absolute = false
is_add increment = true
is_add check = false

-- a time within the limit is not taken for empty
filled : (z : ℤ) → unsigned_abs z ≤ limit → of_z w64 z ≢ empty
filled (pos n) h e = omega arith
filled (negsuc n) h e = omega arith

not-empty : (z : ℤ) → unsigned_abs z ≤ limit → (of_z w64 z == empty) ≡ false
not-empty z h = ne_eqb (of_z w64 z) empty (filled z h)

pub word_is-empty : (w : Value) → InRange w → ((word_of w == empty) ≡ true) ↔ (w ≡ none)
unfolding word_of numeral
word_is-empty none r = (λ e. refl, λ e. refl)
word_is-empty (some z) r = (
  λ e. absurd (filled z r (eqb-true (of_z w64 z) empty e)),
  λ e. let n : ◌≡◌ {A = ℕ} 0 1 = cc in absurd (omega arith),
)

pub given-none : (g : Group) (v : Value) → final (step v (giving g none)) ≡ v
unfolding giving step final
given-none absolute v = refl
given-none increment v = refl
given-none check v = refl

-- adding z to u: refused if the sum is beyond the limit
sum-refusal : (u z : ℤ) → unsigned_abs u ≤ limit → unsigned_abs z ≤ limit
    → pick (near (sum (of_z w64 u) (of_z w64 z))) 0 16 ≡ held_refusal (summed (u +ℤ z))
unfolding held_refusal summed
sum-refusal u z h k =
    let s = sum-size u z in
    rw (sum_word u z h k, near_word (u +ℤ z) (omega arith)) (go (nat_le (unsigned_abs (u +ℤ z)) limit))
  where
    go : (b : Bool) → pick b 0 16 ≡ held_refusal (pick b (holds (some (u +ℤ z))) (fails 16))
    go true = refl
    go false = refl

-- the words refuse what the history refuses
pub refusal_is : (g : Group) (v w : Value) → InRange v → InRange w
    → refusal (is_add g) (word_of v) (word_of w) ≡ held_refusal (step v (giving g w))
unfolding refusal is_add word_of numeral giving step held_refusal
refusal_is absolute v none r q = refl
refusal_is increment v none r q = refl
refusal_is check v none r q = refl
refusal_is absolute v (some z) r q = rw (not-empty z q)
refusal_is check v (some z) r q = rw (not-empty z q)
refusal_is increment none (some z) r q = rw (not-empty z q)
refusal_is increment (some u) (some z) r q = rw (not-empty z q, not-empty u r) (sum-refusal u z r q)

-- a sum that is not refused is the value
sum_held : (y : ℤ) → held_refusal (summed y) ≡ 0 → final (summed y) ≡ some y
unfolding held_refusal summed final
sum_held y = go (nat_le (unsigned_abs y) limit)
  where
    go : (b : Bool) → held_refusal (pick b (holds (some y)) (fails 16)) ≡ 0 → final (pick b (holds (some y)) (fails 16)) ≡ some y
    go true e = refl
    go false e = absurd (omega arith)

-- where nothing is refused, the word written is that of the history's value
pub changed-is : (g : Group) (v w : Value) → InRange v → InRange w → (w ≢ none) → refusal (is_add g) (word_of v) (word_of w) ≡ 0
    → changed (is_add g) (word_of v) (word_of w) ≡ word_of (final (step v (giving g w)))
unfolding changed is_add word_of numeral giving step final held_refusal
changed-is g v none r q n e = absurd (n refl)
changed-is absolute v (some z) r q n e = refl
changed-is check v (some z) r q n e = refl
changed-is increment none (some z) r q n e =
    let f : ◌≡◌ {A = ℕ} 15 0 = sym (refusal_is increment none (some z) r q) ∙ e in
    absurd (omega arith)
changed-is increment (some u) (some z) r q n e =
    sum_word u z r q ∙ sym (ap word_of (sum_held (u +ℤ z) (sym (refusal_is increment (some u) (some z) r q) ∙ e)))
