-- Which values may stand in a slot, said of numbers; the form's test of bits says just that.
-- Assumes nothing.
use Prim.Native.Nat.{ℕ, suc, ◌-◌, ◌≤◌, ◌<◌}
use Rattle.std.specs.Prelude.{◌≡◌, Bool, ◌↔◌, ℤ, pos, negsuc}
use Rattle.std.proofs.Math.Path.{refl}
use Rattle.std.proofs.Math.Bool.{true, false}
use native.Mathlib.Omega.{arith}
use Rattle.std.proofs.Math.Dec.{leb, eqb}
use Rattle.std.specs.Int.{w64}
use Rattle.std.proofs.Common.{SFits, of_z}
use borrow.Author.Tests.{leb-true, leb-false, eqb-true, le-leb, lt-leb, ne_eqb}
use Rattle.classes.specs.Choice.{pick}
use Rattle.kinds.specs.Kinds.{is_signed}
use Rattle.sheetparts.specs.Form.{used, value_ok}

-- 'The least 64-bit number means empty'
abbrev pub least : ℤ
least = negsuc 9223372036854775807

-- 'every other value is within 10^15 either way, and not below zero in a check that takes unsigned values. Checks use row 1, two-value checks
-- rows 1 and 2; their other rows are empty.' (`negsuc n` is the number -(n + 1).)
pub data MayStand (kind slot : ℕ) : ℤ → Type 0 where
  empty : MayStand kind slot least
  upward : (n : ℕ) → slot < used kind → n ≤ 1000000000000000 → MayStand kind slot (pos n)
  downward : (n : ℕ) → slot < used kind → suc n ≤ 1000000000000000 → is_signed kind ≡ true → MayStand kind slot (negsuc n)

no : {X : Type 0} → false ≡ true → X
no e = let z : ◌≡◌ {A = ℕ} 0 1 = cc in absurd (omega arith)

module _ (k i : ℕ) where
  -- a number that is not below zero
  up : (n : ℕ) → n < 9223372036854775808 → value_ok k i n ≡ true → MayStand k i (pos n)
  unfolding value_ok
  up n h = by (eqb n 9223372036854775808) refl (leb (used k) i) refl (leb n 1000000000000000) refl (leb 18445744073709551616 n) refl
    where
      by : (t : Bool) → eqb n 9223372036854775808 ≡ t → (u : Bool) → leb (used k) i ≡ u → (v : Bool) → leb n 1000000000000000 ≡ v
          → (w : Bool) → leb 18445744073709551616 n ≡ w
          → pick t true (pick u false (pick v true (pick w (is_signed k) false))) ≡ true → MayStand k i (pos n)
      by true a u b v c w d e = let z = eqb-true n 9223372036854775808 a in absurd (omega arith)
      by false a true b v c w d e = no e
      by false a false b true c w d e = upward n (leb-false (used k) i b) (leb-true n 1000000000000000 c)
      by false a false b false c true d e = let z = leb-true 18445744073709551616 n d in absurd (omega arith)
      by false a false b false c false d e = no e

  -- and one below zero, by its bits
  down : (n : ℕ) → n < 9223372036854775808 → value_ok k i (18446744073709551616 - suc n) ≡ true → MayStand k i (negsuc n)
  unfolding value_ok
  down n h =
      by (eqb (18446744073709551616 - suc n) 9223372036854775808) refl (leb (used k) i) refl (leb
      (18446744073709551616 - suc n) 1000000000000000) refl
      (leb 18445744073709551616 (18446744073709551616 - suc n)) refl
    where
      by : (t : Bool) → eqb (18446744073709551616 - suc n) 9223372036854775808 ≡ t → (u : Bool) → leb (used k) i ≡ u
          → (v : Bool) → leb (18446744073709551616 - suc n) 1000000000000000 ≡ v
          → (w : Bool) → leb 18445744073709551616 (18446744073709551616 - suc n) ≡ w
          → pick t true (pick u false (pick v true (pick w (is_signed k) false))) ≡ true → MayStand k i (negsuc n)
      by true a u b v c w d e =
          let z = eqb-true (18446744073709551616 - suc n) 9223372036854775808 a in
          let m : n ≡ 9223372036854775807 = omega arith in
          rw m empty
      by false a true b v c w d e = no e
      by false a false b true c w d e = let z = leb-true (18446744073709551616 - suc n) 1000000000000000 c in absurd (omega arith)
      by false a false b false c true d e =
          let z = leb-true 18445744073709551616 (18446744073709551616 - suc n) d in
          downward n (leb-false (used k) i b) (omega arith) e
      by false a false b false c false d e = no e

  fits : (z : ℤ) → SFits w64 z → value_ok k i (of_z w64 z) ≡ true → MayStand k i z
  fits (pos n) f e = up n f.sfits e
  fits (negsuc n) f e = down n f.sfits e

  stands : (z : ℤ) → MayStand k i z → value_ok k i (of_z w64 z) ≡ true
  unfolding value_ok
  stands z empty = refl
  stands z (upward n h l) =
      rw (ne_eqb n 9223372036854775808 (λ q. omega arith), lt-leb (used k) i h, le-leb n 1000000000000000 l)
  stands z (downward n h l s) =
      rw (
        ne_eqb (18446744073709551616 - suc n) 9223372036854775808 (λ q. omega arith),
        lt-leb (used k) i h,
        lt-leb (18446744073709551616 - suc n) 1000000000000000 (omega arith),
        le-leb 18445744073709551616 (18446744073709551616 - suc n) (omega arith),
        s,
      )

  -- the law
  pub value_rule : (z : ℤ) → SFits w64 z → (value_ok k i (of_z w64 z) ≡ true) ↔ MayStand k i z
  value_rule z f = (fits z f, stands z)
