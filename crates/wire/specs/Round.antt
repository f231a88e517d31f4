-- What is written reads back: eight digits to the base 256 put together and taken apart.
-- Assumes nothing.
use Rattle.std.specs.Prelude.{◌≡◌, List, [], ◌∷◌, ◌++◌, ℕ, zero, suc, ◌+◌, ◌*◌, ◌/◌, ◌%◌, ◌<◌, ◌^◌, ℤ}
use Rattle.std.proofs.Common.{ap, ◌∙◌, arith, SFits, to_z, of_z}
use Rattle.std.proofs.Math.Nat.{div-div-eq-div-mul}
use Rattle.std.specs.Int.{w64}
use mir.ValLaws.{to_z-of_z, of_z_fits}
use Rattle.wire.specs.Wire.{be64, be_bytes}

pub round : (n : ℕ) → n < 2 ^ 64 → be64 (be_bytes n) 0 ≡ n
unfolding be64
round n h =
    let e7 : n / 72057594037927936 % 256 ≡ n / 72057594037927936 = omega arith in
    let e6 : n / 72057594037927936 * 256 + n / 281474976710656 % 256 ≡ n / 281474976710656 = omega arith in
    let e5 : n / 281474976710656 * 256 + n / 1099511627776 % 256 ≡ n / 1099511627776 = omega arith in
    let e4 : n / 1099511627776 * 256 + n / 4294967296 % 256 ≡ n / 4294967296 = omega arith in
    let e3 : n / 4294967296 * 256 + n / 16777216 % 256 ≡ n / 16777216 = omega arith in
    let e2 : n / 16777216 * 256 + n / 65536 % 256 ≡ n / 65536 = omega arith in
    let e1 : n / 65536 * 256 + n / 256 % 256 ≡ n / 256 = omega arith in
    let e0 : n / 256 * 256 + n % 256 ≡ n = omega arith in
    rw (e7, e6, e5, e4, e3, e2, e1, e0)

-- so a number that fits is read back as it was written
pub again : (z : ℤ) → SFits w64 z → to_z w64 (be64 (be_bytes (of_z w64 z)) 0) ≡ z
again z f = ap (to_z w64) (round (of_z w64 z) (of_z_fits w64 z f).fits) ∙ to_z-of_z w64 z f

-- Eight digits to the base 256, taken apart again.

-- the last k digits of n
unfoldable last_digits : ℕ → ℕ → List ℕ
last_digits zero n = []
last_digits (suc k) n = last_digits k (n / 256) ++ (n % 256 ∷ [])

one_more : (k x c : ℕ) → c < 256 → last_digits (suc k) (x * 256 + c) ≡ last_digits k x ++ (c ∷ [])
unfolding last_digits
one_more k x c h =
    let d : (x * 256 + c) / 256 ≡ x = omega arith in
    let m : (x * 256 + c) % 256 ≡ c = omega arith in
    rw (d, m)

one : (c : ℕ) → c < 256 → last_digits 1 c ≡ c ∷ []
unfolding last_digits
one c h = let m : c % 256 ≡ c = omega arith in rw m

bytes_are : (n : ℕ) → be_bytes n ≡ last_digits 8 n
unfolding last_digits
bytes_are n = simp div-div-eq-div-mul

pub eight_digits : (a b c d e f g h : ℕ) → a < 256 → b < 256 → c < 256 → d < 256 → e < 256 → f < 256 → g < 256 → h < 256
    → be_bytes (((((((a * 256 + b) * 256 + c) * 256 + d) * 256 + e) * 256 + f) * 256 + g) * 256 + h) ≡ a ∷ b ∷ c ∷ d ∷ e ∷ f ∷ g ∷ h ∷ []
eight_digits a b c d e f g h ha hb hc hd he hf hg hh =
    let x2 = a * 256 + b in
    let x3 = x2 * 256 + c in
    let x4 = x3 * 256 + d in
    let x5 = x4 * 256 + e in
    let x6 = x5 * 256 + f in
    let x7 = x6 * 256 + g in
    bytes_are (x7 * 256 + h)
    ∙ rw (
      one_more 7 x7 h hh,
      one_more 6 x6 g hg,
      one_more 5 x5 f hf,
      one_more 4 x4 e he,
      one_more 3 x3 d hd,
      one_more 2 x2 c hc,
      one_more 1 a b hb,
      one a ha,
    )

-- the same for four digits
pub four : (a b c d n : ℕ) → a < 256 → b < 256 → c < 256 → d < 256 → n ≡ ((a * 256 + b) * 256 + c) * 256 + d
    → (n / 16777216 ≡ a) × (n / 65536 % 256 ≡ b) × (n / 256 % 256 ≡ c) × (n % 256 ≡ d) × (n < 4294967296)
four a b c d n ha hb hc hd e = (omega arith, omega arith, omega arith, omega arith, omega arith)

pub round32 : (n : ℕ) → ((n / 16777216 * 256 + n / 65536 % 256) * 256 + n / 256 % 256) * 256 + n % 256 ≡ n
round32 n =
    let e2 : n / 16777216 * 256 + n / 65536 % 256 ≡ n / 65536 = omega arith in
    let e1 : n / 65536 * 256 + n / 256 % 256 ≡ n / 256 = omega arith in
    let e0 : n / 256 * 256 + n % 256 ≡ n = omega arith in
    rw (e2, e1, e0)
