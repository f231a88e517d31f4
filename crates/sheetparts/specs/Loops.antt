-- One turn of the loops over values and records.
-- Assumes nothing.
use Prim.Native.Nat.{ℕ, zero, suc, ◌+◌, ◌-◌, ◌≤◌, ◌<◌}
use Rattle.std.specs.Prelude.{◌≡◌, List, Ok}
use native.Mathlib.Omega.{arith}
use Rattle.sheetparts.specs.Form.{chain, value_step, values_step, ar_step, arcs_step, in_step, ins_step}

module _ (b : List ℕ) where
  pub value-more : (k n i q : ℕ) → i < n → values_step b k (n - i) i q ≡ chain (value_step b k i q) (λ r. values_step b k (n - (i + 1)) (i + 1) r)
  unfolding values_step
  value-more k n i q h = let e : n - i ≡ suc (n - (i + 1)) = omega arith in rw e

  pub values_end : (k n i q : ℕ) → n ≤ i → values_step b k (n - i) i q ≡ Ok q
  unfolding values_step
  values_end k n i q h = let e : n - i ≡ zero = omega arith in rw e

  pub arc-more : (n i prev p : ℕ) → i < n → arcs_step b (n - i) prev p ≡ chain (ar_step b prev p) (λ r. arcs_step b (n - (i + 1)) p r)
  unfolding arcs_step
  arc-more n i prev p h = let e : n - i ≡ suc (n - (i + 1)) = omega arith in rw e

  pub arcs_end : (n i prev p : ℕ) → n ≤ i → arcs_step b (n - i) prev p ≡ Ok p
  unfolding arcs_step
  arcs_end n i prev p h = let e : n - i ≡ zero = omega arith in rw e

  pub in_more : (n i prev p : ℕ) → i < n → ins_step b (n - i) prev p ≡ chain (in_step b prev p) (λ r. ins_step b (n - (i + 1)) p r)
  unfolding ins_step
  in_more n i prev p h = let e : n - i ≡ suc (n - (i + 1)) = omega arith in rw e

  pub ins_end : (n i prev p : ℕ) → n ≤ i → ins_step b (n - i) prev p ≡ Ok p
  unfolding ins_step
  ins_end n i prev p h = let e : n - i ≡ zero = omega arith in rw e
