-- A record whose key or path is there whole.
-- Assumes nothing.
use Rattle.std.specs.Prelude.{ℕ, ◌≡◌, ◌+◌, ◌≤◌, false, List, length, Ok, Err, is_err}
use native.Mathlib.Omega.{arith}
use Rattle.sheetparts.specs.Form.{Step, values_at, key_step, path_len, path_step}
use Rattle.sheetparts.specs.Passed.{key-next, path-next}

module _ (b : List ℕ) where
  pub key_whole : (t : Step) (p : ℕ) → t ≡ key_step b p → is_err t ≡ false → values_at b p ≤ length b
  key_whole (Ok q) p e n = let r = key-next b p q (cc) in omega arith
  key_whole (Err d) p e n = cc

  pub path_whole : (t : Step) (p : ℕ) → t ≡ path_step b p → is_err t ≡ false → p + 4 + path_len b p ≤ length b
  path_whole (Ok q) p e n = let r = path-next b p q (cc) in omega arith
  path_whole (Err d) p e n = cc
