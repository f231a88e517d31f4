-- Whether a table of entries has a DEVICE: the index of the arcs by their second end is made only then.
-- Assumes nothing.
use Rattle.std.specs.Prelude.{ℕ, zero, suc, ◌+◌, ◌*◌, ◌/◌, ◌≤◌, ◌≡◌, refl, Bool, true, false, List, eqb, ltb, length, get_or}
use Rattle.std.proofs.Common.{add-one, arith}
use borrow.Author.Tests.{eq-eqb, ne_eqb, ltb-true}
use Rattle.classes.specs.Choice.{pick, or}

-- the first of so many rows that are in the table
unfoldable pub rows_there : List ℕ → ℕ → ℕ
rows_there t count = pick (ltb count (length t / 28)) count (length t / 28)

-- one of the first k rows has DEVICE's kind, 4
unfoldable pub any_device : List ℕ → ℕ → Bool
any_device t zero = false
any_device t (suc k) = or (any_device t k) (eqb (get_or t (28 * k) 0) 4)

pub rows_in : (t : List ℕ) (count r : ℕ) → r ≡ rows_there t count → r ≤ length t / 28
unfolding rows_there
rows_in t count r e = go (ltb count (length t / 28)) refl e
  where
    go : (z : Bool) → ltb count (length t / 28) ≡ z → r ≡ pick z count (length t / 28) → r ≤ length t / 28
    go true p e = let l = ltb-true count (length t / 28) p in omega arith
    go false p e = omega arith

or-true : (z : Bool) → or z true ≡ true
or-true true = refl
or-true false = refl

or-false : (z : Bool) → or z false ≡ z
or-false true = refl
or-false false = refl

-- One row.
module _ (t : List ℕ) (k : ℕ) (now old : Bool) (was : old ≡ any_device t k) where
  pub row_with : get_or t (28 * k) 0 ≡ 4 → now ≡ true → now ≡ any_device t (k + 1)
  unfolding any_device
  row_with d e = rw (add-one, eq-eqb _ _ d, or-true, e)

  pub row_without : (get_or t (28 * k) 0 ≡ 4 → ⊥) → now ≡ old → now ≡ any_device t (k + 1)
  unfolding any_device
  row_without d e = rw (add-one, ne_eqb _ _ d, or-false, e, was)
