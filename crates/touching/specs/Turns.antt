-- One turn of the loop that flags the slots of an arc.
-- Assumes nothing.
use Rattle.std.specs.Prelude.{ℕ, ◌+◌, ◌≡◌, List, set}
use Rattle.std.proofs.Common.{add-one}
use borrow.Author.Tests.{eq-eqb, ne_eqb}
use Rattle.applying.specs.Amounts.{empty, given}
use Rattle.patching.specs.Scratch.{touched_flags}

-- One slot.
module _ (flags : List ℕ) (rows : List (List ℕ)) (n : ℕ) (now old : List ℕ) (was : old ≡ touched_flags flags rows n) where
  pub slot_with : (given rows n ≡ empty → ⊥) → now ≡ set old n 1 → now ≡ touched_flags flags rows (n + 1)
  unfolding touched_flags
  slot_with d e = rw (add-one, ne_eqb _ _ d, e, was)

  pub slot_without : given rows n ≡ empty → now ≡ old → now ≡ touched_flags flags rows (n + 1)
  unfolding touched_flags
  slot_without d e = rw (add-one, eq-eqb _ _ d, e, was)
