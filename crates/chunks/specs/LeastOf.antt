-- The least of many faults, where one of them is before all the others.
-- Assumes nothing.
use Prim.Native.Nat.{ℕ, zero, suc, ◌+◌, ◌<◌}
use Rattle.std.specs.Prelude.{◌≡◌, Bool, ◌⊎◌, ltb}
use Rattle.std.proofs.Math.Path.{refl}
use Rattle.std.proofs.Math.Bool.{true, false}
use Rattle.std.proofs.Math.Option.{Option, none, some}
use Rattle.std.proofs.Common.{inl, inr, add-zero}
use native.Mathlib.Omega.{arith}
use Rattle.std.proofs.Math.Dec.{eqb}
use borrow.Author.Tests.{eqb-true, eqb-false, ltb-true}
use Rattle.classes.specs.Choice.{pick, and, or}
use Rattle.history.proofs.EventLaws.{clash}
use Rattle.history.specs.Faults.{Fault}
use Rattle.history.specs.Scan.{precedes, better}
use Rattle.meant.specs.Group.{least_fault}
use Rattle.meant.specs.GroupLaws.{better_assoc}

-- what it is to precede
earlier : (g h : Fault) → precedes g h ≡ true → (g.event < h.event) ⊎ ((g.event ≡ h.event) × (g.number < h.number))
earlier g h p = go (ltb g.event h.event) refl (eqb g.event h.event) refl p
  where
    go : (a : Bool) → ltb g.event h.event ≡ a → (c : Bool) → eqb g.event h.event ≡ c → or a (and c (ltb g.number h.number)) ≡ true
        → (g.event < h.event) ⊎ ((g.event ≡ h.event) × (g.number < h.number))
    go true x c y p = inl (ltb-true _ _ x)
    go false x true y p = inr (eqb-true _ _ y, ltb-true _ _ p)
    go false x false y p = clash p

-- of two faults at most one precedes the other
one_way : (g h : Fault) → precedes g h ≡ true → precedes h g ≡ false
one_way g h p = go (precedes h g) refl
  where
    both : (g.event < h.event) ⊎ ((g.event ≡ h.event) × (g.number < h.number)) → (h.event < g.event) ⊎ ((h.event ≡ g.event) × (h.number < g.number)) → ⊥
    both (inl x) (inl y) = omega arith
    both (inl x) (inr y) = let z = y.0 in omega arith
    both (inr x) (inl y) = let z = x.0 in omega arith
    both (inr x) (inr y) = let z = x.1 in let w = y.1 in omega arith

    go : (t : Bool) → precedes h g ≡ t → t ≡ false
    go true q = absurd (both (earlier g h p) (earlier h g q))
    go false q = refl

-- a fault that is no worse than another stays the better one, whichever comes first
pub either_way : (a : Option Fault) (h : Fault) → better a (some h) ≡ some h → better (some h) a ≡ some h
unfolding better
either_way none h e = refl
either_way (some g) h e = go (precedes h g) refl e
  where
    same : (t : Bool) → pick t (some h) (some h) ≡ some h
    same true = refl
    same false = refl

    go : (t : Bool) → precedes h g ≡ t → pick t (some h) (some g) ≡ some h → pick (precedes g h) (some g) (some h) ≡ some h
    go true p e = rw (one_way h g p)
    go false p e = rw e (same (precedes g h))

module _ (fault : ℕ → Option Fault) (best : Option Fault) (from : ℕ) (h : Fault) where
  -- groups with nothing before h add nothing to it
  kept : (k : ℕ) → ((j : ℕ) → j < k → better (fault (from + j)) (some h) ≡ some h)
      → better (least_fault fault best (from + k)) (some h) ≡ better (least_fault fault best from) (some h)
  unfolding least_fault
  kept zero late = rw (add-zero from)
  kept (suc k) late = more (kept k (λ j l. late j (omega arith)))
    where
      e : from + suc k ≡ suc (from + k)
      e = omega arith

      more : better (least_fault fault best (from + k)) (some h) ≡ better (least_fault fault best from) (some h)
          → better (least_fault fault best (from + suc k)) (some h) ≡ better (least_fault fault best from) (some h)
      more w = rw (e, better_assoc (least_fault fault best (from + k)) (fault (from + k)) (some h), late k (omega arith)) w

  -- and where h is one of theirs, it is what they add
  pub least-among : (k s : ℕ) → s < k → fault (from + s) ≡ some h → ((j : ℕ) → j < k → better (fault (from + j)) (some h) ≡ some h)
      → least_fault fault best (from + k) ≡ better (least_fault fault best from) (some h)
  unfolding least_fault
  least-among zero s l is late = absurd (omega arith)
  least-among (suc k) s l is late =
      let e : from + suc k ≡ suc (from + k) = omega arith in
      rw e (by (eqb s k) refl (λ less. least-among k s less is (λ j u. late j (omega arith))))
    where
      by : (t : Bool) → eqb s k ≡ t → (s < k → least_fault fault best (from + k) ≡ better (least_fault fault best from) (some h))
          → least_fault fault best (suc (from + k)) ≡ better (least_fault fault best from) (some h)
      by true p before = rw (rw (eqb-true s k p) at is) (kept k (λ j u. late j (omega arith)))
      by false p before =
          let d = eqb-false s k p in
          rw (before (omega arith), better_assoc (least_fault fault best from) (some h) (fault (from + k)), either_way (fault (from + k)) h (late k (omega arith)))
