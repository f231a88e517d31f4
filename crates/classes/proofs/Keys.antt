-- A function of a byte that is one `match`: an arm of single bytes answers what is computed for each of them, and a range what is computed for each
-- of its bytes but those that stand by themselves in an arm.
-- Assumes nothing.
use Prim.Native.Nat.{ℕ, ◌+◌, ◌≤◌, ◌<◌}
use mathlib.Core.Path.{◌≡◌, refl, sym, ap, ◌∙◌}
use mathlib.Core.Logic.{inl, inr}
use mathlib.Core.Bool.{Bool, false}
use mathlib.Core.List.{List, [], ◌∷◌, map}
use lib.Dec.{eqb}
use lib.ListN.{length, replicate}
use borrow.Author.Tests.{ne_eqb}
use types.Run.{OneOf}
use Rattle.classes.specs.Choice.{pick, or}
use Rattle.classes.specs.Each.{each, between}

-- an arm of single bytes
pub keyed : {A : Type 0} (f : ℕ → A) (x : A) (ks : List ℕ) → map f ks ≡ replicate (length ks) x → (b : ℕ) → OneOf ks b → x ≡ f b
keyed f x [] e b h = absurd h
keyed f x (k ∷ []) e b h = let z : f k ≡ x = cc in sym z ∙ ap f (sym h)
keyed f x (k ∷ j ∷ ks) e b (inl h) = let z : f k ≡ x = cc in sym z ∙ ap f (sym h)
keyed f x (k ∷ j ∷ ks) e b (inr h) = let z : map f (j ∷ ks) ≡ replicate (length (j ∷ ks)) x = cc in keyed f x (j ∷ ks) z b h

-- the bytes of the arms of single bytes, the last arm first
abbrev listed : List ℕ → ℕ → Bool
listed [] b = false
listed (k ∷ ks) b = or (eqb b k) (listed ks b)

abbrev alone : List (List ℕ) → ℕ → Bool
alone [] b = false
alone (ks ∷ kss) b = or (listed ks b) (alone kss b)

-- what is known in every other arm
abbrev Rest : List (List ℕ) → ℕ → Type 0
Rest [] b = Unit
Rest (ks ∷ kss) b = Rest kss b × (OneOf ks b → ⊥)

unlisted : (ks : List ℕ) (b : ℕ) → (OneOf ks b → ⊥) → listed ks b ≡ false
unlisted [] b h = refl
unlisted (k ∷ []) b h = rw (ne_eqb b k h)
unlisted (k ∷ j ∷ ks) b h = rw (ne_eqb b k (λ e. h (inl e))) (unlisted (j ∷ ks) b (λ o. h (inr o)))

unlike : (kss : List (List ℕ)) (b : ℕ) → Rest kss b → alone kss b ≡ false
unlike [] b r = refl
unlike (ks ∷ kss) b (r, h) = rw (unlisted ks b h) (unlike kss b r)

-- an arm of a range, from lo on
pub ranged : {A : Type 0} (f : ℕ → A) (x : A) (kss : List (List ℕ)) (lo n : ℕ) → each (λ (b : ℕ). pick (alone kss b) x (f b)) lo n ≡ replicate n x →
    (b : ℕ) → Rest kss b → lo ≤ b → b < lo + n → x ≡ f b
ranged f x kss lo n e b r l u = sym (rw (unlike kss b r) at (between (λ (b : ℕ). pick (alone kss b) x (f b)) x lo n e b l u))
