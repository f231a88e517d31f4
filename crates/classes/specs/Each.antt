-- What a function gives for each number of a range, as one list: so a rule over a range is one list that antt computes.
-- Assumes nothing.
use Rattle.std.specs.Prelude.{ℕ, zero, suc, ◌+◌, ◌-◌, ◌≤◌, ◌<◌, ◌≡◌, refl, List, [], ◌∷◌, get_or, replicate}
use Rattle.std.proofs.Common.{suc-add, add-suc, add-zero, le_of_suc-le-suc, not-suc-le-zero, arith, sym, ap, ◌∙◌}

-- f at n numbers from b on
abbrev pub each : {A : Type 0} → (ℕ → A) → ℕ → ℕ → List A
each f b zero = []
each f b (suc n) = f b ∷ each f (suc b) n

pub each_at : {A : Type 0} (f : ℕ → A) (d : A) (n b k : ℕ) → k < n → get_or (each f b n) k d ≡ f (b + k)
each_at f d zero b k h = absurd (not-suc-le-zero h)
each_at f d (suc n) b zero h = ap f (sym (add-zero b))
each_at f d (suc n) b (suc k) h = each_at f d n (suc b) k (le_of_suc-le-suc h) ∙ ap f (suc-add b k ∙ sym (add-suc b k))

same : {A : Type 0} (x : A) (n k : ℕ) → k < n → get_or (replicate n x) k x ≡ x
same x zero k h = absurd (not-suc-le-zero h)
same x (suc n) zero h = refl
same x (suc n) (suc k) h = same x n k (le_of_suc-le-suc h)

-- where f gives x for n numbers from lo on, it does so for each of them
pub between : {A : Type 0} (f : ℕ → A) (x : A) (lo n : ℕ) → each f lo n ≡ replicate n x → (b : ℕ) → lo ≤ b → b < lo + n → f b ≡ x
between {A} f x lo n e b l u =
    let m : lo + (b - lo) ≡ b = omega arith in
    ap f (sym m) ∙ sym (each_at f x n lo (b - lo) (omega arith)) ∙ ap (λ (s : List A). get_or s (b - lo) x) e ∙ same x n (b - lo) (omega arith)
