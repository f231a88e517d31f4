-- The header's texts as they are handed out. Their numbers: 0 SDFVERSION, 1 DESIGN, 2 DATE, 3 VENDOR, 4 PROGRAM, 5 VERSION, 6 PROCESS;
-- the k-th one's places stand at 2 k and 2 k + 1.
-- Assumes nothing.
use Rattle.std.specs.Prelude.{◌≡◌, refl, Bool, true, false, List, [], ℕ, zero, suc, ◌+◌, ◌*◌, ◌≤◌, leb, length, get_or, set, replicate}
use Rattle.std.proofs.Common.{arith, length-set, get_or-set_same, get_or-set_other, le-leb}
use Rattle.classes.specs.Choice.{pick}
use Rattle.names.specs.Name.{part_of}

-- 'The header's texts are handed out as parts of the lent file, the bytes between the quotes.' There are seven.
unfoldable pub text_of : List ℕ → List ℕ → ℕ → List ℕ
text_of s ts k = pick (leb k 6) (part_of s (get_or ts (2 * k) 0) (get_or ts (2 * k + 1) 0)) []

-- a text's places, put in
abbrev pub put : ℕ → ℕ → ℕ → List ℕ → List ℕ
put k b e ts = set (set ts (2 * k) b) (2 * k + 1) e

-- what was put in is handed out
pub text-put : (s ts : List ℕ) (k b e : ℕ) → k ≤ 6 → length ts ≡ 14 → text_of s (put k b e ts) k ≡ part_of s b e
unfolding text_of
text-put s ts k b e h n =
    rw (
      le-leb k 6 h,
      get_or-set_same (set ts (2 * k) b) (2 * k + 1) e 0 (simp length-set (omega arith)),
      get_or-set_other (set ts (2 * k) b) (2 * k + 1) (2 * k) e 0 (λ q. omega arith),
      get_or-set_same ts (2 * k) b 0 (omega arith),
    )

-- and no other text is changed by it
pub text_kept : (s ts : List ℕ) (k j b e : ℕ) → (j ≡ k → ⊥) → text_of s (put k b e ts) j ≡ text_of s ts j
unfolding text_of
text_kept s ts k j b e n =
    rw (
      get_or-set_other (set ts (2 * k) b) (2 * k + 1) (2 * j) e 0 (λ q. omega arith),
      get_or-set_other (set ts (2 * k) b) (2 * k + 1) (2 * j + 1) e 0 (λ q. n (omega arith)),
      get_or-set_other ts (2 * k) (2 * j) b 0 (λ q. n (omega arith)),
      get_or-set_other ts (2 * k) (2 * j + 1) b 0 (λ q. omega arith),
    )

-- from 0 up to 0 nothing stands
pub part_none : (s : List ℕ) → part_of s 0 0 ≡ []
unfolding part_of
part_none s = rw (le-leb 0 (length s) (omega arith))

-- where none was put in, 'a missing one is an empty part'
pub text_missing : (s : List ℕ) (k : ℕ) → text_of s (replicate 14 0) k ≡ []
unfolding text_of
text_missing s k = rw (zeros 14 (2 * k), zeros 14 (2 * k + 1)) (by (leb k 6))
  where
    zeros : (n i : ℕ) → ◌≡◌ {A = ℕ} (get_or (replicate n 0) i 0) 0
    zeros zero i = refl
    zeros (suc n) zero = refl
    zeros (suc n) (suc i) = zeros n i

    by : (t : Bool) → pick t (part_of s 0 0) [] ≡ []
    by true = part_none s
    by false = refl
