-- The numbers of the arcs that are hit, in the sheet's order.
-- Assumes nothing.
use Prim.Native.Nat.{ℕ, zero, suc, ◌+◌, ◌≤◌, ◌<◌}
use Rattle.std.specs.Prelude.{◌≡◌, Bool}
use Rattle.std.proofs.Math.Path.{refl}
use Rattle.std.proofs.Common.{sym, ap, ◌∙◌, length-append}
use Rattle.std.proofs.Math.Bool.{true, false}
use mathlib.Core.List.{List, [], ◌∷◌, ◌++◌, append-nil, append_assoc}
use native.Mathlib.Omega.{arith}
use Rattle.std.proofs.Math.Dec.{eqb}
use Rattle.std.proofs.Math.ListN.{length, get_or}
use Rattle.std.proofs.Math.Seq.{get_or-append_seam, append_snoc}
use borrow.Author.Tests.{eqb-true, eqb-false}
use Rattle.classes.specs.Choice.{pick}

-- the numbers of those that are hit among k from number `from` on
unfoldable pub chosen : (ℕ → Bool) → ℕ → ℕ → List ℕ
chosen hit from zero = []
chosen hit from (suc k) = pick (hit (from + k)) (chosen hit from k ++ ((from + k) ∷ [])) (chosen hit from k)

-- an element of the first of two lists
pub get_d_front : (xs ys : List ℕ) (i : ℕ) → i < length xs → get_or (xs ++ ys) i 0 ≡ get_or xs i 0
get_d_front [] ys i h = absurd (omega arith)
get_d_front (x ∷ xs) ys zero h = refl
get_d_front (x ∷ xs) ys (suc i) h = get_d_front xs ys i (omega arith)

module _ (hit : ℕ → Bool) (from : ℕ) where
  -- one more that is hit, and one that is not
  pub chosen_with : (k : ℕ) → hit (from + k) ≡ true → chosen hit from (suc k) ≡ chosen hit from k ++ ((from + k) ∷ [])
  unfolding chosen
  chosen_with k t = rw t

  pub chosen_without : (k : ℕ) → hit (from + k) ≡ false → chosen hit from (suc k) ≡ chosen hit from k
  unfolding chosen
  chosen_without k t = rw t

  pub chosen_none : length (chosen hit from 0) ≡ 0
  unfolding chosen
  chosen_none = refl

  -- behind more arcs the list goes on
  pub chosen_grows : (k j : ℕ) → j ≤ k → (rest : List ℕ) × (chosen hit from k ≡ chosen hit from j ++ rest)
  chosen_grows zero j h = let e : j ≡ 0 = omega arith in rw e ([], sym (append-nil (chosen hit from 0)))
  chosen_grows (suc k) j h = by (eqb j (suc k)) refl (chosen_grows k j)
    where
      more : (t : Bool) → hit (from + k) ≡ t → (rest : List ℕ) × (chosen hit from k ≡ chosen hit from j ++ rest)
          → (rest : List ℕ) × (chosen hit from (suc k) ≡ chosen hit from j ++ rest)
      more true e (rest, w) =
          (rest ++ ((from + k) ∷ []), chosen_with k e ∙ ap (λ x. x ++ ((from + k) ∷ [])) w ∙ append_assoc (chosen hit from j) rest ((from + k) ∷ []))
      more false e (rest, w) = (rest, chosen_without k e ∙ w)

      by : (t : Bool) → eqb j (suc k) ≡ t → (j ≤ k → (rest : List ℕ) × (chosen hit from k ≡ chosen hit from j ++ rest))
          → (rest : List ℕ) × (chosen hit from (suc k) ≡ chosen hit from j ++ rest)
      by true e before = rw (eqb-true j (suc k) e) ([], sym (append-nil (chosen hit from (suc k))))
      by false e before = let d = eqb-false j (suc k) e in more (hit (from + k)) refl (before (omega arith))

  -- one that is hit is chosen, and stands behind those before it
  pub chosen_has : (k j : ℕ) → j < k → hit (from + j) ≡ true
      → (length (chosen hit from j) < length (chosen hit from k)) × (get_or (chosen hit from k) (length (chosen hit from j)) 0 ≡ from + j)
  chosen_has k j h t =
      let w = chosen_grows k (suc j) h in
      let e = w.1 ∙ ap (λ x. x ++ w.0) (chosen_with j t) ∙ append_snoc (chosen hit from j) (from + j) w.0 in
      let l = length-append (chosen hit from j) ((from + j) ∷ w.0) in
      rw e (omega (arith, l), get_or-append_seam (chosen hit from j) (from + j) w.0 0)

  -- what is chosen is hit, and one of those that were asked
  pub chosen-hit : (k i : ℕ) → i < length (chosen hit from k)
      → (from ≤ get_or (chosen hit from k) i 0) × (get_or (chosen hit from k) i 0 < from + k) × (hit (get_or (chosen hit from k) i 0) ≡ true)
  unfolding chosen
  chosen-hit zero i h = absurd (omega arith)
  chosen-hit (suc k) i h = by (hit (from + k)) refl (chosen-hit k i)
    where
      last : hit (from + k) ≡ true → (z : Bool) → eqb i (length (chosen hit from k)) ≡ z → i < length (chosen hit from k) + 1
          → (i < length (chosen hit from k)
          → (from ≤ get_or (chosen hit from k) i 0) × (get_or (chosen hit from k) i 0 < from + k) × (hit (get_or (chosen hit from k) i 0) ≡ true))
          → (from ≤ get_or (chosen hit from k ++ ((from + k) ∷ [])) i 0) × (get_or (chosen hit from k ++ ((from + k) ∷ [])) i 0 < from + suc k)
          × (hit (get_or (chosen hit from k ++ ((from + k) ∷ [])) i 0) ≡ true)
      last t true e l before =
          rw (eqb-true i (length (chosen hit from k)) e, get_or-append_seam (chosen hit from k) (from + k) [] 0) (omega arith, omega arith, t)
      last t false e l before =
          let d = eqb-false i (length (chosen hit from k)) e in
          let y = get_d_front (chosen hit from k) ((from + k) ∷ []) i (omega arith) in
          let s = before (omega arith) in
          rw y (s.0, omega (arith, s.1), s.2)

      by : (t : Bool) → hit (from + k) ≡ t
          → (i < length (chosen hit from k)
          → (from ≤ get_or (chosen hit from k) i 0) × (get_or (chosen hit from k) i 0 < from + k) × (hit (get_or (chosen hit from k) i 0) ≡ true))
          → (from ≤ get_or (chosen hit from (suc k)) i 0) × (get_or (chosen hit from (suc k)) i 0 < from + suc k)
          × (hit (get_or (chosen hit from (suc k)) i 0) ≡ true)
      by true e before =
          let l = rw (chosen_with k e, length-append (chosen hit from k) ((from + k) ∷ [])) at h in
          rw (chosen_with k e) (last e (eqb i (length (chosen hit from k))) refl l before)
      by false e before =
          let s = before (rw (chosen_without k e) at h) in
          rw (chosen_without k e) (s.0, omega (arith, s.1), s.2)

  pub chosen_in : (k i : ℕ) → i < length (chosen hit from k) → (from ≤ get_or (chosen hit from k) i 0) × (get_or (chosen hit from k) i 0 < from + k)
  chosen_in k i h = let w = chosen-hit k i h in (w.0, w.1)

  -- in order
  pub chosen_rises : (k i l : ℕ) → i < l → l < length (chosen hit from k) → get_or (chosen hit from k) i 0 < get_or (chosen hit from k) l 0
  unfolding chosen
  chosen_rises zero i l d h = absurd (omega arith)
  chosen_rises (suc k) i l d h = by (hit (from + k)) refl (chosen_rises k i l d)
    where
      last : (z : Bool) → eqb l (length (chosen hit from k)) ≡ z → l < length (chosen hit from k) + 1
          → (l < length (chosen hit from k) → get_or (chosen hit from k) i 0 < get_or (chosen hit from k) l 0)
          → get_or (chosen hit from k ++ ((from + k) ∷ [])) i 0 < get_or (chosen hit from k ++ ((from + k) ∷ [])) l 0
      last true e u before =
          let x = eqb-true l (length (chosen hit from k)) e in
          let y = get_d_front (chosen hit from k) ((from + k) ∷ []) i (omega arith) in
          rw (x, get_or-append_seam (chosen hit from k) (from + k) [] 0, y) (chosen_in k i (omega arith)).1
      last false e u before =
          let x = eqb-false l (length (chosen hit from k)) e in
          let y = get_d_front (chosen hit from k) ((from + k) ∷ []) i (omega arith) in
          let z = get_d_front (chosen hit from k) ((from + k) ∷ []) l (omega arith) in
          rw (y, z) (before (omega arith))

      by : (t : Bool) → hit (from + k) ≡ t → (l < length (chosen hit from k) → get_or (chosen hit from k) i 0 < get_or (chosen hit from k) l 0)
          → get_or (chosen hit from (suc k)) i 0 < get_or (chosen hit from (suc k)) l 0
      by true e before =
          let u = rw (chosen_with k e, length-append (chosen hit from k) ((from + k) ∷ [])) at h in
          rw (chosen_with k e) (last (eqb l (length (chosen hit from k))) refl u before)
      by false e before = rw (chosen_without k e) (before (rw (chosen_without k e) at h))
