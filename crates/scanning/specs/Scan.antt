-- A scanner with a state and one byte of look-ahead, by structural recursion on the bytes that are left.
-- `scan_len` counts the bytes it takes, `scan_st` is the state it stops in. Its laws are proved once, for every scanner.
-- Assumes nothing.
use Rattle.std.specs.Prelude.{◌≡◌, Bool, length, drop}
use Rattle.std.proofs.Math.Path.{refl}
use Rattle.std.proofs.Common.{ap, sym, ◌∙◌, true≢false, le_of_suc-le-suc, not-suc-le-zero, add-zero, zero-add, suc-add, add-one, arith, drop_of_length-le, length-drop, drop-cons, get_or-drop}
use Rattle.std.proofs.Math.Bool.{true, false}
use mathlib.Core.List.{List, [], ◌∷◌, ◌++◌}
use Prim.Native.Nat.{ℕ, suc, ◌+◌, ◌≤◌, ◌<◌, zero-le, suc-le-suc}
use Rattle.std.proofs.Math.ListN.{get_or}
use Rattle.std.proofs.Math.Seq.{drop-append-add}
use Rattle.std.proofs.lemmas.List.{drop-append-le}
use Rattle.classes.specs.Choice.{pick}

module _ {St : Type 0} (stop : St → ℕ → ℕ → Bool) (next : St → ℕ → ℕ → St) where
  -- how many bytes are taken from the front of the list, in the state q
  unfoldable pub scan_len : St → List ℕ → ℕ
  scan_len q [] = 0
  scan_len q (c ∷ r) = pick (stop q c (get_or r 0 0)) 0 (suc (scan_len (next q c (get_or r 0 0)) r))

  -- the state then
  unfoldable pub scan_st : St → List ℕ → St
  scan_st q [] = q
  scan_st q (c ∷ r) = pick (stop q c (get_or r 0 0)) q (scan_st (next q c (get_or r 0 0)) r)

  pub scan-cons : (q : St) (c : ℕ) (r : List ℕ)
      → scan_len q (c ∷ r) ≡ pick (stop q c (get_or r 0 0)) 0 (suc (scan_len (next q c (get_or r 0 0)) r))
  unfolding scan_len
  scan-cons q c r = refl

  pub scan_cons_st : (q : St) (c : ℕ) (r : List ℕ)
      → scan_st q (c ∷ r) ≡ pick (stop q c (get_or r 0 0)) q (scan_st (next q c (get_or r 0 0)) r)
  unfolding scan_st
  scan_cons_st q c r = refl

  -- one turn of a loop that stands at i: it stops, or goes on at i + 1
  pub turn : (s : List ℕ) (q : St) (i : ℕ) → i < length s
      → scan_len q (drop i s) ≡ pick (stop q (get_or s i 0) (get_or s (i + 1) 0)) 0 (suc (scan_len (next q (get_or s i 0) (get_or s (i + 1) 0)) (drop (i + 1) s)))
  turn s q i h = rw (drop-cons s i 0 h, scan-cons, get_or-drop, add-zero, add-one)

  pub turn_st : (s : List ℕ) (q : St) (i : ℕ) → i < length s
      → scan_st q (drop i s) ≡ pick (stop q (get_or s i 0) (get_or s (i + 1) 0)) q (scan_st (next q (get_or s i 0) (get_or s (i + 1) 0)) (drop (i + 1) s))
  turn_st s q i h = rw (drop-cons s i 0 h, scan_cons_st, get_or-drop, add-zero, add-one)

  -- what a loop at i with the state q needs: it stops here, it goes on, the bytes are at their end
  pub stops : (s : List ℕ) (q : St) (i : ℕ) → i < length s → stop q (get_or s i 0) (get_or s (i + 1) 0) ≡ true → i + scan_len q (drop i s) ≡ i
  stops s q i h e = rw (turn s q i h, e, add-zero)

  pub goes_on : (s : List ℕ) (q : St) (i : ℕ) → i < length s → stop q (get_or s i 0) (get_or s (i + 1) 0) ≡ false
      → (i + 1) + scan_len (next q (get_or s i 0) (get_or s (i + 1) 0)) (drop (i + 1) s) ≡ i + scan_len q (drop i s)
  goes_on s q i h e = rw (turn s q i h, e) (omega arith)

  pub ends : (s : List ℕ) (q : St) (i : ℕ) → length s ≤ i → i + scan_len q (drop i s) ≡ i
  unfolding scan_len
  ends s q i h = rw (drop_of_length-le s h, add-zero)

  pub stops_st : (s : List ℕ) (q : St) (i : ℕ) → i < length s → stop q (get_or s i 0) (get_or s (i + 1) 0) ≡ true → scan_st q (drop i s) ≡ q
  stops_st s q i h e = rw (turn_st s q i h, e)

  pub goes_on_st : (s : List ℕ) (q : St) (i : ℕ) → i < length s → stop q (get_or s i 0) (get_or s (i + 1) 0) ≡ false
      → scan_st (next q (get_or s i 0) (get_or s (i + 1) 0)) (drop (i + 1) s) ≡ scan_st q (drop i s)
  goes_on_st s q i h e = rw (turn_st s q i h, e)

  pub ends_st : (s : List ℕ) (q : St) (i : ℕ) → length s ≤ i → scan_st q (drop i s) ≡ q
  unfolding scan_st
  ends_st s q i h = rw (drop_of_length-le s h)

  pub scan_le : (q : St) (r : List ℕ) → scan_len q r ≤ length r
  unfolding scan_len
  scan_le q [] = zero-le
  scan_le q (c ∷ r) = by (stop q c (get_or r 0 0)) (scan_le (next q c (get_or r 0 0)) r)
    where
      by : (b : Bool) {n m : ℕ} → n ≤ m → pick b 0 (suc n) ≤ suc m
      by true h = zero-le
      by false h = suc-le-suc h

  -- shift: from the seam on, only the second part counts
  pub shift : (q : St) (a x : List ℕ) (i : ℕ) → scan_len q (drop (length a + i) (a ++ x)) ≡ scan_len q (drop i x)
  shift q a x i = ap (scan_len q) (drop-append-add a x i)

  -- locality: what stops within a does not depend on what follows a, but for its first byte
  pub local : (q : St) (a x y : List ℕ) → get_or x 0 0 ≡ get_or y 0 0 → scan_len q (a ++ x) < length a
      → (scan_len q (a ++ y) ≡ scan_len q (a ++ x)) × (scan_st q (a ++ y) ≡ scan_st q (a ++ x))
  unfolding scan_len scan_st
  local q [] x y e h = absurd (not-suc-le-zero h)
  local q (c ∷ a) x y e h =
      go (stop q c (get_or (a ++ x) 0 0)) (stop q c (get_or (a ++ y) 0 0)) (ap (stop q c) (sym (heads a)))
      (next q c (get_or (a ++ x) 0 0)) (next q c (get_or (a ++ y) 0 0)) (ap (next q c) (heads a)) h
      (local (next q c (get_or (a ++ x) 0 0)) a x y e)
    where
      heads : (a : List ℕ) → get_or (a ++ x) 0 0 ≡ get_or (a ++ y) 0 0
      heads [] = e
      heads (b ∷ a) = refl

      go : (t u : Bool) → u ≡ t → (p r : St) → p ≡ r
          → pick t 0 (suc (scan_len p (a ++ x))) < suc (length a)
          → (scan_len p (a ++ x) < length a → (scan_len p (a ++ y) ≡ scan_len p (a ++ x)) × (scan_st p (a ++ y) ≡ scan_st p (a ++ x)))
          → (pick u 0 (suc (scan_len r (a ++ y))) ≡ pick t 0 (suc (scan_len p (a ++ x))))
          × (pick u q (scan_st r (a ++ y)) ≡ pick t q (scan_st p (a ++ x)))
      go true u eu p r ep h ih = rw eu (refl, refl)
      go false u eu p r ep h ih =
          rw (eu, ← ep) (ap suc (ih (le_of_suc-le-suc h)).0, (ih (le_of_suc-le-suc h)).1)

  -- locality at a seam: both texts go on with the byte o after a, at which the scanner does not look ahead
  pub local_seam : (o : ℕ) → ((q : St) (d e : ℕ) → stop q o d ≡ stop q o e)
      → (q : St) (a x y : List ℕ) → scan_len q (a ++ o ∷ x) ≤ length a
      → (scan_len q (a ++ o ∷ y) ≡ scan_len q (a ++ o ∷ x)) × (scan_st q (a ++ o ∷ y) ≡ scan_st q (a ++ o ∷ x))
  unfolding scan_len scan_st
  local_seam o blind q [] x y h =
      at_seam (stop q o (get_or x 0 0)) (stop q o (get_or y 0 0)) (blind q (get_or x 0 0) (get_or y 0 0)) _ _ _ _ h
    where
      at_seam : (t u : Bool) → t ≡ u → (n m : ℕ) (p r : St) → pick t 0 (suc n) ≤ 0
          → (pick u 0 (suc m) ≡ pick t 0 (suc n)) × (pick u q p ≡ pick t q r)
      at_seam true u e n m p r h = rw (← e) (refl, refl)
      at_seam false u e n m p r h = absurd (not-suc-le-zero h)
  local_seam o blind q (c ∷ a) x y h =
      go (stop q c (get_or (a ++ o ∷ x) 0 0)) (stop q c (get_or (a ++ o ∷ y) 0 0)) (ap (stop q c) (sym (heads a)))
      (next q c (get_or (a ++ o ∷ x) 0 0)) (next q c (get_or (a ++ o ∷ y) 0 0)) (ap (next q c) (heads a)) h
      (local_seam o blind (next q c (get_or (a ++ o ∷ x) 0 0)) a x y)
    where
      heads : (a : List ℕ) → get_or (a ++ o ∷ x) 0 0 ≡ get_or (a ++ o ∷ y) 0 0
      heads [] = refl
      heads (b ∷ a) = refl

      go : (t u : Bool) → u ≡ t → (p r : St) → p ≡ r
          → pick t 0 (suc (scan_len p (a ++ o ∷ x))) ≤ suc (length a)
          → (scan_len p (a ++ o ∷ x) ≤ length a → (scan_len p (a ++ o ∷ y) ≡ scan_len p (a ++ o ∷ x)) × (scan_st p (a ++ o ∷ y) ≡ scan_st p (a ++ o ∷ x)))
          → (pick u 0 (suc (scan_len r (a ++ o ∷ y))) ≡ pick t 0 (suc (scan_len p (a ++ o ∷ x))))
          × (pick u q (scan_st r (a ++ o ∷ y)) ≡ pick t q (scan_st p (a ++ o ∷ x)))
      go true u eu p r ep h ih = rw eu (refl, refl)
      go false u eu p r ep h ih =
          rw (eu, ← ep) (ap suc (ih (le_of_suc-le-suc h)).0, (ih (le_of_suc-le-suc h)).1)

  pub local_at : (o : ℕ) → ((q : St) (d e : ℕ) → stop q o d ≡ stop q o e)
      → (q : St) (a x y : List ℕ) (i : ℕ) → i ≤ length a → i + scan_len q (drop i (a ++ o ∷ x)) ≤ length a
      → (scan_len q (drop i (a ++ o ∷ y)) ≡ scan_len q (drop i (a ++ o ∷ x))) × (scan_st q (drop i (a ++ o ∷ y)) ≡ scan_st q (drop i (a ++ o ∷ x)))
  local_at o blind q a x y i h n =
      rw (drop-append-le i a (o ∷ x) h, drop-append-le i a (o ∷ y) h)
      (local_seam o blind q (drop i a) x y (rw length-drop (omega (arith, rw (drop-append-le i a (o ∷ x) h) at n))))

  -- the same, inside: the scanner stops before the end of a, and the byte after a is the same
  pub local_in : (q : St) (a x y : List ℕ) (i : ℕ) → get_or x 0 0 ≡ get_or y 0 0 → i ≤ length a → i + scan_len q (drop i (a ++ x)) < length a
      → (scan_len q (drop i (a ++ y)) ≡ scan_len q (drop i (a ++ x))) × (scan_st q (drop i (a ++ y)) ≡ scan_st q (drop i (a ++ x)))
  local_in q a x y i e h n =
      rw (drop-append-le i a x h, drop-append-le i a y h)
      (local q (drop i a) x y e (rw length-drop (omega (arith, rw (drop-append-le i a x h) at n))))

  -- where it stops before the end of the bytes, it does so because of the byte there
  pub stopped : (q : St) (r : List ℕ) → scan_len q r < length r
      → stop (scan_st q r) (get_or r (scan_len q r) 0) (get_or r (suc (scan_len q r)) 0) ≡ true
  unfolding scan_len scan_st
  stopped q [] h = absurd (not-suc-le-zero h)
  stopped q (c ∷ r) h = by (stop q c (get_or r 0 0)) refl h (stopped (next q c (get_or r 0 0)) r)
    where
      p : St
      p = next q c (get_or r 0 0)

      by : (b : Bool) → stop q c (get_or r 0 0) ≡ b → pick b 0 (suc (scan_len p r)) < suc (length r)
          → (scan_len p r < length r → stop (scan_st p r) (get_or r (scan_len p r) 0) (get_or r (suc (scan_len p r)) 0) ≡ true)
          → stop (pick b q (scan_st p r)) (get_or (c ∷ r) (pick b 0 (suc (scan_len p r))) 0) (get_or (c ∷ r) (suc (pick b 0 (suc (scan_len p r)))) 0) ≡ true
      by true e k ih = e
      by false e k ih = ih (le_of_suc-le-suc k)

-- a scanner with fewer stops passes over what one with more stops took, and goes on from there
module _ {St : Type 0} (more fewer : St → ℕ → ℕ → Bool) (next : St → ℕ → ℕ → St)
    (stops-too : (q : St) (c d : ℕ) → fewer q c d ≡ true → more q c d ≡ true) where
  pub resumes : (q : St) (r : List ℕ)
      → scan_len fewer next q r ≡ scan_len more next q r + scan_len fewer next (scan_st more next q r) (drop (scan_len more next q r) r)
  unfolding scan_len scan_st
  resumes q [] = refl
  resumes q (c ∷ r) = by (more q c (get_or r 0 0)) (fewer q c (get_or r 0 0)) refl refl (resumes (next q c (get_or r 0 0)) r)
    where
      p : St
      p = next q c (get_or r 0 0)

      by : (b d : Bool) → more q c (get_or r 0 0) ≡ b → fewer q c (get_or r 0 0) ≡ d
          → scan_len fewer next p r ≡ scan_len more next p r + scan_len fewer next (scan_st more next p r) (drop (scan_len more next p r) r)
          → pick d 0 (suc (scan_len fewer next p r))
          ≡ pick b 0 (suc (scan_len more next p r)) + scan_len fewer next (pick b q (scan_st more next p r)) (drop (pick b 0 (suc (scan_len more next p r))) (c ∷ r))
      by true d m f e = rw (scan-cons fewer next q c r, f) (sym (zero-add _))
      by false true m f e = let z : true ≡ false = sym (stops-too q c (get_or r 0 0) f) ∙ m in absurd (true≢false z)
      by false false m f e = rw e (sym (suc-add _ _))
