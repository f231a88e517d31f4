-- Two sheets with the same records.
-- Assumes nothing.
use Prim.Native.Nat.{ℕ, zero, suc, ◌+◌, ◌-◌, ◌≤◌, ◌<◌}
use Rattle.std.specs.Prelude.{◌≡◌, Bool, List, drop, ◌↔◌, Ok}
use Rattle.std.proofs.Math.Path.{refl}
use Rattle.std.proofs.Common.{sym, ap, ◌∙◌, length-drop, get_or-take, get_or-drop, ext_get_or, length-take-le}
use Rattle.std.proofs.Math.Bool.{true, false}
use native.Mathlib.Omega.{arith}
use Rattle.classes.specs.Choice.{and}
use Rattle.wire.specs.Wire.{part}
use Rattle.names.specs.Order.{same_text}
use Rattle.sheetparts.specs.Form.{values_at, ar_step, arcs_step}
use Rattle.sheetlaws.specs.Sheet.{ar_next, nth, place}
use Rattle.names.specs.Name.{both}
use Rattle.names.specs.Laws.{text_exactly}
use Rattle.sheetparts.specs.Passed.{chain_next, same, ar_next_lem}
use Rattle.std.proofs.Math.Dec.{ltb}
use Rattle.std.proofs.Math.ListN.{length, get_or}
use borrow.Author.Tests.{ltb-true, ltb-false}

-- n arcs from p on: their bytes but for the values
unfoldable pub same_keys : List ℕ → List ℕ → ℕ → ℕ → Bool
same_keys b c zero p = true
same_keys b c (suc n) p = and (same_text (part b p (values_at b p - p)) (part c p (values_at b p - p))) (same_keys b c n (ar_next b p))

-- 'current sheet's records differ from the starting ones in anything but values': that they don't
unfoldable pub same_records : List ℕ → List ℕ → ℕ → ℕ → Bool
same_records b c n f = and (same_text (part b 0 f) (part c 0 f)) (same_keys b c n f)

-- one more arc
pub same_more : (b c : List ℕ) (n i p : ℕ) → i < n
    → same_keys b c (n - i) p ≡ and (same_text (part b p (values_at b p - p)) (part c p (values_at b p - p))) (same_keys b c (n - (i + 1)) (ar_next b p))
unfolding same_keys
same_more b c n i p h = let e : n - i ≡ suc (n - (i + 1)) = omega arith in rw e

pub same_end : (b c : List ℕ) (n i p : ℕ) → n ≤ i → same_keys b c (n - i) p ≡ true
unfolding same_keys
same_end b c n i p h = let e : n - i ≡ zero = omega arith in rw e

-- What the test says: 'anything but values', byte by byte.

-- place i is in no value of n arcs from p on
abbrev pub Outside : List ℕ → ℕ → ℕ → ℕ → Type 0
Outside b n p i = (j : ℕ) → j < n → values_at b (place b j p) ≤ i → i < ar_next b (place b j p) → ⊥

place_up : (b : List ℕ) (j p : ℕ) → p ≤ place b j p
unfolding nth
place_up b zero p = omega arith
place_up b (suc j) p = let h = place_up b j (ar_next b p) in omega arith

-- the place of an arc behind the first
outside_tail : (b : List ℕ) (n p i : ℕ) → Outside b (suc n) p i → Outside b n (ar_next b p) i
unfolding nth
outside_tail b n p i o j h = o (suc j) (omega arith)

outside-more : (b : List ℕ) (n p i : ℕ) → ar_next b p ≤ i → Outside b n (ar_next b p) i → Outside b (suc n) p i
unfolding nth
outside-more b n p i g o zero h x y = omega arith
outside-more b n p i g o (suc j) h x y = o j (omega arith) x y

-- what stands before the first arc's values
outside-key : (b : List ℕ) (n p i : ℕ) → i < values_at b p → Outside b n p i
unfolding nth
outside-key b n p i g zero h x y = omega arith
outside-key b n p i g (suc j) h x y = let u = place_up b j (ar_next b p) in omega arith

module _ (b c : List ℕ) (l : length c ≡ length b) where
  -- a part that is the same, and each of its bytes
  part_bytes : (p m i : ℕ) → part b p m ≡ part c p m → p ≤ i → i < p + m → get_or c i 0 ≡ get_or b i 0
  part_bytes p m i e g h =
      let z : p + (i - p) ≡ i = omega arith in
      let k : i - p < m = omega arith in
      let x = get_or-take m (drop p b) (i - p) 0 k ∙ get_or-drop p b (i - p) 0 ∙ ap (λ q. get_or b q 0) z in
      let y = get_or-take m (drop p c) (i - p) 0 k ∙ get_or-drop p c (i - p) 0 ∙ ap (λ q. get_or c q 0) z in
      sym y ∙ ap (λ t. get_or t (i - p) 0) (sym e) ∙ x

  bytes-part : (p m : ℕ) → p + m ≤ length b → ((i : ℕ) → p ≤ i → i < p + m → get_or c i 0 ≡ get_or b i 0) → part b p m ≡ part c p m
  bytes-part p m h f =
      let x : length (part b p m) ≡ m = length-take-le m (drop p b) (rw length-drop (omega arith)) in
      let y : length (part c p m) ≡ m = length-take-le m (drop p c) (rw (length-drop, l) (omega arith)) in
      ext_get_or 0 (part b p m) (part c p m) (x ∙ sym y)
      (λ i g. let k : i < m = omega arith in
      rw (
        get_or-take m (drop p b) i 0 k,
        get_or-take m (drop p c) i 0 k,
        get_or-drop p b i 0,
        get_or-drop p c i 0,
      ) (sym (f (p + i) (omega arith) (omega arith))))

  keys-bytes : (n prev p r : ℕ) → p ≤ length b → arcs_step b n prev p ≡ Ok r → same_keys b c n p ≡ true
      → (i : ℕ) → p ≤ i → i < r → Outside b n p i → get_or c i 0 ≡ get_or b i 0
  unfolding arcs_step same_keys nth
  keys-bytes zero prev p r h e s i g k o = let z = same e in absurd (omega arith)
  keys-bytes (suc n) prev p r h e s i g k o =
      let w = chain_next (ar_step b prev p) _ r e in
      let a = ar_next_lem b prev p w.0 w.1 in
      let t = both (same_text (part b p (values_at b p - p)) (part c p (values_at b p - p))) _ s in
      let q = a.inside in
      let d = a.place in
      let rest : arcs_step b n p (ar_next b p) ≡ Ok r = rw a.place at w.2 in
      by (ltb i (values_at b p)) refl (ltb i (ar_next b p)) refl ((text_exactly _ _).0 t.0)
      (λ m. keys-bytes n p (ar_next b p) r (omega arith) rest t.1 i m k (outside_tail b n p i o))
    where
      by : (x : Bool) → ltb i (values_at b p) ≡ x → (y : Bool) → ltb i (ar_next b p) ≡ y
          → part b p (values_at b p - p) ≡ part c p (values_at b p - p)
          → (ar_next b p ≤ i → get_or c i 0 ≡ get_or b i 0) → get_or c i 0 ≡ get_or b i 0
      by true x y f m later = let u = ltb-true i (values_at b p) x in part_bytes p (values_at b p - p) i m g (omega arith)
      by false x true f m later = absurd (o 0 (omega arith) (ltb-false _ _ x) (ltb-true _ _ f))
      by false x false f m later = later (ltb-false _ _ f)

  arcs_up : (n prev p r : ℕ) → arcs_step b n prev p ≡ Ok r → p ≤ r
  unfolding arcs_step
  arcs_up zero prev p r e = let z = same e in omega arith
  arcs_up (suc n) prev p r e =
      let w = chain_next (ar_step b prev p) _ r e in
      let a = ar_next_lem b prev p w.0 w.1 in
      let d = a.place in
      let u = arcs_up n p w.0 r w.2 in
      omega arith

  bytes-keys : (n prev p r : ℕ) → p ≤ length b → arcs_step b n prev p ≡ Ok r
      → ((i : ℕ) → p ≤ i → i < r → Outside b n p i → get_or c i 0 ≡ get_or b i 0) → same_keys b c n p ≡ true
  unfolding arcs_step same_keys
  bytes-keys zero prev p r h e f = refl
  bytes-keys (suc n) prev p r h e f =
      let w = chain_next (ar_step b prev p) _ r e in
      let a = ar_next_lem b prev p w.0 w.1 in
      let q = a.inside in
      let d = a.place in
      let rest : arcs_step b n p (ar_next b p) ≡ Ok r = rw a.place at w.2 in
      let u = arcs_up n p (ar_next b p) r rest in
      let k = bytes-part p (values_at b p - p) (omega arith) (λ i g m. f i g (omega arith) (outside-key b (suc n) p i (omega arith))) in
      rw ((text_exactly _ _).1 k)
      (bytes-keys n p (ar_next b p) r (omega arith) rest (λ i g m o. f i (omega arith) m (outside-more b n p i g o)))

  -- the law: the test is passed exactly if every byte outside the values is the same
  pub same_exactly : (n f : ℕ) → f ≤ length b → arcs_step b n 0 f ≡ Ok (length b)
      → (same_records b c n f ≡ true) ↔ ((i : ℕ) → i < length b → Outside b n f i → get_or c i 0 ≡ get_or b i 0)
  unfolding same_records
  same_exactly n f h e = (
    λ s i k o.
        let t = both (same_text (part b 0 f) (part c 0 f)) _ s in
        by i k o ((text_exactly _ _).0 t.0) t.1 (ltb i f) refl,
    λ g.
        rw ((text_exactly _ _).1 (bytes-part 0 f (omega arith) (λ i x y. g i (omega arith) (outside-key b n f i (omega arith)))))
        (bytes-keys n 0 f (length b) h e (λ i x y o. g i y o)),
  )
    where
      by : (i : ℕ) → i < length b → Outside b n f i → part b 0 f ≡ part c 0 f → same_keys b c n f ≡ true → (x : Bool) → ltb i f ≡ x
          → get_or c i 0 ≡ get_or b i 0
      by i k o p s true x = let u = ltb-true i f x in part_bytes 0 f i p (omega arith) (omega arith)
      by i k o p s false x = keys-bytes n 0 f (length b) h e s i (ltb-false _ _ x) k o
