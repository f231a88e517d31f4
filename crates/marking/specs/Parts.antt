-- Parts of a table that has parts of one size.
-- Assumes nothing.
use Rattle.std.specs.Prelude.{ℕ, ◌+◌, ◌-◌, ◌*◌, ◌<◌, ◌≤◌, ◌≡◌, refl, Bool, true, false, List, ◌++◌, ltb, length, take, drop}
use Rattle.std.proofs.Common.{sym, ap, ◌∙◌, append_assoc, arith, length-drop, take-append-drop, length-take-le, take_at, drop_at, drop-drop, ltb-true, ltb-false}
use Rattle.std.proofs.Math.Seq.{paste, take-length}
use Rattle.std.proofs.lemmas.List.{take-append-le, drop-append-le}
use Rattle.std.proofs.lemmas.List.Edits.{drop-paste}

-- part number i of a table of parts that have so many bytes
abbrev pub part_no : ℕ → List ℕ → ℕ → List ℕ
part_no size t i = take size (drop (size * i) t)

-- bytes before and behind those that are written over
part-before : (t p : List ℕ) (a at n k : ℕ) → a + k ≤ at → at ≤ length t → take k (drop a (paste t at p n)) ≡ take k (drop a t)
part-before t p a at n k h g =
    let l = length-take-le at t g in
    let d = length-drop a (take at t) in
    let x = drop-append-le a (take at t) (take n p ++ drop (at + n) t) (omega arith) in
    let y = drop-append-le a (take at t) (drop at t) (omega arith) in
    let u = take-append-le k (drop a (take at t)) (take n p ++ drop (at + n) t) (omega arith) in
    let v = take-append-le k (drop a (take at t)) (drop at t) (omega arith) in
    ap (λ (l : List ℕ). take k (drop a l)) (append_assoc (take at t) (take n p) (drop (at + n) t)) ∙ ap (take k) x ∙ u ∙ sym v ∙ sym (ap (take k) y) ∙ ap (λ (l : List ℕ). take k (drop a l)) (take-append-drop at t)

part-behind : (t p : List ℕ) (a at n : ℕ) → at + n ≤ a → at ≤ length t → n ≤ length p → drop a (paste t at p n) ≡ drop a t
part-behind t p a at n h g l =
    let e : at + n + (a - (at + n)) ≡ a = omega arith in
    rw (← e) (sym (drop-drop (a - (at + n)) (at + n) (paste t at p n)) ∙ ap (drop (a - (at + n))) (drop-paste t at p n g l) ∙ drop-drop (a - (at + n)) (at + n) t)

-- the part that is written
pub part_own : (t p : List ℕ) (at n : ℕ) → at ≤ length t → length p ≡ n → take n (drop at (paste t at p n)) ≡ p
part_own t p at n g l =
    let x = drop_at (take at t) (take n p ++ drop (at + n) t) at (length-take-le at t g) in
    let e : take n p ≡ p = rw (← l) (take-length p) in
    ap (λ (l : List ℕ). take n (drop at l)) (append_assoc (take at t) (take n p) (drop (at + n) t))
    ∙ ap (take n) x ∙ ap (λ (z : List ℕ). take n (z ++ drop (at + n) t)) e ∙ take_at p (drop (at + n) t) n l

-- the other parts
module _ (size : ℕ) (t p : List ℕ) (s i : ℕ) where
  part_else : size * s ≤ length t → length p ≡ size → (i ≡ s → ⊥) → (i < s → size * i + size ≤ size * s) → (s < i → size * s + size ≤ size * i)
      → part_no size (paste t (size * s) p size) i ≡ part_no size t i
  part_else g l d x y = go (ltb i s) refl
    where
      go : (z : Bool) → ltb i s ≡ z → part_no size (paste t (size * s) p size) i ≡ part_no size t i
      go true e = part-before t p (size * i) (size * s) size size (x (ltb-true i s e)) g
      go false e =
          let u = ltb-false i s e in
          ap (take size) (part-behind t p (size * i) (size * s) size (y (omega arith)) g (omega arith))

-- of 144 bytes, of 18
pub part_other : (t p : List ℕ) (s i : ℕ) → 144 * s ≤ length t → length p ≡ 144 → (i ≡ s → ⊥) → part_no 144 (paste t (144 * s) p 144) i ≡ part_no 144 t i
part_other t p s i g l d = part_else 144 t p s i g l d (λ h. omega arith) (λ h. omega arith)

pub flags_other : (t p : List ℕ) (s i : ℕ) → 18 * s ≤ length t → length p ≡ 18 → (i ≡ s → ⊥) → part_no 18 (paste t (18 * s) p 18) i ≡ part_no 18 t i
flags_other t p s i g l d = part_else 18 t p s i g l d (λ h. omega arith) (λ h. omega arith)
