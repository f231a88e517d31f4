-- A word that is as long as none in a table is none of them.
-- Assumes nothing.
use Rattle.std.specs.Prelude.{◌≡◌, refl, Bool, true, false, List, [], ◌∷◌, ℕ, ◌≤◌, ◌<◌, eqb, ltb, length, get_or}
use Rattle.std.proofs.Common.{arith, ltb-true, ne_eqb}
use Rattle.classes.specs.Choice.{or, and}
use Rattle.words.specs.Words.{Key, find, units, dividers}
use Rattle.words.specs.Laws.{both, every}
use Rattle.words.specs.Packed.{apart}

none_between : (t : List Key) (w : List ℕ) (lo hi : ℕ) → every (λ k. or (ltb (length k.word) lo) (ltb hi (length k.word))) t ≡ true → lo ≤ length w → length w ≤ hi → 0 ≡ find t w
none_between [] w lo hi e a b = refl
none_between (k ∷ ks) w lo hi e a b =
    let h = both (or (ltb (length k.word) lo) (ltb hi (length k.word))) (every (λ k. or (ltb (length k.word) lo) (ltb hi (length k.word))) ks) e in
    rw (apart k.word w (λ q. by (ltb (length k.word) lo) (ltb hi (length k.word)) refl refl h.0 q)) (none_between ks w lo hi h.1 a b)
  where
    by : (t u : Bool) → ltb (length k.word) lo ≡ t → ltb hi (length k.word) ≡ u → or t u ≡ true → length k.word ≡ length w → ⊥
    by true u p r o q = omega (arith, ltb-true (length k.word) lo p)
    by false true p r o q = omega (arith, ltb-true hi (length k.word) r)
    by false false p r o q = let z : ◌≡◌ {A = ℕ} 0 1 = cc in omega arith

none_from : (t : List Key) (w : List ℕ) (lo : ℕ) → every (λ k. ltb (length k.word) lo) t ≡ true → lo ≤ length w → 0 ≡ find t w
none_from [] w lo e a = refl
none_from (k ∷ ks) w lo e a =
    let h = both (ltb (length k.word) lo) (every (λ k. ltb (length k.word) lo) ks) e in
    let l : length k.word < lo = ltb-true (length k.word) lo h.0 in
    rw (apart k.word w (λ q. omega arith)) (none_from ks w lo h.1 a)

pub no_divider : (w : List ℕ) → 1 < length w → 0 ≡ find dividers w
no_divider w h = none_from dividers w 2 refl h

pub unit_empty : (w : List ℕ) → length w < 1 → 0 ≡ find units w
unit_empty w h = none_between units w 0 0 refl (omega arith) (omega arith)

pub unit_long : (w : List ℕ) → 2 < length w → 0 ≡ find units w
unit_long w h = none_from units w 3 refl h

off : (b : Bool) → and b false ≡ false
off true = refl
off false = refl

pub unit_other : (w : List ℕ) → length w < 3 → 2 ≤ length w → (get_or w 0 0 ≡ 102 → ⊥) → (get_or w 0 0 ≡ 112 → ⊥) → (get_or w 0 0 ≡ 110 → ⊥) → (get_or w 0 0 ≡ 117 → ⊥) → (get_or w 0 0 ≡ 109 → ⊥) → 0 ≡ find units w
unit_other [] l m f p n u s = absurd (omega arith)
unit_other (x ∷ []) l m f p n u s = absurd (omega arith)
unit_other (x ∷ y ∷ []) l m f p n u s = rw (ne_eqb x 102 f, ne_eqb x 112 p, ne_eqb x 110 n, ne_eqb x 117 u, ne_eqb x 109 s, off (eqb x 115))
unit_other (x ∷ y ∷ z ∷ zs) l m f p n u s = absurd (omega arith)
