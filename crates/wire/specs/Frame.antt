-- What stands where after eight bytes were written: the number that they spell there, and everywhere else what stood before.
-- Assumes nothing.
use Rattle.std.specs.Prelude.{ℕ, ◌+◌, ◌-◌, ◌≤◌, ◌<◌, ◌^◌, ◌≡◌, List, ◌++◌, ℤ, length, get_or, take, drop}
use Rattle.std.proofs.Common.{ap, ◌∙◌, arith, add-zero, length-take-le, get_or-take, get_or-drop, get_or-append-add, SFits, to_z, of_z}
use Rattle.std.proofs.Math.ListN.{get_or-append}
use Rattle.std.proofs.Math.Seq.{paste, length_paste_head}
use Rattle.std.specs.Int.{w64}
use mir.ValLaws.{to_z-of_z, of_z_fits}
use Rattle.wire.specs.Wire.{be64, be_bytes}
use Rattle.wire.specs.Round.{round}

module _ (d s : List ℕ) (p n : ℕ) (h : p + n ≤ length d) (l : n ≤ length s) where
  pub byte_before : (i : ℕ) → i < p → get_or (paste d p s n) i 0 ≡ get_or d i 0
  byte_before i g =
      let a = length_paste_head d p s n (omega arith) l in
      let b = length-take-le p d (omega arith) in
      get_or-append (take p d ++ take n s) (drop (p + n) d) 0 i (omega arith)
      ∙ get_or-append (take p d) (take n s) 0 i (omega arith) ∙ get_or-take p d i 0 g

  pub byte_in : (k : ℕ) → k < n → get_or (paste d p s n) (p + k) 0 ≡ get_or s k 0
  byte_in k g =
      let a = length_paste_head d p s n (omega arith) l in
      let b = length-take-le p d (omega arith) in
      get_or-append (take p d ++ take n s) (drop (p + n) d) 0 (p + k) (omega arith)
      ∙ (rw b at (get_or-append-add (take p d) (take n s) k 0)) ∙ get_or-take n s k 0 g

  pub byte_behind : (i : ℕ) → p + n ≤ i → get_or (paste d p s n) i 0 ≡ get_or d i 0
  byte_behind i g =
      let a = length_paste_head d p s n (omega arith) l in
      let z : p + n + (i - (p + n)) ≡ i = omega arith in
      rw (a, z) at (get_or-append-add (take p d ++ take n s) (drop (p + n) d) (i - (p + n)) 0)
      ∙ (rw z at (get_or-drop (p + n) d (i - (p + n)) 0))

-- a number that is written is read back
pub number_back : (d : List ℕ) (p n : ℕ) → p + 8 ≤ length d → n < 2 ^ 64 → be64 (paste d p (be_bytes n) 8) p ≡ n
unfolding be64
number_back d p n h g =
    let f : (k : ℕ) → k < 8 → get_or (paste d p (be_bytes n) 8) (p + k) 0 ≡ get_or (be_bytes n) k 0 = byte_in d (be_bytes n) p 8 h (omega arith) in
    rw (rw add-zero at (f 0 (omega arith)), f 1 (omega arith), f 2 (omega arith), f 3 (omega arith))
    (rw (f 4 (omega arith), f 5 (omega arith), f 6 (omega arith), f 7 (omega arith)) (round n g))

pub value_back : (d : List ℕ) (p : ℕ) (z : ℤ) → p + 8 ≤ length d → SFits w64 z → to_z w64 (be64 (paste d p (be_bytes (of_z w64 z)) 8) p) ≡ z
value_back d p z h f = ap (to_z w64) (number_back d p (of_z w64 z) h (of_z_fits w64 z f).fits) ∙ to_z-of_z w64 z f

-- and a number that stands elsewhere stays
pub number-before : (d : List ℕ) (p q n : ℕ) → p + 8 ≤ length d → q + 8 ≤ p → be64 (paste d p (be_bytes n) 8) q ≡ be64 d q
unfolding be64
number-before d p q n h g =
    let f : (i : ℕ) → i < p → get_or (paste d p (be_bytes n) 8) i 0 ≡ get_or d i 0 = byte_before d (be_bytes n) p 8 h (omega arith) in
    rw (f q (omega arith), f (q + 1) (omega arith), f (q + 2) (omega arith), f (q + 3) (omega arith))
    (rw (f (q + 4) (omega arith), f (q + 5) (omega arith), f (q + 6) (omega arith), f (q + 7) (omega arith)))

pub number_behind : (d : List ℕ) (p q n : ℕ) → p + 8 ≤ length d → p + 8 ≤ q → be64 (paste d p (be_bytes n) 8) q ≡ be64 d q
unfolding be64
number_behind d p q n h g =
    let f : (i : ℕ) → p + 8 ≤ i → get_or (paste d p (be_bytes n) 8) i 0 ≡ get_or d i 0 = byte_behind d (be_bytes n) p 8 h (omega arith) in
    rw (f q (omega arith), f (q + 1) (omega arith), f (q + 2) (omega arith), f (q + 3) (omega arith))
    (rw (f (q + 4) (omega arith), f (q + 5) (omega arith), f (q + 6) (omega arith), f (q + 7) (omega arith)))
