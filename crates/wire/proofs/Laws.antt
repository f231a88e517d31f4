-- The library's numbers in bytes, as specs/Wire.antt spells them.
-- Assumes nothing.
use Rattle.std.specs.Prelude.{◌≡◌, List, ℕ, ◌+◌, ◌<◌, get_or, take, drop}
use Rattle.std.proofs.Common.{◌∙◌, arith, add-zero, get_or-take, get_or-drop}
use Rattle.std.specs.Int.{w16, w32, w64, from_be_bytes}
use Rattle.wire.specs.Wire.{be16, be32, be64}

at : (n : ℕ) (b : List ℕ) (p i : ℕ) → i < n → get_or (take n (drop p b)) i 0 ≡ get_or b (p + i) 0
at n b p i h = get_or-take n (drop p b) i 0 h ∙ get_or-drop p b i 0

pub be16_read : (b : List ℕ) (p : ℕ) → from_be_bytes w16 (take 2 (drop p b)) ≡ be16 b p
unfolding be16
be16_read b p =
    let a : (i : ℕ) → i < 2 → get_or (take 2 (drop p b)) i 0 ≡ get_or b (p + i) 0 = at 2 b p in
    rw (a 0 (omega arith), a 1 (omega arith), add-zero) (omega arith)

pub be32_read : (b : List ℕ) (p : ℕ) → from_be_bytes w32 (take 4 (drop p b)) ≡ be32 b p
unfolding be32
be32_read b p =
    let a : (i : ℕ) → i < 4 → get_or (take 4 (drop p b)) i 0 ≡ get_or b (p + i) 0 = at 4 b p in
    rw (a 0 (omega arith), a 1 (omega arith), a 2 (omega arith), a 3 (omega arith), add-zero) (omega arith)

pub be64_read : (b : List ℕ) (p : ℕ) → from_be_bytes w64 (take 8 (drop p b)) ≡ be64 b p
unfolding be64
be64_read b p =
    let a : (i : ℕ) → i < 8 → get_or (take 8 (drop p b)) i 0 ≡ get_or b (p + i) 0 = at 8 b p in
    rw (a 0 (omega arith), a 1 (omega arith), a 2 (omega arith), a 3 (omega arith), add-zero)
    (rw (a 4 (omega arith), a 5 (omega arith), a 6 (omega arith), a 7 (omega arith)) (omega arith))
