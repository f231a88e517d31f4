-- Numbers of two, four and eight bytes, the most significant byte first, and the parts of a list of bytes.
-- Assumes nothing.
use Rattle.std.specs.Prelude.{List, [], ◌∷◌, ℕ, ◌+◌, ◌*◌, ◌/◌, ◌%◌, ◌<◌, get_or, take, drop}

-- every element is a byte
abbrev pub Bytes : List ℕ → Type 0
Bytes b = (i : ℕ) → get_or b i 0 < 256

-- n bytes from p on
abbrev pub part : List ℕ → ℕ → ℕ → List ℕ
part b p n = take n (drop p b)

-- the number that the bytes from p on spell, 'big-endian'
unfoldable pub be16 : List ℕ → ℕ → ℕ
be16 b p = get_or b p 0 * 256 + get_or b (p + 1) 0

unfoldable pub be32 : List ℕ → ℕ → ℕ
be32 b p = ((get_or b p 0 * 256 + get_or b (p + 1) 0) * 256 + get_or b (p + 2) 0) * 256 + get_or b (p + 3) 0

unfoldable pub be64 : List ℕ → ℕ → ℕ
be64 b p =
    ((((((get_or b p 0 * 256 + get_or b (p + 1) 0) * 256 + get_or b (p + 2) 0) * 256 + get_or b (p + 3) 0) * 256
    + get_or b (p + 4) 0) * 256 + get_or b (p + 5) 0) * 256 + get_or b (p + 6) 0) * 256 + get_or b (p + 7) 0

-- the eight bytes of n
abbrev pub be_bytes : ℕ → List ℕ
be_bytes n =
    n / 72057594037927936 % 256 ∷ n / 281474976710656 % 256 ∷ n / 1099511627776 % 256 ∷ n / 4294967296 % 256
    ∷ n / 16777216 % 256 ∷ n / 65536 % 256 ∷ n / 256 % 256 ∷ n % 256 ∷ []

-- the bytes of a number of two and of four bytes, and then those of t
abbrev pub enc16 : ℕ → List ℕ → List ℕ
enc16 n t = n / 256 ∷ n % 256 ∷ t

abbrev pub enc32 : ℕ → List ℕ → List ℕ
enc32 n t = n / 16777216 ∷ n / 65536 % 256 ∷ n / 256 % 256 ∷ n % 256 ∷ t
