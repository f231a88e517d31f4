-- The order of texts: byte by byte, unsigned, a prefix first. 0 before, 1 the same, 2 after.
-- Assumes nothing.
use Rattle.std.specs.Prelude.{ℕ, suc, ◌+◌, ◌≤◌, ◌<◌, ◌≡◌, refl, Bool, true, false, List, [], ◌∷◌, ◌++◌, ltb, eqb, length, get_or, drop}
use Rattle.std.proofs.Common.{add-one, arith, lt-ltb, drop_of_length-le, drop-cons}
use Rattle.std.proofs.Math.Dec.{leb-suc-suc}
use Rattle.classes.specs.Choice.{pick}

-- the first that is not 'the same' decides
abbrev pub and_then : ℕ → ℕ → ℕ
and_then x y = pick (eqb x 1) y x

unfoldable pub cmp_num : ℕ → ℕ → ℕ
cmp_num x y = pick (ltb x y) 0 (pick (ltb y x) 2 1)

-- '(bytes unsigned, a prefix first)'
unfoldable pub cmp : List ℕ → List ℕ → ℕ
cmp [] [] = 1
cmp [] (y ∷ ys) = 0
cmp (x ∷ xs) [] = 2
cmp (x ∷ xs) (y ∷ ys) = pick (ltb x y) 0 (pick (ltb y x) 2 (cmp xs ys))

-- the same text
unfoldable pub same_text : List ℕ → List ℕ → Bool
same_text x y = eqb (cmp x y) 1

-- y against the front of x: 1 where x begins with y
unfoldable pub front : List ℕ → List ℕ → ℕ
front [] [] = 1
front (x ∷ xs) [] = 1
front [] (y ∷ ys) = 0
front (x ∷ xs) (y ∷ ys) = pick (ltb x y) 0 (pick (ltb y x) 2 (front xs ys))

-- A turn of the loops.

pub cmp-cons : (x y : ℕ) (xs ys : List ℕ) → cmp (x ∷ xs) (y ∷ ys) ≡ pick (ltb x y) 0 (pick (ltb y x) 2 (cmp xs ys))
unfolding cmp
cmp-cons x y xs ys = refl

pub cmp_turn : (x y : List ℕ) (i : ℕ) → i < length x → i < length y
    → cmp (drop i x) (drop i y) ≡ pick (ltb (get_or x i 0) (get_or y i 0)) 0 (pick (ltb (get_or y i 0) (get_or x i 0)) 2 (cmp (drop (i + 1) x) (drop (i + 1) y)))
cmp_turn x y i h g = rw (drop-cons x i 0 h, drop-cons y i 0 g, cmp-cons, add-one)

pub cmp-long : (x y : List ℕ) (i : ℕ) → i < length x → length y ≤ i → cmp (drop i x) (drop i y) ≡ 2
unfolding cmp
cmp-long x y i h g = rw (drop-cons x i 0 h, drop_of_length-le y g)

pub cmp_short : (x y : List ℕ) (i : ℕ) → length x ≤ i → i < length y → cmp (drop i x) (drop i y) ≡ 0
unfolding cmp
cmp_short x y i h g = rw (drop_of_length-le x h, drop-cons y i 0 g)

pub cmp-both : (x y : List ℕ) (i : ℕ) → length x ≤ i → length y ≤ i → cmp (drop i x) (drop i y) ≡ 1
unfolding cmp
cmp-both x y i h g = rw (drop_of_length-le x h, drop_of_length-le y g)

pub front-nil : (x : List ℕ) → front x [] ≡ 1
unfolding front
front-nil [] = refl
front-nil (x ∷ xs) = refl

pub front-cons : (x y : ℕ) (xs ys : List ℕ) → front (x ∷ xs) (y ∷ ys) ≡ pick (ltb x y) 0 (pick (ltb y x) 2 (front xs ys))
unfolding front
front-cons x y xs ys = refl

pub front_turn : (x y : List ℕ) (i : ℕ) → i < length x → i < length y
    → front (drop i x) (drop i y) ≡ pick (ltb (get_or x i 0) (get_or y i 0)) 0 (pick (ltb (get_or y i 0) (get_or x i 0)) 2 (front (drop (i + 1) x) (drop (i + 1) y)))
front_turn x y i h g = rw (drop-cons x i 0 h, drop-cons y i 0 g, front-cons, add-one)

pub front_short : (x y : List ℕ) (i : ℕ) → length x ≤ i → i < length y → front (drop i x) (drop i y) ≡ 0
unfolding front
front_short x y i h g = rw (drop_of_length-le x h, drop-cons y i 0 g)

pub front_end : (x y : List ℕ) (i : ℕ) → length y ≤ i → front (drop i x) (drop i y) ≡ 1
front_end x y i h = rw (drop_of_length-le y h) (front-nil (drop i x))

-- Comparing part by part.

chosen : (t u : Bool) (m n k : ℕ) → m ≡ and_then n k → pick t 0 (pick u 2 m) ≡ and_then (pick t 0 (pick u 2 n)) k
chosen true u m n k e = refl
chosen false true m n k e = refl
chosen false false m n k e = e

-- with y, and behind it with z
pub cmp-front : (x y z : List ℕ) → cmp x (y ++ z) ≡ and_then (front x y) (cmp (drop (length y) x) z)
unfolding cmp front
cmp-front [] [] z = refl
cmp-front (x ∷ xs) [] z = refl
cmp-front [] (y ∷ ys) z = refl
cmp-front (x ∷ xs) (y ∷ ys) z =
    chosen (ltb x y) (ltb y x) (cmp xs (ys ++ z)) (front xs ys) (cmp (drop (length ys) xs) z) (cmp-front xs ys z)

-- and so for `front`
pub front-joined : (x y z : List ℕ) → front x (y ++ z) ≡ and_then (front x y) (front (drop (length y) x) z)
unfolding front
front-joined [] [] z = refl
front-joined (x ∷ xs) [] z = refl
front-joined [] (y ∷ ys) z = refl
front-joined (x ∷ xs) (y ∷ ys) z =
    chosen (ltb x y) (ltb y x) (front xs (ys ++ z)) (front xs ys) (front (drop (length ys) xs) z) (front-joined xs ys z)

-- with y, and then by length
pub cmp-whole : (x y : List ℕ) → cmp x y ≡ and_then (front x y) (pick (ltb (length y) (length x)) 2 1)
unfolding cmp front
cmp-whole [] [] = refl
cmp-whole (x ∷ xs) [] = rw (lt-ltb 0 (suc (length xs)) (omega arith))
cmp-whole [] (y ∷ ys) = refl
cmp-whole (x ∷ xs) (y ∷ ys) =
    rw (leb-suc-suc (suc (length ys)) (length xs))
    (chosen (ltb x y) (ltb y x) (cmp xs ys) (front xs ys) (pick (ltb (length ys) (length xs)) 2 1) (cmp-whole xs ys))

-- with a byte, and behind it with z
pub cmp_byte_short : (x z : List ℕ) (b n : ℕ) → length x ≤ n → cmp (drop n x) (b ∷ z) ≡ 0
unfolding cmp
cmp_byte_short x z b n h = rw (drop_of_length-le x h)

pub cmp_byte : (x z : List ℕ) (b n : ℕ) → n < length x
    → cmp (drop n x) (b ∷ z) ≡ pick (ltb (get_or x n 0) b) 0 (pick (ltb b (get_or x n 0)) 2 (cmp (drop (n + 1) x) z))
cmp_byte x z b n h = rw (drop-cons x n 0 h, cmp-cons, add-one)
