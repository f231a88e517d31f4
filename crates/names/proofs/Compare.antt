-- The library's comparisons answer the numbers of specs/Order.antt.
-- Assumes nothing.
use Rattle.std.specs.Prelude.{◌≡◌, refl, ℕ, ◌≤◌, ◌<◌, ◌+◌, ◌-◌, Bool, true, false, List, [], ◌∷◌, ◌&&◌, eqb, ltb, leb, length, get_or, take, drop, min}
use Rattle.std.proofs.Common.{arith, ap, sym, ne_eqb, ◌∙◌, Ordering, take_all, length-drop, leb-true, leb-false}
use Rattle.std.specs.Ordering.{ordering_index, ordering_then, nat_cmp}
use Rattle.std.specs.Cmp.Lexicographic.{slice_cmp, pointwise}
use Rattle.std.proofs.lemmas.Bool.Decides.{nat_tests}
use Rattle.classes.specs.Choice.{pick}
use Rattle.nameshape.specs.Shape.{escapes}
use Rattle.names.specs.Order.{and_then, cmp, cmp_num, front, front_turn, cmp_byte}
use Rattle.names.specs.Orders.{num_1, num_order}
use Rattle.names.specs.Name.{canon_from, turned, written_turn}

step : (x y : ℕ) (o : Ordering) (n : ℕ) → ordering_index o ≡ n → ordering_index (ordering_then (nat_cmp x y) o) ≡ pick (ltb x y) 0 (pick (ltb y x) 2 n)
step x y o n e = grind (arith, nat_tests)

pub cmp_is : (x y : List ℕ) → ordering_index (slice_cmp nat_cmp x y) ≡ cmp x y
unfolding cmp
cmp_is [] [] = refl
cmp_is [] (y ∷ ys) = refl
cmp_is (x ∷ xs) [] = refl
cmp_is (x ∷ xs) (y ∷ ys) = step x y (slice_cmp nat_cmp xs ys) (cmp xs ys) (cmp_is xs ys)

-- where only the front of x is compared, that is as far as y goes
front_to : (x y : List ℕ) → ordering_index (slice_cmp nat_cmp (take (length y) x) y) ≡ front x y
unfolding front
front_to [] [] = refl
front_to (x ∷ xs) [] = refl
front_to [] (y ∷ ys) = refl
front_to (x ∷ xs) (y ∷ ys) = step x y (slice_cmp nat_cmp (take (length ys) xs) ys) (front xs ys) (front_to xs ys)

pub front_is : (x y : List ℕ) → ordering_index (slice_cmp nat_cmp (take (min (length x) (length y)) x) y) ≡ front x y
front_is x y = ap (λ (t : List ℕ). ordering_index (slice_cmp nat_cmp t y)) (by (leb (length x) (length y)) refl) ∙ front_to x y
  where
    by : (t : Bool) → leb (length x) (length y) ≡ t → take (min (length x) (length y)) x ≡ take (length y) x
    by true e =
        let h : length x ≤ length y = leb-true (length x) (length y) e in
        let m : min (length x) (length y) ≡ length x = omega arith in
        rw (m, take_all (length x) x (omega arith), take_all (length y) x h)
    by false e =
        let h : length y < length x = leb-false (length x) (length y) e in
        let m : min (length x) (length y) ≡ length y = omega arith in
        rw m

-- and where both are compared from a place on
pub rest_is : (x y : List ℕ) (e n : ℕ) → n ≡ min (length x) (length y) → e ≤ n
    → ordering_index (slice_cmp nat_cmp (take (n - e) (drop e x)) (take (length y - e) (drop e y))) ≡ front (drop e x) (drop e y)
rest_is x y e n h g =
    let a = length-drop {A = ℕ} e x in
    let b = length-drop {A = ℕ} e y in
    let all = take_all (length y - e) (drop e y) (omega arith) in
    let m : n - e ≡ min (length (drop e x)) (length (drop e y)) = omega arith in
    rw (all, m) (front_is (drop e x) (drop e y))

-- the same text, byte by byte
same_step : (x y : ℕ) (b : Bool) (n : ℕ) → b ≡ eqb n 1 → (eqb x y && b) ≡ eqb (pick (ltb x y) 0 (pick (ltb y x) 2 n)) 1
same_step x y b n e = grind (arith, nat_tests)

pub same_is : (x y : List ℕ) → pointwise eqb x y ≡ eqb (cmp x y) 1
unfolding cmp
same_is [] [] = refl
same_is [] (y ∷ ys) = refl
same_is (x ∷ xs) [] = refl
same_is (x ∷ xs) (y ∷ ys) = same_step x y (pointwise eqb xs ys) (cmp xs ys) (same_is xs ys)

-- whether x begins with y
pub begins_is : (x y : List ℕ) → pointwise eqb (take (length y) x) y ≡ eqb (front x y) 1
begins_is x y =
    let t : List ℕ = take (length y) x in
    same_is t y ∙ ap (λ n. eqb n 1) (sym (cmp_is t y) ∙ front_to x y)

-- a byte against a byte, which decides or leaves it to those behind
chosen : (a b n : ℕ) → pick (ltb a b) 0 (pick (ltb b a) 2 n) ≡ and_then (cmp_num a b) n
unfolding cmp_num
chosen a b n = by (ltb a b) (ltb b a)
  where
    by : (t u : Bool) → pick t 0 (pick u 2 n) ≡ and_then (pick t 0 (pick u 2 1)) n
    by true u = refl
    by false true = refl
    by false false = refl

pub by_byte : (x z : List ℕ) (b n : ℕ) → n < length x → cmp (drop n x) (b ∷ z) ≡ and_then (cmp_num (get_or x n 0) b) (cmp (drop (n + 1) x) z)
by_byte x z b n h = cmp_byte x z b n h ∙ chosen (get_or x n 0) b (cmp (drop (n + 1) x) z)

front_by : (x y : List ℕ) (i : ℕ) → i < length x → i < length y
    → front (drop i x) (drop i y) ≡ and_then (cmp_num (get_or x i 0) (get_or y i 0)) (front (drop (i + 1) x) (drop (i + 1) y))
front_by x y i h g = front_turn x y i h g ∙ chosen (get_or x i 0) (get_or y i 0) (front (drop (i + 1) x) (drop (i + 1) y))

-- the first bytes that differ decide
pub front_apart : (x y : List ℕ) (i : ℕ) → i < length x → i < length y → (get_or x i 0 ≡ get_or y i 0 → ⊥)
    → front (drop i x) (drop i y) ≡ cmp_num (get_or x i 0) (get_or y i 0)
front_apart x y i h g apart = front_by x y i h g ∙ rw (ne_eqb _ 1 (λ e. apart (num_1 _ _ e)))

pub front_on : (x y : List ℕ) (i : ℕ) → i < length x → i < length y → get_or x i 0 ≡ get_or y i 0
    → front (drop i x) (drop i y) ≡ front (drop (i + 1) x) (drop (i + 1) y)
front_on x y i h g e = front_by x y i h g ∙ rw (e, num_order.self)

pub written_by : (x y : List ℕ) (slash escaped : Bool) (i : ℕ) → i < length x → i < length y
    → front (drop i x) (canon_from slash escaped (drop i y))
    ≡ and_then (cmp_num (get_or x i 0) (turned slash escaped (get_or y i 0)))
    (front (drop (i + 1) x) (canon_from slash (escapes escaped (get_or y i 0)) (drop (i + 1) y)))
written_by x y slash escaped i h g =
    written_turn x y slash escaped i h g
    ∙ chosen (get_or x i 0) (turned slash escaped (get_or y i 0)) (front (drop (i + 1) x) (canon_from slash (escapes escaped (get_or y i 0)) (drop (i + 1) y)))
