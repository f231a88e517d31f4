-- Laws of orders: of numbers, of texts, of one part of a thing and of parts in turn.
-- Assumes nothing.
use Rattle.std.specs.Prelude.{ℕ, ◌≤◌, ◌<◌, ◌≡◌, refl, Bool, true, false, List, [], ◌∷◌, ltb, eqb}
use Rattle.std.proofs.Common.{sym, ap, ◌∙◌, arith, ltb-true, ltb-false, lt-ltb, le-ltb, eqb-true, eq-eqb, ne_eqb}
use Rattle.std.proofs.lemmas.Bool.{eqb-false}
use Rattle.classes.specs.Choice.{pick}
use Rattle.names.specs.Order.{cmp, cmp_num, and_then}

-- a comparison: 0, 1 or 2; what is the same compares the same; z ≤ x < y gives z < y
pub record Order {A : Type 0} (c : A → A → ℕ) : Type 0 where
  pub range : (x y : A) → c x y ≤ 2
  pub self : (x : A) → c x x ≡ 1
  pub alike : (x y z : A) → c x y ≡ 1 → c x z ≡ c y z
  pub above : (x y z : A) → c x y ≡ 0 → (c x z ≡ 0 → ⊥) → c y z ≡ 2

-- so what is above something is not below it, nor the same
pub converse : {A : Type 0} (c : A → A → ℕ) → Order c → (x y : A) → c x y ≡ 0 → c y x ≡ 2
converse c o x y e = o.above x y x e (λ z. omega (arith, o.self x, z))

data Three (x y : ℕ) : Type 0 where
  less : x < y → Three x y
  equal : x ≡ y → Three x y
  more : y < x → Three x y

three : (x y : ℕ) → Three x y
three x y = by (ltb x y) (ltb y x) refl refl
  where
    by : (t u : Bool) → ltb x y ≡ t → ltb y x ≡ u → Three x y
    by true u e f = less (ltb-true x y e)
    by false true e f = more (ltb-true y x f)
    by false false e f = let a = ltb-false x y e in let b = ltb-false y x f in equal (omega arith)

num_less : (x y : ℕ) → x < y → cmp_num x y ≡ 0
unfolding cmp_num
num_less x y h = rw (lt-ltb x y h)

num_same : (x y : ℕ) → x ≡ y → cmp_num x y ≡ 1
unfolding cmp_num
num_same x y h = rw (le-ltb x y (omega arith), le-ltb y x (omega arith))

num_more : (x y : ℕ) → y < x → cmp_num x y ≡ 2
unfolding cmp_num
num_more x y h = rw (le-ltb x y (omega arith), lt-ltb y x h)

num_range : (x y : ℕ) → cmp_num x y ≤ 2
num_range x y = by (three x y)
  where
    by : Three x y → cmp_num x y ≤ 2
    by (less h) = rw (num_less x y h) (omega arith)
    by (equal h) = rw (num_same x y h) (omega arith)
    by (more h) = rw (num_more x y h) (omega arith)

-- a comparison of numbers is 1 exactly for equal numbers
pub num_1 : (x y : ℕ) → cmp_num x y ≡ 1 → x ≡ y
num_1 x y e = by (three x y)
  where
    by : Three x y → x ≡ y
    by (less h) = let z = num_less x y h in absurd (omega (arith, z, e))
    by (equal h) = h
    by (more h) = let z = num_more x y h in absurd (omega (arith, z, e))

pub num_0 : (x y : ℕ) → cmp_num x y ≡ 0 → x < y
num_0 x y e = by (three x y)
  where
    by : Three x y → x < y
    by (less h) = h
    by (equal h) = let z = num_same x y h in absurd (omega (arith, z, e))
    by (more h) = let z = num_more x y h in absurd (omega (arith, z, e))

num_above : (x y z : ℕ) → x < y → (cmp_num x z ≡ 0 → ⊥) → cmp_num y z ≡ 2
num_above x y z h n = by (three x z)
  where
    by : Three x z → cmp_num y z ≡ 2
    by (less g) = absurd (n (num_less x z g))
    by (equal g) = num_more y z (omega arith)
    by (more g) = num_more y z (omega arith)

-- a text as a chain of numbers
cmp_step : (x y : ℕ) (xs ys : List ℕ) → cmp (x ∷ xs) (y ∷ ys) ≡ and_then (cmp_num x y) (cmp xs ys)
unfolding cmp cmp_num
cmp_step x y xs ys = by (ltb x y) (ltb y x)
  where
    by : (t u : Bool) → pick t 0 (pick u 2 (cmp xs ys)) ≡ and_then (pick t 0 (pick u 2 1)) (cmp xs ys)
    by true u = refl
    by false true = refl
    by false false = refl

then_range : (m n : ℕ) → m ≤ 2 → n ≤ 2 → and_then m n ≤ 2
then_range m n h g = by (eqb m 1)
  where
    by : (t : Bool) → pick t n m ≤ 2
    by true = g
    by false = h

-- what a chain says of its parts
pub then_1 : (m n : ℕ) → and_then m n ≡ 1 → (m ≡ 1) × (n ≡ 1)
then_1 m n e = by (eqb m 1) refl e
  where
    by : (t : Bool) → eqb m 1 ≡ t → pick t n m ≡ 1 → (m ≡ 1) × (n ≡ 1)
    by true t e = (eqb-true m 1 t, e)
    by false t e = absurd (eqb-false m 1 t e)

-- 0 came from the first, or from the second behind a first that is 1
data Zero (m n : ℕ) : Type 0 where
  here : m ≡ 0 → Zero m n
  there : m ≡ 1 → n ≡ 0 → Zero m n

then_0 : (m n : ℕ) → and_then m n ≡ 0 → Zero m n
then_0 m n e = by (eqb m 1) refl e
  where
    by : (t : Bool) → eqb m 1 ≡ t → pick t n m ≡ 0 → Zero m n
    by true t e = there (eqb-true m 1 t) e
    by false t e = here e

pub then_go : (m n : ℕ) → m ≡ 1 → and_then m n ≡ n
then_go m n e = rw (eq-eqb m 1 e)

pub then_stop : (m n : ℕ) → (m ≡ 1 → ⊥) → and_then m n ≡ m
then_stop m n e = rw (ne_eqb m 1 e)

-- the law of chains, at three values: z ≤ x < y gives z < y
then_above : (xy xz yz xy' xz' yz' : ℕ) → and_then xy xy' ≡ 0 → (and_then xz xz' ≡ 0 → ⊥) → xz ≤ 2
    → (xy ≡ 0 → (xz ≡ 0 → ⊥) → yz ≡ 2) → (xy ≡ 1 → xz ≡ yz) → (xy' ≡ 0 → (xz' ≡ 0 → ⊥) → yz' ≡ 2)
    → and_then yz yz' ≡ 2
then_above xy xz yz xy' xz' yz' e n r up like up' = by (then_0 xy xy' e)
  where
    last : xy ≡ 1 → xy' ≡ 0 → (t : Bool) → eqb xz 1 ≡ t → and_then yz yz' ≡ 2
    last a b true t =
        let q = eqb-true xz 1 t in
        then_go yz yz' (sym (like a) ∙ q) ∙ up' b (λ z. n (then_go xz xz' q ∙ z))
    last a b false t =
        let q = eqb-false xz 1 t in
        let m : (xz ≡ 0) → ⊥ = λ z. n (then_stop xz xz' q ∙ z) in
        let w : xz ≡ 2 = omega arith in
        then_stop yz yz' (λ z. q (like a ∙ z)) ∙ sym (like a) ∙ w

    by : Zero xy xy' → and_then yz yz' ≡ 2
    by (here a) =
        let w = up a (λ z. n (then_stop xz xz' (λ o. omega arith) ∙ z)) in
        then_stop yz yz' (λ z. omega arith) ∙ w
    by (there a b) = last a b (eqb xz 1) refl

pub num_order : Order cmp_num
num_order =
    record {
      range = num_range;
      self = λ x. num_same x x refl;
      alike = λ x y z e. ap (λ v. cmp_num v z) (num_1 x y e);
      above = λ x y z e n. num_above x y z (num_0 x y e) n;
    }

-- a comparison of texts is 1 only for equal texts
pub cmp_1 : (x y : List ℕ) → cmp x y ≡ 1 → x ≡ y
unfolding cmp
cmp_1 [] [] e = refl
cmp_1 [] (y ∷ ys) e = absurd (omega arith)
cmp_1 (x ∷ xs) [] e = absurd (omega arith)
cmp_1 (x ∷ xs) (y ∷ ys) e =
    let t = then_1 (cmp_num x y) (cmp xs ys) (sym (cmp_step x y xs ys) ∙ e) in
    let a = num_1 x y t.0 in
    let b = cmp_1 xs ys t.1 in
    cc

-- and for them it is
pub cmp_self : (x : List ℕ) → cmp x x ≡ 1
unfolding cmp
cmp_self [] = refl
cmp_self (c ∷ r) = rw (le-ltb c c (omega arith)) (cmp_self r)

cmp_range : (x y : List ℕ) → cmp x y ≤ 2
unfolding cmp
cmp_range [] [] = omega arith
cmp_range [] (y ∷ ys) = omega arith
cmp_range (x ∷ xs) [] = omega arith
cmp_range (x ∷ xs) (y ∷ ys) = rw (cmp_step x y xs ys) (then_range (cmp_num x y) (cmp xs ys) (num_range x y) (cmp_range xs ys))

cmp_above : (x y z : List ℕ) → cmp x y ≡ 0 → (cmp x z ≡ 0 → ⊥) → cmp y z ≡ 2
unfolding cmp
cmp_above [] [] z e n = absurd (omega arith)
cmp_above [] (y ∷ ys) [] e n = refl
cmp_above [] (y ∷ ys) (z ∷ zs) e n = absurd (n refl)
cmp_above (x ∷ xs) [] z e n = absurd (omega arith)
cmp_above (x ∷ xs) (y ∷ ys) [] e n = refl
cmp_above (x ∷ xs) (y ∷ ys) (z ∷ zs) e n =
    cmp_step y z ys zs
    ∙ then_above (cmp_num x y) (cmp_num x z) (cmp_num y z) (cmp xs ys) (cmp xs zs) (cmp ys zs) (sym (cmp_step x y xs ys) ∙ e)
    (λ q. n (cmp_step x z xs zs ∙ q)) (num_range x z) (λ a m. num_above x y z (num_0 x y a) m) (λ a. ap (λ v. cmp_num v z) (num_1 x y a))
    (cmp_above xs ys zs)

pub cmp_order : Order cmp
cmp_order =
    record {
      range = cmp_range;
      self = cmp_self;
      alike = λ x y z e. ap (λ v. cmp v z) (cmp_1 x y e);
      above = cmp_above;
    }

-- by one part of a thing
pub by_part : {A B : Type 0} (f : A → B) (c : B → B → ℕ) → Order c → Order (λ x y. c (f x) (f y))
by_part f c o =
    record {
      range = λ x y. o.range (f x) (f y);
      self = λ x. o.self (f x);
      alike = λ x y z. o.alike (f x) (f y) (f z);
      above = λ x y z. o.above (f x) (f y) (f z);
    }

-- by one order and, where that says 'the same', by another
pub in_turn : {A : Type 0} (c d : A → A → ℕ) → Order c → Order d → Order (λ x y. and_then (c x y) (d x y))
in_turn c d o p =
    record {
      range = λ x y. then_range (c x y) (d x y) (o.range x y) (p.range x y);
      self = λ x. then_go (c x x) (d x x) (o.self x) ∙ p.self x;
      alike = λ x y z e.
          let t = then_1 (c x y) (d x y) e in
          rw (o.alike x y z t.0, p.alike x y z t.1);
      above = λ x y z e n.
          then_above (c x y) (c x z) (c y z) (d x y) (d x z) (d y z) e n (o.range x z) (o.above x y z) (o.alike x y z) (p.above x y z);
    }
