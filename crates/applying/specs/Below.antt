-- Some of the numbers below a bound: tests on them, and on the elements of a list by their places.
-- Assumes nothing.
use Rattle.std.specs.Prelude.{ℕ, zero, suc, ◌<◌, ◌≤◌, ◌≡◌, refl, Bool, true, false, not, List, [], ◌∷◌, eqb, leb, length}
use Rattle.std.proofs.Common.{sym, ◌∙◌, arith, eqb-true, eq-eqb}
use Rattle.std.proofs.Math.Option.{none, some}
use Rattle.std.proofs.Math.ListN.{get_elem?}
use Rattle.std.proofs.lemmas.Bool.{eqb-false}
use Rattle.classes.specs.Choice.{pick, and, or}
use Rattle.amounts.specs.Amounts.{lesser}
use Rattle.amounts.specs.Laws.{first_of, lesser-first}
use Rattle.history.specs.Events.{any_of}
use Rattle.history.proofs.EventLaws.{clash, some_inj}
use Rattle.history.specs.Sheet.{below}
use Rattle.applying.specs.Judged.{any_below}
use Rattle.applying.specs.Bytes.{some_of, least_of}

-- Tests.

pub bool_same : (a b : Bool) → (a ≡ true → b ≡ true) → (b ≡ true → a ≡ true) → a ≡ b
bool_same true b f g = sym (f refl)
bool_same false true f g = g refl
bool_same false false f g = refl

-- what is not so when it leads to nothing
pub not_so : (a : Bool) → (a ≡ true → ⊥) → a ≡ false
not_so true f = absurd (f refl)
not_so false f = refl

pub and_none : (a : Bool) → and a false ≡ false
and_none true = refl
and_none false = refl

pub and-all : (a : Bool) → and a true ≡ a
and-all true = refl
and-all false = refl

pub or-none : (a : Bool) → or a false ≡ a
or-none true = refl
or-none false = refl

pub or-all : (a : Bool) → or a true ≡ true
or-all true = refl
or-all false = refl

or_assoc : (a b c : Bool) → or (or a b) c ≡ or a (or b c)
or_assoc true b c = refl
or_assoc false b c = refl

pub eqb_self : (a : ℕ) → eqb a a ≡ true
eqb_self a = eq-eqb a a refl

-- Below a bound.

pub below_cong : (f g : ℕ → Bool) (k : ℕ) → ((j : ℕ) → j < k → f j ≡ g j) → any_of f (below k) ≡ any_of g (below k)
unfolding below any_of
below_cong f g zero h = refl
below_cong f g (suc k) h = rw (any_below f k, any_below g k, below_cong f g k (λ j l. h j (omega arith)), h k (omega arith))

pub below_none : (f : ℕ → Bool) (k : ℕ) → ((j : ℕ) → j < k → f j ≡ false) → any_of f (below k) ≡ false
unfolding below any_of
below_none f zero h = refl
below_none f (suc k) h = rw (any_below f k, below_none f k (λ j l. h j (omega arith)), h k (omega arith))

-- one that passes
pub below-some : (f : ℕ → Bool) (k j : ℕ) → j < k → f j ≡ true → any_of f (below k) ≡ true
below-some f zero j l e = absurd (omega arith)
below-some f (suc k) j l e = rw (any_below f k) (go (λ h. below-some f k j h e) (eqb j k) refl)
  where
    less : (j ≡ k → ⊥) → j < k
    less z = omega arith

    go : (j < k → any_of f (below k) ≡ true) → (t : Bool) → eqb j k ≡ t → or (any_of f (below k)) (f k) ≡ true
    go ih true q = let z = eqb-true j k q in rw (rw z at e) (or-all (any_of f (below k)))
    go ih false q = rw (ih (less (eqb-false j k q)))

-- only one passes
pub below_one : (f : ℕ → Bool) (k j : ℕ) → j < k → any_of (λ l. and (eqb l j) (f l)) (below k) ≡ f j
below_one f k j h =
    bool_same _ (f j) (λ e. go (f j) refl e) (λ e. below-some (λ l. and (eqb l j) (f l)) k j h (rw (eqb_self j, e)))
  where
    skip : (f j ≡ false) → (l : ℕ) (t : Bool) → eqb l j ≡ t → and t (f l) ≡ false
    skip z l true q = rw (eqb-true l j q, z)
    skip z l false q = refl

    go : (t : Bool) → f j ≡ t → any_of (λ l. and (eqb l j) (f l)) (below k) ≡ true → t ≡ true
    go true q e = refl
    go false q e = clash (sym (below_none (λ l. and (eqb l j) (f l)) k (λ l x. skip q l (eqb l j) refl)) ∙ e)

-- the first number, and those above it
any_first : (f : ℕ → Bool) (k : ℕ) → any_of f (below (suc k)) ≡ or (f 0) (any_of (λ j. f (suc j)) (below k))
unfolding below any_of
any_first f zero = refl
any_first f (suc k) =
    rw (any_below f (suc k), any_first f k, any_below (λ j. f (suc j)) k)
    (or_assoc (f 0) (any_of (λ j. f (suc j)) (below k)) (f (suc k)))

-- a list, by the places of its elements
pub any_at : {A : Type 0} (g : A → Bool) (at : ℕ → A) (l : List A) → ((j : ℕ) → j < length l → get_elem? l j ≡ some (at j))
    → any_of g l ≡ any_of (λ j. g (at j)) (below (length l))
unfolding any_of below
any_at g at [] h = refl
any_at {A} g at (a ∷ l) h =
    let e : a ≡ at 0 = some_inj (h 0 (omega arith)) in
    rw (any_first (λ j. g (at j)) (length l), any_at g (λ j. at (suc j)) l (λ j k. h (suc j) (omega arith)), e)

-- nothing stands behind the last
pub past : {A : Type 0} (l : List A) (j : ℕ) → length l ≤ j → get_elem? l j ≡ none
past [] j h = refl
past (a ∷ l) zero h = absurd (omega arith)
past (a ∷ l) (suc j) h = past l j (omega arith)

-- Least refusals.

pub some_any : (hit : ℕ → Bool) (k : ℕ) → some_of hit k ≡ any_of hit (below k)
unfolding some_of below any_of
some_any hit zero = refl
some_any hit (suc k) = rw (some_any hit k, any_below hit k)

-- the least of those that pass, where each is the first of three that applies
pub least_first : (hit A B C : ℕ → Bool) (r : ℕ → ℕ) (k : ℕ) → ((j : ℕ) → j < k → r j ≡ first_of (A j) (B j) (C j))
    → least_of hit r k
    ≡ first_of (any_of (λ j. and (hit j) (A j)) (below k)) (any_of (λ j. and (hit j) (B j)) (below k)) (any_of (λ j. and (hit j) (C j)) (below k))
unfolding least_of below any_of first_of
least_first hit A B C r zero h = refl
least_first hit A B C r (suc k) h =
    rw (
      any_below (λ j. and (hit j) (A j)) k,
      any_below (λ j. and (hit j) (B j)) k,
      any_below (λ j. and (hit j) (C j)) k,
      least_first hit A B C r k (λ j l. h j (omega arith)),
      h k (omega arith),
    )
    (go (hit k) (any_of (λ j. and (hit j) (A j)) (below k)) (any_of (λ j. and (hit j) (B j)) (below k)) (any_of (λ j. and (hit j) (C j)) (below k)))
  where
    go : (t a b c : Bool) → pick t (lesser (first_of a b c) (first_of (A k) (B k) (C k))) (first_of a b c)
        ≡ first_of (or a (and t (A k))) (or b (and t (B k))) (or c (and t (C k)))
    go true a b c = lesser-first a b c (A k) (B k) (C k)
    go false a b c = rw (or-none a, or-none b, or-none c)

-- with none at all it is 14
pub first-none : (a b c : Bool) → pick a (first_of false b c) 14 ≡ first_of (not a) b c
unfolding first_of
first-none true b c = refl
first-none false b c = refl

-- no refusal is the lesser of none
pub lesser-none : (a b : ℕ) → lesser a b ≡ 0 → (a ≡ 0) × (b ≡ 0)
unfolding lesser
lesser-none a b = by (eqb a 0) refl (eqb b 0) refl (leb a b)
  where
    by : (x : Bool) → eqb a 0 ≡ x → (y : Bool) → eqb b 0 ≡ y → (z : Bool) → pick x b (pick y a (pick z a b)) ≡ 0 → (a ≡ 0) × (b ≡ 0)
    by true p y q z e = (eqb-true a 0 p, e)
    by false p true q z e = (e, eqb-true b 0 q)
    by false p false q true e = absurd (eqb-false a 0 p e)
    by false p false q false e = absurd (eqb-false b 0 q e)
