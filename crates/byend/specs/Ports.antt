-- A DEVICE's port that is a plain word, in an instance whose path does not end in a backslash: the port's full name is the path plus one component.
-- Assumes nothing.
use Rattle.std.specs.Prelude.{ℕ, ◌+◌, ◌-◌, ◌≤◌, ◌<◌, ◌≡◌, refl, Bool, true, false, not, List, [], ◌∷◌, ◌++◌, eqb, length, get_or, drop}
use Rattle.std.proofs.Common.{◌∙◌, ap, add-one, arith, drop_of_length-le, drop-cons, eqb-true}
use Rattle.classes.specs.Choice.{pick}
use Rattle.nameshape.specs.Shape.{divider, escapes}
use Rattle.names.specs.Order.{same_text}
use Rattle.names.specs.Orders.{cmp_1}
use Rattle.names.specs.Name.{canon, canon_from, turned, full, same_name, start_behind, start_from, start-cons, last_start}
use Rattle.bytype.specs.ByType.{bucket_of}
use Rattle.byend.specs.Ends.{below_bucket, front-bucket}

-- no divider and no backslash: `.`, `/`, `\`
unfoldable pub is_plain : ℕ → Bool
is_plain c = pick (eqb c 46) false (pick (eqb c 47) false (not (eqb c 92)))

unfoldable pub plain_from : List ℕ → Bool
plain_from [] = true
plain_from (c ∷ r) = pick (is_plain c) (plain_from r) false

-- the last byte of a path is no backslash
unfoldable pub open_end : List ℕ → Bool
open_end [] = true
open_end (c ∷ r) = not (eqb (get_or (c ∷ r) (length r) 0) 92)

-- The code's way through them.

pub plain_turn : (x : List ℕ) (k : ℕ) → k < length x → plain_from (drop k x) ≡ pick (is_plain (get_or x k 0)) (plain_from (drop (k + 1) x)) false
unfolding plain_from
plain_turn x k h = rw (drop-cons x k 0 h, add-one)

pub plain_end : (x : List ℕ) (k : ℕ) → length x ≤ k → plain_from (drop k x) ≡ true
unfolding plain_from
plain_end x k h = rw (drop_of_length-le x h)

pub open_none : (x : List ℕ) → length x ≡ 0 → open_end x ≡ true
unfolding open_end
open_none [] e = refl
open_none (c ∷ r) e = absurd (omega arith)

pub open_last : (x : List ℕ) → (length x ≡ 0 → ⊥) → open_end x ≡ not (eqb (get_or x (length x - 1) 0) 92)
unfolding open_end
open_last [] e = absurd (e refl)
open_last (c ∷ r) e = let k : length (c ∷ r) - 1 ≡ length r = omega arith in rw k

pub no : (t : Bool) → not t ≡ true → t ≡ false
no false e = refl
no true e = absurd (let y : ◌≡◌ {A = ℕ} 0 1 = cc in omega arith)

pub yes : (t : Bool) → not t ≡ false → t ≡ true
yes true e = refl
yes false e = absurd (let y : ◌≡◌ {A = ℕ} 0 1 = cc in omega arith)

record Plain (c : ℕ) : Type 0 where
  dot : eqb c 46 ≡ false
  slash : eqb c 47 ≡ false
  backslash : eqb c 92 ≡ false

plain : (c : ℕ) → is_plain c ≡ true → Plain c
unfolding is_plain
plain c e = by (eqb c 46) refl (eqb c 47) refl (eqb c 92) refl e
  where
    by : (t : Bool) → eqb c 46 ≡ t → (u : Bool) → eqb c 47 ≡ u → (v : Bool) → eqb c 92 ≡ v → pick t false (pick u false (not v)) ≡ true → Plain c
    by false e1 false e2 false e3 e = record { dot = e1; slash = e2; backslash = e3 }
    by false e1 false e2 true e3 e = let z : ◌≡◌ {A = Bool} false true = e in absurd (let y : ◌≡◌ {A = ℕ} 0 1 = cc in omega arith)
    by false e1 true e2 v e3 e = absurd (let y : ◌≡◌ {A = ℕ} 0 1 = cc in omega arith)
    by true e1 u e2 v e3 e = absurd (let y : ◌≡◌ {A = ℕ} 0 1 = cc in omega arith)

first_plain : (t u : Bool) → pick t u false ≡ true → (t ≡ true) × (u ≡ true)
first_plain true u e = (refl, e)
first_plain false u e = absurd (let y : ◌≡◌ {A = ℕ} 0 1 = cc in omega arith)

-- a plain word is its own canonical form, and one component
turned_plain : (slash : Bool) (c : ℕ) → Plain c → turned slash false c ≡ c
unfolding turned divider
turned_plain true c p = rw p.slash
turned_plain false c p = rw p.dot

pub canon-plain : (slash : Bool) (x : List ℕ) → plain_from x ≡ true → canon_from slash false x ≡ x
unfolding canon_from plain_from escapes
canon-plain slash [] e = refl
canon-plain slash (c ∷ r) e =
    let w = first_plain (is_plain c) (plain_from r) e in
    let p = plain c w.0 in
    rw (turned_plain slash c p, p.backslash, canon-plain slash r w.1)

-- where a component starts that stands below a path
abbrev behind : List ℕ → ℕ
behind [] = 0
behind (c ∷ r) = 0 + length (c ∷ r) + 1

start_plain : (x : List ℕ) (s i : ℕ) → plain_from x ≡ true → start_from false s i x ≡ s
unfolding start_from plain_from escapes start_behind
start_plain [] s i e = refl
start_plain (c ∷ r) s i e =
    let w = first_plain (is_plain c) (plain_from r) e in
    let p = plain c w.0 in
    rw (p.dot, p.backslash) (start_plain r s (i + 1) w.1)

-- a byte that is no backslash escapes nothing
calm : (t : Bool) (c : ℕ) → eqb c 92 ≡ false → escapes t c ≡ false
unfolding escapes
calm true c e = refl
calm false c e = e

dot_behind : (y : List ℕ) (s i : ℕ) → start_from false s i (46 ∷ y) ≡ start_from false (i + 1) (i + 1) y
unfolding start_from start_behind escapes
dot_behind y s i = refl

one-behind : (c : ℕ) (y : List ℕ) (t : Bool) (s i : ℕ) → escapes t c ≡ false → start_from t s i (c ∷ 46 ∷ y) ≡ start_from false (i + 1 + 1) (i + 1 + 1) y
one-behind c y t s i e =
    start-cons t s i c (46 ∷ y) ∙ ap (λ (u : Bool). start_from u (start_behind t s (i + 1) c) (i + 1) (46 ∷ y)) e
    ∙ dot_behind y (start_behind t s (i + 1) c) (i + 1)

-- behind a path with an open end and `.` the next component starts
start-behind : (c : ℕ) (r y : List ℕ) (t : Bool) (s i : ℕ) → open_end (c ∷ r) ≡ true
    → start_from t s i ((c ∷ r) ++ 46 ∷ y) ≡ start_from false (i + length (c ∷ r) + 1) (i + length (c ∷ r) + 1) y
unfolding open_end
start-behind c [] y t s i e =
    let n : eqb c 92 ≡ false = no (eqb c 92) e in
    let k : i + length (c ∷ []) + 1 ≡ i + 1 + 1 = omega arith in
    rw k (one-behind c y t s i (calm t c n))
start-behind c (d ∷ r) y t s i e =
    let k : i + length (c ∷ d ∷ r) + 1 ≡ i + 1 + length (d ∷ r) + 1 = omega arith in
    start-cons t s i c ((d ∷ r) ++ 46 ∷ y) ∙ rw k (start-behind d r y (escapes t c) (start_behind t s (i + 1) c) (i + 1) e)

-- the bucket of a port's full name without the port is that of the path
pub port-bucket : (path port x : List ℕ) (slash : Bool) → open_end path ≡ true → plain_from port ≡ true
    → same_name x (full path (canon slash port)) ≡ true → below_bucket x ≡ bucket_of path
unfolding below_bucket same_name same_text canon last_start full
port-bucket path port x slash o p h =
    let e = cmp_1 x (full path (canon_from slash false port)) (eqb-true _ _ h) in
    let g : x ≡ full path port = e ∙ ap (full path) (canon-plain slash port p) in
    let l : last_start x - 1 ≡ length path = ap (λ n. n - 1) (ap last_start g ∙ last_start_lem path o) ∙ back path in
    rw l (front-bucket path port x g)
  where
    back : (path : List ℕ) → behind path - 1 ≡ length path
    back [] = refl
    back (c ∷ r) = omega arith

    last_start_lem : (path : List ℕ) → open_end path ≡ true → last_start (full path port) ≡ behind path
    last_start_lem [] o = start_plain port 0 0 p
    last_start_lem (c ∷ r) o = start-behind c r port false 0 0 o ∙ start_plain port _ _ p
