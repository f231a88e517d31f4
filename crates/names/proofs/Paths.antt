-- What stands behind a path and its `.`.
-- Assumes nothing.
use Rattle.std.specs.Prelude.{◌≡◌, refl, ℕ, ◌+◌, ◌-◌, ◌≤◌, ◌<◌, Bool, true, false, List, [], ◌∷◌, ◌++◌, ltb, eqb, length, get_or, take, drop, Option, Some, None}
use Rattle.std.proofs.Common.{arith, ap, sym, ◌∙◌, eqb-true, ne_eqb, drop-cons, drop_of_length-le, length-append, length-drop, append_assoc}
use Rattle.std.proofs.lemmas.Bool.{eqb-false}
use Rattle.std.proofs.lemmas.Bool.Decides.{nat_tests}
use Rattle.classes.specs.Choice.{pick, and}
use Rattle.std.specs.Cmp.Lexicographic.{pointwise}
use Rattle.names.specs.Order.{and_then, cmp, front, front-nil, front-cons, front-joined, cmp-front}
use Rattle.names.specs.Orders.{cmp_1, cmp_self, then_1}
use Rattle.names.specs.Name.{full, behind}
use Rattle.names.proofs.Compare.{begins_is}

-- the path and its `.`
abbrev with_dot : List ℕ → List ℕ
with_dot path = path ++ 46 ∷ []

-- the path decides, and then the byte behind it
dot_behind : (f d : ℕ) → eqb (and_then f (pick (ltb d 46) 0 (pick (ltb 46 d) 2 1))) 1 ≡ and (eqb d 46) (eqb f 1)
dot_behind f d = grind (arith, nat_tests)

-- a text begins with both where the path is in front of it and the `.` behind that
pub begins_dotted : (x path : List ℕ) → length path < length x
    → eqb (front x (with_dot path)) 1 ≡ and (eqb (get_or x (length path) 0) 46) (pointwise eqb (take (length path) x) path)
begins_dotted x path h =
    rw (begins_is, front-joined, drop-cons x (length path) 0 h, front-cons, front-nil) (dot_behind (front x path) (get_or x (length path) 0))

pub too_short : (x path : List ℕ) → length x ≤ length path → eqb (front x (with_dot path)) 1 ≡ false
unfolding front
too_short x path h =
    rw (front-joined, drop_of_length-le x h) (ne_eqb _ 1 (λ e. let z : ◌≡◌ {A = ℕ} 0 1 = (then_1 (front x path) 0 e).1 in omega arith))

-- a text that begins with y is as long as y
pub front_le : (x y : List ℕ) → front x y ≡ 1 → length y ≤ length x
unfolding front
front_le [] [] e = omega arith
front_le (x ∷ xs) [] e = omega arith
front_le [] (y ∷ ys) e = let z : ◌≡◌ {A = ℕ} 0 1 = e in absurd (omega arith)
front_le (x ∷ xs) (y ∷ ys) e = let h = front_le xs ys (by (ltb x y) (ltb y x) e) in omega arith
  where
    by : (t u : Bool) → pick t 0 (pick u 2 (front xs ys)) ≡ 1 → front xs ys ≡ 1
    by true u f = let z : ◌≡◌ {A = ℕ} 0 1 = f in absurd (omega arith)
    by false true f = let z : ◌≡◌ {A = ℕ} 2 1 = f in absurd (omega arith)
    by false false f = f

-- x against a full name: against the path and its `.`, and behind them against the name
by_path : (x path name : List ℕ) → cmp x (path ++ 46 ∷ name) ≡ and_then (front x (with_dot path)) (cmp (drop (length path + 1) x) name)
by_path x path name =
    let l : length (with_dot path) ≡ length path + 1 = length-append path (46 ∷ []) in
    ap (cmp x) (sym (append_assoc path (46 ∷ []) name)) ∙ rw l at (cmp-front x (with_dot path) name)

pub behind_top : (x path : List ℕ) → length path ≡ 0 → behind x path ≡ Some 0
unfolding behind
behind_top x [] e = refl
behind_top x (c ∷ r) e = absurd (omega arith)

pub behind_is : (x path : List ℕ) → (length path ≡ 0 → ⊥) → behind x path ≡ pick (eqb (front x (with_dot path)) 1) (Some (length path + 1)) None
unfolding behind
behind_is x [] e = absurd (e refl)
behind_is x (c ∷ r) e = refl

-- a full name is told by what is behind the path
pub behind_none : (x path name : List ℕ) → behind x path ≡ None → eqb (cmp x (full path name)) 1 ≡ false
unfolding behind full
behind_none x [] name e = let d : ◌≡◌ {A = Option ℕ} (Some 0) None = e in let z : ◌≡◌ {A = ℕ} 0 1 = cc in absurd (omega arith)
behind_none x (c ∷ r) name e = rw (by_path x (c ∷ r) name) (by (eqb (front x (with_dot (c ∷ r))) 1) refl e)
  where
    by : (t : Bool) → eqb (front x (with_dot (c ∷ r))) 1 ≡ t → pick t (Some (length (c ∷ r) + 1)) None ≡ None
        → eqb (pick t (cmp (drop (length (c ∷ r) + 1) x) name) (front x (with_dot (c ∷ r)))) 1 ≡ false
    by true f g = let z : ◌≡◌ {A = ℕ} 0 1 = cc in absurd (omega arith)
    by false f g = f

pub behind_some : (x path name : List ℕ) (n : ℕ) → behind x path ≡ Some n → cmp x (full path name) ≡ cmp (drop n x) name
unfolding behind full
behind_some x [] name n e = let z : ◌≡◌ {A = Option ℕ} (Some 0) (Some n) = e in let m : 0 ≡ n = cc in rw (sym m)
behind_some x (c ∷ r) name n e = by_path x (c ∷ r) name ∙ by (eqb (front x (with_dot (c ∷ r))) 1) e
  where
    by : (t : Bool) → pick t (Some (length (c ∷ r) + 1)) None ≡ Some n
        → pick t (cmp (drop (length (c ∷ r) + 1) x) name) (front x (with_dot (c ∷ r))) ≡ cmp (drop n x) name
    by true g = let m : length (c ∷ r) + 1 ≡ n = cc in rw m
    by false g = let z : ◌≡◌ {A = ℕ} 0 1 = cc in absurd (omega arith)

pub behind_le : (x path : List ℕ) (n : ℕ) → behind x path ≡ Some n → n ≤ length x
unfolding behind
behind_le x [] n e = let z : ◌≡◌ {A = Option ℕ} (Some 0) (Some n) = e in let m : 0 ≡ n = cc in omega arith
behind_le x (c ∷ r) n e = by (eqb (front x (with_dot (c ∷ r))) 1) refl e
  where
    by : (t : Bool) → eqb (front x (with_dot (c ∷ r))) 1 ≡ t → pick t (Some (length (c ∷ r) + 1)) None ≡ Some n → n ≤ length x
    by true f g =
        let m : length (c ∷ r) + 1 ≡ n = cc in
        let h = front_le x (with_dot (c ∷ r)) (eqb-true _ _ f) in
        let l = length-append (c ∷ r) (46 ∷ []) in omega arith
    by false f g = let z : ◌≡◌ {A = ℕ} 0 1 = cc in absurd (omega arith)

-- two ends of a text are the same exactly if they are as long
pub ends_same : (x : List ℕ) (n k : ℕ) → n ≤ length x → k ≤ length x → eqb (cmp (drop n x) (drop k x)) 1 ≡ eqb k n
ends_same x n k h g = by (eqb k n) refl
  where
    by : (t : Bool) → eqb k n ≡ t → eqb (cmp (drop n x) (drop k x)) 1 ≡ t
    by true e = rw (eqb-true k n e, cmp_self) refl
    by false e = ne_eqb _ 1 (λ f.
        let l = ap length (cmp_1 (drop n x) (drop k x) f) in
        let m : length x - n ≡ length x - k = rw (← length-drop, ← length-drop) l in
        eqb-false k n e (omega arith))
