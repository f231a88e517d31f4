-- What a name is: its canonical form, a full name, the one equality of names, the last component; and where a name's bytes stand.
-- Assumes nothing.
use Rattle.std.specs.Prelude.{ℕ, suc, ◌+◌, ◌-◌, ◌≤◌, ◌<◌, ◌≡◌, refl, Bool, true, false, not, List, [], ◌∷◌, ◌++◌, ltb, leb, eqb, length, get_or, take, drop}
use Rattle.std.specs.Prelude.{Option, Some, None}
use Rattle.std.proofs.Common.{sym, ap, add-one, arith, eqb-true, drop_of_length-le, drop-cons}
use Rattle.classes.specs.Choice.{pick, and}
use Rattle.nameshape.specs.Shape.{divider, escapes}
use Rattle.names.specs.Order.{cmp, same_text, front, and_then, front-nil, front-cons, cmp-front}

-- 'the divider is turned into `.`'; an escaped byte is no divider
unfoldable pub turned : Bool → Bool → ℕ → ℕ
turned slash escaped c = pick (and (not escaped) (eqb c (divider slash))) 46 c

unfoldable pub canon_from : Bool → Bool → List ℕ → List ℕ
canon_from slash escaped [] = []
canon_from slash escaped (c ∷ r) = turned slash escaped c ∷ canon_from slash (escapes escaped c) r

-- the canonical form of a written name
unfoldable pub canon : Bool → List ℕ → List ℕ
canon slash x = canon_from slash false x

-- 'An end's full name is the instance path, `.` and the written name; at the top level the written name alone.' (canonical forms)
unfoldable pub full : List ℕ → List ℕ → List ℕ
full [] name = name
full (c ∷ r) name = (c ∷ r) ++ 46 ∷ name

-- where a text goes on behind a path and its `.`; behind the empty path at once, and nowhere if it does not begin so
unfoldable pub behind : List ℕ → List ℕ → Option ℕ
behind x [] = Some 0
behind x (c ∷ r) = pick (eqb (front x ((c ∷ r) ++ 46 ∷ [])) 1) (Some (length (c ∷ r) + 1)) None

-- 'Names are compared as written, after the divider is turned into `.`': THE equality of names, on canonical forms
unfoldable pub same_name : List ℕ → List ℕ → Bool
same_name x y = same_text x y

-- where a component starts: behind this byte if it is a `.` that is not escaped, else where it started before
unfoldable pub start_behind : Bool → ℕ → ℕ → ℕ → ℕ
start_behind escaped start next c = pick (and (not escaped) (eqb c 46)) next start

-- where the last component starts: behind the last `.` that is not escaped (i is the place of the next byte)
unfoldable pub start_from : Bool → ℕ → ℕ → List ℕ → ℕ
start_from escaped start i [] = start
start_from escaped start i (c ∷ r) = start_from (escapes escaped c) (start_behind escaped start (i + 1) c) (i + 1) r

unfoldable pub last_start : List ℕ → ℕ
last_start x = start_from false 0 0 x

-- the last component of a name
abbrev pub last_of : List ℕ → List ℕ
last_of x = drop (last_start x) x

-- 'whose second end is the instance path plus one component'
unfoldable pub one_below : List ℕ → List ℕ → Bool
one_below path name = same_name name (full path (last_of name))

-- the part of a text from start up to end; the empty part where they do not lie in it
unfoldable pub part_of : List ℕ → ℕ → ℕ → List ℕ
part_of text start end = pick (leb start end) (pick (leb end (length text)) (take (end - start) (drop start text)) []) []

-- 'a name's bytes stand in the old file or in the incoming cell'
unfoldable pub name_of_it : List ℕ → List ℕ → Bool → ℕ → ℕ → List ℕ
name_of_it old incoming fromIncoming start end = part_of (pick fromIncoming incoming old) start end

-- what a conjunction says
pub both : (t u : Bool) → and t u ≡ true → (t ≡ true) × (u ≡ true)
both true u e = (refl, e)
both false u e = let z : ◌≡◌ {A = ℕ} 0 1 = cc in absurd (omega arith)

-- A turn of the loops.

pub canon-cons : (slash escaped : Bool) (c : ℕ) (r : List ℕ)
    → canon_from slash escaped (c ∷ r) ≡ turned slash escaped c ∷ canon_from slash (escapes escaped c) r
unfolding canon_from
canon-cons slash escaped c r = refl

pub written_turn : (x y : List ℕ) (slash escaped : Bool) (i : ℕ) → i < length x → i < length y
    → front (drop i x) (canon_from slash escaped (drop i y))
    ≡ pick (ltb (get_or x i 0) (turned slash escaped (get_or y i 0))) 0 (pick (ltb (turned slash escaped (get_or y i 0)) (get_or x i 0)) 2
    (front (drop (i + 1) x) (canon_from slash (escapes escaped (get_or y i 0)) (drop (i + 1) y))))
written_turn x y slash escaped i h g = rw (drop-cons x i 0 h, drop-cons y i 0 g, canon-cons, front-cons, add-one)

pub written_short : (x y : List ℕ) (slash escaped : Bool) (i : ℕ) → length x ≤ i → i < length y
    → front (drop i x) (canon_from slash escaped (drop i y)) ≡ 0
unfolding front canon_from
written_short x y slash escaped i h g = rw (drop_of_length-le x h, drop-cons y i 0 g)

pub written_end : (x y : List ℕ) (slash escaped : Bool) (i : ℕ) → length y ≤ i → front (drop i x) (canon_from slash escaped (drop i y)) ≡ 1
unfolding canon_from
written_end x y slash escaped i h = rw (drop_of_length-le y h) (front-nil (drop i x))

pub start-cons : (escaped : Bool) (start i c : ℕ) (r : List ℕ)
    → start_from escaped start i (c ∷ r) ≡ start_from (escapes escaped c) (start_behind escaped start (i + 1) c) (i + 1) r
unfolding start_from
start-cons escaped start i c r = refl

pub start_turn : (x : List ℕ) (escaped : Bool) (start i : ℕ) → i < length x
    → start_from escaped start i (drop i x)
    ≡ start_from (escapes escaped (get_or x i 0)) (start_behind escaped start (i + 1) (get_or x i 0)) (i + 1) (drop (i + 1) x)
start_turn x escaped start i h = rw (drop-cons x i 0 h, start-cons, add-one)

pub start_end : (x : List ℕ) (escaped : Bool) (start i : ℕ) → length x ≤ i → start_from escaped start i (drop i x) ≡ start
unfolding start_from
start_end x escaped start i h = rw (drop_of_length-le x h)

pub start_le : (escaped : Bool) (start i c s : ℕ) → s ≡ start_behind escaped start (i + 1) c → start ≤ i → s ≤ i + 1
unfolding start_behind
start_le escaped start i c s e h = rw e (by (and (not escaped) (eqb c 46)))
  where
    by : (t : Bool) → pick t (i + 1) start ≤ i + 1
    by true = omega arith
    by false = omega arith

pub full-top : (path name : List ℕ) → length path ≡ 0 → full path name ≡ name
unfolding full
full-top [] name e = refl
full-top (c ∷ r) name e = absurd (omega arith)

-- a full name against x, part by part
pub full_turn : (x path name : List ℕ) → (length path ≡ 0 → ⊥)
    → cmp x (full path name) ≡ and_then (front x path) (cmp (drop (length path) x) (46 ∷ name))
unfolding full
full_turn x [] name e = absurd (e refl)
full_turn x (c ∷ r) name e = cmp-front x (c ∷ r) (46 ∷ name)

-- a name whose divider is `.` is its own canonical form
canon_dot : (escaped : Bool) (x : List ℕ) → canon_from false escaped x ≡ x
unfolding canon_from turned divider
canon_dot escaped [] = refl
canon_dot escaped (c ∷ r) = rw (canon_dot (escapes escaped c) r, still (and (not escaped) (eqb c 46)) refl) refl
  where
    still : (t : Bool) → and (not escaped) (eqb c 46) ≡ t → pick t 46 c ≡ c
    still true e = sym (eqb-true c 46 (both (not escaped) (eqb c 46) e).1)
    still false e = refl

pub dotted : (x : List ℕ) → canon false x ≡ x
unfolding canon
dotted x = canon_dot false x

-- canonical form keeps the length
canon-length : (slash escaped : Bool) (x : List ℕ) → length (canon_from slash escaped x) ≡ length x
unfolding canon_from
canon-length slash escaped [] = refl
canon-length slash escaped (c ∷ r) = ap suc (canon-length slash (escapes escaped c) r)

pub length-canon : (slash : Bool) (x : List ℕ) → length (canon slash x) ≡ length x
unfolding canon
length-canon slash x = canon-length slash false x
