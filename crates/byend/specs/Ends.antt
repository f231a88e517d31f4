-- The index of a sheet's arcs by the bucket of their second end without its last component; and why DEVICE finds all its arcs in one bucket, that of
-- the instance's path.
-- Assumes nothing.
use Rattle.std.specs.Prelude.{ℕ, zero, suc, ◌+◌, ◌-◌, ◌≤◌, ◌<◌, ◌≡◌, refl, Bool, true, false, List, [], ◌∷◌, ◌++◌, length, get_or, set, take, drop}
use Rattle.std.proofs.Common.{◌∙◌, ap, arith, length-append, length-drop, length-take, get_or-take, get_or-set_same, eqb-true}
use Rattle.std.proofs.Math.ListN.{get_or-append}
use Rattle.nameshape.specs.Shape.{escapes}
use Rattle.names.specs.Order.{same_text}
use Rattle.names.specs.Orders.{cmp_1}
use Rattle.names.specs.Name.{full, same_name, start_behind, start_from, start_le, last_start, last_of, one_below}
use Rattle.sheetparts.specs.Form.{key_at}
use Rattle.sheetlaws.specs.Sheet.{place}
use Rattle.bytype.specs.ByType.{bucket_to, bucket_of}
use Rattle.bytype.specs.Chains.{Chained, chained_kept}

-- the bucket of a name without its last component and the `.` before it
unfoldable pub below_bucket : List ℕ → ℕ
below_bucket x = bucket_to x (last_start x - 1)

-- where the number of the next arc in the bucket stands
abbrev pub end_place : ℕ → ℕ
end_place i = 4096 + i

pub ends_far : (i : ℕ) → 4096 ≤ end_place i
ends_far i = omega arith

pub ends_apart : (i j : ℕ) → end_place i ≡ end_place j → i ≡ j
ends_apart i j e = omega arith

-- of the k-th arc from f on
abbrev pub end_bucket : List ℕ → ℕ → ℕ → ℕ
end_bucket b f k = below_bucket (key_at b (place b k f)).second

-- the table t is the index of the m arcs of the sheet b from f on; it is where its last word is 1
abbrev pub EndsIndexed : List ℕ → ℕ → ℕ → List ℕ → Type 0
EndsIndexed b m f t = Chained end_place (end_bucket b f) m 0 t

abbrev pub EndsReady : List ℕ → ℕ → ℕ → List ℕ → Type 0
EndsReady b m f t = get_or t 135167 0 ≡ 1 → (m ≤ 131071) × EndsIndexed b m f t

-- it is none where its last word is 0
pub not_ready : (b : List ℕ) (m f : ℕ) (t : List ℕ) → length t ≡ 135168 → EndsReady b m f (set t 135167 0)
not_ready b m f t l e = let z = get_or-set_same t 135167 0 0 (omega arith) in absurd (omega arith)

pub ready : (b : List ℕ) (m f : ℕ) (t : List ℕ) → m ≤ 131071 → EndsIndexed b m f t → EndsReady b m f (set t 135167 1)
ready b m f t h c e = (h, chained_kept end_place (end_bucket b f) m 0 135167 1 t (omega arith) (λ i g q. omega arith) c)

-- Buckets of parts.

bucket_cong : (x y : List ℕ) (k : ℕ) → ((i : ℕ) → i < k → get_or x i 0 ≡ get_or y i 0) → bucket_to x k ≡ bucket_to y k
unfolding bucket_to
bucket_cong x y zero e = refl
bucket_cong x y (suc k) e = rw (bucket_cong x y k (λ i h. e i (omega arith)), e k (omega arith))

pub bucket-take : (x : List ℕ) (k : ℕ) → k ≤ length x → bucket_of (take k x) ≡ bucket_to x k
unfolding bucket_of
bucket-take x k h =
    let l : length (take k x) ≡ k = simp length-take (omega arith) in
    rw l (bucket_cong (take k x) x k (λ i g. get_or-take k x i 0 g))

bucket-front : (x y : List ℕ) → bucket_to (x ++ y) (length x) ≡ bucket_of x
unfolding bucket_of
bucket-front x y = bucket_cong (x ++ y) x (length x) (λ i h. get_or-append x y 0 i h)

pub below_none : (x : List ℕ) → last_start x ≡ 0 → below_bucket x ≡ 0
unfolding below_bucket bucket_to
below_none x e = rw e

-- Where the last component starts.

start-within : (x : List ℕ) (t : Bool) (s i : ℕ) → s ≤ i → start_from t s i x ≤ i + length x
unfolding start_from
start-within [] t s i h = omega arith
start-within (c ∷ r) t s i h =
    let w = start-within r (escapes t c) (start_behind t s (i + 1) c) (i + 1) (start_le t s i c _ refl h) in
    omega arith

last_within : (x : List ℕ) → last_start x ≤ length x
unfolding last_start
last_within x = let w = start-within x false 0 0 (omega arith) in omega arith

-- a name that is a path plus what stands from its last component on: that starts right behind the path
below_length : (path x : List ℕ) → x ≡ full path (last_of x) → last_start x - 1 ≡ length path
unfolding full
below_length [] x e =
    let l : length x ≡ length x - last_start x = ap length e ∙ length-drop (last_start x) x in
    let w = last_within x in
    omega arith
below_length (c ∷ r) x e =
    let l : length x ≡ length (c ∷ r) + suc (length (drop (last_start x) x)) = ap length e ∙ length-append (c ∷ r) (46 ∷ drop (last_start x) x) in
    let d = length-drop (last_start x) x in
    let w = last_within x in
    omega arith

pub front-bucket : (path name x : List ℕ) → x ≡ full path name → bucket_to x (length path) ≡ bucket_of path
unfolding full bucket_of bucket_to
front-bucket [] name x e = refl
front-bucket (c ∷ r) name x e = ap (λ (y : List ℕ). bucket_to y (length (c ∷ r))) e ∙ bucket-front (c ∷ r) (46 ∷ name)

pub one-below-bucket : (path x : List ℕ) → one_below path x ≡ true → below_bucket x ≡ bucket_of path
unfolding below_bucket one_below same_name same_text
one-below-bucket path x h =
    let e = cmp_1 x (full path (last_of x)) (eqb-true _ _ h) in
    rw (below_length path x e) (front-bucket path (last_of x) x e)
