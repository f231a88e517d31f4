-- Searching records whose keys rise, one after the other: why a search may stop at a greater key and start at a remembered place. Said once
-- for instances and arcs: `key` is what stands at a place, `next` the place behind it, `c` the order of keys.
-- Assumes nothing.
use Prim.Native.Nat.{ℕ, zero, suc, ◌+◌, ◌-◌, ◌*◌, ◌/◌, ◌≤◌, ◌<◌}
use Rattle.std.proofs.Math.Path.{◌≡◌, refl}
use Rattle.std.proofs.Common.{ap, ◌∙◌, add-one, zero-mul, mul-div_cancel, div-lt_iff_lt-mul, mul-le-mul, get_or-set_same, get_or-set_other, length-set}
use Rattle.std.specs.Prelude.{Bool, List, ltb, length, get_or, set, Option, Some, None}
use Rattle.std.proofs.Math.Bool.{true, false}
use native.Mathlib.Omega.{arith}
use Rattle.std.proofs.Math.Dec.{eqb}
use borrow.Author.Tests.{ltb-true, eqb-true, eqb-false, eq-eqb, ne_eqb}
use Rattle.classes.specs.Choice.{pick}
use Rattle.names.specs.Orders.{Order}
use Rattle.sheetlaws.specs.Sheet.{nth}

-- the first of n records from p on that has this key
unfoldable pub search : {A : Type 0} → (ℕ → A) → (ℕ → ℕ) → (A → A → ℕ) → A → ℕ → ℕ → Option ℕ
search key next c k zero p = None
search key next c k (suc n) p = pick (eqb (c (key p) k) 1) (Some p) (search key next c k n (next p))

-- records that rise: what is good of n + 1 records is good of the n behind the first, and the next key is above this one
pub record Rises {A : Type 0} (key : ℕ → A) (next : ℕ → ℕ) (c : A → A → ℕ) (Good : ℕ → ℕ → Type 0) : Type 0 where
  pub order : Order c
  pub tail : (n p : ℕ) → Good (suc n) p → Good n (next p)
  pub rise : (n p : ℕ) → Good (suc (suc n)) p → c (key p) (key (next p)) ≡ 0

-- landmarks: t holds the place of every k-th of n records from p on
pub record Marks (next : ℕ → ℕ) (n p k : ℕ) (t : List ℕ) : Type 0 where
  pub apart : 0 < k
  pub holds : (j : ℕ) → j * k < n → get_or t j 0 ≡ nth next (j * k) p

-- records that stand in b: the first of them is there whole
abbrev pub Whole : List ℕ → (ℕ → ℕ) → (ℕ → ℕ → Type 0) → Type 0
Whole b next Good = (n p : ℕ) → Good (suc n) p → (p ≤ length b) × (next p ≤ length b)

module _ {A : Type 0} (key : ℕ → A) (next : ℕ → ℕ) (c : A → A → ℕ) (k : A) where
  abbrev find : ℕ → ℕ → Option ℕ
  find n p = search key next c k n p

  -- one more record
  pub search-more : (n i p : ℕ) → i < n → find (n - i) p ≡ pick (eqb (c (key p) k) 1) (Some p) (find (n - (i + 1)) (next p))
  unfolding search
  search-more n i p h = let e : n - i ≡ suc (n - (i + 1)) = omega arith in rw e

  pub search_end : (n i p : ℕ) → n ≤ i → find (n - i) p ≡ None
  unfolding search
  search_end n i p h = let e : n - i ≡ zero = omega arith in rw e

  -- Some q: q is the place of a record whose key compares as the same
  pub found : (n p q : ℕ) → find n p ≡ Some q → (j : ℕ) × (j < n) × (q ≡ nth next j p) × (c (key q) k ≡ 1)
  unfolding search nth
  found zero p q e = let z : ◌≡◌ {A = ℕ} 0 1 = cc in absurd (omega arith)
  found (suc n) p q e = by (eqb (c (key p) k) 1) refl e (found n (next p) q)
    where
      by : (t : Bool) → eqb (c (key p) k) 1 ≡ t → pick t (Some p) (find n (next p)) ≡ Some q
          → (find n (next p) ≡ Some q → (j : ℕ) × (j < n) × (q ≡ nth next j (next p)) × (c (key q) k ≡ 1))
          → (j : ℕ) × (j < suc n) × (q ≡ nth next j p) × (c (key q) k ≡ 1)
      by true t e ih = let z : q ≡ p = cc in (0, omega arith, z, rw z (eqb-true _ _ t))
      by false t e ih = let r = ih e in (suc r.0, omega (arith, r.1), r.2, r.3)

  -- None: no record has this key
  pub absent : (n p j : ℕ) → find n p ≡ None → j < n → c (key (nth next j p)) k ≡ 1 → ⊥
  unfolding search nth
  absent zero p j e h = absurd (omega arith)
  absent (suc n) p zero e h = by (eqb (c (key p) k) 1) refl e
    where
      by : (t : Bool) → eqb (c (key p) k) 1 ≡ t → pick t (Some p) (find n (next p)) ≡ None → c (key p) k ≡ 1 → ⊥
      by true t e g = let z : ◌≡◌ {A = ℕ} 0 1 = cc in omega arith
      by false t e g = eqb-false _ _ t g
  absent (suc n) p (suc j) e h = by (eqb (c (key p) k) 1) e (λ g. absent n (next p) j g (omega arith))
    where
      by : (t : Bool) → pick t (Some p) (find n (next p)) ≡ None
          → (find n (next p) ≡ None → c (key (nth next j (next p))) k ≡ 1 → ⊥) → c (key (nth next j (next p))) k ≡ 1 → ⊥
      by true e ih = let z : ◌≡◌ {A = ℕ} 0 1 = cc in absurd (omega arith)
      by false e ih = ih e

  module _ (Good : ℕ → ℕ → Type 0) (r : Rises key next c Good) where
    -- where the key at p is greater than k, none of the records from p on has it
    pub beyond : (n p : ℕ) → Good n p → c (key p) k ≡ 2 → find n p ≡ None
    unfolding search
    beyond zero p g e = refl
    beyond (suc zero) p g e = rw (ne_eqb (c (key p) k) 1 (λ z. omega arith))
    beyond (suc (suc n)) p g e =
        rw (ne_eqb (c (key p) k) 1 (λ z. omega arith))
        (beyond (suc n) (next p) (r.tail (suc n) p g) (r.order.above (key p) (key (next p)) k (r.rise n p g) (λ z. omega arith)))

    -- where the next key is not greater than k, this one is smaller
    below : (n p : ℕ) → Good (suc (suc n)) p → (c (key (next p)) k ≡ 2 → ⊥) → c (key p) k ≡ 0
    below n p g e = by (eqb (c (key p) k) 0) refl
      where
        by : (t : Bool) → eqb (c (key p) k) 0 ≡ t → c (key p) k ≡ 0
        by true t = eqb-true _ _ t
        by false t = absurd (e (r.order.above (key p) (key (next p)) k (r.rise n p g) (eqb-false _ _ t)))

    -- so a search may start at the j-th record, if its key is not greater than k
    pub finger : (j n p : ℕ) → j < n → Good n p → (c (key (nth next j p)) k ≡ 2 → ⊥)
        → (find n p ≡ find (n - j) (nth next j p)) × (c (key p) k ≡ 2 → ⊥)
    unfolding nth search
    finger zero n p h g e = let z : n - 0 ≡ n = omega arith in (rw z, e)
    finger (suc j) zero p h g e = absurd (omega arith)
    finger (suc j) (suc zero) p h g e = absurd (omega arith)
    finger (suc j) (suc (suc n)) p h g e =
        let w = finger j (suc n) (next p) (omega arith) (r.tail (suc n) p g) e in
        let b = below n p g w.1 in
        let z : suc (suc n) - suc j ≡ suc n - j = omega arith in
        (rw (ne_eqb (c (key p) k) 1 (λ q. omega arith)) (w.0 ∙ rw z refl), (λ q. omega arith))

-- from the j-th record on the records are good
pub good-at : (next : ℕ → ℕ) (Good : ℕ → ℕ → Type 0) → ((n p : ℕ) → Good (suc n) p → Good n (next p)) → (j n p : ℕ) → j ≤ n → Good n p
    → Good (n - j) (nth next j p)
unfolding nth
good-at next Good tail zero n p h g = let z : n - 0 ≡ n = omega arith in rw z g
good-at next Good tail (suc j) zero p h g = absurd (omega arith)
good-at next Good tail (suc j) (suc n) p h g =
    let z : suc n - suc j ≡ n - j = omega arith in
    rw z (good-at next Good tail j n (next p) (omega arith) (tail n p g))

-- Where i of n records are behind, the next one is there whole, and the ones behind it are good.
module _ (next : ℕ → ℕ) (Good : ℕ → ℕ → Type 0) where
  pub whole-next : (b : List ℕ) → Whole b next Good → (n i p : ℕ) → i < n → Good (n - i) p → (p ≤ length b) × (next p ≤ length b)
  whole-next b whole n i p h g = let e : n - i ≡ suc (n - (i + 1)) = omega arith in whole (n - (i + 1)) p (rw e at g)

  pub good-next : ((n p : ℕ) → Good (suc n) p → Good n (next p)) → (n i p : ℕ) → i < n → Good (n - i) p → Good (n - (i + 1)) (next p)
  good-next tail n i p h g = let e : n - i ≡ suc (n - (i + 1)) = omega arith in tail (n - (i + 1)) p (rw e at g)

  -- so each of them is there
  pub whole_at : (b : List ℕ) → Whole b next Good → ((n p : ℕ) → Good (suc n) p → Good n (next p)) → (j n p : ℕ) → j < n → Good n p
      → (nth next j p ≤ length b) × (next (nth next j p) ≤ length b)
  whole_at b whole tail j n p h g = whole-next b whole n j (nth next j p) h (good-at next Good tail j n p (omega arith) g)

-- one record further
nth-suc : (next : ℕ → ℕ) (j p : ℕ) → nth next (suc j) p ≡ next (nth next j p)
unfolding nth
nth-suc next zero p = refl
nth-suc next (suc j) p = nth-suc next j (next p)

pub nth-next : (next : ℕ → ℕ) (j p : ℕ) → nth next (j + 1) p ≡ next (nth next j p)
nth-next next j p = rw add-one (nth-suc next j p)

-- Making landmarks.

-- how far apart they stand, so that 4,096 will do
unfoldable pub stride_of : ℕ → ℕ
stride_of n = n / 4096 + 1

-- the place q of record i is noted, if it is one of every s
unfoldable pub put_mark : List ℕ → ℕ → ℕ → ℕ → List ℕ
put_mark t s i q = pick (eqb (i / s * s) i) (set t (i / s) q) t

-- the table behind n records from p on
unfoldable pub marked : (ℕ → ℕ) → ℕ → ℕ → List ℕ → ℕ → List ℕ
marked next p s t zero = t
marked next p s t (suc n) = put_mark (marked next p s t n) s n (nth next n p)

pub marked_more : (next : ℕ → ℕ) (p s : ℕ) (t : List ℕ) (n : ℕ) → marked next p s t (n + 1) ≡ put_mark (marked next p s t n) s n (nth next n p)
unfolding marked
marked_more next p s t n = rw add-one

pub stride_pos : (n : ℕ) → 0 < stride_of n
unfolding stride_of
stride_pos n = omega arith

-- there is room for every landmark
stride_long : (n k : ℕ) → k < n → k < 4096 * stride_of n
unfolding stride_of
stride_long n k h = omega arith

pub mark-room : (n k : ℕ) → k < n → k / stride_of n < 4096
mark-room n k h = (div-lt_iff_lt-mul (stride_pos n)).1 (stride_long n k h)

-- and its number times the stride is small
pub mark-fits : (n j : ℕ) → j < 4096 → n < 4294967296 → j * stride_of n < 4294971392
unfolding stride_of
mark-fits n j h g =
    let s : n / 4096 + 1 ≤ 1048576 = omega arith in
    let g : j ≤ 4095 = omega arith in
    let m : j * (n / 4096 + 1) ≤ 4095 * 1048576 = mul-le-mul g s in
    omega arith

length-mark : (t : List ℕ) (s i q : ℕ) → length (put_mark t s i q) ≡ length t
unfolding put_mark
length-mark t s i q = by (eqb (i / s * s) i)
  where
    by : (x : Bool) → length (pick x (set t (i / s) q) t) ≡ length t
    by true = length-set t (i / s) q
    by false = refl

pub length_marked : (next : ℕ → ℕ) (p s : ℕ) (t : List ℕ) (n : ℕ) → length (marked next p s t n) ≡ length t
unfolding marked
length_marked next p s t zero = refl
length_marked next p s t (suc n) = length-mark (marked next p s t n) s n (nth next n p) ∙ length_marked next p s t n

-- noting the place of record i leaves the landmarks before it
mark_keeps : (t : List ℕ) (s i q j : ℕ) → j * s < i → get_or (put_mark t s i q) j 0 ≡ get_or t j 0
unfolding put_mark
mark_keeps t s i q j h = by (eqb (i / s * s) i) refl
  where
    by : (x : Bool) → eqb (i / s * s) i ≡ x → get_or (pick x (set t (i / s) q) t) j 0 ≡ get_or t j 0
    by true e =
        let z = eqb-true (i / s * s) i e in
        get_or-set_other t (i / s) j q 0 (λ d. let m : j * s ≡ i / s * s = ap (λ x. x * s) d in omega arith)
    by false e = refl

-- and is the landmark itself, if it is one
mark-holds : (t : List ℕ) (s q j : ℕ) → 0 < s → j < length t → get_or (put_mark t s (j * s) q) j 0 ≡ q
unfolding put_mark
mark-holds t s q j h l =
    let d : j * s / s ≡ j = mul-div_cancel j h in
    rw (d, eq-eqb (j * s) (j * s) refl) (get_or-set_same t j q 0 l)

marks_hold : (next : ℕ → ℕ) (p s : ℕ) (t : List ℕ) (n : ℕ) → 0 < s → (j : ℕ) → j * s < n → j < length t
    → get_or (marked next p s t n) j 0 ≡ nth next (j * s) p
unfolding marked
marks_hold next p s t zero h j e l = absurd (omega arith)
marks_hold next p s t (suc n) h j e l = by (eqb (j * s) n) refl (λ g. marks_hold next p s t n h j g l)
  where
    by : (x : Bool) → eqb (j * s) n ≡ x → (j * s < n → get_or (marked next p s t n) j 0 ≡ nth next (j * s) p)
        → get_or (put_mark (marked next p s t n) s n (nth next n p)) j 0 ≡ nth next (j * s) p
    by true z ih =
        let q = eqb-true (j * s) n z in
        rw (← q) (mark-holds (marked next p s t (j * s)) s (nth next (j * s) p) j h (rw (length_marked next p s t (j * s)) l))
    by false z ih =
        let d = eqb-false (j * s) n z in
        let g : j * s < n = less (j * s) n e d in
        mark_keeps (marked next p s t n) s n (nth next n p) j g ∙ ih g
      where
        less : (a n : ℕ) → a < suc n → (a ≡ n → ⊥) → a < n
        less a n e d = omega arith

-- the number of a landmark is below 4,096
mark-number : (n j : ℕ) → j * stride_of n < n → j < 4096
mark-number n j h =
    let m = mark-room n (j * stride_of n) h in
    rw (mul-div_cancel j (stride_pos n)) at m

-- a table of 4,096 that was made so holds the landmarks
pub marked_marks : (next : ℕ → ℕ) (n p : ℕ) (t : List ℕ) → length t ≡ 4096 → Marks next n p (stride_of n) (marked next p (stride_of n) t n)
marked_marks next n p t l =
    record {
      apart = stride_pos n;
      holds = λ j h. marks_hold next p (stride_of n) t n (stride_pos n) j h (let m = mark-number n j h in omega arith);
    }

-- Searching from a landmark.

-- what a search asks for: good records, and a table with their landmarks
pub record Search (next : ℕ → ℕ) (Good : ℕ → ℕ → Type 0) (n p : ℕ) (t : List ℕ) : Type 0 where
  pub good : Good n p
  pub few : n < 4294967296
  pub marks : Marks next n p (stride_of n) t

-- the r-th landmark is the first one, or there is one and its key is not greater than k
abbrev pub NotBeyond : {A : Type 0} → (ℕ → A) → (ℕ → ℕ) → (A → A → ℕ) → A → ℕ → ℕ → ℕ → ℕ → Type 0
NotBeyond key next c k n p s r = (r ≡ 0 → ⊥) → (r * s < n) × (c (key (nth next (r * s) p)) k ≡ 2 → ⊥)

module _ {A : Type 0} (key : ℕ → A) (next : ℕ → ℕ) (c : A → A → ℕ) (k : A) (Good : ℕ → ℕ → Type 0) (r : Rises key next c Good) where
  start : (n p s : ℕ) → search key next c k n p ≡ search key next c k (n - 0 * s) (nth next (0 * s) p)
  unfolding nth
  start n p s = let z : n - 0 ≡ n = omega arith in rw (zero-mul s, z)

  none_left : (p : ℕ) → search key next c k 0 p ≡ None
  unfolding search
  none_left p = refl

  zero_of : (n m : ℕ) → n ≤ m → m ≡ 0 → n ≡ 0
  zero_of n m h e = omega arith

  -- so the search may start there
  pub from-mark : (n p s j : ℕ) → Good n p → NotBeyond key next c k n p s j → j * s < n
      → search key next c k n p ≡ search key next c k (n - j * s) (nth next (j * s) p)
  from-mark n p s j g b h = by (eqb j 0) refl
    where
      by : (t : Bool) → eqb j 0 ≡ t → search key next c k n p ≡ search key next c k (n - j * s) (nth next (j * s) p)
      by true t = rw (eqb-true j 0 t) (start n p s)
      by false t = (finger key next c k Good r (j * s) n p h g (b (eqb-false j 0 t)).1).0

  -- and where the j-th landmark is none, there are no records
  pub no_marks : (n p s j : ℕ) → NotBeyond key next c k n p s j → n ≤ j * s → search key next c k n p ≡ None
  no_marks n p s j b h = by (eqb j 0) refl
    where
      by : (t : Bool) → eqb j 0 ≡ t → search key next c k n p ≡ None
      by true t = rw (zero_of n (j * s) h (rw (eqb-true j 0 t) (zero-mul s))) (none_left p)
      by false t = let z = (b (eqb-false j 0 t)).0 in absurd (omega arith)

-- a landmark that is there and not greater
pub not_beyond : {A : Type 0} (key : ℕ → A) (next : ℕ → ℕ) (c : A → A → ℕ) (k : A) (n p s r : ℕ)
    → pick (ltb (r * s) n) (eqb (c (key (nth next (r * s) p)) k) 2) true ≡ false → NotBeyond key next c k n p s r
not_beyond key next c k n p s r e = by (ltb (r * s) n) refl e
  where
    by : (t : Bool) → ltb (r * s) n ≡ t → pick t (eqb (c (key (nth next (r * s) p)) k) 2) true ≡ false → NotBeyond key next c k n p s r
    by true t e z = (ltb-true _ _ t, eqb-false _ _ e)
    by false t e z = let y : ◌≡◌ {A = ℕ} 0 1 = cc in absurd (omega arith)
