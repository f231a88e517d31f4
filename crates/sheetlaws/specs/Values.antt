-- Setting one value is setting one slot of the sheet that the bytes spell.
-- Assumes nothing.
use Rattle.std.specs.Prelude.{ℕ, zero, suc, ◌+◌, ◌*◌, ◌/◌, ◌%◌, ◌≤◌, ◌<◌, ◌≡◌, refl, true, List, [], ◌∷◌, ◌++◌, ℤ, length, take, drop, set, Ok}
use Rattle.std.proofs.Common.{sym, ap, ◌∙◌, append_assoc, arith, add-zero, zero-add, length-drop, length-set, take-append-drop, length-take-le, drop_at, SFits, of_z}
use Rattle.std.proofs.Math.Seq.{paste, take-append-add, drop-append-add, drop-append_seam}
use Rattle.std.specs.Int.{w64}
use Rattle.wire.specs.Wire.{be_bytes}
use Rattle.sheetparts.specs.Form.{Key, first_len, second_len, values_at, key_at, arcs_step, value_ok}
use Rattle.sheetlaws.specs.Sheet.{nth, place, none, key, Arc, enc_values, enc_key, enc_arcs, values_ok, Fit, From, ArcsOk, ar_next, arcs_at}
use Rattle.sheetlaws.specs.Complete.{arcs_complete, split, un_arc}
use Rattle.sheetparts.specs.Passed.{ArGood}

-- what is pasted behind x
pub paste-behind : (x t s : List ℕ) (i n : ℕ) → paste (x ++ t) (length x + i) s n ≡ x ++ paste t i s n
paste-behind x t s i n =
    let e : length x + i + n ≡ length x + (i + n) = omega arith in
    ap (λ l. (l ++ take n s) ++ drop (length x + i + n) (x ++ t)) (take-append-add x t i)
    ∙ ap (λ l. l ++ drop (length x + i + n) (x ++ t)) (append_assoc x (take i t) (take n s))
    ∙ append_assoc x (take i t ++ take n s) (drop (length x + i + n) (x ++ t))
    ∙ ap (λ l. x ++ ((take i t ++ take n s) ++ l)) (ap (λ m. drop m (x ++ t)) e ∙ drop-append-add x t (i + n))

-- what is pasted over as many bytes
pub paste_over : (x t s : List ℕ) → length x ≡ length s → paste (x ++ t) 0 s (length s) ≡ s ++ t
paste_over x t s e =
    let z : 0 + length s ≡ length x = omega arith in
    rw z (ap (λ l. l ++ drop (length x) (x ++ t)) (all s) ∙ ap (λ l. s ++ l) (drop-append_seam x t))
  where
    all : (s : List ℕ) → take (length s) s ≡ s
    all [] = refl
    all (c ∷ r) = ap (λ l. c ∷ l) (all r)

-- a paste seen from p on
pub drop-paste-at : (b s : List ℕ) (p i n : ℕ) → p ≤ length b → drop p (paste b (p + i) s n) ≡ paste (drop p b) i s n
drop-paste-at b s p i n h =
    let l : length (take p b) ≡ p = length-take-le p b h in
    ap (drop p) (rw (take-append-drop p b, l) at (paste-behind (take p b) (drop p b) s i n)) ∙ drop_at (take p b) (paste (drop p b) i s n) p l

-- the values as a string of eights
values_paste : (zs : List ℤ) (t : List ℕ) (i : ℕ) (z : ℤ) → i < length zs
    → paste (enc_values zs t) (8 * i) (be_bytes (of_z w64 z)) 8 ≡ enc_values (set zs i z) t
unfolding enc_values
values_paste [] t i z h = absurd (omega arith)
values_paste (y ∷ zs) t zero z h = paste_over (be_bytes (of_z w64 y)) (enc_values zs t) (be_bytes (of_z w64 z)) refl
values_paste (y ∷ zs) t (suc i) z h =
    let e : 8 * suc i ≡ length (be_bytes (of_z w64 y)) + 8 * i = omega arith in
    rw e (paste-behind (be_bytes (of_z w64 y)) (enc_values zs t) (be_bytes (of_z w64 z)) (8 * i) 8
    ∙ ap (λ l. be_bytes (of_z w64 y) ++ l) (values_paste zs t i z (omega arith)))

values_behind : (zs : List ℤ) (t s : List ℕ) (i n : ℕ) → paste (enc_values zs t) (8 * length zs + i) s n ≡ enc_values zs (paste t i s n)
unfolding enc_values
values_behind [] t s i n = let e : 8 * 0 + i ≡ i = omega arith in rw e
values_behind (y ∷ zs) t s i n =
    let e : 8 * suc (length zs) + i ≡ length (be_bytes (of_z w64 y)) + (8 * length zs + i) = omega arith in
    rw e (paste-behind (be_bytes (of_z w64 y)) (enc_values zs t) s (8 * length zs + i) n
    ∙ ap (λ l. be_bytes (of_z w64 y) ++ l) (values_behind zs t s i n))

-- a key is followed by what follows
abbrev pub key_len : Key → ℕ
key_len k = 9 + length k.first + length k.second

key-paste : (k : Key) (t s : List ℕ) (i n : ℕ) → paste (enc_key k t) (key_len k + i) s n ≡ enc_key k (paste t i s n)
unfolding enc_key
key-paste k t s i n =
    let m1 = length k.first in
    let m2 = length k.second in
    let e : 9 + length k.first + length k.second + i ≡ 6 + (length k.first + (3 + (length k.second + i))) = omega arith in
    rw e
    (paste-behind (65 ∷ 82 ∷ k.kind ∷ k.edge ∷ m1 / 256 ∷ m1 % 256 ∷ []) _ s (m1 + (3 + (m2 + i))) n
    ∙ ap (λ l. 65 ∷ 82 ∷ k.kind ∷ k.edge ∷ m1 / 256 ∷ m1 % 256 ∷ l)
    (paste-behind k.first _ s (3 + (m2 + i)) n
    ∙ ap (λ l. k.first ++ l)
    (paste-behind (k.edge2 ∷ m2 / 256 ∷ m2 % 256 ∷ []) _ s (m2 + i) n
    ∙ ap (λ l. k.edge2 ∷ m2 / 256 ∷ m2 % 256 ∷ l) (paste-behind k.second t s i n))))

-- slot i of arc j
unfoldable pub set_slot : List Arc → ℕ → ℕ → ℤ → List Arc
set_slot [] j i z = []
set_slot (a ∷ xs) zero i z = record { key = a.key; values = set a.values i z } ∷ xs
set_slot (a ∷ xs) (suc j) i z = a ∷ set_slot xs j i z

-- where the values of arc j stand, from the first arc's place on
unfoldable pub off : List Arc → ℕ → ℕ
off [] j = 0
off (a ∷ xs) zero = key_len a.key
off (a ∷ xs) (suc j) = key_len a.key + (8 * length a.values + off xs j)

abbrev pub All18 : List Arc → Type 0
All18 [] = Unit {0}
All18 (a ∷ xs) = (length a.values ≡ 18) × All18 xs

pub arcs_paste : (xs : List Arc) (t : List ℕ) (j i : ℕ) (z : ℤ) → j < length xs → All18 xs → i < 18
    → paste (enc_arcs xs t) (off xs j + 8 * i) (be_bytes (of_z w64 z)) 8 ≡ enc_arcs (set_slot xs j i z) t
unfolding enc_arcs off set_slot
arcs_paste [] t j i z h k g = absurd (omega arith)
arcs_paste (a ∷ xs) t zero i z h k g =
    key-paste a.key (enc_values a.values (enc_arcs xs t)) (be_bytes (of_z w64 z)) (8 * i) 8
    ∙ ap (enc_key a.key) (values_paste a.values (enc_arcs xs t) i z (omega (arith, k.0)))
arcs_paste (a ∷ xs) t (suc j) i z h k g =
    let e : key_len a.key + (8 * length a.values + off xs j) + 8 * i ≡ key_len a.key + (8 * length a.values +
    (off xs j + 8 * i)) = omega arith in
    rw e
    (key-paste a.key (enc_values a.values (enc_arcs xs t)) (be_bytes (of_z w64 z)) (8 * length a.values + (off xs j + 8 * i)) 8
    ∙ ap (enc_key a.key) (values_behind a.values (enc_arcs xs t) (be_bytes (of_z w64 z)) (off xs j + 8 * i) 8
    ∙ ap (enc_values a.values) (arcs_paste xs t j i z (omega arith) k.1 g)))

-- a value that may stand in a slot leaves the list well formed
values_set_ok : (k n : ℕ) (zs : List ℤ) (i : ℕ) (z : ℤ) → value_ok k (n + i) (of_z w64 z) ≡ true → SFits w64 z → values_ok k n zs ≡ true → Fit zs
    → (values_ok k n (set zs i z) ≡ true) × Fit (set zs i z)
unfolding values_ok
values_set_ok k n [] i z h f o g = (o, g)
values_set_ok k n (y ∷ zs) zero z h f o g =
    let q = split (value_ok k n (of_z w64 y)) (values_ok k (n + 1) zs) o in
    (rw (rw add-zero at h) q.1, (f, g.1))
values_set_ok k n (y ∷ zs) (suc i) z h f o g =
    let q = split (value_ok k n (of_z w64 y)) (values_ok k (n + 1) zs) o in
    let e : n + suc i ≡ n + 1 + i = omega arith in
    let w = values_set_ok k (n + 1) zs i z (rw e at h) f q.1 g.1 in
    (rw q.0 w.0, (g.0, w.1))

-- the kind of arc j
unfoldable pub kind_of : List Arc → ℕ → ℕ
kind_of [] j = 0
kind_of (a ∷ xs) zero = a.key.kind
kind_of (a ∷ xs) (suc j) = kind_of xs j

pub set_ok : (f : From) (xs : List Arc) (j i : ℕ) (z : ℤ) → value_ok (kind_of xs j) i (of_z w64 z) ≡ true → SFits w64 z → ArcsOk f xs
    → ArcsOk f (set_slot xs j i z)
unfolding set_slot kind_of
set_ok f [] j i z h g o = tt
set_ok f (a ∷ xs) zero i z h g o =
    let v = o.0.values in
    let w = values_set_ok a.key.kind 0 a.values i z (rw (zero-add i) h) g v.1 v.2 in (
      record {
        kind = o.0.kind;
        edge = o.0.edge;
        first = o.0.first;
        edge2 = o.0.edge2;
        second = o.0.second;
        values =
            (length-set a.values i z ∙ v.0, w.0, w.1);
      },
      o.1,
      o.2,
    )
set_ok f (a ∷ xs) (suc j) i z h g o = (o.0, o.1, set_ok (key a.key) xs j i z h g o.2)

pub all18 : (f : From) (xs : List Arc) → ArcsOk f xs → All18 xs
all18 f [] o = tt
all18 f (a ∷ xs) o = (o.0.values.0, all18 (key a.key) xs o.2)

pub length-set_slot : (xs : List Arc) (j i : ℕ) (z : ℤ) → length (set_slot xs j i z) ≡ length xs
unfolding set_slot
length-set_slot [] j i z = refl
length-set_slot (a ∷ xs) zero i z = refl
length-set_slot (a ∷ xs) (suc j) i z = ap suc (length-set_slot xs j i z)

-- the law: after the paste the same records are read, without a fault, with this one slot changed, and what follows stays
pub set_value : (b : List ℕ) (xs : List Arc) (t : List ℕ) (p j i : ℕ) (z : ℤ) → 0 < p → p ≤ length b → drop p b ≡ enc_arcs xs t → ArcsOk none xs
    → j < length xs → i < 18 → value_ok (kind_of xs j) i (of_z w64 z) ≡ true → SFits w64 z
    → (arcs_at (paste b (p + (off xs j + 8 * i)) (be_bytes (of_z w64 z)) 8) (length xs) p ≡ set_slot xs j i z)
    × ((r : ℕ) × (arcs_step (paste b (p + (off xs j + 8 * i)) (be_bytes (of_z w64 z)) 8) (length xs) 0 p ≡ Ok r)
    × (drop r (paste b (p + (off xs j + 8 * i)) (be_bytes (of_z w64 z)) 8) ≡ t))
set_value b xs t p j i z h l e o hj hi v f =
    let d : drop p (paste b (p + (off xs j + 8 * i)) (be_bytes (of_z w64 z)) 8) ≡ enc_arcs (set_slot xs j i z) t
    = drop-paste-at b (be_bytes (of_z w64 z)) p (off xs j + 8 * i) 8 l
    ∙ ap (λ y. paste y (off xs j + 8 * i) (be_bytes (of_z w64 z)) 8) e
    ∙ arcs_paste xs t j i z hj (all18 none xs o) hi in
    rw (length-set_slot xs j i z) at
    (arcs_complete (paste b (p + (off xs j + 8 * i)) (be_bytes (of_z w64 z)) 8) none (set_slot xs j i z) 0 p t h refl (set_ok none xs j i z v f o) d)

-- where that slot stands in the bytes: at the place that the code computes
lens : (b : List ℕ) (p : ℕ) (a : Arc) → ArGood b p (ar_next b p) → key_at b p ≡ a.key → values_at b p ≡ p + key_len a.key
unfolding key_at
lens b p a g k =
    let i = g.inside in
    let l1 : first_len b p ≡ length a.key.first
    = sym (length-take-le (first_len b p) (drop (p + 6) b) (rw length-drop (omega arith))) ∙ ap (λ (x : Key). length x.first) k in
    let l2 : second_len b p ≡ length a.key.second
    = sym (length-take-le (second_len b p) (drop (p + 9 + first_len b p) b) (rw length-drop (omega arith)))
    ∙ ap (λ (x : Key). length x.second) k in
    omega (arith, l1, l2)

pub off-place : (b : List ℕ) (f : From) (xs : List Arc) (t : List ℕ) (p j : ℕ) → ArcsOk f xs → drop p b ≡ enc_arcs xs t → j < length xs
    → values_at b (place b j p) ≡ p + off xs j
unfolding nth off enc_arcs
off-place b f [] t p j o e h = absurd (omega arith)
off-place b f (a ∷ xs) t p zero o e h =
    let u = un_arc b p a (enc_arcs xs t) o.0 e in
    lens b p a u.good u.key
off-place b f (a ∷ xs) t p (suc j) o e h =
    let u = un_arc b p a (enc_arcs xs t) o.0 e in
    let n = lens b p a u.good u.key in
    let w = off-place b (key a.key) xs t (ar_next b p) j o.2 u.rest (omega arith) in
    let v = o.0.values.0 in
    omega (arith, n, w, v)
