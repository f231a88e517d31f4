-- The arcs of a sheet with other values: their lengths, their places, and one slot of them set.
-- Assumes nothing.
use Rattle.std.specs.Prelude.{ℕ, zero, suc, ◌+◌, ◌≤◌, ◌<◌, ◌≡◌, refl, Bool, true, false, List, [], ◌∷◌, map, eqb, ℤ, length, get_or, set}
use Rattle.std.proofs.Common.{sym, ap, ◌∙◌, arith, add-zero, length-set, ext_get_or, get_or-set_same, get_or-set_other, SFits, eqb-true, eq-eqb, ne_eqb}
use Rattle.std.specs.Int.{w64}
use Rattle.std.proofs.lemmas.Bool.{eqb-false}
use Rattle.classes.specs.Choice.{pick}
use Rattle.sheetlaws.specs.Rule.{least}
use Rattle.sheetlaws.specs.Sheet.{Arc, enc_arcs, Fit, From, key, ArcsOk}
use Rattle.sheetlaws.specs.Values.{All18, set_slot, off}
use Rattle.sheetlaws.specs.Set.{values_length, key-length}
use Rattle.history.specs.Events.{Value}
use Rattle.history.specs.Sheet.{Slot, Values, arc_slots}
use Rattle.slots.specs.Slots.{meant, numeral, slot_number, slot_at, same_slot, put, arc_values, arcs_with}
use Rattle.slots.specs.Numbers.{slot_number_lem, slots_at, slots_length, numeral-meant}

-- the eighteen numbers of arc j
abbrev pub eighteen : ℕ → Values → List ℤ
eighteen j v = map (λ (t : Slot). numeral (v t)) (arc_slots j)

-- a list of eighteen is these, where it holds them
pub are_eighteen : (j : ℕ) (v : Values) (zs : List ℤ) → length zs ≡ 18 → ((i : ℕ) → i < 18 → numeral (v (slot_at j i)) ≡ get_or zs i least)
    → eighteen j v ≡ zs
are_eighteen j v zs l h =
    let n = slots_length (λ (t : Slot). numeral (v t)) j in
    ext_get_or least (eighteen j v) zs (n ∙ sym l)
    (λ i g. let k : i < 18 = omega arith in slots_at (λ (t : Slot). numeral (v t)) j i least k ∙ h i k)

-- the arc of a slot
pub arc_of_lem : (j i : ℕ) → (slot_at j i).arc ≡ j
unfolding slot_at
arc_of_lem j i = refl

-- values that are the same at one arc
pub eighteen-same : (j : ℕ) (v w : Values) → ((t : Slot) → t.arc ≡ j → v t ≡ w t) → eighteen j v ≡ eighteen j w
eighteen-same j v w h =
    are_eighteen j v (eighteen j w) (slots_length (λ (t : Slot). numeral (w t)) j)
    (λ i g. ap numeral (h (slot_at j i) (arc_of_lem j i)) ∙ sym (slots_at (λ (t : Slot). numeral (w t)) j i least g))

-- values that are the same at these arcs
pub arcs_same : (j : ℕ) (v w : Values) (xs : List Arc) → ((t : Slot) → j ≤ t.arc → t.arc < j + length xs → v t ≡ w t)
    → arcs_with j v xs ≡ arcs_with j w xs
unfolding arcs_with
arcs_same j v w [] h = refl
arcs_same j v w (a ∷ xs) h =
    rw (
      eighteen-same j v w (λ t e. h t (omega arith) (omega arith)),
      arcs_same (suc j) v w xs (λ t g k. h t (omega arith) (omega arith)),
    )

-- the numbers that stand on the sheet, each as what it means
pub fit_at : (zs : List ℤ) (i : ℕ) → Fit zs → i < length zs → SFits w64 (get_or zs i least)
fit_at [] i f h = absurd (omega arith)
fit_at (z ∷ zs) zero f h = f.0
fit_at (z ∷ zs) (suc i) f h = fit_at zs i f.1 (omega arith)

-- so the arcs are their own, with the values that stand there
pub arcs_start : (f : From) (j : ℕ) (v : Values) (xs : List Arc) → ArcsOk f xs
    → ((t : Slot) (k : ℕ) → t.arc ≡ j + k → v t ≡ meant (get_or (arc_values xs k) (slot_number t) least)) → arcs_with j v xs ≡ xs
unfolding arcs_with arc_values
arcs_start f j v [] o h = refl
arcs_start f j v (a ∷ xs) o h =
    let l = o.0.values.0 in
    let e : eighteen j v ≡ a.values = are_eighteen j v a.values l
    (λ i g. ap numeral (h (slot_at j i) 0 (arc_of_lem j i ∙ sym (add-zero j)) ∙ ap (λ n. meant (get_or a.values n least)) (slot_number_lem j i g))
    ∙ numeral-meant (get_or a.values i least) (fit_at a.values i o.0.values.2 (omega arith))) in
    rw (e, arcs_start (key a.key) (suc j) v xs o.2 (λ t k g. h t (suc k) (omega arith)))

-- Lengths and places.

-- as many arcs
pub length_with : (j : ℕ) (v : Values) (xs : List Arc) → length (arcs_with j v xs) ≡ length xs
unfolding arcs_with
length_with j v [] = refl
length_with j v (a ∷ xs) = ap suc (length_with (suc j) v xs)

-- of eighteen values each
pub all_with : (j : ℕ) (v : Values) (xs : List Arc) → All18 (arcs_with j v xs)
unfolding arcs_with
all_with j v [] = tt
all_with j v (a ∷ xs) = (slots_length (λ (t : Slot). numeral (v t)) j, all_with (suc j) v xs)

-- in as many bytes
pub bytes_with : (j : ℕ) (v : Values) (xs : List Arc) → All18 xs → length (enc_arcs (arcs_with j v xs) []) ≡ length (enc_arcs xs [])
unfolding arcs_with enc_arcs
bytes_with j v [] o = refl
bytes_with j v (a ∷ xs) o =
    let n = slots_length (λ (t : Slot). numeral (v t)) j in
    let l = values_length (eighteen j v) (enc_arcs (arcs_with (suc j) v xs) []) in
    let m = values_length a.values (enc_arcs xs []) in
    let w = bytes_with (suc j) v xs o.1 in
    key-length a.key _ _ (omega (arith, n, l, m, w, o.0))

-- at the same places
pub off_with : (k : ℕ) (v : Values) (xs : List Arc) (j : ℕ) → All18 xs → off (arcs_with k v xs) j ≡ off xs j
unfolding arcs_with off
off_with k v [] j o = refl
off_with k v (a ∷ xs) zero o = refl
off_with k v (a ∷ xs) (suc j) o =
    let n = slots_length (λ (t : Slot). numeral (v t)) k in
    let w = off_with (suc k) v xs j o.1 in
    omega (arith, n, w, o.0)

-- One slot set.

-- slots of one arc are the same by their numbers
same_at : (j i k : ℕ) → i < 18 → k < 18 → same_slot (slot_at j k) (slot_at j i) ≡ eqb k i
unfolding same_slot
same_at j i k h g = rw (slot_number_lem j k g, slot_number_lem j i h, arc_of_lem j k, arc_of_lem j i, eq-eqb j j refl)

-- other arcs keep their values
pub put_other : (v : Values) (u : Slot) (x : Value) (t : Slot) → (t.arc ≡ u.arc → ⊥) → put v u x t ≡ v t
unfolding put same_slot
put_other v u x t h = rw (ne_eqb t.arc u.arc h)

-- within the arc's own eighteen
set-eighteen : (j i : ℕ) (v : Values) (x : Value) → i < 18 → eighteen j (put v (slot_at j i) x) ≡ set (eighteen j v) i (numeral x)
unfolding put
set-eighteen j i v x h =
    let n = slots_length (λ (t : Slot). numeral (v t)) j in
    are_eighteen j (put v (slot_at j i) x) (set (eighteen j v) i (numeral x)) (length-set (eighteen j v) i (numeral x) ∙ n)
    (λ k g. rw (same_at j i k h g) (by k g (eqb k i) refl))
  where
    by : (k : ℕ) → k < 18 → (t : Bool) → eqb k i ≡ t
        → numeral (pick t x (v (slot_at j k))) ≡ get_or (set (eighteen j v) i (numeral x)) k least
    by k g true e =
        let n = slots_length (λ (t : Slot). numeral (v t)) j in
        rw (eqb-true k i e) (sym (get_or-set_same (eighteen j v) i (numeral x) least (omega arith)))
    by k g false e =
        sym (get_or-set_other (eighteen j v) i k (numeral x) least (eqb-false k i e) ∙ slots_at (λ (t : Slot). numeral (v t)) j k least g)

-- and within all arcs
pub set_with : (k j i : ℕ) (v : Values) (x : Value) (xs : List Arc) → j < length xs → i < 18
    → set_slot (arcs_with k v xs) j i (numeral x) ≡ arcs_with k (put v (slot_at (k + j) i) x) xs
unfolding arcs_with set_slot
set_with k j i v x [] h g = absurd (omega arith)
set_with k zero i v x (a ∷ xs) h g =
    let rest : arcs_with (suc k) (put v (slot_at k i) x) xs ≡ arcs_with (suc k) v xs = arcs_same (suc k) _ _ xs
    (λ t l m. put_other v (slot_at k i) x t (λ e. let q = arc_of_lem k i in omega arith)) in
    rw (add-zero, set-eighteen k i v x g, rest)
set_with k (suc j) i v x (a ∷ xs) h g =
    let s : k + suc j ≡ suc k + j = omega arith in
    let here : eighteen k v ≡ eighteen k (put v (slot_at (k + suc j) i) x) = eighteen-same k v _
    (λ t e. sym (put_other v (slot_at (k + suc j) i) x t (λ z. let q = arc_of_lem (k + suc j) i in omega arith))) in
    rw (here, s, set_with (suc k) j i v x xs (omega arith) g)
