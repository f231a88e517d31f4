-- The place of a seat among the others, and why an entry other than DEVICE means only the arc that a search finds.
-- Assumes nothing.
use Rattle.std.specs.Prelude.{ℕ, ◌<◌, ◌≤◌, ◌≡◌, refl, Bool, true, false, List, eqb, ltb, length, get_or, Option, Some, None, Result, Ok, Err, MatchResult, unwrap_or}
use Rattle.std.specs.Result.{result_ok}
use Rattle.std.specs.Ordering.{nat_cmp}
use Rattle.std.specs.List.Sorted.{IsBinarySearchResult}
use Rattle.std.proofs.lemmas.List.Sorted.{searched}
use Rattle.std.proofs.Common.{sym, ◌∙◌, arith, eqb-true, eq-eqb, ltb-true, ltb-false}
use Rattle.wire.specs.Wire.{Bytes}
use Rattle.sheetparts.specs.Form.{Key, key_at, cmp_key}
use Rattle.sheetlaws.specs.Sheet.{ar_next, place}
use Rattle.meant.specs.Search.{search-more, finger}
use Rattle.meant.specs.Find.{find_arc, ArcsGood, arcs_rise, arc_there}
use Rattle.grammar.specs.declared.Entry.{Entry}
use Rattle.meant.specs.Bytes.{arc_of}
use Rattle.meant.specs.Meant.{meant_in}
use Rattle.meant.specs.WhomType.TheVariants.{One}
use Rattle.meant.specs.Touch.{meant_for}
use Rattle.findseat.specs.Findseat.{Ascending, OnlyAt, InOrder, OnlySeat}

-- 1. The place of a seat

-- in a list that rises a number stands at most once
risen_once : (arcs : List ℕ) (place r : ℕ) → Ascending arcs (length arcs) → r < length arcs → get_or arcs r 0 ≡ place → OnlyAt arcs (length arcs) place r
risen_once arcs place r rise h e = (omega arith, λ g. e, λ i g d s. by i g d s (ltb i r) refl)
  where
    by : (i : ℕ) → i < length arcs → (i ≡ r → ⊥) → get_or arcs i 0 ≡ place → (t : Bool) → ltb i r ≡ t → ⊥
    by i g d s true t = let w = rise i r (ltb-true i r t) h in omega arith
    by i g d s false t =
        let w = ltb-false i r t in
        let y : r < i = omega arith in
        let z = rise r i y g in
        omega arith

-- so what a search answers of it is the only seat with the place, or the length where there is none
pub only_by : (arcs : List ℕ) (place : ℕ) → Ascending arcs (length arcs) → (r : Result ℕ ℕ) → IsBinarySearchResult (λ y. nat_cmp y place) arcs r
    → OnlyAt arcs (length arcs) place (unwrap_or (result_ok r) (length arcs))
only_by arcs place rise r e = by r (searched arcs place r e rising)
  where
    rising : (i j : ℕ) → i ≤ j → j < length arcs → get_or arcs i 0 ≤ get_or arcs j 0
    rising i j h g = rising_by i j h g (ltb i j) refl
      where
        rising_by : (i j : ℕ) → i ≤ j → j < length arcs → (t : Bool) → ltb i j ≡ t → get_or arcs i 0 ≤ get_or arcs j 0
        rising_by i j h g true t = let w = rise i j (ltb-true i j t) g in omega arith
        rising_by i j h g false t = let w = ltb-false i j t in let z : i ≡ j = omega arith in rw z (omega arith)

    by : (r : Result ℕ ℕ)
        → MatchResult r (λ i. (i < length arcs) × (get_or arcs i 0 ≡ place))
        (λ i. (i ≤ length arcs) × ((k : ℕ) → k < i → get_or arcs k 0 < place) × ((k : ℕ) → i ≤ k → k < length arcs → place < get_or arcs k 0))
        → OnlyAt arcs (length arcs) place (unwrap_or (result_ok r) (length arcs))
    by (Ok i) s = risen_once arcs place i rise s.0 s.1
    by (Err i) s = (omega arith, λ g. absurd (omega arith), λ k g d z. no k g z (ltb k i) refl)
      where
        no : (k : ℕ) → k < length arcs → get_or arcs k 0 ≡ place → (t : Bool) → ltb k i ≡ t → ⊥
        no k g z true t = let w = s.1 k (ltb-true k i t) in omega arith
        no k g z false t = let w = s.2 k (ltb-false k i t) g in omega arith

-- 2. The arc that an entry means

-- an arc of the sheet with this key is the one that is found
pub key-found : (b : List ℕ) (k : Key) (m f j : ℕ) → Bytes b → ArcsGood b m f → j < m → cmp_key (key_at b (place b j f)) k ≡ 1
    → find_arc b k m f ≡ Some (place b j f)
unfolding find_arc
key-found b k m f j bytes good h e =
    (finger (key_at b) (ar_next b) cmp_key k (ArcsGood b) (arcs_rise b bytes) j m f h good (λ z. omega arith)).0
    ∙ search-more (key_at b) (ar_next b) cmp_key k m j (place b j f) h
    ∙ rw (eq-eqb _ _ e)

-- two places that are found are one
at_once : (x : Option ℕ) (p q : ℕ) → x ≡ Some p → x ≡ Some q → p ≡ q
at_once x p q d e = let z : Some p ≡ Some q = sym d ∙ e in cc

at-nothing : (x : Option ℕ) (p : ℕ) → x ≡ Some p → x ≡ None → ⊥
at-nothing x p d e = let z : ◌≡◌ {A = ℕ} 0 1 = cc in omega arith

module _ (b text : List ℕ) (slash : Bool) (n m f : ℕ) (h : Entry) (p : ℕ) (bytes : Bytes b) (good : ArcsGood b m f) (other : eqb h.kind 4 ≡ false) where
  -- an arc of the sheet that it means is the one that is found
  pub meant-found : (type : List ℕ) (j : ℕ) → j < m → meant_for b text slash n h (One p) type (place b j f) ≡ true
      → arc_of b text slash m f h p ≡ Some (place b j f)
  unfolding meant_for meant_in arc_of
  meant-found type j l e = key-found b _ m f j bytes good l (eqb-true _ _ (rw other at e))

  module _ (arcs : List ℕ) (count : ℕ) (order : InOrder b m f arcs count) where
    meant-at : (type : List ℕ) (i : ℕ) → i < count → meant_for b text slash n h (One p) type (get_or arcs i 0) ≡ true
        → arc_of b text slash m f h p ≡ Some (get_or arcs i 0)
    meant-at type i l e =
        let a = order.0 i l in
        rw a.2 (meant-found type a.0 a.1 (rw a.2 at e))

    -- so only the seat with that arc is meant
    pub only-found : (q r : ℕ) → arc_of b text slash m f h p ≡ Some q → OnlyAt arcs count q r → (type : List ℕ) → OnlySeat b text slash n h p type arcs count r
    only-found q r e only type =
        (only.0, λ i l d. by i l d (meant_for b text slash n h (One p) type (get_or arcs i 0)) refl)
      where
        by : (i : ℕ) → i < count → (i ≡ r → ⊥) → (t : Bool) → meant_for b text slash n h (One p) type (get_or arcs i 0) ≡ t → t ≡ false
        by i l d true t = absurd (only.2 i l d (at_once _ _ _ (meant-at type i l t) e))
        by i l d false t = refl

    -- and none where none is found
    pub only_none : arc_of b text slash m f h p ≡ None → (type : List ℕ) → OnlySeat b text slash n h p type arcs count count
    only_none e type = (omega arith, λ i l d. by i l (meant_for b text slash n h (One p) type (get_or arcs i 0)) refl)
      where
        by : (i : ℕ) → i < count → (t : Bool) → meant_for b text slash n h (One p) type (get_or arcs i 0) ≡ t → t ≡ false
        by i l true t = absurd (at-nothing _ _ (meant-at type i l t) e)
        by i l false t = refl

-- 3. Seated arcs are there whole
pub order_there : (b : List ℕ) (m f : ℕ) (arcs : List ℕ) (count : ℕ) → ArcsGood b m f → InOrder b m f arcs count → (i : ℕ) → i < count
    → ar_next b (get_or arcs i 0) ≤ length b
order_there b m f arcs count good order i h = let a = order.0 i h in rw a.2 (arc_there b a.0 m f a.1 good).1
