-- One turn of each loop that marks arcs or seats them.
-- Assumes nothing.
use Rattle.std.specs.Prelude.{ℕ, zero, suc, ◌+◌, ◌*◌, ◌/◌, ◌%◌, ◌<◌, ◌≡◌, Bool, List, [], ◌∷◌, ◌++◌, length, get_or, set, Some, None}
use Rattle.std.proofs.Math.Path.{refl}
use Rattle.std.proofs.Common.{sym, ap, ◌∙◌, arith, length-set, length-append, eqb-true, ne_eqb}
use Rattle.std.proofs.Math.Bool.{true, false}
use Rattle.std.proofs.Math.Nat.{mod-lt}
use Rattle.std.proofs.Math.Dec.{eqb}
use Rattle.std.proofs.Math.Seq.{get_or-set_same, get_or-set_other, get_or-append_seam}
use Rattle.std.proofs.lemmas.Bool.{eqb-false}
use Rattle.wire.specs.Wire.{Bytes}
use Rattle.sheetlaws.specs.Sheet.{place}
use Rattle.meant.specs.Find.{ArcsGood}
use Rattle.grammar.specs.declared.Entry.{Entry}
use Rattle.views.specs.Views.{head_at}
use Rattle.history.proofs.EventLaws.{clash}
use Rattle.meant.specs.Bytes.{arc_of}
use Rattle.meant.specs.WhomType.{Whom}
use Rattle.meant.specs.WhomType.TheVariants.{One, Nobody}
use Rattle.meant.specs.Touch.{meant_for}
use Rattle.findseat.specs.Laws.{meant-found}
use Rattle.marking.specs.Chosen.{chosen, chosen_with, chosen_without, chosen_none, get_d_front}
use Rattle.marking.specs.Choosing.{marked, marked_at, Kept, EntryMarked, EntriesMarked, ChosenTo}

-- 1. Marks

-- the arc that is marked, and the others
module _ (bits : List ℕ) (q : ℕ) (bits' : List ℕ) (long : length bits ≡ 131072) (is : bits' ≡ set bits ((q / 128) % 131072) 1) where
  pub mark_own : marked bits' q ≡ true
  unfolding marked
  mark_own =
      let l : (q / 128) % 131072 < 131072 = mod-lt (q / 128) (omega arith) in
      rw (is, get_or-set_same bits ((q / 128) % 131072) 1 0 (omega arith))

  pub mark-long : length bits' ≡ 131072
  mark-long = ap length is ∙ length-set bits ((q / 128) % 131072) 1 ∙ long

  pub mark_keeps : Kept bits bits'
  unfolding marked
  mark_keeps p t = go (eqb ((p / 128) % 131072) ((q / 128) % 131072)) refl
    where
      go : (z : Bool) → eqb ((p / 128) % 131072) ((q / 128) % 131072) ≡ z → eqb (get_or bits' ((p / 128) % 131072) 0) 1 ≡ true
      go true e =
          let l : (q / 128) % 131072 < 131072 = mod-lt (q / 128) (omega arith) in
          rw (eqb-true ((p / 128) % 131072) ((q / 128) % 131072) e, is, get_or-set_same bits ((q / 128) % 131072) 1 0 (omega arith))
      go false e = rw (is, get_or-set_other bits ((q / 128) % 131072) ((p / 128) % 131072) 1 0 (eqb-false ((p / 128) % 131072) ((q / 128) % 131072) e)) t

-- a table with one number changed is as long
pub set_long : (old now : List ℕ) (i v : ℕ) → now ≡ set old i v → length now ≡ length old
set_long old now i v e = ap length e ∙ length-set old i v

-- a mark is a mark in what stands for the table
pub kept_same : (bits bits' : List ℕ) → bits' ≡ bits → Kept bits bits'
kept_same bits bits' e q t = rw e t

-- 2. The arc that is found is the only one with its key

module _ (b text : List ℕ) (slash : Bool) (n m f : ℕ) (h : Entry) (p : ℕ) (type : List ℕ) (bytes : Bytes b) (good : ArcsGood b m f)
    (named : h.kind ≡ 4 → ⊥) where
  -- an arc that the entry means is the one that a search finds
  only : (j : ℕ) → j < m → meant_for b text slash n h (One p) type (place b j f) ≡ true → arc_of b text slash m f h p ≡ Some (place b j f)
  only = meant-found b text slash n m f h p bytes good (ne_eqb _ _ named) type

  pub found-marked : (q : ℕ) (old now : List ℕ) → length old ≡ 131072 → arc_of b text slash m f h p ≡ Some q → now ≡ set old ((q / 128) % 131072) 1
      → EntryMarked b text slash n m f h (One p) type now
  found-marked q old now long e is j l t =
      let d = only j l t in
      let z : place b j f ≡ q = cc in
      rw z (mark_own old q now long is)

  pub absent_marked : (bits : List ℕ) → arc_of b text slash m f h p ≡ None → EntryMarked b text slash n m f h (One p) type bits
  absent_marked bits e j l t =
      let d = only j l t in
      let z : ◌≡◌ {A = ℕ} 0 1 = cc in
      absurd (omega arith)

-- 3. One arc more

module _ (b text : List ℕ) (slash : Bool) (n f : ℕ) (h : Entry) (whom : Whom) (type : List ℕ) (j here : ℕ) (is : here ≡ place b j f) where
  pub arc-marked : (old now : List ℕ) → length old ≡ 131072 → now ≡ set old ((here / 128) % 131072) 1
      → EntryMarked b text slash n j f h whom type old → EntryMarked b text slash n (j + 1) f h whom type now
  arc-marked old now long e so i l t = go (eqb i j) refl
    where
      go : (z : Bool) → eqb i j ≡ z → marked now (place b i f) ≡ true
      go true x = rw (eqb-true i j x, ← is) (mark_own old here now long e)
      go false x =
          let d = eqb-false i j x in
          mark_keeps old here now long e (place b i f) (so i (omega arith) t)

  pub arc_passed : (old now : List ℕ) → now ≡ old → meant_for b text slash n h whom type here ≡ false
      → EntryMarked b text slash n j f h whom type old → EntryMarked b text slash n (j + 1) f h whom type now
  arc_passed old now e un so i l t = go (eqb i j) refl
    where
      go : (z : Bool) → eqb i j ≡ z → marked now (place b i f) ≡ true
      go true x = clash (sym (rw (is, ← eqb-true i j x) at un) ∙ t)
      go false x =
          let d = eqb-false i j x in
          rw e (so i (omega arith) t)

-- nobody means no arc
pub nobody_marked : (b text : List ℕ) (slash : Bool) (n m f : ℕ) (t : List ℕ) (first some x : ℕ) (type bits : List ℕ)
    → EntriesMarked b text slash n m f t first some (Nobody x) type bits
unfolding meant_for
nobody_marked b text slash n m f t first some x type bits j k l u w = clash w

-- 4. One entry more

module _ (b text : List ℕ) (slash : Bool) (n m f : ℕ) (t : List ℕ) (first : ℕ) (whom : Whom) (type : List ℕ) where
  pub entry_more : (k : ℕ) (old now : List ℕ) → Kept old now → EntryMarked b text slash n m f (head_at t (28 * (first + k))) whom type now
      → EntriesMarked b text slash n m f t first k whom type old → EntriesMarked b text slash n m f t first (k + 1) whom type now
  entry_more k old now kept new so j i l u w = go (eqb i k) refl
    where
      go : (z : Bool) → eqb i k ≡ z → marked now (place b j f) ≡ true
      go true x = new j l (rw (eqb-true i k x) at w)
      go false x =
          let d = eqb-false i k x in
          kept (place b j f) (so j i l (omega arith) w)

-- 5. One arc more is asked for its mark

module _ (b : List ℕ) (f : ℕ) (bits : List ℕ) (from : ℕ) where
  pub chosen-start : (arcs : List ℕ) → ChosenTo b f bits from 0 0 arcs
  chosen-start arcs = (sym (chosen_none (marked_at b f bits) from), omega arith, λ i h. absurd (omega arith))

  module _ (k next at count : ℕ) (old now : List ℕ) (number : next ≡ from + k) (is : at ≡ place b next f) where
    pub choose_one : marked bits at ≡ true → length old ≡ 4096 → count < 4096 → now ≡ set old count at → ChosenTo b f bits from k count old
        → ChosenTo b f bits from (suc k) (count + 1) now
    choose_one t long room e so =
        rw (chosen_with hit from k here, length-append (chosen hit from k) ((from + k) ∷ [])) (
          ap (λ x. x + 1) so.0,
          omega arith,
          λ i h. go i h (eqb i count) refl,
        )
      where
        hit : ℕ → Bool
        hit = marked_at b f bits

        there : at ≡ place b (from + k) f
        there = rw (← number) is

        here : marked bits (place b (from + k) f) ≡ true
        here = rw (← there) t

        go : (i : ℕ) → i < count + 1 → (z : Bool) → eqb i count ≡ z
            → get_or now i 0 ≡ place b (get_or (chosen (marked_at b f bits) from k ++ ((from + k) ∷ [])) i 0) f
        go i h true x =
            rw (eqb-true i count x, e, get_or-set_same old count at 0 (omega arith), so.0, get_or-append_seam (chosen hit from k) (from + k) [] 0) there
        go i h false x =
            let d = eqb-false i count x in
            let l = so.0 in
            let y = get_d_front (chosen hit from k) ((from + k) ∷ []) i (omega arith) in
            rw (e, get_or-set_other old count i at 0 d, y) (so.2 i (omega arith))

    pub choose-none : marked bits at ≡ false → now ≡ old → ChosenTo b f bits from k count old → ChosenTo b f bits from (suc k) count now
    choose-none t e so =
        let there : at ≡ place b (from + k) f = rw (← number) is in
        rw (chosen_without (marked_at b f bits) from k (rw (← there) t), e) so

  -- where there are some, at least one arc was asked
  pub chosen-full : (k count : ℕ) (arcs : List ℕ) → 0 < count → ChosenTo b f bits from k count arcs → 0 < k
  chosen-full zero count arcs h so =
      let e = so.0 in
      let n = chosen_none (marked_at b f bits) from in
      absurd (omega arith)
  chosen-full (suc k) count arcs h so = omega arith
