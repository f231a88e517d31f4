-- 'Patching is annotating with the new file': demand 3, about the texts and the bytes that the program is given.
-- Assumes nothing.
use Prim.Native.Nat.{ℕ, zero, suc, ◌+◌, ◌*◌, ◌<◌, ◌≤◌}
use Rattle.std.specs.Prelude.{◌≡◌, Bool, ◌⊎◌, eqb, ltb, take, drop, Ok, Err}
use Rattle.std.proofs.Math.Path.{refl, sym, ap, subst}
use Rattle.std.proofs.Common.{◌∙◌, ⊎_elim, arith, SFits, to_z, of_z}
use Rattle.std.proofs.Math.Bool.{true, false}
use mathlib.Core.List.Memᴰ
use mathlib.Core.List.{List, [], ◌∷◌, ◌++◌, map, Memᴰ}
use Rattle.std.proofs.Math.Option.{Option, none, some}
use Rattle.std.proofs.Math.Logic.{inl, inr}
use Rattle.std.proofs.Math.ListN.{length, get_or, get_elem?}
use Rattle.std.proofs.Math.Seq.{paste}
use mir.Syntax.{w64}
use mir.ValLaws.{to_z-Fits, to_z-of_z, of_z_fits}
use borrow.Author.Tests.{ltb-true, ltb-false, lt-ltb, le-ltb, eqb-true, eqb-false, eq-eqb, ne_eqb}
use Rattle.classes.specs.Choice.{pick, and, or}
use Rattle.wire.specs.Wire.{Bytes, be64, be_bytes}
use Rattle.wire.specs.Frame.{byte_before, byte_behind, number_back}
use Rattle.grammar.specs.declared.Cell as read
use Rattle.grammar.specs.Meaning.{Item}
use Rattle.grammar.specs.Machine.{Res, fine, bad}
use Rattle.grammar.specs.Reading.{At}
use Rattle.grammar.specs.Outcome.{read_file, read_cell_of}
use Rattle.meant.specs.Sound.{Each, SoundItem, read_sound}
use Rattle.sheetparts.specs.Form.{Good, SheetCheck, check_of, values_at}
use Rattle.sheetlaws.specs.Rule.{least}
use Rattle.sheetlaws.specs.Sheet.{Sheet, place, ar_next, arcs_at, decode_of, decode}
use Rattle.sheetlaws.specs.Sheet as bytes
use Rattle.sheetlaws.specs.Sound.{below}
use Rattle.meant.specs.Find.{sheet_good}
use Rattle.meant.specs.Same.{same_records}
use Rattle.meant.specs.Same as same
use Rattle.history.specs.Events.{Value, holds, final, Event, Answer, sheet, refused, left, history, affected}
use Rattle.history.specs.Ranges.{InRange, Fits}
use Rattle.history.proofs.Ranges.{history_in_range}
use Rattle.history.specs.Sheet.{Slot, Values, Entry, Cell, Cut, cut, swapped, cell_event, entry_event, events, file_events, each, slots_of}
use Rattle.history.specs.Sheet as history
use Rattle.history.proofs.SheetLaws.{annotate_exactly, cut-none}
use Rattle.history.specs.Faults.{Fault}
use Rattle.history.specs.Scan.{own_fault}
use Rattle.history.proofs.Scan.{word_answer, fault_answer, scan}
use Rattle.history.specs.BySlots.{new_events}
use Rattle.history.proofs.BySlots.{patch-by-slots}
use Rattle.history.specs.Places.{renamed_entry, renamed_cell, renamed_answer}
use Rattle.history.proofs.Places.{renamed-annotate}
use Rattle.history.proofs.Demands.{demand_3}
use Rattle.meant.specs.Slots.{meant, numeral, word_of, slot_number, slot_at, same_slot, put, arc_values, records_of, values_of, spelled, sheet_at}
use Rattle.meant.specs.Numbers.{slot_number_lem, slot_at_lem, slot_below, word_time, value-fits, numeral-meant}
use Rattle.meant.specs.Numbers as numbers
use Rattle.meant.specs.SlotArcs.{arc_of_lem}
use Rattle.meant.specs.Current.{current_spelled}
use Rattle.meant.specs.Shapes.{values_in_range}
use Rattle.meant.specs.Spelled.{start, length-spelled, room, spelled_same, word_set}
use Rattle.meant.specs.Says.{name_at, entry_of, part_at, cell_of, cells_of}
use Rattle.meant.specs.Instances.{records_at}
use Rattle.meant.specs.Annotating as annotating
use Rattle.meant.specs.CellList.{each_take, each-drop}
use Rattle.meant.specs.Where.{Where, at}
use Rattle.arcrun.specs.RunLaws.{gives_fits}
use Rattle.arcrun.specs.CellRuns.{cells-length}
use Rattle.swap.specs.Swapped.{says_of, sheet_of}
use Rattle.patch.specs.Meaning.{said, first_cell, Course, judged, course, answer_of, current_of}

-- 1. Bytes of a sheet with other values

one_more : (k i : ℕ) → (k ≡ i → ⊥) → ltb k (suc i) ≡ ltb k i
one_more k i d = by (ltb k i) refl
  where
    by : (x : Bool) → ltb k i ≡ x → ltb k (suc i) ≡ x
    by true e = let l = ltb-true k i e in lt-ltb k (suc i) (omega arith)
    by false e = let l = ltb-false k i e in le-ltb k (suc i) (omega arith)

put_same : (v : Values) (u t : Slot) → put v u (v u) t ≡ v t
unfolding put
put_same v u t = by (same_slot t u) refl
  where
    by : (x : Bool) → same_slot t u ≡ x → pick x (v u) (v t) ≡ v t
    by true e = ap v (sym ((numbers.same_exactly t u).0 e))
    by false e = refl

-- the values v, with those of w in all slots of the first j arcs and in the first i of arc j
mixed : (v w : Values) (j i : ℕ) → Values
mixed v w j i t = pick (or (ltb t.arc j) (and (eqb t.arc j) (ltb (slot_number t) i))) (w t) (v t)

mixed-put : (v w : Values) (j i : ℕ) → i < 18 → (t : Slot) → put (mixed v w j i) (slot_at j i) (w (slot_at j i)) t ≡ mixed v w j (suc i) t
unfolding put same_slot slot_at slot_number mixed
mixed-put v w j i l t = rw (slot_number_lem j i l) (by (eqb t.arc j) refl (eqb (slot_number t) i) refl)
  where
    by : (y : Bool) → eqb t.arc j ≡ y → (z : Bool) → eqb (slot_number t) i ≡ z
        → pick (and y z) (w (slot_at j i)) (pick (or (ltb t.arc j) (and y (ltb (slot_number t) i))) (w t) (v t))
        ≡ pick (or (ltb t.arc j) (and y (ltb (slot_number t) (suc i)))) (w t) (v t)
    by false p z q = refl
    by true p false q = rw (one_more (slot_number t) i (eqb-false (slot_number t) i q))
    by true p true q =
        let k = eqb-true (slot_number t) i q in
        let a = eqb-true t.arc j p in
        let s : slot_at j i ≡ t = ap (λ x. slot_at x i) (sym a) ∙ ap (slot_at t.arc) (sym k) ∙ slot_at_lem t in
        rw (s, a, k, le-ltb j j (omega arith), lt-ltb i (suc i) (omega arith))

mixed-here : (v w : Values) (j i : ℕ) → i < 18 → mixed v w j i (slot_at j i) ≡ v (slot_at j i)
unfolding mixed slot_number slot_at
mixed-here v w j i l =
    rw (arc_of_lem j i, slot_number_lem j i l, le-ltb j j (omega arith), eq-eqb j j refl, le-ltb i i (omega arith))

mixed-none : (v w : Values) (t : Slot) → mixed v w 0 0 t ≡ v t
unfolding mixed
mixed-none v w t = rw (le-ltb t.arc 0 (omega arith), le-ltb (slot_number t) 0 (omega arith)) (by (eqb t.arc 0))
  where
    by : (x : Bool) → pick (and x false) (w t) (v t) ≡ v t
    by true = refl
    by false = refl

mixed-arc : (v w : Values) (j : ℕ) (t : Slot) → mixed v w (suc j) 0 t ≡ mixed v w j 18 t
unfolding mixed
mixed-arc v w j t =
    rw (le-ltb (slot_number t) 0 (omega arith), lt-ltb (slot_number t) 18 (slot_below t)) (by (eqb t.arc j) refl (eqb t.arc (suc j)))
  where
    no : (x y : Bool) → or x (and y false) ≡ x
    no true y = refl
    no false true = refl
    no false false = refl

    yes : (x : Bool) → or x true ≡ true
    yes true = refl
    yes false = refl

    by : (y : Bool) → eqb t.arc j ≡ y → (z : Bool)
        → pick (or (ltb t.arc (suc j)) (and z false)) (w t) (v t) ≡ pick (or (ltb t.arc j) (and y true)) (w t) (v t)
    by true p z =
        let a = eqb-true t.arc j p in
        rw (no (ltb t.arc (suc j)) z, yes (ltb t.arc j), lt-ltb t.arc (suc j) (omega arith))
    by false p z = rw (no (ltb t.arc (suc j)) z, no (ltb t.arc j) true, one_more t.arc j (eqb-false t.arc j p))

mixed-all : (v w : Values) (m : ℕ) (t : Slot) → t.arc < m → mixed v w m 0 t ≡ w t
unfolding mixed
mixed-all v w m t h = rw (lt-ltb t.arc m h)

-- where the eight bytes of a value stand, the first arc of the sheet standing at f
abbrev pub slot_place : List ℕ → ℕ → Slot → ℕ
slot_place b f t = values_at b (place b t.arc f) + 8 * slot_number t

-- byte k is none of them
abbrev pub Away : List ℕ → ℕ → ℕ → Slot → Type 0
Away b f k t = (k < slot_place b f t) ⊎ (slot_place b f t + 8 ≤ k)

module _ (b : List ℕ) (bytes : Bytes b) (n m f : ℕ) (good : check_of b ≡ Good n m f) where
  -- a byte changes only if the value that it belongs to does
  module _ (v w : Values) (k : ℕ) (h : (t : Slot) → t.arc < m → (v t ≡ w t) ⊎ Away b f k t) where
    byte : Values → ℕ
    byte x = get_or (spelled (sheet_at b n m f) x) k 0

    one-put : (j i : ℕ) → j < m → i < 18 → byte (mixed v w j (suc i)) ≡ byte (mixed v w j i)
    unfolding byte
    one-put j i a l =
        ap (λ d. get_or d k 0) (sym (spelled_same b bytes n m f good (put o u (w u)) (mixed v w j (suc i)) (λ t g. mixed-put v w j i l t)))
        ∙ by (h u (rw (arc_of_lem j i) a))
      where
        u : Slot
        u = slot_at j i

        o : Values
        o = mixed v w j i

        at_place : slot_place b f u ≡ values_at b (place b j f) + 8 * i
        at_place =
            ap (λ x. values_at b (place b x f) + 8 * slot_number u) (arc_of_lem j i) ∙ ap (λ x. values_at b (place b j f) + 8 * x) (slot_number_lem j i l)

        by : (v u ≡ w u) ⊎ Away b f k u → byte (put o u (w u)) ≡ byte o
        by (inl e) =
            let x : w u ≡ o u = sym e ∙ sym (mixed-here v w j i l) in
            ap (λ d. get_or d k 0) (ap (λ y. spelled (sheet_at b n m f) (put o u y)) x
            ∙ spelled_same b bytes n m f good (put o u (o u)) o (λ t g. put_same o u t))
        by (inr away) =
            ap (λ d. get_or d k 0) (sym (word_set b bytes n m f good o j i (w u) a l)) ∙ kept (rw at_place at away)
          where
            d : List ℕ
            d = spelled (sheet_at b n m f) o

            kept : (k < values_at b (place b j f) + 8 * i) ⊎ (values_at b (place b j f) + 8 * i + 8 ≤ k)
                → get_or (paste d (values_at b (place b j f) + 8 * i) (be_bytes (word_of (w u))) 8) k 0 ≡ get_or d k 0
            kept (inl x) =
                let r = room b bytes n m f good o j i a l in
                byte_before d (be_bytes (word_of (w u))) (values_at b (place b j f) + 8 * i) 8 r (omega arith) k x
            kept (inr x) =
                let r = room b bytes n m f good o j i a l in
                byte_behind d (be_bytes (word_of (w u))) (values_at b (place b j f) + 8 * i) 8 r (omega arith) k x

    row_put : (j i : ℕ) → j < m → i ≤ 18 → byte (mixed v w j i) ≡ byte (mixed v w j 0)
    row_put j zero a l = refl
    row_put j (suc i) a l = one-put j i a (omega arith) ∙ row_put j i a (omega arith)

    all-put : (j : ℕ) → j ≤ m → byte (mixed v w j 0) ≡ byte v
    unfolding byte
    all-put zero a = ap (λ d. get_or d k 0) (spelled_same b bytes n m f good (mixed v w 0 0) v (λ t g. mixed-none v w t))
    all-put (suc j) a =
        ap (λ d. get_or d k 0) (spelled_same b bytes n m f good (mixed v w (suc j) 0) (mixed v w j 18) (λ t g. mixed-arc v w j t))
        ∙ row_put j 18 (omega arith) (omega arith) ∙ all-put j (omega arith)

    pub byte_kept : get_or (spelled (sheet_at b n m f) w) k 0 ≡ get_or (spelled (sheet_at b n m f) v) k 0
    unfolding byte
    byte_kept =
        ap (λ d. get_or d k 0) (sym (spelled_same b bytes n m f good (mixed v w m 0) w (λ t g. mixed-all v w m t g))) ∙ all-put m (omega arith)

  -- so the records are the same
  pub same_records_lem : (v : Values) → same_records b (spelled (sheet_at b n m f) v) m f ≡ true
  same_records_lem v =
      let g = sheet_good b n m f good in
      (same.same_exactly b (spelled (sheet_at b n m f) v) (length-spelled b bytes n m f good v) m f g.arcs.3 g.ends).1
      (λ i k o. byte_kept (values_of (sheet_at b n m f)) v i (λ t h. inr (away i t (o t.arc h) (ltb i (values_at b (place b t.arc f))) refl
      (ltb i (ar_next b (place b t.arc f))) refl))
      ∙ ap (λ d. get_or d i 0) (start b bytes n m f good))
    where
      away : (i : ℕ) (t : Slot) → (values_at b (place b t.arc f) ≤ i → i < ar_next b (place b t.arc f) → ⊥)
          → (x : Bool) → ltb i (values_at b (place b t.arc f)) ≡ x → (y : Bool) → ltb i (ar_next b (place b t.arc f)) ≡ y → Away b f i t
      away i t o true p y q = let z = ltb-true i (values_at b (place b t.arc f)) p in inl (omega arith)
      away i t o false p true q = absurd (o (ltb-false i _ p) (ltb-true i _ q))
      away i t o false p false q = let z = ltb-false i (ar_next b (place b t.arc f)) q in let s = slot_below t in inr (omega arith)

-- 2. The values of a sheet that was written

meant_back : (x : Value) → InRange x → meant (numeral x) ≡ x
unfolding meant numeral word_of
meant_back none r = refl
meant_back (some z) r = rw (ne_eqb (of_z w64 z) 9223372036854775808 (word_time z r))

-- 64 bits hold each number that stands in bytes
values_fit : (c : List ℕ) → Bytes c → (k p i : ℕ) → SFits w64 (get_or (bytes.values_of c k p) i least)
unfolding bytes.values_of numeral
values_fit c also zero p i = value-fits none tt
values_fit c also (suc k) p zero = to_z-Fits w64 (be64 c p) (record { fits = below c also p })
values_fit c also (suc k) p (suc i) = values_fit c also k (p + 8) i

arcs_fit : (c : List ℕ) → Bytes c → (m p j i : ℕ) → SFits w64 (get_or (arc_values (arcs_at c m p) j) i least)
unfolding arcs_at arc_values numeral
arcs_fit c also zero p j i = value-fits none tt
arcs_fit c also (suc m) p zero i = values_fit c also 18 (values_at c p) i
arcs_fit c also (suc m) p (suc j) i = arcs_fit c also m (ar_next c p) j i

module _ (b : List ℕ) (all-bytes : Bytes b) (n m f : ℕ) (good : check_of b ≡ Good n m f) where
  word_back : (v : Values) (j i : ℕ) → j < m → i < 18 → SFits w64 (numeral (v (slot_at j i)))
      → be64 (spelled (sheet_at b n m f) v) (values_at b (place b j f) + 8 * i) ≡ of_z w64 (numeral (v (slot_at j i)))
  unfolding word_of
  word_back v j i h g r =
      let u = slot_at j i in
      let e = word_set b all-bytes n m f good v j i (v u) h g ∙ spelled_same b all-bytes n m f good (put v u (v u)) v (λ t k. put_same v u t) in
      let d = spelled (sheet_at b n m f) v in
      let p = values_at b (place b j f) + 8 * i in
      ap (λ l. be64 l p) (sym e)
      ∙ number_back d p (of_z w64 (numeral (v u))) (room b all-bytes n m f good v j i h g) (of_z_fits w64 (numeral (v u)) r).fits

  -- values in range are read as they were written
  pub values_back : (v : Values) → ((t : Slot) → t.arc < m → InRange (v t)) → Bytes (spelled (sheet_at b n m f) v) → (t : Slot) → t.arc < m
      → values_of (sheet_at (spelled (sheet_at b n m f) v) n m f) t ≡ v t
  unfolding values_of
  values_back v r also t h = subst (λ (x : Slot). w x ≡ v x) (slot_at_lem t) (at_slot t.arc (slot_number t) h (slot_below t))
    where
      c : List ℕ
      c = spelled (sheet_at b n m f) v

      w : Values
      w = values_of (sheet_at c n m f)

      same_bytes : c ≡ spelled (sheet_at b n m f) w
      same_bytes = current_spelled b all-bytes n m f good c also (length-spelled b all-bytes n m f good v) (same_records_lem b all-bytes n m f good v)

      back : (u : Slot) → (numeral (w u) ≡ get_or (arc_values (arcs_at c m f) u.arc) (slot_number u) least)
          × (w u ≡ meant (get_or (arc_values (arcs_at c m f) u.arc) (slot_number u) least))
      back u = (numeral-meant _ (arcs_fit c also m f u.arc (slot_number u)), refl)

      fits : (u : Slot) → SFits w64 (numeral (w u))
      fits u = rw (back u).0 (arcs_fit c also m f u.arc (slot_number u))

      at_slot : (j i : ℕ) → j < m → i < 18 → w (slot_at j i) ≡ v (slot_at j i)
      at_slot j i a l =
          let u = slot_at j i in
          let fine : SFits w64 (numeral (v u)) = value-fits (v u) (r u (rw (arc_of_lem j i) a)) in
          let x = word_back v j i a l fine in
          let y = word_back w j i a l (fits u) in
          let e : of_z w64 (numeral (v u)) ≡ of_z w64 (numeral (w u)) = sym x ∙ ap (λ d. be64 d (values_at b (place b j f) + 8 * i)) same_bytes ∙ y in
          let z : numeral (v u) ≡ numeral (w u)
          = sym (to_z-of_z w64 (numeral (v u)) fine) ∙ ap (to_z w64) e ∙ to_z-of_z w64 (numeral (w u)) (fits u) in
          (back u).1 ∙ ap meant (sym (back u).0 ∙ sym z) ∙ meant_back (v u) (r u (rw (arc_of_lem j i) a))

-- 3. The values that annotating leaves are in range

each_append : {A : Type 0} (P : A → Type 0) (x y : List A) → Each P x → Each P y → Each P (x ++ y)
each_append P [] y a e = e
each_append P (c ∷ x) y a e = (a.0, each_append P x y a.1 e)

each-mem : {A : Type 0} (P : A → Type 0) (x : List A) → Each P x → (a : A) → Memᴰ a x → P a
each-mem P [] e a k = absurd (Memᴰ.not-nil k)
each-mem P (c ∷ x) e a k = ⊎_elim (λ p. subst P (sym p) e.0) (each-mem P x e.1 a) (Memᴰ.cases_cons k)

module _ (b : List ℕ) (all-bytes : Bytes b) (n m f : ℕ) (good : check_of b ≡ Good n m f) (text : List ℕ) (slash side : Bool) where
  module _ (t : Slot) (h : t.arc < m) where
    abbrev Gives : Event Slot Where → Type 0
    Gives e = Fits (e.gives t)

    entries_fit : (c : Cell Where) (is : List Item) → Each SoundItem is
        → Each Gives (map (entry_event (records_at b n m f) c) (map (entry_of (at side) text slash) is))
    entries_fit c [] s = tt
    entries_fit c (i ∷ is) s = (gives_fits b all-bytes n m f good text slash side t.arc h c i s.0 t, entries_fit c is s.1)

    file-fits : (cs : List read.Cell) (is : List Item) → Each SoundItem is
        → Each Gives (file_events (records_at b n m f) (cells_of (at side) text slash cs is))
    unfolding file_events each events cell_event cells_of cell_of
    file-fits [] is s = tt
    file-fits (c ∷ cs) is s =
        let one = cell_of (at side) text slash c (take c.entries is) in
        each_append Gives (events (records_at b n m f) one) (file_events (records_at b n m f) (cells_of (at side) text slash cs (drop c.entries is)))
        (tt, entries_fit one (take c.entries is) (each_take SoundItem is s c.entries))
        (file-fits cs (drop c.entries is) (each-drop SoundItem is s c.entries))

  pub left_in_range : (cs : List read.Cell) (is : List Item) → Each SoundItem is → (v : Values)
      → history.annotate (records_at b n m f) (values_of (sheet_at b n m f)) (cells_of (at side) text slash cs is) ≡ sheet v
      → (t : Slot) → t.arc < m → InRange (v t)
  left_in_range cs is s v e t h =
      history_in_range (file_events (records_at b n m f) (cells_of (at side) text slash cs is)) t (values_of (sheet_at b n m f) t) (v t)
      (each-mem (λ (x : Event Slot Where). Fits (x.gives t)) _ (file-fits t h cs is s)) (values_in_range b all-bytes n m f good t)
      (((annotate_exactly (records_at b n m f) (values_of (sheet_at b n m f)) v (cells_of (at side) text slash cs is)).0 e).1 t)

-- 4. What annotating was told, and what it said

-- words are only carried along
renamed_entries : {A B : Type 0} (h : A → B) (word : ℕ → A) (text : List ℕ) (slash : Bool) (is : List Item)
    → map (entry_of (λ p. h (word p)) text slash) is ≡ map (renamed_entry h) (map (entry_of word text slash) is)
unfolding entry_of renamed_entry name_at
renamed_entries h word text slash [] = refl
renamed_entries {A} {B} h word text slash (i ∷ is) =
    ap (λ (l : List (Entry B)). entry_of (λ p. h (word p)) text slash i ∷ l) (renamed_entries h word text slash is)

pub renamed-cells : {A B : Type 0} (h : A → B) (word : ℕ → A) (text : List ℕ) (slash : Bool) (cs : List read.Cell) (is : List Item)
    → cells_of (λ p. h (word p)) text slash cs is ≡ map (renamed_cell h) (cells_of word text slash cs is)
unfolding cells_of cell_of renamed_cell part_at name_at
renamed-cells h word text slash [] is = refl
renamed-cells h word text slash (c ∷ cs) is =
    rw (renamed_entries h word text slash (take c.entries is), renamed-cells h word text slash cs (drop c.entries is))

-- the cells that a text says, with their words told by side and place
pub said-renamed : (side : Bool) (text : List ℕ) (st : At) → said side text st ≡ map (renamed_cell (at side)) (annotating.said text st)
unfolding said annotating.said
said-renamed side text st = renamed-cells (at side) (λ p. p) text st.book.slash st.book.log.cells st.book.log.items

-- a file that was accepted: what was checked, read and said
pub record Accepted (start file : List ℕ) (cr ir : ℕ) (s : Sheet) (st : At) (v : Values) (n m f : ℕ) : Type 0 where
  pub good : check_of start ≡ Good n m f
  pub sheet_is : s ≡ sheet_at start n m f
  pub read : read_file cr ir file ≡ fine st
  pub gave : history.annotate (records_of s) (values_of s) (annotating.said file st) ≡ sheet v

pub accepted : (start file : List ℕ) (cr ir long : ℕ) (s : Sheet) (st : At) (v : Values)
    → annotating.course start file cr ir long ≡ annotating.judged s st (sheet v)
    → (n : ℕ) × (m : ℕ) × (f : ℕ) × Accepted start file cr ir s st v n m f
unfolding annotating.course decode
accepted start file cr ir long s st v e = go (check_of start) refl (eqb long (length start)) refl (read_file cr ir file) refl e
  where
    go : (k : SheetCheck) → check_of start ≡ k → (t : Bool) → eqb long (length start) ≡ t → (r : Res At) → read_file cr ir file ≡ r
        → annotating.by_sheet start file long (read_file cr ir file) (decode_of start (check_of start)) ≡ annotating.judged s st (sheet v)
        → (n : ℕ) × (m : ℕ) × (f : ℕ) × Accepted start file cr ir s st v n m f
    go (Err x) c t q r d e = let w = rw c at e in let z : ◌≡◌ {A = ℕ} 0 1 = cc in absurd (omega arith)
    go (Ok o) c false q r d e = let w = rw (c, q) at e in let z : ◌≡◌ {A = ℕ} 0 1 = cc in absurd (omega arith)
    go (Ok o) c true q (bad x p) d e = let w = rw (c, q, d) at e in let z : ◌≡◌ {A = ℕ} 0 1 = cc in absurd (omega arith)
    go (Ok o) c true q (fine st') d e =
        let w = rw (c, q, d) at e in
        let b = sheet_at start o.instances o.arcs o.first_arc in
        let x : b ≡ s = cc in
        let y : st' ≡ st = cc in
        let a : history.annotate (records_of b) (values_of b) (annotating.said file st') ≡ sheet v = cc in
        (o.instances, o.arcs, o.first_arc, record { good = c; sheet_is = sym x; read = rw (← y) d; gave = rw (← x, ← y) a })

-- 5. Demand 3

-- number k of a list is there
cut_there : {A : Type 0} (l : List A) (k : ℕ) → 1 ≤ k → k ≤ length l → (p : Cut A) × (cut l k ≡ some p)
cut_there {A} l k h g = go (cut l k) refl
  where
    go : (o : Option (Cut A)) → cut l k ≡ o → (p : Cut A) × (cut l k ≡ some p)
    go none e = absurd (⊎_elim (λ x. omega arith) (λ x. omega arith) (cut-none l k e))
    go (some p) e = (p, e)

-- what is refused does not hang on the values that are kept
other_values : (start current : List ℕ) (n m f : ℕ) (es : List (Event Slot Where)) (x y : Values) (o : Option Fault)
    → spelled (sheet_at start n m f) x ≡ spelled (sheet_at start n m f) y
    → (says_of (fault_answer es x o) ≡ says_of (fault_answer es y o))
    × (sheet_of start current n m f (fault_answer es x o) ≡ sheet_of start current n m f (fault_answer es y o))
unfolding fault_answer word_answer
other_values start current n m f es x y none e = (refl, e)
other_values start current n m f es x y (some g) e = go (get_elem? es g.event)
  where
    go : (d : Option (Event Slot Where))
        → (says_of (word_answer g.number d x) ≡ says_of (word_answer g.number d y))
        × (sheet_of start current n m f (word_answer g.number d x) ≡ sheet_of start current n m f (word_answer g.number d y))
    go none = (refl, e)
    go (some d) = (refl, refl)

-- THE DEMAND, for a course of the patch: its answer and its sheet are those of annotating with the new file, whose cells are those of the file with
-- the incoming one in place of number `number`
pub record Annotates (start file : List ℕ) (number : ℕ) (incoming current : List ℕ) (n m f : ℕ) (st st2 : At) (c : Course) : Type 1 where
  pub split : Cut (Cell Where)
  pub there : cut (said false file st) number ≡ some split
  -- the answer: accepted, or the same number at the same word
  pub says :
      answer_of c
      ≡ says_of (history.annotate (records_at start n m f) (values_of (sheet_at start n m f)) (swapped split (first_cell (said true incoming st2))))
  -- the sheet, byte by byte; 'A refused patch keeps the current sheet.'
  pub leaves :
      current_of start current c
      ≡ sheet_of start current n m f
      (history.annotate (records_at start n m f) (values_of (sheet_at start n m f)) (swapped split (first_cell (said true incoming st2))))
  -- the same for a new file with its own places: g says where in it a word stands
  pub places : {Place : Type 0} (g : Where → Place)
      → history.annotate (records_at start n m f) (values_of (sheet_at start n m f)) (map (renamed_cell g) (swapped split (first_cell (said true incoming st2))))
      ≡ renamed_answer g (history.annotate (records_at start n m f) (values_of (sheet_at start n m f)) (swapped split (first_cell (said true incoming st2))))
  -- 'all else stays': no byte changes but those of values that the outgoing or the incoming cell supplies
  pub outside : (k : ℕ)
      → ((t : Slot) → t.arc < m
      → affected (events (records_at start n m f) split.one) (events (records_at start n m f) (first_cell (said true incoming st2))) t ≡ true
      → Away start f k t)
      → get_or (current_of start current c) k 0 ≡ get_or current k 0

module _ (start file : List ℕ) (number : ℕ) (incoming current : List ℕ) (cr ir cr2 ir2 : ℕ) (all-bytes : Bytes start) (also : Bytes current) where
  module _ (n m f : ℕ) (good : check_of start ≡ Good n m f) (st : At) (v : Values) (read : read_file cr ir file ≡ fine st)
      (gave : history.annotate (records_at start n m f) (values_of (sheet_at start n m f)) (annotating.said file st) ≡ sheet v)
      (now : current ≡ spelled (sheet_at start n m f) v) (low : 1 ≤ number) (high : number ≤ length st.book.log.cells) (st2 : At)
      (read2 : read_cell_of st.book.slash st.book.unit cr2 ir2 incoming ≡ fine st2) where
    comer : Cell Where
    comer = first_cell (said true incoming st2)

    -- what patching decides on
    decided : Values → Answer Slot Where
    decided x = history.patch (records_at start n m f) (values_of (sheet_at start n m f)) (said false file st) number (at false 0) comer x

    course-is : course start file number incoming current cr ir cr2 ir2 ≡ judged n m f st st2 (decided (values_of (sheet_at current n m f)))
    unfolding course decided comer
    course-is =
        let l : length current ≡ length start = ap length now ∙ length-spelled start all-bytes n m f good v in
        let s : same_records start current m f ≡ true = rw now (same_records_lem start all-bytes n m f good v) in
        rw (
          good,
          eq-eqb (length current) (length start) l,
          s,
          read,
          ne_eqb number 0 (λ z. omega arith),
          le-ltb (length st.book.log.cells) number high,
          read2,
        )

    -- the same with the words of a patch
    gave_here : history.annotate (records_at start n m f) (values_of (sheet_at start n m f)) (said false file st) ≡ sheet v
    unfolding renamed_answer
    gave_here =
        rw (said-renamed false file st)
        (renamed-annotate (at false) (records_at start n m f) (values_of (sheet_at start n m f)) (annotating.said file st) ∙ ap (renamed_answer (at false)) gave)

    in_range : (t : Slot) → t.arc < m → InRange (v t)
    unfolding said
    in_range =
        left_in_range start all-bytes n m f good file st.book.slash false st.book.log.cells st.book.log.items
        (read_sound cr ir file st read).items v gave_here

    -- the values that stand on the current sheet
    stand : (t : Slot) → t.arc < m → values_of (sheet_at current n m f) t ≡ v t
    stand t h =
        ap (λ (d : List ℕ). values_of (sheet_at d n m f) t) now
        ∙ values_back start all-bytes n m f good v in_range (subst Bytes now also) t h

    how_many : length (said false file st) ≡ length st.book.log.cells
    unfolding said
    how_many = cells-length (at false) file st.book.slash st.book.log.cells st.book.log.items

    same_end : (p : Cut (Cell Where)) → cut (said false file st) number ≡ some p
        → (says_of (decided (values_of (sheet_at current n m f))) ≡ says_of (decided v))
        × (sheet_of start current n m f (decided (values_of (sheet_at current n m f))) ≡ sheet_of start current n m f (decided v))
    unfolding decided
    same_end p e =
        let here = values_of (sheet_at current n m f) in
        let o =
        other_values start current n m f news (written here) (written v) fault
        (spelled_same start all-bytes n m f good (written here) (written v) (λ t h. ap (λ (y : Value). pick (touched t) (made t) y) (stand t h))) in
        (ap says_of (by here) ∙ o.0 ∙ sym (ap says_of (by v)), ap (sheet_of start current n m f) (by here) ∙ o.1 ∙ sym (ap (sheet_of start current n m f) (by v)))
      where
        news : List (Event Slot Where)
        news = new_events (records_at start n m f) p comer

        touched : Slot → Bool
        touched = affected (events (records_at start n m f) p.one) (events (records_at start n m f) comer)

        made : Slot → Value
        made t = final (history (holds (values_of (sheet_at start n m f) t)) news t)

        written : Values → Values
        written x t = pick (touched t) (made t) (x t)

        fault : Option Fault
        fault = scan touched (values_of (sheet_at start n m f)) news (own_fault news) (slots_of (records_at start n m f))

        by : (x : Values) → decided x ≡ fault_answer news (written x) fault
        by x = patch-by-slots (records_at start n m f) (values_of (sheet_at start n m f)) (said false file st) number (at false 0) comer x p e

    whole : (p : Cut (Cell Where)) → cut (said false file st) number ≡ some p
        → Annotates start file number incoming current n m f st st2 (course start file number incoming current cr ir cr2 ir2)
    unfolding answer_of current_of decided comer left
    whole p e =
        let records = records_at start n m f in
        let values = values_of (sheet_at start n m f) in
        let d = demand_3 records values (said false file st) number (at false 0) comer v p gave_here e in
        let says_is = ap answer_of course-is ∙ (same_end p e).0 in
        let leaves-is = ap (current_of start current) course-is ∙ (same_end p e).1 in
        record {
          split = p;
          there = e;
          says = says_is ∙ ap says_of d.same;
          leaves = leaves-is ∙ ap (sheet_of start current n m f) d.same;
          places = λ {Place} g. d.places g ∙ ap (renamed_answer g) d.same;
          outside = λ k h. ap (λ (l : List ℕ). get_or l k 0) leaves-is ∙ kept k p h (decided v) d.outside;
        }
      where
        kept : (k : ℕ) (p : Cut (Cell Where))
            → ((t : Slot) → t.arc < m → affected (events (records_at start n m f) p.one) (events (records_at start n m f) comer) t ≡ true → Away start f k t)
            → (a : Answer Slot Where)
            → ((t : Slot) → affected (events (records_at start n m f) p.one) (events (records_at start n m f) comer) t ≡ false → left v a t ≡ v t)
            → get_or (sheet_of start current n m f a) k 0 ≡ get_or current k 0
        kept k p h (refused x w) o = refl
        kept k p h (sheet w) o =
            byte_kept start all-bytes n m f good v w k
            (λ t l. by t l (affected (events (records_at start n m f) p.one) (events (records_at start n m f) comer) t) refl)
            ∙ ap (λ (d : List ℕ). get_or d k 0) (sym now)
          where
            by : (t : Slot) → t.arc < m → (x : Bool) → affected (events (records_at start n m f) p.one) (events (records_at start n m f) comer) t ≡ x
                → (v t ≡ w t) ⊎ Away start f k t
            by t l true q = inr (h t l q)
            by t l false q = inl (sym (o t q))

  -- Demand 3: annotating with the file was accepted, and the current sheet is what it left; number `number` is one of the file's cells, and the
  -- incoming text was read as one cell
  pub patch-is_annotating : (long : ℕ) (out : List ℕ) (s : Sheet) (st : At) (v : Values)
      → annotating.course start file cr ir long ≡ annotating.judged s st (sheet v)
      → current ≡ annotating.out_of start out (annotating.course start file cr ir long) → 1 ≤ number → number ≤ length st.book.log.cells → (st2 : At)
      → read_cell_of st.book.slash st.book.unit cr2 ir2 incoming ≡ fine st2
      → (n : ℕ) × (m : ℕ) × (f : ℕ) × (check_of start ≡ Good n m f) × (s ≡ sheet_at start n m f)
      × Annotates start file number incoming current n m f st st2 (course start file number incoming current cr ir cr2 ir2)
  unfolding annotating.out_of
  patch-is_annotating long out s st v e now low high st2 read2 =
      let (n, m, f, a) = accepted start file cr ir long s st v e in
      let gave = rw a.sheet_is at a.gave in
      let here : current ≡ spelled (sheet_at start n m f) v = (rw e at now) ∙ ap (λ (x : Sheet). spelled x v) a.sheet_is in
      let (p, q) =
      cut_there (said false file st) number low
      (rw (how_many n m f a.good st v a.read gave here low high st2 read2) high) in
      (n, m, f, a.good, a.sheet_is, whole n m f a.good st v a.read gave here low high st2 read2 p q)
