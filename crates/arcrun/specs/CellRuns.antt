-- The slots of one arc, run through a cell and through the cells of a file, keep to the history.
-- Assumes nothing.
use Prim.Native.Nat.{ℕ, zero, suc, ◌+◌, ◌-◌, ◌*◌, ◌<◌, ◌≤◌}
use Rattle.std.specs.Prelude.{◌≡◌, Bool, length, get_or, take, drop, Option, Some, None}
use Rattle.std.proofs.Math.Path.{refl, sym, ap, subst, fun_ext}
use Rattle.std.proofs.Common.{◌∙◌, arith, add-zero, length-append, length-take-le}
use Rattle.std.proofs.Math.Bool.{true, false}
use mathlib.Core.List.{List, [], ◌∷◌, ◌++◌, append-nil, append_assoc}
use Rattle.std.proofs.Math.Dec.{eqb}
use Rattle.std.proofs.Math.Seq.{take-append-add}
use Rattle.std.proofs.lemmas.List.{drop-append-le}
use Rattle.classes.specs.Choice.{pick}
use Rattle.wire.specs.Wire.{Bytes}
use Rattle.names.specs.Order.{same_text}
use Rattle.names.specs.Name.{canon, part_of}
use Rattle.grammar.specs.declared.Cell as read
use Rattle.grammar.specs.Meaning.{Item}
use Rattle.meant.specs.Sound.{Each, SoundItem, total}
use Rattle.sheetparts.specs.Form.{Good, check_of, type_at}
use Rattle.sheetlaws.specs.Sheet.{place}
use Rattle.meant.specs.Find.{find_instance}
use Rattle.views.specs.Views.{cell_at}
use Rattle.history.specs.Events.{nothing, Event}
use Rattle.history.specs.Ranges.{Fits}
use Rattle.history.specs.Sheet as part
use Rattle.history.specs.Sheet.{Slot, Values, Cell, arc_slots, cell_event, events, file_events, each}
use Rattle.meant.specs.Says.{cell_of, cells_of, part_at, name_at}
use Rattle.meant.specs.Rows.{cell-is}
use Rattle.meant.specs.Instances.{records_at}
use Rattle.meant.specs.Addressed.{cell_absent, cell-found, cell_differs}
use Rattle.meant.specs.WhomType.{Whom}
use Rattle.meant.specs.WhomType.TheVariants.{One, Every, Nobody}
use Rattle.meant.specs.Whom.{whom_of, typed_as}
use Rattle.meant.specs.Entries.{EntriesAre}
use Rattle.meant.specs.Cells.{entries_before, no_cell, CellsAre}
use Rattle.meant.specs.CellList.{each_at, before, before-is, cell_no, cells_at, cells-next, file-append, entries_part}
use Rattle.meant.specs.Where.{Where, at}
use Rattle.meant.specs.Group.{stepped, group_left}
use Rattle.meant.specs.GroupLaws.{quiet, quiet_stepped}
use Rattle.meant.specs.Scratch.{Holds18, Flags}
use Rattle.meant.specs.Meant.{may_touch, may_touch_lem}
use Rattle.arcrun.specs.declared.Least.{Least}
use Rattle.arcrun.specs.declared.Least.TheVariants as least
use Rattle.arcrun.specs.Run.{Ran, Of, EntriesRan, CellRan, CellsRan}
use Rattle.arcrun.specs.RunLaws.{arc_of_lem, held_same, stepped_fine, gives_is, gives_fits, ran_none, ran_one, ran_on, ran_stopped, entries_of, entries_length}

-- 1. Which instances a cell applies to

module _ (b : List ℕ) (bytes : Bytes b) (n m f : ℕ) (good : check_of b ≡ Good n m f) where
  found_of : (path : List ℕ) (c : Cell Where) → c.part ≡ part.at path → (o : Option ℕ) → find_instance b path n 12 ≡ o → Of b n m f (typed_as b c.type o) c
  unfolding typed_as
  found_of path c p None e = cell_absent b bytes n m f good c path p e
  found_of path c p (Some q) e = go (same_text (type_at b q) c.type) refl
    where
      go : (t : Bool) → same_text (type_at b q) c.type ≡ t → Of b n m f (pick t (One q) (Nobody 13)) c
      go true d = let k = cell-found b bytes n m f good c path q e in (k.0, k.1, k.2, rw k.3 p, d)
      go false d = cell_differs b bytes n m f good c path q p e d

  -- those that the search for its instance gives
  pub whom_of_lem : (text : List ℕ) (slash side : Bool) (cell : read.Cell) (is : List Item)
      → Of b n m f (whom_of b text slash n cell) (cell_of (at side) text slash cell is)
  unfolding whom_of cell_of part_at name_at
  whom_of_lem text slash side cell is = go (eqb cell.sort 2) refl
    where
      go : (t : Bool) → eqb cell.sort 2 ≡ t
          → Of b n m f (pick t Every (typed_as b (part_of text cell.typefrom cell.typeto) (find_instance b (canon slash (part_of text cell.pathfrom cell.pathto)) n 12)))
          (cell_of (at side) text slash cell is)
      go true e = rw e
      go false e = found_of (canon slash (part_of text cell.pathfrom cell.pathto)) (cell_of (at side) text slash cell is) (rw e) _ refl

-- 2. Events that give an arc nothing

-- it gives arc j nothing, and others times in range
abbrev pub Calm : ℕ → Event Slot Where → Type 0
Calm j e = ((t : Slot) → t.arc ≡ j → e.gives t ≡ nothing) × ((t : Slot) → Fits (e.gives t))

module _ (j : ℕ) (touched : Slot → Bool) where
  pub ran_calm : (now : Values) (es : List (Event Slot Where)) (event : ℕ) (st : List ℕ) → Each (Calm j) es → Holds18 st j now
      → Ran j touched now es event st least.Nothing
  unfolding group_left
  ran_calm now [] event st a h = ran_none j touched now event st h
  ran_calm now (e ∷ es) event st (a, more) h =
      ran_on j touched now (e ∷ []) es event st st least.Nothing
      (ran_one j touched now e event st (quiet (arc_slots j) touched now e (λ t l. a.0 t (arc_of_lem j t l))) then)
      (ran_calm (stepped (arc_slots j) touched now e) es (event + 1) st more then)
    where
      then : Holds18 st j (stepped (arc_slots j) touched now e)
      then =
          held_same st j now (stepped (arc_slots j) touched now e) h (λ t p. sym (quiet_stepped (arc_slots j) touched now e t (a.0 t p)))
          (stepped_fine j touched now e a.1 h.fine)

-- 3. One cell

module _ (b text : List ℕ) (slash : Bool) (n m f : ℕ) (side : Bool) where
  -- its keyword, then its entries
  pub cell-events : (cell : read.Cell) (is : List Item)
      → events (records_at b n m f) (cell_of (at side) text slash cell is)
      ≡ cell_event (records_at b n m f) (cell_of (at side) text slash cell is) ∷ entries_of b text slash n m f side (cell_of (at side) text slash cell is) is
  unfolding events cell_of
  cell-events cell is = refl

  -- as many
  pub cell-length : (cell : read.Cell) (is : List Item) → length (events (records_at b n m f) (cell_of (at side) text slash cell is)) ≡ 1 + length is
  cell-length cell is =
      let e = entries_length b text slash n m f side (cell_of (at side) text slash cell is) is in
      rw (cell-events cell is) (omega arith)

  -- a keyword changes nothing
  pub keyword : (c : Cell Where) (j : ℕ) (touched : Slot → Bool) (now : Values)
      → group_left (arc_slots j) touched now (cell_event (records_at b n m f) c ∷ []) ≡ now
  unfolding group_left cell_event
  keyword c j touched now = fun_ext (λ t. quiet_stepped (arc_slots j) touched now (cell_event (records_at b n m f) c) t refl)

  pub keyword-calm : (c : Cell Where) (j : ℕ) → Calm j (cell_event (records_at b n m f) c)
  unfolding cell_event
  keyword-calm c j = (λ t p. refl, λ t. tt)

  module _ (cells : List ℕ) (row : ℕ) (entries : List ℕ) (first q : ℕ) (flags st : List ℕ) (event : ℕ) where
    pub cell_ran : (st' : List ℕ) (whom : Whom) (r : Least) → whom_of b text slash n (cell_at cells row) ≡ whom
        → EntriesRan b text slash n m f side entries first (cell_at cells row).entries whom
        (part_of text (cell_at cells row).typefrom (cell_at cells row).typeto) q flags st st' (event + 1) r
        → CellRan b text slash n m f side cells row entries first q flags st st' event r
    unfolding cell_of
    cell_ran st' whom r e run bytes good j l d touched g cell is now x s a h =
        let c = cell_of (at side) text slash cell is in
        let v = cell-is cells row cell x s in
        let w : Of b n m f whom c = subst (λ (u : Whom). Of b n m f u c) (rw v at e) (whom_of_lem b bytes n m f good text slash side cell is) in
        let k = cell_event (records_at b n m f) c in
        let z = (rw v at run) bytes good j l d touched g c is now a refl w h in
        rw (cell-events cell is)
        (ran_on j touched now (k ∷ []) (entries_of b text slash n m f side c is) event st st' r
        (ran_calm j touched now (k ∷ []) event st (keyword-calm c j, tt) h) (rw (keyword c j touched now) z))

    -- a cell with a path that is no front part of an end of the arc
    pub cell_skipped : eqb (cell_at cells row).sort 2 ≡ false → may_touch b text slash (cell_at cells row).pathfrom (cell_at cells row).pathto q ≡ false
        → CellRan b text slash n m f side cells row entries first q flags st st event least.Nothing
    cell_skipped y z bytes good j l d touched g cell is now x s a h =
        let c = cell_of (at side) text slash cell is in
        let v = cell-is cells row cell x s in
        rw (cell-events cell is)
        (ran_calm j touched now (cell_event (records_at b n m f) c ∷ entries_of b text slash n m f side c is) event st
        (keyword-calm c j, calm bytes good j l cell is (rw v at y) (rw (v, d) at z) is a.2) h)
      where
        calm : Bytes b → check_of b ≡ Good n m f → (j : ℕ) → j < m → (cell : read.Cell) (is : List Item) → eqb cell.sort 2 ≡ false
            → may_touch b text slash cell.pathfrom cell.pathto (place b j f) ≡ false → (l : List Item) → Each SoundItem l
            → Each (Calm j) (entries_of b text slash n m f side (cell_of (at side) text slash cell is) l)
        calm bytes good j h cell is y z [] s = tt
        calm bytes good j h cell is y z (i ∷ l) s =
            let c = cell_of (at side) text slash cell is in
            let none_here = may_touch_lem b bytes n m f good text slash (at side) i cell is y j z h in (
              (λ t p. rw (gives_is b bytes n m f good text slash side j h c i t p, none_here), gives_fits b bytes n m f good text slash side j h c i s.0),
              calm bytes good j h cell is y z l s.1,
            )

-- 4. The cells of a file

drop-taken : {A : Type 0} (k : ℕ) (l : List A) → drop k (take k l) ≡ []
drop-taken zero l = refl
drop-taken (suc k) [] = refl
drop-taken (suc k) (a ∷ l) = drop-taken k l

module _ {Word : Type 0} (word : ℕ → Word) (text : List ℕ) (slash : Bool) where
  -- the first k cells
  cells-taken : (cs : List read.Cell) (is : List Item) (k : ℕ) → take k (cells_of word text slash cs is) ≡ cells_of word text slash (take k cs) is
  unfolding cells_of
  cells-taken cs is zero = refl
  cells-taken [] is (suc k) = refl
  cells-taken (c ∷ cs) is (suc k) = ap (λ l. cell_of word text slash c (take c.entries is) ∷ l) (cells-taken cs (drop c.entries is) k)

  pub cells-length : (cs : List read.Cell) (is : List Item) → length (cells_of word text slash cs is) ≡ length cs
  unfolding cells_of
  cells-length [] is = refl
  cells-length (c ∷ cs) is = ap suc (cells-length cs (drop c.entries is))

  taken-length : (cs : List read.Cell) (is : List Item) (k : ℕ) → k ≤ length cs → length (take k (cells_of word text slash cs is)) ≡ k
  taken-length cs is k h = length-take-le k (cells_of word text slash cs is) (rw (cells-length cs is) h)

  -- those number `from` up to k + 1 are those up to k and number k
  part-next : (cs : List read.Cell) (is : List Item) (from k : ℕ) → from ≤ k → k < length cs
      → drop from (take (suc k) (cells_of word text slash cs is))
      ≡ drop from (take k (cells_of word text slash cs is)) ++ (cell_no word text slash cs is k ∷ [])
  part-next cs is from k a h =
      let l = taken-length cs is k (omega arith) in
      ap (drop from) (cells-taken cs is (suc k) ∙ cells-next word text slash cs is k h ∙ rw (cells-taken cs is k))
      ∙ drop-append-le from (take k (cells_of word text slash cs is)) _ (omega arith)

  -- and those behind it
  part-at : (cs : List read.Cell) (is : List Item) (from k to : ℕ) → from ≤ k → k < to → k < length cs
      → (rest : List (Cell Word)) × (drop from (take to (cells_of word text slash cs is))
      ≡ drop from (take k (cells_of word text slash cs is)) ++ (cell_no word text slash cs is k ∷ rest))
  part-at cs is from k to a d h =
      let l = taken-length cs is k (omega arith) in
      let s = cells_at word text slash cs is k h in
      let z : k + suc (to - suc k) ≡ to = omega arith in
      let first = take k (cells_of word text slash cs is) in
      let rest = take (to - suc k) s.0 in
      let whole : take to (cells_of word text slash cs is) ≡ first ++ (cell_no word text slash cs is k ∷ rest)
      = ap (take to) (s.1 ∙ ap (λ (x : List (Cell Word)). x ++ (cell_no word text slash cs is k ∷ s.0)) (sym (cells-taken cs is k)))
      ∙ (rw (l, z) at (take-append-add first (cell_no word text slash cs is k ∷ s.0) (suc (to - suc k)))) in
      (rest, ap (drop from) whole ∙ drop-append-le from first (cell_no word text slash cs is k ∷ rest) (omega arith))

module _ (b text : List ℕ) (slash : Bool) (n m f : ℕ) (cells : List ℕ) (from to : ℕ) (entries : List ℕ) (q : ℕ) (flags st : List ℕ) (event : ℕ) where
  -- the events of the cells number `from` up to k
  abbrev pub past : List read.Cell → List Item → ℕ → List (Event Slot Where)
  past cs is k = file_events (records_at b n m f) (drop from (take k (cells_of (at false) text slash cs is)))

  -- they were run through, and the next has the number `next`
  abbrev pub CellsSoFar : ℕ → List ℕ → ℕ → Type 0
  CellsSoFar k o next =
      Bytes b → check_of b ≡ Good n m f → (j : ℕ) → j < m → q ≡ place b j f → (touched : Slot → Bool) → Flags flags j touched
      → (count : ℕ) (cs : List read.Cell) (is : List Item) (now : Values) → CellsAre cells count cs → from ≤ to → to ≤ count
      → EntriesAre entries 0 (total cs) is → Holds18 st j now
      → (next ≡ event + length (past cs is k)) × Ran j touched now (past cs is k) event o least.Nothing

  pub cells-none : CellsSoFar from st event
  unfolding file_events each
  cells-none bytes good j l d touched g count cs is now c x y a h =
      rw (drop-taken from (cells_of (at false) text slash cs is)) (sym (add-zero event), ran_none j touched now event st h)

  -- what the run of cell number k says
  one : (k : ℕ) (o o' : List ℕ) (first next : ℕ) (r : Least) → first ≡ entries_before cells k
      → CellRan b text slash n m f false cells (7 * k) entries first q flags o o' next r
      → Bytes b → check_of b ≡ Good n m f → (j : ℕ) → j < m → q ≡ place b j f → (touched : Slot → Bool) → Flags flags j touched
      → (count : ℕ) (cs : List read.Cell) (is : List Item) (now : Values) → CellsAre cells count cs → k < count
      → EntriesAre entries 0 (total cs) is → Holds18 o j now
      → Ran j touched now (events (records_at b n m f) (cell_no (at false) text slash cs is k)) next o' r
  one k o o' first next r e run bytes good j l d touched g count cs is now c y a h =
      let x : k < length cs = rw c.0 y in
      let z : first ≡ before cs k = e ∙ before-is cells count cs c k (omega arith) in
      (rw z at run) bytes good j l d touched g (get_or cs k no_cell) _ now (c.1 k y) (each_at (λ (w : read.Cell). w.sort < 256) cs no_cell c.2 k x)
      (entries_part entries cs is a k x) h

  -- and how many events it has
  one-length : (count : ℕ) (cs : List read.Cell) (is : List Item) (k : ℕ) → CellsAre cells count cs → k < count → EntriesAre entries 0 (total cs) is
      → length (events (records_at b n m f) (cell_no (at false) text slash cs is k)) ≡ 1 + get_or cells (7 * k + 6) 0
  one-length count cs is k c y a =
      let x : k < length cs = rw c.0 y in
      let r : get_or cells (7 * k + 6) 0 ≡ (get_or cs k no_cell).entries = c.1 k y 6 (omega arith) in
      cell-length b text slash n m f false (get_or cs k no_cell) _ ∙ rw ((entries_part entries cs is a k x).0, r)

  -- the events behind it
  past_next : (cs : List read.Cell) (is : List Item) (k : ℕ) → from ≤ k → k < length cs
      → past cs is (suc k) ≡ past cs is k ++ events (records_at b n m f) (cell_no (at false) text slash cs is k)
  unfolding file_events each
  past_next cs is k u x =
      ap (file_events (records_at b n m f)) (part-next (at false) text slash cs is from k u x)
      ∙ file-append (records_at b n m f) (drop from (take k (cells_of (at false) text slash cs is))) (cell_no (at false) text slash cs is k ∷ [])
      ∙ ap (λ (w : List (Event Slot Where)). past cs is k ++ w) (append-nil (events (records_at b n m f) (cell_no (at false) text slash cs is k)))

  pub past-at : (cs : List read.Cell) (is : List Item) (k : ℕ) → from ≤ k → k < to → k < length cs
      → (rest : List (Event Slot Where))
      × (past cs is to ≡ (past cs is k ++ events (records_at b n m f) (cell_no (at false) text slash cs is k)) ++ rest)
  unfolding file_events each
  past-at cs is k u v x =
      let s = part-at (at false) text slash cs is from k to u v x in
      let rest = file_events (records_at b n m f) s.0 in (
        rest,
        ap (file_events (records_at b n m f)) s.1
            ∙ file-append (records_at b n m f) (drop from (take k (cells_of (at false) text slash cs is))) (cell_no (at false) text slash cs is k ∷ s.0)
            ∙ sym (append_assoc (past cs is k) (events (records_at b n m f) (cell_no (at false) text slash cs is k)) rest),
      )

  pub cells-more : (k : ℕ) (o o' : List ℕ) (first next next' : ℕ) → from ≤ k → k < to → first ≡ entries_before cells k
      → next' ≡ next + (1 + get_or cells (7 * k + 6) 0) → CellsSoFar k o next
      → CellRan b text slash n m f false cells (7 * k) entries first q flags o o' next least.Nothing → CellsSoFar (suc k) o' next'
  cells-more k o o' first next next' u v e p so run bytes good j l d touched g count cs is now c x y a h =
      let was = so bytes good j l d touched g count cs is now c x y a h in
      let z : k < count = omega arith in
      let this : List (Event Slot Where) = events (records_at b n m f) (cell_no (at false) text slash cs is k) in
      let long = one-length count cs is k c z a in
      let both_long = length-append (past cs is k) this in
      rw (past_next cs is k u (rw c.0 z)) (
        omega (arith, was.0, long, both_long),
        ran_on j touched now (past cs is k) this event o o' least.Nothing was.1
            (one k o o' first next least.Nothing e run bytes good j l d touched g count cs is (group_left (arc_slots j) touched now (past cs is k)) c z a
            was.1.1),
      )

  pub cells-stop : (k : ℕ) (o o' : List ℕ) (first next ev x place : ℕ) (side : Bool) → from ≤ k → k < to → first ≡ entries_before cells k
      → CellsSoFar k o next
      → CellRan b text slash n m f false cells (7 * k) entries first q flags o o' next (least.Fault ev x place side)
      → CellsRan b text slash n m f cells from to entries q flags st o' event (least.Fault ev x place side)
  cells-stop k o o' first next ev num place side u v e so run bytes good j l d touched g count cs is now c x y a h =
      let was = so bytes good j l d touched g count cs is now c x y a h in
      let z : k < count = omega arith in
      let this : List (Event Slot Where) = events (records_at b n m f) (cell_no (at false) text slash cs is k) in
      let s = past-at cs is k u v (rw c.0 z) in
      let r : Least = least.Fault ev num place side in
      rw s.1
      (ran_stopped j touched now (past cs is k ++ this) s.0 event o' o' ev num place side
      (ran_on j touched now (past cs is k) this event o o' r was.1
      (rw was.0 at (one k o o' first next r e run bytes good j l d touched g count cs is (group_left (arc_slots j) touched now (past cs is k)) c z a
      was.1.1))))

  pub cells_end : (k : ℕ) (o : List ℕ) (next : ℕ) → to ≤ k → (from ≤ to → k ≤ to) → CellsSoFar k o next
      → CellsRan b text slash n m f cells from to entries q flags st o event least.Nothing
  cells_end k o next u v so bytes good j l d touched g count cs is now c x y a h =
      let w = v x in
      let z : k ≡ to = omega arith in
      rw z at (so bytes good j l d touched g count cs is now c x y a h).1
