-- The slots of one arc, of which it is known only that they meet no fault before one event, and at it none with a lower number.
-- Assumes nothing.
use Rattle.std.specs.Prelude.{ℕ, suc, ◌+◌, ◌*◌, ◌<◌, ◌≤◌, ◌≡◌, Bool, List, [], ◌∷◌, ◌++◌, map, ◌⊎◌, length, get_or, take, drop}
use Rattle.std.proofs.Math.Path.{refl, ap, subst}
use Rattle.std.proofs.Common.{sym, ◌∙◌, length-append, length-take-le}
use Rattle.std.proofs.Math.Bool.{true, false}
use Rattle.std.proofs.Math.Option.{Option, none, some}
use Rattle.std.proofs.Math.Logic.{inl, inr, ⊎_elim}
use native.Mathlib.Omega.{arith}
use Rattle.std.proofs.Math.Dec.{eqb}
use borrow.Author.Tests.{eqb-false}
use Rattle.classes.specs.Choice.{pick}
use Rattle.wire.specs.Wire.{Bytes}
use Rattle.names.specs.Name.{part_of}
use Rattle.grammar.specs.declared.Cell as read
use Rattle.grammar.specs.Meaning.{Item}
use Rattle.meant.specs.Sound.{SoundItem, total}
use Rattle.sheetparts.specs.Form.{Good, check_of}
use Rattle.sheetlaws.specs.Sheet.{place}
use Rattle.views.specs.Views.{cell_at}
use Rattle.history.specs.Events.{Event}
use Rattle.history.proofs.EventLaws.{none≢some, some_inj}
use Rattle.history.specs.Faults.{Fault, later}
use Rattle.history.specs.Sheet.{Slot, Values, Cell, arc_slots, cell_event, entry_event, events, file_events}
use Rattle.meant.specs.Says.{entry_of, cell_of, cells_of}
use Rattle.meant.specs.Rows.{CellIs, cell-is}
use Rattle.meant.specs.Instances.{records_at}
use Rattle.meant.specs.WhomType.{Whom}
use Rattle.meant.specs.Whom.{whom_of}
use Rattle.meant.specs.Entries.{no_item, EntriesAre}
use Rattle.meant.specs.Cells.{entries_before, no_cell, CellsAre}
use Rattle.meant.specs.CellList.{each_at, before, before-is, cell_no, entries_part}
use Rattle.meant.specs.Where.{Where, at}
use Rattle.meant.specs.Group.{number_here, stepped, group_fault, group_left}
use Rattle.meant.specs.GroupLaws.{shifted, fault_append-none, fault_append-some}
use Rattle.meant.specs.Scratch.{Holds18, Flags}
use Rattle.arcrun.specs.Run.{entry_number, Of}
use Rattle.arcrun.specs.RunLaws.{entry-number, entries_of, events-at, entries_length, RunSoFar}
use Rattle.arcrun.specs.CellRuns.{whom_of_lem, ran_calm, cell-events, keyword, keyword-calm, past, past-at, CellsSoFar}

-- 1. What is said

-- The touched slots of arc j meet no fault among these events, the first of which has the number `event`, before event number ev, which is one of
-- them, and at it none with a number below x.
abbrev pub Late : (j : ℕ) (touched : Slot → Bool) → Values → List (Event Slot Where) → (event ev x : ℕ) → Type 0
Late j touched now es event ev x =
    (ev < event + length es)
    × ((i y : ℕ) → group_fault (arc_slots j) touched now es ≡ some (record { event = i; number = y }) → (ev < event + i) ⊎ ((ev ≡ event + i) × (x ≤ y)))

-- what is said of the entries of a cell, of a cell, and of the cells of a file, told the same as their runs
module _ (b text : List ℕ) (slash : Bool) (n m f : ℕ) where
  -- the entries of a cell
  abbrev pub EntriesLate : (side : Bool) (t : List ℕ) (first count : ℕ) → Whom → (type : List ℕ) (q : ℕ) (flags st : List ℕ) (event ev x : ℕ) → Type 0
  EntriesLate side t first count whom type q flags st event ev x =
      Bytes b → check_of b ≡ Good n m f → (j : ℕ) → j < m → q ≡ place b j f → (touched : Slot → Bool) → Flags flags j touched
      → (c : Cell Where) (is : List Item) (now : Values) → EntriesAre t first count is → c.type ≡ type → Of b n m f whom c → Holds18 st j now
      → Late j touched now (map (entry_event (records_at b n m f) c) (map (entry_of (at side) text slash) is)) event ev x

  -- one cell
  abbrev pub CellLate : (side : Bool) (cells : List ℕ) (row : ℕ) (entries : List ℕ) (first q : ℕ) (flags st : List ℕ) (event ev x : ℕ) → Type 0
  CellLate side cells row entries first q flags st event ev x =
      Bytes b → check_of b ≡ Good n m f → (j : ℕ) → j < m → q ≡ place b j f → (touched : Slot → Bool) → Flags flags j touched
      → (cell : read.Cell) (is : List Item) (now : Values) → CellIs cells row cell → cell.sort < 256 → EntriesAre entries first cell.entries is
      → Holds18 st j now → Late j touched now (events (records_at b n m f) (cell_of (at side) text slash cell is)) event ev x

  -- the file's cells number `from` up to `to`
  abbrev pub CellsLate : (cells : List ℕ) (from to : ℕ) (entries : List ℕ) (q : ℕ) (flags st : List ℕ) (event ev x : ℕ) → Type 0
  CellsLate cells from to entries q flags st event ev x =
      Bytes b → check_of b ≡ Good n m f → (j : ℕ) → j < m → q ≡ place b j f → (touched : Slot → Bool) → Flags flags j touched
      → (count : ℕ) (cs : List read.Cell) (is : List Item) (now : Values) → CellsAre cells count cs → from ≤ to → to ≤ count
      → EntriesAre entries 0 (total cs) is → Holds18 st j now
      → Late j touched now (file_events (records_at b n m f) (drop from (take to (cells_of (at false) text slash cs is)))) event ev x

-- 2. Events and more events

-- a fault behind n events was one among those behind them
shifted-some : (n : ℕ) (o : Option Fault) (i y : ℕ) → shifted n o ≡ some (record { event = i; number = y })
    → (k : ℕ) × (o ≡ some (record { event = k; number = y })) × (i ≡ n + k)
unfolding shifted
shifted-some n none i y e = absurd (none≢some e)
shifted-some n (some f) i y e =
    let q = some_inj e in
    let z : f.number ≡ y = ap (λ (w : Fault). w.number) q in
    (f.event, rw (← z), sym (ap (λ (w : Fault). w.event) q))

-- a fault one event later is not at the first
later-some : (o : Option Fault) (i y : ℕ) → later o ≡ some (record { event = i; number = y }) → 0 < i
unfolding later
later-some none i y e = absurd (none≢some e)
later-some (some f) i y e =
    let z : suc f.event ≡ i = ap (λ (w : Fault). w.event) (some_inj e) in
    omega arith

module _ (j : ℕ) (touched : Slot → Bool) where
  -- whatever follows
  pub late_append : (now : Values) (xs ys : List (Event Slot Where)) (event ev x : ℕ) → Late j touched now xs event ev x
      → Late j touched now (xs ++ ys) event ev x
  late_append now xs ys event ev x v = (
    (let a = v.0 in let z = length-append xs ys in omega arith),
    λ i y e. go i y (group_fault (arc_slots j) touched now xs) refl e,
  )
    where
      go : (i y : ℕ) (o : Option Fault) → group_fault (arc_slots j) touched now xs ≡ o
          → group_fault (arc_slots j) touched now (xs ++ ys) ≡ some (record { event = i; number = y })
          → (ev < event + i) ⊎ ((ev ≡ event + i) × (x ≤ y))
      go i y none p e =
          let s = shifted-some (length xs) _ i y (sym (fault_append-none (arc_slots j) touched now xs ys p) ∙ e) in
          let a = v.0 in
          let z : i ≡ length xs + s.0 = s.2 in
          inl (omega arith)
      go i y (some f) p e = v.1 i y (p ∙ sym (fault_append-some (arc_slots j) touched now xs ys f p) ∙ e)

  -- behind events without a fault
  pub late_on : (now : Values) (xs ys : List (Event Slot Where)) (event ev x : ℕ) → group_fault (arc_slots j) touched now xs ≡ none
      → Late j touched (group_left (arc_slots j) touched now xs) ys (event + length xs) ev x → Late j touched now (xs ++ ys) event ev x
  late_on now xs ys event ev x p v = (
    (let a = v.0 in let z = length-append xs ys in omega arith),
    λ i y e. go i y (shifted-some (length xs) _ i y (sym (fault_append-none (arc_slots j) touched now xs ys p) ∙ e)),
  )
    where
      go : (i y : ℕ)
          → ((k : ℕ) × (group_fault (arc_slots j) touched (group_left (arc_slots j) touched now xs) ys ≡ some (record { event = k; number = y }))
          × (i ≡ length xs + k)) → (ev < event + i) ⊎ ((ev ≡ event + i) × (x ≤ y))
      go i y (k, e, z) = ⊎_elim (λ a. inl (omega arith)) (λ a. let u = a.0 in inr (omega arith, a.1)) (v.1 k y e)

  -- at the first event
  pub late_here : (now : Values) (e : Event Slot Where) (rest : List (Event Slot Where)) (event x : ℕ)
      → (number_here (arc_slots j) touched now e ≡ 0) ⊎ (x ≤ number_here (arc_slots j) touched now e) → Late j touched now (e ∷ rest) event event x
  unfolding group_fault
  late_here now e rest event x h = (omega arith, λ i y p. go i y (eqb (number_here (arc_slots j) touched now e) 0) refl p)
    where
      go : (i y : ℕ) (t : Bool) → eqb (number_here (arc_slots j) touched now e) 0 ≡ t
          → pick t (later (group_fault (arc_slots j) touched (stepped (arc_slots j) touched now e) rest))
          (some (record { event = 0; number = number_here (arc_slots j) touched now e }))
          ≡ some (record { event = i; number = y }) → (event < event + i) ⊎ ((event ≡ event + i) × (x ≤ y))
      go i y true q p = let z = later-some _ i y p in inl (omega arith)
      go i y false q p =
          let r = some_inj p in
          let z : 0 ≡ i = ap (λ (w : Fault). w.event) r in
          let u : number_here (arc_slots j) touched now e ≡ y = ap (λ (w : Fault). w.number) r in
          let d = eqb-false (number_here (arc_slots j) touched now e) 0 q in
          inr (omega arith, ⊎_elim (λ a. absurd (d a)) (λ a. omega arith) h)

-- 3. The entries of a cell

module _ (b text : List ℕ) (slash : Bool) (n m f : ℕ) (side : Bool) where
  module _ (t : List ℕ) (first count : ℕ) (whom : Whom) (type : List ℕ) (q : ℕ) (flags st : List ℕ) (event : ℕ) where
    -- the first k were run through, and number k has no number or one that is not below x
    pub late_stop : (k : ℕ) (o : List ℕ) (x : ℕ) → k < count → RunSoFar b text slash n m f side t first count whom type q flags st event k o
        → (entry_number b text slash n t (28 * (first + k)) whom type q flags o ≡ 0)
        ⊎ (x ≤ entry_number b text slash n t (28 * (first + k)) whom type q flags o)
        → EntriesLate b text slash n m f side t first count whom type q flags st event (event + k) x
    late_stop k o x d so z bytes good j l e touched g c is now a ty w h =
        let v : k < length is = rw a.0 d in
        let i = get_or is k no_item in
        let s = each_at SoundItem is no_item a.2 k v in
        let was = so bytes good j l e touched g c is now a ty w h in
        let es = entries_of b text slash n m f side c (take k is) in
        let then = group_left (arc_slots j) touched now es in
        let p : length es ≡ k = entries_length b text slash n m f side c (take k is) ∙ length-take-le k is (omega arith) in
        let same = entry-number b bytes n m f good text slash side j l touched t (28 * (first + k)) i (a.1 k d) s c whom w flags g o then was.1 in
        rw (events-at b text slash n m f side c is k v)
        (late_on j touched now es _ event (event + k) x was.0
        (rw p (late_here j touched then _ (entries_of b text slash n m f side c (drop (suc k) is)) (event + k) x (rw same at (rw (e, ← ty) at z)))))

-- 4. One cell

module _ (b text : List ℕ) (slash : Bool) (n m f : ℕ) (side : Bool) where
  module _ (cells : List ℕ) (row : ℕ) (entries : List ℕ) (first q : ℕ) (flags st : List ℕ) (event : ℕ) where
    -- what its entries say
    pub cell_late : (whom : Whom) (ev x : ℕ) → whom_of b text slash n (cell_at cells row) ≡ whom
        → EntriesLate b text slash n m f side entries first (cell_at cells row).entries whom
        (part_of text (cell_at cells row).typefrom (cell_at cells row).typeto) q flags st (event + 1) ev x
        → CellLate b text slash n m f side cells row entries first q flags st event ev x
    unfolding cell_of
    cell_late whom ev num e late bytes good j l d touched g cell is now x s a h =
        let c = cell_of (at side) text slash cell is in
        let v = cell-is cells row cell x s in
        let w : Of b n m f whom c = subst (λ (u : Whom). Of b n m f u c) (rw v at e) (whom_of_lem b bytes n m f good text slash side cell is) in
        let k = cell_event (records_at b n m f) c in
        let z = (rw v at late) bytes good j l d touched g c is now a refl w h in
        rw (cell-events b text slash n m f side cell is)
        (late_on j touched now (k ∷ []) (entries_of b text slash n m f side c is) event ev num
        (ran_calm j touched now (k ∷ []) event st (keyword-calm b text slash n m f side c j, tt) h).0
        (rw (keyword b text slash n m f side c j touched now) z))

-- 5. The cells of a file

module _ (b text : List ℕ) (slash : Bool) (n m f : ℕ) (cells : List ℕ) (from to : ℕ) (entries : List ℕ) (q : ℕ) (flags st : List ℕ) (event : ℕ) where
  -- what is said of cell number k
  one_late : (k : ℕ) (o : List ℕ) (first next ev x : ℕ) → first ≡ entries_before cells k
      → CellLate b text slash n m f false cells (7 * k) entries first q flags o next ev x
      → Bytes b → check_of b ≡ Good n m f → (j : ℕ) → j < m → q ≡ place b j f → (touched : Slot → Bool) → Flags flags j touched
      → (count : ℕ) (cs : List read.Cell) (is : List Item) (now : Values) → CellsAre cells count cs → k < count
      → EntriesAre entries 0 (total cs) is → Holds18 o j now
      → Late j touched now (events (records_at b n m f) (cell_no (at false) text slash cs is k)) next ev x
  one_late k o first next ev num e late bytes good j l d touched g count cs is now c y a h =
      let x : k < length cs = rw c.0 y in
      let z : first ≡ before cs k = e ∙ before-is cells count cs c k (omega arith) in
      (rw z at late) bytes good j l d touched g (get_or cs k no_cell) _ now (c.1 k y) (each_at (λ (w : read.Cell). w.sort < 256) cs no_cell c.2 k x)
      (entries_part entries cs is a k x) h

  -- those up to number k were run through, and what is said of number k is said of all
  pub cells_late : (k : ℕ) (o : List ℕ) (first next ev x : ℕ) → from ≤ k → k < to → first ≡ entries_before cells k
      → CellsSoFar b text slash n m f cells from to entries q flags st event k o next
      → CellLate b text slash n m f false cells (7 * k) entries first q flags o next ev x
      → CellsLate b text slash n m f cells from to entries q flags st event ev x
  cells_late k o first next ev num u v e so late bytes good j l d touched g count cs is now c x y a h =
      let was = so bytes good j l d touched g count cs is now c x y a h in
      let z : k < count = omega arith in
      let es = past b text slash n m f cells from to entries q flags st event cs is k in
      let this : List (Event Slot Where) = events (records_at b n m f) (cell_no (at false) text slash cs is k) in
      let s = past-at b text slash n m f cells from to entries q flags st event cs is k u v (rw c.0 z) in
      rw s.1
      (late_append j touched now (es ++ this) s.0 event ev num
      (late_on j touched now es this event ev num was.1.0
      (rw was.0 at (one_late k o first next ev num e late bytes good j l d touched g count cs is (group_left (arc_slots j) touched now es) c z a
      was.1.1))))
