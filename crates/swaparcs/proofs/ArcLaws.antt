-- The arcs of a sheet, one after the other, through the new file: the least fault of all, and what is written without one.
-- Assumes nothing.
use Rattle.std.specs.Prelude.{ℕ, zero, suc, ◌+◌, ◌<◌, ◌≤◌, ◌≡◌, refl, Bool, not, eqb, ltb, length, get_or, take, drop, replicate}
use Rattle.std.proofs.Common.{sym, ap, ◌∙◌, arith, zero-add, take_all, eqb-true, ltb-true, ltb-false, lt-ltb, le-ltb}
use Rattle.std.proofs.Math.Bool.{true, false}
use mathlib.Core.List.{List, [], ◌∷◌, ◌++◌, map, Memᴰ}
use Rattle.std.proofs.Math.Option.{Option, none, some}
use Rattle.std.proofs.lemmas.Bool.{eqb-false}
use Rattle.classes.specs.Choice.{pick, and, or}
use Rattle.wire.specs.Wire.{Bytes}
use Rattle.sheetparts.specs.Form.{Good, check_of, values_at}
use Rattle.sheetlaws.specs.Sheet.{place}
use Rattle.history.specs.Events.{Event, holds, final, history, lenient}
use Rattle.history.proofs.EventLaws.{clash, none≢some}
use Rattle.history.specs.Faults.{Fault}
use Rattle.history.specs.Scan.{better, own_fault}
use Rattle.history.specs.BySlots.{new_events}
use Rattle.history.specs.Sheet.{Slot, Values, arc_slots, events, file_events}
use Rattle.meant.specs.Slots.{slot_number, slot_at, values_of, spelled, sheet_at}
use Rattle.meant.specs.Numbers.{slot_at_lem, slot_below, slots_at, slots_length}
use Rattle.meant.specs.Spelled.{spelled_same}
use Rattle.meant.specs.Instances.{records_at}
use Rattle.meant.specs.WhomType.{Whom}
use Rattle.meant.specs.Cells.{no_cell}
use Rattle.meant.specs.CellList.{before, before-is, entries_part}
use Rattle.meant.specs.Where.{Where, at}
use Rattle.meant.specs.Group.{group_fault, group_left, least_fault}
use Rattle.meant.specs.GroupLaws.{better-nothing, shifted, left-append, fault_append-none, fault_append-some, left-lenient, fault_lenient, group_none, group_holds}
use Rattle.meant.specs.Scratch.{Holds18, Flags, scratch_start, back_written, back_written_lem}
use Rattle.meant.specs.Own.{lenient-length, word_before, word_own, word_behind}
use Rattle.arcrun.specs.declared.Least.{Least}
use Rattle.arcrun.specs.declared.Least.TheVariants as least
use Rattle.arcrun.specs.Run.{Ran, CellRan, CellsRan}
use Rattle.arcrun.specs.RunLaws.{arc_of_lem}
use Rattle.arcrun.specs.CellRuns.{cells-length, cell-length}
use Rattle.arcrun.specs.TouchLaws.{both-touched, length-file}
use Rattle.swaparcs.specs.declared.Swap.{Swap}
use Rattle.swaparcs.specs.Swap.{Given, olds, parts, comer, news, touched, LeastIs, written_up_to}
use Rattle.swaparcs.specs.Loops.{any_set, better_of, both_touched, SwapReady, ArcRan, Movers, flags_at, ArcsRan, ArcsWritten}

-- 1. The lesser of two faults

module _ (b : List ℕ) (n m f : ℕ) (file incoming : List ℕ) (slash : Bool) {cells entries cells2 entries2 : List ℕ} {count k : ℕ}
    (g : Given cells entries cells2 entries2 count k) where
  pub better-is : (o o2 : Option Fault) (a a2 : Least) → LeastIs b n m f file incoming slash g o a → LeastIs b n m f file incoming slash g o2 a2
      → LeastIs b n m f file incoming slash g (better o o2) (better_of a a2)
  unfolding better
  better-is o o2 least.Nothing a2 x y = rw x y
  better-is o o2 (least.Fault e i p s) least.Nothing x y = rw (y, better-nothing o) x
  better-is o o2 (least.Fault e i p s) (least.Fault e2 i2 p2 s2) x y = rw (x.0, y.0) (go (or (ltb e2 e) (and (eqb e2 e) (ltb i2 i))))
    where
      go : (t : Bool) → LeastIs b n m f file incoming slash g (pick t (some (record { event = e2; number = i2 })) (some (record { event = e; number = i })))
          (pick t (least.Fault e2 i2 p2 s2) (least.Fault e i p s))
      go true = (refl, y.1)
      go false = (refl, x.1)

-- 2. Flags

or-none : (a c : Bool) → or a c ≡ false → (a ≡ false) × (c ≡ false)
or-none true c e = clash (sym e)
or-none false c e = (refl, e)

not_none : (a : Bool) → not a ≡ false → a ≡ true
not_none true e = refl
not_none false e = clash (sym e)

-- none of the first k is set
unset : (flags : List ℕ) (k : ℕ) → any_set flags k ≡ false → (i : ℕ) → i < k → eqb (get_or flags i 0) 0 ≡ true
unfolding any_set
unset flags zero e i l = absurd (omega arith)
unset flags (suc k) e i l =
    let two : (any_set flags k ≡ false) × (not (eqb (get_or flags k 0) 0) ≡ false) = or-none (any_set flags k) _ e in
    by (eqb i k) refl (not_none _ two.1) (unset flags k two.0 i)
  where
    by : (z : Bool) → eqb i k ≡ z → eqb (get_or flags k 0) 0 ≡ true → (i < k → eqb (get_or flags i 0) 0 ≡ true) → eqb (get_or flags i 0) 0 ≡ true
    by true p last first = rw (eqb-true i k p) last
    by false p last first = let q = eqb-false i k p in first (omega arith)

-- then no slot of the arc is touched
none-touched : (flags : List ℕ) (j : ℕ) (Some-of : Slot → Bool) → Flags flags j Some-of → any_set flags 18 ≡ false → (t : Slot) → t.arc ≡ j
    → Some-of t ≡ false
none-touched flags j Some-of g e t p =
    let s : slot_at j (slot_number t) ≡ t = ap (λ i. slot_at i (slot_number t)) (sym p) ∙ slot_at_lem t in
    off (Some-of t) (sym (unset flags 18 e (slot_number t) (slot_below t)) ∙ (rw s at (g.flag (slot_number t) (slot_below t))))
  where
    off : (y : Bool) → true ≡ not y → y ≡ false
    off true q = clash (sym q)
    off false q = refl

-- and there is no fault
pub none-set : (flags : List ℕ) (j : ℕ) (Some-of : Slot → Bool) (now : Values) (es : List (Event Slot Where)) → Flags flags j Some-of
    → any_set flags 18 ≡ false → group_fault (arc_slots j) Some-of now es ≡ none
none-set flags j Some-of now es g e = group_none (arc_slots j) Some-of now es (λ t l. none-touched flags j Some-of g e t (arc_of_lem j t l))

module _ (b : List ℕ) (n m f : ℕ) (file incoming : List ℕ) (slash : Bool) (cells entries cells2 entries2 : List ℕ) (swap : Swap) where
  -- the flags of arc j are those of the slots that the outgoing or the incoming cell touches
  pub flags_both : (leaver : Whom) (type : List ℕ) (newcomer : Whom) (type2 : List ℕ) → SwapReady cells entries cells2 entries2 swap
      → Bytes b → check_of b ≡ Good n m f → (g : Given cells entries cells2 entries2 swap.cells swap.outgoing)
      → Movers b n m f file incoming slash cells entries cells2 entries2 swap g leaver type newcomer type2 → (j : ℕ) → j < m
      → Flags (both_touched b file incoming slash n entries swap.before swap.leaving leaver type entries2 swap.coming newcomer type2 (place b j f)
      (replicate 18 0)) j (touched b n m f file incoming slash g)
  flags_both leaver type newcomer type2 ready bytes good g w j l =
      let k = swap.outgoing in
      let c = g.cells_are_of in
      let h = g.there in
      let u : k < length g.cs = rw c.0 h in
      let first : swap.before ≡ before g.cs k = ready.before ∙ before-is cells swap.cells g.cs c k (omega arith) in
      let many : swap.leaving ≡ (get_or g.cs k no_cell).entries = ready.leaving ∙ c.1 k h 6 (omega arith) in
      let many2 : swap.coming ≡ g.cell2.entries = ready.coming ∙ g.cell_is 6 (omega arith) in
      rw (first, many, many2, ← w.0, ← w.2)
      (both-touched b bytes n m f good slash j l file entries (before g.cs k) (get_or g.cs k no_cell).entries leaver (get_or g.cs k no_cell) _ w.1
      (entries_part entries g.cs g.is g.entries_are k u) incoming entries2 0 g.cell2.entries newcomer g.cell2 g.is2 w.3 g.entries_are2)

-- 3. One arc

-- a fault is not nothing
fault_some : (e i p : ℕ) (s : Bool) → least.Fault e i p s ≡ least.Nothing → ⊥
fault_some e i p s q = let z : ◌≡◌ {A = ℕ} 0 1 = cc in omega arith

module _ (b : List ℕ) (n m f : ℕ) (file incoming : List ℕ) (slash : Bool) (cells entries cells2 entries2 : List ℕ) (swap : Swap) where
  -- the values of the starting sheet
  abbrev pub first_values : Values
  first_values = values_of (sheet_at b n m f)

  module _ (ready : SwapReady cells entries cells2 entries2 swap) (g : Given cells entries cells2 entries2 swap.cells swap.outgoing) where
    -- the three parts of the new file's events
    abbrev pub es1 : List (Event Slot Where)
    es1 = file_events (records_at b n m f) (parts b n m f file incoming slash g).before

    abbrev pub es2 : List (Event Slot Where)
    es2 = events (records_at b n m f) (comer b n m f file incoming slash g)

    abbrev es3 : List (Event Slot Where)
    es3 = file_events (records_at b n m f) (parts b n m f file incoming slash g).after

    -- and their lengths
    pub long1 : length es1 ≡ swap.outgoing + swap.before
    long1 =
        let c = g.cells_are_of in
        let l = g.there in
        let u : swap.outgoing ≤ length g.cs = rw c.0 (omega arith) in
        length-file (records_at b n m f) (at false) file slash g.cs g.is swap.outgoing u (sym g.entries_are.0)
        ∙ ap (λ z. swap.outgoing + z) (sym (ready.before ∙ before-is cells swap.cells g.cs c swap.outgoing (omega arith)))

    pub long2 : length es2 ≡ 1 + swap.coming
    long2 =
        let many2 : swap.coming ≡ g.cell2.entries = ready.coming ∙ g.cell_is 6 (omega arith) in
        cell-length b incoming slash n m f true g.cell2 g.is2 ∙ rw (g.entries_are2.0, many2)

    module _ (j : ℕ) (Some-of : Slot → Bool) where
      -- the new file's events come to what the parts come to
      left-news : group_left (arc_slots j) Some-of first_values (news b n m f file incoming slash g)
          ≡ group_left (arc_slots j) Some-of (group_left (arc_slots j) Some-of (group_left (arc_slots j) Some-of first_values es1) es2) es3
      unfolding new_events
      left-news =
          left-append (arc_slots j) Some-of first_values (lenient es1) (es2 ++ lenient es3)
          ∙ rw (left-lenient (arc_slots j) Some-of first_values es1, left-append (arc_slots j) Some-of (group_left (arc_slots j) Some-of first_values es1) es2 (lenient es3))
          (left-lenient (arc_slots j) Some-of (group_left (arc_slots j) Some-of (group_left (arc_slots j) Some-of first_values es1) es2) es3)

      -- a fault of the first part
      fault_1 : (x : Fault) → group_fault (arc_slots j) Some-of first_values es1 ≡ some x
          → group_fault (arc_slots j) Some-of first_values (news b n m f file incoming slash g) ≡ some x
      unfolding new_events
      fault_1 x p =
          fault_append-some (arc_slots j) Some-of first_values (lenient es1) (es2 ++ lenient es3) x (fault_lenient (arc_slots j) Some-of first_values es1 ∙ p)

      -- without one, of the second
      past_1 : group_fault (arc_slots j) Some-of first_values es1 ≡ none
          → group_fault (arc_slots j) Some-of first_values (news b n m f file incoming slash g)
          ≡ shifted (swap.outgoing + swap.before) (group_fault (arc_slots j) Some-of (group_left (arc_slots j) Some-of first_values es1) (es2 ++ lenient es3))
      unfolding new_events
      past_1 p =
          fault_append-none (arc_slots j) Some-of first_values (lenient es1) (es2 ++ lenient es3) (fault_lenient (arc_slots j) Some-of first_values es1 ∙ p)
          ∙ rw (lenient-length es1, long1, left-lenient (arc_slots j) Some-of first_values es1)

      fault_2 : (i x : ℕ) → group_fault (arc_slots j) Some-of first_values es1 ≡ none
          → group_fault (arc_slots j) Some-of (group_left (arc_slots j) Some-of first_values es1) es2 ≡ some (record { event = i; number = x })
          → group_fault (arc_slots j) Some-of first_values (news b n m f file incoming slash g)
          ≡ some (record { event = swap.outgoing + swap.before + i; number = x })
      unfolding shifted
      fault_2 i x p q =
          past_1 p ∙ rw (fault_append-some (arc_slots j) Some-of (group_left (arc_slots j) Some-of first_values es1) es2 (lenient es3) _ q)

      -- and without one there, of the third
      past_2 : group_fault (arc_slots j) Some-of first_values es1 ≡ none
          → group_fault (arc_slots j) Some-of (group_left (arc_slots j) Some-of first_values es1) es2 ≡ none
          → group_fault (arc_slots j) Some-of first_values (news b n m f file incoming slash g)
          ≡ shifted (swap.outgoing + swap.before) (shifted (1 + swap.coming)
          (group_fault (arc_slots j) Some-of (group_left (arc_slots j) Some-of (group_left (arc_slots j) Some-of first_values es1) es2) es3))
      past_2 p q =
          past_1 p
          ∙ rw (
            fault_append-none (arc_slots j) Some-of (group_left (arc_slots j) Some-of first_values es1) es2 (lenient es3) q,
            long2,
            fault_lenient (arc_slots j) Some-of (group_left (arc_slots j) Some-of (group_left (arc_slots j) Some-of first_values es1) es2) es3,
          )

    -- the cells behind are the file's last
    pub behind_are : drop (suc swap.outgoing) (take swap.cells (olds b n m f file incoming slash g)) ≡ (parts b n m f file incoming slash g).after
    behind_are =
        let z = cells-length (at false) file slash g.cs g.is in
        let c = g.cells_are_of.0 in
        ap (drop (suc swap.outgoing)) (take_all swap.cells (olds b n m f file incoming slash g) (omega arith))

  module _ (q : ℕ) (flags st0 st1 : List ℕ) (r1 : Least) (ready : SwapReady cells entries cells2 entries2 swap) (start : st0 ≡ take 144 (drop (values_at b q) b))
      (run1 : CellsRan b file slash n m f cells 0 swap.outgoing entries q flags st0 st1 0 r1) where
    -- what the first run says
    pub first_run : Bytes b → check_of b ≡ Good n m f → (j : ℕ) → j < m → q ≡ place b j f
        → (g : Given cells entries cells2 entries2 swap.cells swap.outgoing) → Flags flags j (touched b n m f file incoming slash g)
        → Ran j (touched b n m f file incoming slash g) first_values (es1 ready g) 0 st1 r1
    first_run bytes good j l d g y =
        let c = g.there in
        run1 bytes good j l d (touched b n m f file incoming slash g) y swap.cells g.cs g.is first_values g.cells_are_of (omega arith) (omega arith)
        g.entries_are (rw (start, d) (scratch_start b bytes n m f good j l))

    -- a fault before the incoming cell
    pub arc_ran_before : (ev x p : ℕ) (s : Bool) → r1 ≡ least.Fault ev x p s
        → ArcRan b n m f file incoming slash cells entries cells2 entries2 swap q flags st1 (least.Fault ev x p s)
    arc_ran_before ev x p s e bytes good j l d g y =
        let h = rw e at (first_run bytes good j l d g y) in
        let z : ev ≡ h.0 = h.1 ∙ zero-add h.0 in
        let w = word_before (records_at b n m f) (parts b n m f file incoming slash g) (comer b n m f file incoming slash g) h.0 h.3.0 h.3.1 in (
          (rw z (fault_1 ready g j (touched b n m f file incoming slash g) _ h.2), (w.0, rw z w.1, w.2 ∙ h.3.2)),
          λ k. absurd (fault_some ev x p s k),
        )

    module _ (st2 : List ℕ) (r2 : Least) (none1 : r1 ≡ least.Nothing)
        (run2 : CellRan b incoming slash n m f true cells2 0 entries2 0 q flags st1 st2 (swap.outgoing + swap.before) r2) where
      -- what the second run says
      pub second_run : Bytes b → check_of b ≡ Good n m f → (j : ℕ) → j < m → q ≡ place b j f
          → (g : Given cells entries cells2 entries2 swap.cells swap.outgoing) → Flags flags j (touched b n m f file incoming slash g)
          → Ran j (touched b n m f file incoming slash g) (group_left (arc_slots j) (touched b n m f file incoming slash g) first_values (es1 ready g)) (es2 ready g)
          (swap.outgoing + swap.before) st2 r2
      second_run bytes good j l d g y =
          let h = rw none1 at (first_run bytes good j l d g y) in
          run2 bytes good j l d (touched b n m f file incoming slash g) y g.cell2 g.is2 _ g.cell_is g.sort2 g.entries_are2 h.1

      -- a fault in it
      pub arc_ran_own : (ev x p : ℕ) (s : Bool) → r2 ≡ least.Fault ev x p s
          → ArcRan b n m f file incoming slash cells entries cells2 entries2 swap q flags st2 (least.Fault ev x p s)
      arc_ran_own ev x p s e bytes good j l d g y =
          let a = rw none1 at (first_run bytes good j l d g y) in
          let h = rw e at (second_run bytes good j l d g y) in
          let w = word_own (records_at b n m f) (parts b n m f file incoming slash g) (comer b n m f file incoming slash g) h.0 h.3.0 h.3.1 in
          let v = rw (long1 ready g) at w.1 in (
            (rw h.1 (fault_2 ready g j (touched b n m f file incoming slash g) h.0 x a.0 h.2), (w.0, rw h.1 v, w.2 ∙ h.3.2)),
            λ k. absurd (fault_some ev x p s k),
          )

      -- a fault behind it, or none at all
      pub arc_ran_behind : (st3 : List ℕ) (r3 : Least) → r2 ≡ least.Nothing
          → CellsRan b file slash n m f cells (suc swap.outgoing) swap.cells entries q flags st2 st3 (swap.outgoing + swap.before + 1 + swap.coming) r3
          → ArcRan b n m f file incoming slash cells entries cells2 entries2 swap q flags st3 r3
      unfolding shifted
      arc_ran_behind st3 r3 none2 run3 bytes good j l d g y =
          let a = rw none1 at (first_run bytes good j l d g y) in
          let c = rw none2 at (second_run bytes good j l d g y) in
          let u = g.there in
          let h = run3 bytes good j l d (touched b n m f file incoming slash g) y swap.cells g.cs g.is _ g.cells_are_of (omega arith) (omega arith)
          g.entries_are c.1 in
          by r3 a.0 c.0 (rw (behind_are ready g) at h)
        where
          now3 : Values
          now3 =
              group_left (arc_slots j) (touched b n m f file incoming slash g)
              (group_left (arc_slots j) (touched b n m f file incoming slash g) first_values (es1 ready g)) (es2 ready g)

          by : (r : Least) → group_fault (arc_slots j) (touched b n m f file incoming slash g) first_values (es1 ready g) ≡ none
              → group_fault (arc_slots j) (touched b n m f file incoming slash g)
              (group_left (arc_slots j) (touched b n m f file incoming slash g) first_values (es1 ready g)) (es2 ready g) ≡ none
              → Ran j (touched b n m f file incoming slash g) now3 (es3 ready g) (swap.outgoing + swap.before + 1 + swap.coming) st3 r
              → (LeastIs b n m f file incoming slash g
              (group_fault (arc_slots j) (touched b n m f file incoming slash g) (values_of (sheet_at b n m f)) (news b n m f file incoming slash g)) r)
              × (r ≡ least.Nothing → Holds18 st3 j
              (group_left (arc_slots j) (touched b n m f file incoming slash g) (values_of (sheet_at b n m f)) (news b n m f file incoming slash g)))
          by least.Nothing a c h = (
            past_2 ready g j (touched b n m f file incoming slash g) a c ∙ rw h.0,
            λ k. rw (left-news ready g j (touched b n m f file incoming slash g)) h.1,
          )
          by (least.Fault ev x p s) a c h =
              let z : swap.outgoing + swap.before + (1 + swap.coming + h.0) ≡ ev = (let t = h.1 in omega arith) in
              let w = word_behind (records_at b n m f) (parts b n m f file incoming slash g) (comer b n m f file incoming slash g) h.0 h.3.0 h.3.1 in
              let v = rw (long1 ready g, long2 ready g, z) at w.1 in (
                (past_2 ready g j (touched b n m f file incoming slash g) a c ∙ rw (h.2, z), (w.0, v, w.2 ∙ h.3.2)),
                λ k. absurd (fault_some ev x p s k),
              )

-- 4. All arcs

module _ (b : List ℕ) (n m f : ℕ) (file incoming : List ℕ) (slash : Bool) (cells entries cells2 entries2 : List ℕ) (swap : Swap)
    (leaver : Whom) (type : List ℕ) (newcomer : Whom) (type2 : List ℕ) where
  -- the fault of arc j
  abbrev arc_fault : Given cells entries cells2 entries2 swap.cells swap.outgoing → ℕ → Option Fault
  arc_fault g j =
      group_fault (arc_slots j) (touched b n m f file incoming slash g) (values_of (sheet_at b n m f)) (news b n m f file incoming slash g)

  -- they are those of its touched slots
  flags_at_lem : SwapReady cells entries cells2 entries2 swap → Bytes b → check_of b ≡ Good n m f
      → (g : Given cells entries cells2 entries2 swap.cells swap.outgoing)
      → Movers b n m f file incoming slash cells entries cells2 entries2 swap g leaver type newcomer type2 → (j q : ℕ) (flags : List ℕ) → j < m
      → q ≡ place b j f → flags ≡ flags_at b n m f file incoming slash cells entries cells2 entries2 swap leaver type newcomer type2 q
      → Flags flags j (touched b n m f file incoming slash g)
  flags_at_lem ready bytes good g w j q flags l d e =
      rw (e, d) (flags_both b n m f file incoming slash cells entries cells2 entries2 swap leaver type newcomer type2 ready bytes good g w j l)

  module _ (own : Least) where
    -- the least fault of the first j arcs, and of what the records refuse
    abbrev pub ArcsSoFar : ℕ → Least → Type 0
    ArcsSoFar j best =
        Bytes b → check_of b ≡ Good n m f → (g : Given cells entries cells2 entries2 swap.cells swap.outgoing)
        → Movers b n m f file incoming slash cells entries cells2 entries2 swap g leaver type newcomer type2
        → LeastIs b n m f file incoming slash g (own_fault (news b n m f file incoming slash g)) own
        → LeastIs b n m f file incoming slash g
        (least_fault (λ j. group_fault (arc_slots j) (touched b n m f file incoming slash g) (values_of (sheet_at b n m f)) (news b n m f file incoming slash g))
        (own_fault (news b n m f file incoming slash g)) j) best

    pub arcs_none : ArcsSoFar 0 own
    unfolding least_fault
    arcs_none bytes good g w o = o

    -- an arc with a touched slot
    pub arcs_more : (j q : ℕ) (flags st : List ℕ) (best fault : Least) → SwapReady cells entries cells2 entries2 swap → j < m → q ≡ place b j f
        → flags ≡ flags_at b n m f file incoming slash cells entries cells2 entries2 swap leaver type newcomer type2 q → ArcsSoFar j best
        → ArcRan b n m f file incoming slash cells entries cells2 entries2 swap q flags st fault
        → ArcsSoFar (suc j) (better_of best fault)
    unfolding least_fault
    arcs_more j q flags st best fault ready l d e so run bytes good g w o =
        better-is b n m f file incoming slash g _ _ best fault (so bytes good g w o)
        (run bytes good j l d g (flags_at_lem ready bytes good g w j q flags l d e)).0

    -- and one without
    pub arcs_pass : (j q : ℕ) (flags : List ℕ) (best : Least) → SwapReady cells entries cells2 entries2 swap → j < m → q ≡ place b j f
        → flags ≡ flags_at b n m f file incoming slash cells entries cells2 entries2 swap leaver type newcomer type2 q
        → any_set flags 18 ≡ false → ArcsSoFar j best → ArcsSoFar (suc j) best
    unfolding least_fault
    arcs_pass j q flags best ready l d e u so bytes good g w o =
        rw (
          none-set flags j (touched b n m f file incoming slash g) (values_of (sheet_at b n m f)) (news b n m f file incoming slash g)
              (flags_at_lem ready bytes good g w j q flags l d e) u,
          better-nothing (least_fault (arc_fault g) (own_fault (news b n m f file incoming slash g)) j),
        )
        (so bytes good g w o)

    pub arcs_end : (r : Least) → ArcsSoFar m r
        → ArcsRan b n m f file incoming slash cells entries cells2 entries2 swap leaver type newcomer type2 own r
    arcs_end r so = so

-- 5. What is written

mem-at : {A : Type 0} (l : List A) (i : ℕ) (d : A) → i < length l → Memᴰ (get_or l i d) l
mem-at [] i d h = absurd (omega arith)
mem-at (a ∷ l) zero d h = Memᴰ.head refl
mem-at (a ∷ l) (suc i) d h = Memᴰ.tail (mem-at l i d (omega arith))

map_same : {A : Type 0} (l : List A) → map (λ (a : A). a) l ≡ l
map_same [] = refl
map_same (a ∷ l) = ap (λ x. a ∷ x) (map_same l)

-- a slot of the arc is one of its slots
slot_in : (j : ℕ) (t : Slot) → t.arc ≡ j → Memᴰ t (arc_slots j)
slot_in j t p =
    let i = slot_number t in
    let s : slot_at j i ≡ t = ap (λ a. slot_at a i) (sym p) ∙ slot_at_lem t in
    let z : length (arc_slots j) ≡ 18 = rw (map_same (arc_slots j)) at (slots_length (λ (a : Slot). a) j) in
    let e : get_or (arc_slots j) i t ≡ t = (rw (map_same (arc_slots j)) at (slots_at (λ (a : Slot). a) j i t (slot_below t))) ∙ s in
    rw e at (mem-at (arc_slots j) i t (let y = slot_below t in omega arith))

-- a number other than j is below j + 1 if it is below j
one_more : (k j : ℕ) → (k ≡ j → ⊥) → ltb k (suc j) ≡ ltb k j
one_more k j d = by (ltb k j) refl
  where
    by : (y : Bool) → ltb k j ≡ y → ltb k (suc j) ≡ y
    by true p = let q = ltb-true k j p in lt-ltb k (suc j) (omega arith)
    by false p = let q = ltb-false k j p in le-ltb k (suc j) (omega arith)

and-false : (a : Bool) → and a false ≡ false
and-false true = refl
and-false false = refl

module _ (b : List ℕ) (n m f : ℕ) (file incoming : List ℕ) (slash : Bool) {cells entries cells2 entries2 : List ℕ} {count k : ℕ}
    (g : Given cells entries cells2 entries2 count k) (v : Values) where
  -- a slot of another arc, and one that is not touched, is as it was
  written_other : (j : ℕ) (t : Slot) → (t.arc ≡ j → ⊥)
      → written_up_to b n m f file incoming slash g v j t ≡ written_up_to b n m f file incoming slash g v (suc j) t
  written_other j t d = rw (one_more t.arc j d)

  written_untouched : (j : ℕ) (t : Slot) → touched b n m f file incoming slash g t ≡ false → written_up_to b n m f file incoming slash g v j t ≡ v t
  written_untouched j t e = rw (e, and-false (ltb t.arc j))

  -- a touched slot of the arc has its history
  written_own : (j : ℕ) (t : Slot) → t.arc ≡ j → touched b n m f file incoming slash g t ≡ true
      → written_up_to b n m f file incoming slash g v (suc j) t
      ≡ final (history (holds (values_of (sheet_at b n m f) t)) (news b n m f file incoming slash g) t)
  written_own j t p e = rw (e, lt-ltb t.arc (suc j) (omega arith))

  -- one arc more
  written_next : (j : ℕ) (left : Values)
      → ((t : Slot) → t.arc ≡ j → touched b n m f file incoming slash g t ≡ true
      → left t ≡ final (history (holds (values_of (sheet_at b n m f) t)) (news b n m f file incoming slash g) t)) → (t : Slot)
      → pick (and (eqb t.arc j) (touched b n m f file incoming slash g t)) (left t) (written_up_to b n m f file incoming slash g v j t)
      ≡ written_up_to b n m f file incoming slash g v (suc j) t
  written_next j left h t = by (eqb t.arc j) refl (touched b n m f file incoming slash g t) refl
    where
      by : (y : Bool) → eqb t.arc j ≡ y → (z : Bool) → touched b n m f file incoming slash g t ≡ z
          → pick (and y z) (left t) (written_up_to b n m f file incoming slash g v j t) ≡ written_up_to b n m f file incoming slash g v (suc j) t
      by true p true q = h t (eqb-true t.arc j p) q ∙ sym (written_own j t (eqb-true t.arc j p) q)
      by true p false q = written_untouched j t q ∙ sym (written_untouched (suc j) t q)
      by false p z q = written_other j t (eqb-false t.arc j p)

module _ (b : List ℕ) (n m f : ℕ) (file incoming : List ℕ) (slash : Bool) (cells entries cells2 entries2 : List ℕ) (swap : Swap)
    (leaver : Whom) (type : List ℕ) (newcomer : Whom) (type2 current : List ℕ) where
  -- the touched slots of the first j arcs are written
  abbrev pub WrittenSoFar : ℕ → List ℕ → Type 0
  WrittenSoFar j o =
      Bytes b → check_of b ≡ Good n m f → (g : Given cells entries cells2 entries2 swap.cells swap.outgoing)
      → Movers b n m f file incoming slash cells entries cells2 entries2 swap g leaver type newcomer type2
      → ((j : ℕ) → j < m → group_fault (arc_slots j) (touched b n m f file incoming slash g) (values_of (sheet_at b n m f)) (news b n m f file incoming slash g)
      ≡ none) → (v : Values) → current ≡ spelled (sheet_at b n m f) v → o ≡ spelled (sheet_at b n m f) (written_up_to b n m f file incoming slash g v j)

  pub written_none : WrittenSoFar 0 current
  written_none bytes good g w h v e = e ∙ spelled_same b bytes n m f good v _ (λ t l. rw (le-ltb t.arc 0 (omega arith)))

  -- an arc with a touched slot: the scratch holds what its slots come to
  pub written-more : (j q : ℕ) (flags st o o' : List ℕ) (r : Least) → SwapReady cells entries cells2 entries2 swap → j < m → q ≡ place b j f
      → flags ≡ flags_at b n m f file incoming slash cells entries cells2 entries2 swap leaver type newcomer type2 q → WrittenSoFar j o
      → ArcRan b n m f file incoming slash cells entries cells2 entries2 swap q flags st r → o' ≡ back_written o (values_at b q) st flags 18
      → WrittenSoFar (suc j) o'
  written-more j q flags st o o' r ready l d e so run c bytes good g w h v s =
      let y = flags_at_lem b n m f file incoming slash cells entries cells2 entries2 swap leaver type newcomer type2 ready bytes good g w j q flags l d e in
      let a = run bytes good j l d g y in
      let z = a.1 (nothing r a.0) in
      c ∙ rw d (back_written_lem b bytes n m f good z y l (written_up_to b n m f file incoming slash g v j) o (so bytes good g w h v s))
      ∙ spelled_same b bytes n m f good _ _ (λ t k. written_next b n m f file incoming slash g v j _
      (λ u p x. group_holds (arc_slots j) (touched b n m f file incoming slash g) (values_of (sheet_at b n m f)) (news b n m f file incoming slash g) u
      (slot_in j u p) x (h j l)) t)
    where
      -- no fault is found, since there is none
      nothing : (r : Least)
          → LeastIs b n m f file incoming slash g
          (group_fault (arc_slots j) (touched b n m f file incoming slash g) (values_of (sheet_at b n m f)) (news b n m f file incoming slash g)) r
          → r ≡ least.Nothing
      nothing least.Nothing x = refl
      nothing (least.Fault ev i p t) x = absurd (none≢some (sym (h j l) ∙ x.0))

  -- and one without
  pub written_pass : (j q : ℕ) (flags o : List ℕ) → SwapReady cells entries cells2 entries2 swap → j < m → q ≡ place b j f
      → flags ≡ flags_at b n m f file incoming slash cells entries cells2 entries2 swap leaver type newcomer type2 q → any_set flags 18 ≡ false
      → WrittenSoFar j o → WrittenSoFar (suc j) o
  written_pass j q flags o ready l d e u so bytes good g w h v s =
      let y = flags_at_lem b n m f file incoming slash cells entries cells2 entries2 swap leaver type newcomer type2 ready bytes good g w j q flags l d e in
      so bytes good g w h v s
      ∙ spelled_same b bytes n m f good _ _ (λ t k. by y t (eqb t.arc j) refl)
    where
      by : Flags flags j (touched b n m f file incoming slash g) → (t : Slot) (x : Bool) → eqb t.arc j ≡ x
          → written_up_to b n m f file incoming slash g v j t ≡ written_up_to b n m f file incoming slash g v (suc j) t
      by y t true p =
          let a = none-touched flags j (touched b n m f file incoming slash g) y u t (eqb-true t.arc j p) in
          written_untouched b n m f file incoming slash g v j t a ∙ sym (written_untouched b n m f file incoming slash g v (suc j) t a)
      by y t false p = written_other b n m f file incoming slash g v j t (eqb-false t.arc j p)

  pub written_end : (o : List ℕ) → WrittenSoFar m o
      → ArcsWritten b n m f file incoming slash cells entries cells2 entries2 swap leaver type newcomer type2 current o
  written_end o so = so
