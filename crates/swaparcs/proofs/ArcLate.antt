-- One arc through the new file, of which it is known only that its fault, if it has one, is not before one event, nor at it with a lower number.
-- Assumes nothing.
use Rattle.std.specs.Prelude.{ℕ, suc, ◌+◌, ◌<◌, ◌≤◌, ◌≡◌, Bool, true, false, List, ◌++◌, ◌⊎◌, eqb, ltb, take, drop}
use Rattle.std.proofs.Math.Path.{refl}
use Rattle.std.proofs.Common.{sym, ◌∙◌, inl, inr, arith, zero-add, lt-ltb, eq-eqb, ltb-false}
use Rattle.std.proofs.Math.Option.{Option, none, some}
use Rattle.std.proofs.Math.ListN.{length}
use Rattle.classes.specs.Choice.{pick, and, or}
use Rattle.sheetparts.specs.Form.{values_at}
use Rattle.history.specs.Events.{Event, lenient}
use Rattle.history.proofs.EventLaws.{clash}
use Rattle.history.specs.Faults.{Fault}
use Rattle.history.specs.Scan.{better}
use Rattle.history.specs.BySlots.{new_events}
use Rattle.history.specs.Sheet.{Slot, Values, arc_slots, events, file_events}
use Rattle.meant.specs.Slots.{values_of, sheet_at}
use Rattle.meant.specs.Instances.{records_at}
use Rattle.meant.specs.Where.{Where}
use Rattle.meant.specs.Group.{group_fault, group_left}
use Rattle.meant.specs.GroupLaws.{left-lenient, fault_lenient}
use Rattle.meant.specs.Scratch.{scratch_start}
use Rattle.meant.specs.Own.{lenient-length}
use Rattle.arcrun.specs.declared.Least.TheVariants as least
use Rattle.arcrun.specs.Run.{CellRan, CellsRan}
use Rattle.arcrun.specs.Late.{Late, CellLate, CellsLate, late_append, late_on}
use Rattle.swaparcs.specs.declared.Swap.{Swap}
use Rattle.swaparcs.specs.Swap.{parts, comer, touched}
use Rattle.swaparcs.specs.Loops.{SwapReady, ArcLate}
use Rattle.swaparcs.proofs.ArcLaws.{long1, long2, behind_are, first_run, second_run}

-- 1. A fault that is not before another

-- a fault that does not precede, and is not preceded, is the same
same_fault : (e i ev x : ℕ) → or (ltb ev e) (and (eqb ev e) (ltb x i)) ≡ false → (ev < e) ⊎ ((ev ≡ e) × (x ≤ i)) → (e ≡ ev) × (i ≡ x)
same_fault e i ev x p (inl a) = clash (sym (rw (lt-ltb ev e a) at p))
same_fault e i ev x p (inr (a, c)) = (sym a, go (ltb ev e) (ltb x i) refl (rw (eq-eqb ev e a) at p))
  where
    go : (t u : Bool) → ltb x i ≡ u → or t (and true u) ≡ false → i ≡ x
    go true u q r = clash (sym r)
    go false true q r = clash (sym r)
    go false false q r = let z = ltb-false x i q in omega arith

-- the lesser of a late one and the one that it is held to is the latter
pub late_better : (o : Option Fault) (ev x : ℕ)
    → ((i y : ℕ) → o ≡ some (record { event = i; number = y }) → (ev < 0 + i) ⊎ ((ev ≡ 0 + i) × (x ≤ y)))
    → better o (some (record { event = ev; number = x })) ≡ some (record { event = ev; number = x })
unfolding better
late_better none ev x h = refl
late_better (some f) ev x h =
    go (or (ltb ev f.event) (and (eqb ev f.event) (ltb x f.number))) refl
    (rw (zero-add f.event) at (h f.event f.number refl))
  where
    go : (t : Bool) → or (ltb ev f.event) (and (eqb ev f.event) (ltb x f.number)) ≡ t
        → (ev < f.event) ⊎ ((ev ≡ f.event) × (x ≤ f.number))
        → pick t (some (record { event = ev; number = x })) (some f) ≡ some (record { event = ev; number = x })
    go true p a = refl
    go false p a = let s = same_fault f.event f.number ev x p a in rw (← s.0, ← s.1)

module _ (j : ℕ) (Some-of : Slot → Bool) where
  -- only what the events give counts
  late_lenient : (now : Values) (es : List (Event Slot Where)) (event ev x : ℕ) → Late j Some-of now es event ev x
      → Late j Some-of now (lenient es) event ev x
  late_lenient now es event ev x v = (
    rw (lenient-length es) v.0,
    λ i y e. v.1 i y (sym (fault_lenient (arc_slots j) Some-of now es) ∙ e),
  )

  -- behind events that are read leniently
  lenient_on : (now : Values) (xs ys : List (Event Slot Where)) (event ev x : ℕ) → group_fault (arc_slots j) Some-of now xs ≡ none
      → Late j Some-of (group_left (arc_slots j) Some-of now xs) ys (event + length xs) ev x → Late j Some-of now (lenient xs ++ ys) event ev x
  lenient_on now xs ys event ev x p v =
      late_on j Some-of now (lenient xs) ys event ev x (fault_lenient (arc_slots j) Some-of now xs ∙ p)
      (rw (left-lenient (arc_slots j) Some-of now xs, lenient-length xs) v)

-- 2. One arc

module _ (b : List ℕ) (n m f : ℕ) (file incoming : List ℕ) (slash : Bool) (cells entries cells2 entries2 : List ℕ) (swap : Swap) where
  -- known among the cells before the incoming one
  pub arc_late_before : (q : ℕ) (flags st0 : List ℕ) (ev x : ℕ) → SwapReady cells entries cells2 entries2 swap → st0 ≡ take 144 (drop (values_at b q) b)
      → CellsLate b file slash n m f cells 0 swap.outgoing entries q flags st0 0 ev x
      → ArcLate b n m f file incoming slash cells entries cells2 entries2 swap q flags ev x
  unfolding new_events
  arc_late_before q flags st0 ev x ready start late bytes good j l d g y =
      let c = g.there in
      let Some-of = touched b n m f file incoming slash g in
      let now = values_of (sheet_at b n m f) in
      let v = late bytes good j l d Some-of y swap.cells g.cs g.is now g.cells_are_of (omega arith) (omega arith) g.entries_are
      (rw (start, d) (scratch_start b bytes n m f good j l)) in
      let es1 = file_events (records_at b n m f) (parts b n m f file incoming slash g).before in
      let es2 = events (records_at b n m f) (comer b n m f file incoming slash g) in
      let es3 = file_events (records_at b n m f) (parts b n m f file incoming slash g).after in
      late_better _ ev x (late_append j Some-of now (lenient es1) (es2 ++ lenient es3) 0 ev x (late_lenient j Some-of now es1 0 ev x v)).1

  -- known in the incoming cell
  pub arc_late_own : (q : ℕ) (flags st0 st1 : List ℕ) (ev x : ℕ) → SwapReady cells entries cells2 entries2 swap
      → st0 ≡ take 144 (drop (values_at b q) b)
      → CellsRan b file slash n m f cells 0 swap.outgoing entries q flags st0 st1 0 least.Nothing
      → CellLate b incoming slash n m f true cells2 0 entries2 0 q flags st1 (swap.outgoing + swap.before) ev x
      → ArcLate b n m f file incoming slash cells entries cells2 entries2 swap q flags ev x
  unfolding new_events
  arc_late_own q flags st0 st1 ev x ready start run1 late bytes good j l d g y =
      let Some-of = touched b n m f file incoming slash g in
      let now = values_of (sheet_at b n m f) in
      let a = first_run b n m f file incoming slash cells entries cells2 entries2 swap q flags st0 st1 least.Nothing ready start run1 bytes good j l d g y in
      let es1 = file_events (records_at b n m f) (parts b n m f file incoming slash g).before in
      let es2 = events (records_at b n m f) (comer b n m f file incoming slash g) in
      let es3 = file_events (records_at b n m f) (parts b n m f file incoming slash g).after in
      let then = group_left (arc_slots j) Some-of now es1 in
      let v = late bytes good j l d Some-of y g.cell2 g.is2 then g.cell_is g.sort2 g.entries_are2 a.1 in
      let z : swap.outgoing + swap.before ≡ 0 + length es1
      = (let w = long1 b n m f file incoming slash cells entries cells2 entries2 swap ready g in omega arith) in
      late_better _ ev x
      (lenient_on j Some-of now es1 (es2 ++ lenient es3) 0 ev x a.0
      (late_append j Some-of then es2 (lenient es3) (0 + length es1) ev x (rw z at v))).1

  -- known among the cells behind it
  pub arc_late_behind : (q : ℕ) (flags st0 st1 st2 : List ℕ) (ev x : ℕ) → SwapReady cells entries cells2 entries2 swap
      → st0 ≡ take 144 (drop (values_at b q) b)
      → CellsRan b file slash n m f cells 0 swap.outgoing entries q flags st0 st1 0 least.Nothing
      → CellRan b incoming slash n m f true cells2 0 entries2 0 q flags st1 st2 (swap.outgoing + swap.before) least.Nothing
      → CellsLate b file slash n m f cells (suc swap.outgoing) swap.cells entries q flags st2
      (swap.outgoing + swap.before + 1 + swap.coming) ev x
      → ArcLate b n m f file incoming slash cells entries cells2 entries2 swap q flags ev x
  unfolding new_events
  arc_late_behind q flags st0 st1 st2 ev x ready start run1 run2 late bytes good j l d g y =
      let Some-of = touched b n m f file incoming slash g in
      let now = values_of (sheet_at b n m f) in
      let a = first_run b n m f file incoming slash cells entries cells2 entries2 swap q flags st0 st1 least.Nothing ready start run1 bytes good j l d g y in
      let c = second_run b n m f file incoming slash cells entries cells2 entries2 swap q flags st0 st1 least.Nothing ready start run1 st2 least.Nothing refl
      run2 bytes good j l d g y in
      let u = g.there in
      let es1 = file_events (records_at b n m f) (parts b n m f file incoming slash g).before in
      let es2 = events (records_at b n m f) (comer b n m f file incoming slash g) in
      let es3 = file_events (records_at b n m f) (parts b n m f file incoming slash g).after in
      let then = group_left (arc_slots j) Some-of now es1 in
      let behind = group_left (arc_slots j) Some-of then es2 in
      let h = late bytes good j l d Some-of y swap.cells g.cs g.is behind g.cells_are_of (omega arith) (omega arith) g.entries_are c.1 in
      let v = rw (behind_are b n m f file incoming slash cells entries cells2 entries2 swap ready g) at h in
      let z : swap.outgoing + swap.before + 1 + swap.coming ≡ 0 + length es1 + length es2
      = (let w = long1 b n m f file incoming slash cells entries cells2 entries2 swap ready g in
      let w2 = long2 b n m f file incoming slash cells entries cells2 entries2 swap ready g in omega arith) in
      late_better _ ev x
      (lenient_on j Some-of now es1 (es2 ++ lenient es3) 0 ev x a.0
      (late_on j Some-of then es2 (lenient es3) (0 + length es1) ev x c.0
      (late_lenient j Some-of behind es3 (0 + length es1 + length es2) ev x (rw z at v)))).1
