-- What the functions of the swap are asked and say of the arcs: the contracts of its loops.
-- Assumes nothing.
use Rattle.std.specs.Prelude.{ℕ, zero, suc, ◌+◌, ◌*◌, ◌<◌, ◌≤◌, ◌≡◌, Bool, true, false, not, List, eqb, ltb, length, get_or, replicate}
use Rattle.std.proofs.Math.Option.{none, some}
use Rattle.classes.specs.Choice.{pick, and, or}
use Rattle.wire.specs.Wire.{Bytes}
use Rattle.sheetparts.specs.Form.{Good, check_of}
use Rattle.sheetlaws.specs.Sheet.{place}
use Rattle.history.specs.Scan.{better, own_fault}
use Rattle.history.specs.Sheet.{Values, arc_slots}
use Rattle.meant.specs.Slots.{values_of, spelled, sheet_at}
use Rattle.meant.specs.WhomType.{Whom}
use Rattle.meant.specs.Cells.{entries_before}
use Rattle.meant.specs.Group.{group_fault, group_left, least_fault}
use Rattle.meant.specs.Scratch.{Holds18, Flags}
use Rattle.arcrun.specs.declared.Least.{Least}
use Rattle.arcrun.specs.declared.Least.TheVariants as least
use Rattle.meant.specs.Touch.{entries_touched}
use Rattle.arcrun.specs.Run.{Of}
use Rattle.swaparcs.specs.declared.Swap.{Swap}
use Rattle.swaparcs.specs.Swap.{Given, parts, comer, news, touched, LeastIs, written_up_to}

-- one of the first k flags is set
unfoldable pub any_set : List ℕ → ℕ → Bool
any_set flags zero = false
any_set flags (suc k) = or (any_set flags k) (not (eqb (get_or flags k 0) 0))

-- the lesser of two faults, by event and then by number; the first, if they are equal
abbrev pub better_of : Least → Least → Least
better_of least.Nothing b = b
better_of (least.Fault e n p i) least.Nothing = least.Fault e n p i
better_of (least.Fault e n p i) (least.Fault e2 n2 p2 i2) =
    pick (or (ltb e2 e) (and (eqb e2 e) (ltb n2 n))) (least.Fault e2 n2 p2 i2) (least.Fault e n p i)

-- there is a fault
abbrev pub is_fault : Least → Bool
is_fault least.Nothing = false
is_fault (least.Fault e n p i) = true

-- the flags behind the outgoing and the incoming cell
abbrev pub both_touched : (b file incoming : List ℕ) (slash : Bool) (n : ℕ) (t : List ℕ) (first count : ℕ) → Whom → (type t2 : List ℕ) (count2 : ℕ) → Whom
    → (type2 : List ℕ) (q : ℕ) → List ℕ → List ℕ
both_touched b file incoming slash n t first count whom type t2 count2 whom2 type2 q flags =
    entries_touched b incoming slash n t2 0 whom2 type2 q (entries_touched b file slash n t first whom type q flags count) count2

-- what the tables have room for, and what the swap's numbers are
pub record SwapReady (cells entries cells2 entries2 : List ℕ) (swap : Swap) : Type 0 where
  pub room : 7 * swap.cells ≤ length cells
  pub entries_room : 28 * entries_before cells swap.cells ≤ length entries
  pub there : swap.outgoing < swap.cells
  pub before : swap.before ≡ entries_before cells swap.outgoing
  pub leaving : swap.leaving ≡ get_or cells (7 * swap.outgoing + 6) 0
  pub room2 : 7 ≤ length cells2
  pub coming : swap.coming ≡ get_or cells2 6 0
  pub entries_room2 : 28 * swap.coming ≤ length entries2

module _ (b : List ℕ) (n m f : ℕ) (file incoming : List ℕ) (slash : Bool) (cells entries cells2 entries2 : List ℕ) (swap : Swap) where
  -- one arc, the 18 values of which started from the starting sheet
  abbrev pub ArcRan : (q : ℕ) (flags st' : List ℕ) → Least → Type 0
  ArcRan q flags st' r =
      Bytes b → check_of b ≡ Good n m f → (j : ℕ) → j < m → q ≡ place b j f
      → (g : Given cells entries cells2 entries2 swap.cells swap.outgoing) → Flags flags j (touched b n m f file incoming slash g)
      → (LeastIs b n m f file incoming slash g
      (group_fault (arc_slots j) (touched b n m f file incoming slash g) (values_of (sheet_at b n m f)) (news b n m f file incoming slash g)) r)
      × (r ≡ least.Nothing → Holds18 st' j
      (group_left (arc_slots j) (touched b n m f file incoming slash g) (values_of (sheet_at b n m f)) (news b n m f file incoming slash g)))

  -- the fault of the arc at q, if it has one, is not before event number ev with the number x
  abbrev pub ArcLate : (q : ℕ) (flags : List ℕ) (ev x : ℕ) → Type 0
  ArcLate q flags ev x =
      Bytes b → check_of b ≡ Good n m f → (j : ℕ) → j < m → q ≡ place b j f
      → (g : Given cells entries cells2 entries2 swap.cells swap.outgoing) → Flags flags j (touched b n m f file incoming slash g)
      → better (group_fault (arc_slots j) (touched b n m f file incoming slash g) (values_of (sheet_at b n m f)) (news b n m f file incoming slash g))
      (some (record { event = ev; number = x })) ≡ some (record { event = ev; number = x })

  module _ (leaver : Whom) (type : List ℕ) (newcomer : Whom) (type2 : List ℕ) where
    -- the flags of the arc at q: no slot's yet, then those that either cell touches
    abbrev pub flags_at : ℕ → List ℕ
    flags_at q =
        both_touched b file incoming slash n entries swap.before swap.leaving leaver type entries2 swap.coming newcomer type2 q (replicate 18 0)

  -- the outgoing and the incoming cell apply to these instances
  abbrev pub Movers : (g : Given cells entries cells2 entries2 swap.cells swap.outgoing) (leaver : Whom) (type : List ℕ) (newcomer : Whom) (type2 : List ℕ)
      → Type 0
  Movers g leaver type newcomer type2 =
      ((parts b n m f file incoming slash g).one.type ≡ type) × (Of b n m f leaver (parts b n m f file incoming slash g).one)
      × ((comer b n m f file incoming slash g).type ≡ type2) × (Of b n m f newcomer (comer b n m f file incoming slash g))

  -- all arcs: the least fault of all touched slots and of what the records refuse of the incoming cell
  abbrev pub ArcsRan : (leaver : Whom) (type : List ℕ) (newcomer : Whom) (type2 : List ℕ) → Least → Least → Type 0
  ArcsRan leaver type newcomer type2 own r =
      Bytes b → check_of b ≡ Good n m f → (g : Given cells entries cells2 entries2 swap.cells swap.outgoing) → Movers g leaver type newcomer type2
      → LeastIs b n m f file incoming slash g (own_fault (news b n m f file incoming slash g)) own
      → LeastIs b n m f file incoming slash g
      (least_fault (λ j. group_fault (arc_slots j) (touched b n m f file incoming slash g) (values_of (sheet_at b n m f)) (news b n m f file incoming slash g))
      (own_fault (news b n m f file incoming slash g)) m) r

  -- without a fault, the sheet with every touched slot written
  abbrev pub ArcsWritten : (leaver : Whom) (type : List ℕ) (newcomer : Whom) (type2 current current' : List ℕ) → Type 0
  ArcsWritten leaver type newcomer type2 current current' =
      Bytes b → check_of b ≡ Good n m f → (g : Given cells entries cells2 entries2 swap.cells swap.outgoing) → Movers g leaver type newcomer type2
      → ((j : ℕ) → j < m → group_fault (arc_slots j) (touched b n m f file incoming slash g) (values_of (sheet_at b n m f)) (news b n m f file incoming slash g)
      ≡ none) → (v : Values) → current ≡ spelled (sheet_at b n m f) v
      → current' ≡ spelled (sheet_at b n m f) (written_up_to b n m f file incoming slash g v m)
