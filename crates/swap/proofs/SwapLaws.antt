-- From the loops over arcs to the whole swap: its answer and its sheet are those of patching.
-- Assumes nothing.
use Rattle.std.specs.Prelude.{ℕ, zero, suc, ◌*◌, ◌<◌, ◌≡◌, Bool, List, [], ◌∷◌, ◌++◌, ltb, length, take, drop}
use Rattle.std.proofs.Math.Path.{refl}
use Rattle.std.proofs.Common.{sym, ap, ◌∙◌, arith, length-take-le, lt-ltb, ltb-true, ltb-false}
use Rattle.std.proofs.Math.Bool.{true, false}
use Rattle.std.proofs.Math.Option.{Option, none, some}
use Rattle.std.proofs.Math.ListN.{get_or}
use Rattle.classes.specs.Choice.{pick}
use Rattle.names.specs.Name.{part_of}
use Rattle.wire.specs.Wire.{Bytes}
use Rattle.grammar.specs.declared.Cell as read
use Rattle.sheetparts.specs.Form.{Good, check_of}
use Rattle.views.specs.Views.{cell_at}
use Rattle.history.specs.Events.{holds, final, history}
use Rattle.history.proofs.EventLaws.{none≢some}
use Rattle.history.specs.Faults.{Fault}
use Rattle.history.specs.Scan.{better, precedes, own_fault}
use Rattle.history.proofs.Scan.{word_answer, fault_answer}
use Rattle.history.specs.Sheet.{Values, arc_slots, cut, behind}
use Rattle.history.specs.Sheet as history
use Rattle.history.proofs.BySlots.{patch-by-slots}
use Rattle.meant.specs.Slots.{values_of, sheet_at}
use Rattle.meant.specs.Spelled.{spelled_same}
use Rattle.meant.specs.FoundSlots.{arcs_length}
use Rattle.meant.specs.Says.{cell_of, cells_of}
use Rattle.meant.specs.Rows.{cell-is}
use Rattle.meant.specs.Instances.{records_at}
use Rattle.meant.specs.WhomType.{Whom}
use Rattle.meant.specs.Whom.{whom_of}
use Rattle.meant.specs.Cells.{no_cell}
use Rattle.meant.specs.CellList.{each_at, before, cell_no, cells_at}
use Rattle.meant.specs.Where.{at}
use Rattle.meant.specs.Group.{group_fault, least_fault}
use Rattle.meant.specs.GroupLaws.{all-scan}
use Rattle.arcrun.specs.declared.Least.{Least}
use Rattle.arcrun.specs.declared.Least.TheVariants as least
use Rattle.arcrun.specs.CellRuns.{cells-length, whom_of_lem}
use Rattle.swaparcs.specs.declared.Swap.{Swap}
use Rattle.swaparcs.specs.Swap.{Given, olds, parts, comer, news, touched, LeastIs, written_up_to}
use Rattle.swaparcs.specs.Loops.{Movers, ArcsRan, ArcsWritten}
use Rattle.seating.specs.Seating.{SwapSeated}
use Rattle.swap.specs.declared.Patched.TheVariants as patched
use Rattle.swap.specs.Swapped.{answer_by, SwapRun}

-- 1. The cut

cut_list : {A : Type 0} (x : List A) (a : A) (rest : List A)
    → cut (x ++ (a ∷ rest)) (suc (length x))
    ≡ some (record { before = take (length x) (x ++ (a ∷ rest)); one = a; after = drop (suc (length x)) (x ++ (a ∷ rest)) })
unfolding cut behind
cut_list [] a rest = refl
cut_list (y ∷ x) a rest = rw (cut_list x a rest)

cut_where : {A : Type 0} (l x : List A) (k : ℕ) (a : A) (rest : List A) → l ≡ x ++ (a ∷ rest) → length x ≡ k
    → cut l (suc k) ≡ some (record { before = take k l; one = a; after = drop (suc k) l })
cut_where l x k a rest e s = rw (e, ← s) (cut_list x a rest)

module _ (b : List ℕ) (n m f : ℕ) (file incoming : List ℕ) (slash : Bool) {cells entries cells2 entries2 : List ℕ} {count k : ℕ}
    (g : Given cells entries cells2 entries2 count k) where
  -- the cell that goes is number k + 1, from 1 on
  pub cut-is : cut (olds b n m f file incoming slash g) (suc k) ≡ some (parts b n m f file incoming slash g)
  cut-is =
      let h = g.there in
      let s = g.cells_are_of.0 in
      let l : k < length g.cs = omega (arith, h, s) in
      let w = cells_at (at false) file slash g.cs g.is k l in
      let z = cells-length (at false) file slash (take k g.cs) g.is ∙ length-take-le k g.cs (omega arith) in
      cut_where (olds b n m f file incoming slash g) (cells_of (at false) file slash (take k g.cs) g.is) k
      (cell_no (at false) file slash g.cs g.is k) w.0 w.1 z

-- 2. The least fault

better_neither : (a b : Option Fault) → better a b ≡ none → (a ≡ none) × (b ≡ none)
unfolding better
better_neither none b e = (refl, e)
better_neither (some f) none e = absurd (none≢some (sym e))
better_neither (some f) (some g) e = absurd (go (precedes g f) e)
  where
    go : (t : Bool) → pick t (some g) (some f) ≡ none → ⊥
    go true e = none≢some (sym e)
    go false e = none≢some (sym e)

-- none of all is none of each
pub least-none : (fault : ℕ → Option Fault) (best : Option Fault) (m : ℕ) → least_fault fault best m ≡ none
    → (best ≡ none) × ((j : ℕ) → j < m → fault j ≡ none)
unfolding least_fault
least-none fault best zero e = (e, λ j h. absurd (omega arith))
least-none fault best (suc m) e =
    let w = better_neither (least_fault fault best m) (fault m) e in
    let r = least-none fault best m w.0 in
    (r.0, λ j h. go j h (ltb j m) refl r w)
  where
    go : (j : ℕ) → j < suc m → (t : Bool) → ltb j m ≡ t → (best ≡ none) × ((j : ℕ) → j < m → fault j ≡ none)
        → (least_fault fault best m ≡ none) × (fault m ≡ none) → fault j ≡ none
    go j h true p r w = r.1 j (ltb-true j m p)
    go j h false p r w =
        let z = ltb-false j m p in
        let q : j ≡ m = omega arith in
        rw q w.1

module _ (b : List ℕ) (n m f : ℕ) (file incoming : List ℕ) (slash : Bool) {cells entries cells2 entries2 : List ℕ} {count k : ℕ}
    (g : Given cells entries cells2 entries2 count k) where
  -- what all arcs together find
  abbrev pub all_fault : Option Fault
  all_fault =
      least_fault (λ j. group_fault (arc_slots j) (touched b n m f file incoming slash g) (values_of (sheet_at b n m f)) (news b n m f file incoming slash g))
      (own_fault (news b n m f file incoming slash g)) m

  -- what the touched slots come to, and the others stay
  abbrev pub all_written : Values → Values
  all_written v t =
      pick (touched b n m f file incoming slash g t)
      (final (history (holds (values_of (sheet_at b n m f) t)) (news b n m f file incoming slash g) t)) (v t)

  -- patching, by the least fault of all arcs
  pub patch-by_arcs : Bytes b → check_of b ≡ Good n m f → (v : Values)
      → history.patch (records_at b n m f) (values_of (sheet_at b n m f)) (olds b n m f file incoming slash g) (suc k) (at false 0)
      (comer b n m f file incoming slash g) v
      ≡ fault_answer (news b n m f file incoming slash g) (all_written v) all_fault
  patch-by_arcs bytes good v =
      patch-by-slots (records_at b n m f) (values_of (sheet_at b n m f)) (olds b n m f file incoming slash g) (suc k) (at false 0)
      (comer b n m f file incoming slash g) v (parts b n m f file incoming slash g) (cut-is b n m f file incoming slash g)
      ∙ ap (fault_answer (news b n m f file incoming slash g) (all_written v))
      (all-scan (records_at b n m f) (touched b n m f file incoming slash g) (values_of (sheet_at b n m f)) (news b n m f file incoming slash g)
      (own_fault (news b n m f file incoming slash g))
      ∙ rw (arcs_length b bytes n m f good))

-- 3. The swap

module _ (b : List ℕ) (n m f : ℕ) (file incoming : List ℕ) (slash : Bool) (cells entries cells2 entries2 : List ℕ) (swap : Swap) where
  -- what the loops were told of: the movers, and what the records refuse of the incoming cell
  abbrev pub MoversAre : (leaver : Whom) (type : List ℕ) (newcomer : Whom) (type2 : List ℕ) → Type 0
  MoversAre leaver type newcomer type2 =
      Bytes b → check_of b ≡ Good n m f → (g : Given cells entries cells2 entries2 swap.cells swap.outgoing)
      → Movers b n m f file incoming slash cells entries cells2 entries2 swap g leaver type newcomer type2

  abbrev pub OwnLeast : Least → Type 0
  OwnLeast own =
      Bytes b → check_of b ≡ Good n m f → (g : Given cells entries cells2 entries2 swap.cells swap.outgoing)
      → LeastIs b n m f file incoming slash g (own_fault (news b n m f file incoming slash g)) own

  module _ (leaver : Whom) (type : List ℕ) (newcomer : Whom) (type2 : List ℕ) (own : Least) (movers : MoversAre leaver type newcomer type2)
      (owns : OwnLeast own) where
    -- the least fault refuses, and the current sheet is kept
    pub swap_refused : (e x place : ℕ) (side : Bool) (current : List ℕ)
        → ArcsRan b n m f file incoming slash cells entries cells2 entries2 swap leaver type newcomer type2 own (least.Fault e x place side)
        → SwapRun b n m f file incoming slash cells entries cells2 entries2 swap current current (patched.Refused x place side)
    unfolding fault_answer word_answer
    swap_refused e x place side current ran bytes good g v c =
        let w = ran bytes good g (movers bytes good g) (owns bytes good g) in
        rw (patch-by_arcs b n m f file incoming slash g bytes good v, w.0, w.1.1, w.1.2) (refl, refl)

    -- without a fault the touched slots are written
    pub swap_done : (current current' : List ℕ)
        → ArcsRan b n m f file incoming slash cells entries cells2 entries2 swap leaver type newcomer type2 own least.Nothing
        → ArcsWritten b n m f file incoming slash cells entries cells2 entries2 swap leaver type newcomer type2 current current'
        → SwapRun b n m f file incoming slash cells entries cells2 entries2 swap current current' patched.Done
    unfolding fault_answer word_answer
    swap_done current current' ran written bytes good g v c =
        let w = ran bytes good g (movers bytes good g) (owns bytes good g) in
        let r = least-none _ _ m w in
        let o = written bytes good g (movers bytes good g) r.1 v c in
        rw (patch-by_arcs b n m f file incoming slash g bytes good v, w) (
          refl,
          o ∙ spelled_same b bytes n m f good
              (written_up_to b n m f file incoming slash g v m) (all_written b n m f file incoming slash g v)
              (λ t h. rw (lt-ltb t.arc m h)),
        )

  -- whom the search for their instances gives
  pub movers : MoversAre (whom_of b file slash n (cell_at cells (7 * swap.outgoing)))
      (part_of file (cell_at cells (7 * swap.outgoing)).typefrom (cell_at cells (7 * swap.outgoing)).typeto)
      (whom_of b incoming slash n (cell_at cells2 0)) (part_of incoming (cell_at cells2 0).typefrom (cell_at cells2 0).typeto)
  unfolding cell_of
  movers bytes good g =
      let k = swap.outgoing in
      let h = g.there in
      let s = g.cells_are_of.0 in
      let one = get_or g.cs k no_cell in
      let z = each_at (λ (c : read.Cell). c.sort < 256) g.cs no_cell g.cells_are_of.2 k (omega (arith, h, s)) in
      let x = cell-is cells (7 * k) one (g.cells_are_of.1 k h) z in
      let y = cell-is cells2 0 g.cell2 g.cell_is g.sort2 in
      rw (x, y) (
        refl,
        whom_of_lem b bytes n m f good file slash false one (take one.entries (drop (before g.cs k) g.is)),
        refl,
        whom_of_lem b bytes n m f good incoming slash true g.cell2 g.is2,
      )

-- 4. Refused or done, by the least fault

module _ (b : List ℕ) (n m f : ℕ) (file incoming : List ℕ) (slash : Bool) (cells entries cells2 entries2 : List ℕ) (swap : Swap)
    (leaver : Whom) (type : List ℕ) (newcomer : Whom) (type2 : List ℕ) (own : Least)
    (move : MoversAre b n m f file incoming slash cells entries cells2 entries2 swap leaver type newcomer type2)
    (owns : OwnLeast b n m f file incoming slash cells entries cells2 entries2 swap own) (current : List ℕ) where
  pub swap_answered : (r : Least) (current' : List ℕ)
      → SwapSeated b n m f file incoming slash cells entries cells2 entries2 swap leaver type newcomer type2 own current current' r
      → SwapRun b n m f file incoming slash cells entries cells2 entries2 swap current current' (answer_by r)
  swap_answered least.Nothing current' w =
      swap_done b n m f file incoming slash cells entries cells2 entries2 swap leaver type newcomer type2 own move owns current current' w.0 w.1
  swap_answered (least.Fault ev x p i) current' w =
      rw w.1
      (swap_refused b n m f file incoming slash cells entries cells2 entries2 swap leaver type newcomer type2 own move owns ev x p i current w.0)
