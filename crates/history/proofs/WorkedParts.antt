-- Worked examples of patching on work sheets, by computation.
-- Assumes nothing.
use Rattle.std.specs.Prelude.{◌≡◌, refl, List, [], ◌∷◌, ℕ, suc, ◌+◌, pos}
use Rattle.std.proofs.Math.Option.{none, some}
use Prim.Native.String.{String}
use Rattle.nameshape.specs.Shape
use Rattle.names.specs.Order
use Rattle.names.specs.Name
use Rattle.history.specs.Events
use Rattle.history.specs.Events.{refused}
use Rattle.history.specs.Faults
use Rattle.history.specs.Scan
use Rattle.history.specs.Sheet
use Rattle.history.specs.Sheet.{Records, absolute, increment, Entry, Cell, Cut, patch}
use Rattle.history.specs.BySlots
use Rattle.history.proofs.Restricted
use Rattle.history.proofs.Parts
use Rattle.history.proofs.Work.{Work, work_fault, least_fault}
use Rattle.history.specs.Worked.{all, inst, port_arc, records, all_are, port, cell}

abbrev sets : ℕ → String → ℕ → Entry ℕ
sets w name n = port w absolute name (all (pos n) ∷ [])

abbrev adds : ℕ → String → ℕ → Entry ℕ
adds w name n = port w increment name (all (pos n) ∷ [])

-- a sheet with the arcs p and q, and a work sheet for each
abbrev ports : Records
ports = records (inst "" "T" ∷ []) (port_arc "p" ∷ port_arc "q" ∷ [])

abbrev on_p : Work
on_p = record { records = records (inst "" "T" ∷ []) (port_arc "p" ∷ []); seat = λ k. k + k }

abbrev on_q : Work
on_q = record { records = records (inst "" "T" ∷ []) (port_arc "q" ∷ []); seat = λ k. suc k }

-- a file that adds to p and then to q, both of which are empty; its second cell is swapped
abbrev parts : Cut (Cell ℕ)
parts = record { before = cell 1 "T" "" (adds 2 "p" 1 ∷ adds 3 "q" 1 ∷ []) ∷ []; one = cell 4 "T" "" []; after = [] }

abbrev file : List (Cell ℕ)
file = cell 1 "T" "" (adds 2 "p" 1 ∷ adds 3 "q" 1 ∷ []) ∷ cell 4 "T" "" [] ∷ []

-- for a cell that supplies both, one whose entry lacks its arc, and one that also supplies q
abbrev supplies : Cell ℕ
supplies = cell 11 "T" "" (sets 12 "q" 5 ∷ sets 13 "p" 5 ∷ [])

abbrev lacks : Cell ℕ
lacks = cell 11 "T" "" (sets 12 "r" 5 ∷ [])

abbrev lacks_later : Cell ℕ
lacks_later = cell 11 "T" "" (sets 12 "q" 5 ∷ sets 13 "r" 5 ∷ [])

pub record Parted : Type 0 where
  -- q's first fault is at event 2, and p's at event 1: whichever part comes first, p's wins
  of_q : work_fault ports parts supplies (all_are none) on_q ≡ some (record { event = 2; number = 15 })
  least : least_fault ports parts supplies (all_are none) (on_q ∷ on_p ∷ []) ≡ some (record { event = 1; number = 15 })
  as_patch : patch ports (all_are none) file 2 0 supplies (all_are none) ≡ refused 15 2
  -- nothing is touched: the cell's own 14, at its first entry
  own_alone : least_fault ports parts lacks (all_are none) (on_q ∷ on_p ∷ []) ≡ some (record { event = 4; number = 14 })
  own_patch : patch ports (all_are none) file 2 0 lacks (all_are none) ≡ refused 14 12
  -- q is touched, and its 15 comes before the cell's own 14; p is not, and its 15 is not judged
  earlier : least_fault ports parts lacks_later (all_are none) (on_p ∷ on_q ∷ []) ≡ some (record { event = 2; number = 15 })
  earlier_patch : patch ports (all_are none) file 2 0 lacks_later (all_are none) ≡ refused 15 3

pub parted : Parted
unfolding patch Events.summed Events.step Events.next Events.final Events.fails_with Events.supplied Events.any_of Events.or_else
    Events.when Events.unless Events.history Events.supply Events.lenient Events.failing Events.number Events.outcome
    Events.affected Events.patched Events.stuck Events.judge Sheet.each Sheet.by_row_of Sheet.nth Sheet.delay_rows Sheet.check_rows Sheet.rows
    Sheet.amount Sheet.giving Sheet.end_name Sheet.ends_at Sheet.matches Sheet.part_is Sheet.applies Sheet.addresses Sheet.lacks Sheet.unapplied
    Sheet.cell_number Sheet.if_arc Sheet.given Sheet.cell_event Sheet.entry_event Sheet.events Sheet.file_events Sheet.below Sheet.arc_slots Sheet.slots_of
    Sheet.behind Sheet.cut Sheet.swapped Sheet.patch_cut Name.full Name.same_name Name.one_below Name.last_start Name.start_from Name.start_behind
    Order.cmp Order.same_text Shape.escapes Faults.later Scan.better Scan.own_here Scan.own_fault BySlots.new_events Restricted.only Restricted.restricted
    Parts.least_of Parts.fold_fault
parted = record { of_q = refl; least = refl; as_patch = refl; own_alone = refl; own_patch = refl; earlier = refl; earlier_patch = refl }
