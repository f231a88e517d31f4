-- A sheet's records, the values of its slots, and the bytes of the sheet with other values.
-- Assumes nothing.
use Rattle.std.specs.Prelude.{ℕ, zero, suc, ◌+◌, ◌*◌, ◌/◌, ◌%◌, Bool, List, [], ◌∷◌, map, eqb, ℤ, get_or}
use Rattle.std.proofs.Math.Option.{none, some}
use Rattle.std.specs.Int.{w64}
use Rattle.std.proofs.Common.{of_z}
use Rattle.classes.specs.Choice.{pick, and}
use Rattle.sheetparts.specs.Form as form
use Rattle.sheetlaws.specs.Rule.{least}
use Rattle.sheetlaws.specs.Sheet.{Arc, Sheet, encode}
use Rattle.sheetlaws.specs.Sheet as sheet
use Rattle.history.specs.Events.{Value}
use Rattle.history.specs.Sheet.{Instance, Key, Records, Row, r01, r10, r0z, rz1, r1z, rz0, Corner, minimum, typical, maximum, Slot, Values, arc_slots}

-- an arc, all of it but its values
unfoldable pub as_key : form.Key → Key
as_key k = record { kind = k.kind; edge1 = k.edge; end1 = k.first; edge2 = k.edge2; end2 = k.second }

unfoldable pub as_instance : sheet.Instance → Instance
as_instance i = record { path = i.path; type = i.type }

-- 'the starting sheet's records': all that is on a sheet but the values
unfoldable pub records_of : Sheet → Records
records_of s = record { instances = map as_instance s.instances; arcs = map (λ (a : Arc). as_key a.key) s.arcs }

-- 'The least 64-bit number means empty'
unfoldable pub meant : ℤ → Value
meant z = pick (eqb (of_z w64 z) 9223372036854775808) none (some z)

unfoldable pub numeral : Value → ℤ
numeral none = least
numeral (some z) = z

-- the bits of a value, as on the sheet and in the tables: 'two's complement'
unfoldable pub word_of : Value → ℕ
word_of v = of_z w64 (numeral v)

-- 'The 18 values are six rows of three sets, row first': a slot's number among its arc's
unfoldable pub row_number_of : Row → ℕ
row_number_of r01 = 0
row_number_of r10 = 1
row_number_of r0z = 2
row_number_of rz1 = 3
row_number_of r1z = 4
row_number_of rz0 = 5

unfoldable pub corner_number : Corner → ℕ
corner_number minimum = 0
corner_number typical = 1
corner_number maximum = 2

unfoldable pub slot_number : Slot → ℕ
slot_number s = 3 * row_number_of s.row + corner_number s.corner

-- slot number i of arc j
unfoldable pub slot_at : ℕ → ℕ → Slot
slot_at j i =
    record {
      arc = j;
      row = get_or (r01 ∷ r10 ∷ r0z ∷ rz1 ∷ r1z ∷ rz0 ∷ []) (i / 3) rz0;
      corner = get_or (minimum ∷ typical ∷ maximum ∷ []) (i % 3) maximum;
    }

unfoldable pub same_slot : Slot → Slot → Bool
same_slot t u = and (eqb t.arc u.arc) (eqb (slot_number t) (slot_number u))

-- the values with another one in slot u
unfoldable pub put : Values → Slot → Value → Values
put v u x t = pick (same_slot t u) x (v t)

-- the values of arc j, none of them where there is no such arc
unfoldable pub arc_values : List Arc → ℕ → List ℤ
arc_values [] j = []
arc_values (a ∷ more) zero = a.values
arc_values (a ∷ more) (suc j) = arc_values more j

-- what stands in each slot of a sheet
unfoldable pub values_of : Sheet → Values
values_of s t = meant (get_or (arc_values s.arcs t.arc) (slot_number t) least)

-- the arcs from number j on, with these values
unfoldable pub arcs_with : ℕ → Values → List Arc → List Arc
arcs_with j v [] = []
arcs_with j v (a ∷ more) = record { key = a.key; values = map (λ (t : Slot). numeral (v t)) (arc_slots j) } ∷ arcs_with (suc j) v more

-- the sheet with the same records and these values
unfoldable pub with_values : Sheet → Values → Sheet
with_values s v = record { instances = s.instances; arcs = arcs_with 0 v s.arcs }

-- and its bytes
unfoldable pub spelled : Sheet → Values → List ℕ
spelled s v = encode (with_values s v)

-- what a sheet that was checked spells: n instances from place 12 on, m arcs from f on
abbrev pub sheet_at : List ℕ → ℕ → ℕ → ℕ → Sheet
sheet_at b n m f = record { instances = sheet.ins_at b n 12; arcs = sheet.arcs_at b m f }
