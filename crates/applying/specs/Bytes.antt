-- What the program does to the bytes of a sheet for one entry: `b` is the starting sheet, in which everything is looked up, and `out` the sheet
-- that is written.
-- Assumes nothing.
use Rattle.std.specs.Prelude.{ℕ, zero, suc, Bool, false, List, eqb, Option, Some, None}
use Rattle.classes.specs.Choice.{pick, and, or}
use Rattle.names.specs.Order.{same_text}
use Rattle.names.specs.Name.{canon, full, same_name, one_below, part_of}
use Rattle.sheetparts.specs.Form.{key_at, values_at, path_at, type_at}
use Rattle.sheetlaws.specs.Sheet.{in_end, nth, place}
use Rattle.sheet.specs.Find.{wanted, find_arc}
use Rattle.grammar.specs.declared.Entry.{Entry}
use Rattle.amounts.specs.Amounts.{lesser, arc_refusal, arc_written}

-- Of the first k things: whether one passes the test, the least refusal of those that do, and the bytes when all that do have been written.
unfoldable pub some_of : (ℕ → Bool) → ℕ → Bool
some_of hit zero = false
some_of hit (suc k) = or (some_of hit k) (hit k)

unfoldable pub least_of : (ℕ → Bool) → (ℕ → ℕ) → ℕ → ℕ
least_of hit refusal zero = 0
least_of hit refusal (suc k) = pick (hit k) (lesser (least_of hit refusal k) (refusal k)) (least_of hit refusal k)

unfoldable pub written_of : (ℕ → Bool) → (ℕ → List ℕ → List ℕ) → List ℕ → ℕ → List ℕ
written_of hit write out zero = out
written_of hit write out (suc k) = pick (hit k) (write k (written_of hit write out k)) (written_of hit write out k)

-- DEVICE, the entry h of the text: the arc at q is one that it means in the instance at p
unfoldable pub device_hit : (b text : List ℕ) (slash : Bool) (h : Entry) → ℕ → ℕ → Bool
device_hit b text slash h p q =
    and (eqb (key_at b q).kind 1)
    (pick (eqb h.to1 0) (one_below (path_at b p) (key_at b q).second)
    (same_name (key_at b q).second (full (path_at b p) (canon slash (part_of text h.from1 h.to1)))))

-- any other: its arc in the instance at p, among m arcs from f on
unfoldable pub arc_of : (b text : List ℕ) (slash : Bool) (m f : ℕ) (h : Entry) → ℕ → Option ℕ
arc_of b text slash m f h p =
    find_arc b (wanted slash h.kind h.edge1 h.edge2 (path_at b p) (part_of text h.from1 h.to1) (part_of text h.from2 h.to2)) m f

-- the entry h of the text, with its expanded list, on a sheet of n instances and m arcs from f on
module _ (b text : List ℕ) (slash : Bool) (n m f : ℕ) (h : Entry) (rows : List (List ℕ)) where
  -- INCREMENT: its letter is I
  abbrev pub adds : Bool
  adds = eqb h.group 73

  -- the refusal at an arc, and the sheet with the arc's values changed
  abbrev pub refusal_on : List ℕ → ℕ → ℕ
  refusal_on out q = arc_refusal out (values_at b q) rows adds 18

  abbrev pub written_on : ℕ → List ℕ → List ℕ
  written_on q out = arc_written out (values_at b q) rows adds 18

  unfoldable pub found_refusal : List ℕ → Option ℕ → ℕ
  found_refusal out (Some q) = refusal_on out q
  found_refusal out None = 14

  unfoldable pub found_written : List ℕ → Option ℕ → List ℕ
  found_written out (Some q) = written_on q out
  found_written out None = out

  unfoldable pub device_refusal : List ℕ → ℕ → ℕ
  device_refusal out p =
      pick (some_of (λ k. device_hit b text slash h p (place b k f)) m)
      (least_of (λ k. device_hit b text slash h p (place b k f)) (λ k. refusal_on out (place b k f)) m) 14

  unfoldable pub device_written : List ℕ → ℕ → List ℕ
  device_written out p = written_of (λ k. device_hit b text slash h p (place b k f)) (λ k. written_on (place b k f)) out m

  -- in the instance at p
  unfoldable pub refusal_in : List ℕ → ℕ → ℕ
  refusal_in out p = pick (eqb h.kind 4) (device_refusal out p) (found_refusal out (arc_of b text slash m f h p))

  unfoldable pub written_in : List ℕ → ℕ → List ℕ
  written_in out p = pick (eqb h.kind 4) (device_written out p) (found_written out (arc_of b text slash m f h p))

  -- in every instance of a type
  abbrev pub instance_at : ℕ → ℕ
  instance_at k = nth (in_end b) k 12

  abbrev pub of_type : List ℕ → ℕ → Bool
  of_type type k = same_text (type_at b (instance_at k)) type

  unfoldable pub refusal_every : List ℕ → List ℕ → ℕ
  refusal_every out type = least_of (of_type type) (λ k. refusal_in out (instance_at k)) n

  unfoldable pub written_every : List ℕ → List ℕ → List ℕ
  written_every out type = written_of (of_type type) (λ k o. written_in o (instance_at k)) out n

  -- first decide, then write: an entry that is refused writes nothing
  unfoldable pub applied_in : List ℕ → ℕ → List ℕ
  applied_in out p = pick (eqb (refusal_in out p) 0) (written_in out p) out

  unfoldable pub applied_every : List ℕ → List ℕ → List ℕ
  applied_every out type = pick (eqb (refusal_every out type) 0) (written_every out type) out
