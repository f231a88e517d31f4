-- What a text that was read says, as cells and entries of a history: names in canonical form, and the word of a refusal by its place.
-- Assumes nothing.
use Rattle.std.specs.Prelude.{ℕ, Bool, List, [], ◌∷◌, map, eqb, take, drop}
use Rattle.std.proofs.Math.Option.{none, some}
use Rattle.classes.specs.Choice.{pick, and}
use Rattle.names.specs.Name.{canon, part_of}
use Rattle.sheetparts.specs.Form.{one_end}
use Rattle.grammar.specs.declared.Cell as read
use Rattle.grammar.specs.Meaning.{Item}
use Rattle.amounts.specs.Expand.{triple_of}
use Rattle.history.specs.Sheet.{Group, absolute, increment, check, Entry, Part, at, every, Cell, device}

-- 'group (A, I or T)': the letter's byte
unfoldable pub group_of : ℕ → Group
group_of g = pick (eqb g 73) increment (pick (eqb g 84) check absolute)

module _ {Word : Type 0} (word : ℕ → Word) (text : List ℕ) (slash : Bool) where
  -- a name of the text, its divider turned into `.`
  unfoldable pub name_at : ℕ → ℕ → List ℕ
  name_at from to = canon slash (part_of text from to)

  -- 'DEVICE's port is optional'; PORT, WIDTH and PERIOD have no second end, and DEVICE has none either
  unfoldable pub entry_of : Item → Entry Word
  entry_of i =
      let h = i.head in
      record {
        word = word h.place;
        kind = h.kind;
        group = group_of h.group;
        first = record { edge = h.edge1; name = pick (and (eqb h.kind device) (eqb h.to1 0)) none (some (name_at h.from1 h.to1)) };
        second = record { edge = h.edge2; name = pick (one_end h.kind) none (some (name_at h.from2 h.to2)) };
        values = map triple_of i.values;
      }

  -- '`*`', or a path; at the top level it is empty
  unfoldable pub part_at : read.Cell → Part
  part_at c = pick (eqb c.sort 2) every (at (name_at c.pathfrom c.pathto))

  unfoldable pub cell_of : read.Cell → List Item → Cell Word
  cell_of c l =
      record { word = word c.place; type = part_of text c.typefrom c.typeto; part = part_at c; entries = map entry_of l }

  -- each cell with its entries, which follow those of the cells before it
  unfoldable pub cells_of : List read.Cell → List Item → List (Cell Word)
  cells_of [] l = []
  cells_of (c ∷ more) l = cell_of c (take c.entries l) ∷ cells_of more (drop c.entries l)
