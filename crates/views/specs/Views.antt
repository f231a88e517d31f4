-- A row of a table, as the record that it stands for (crate tables has the layout).
-- Assumes nothing.
use Rattle.std.specs.Prelude.{ℕ, ◌+◌, ◌%◌, List, get_or}
use Rattle.grammar.specs.declared.Cell.{Cell}
use Rattle.grammar.specs.declared.Entry.{Entry}

-- the cell in the 7 words from p on; a sort is a byte
unfoldable pub cell_at : List ℕ → ℕ → Cell
cell_at t p =
    record {
      place = get_or t p 0;
      typefrom = get_or t (p + 1) 0;
      typeto = get_or t (p + 2) 0;
      sort = get_or t (p + 3) 0 % 256;
      pathfrom = get_or t (p + 4) 0;
      pathto = get_or t (p + 5) 0;
      entries = get_or t (p + 6) 0;
    }

-- the entry, all of it but its values, in the 28 words from p on; kind, group and edges are bytes
unfoldable pub head_at : List ℕ → ℕ → Entry
head_at t p =
    record {
      kind = get_or t p 0 % 256;
      group = get_or t (p + 1) 0 % 256;
      place = get_or t (p + 2) 0;
      edge1 = get_or t (p + 3) 0 % 256;
      from1 = get_or t (p + 4) 0;
      to1 = get_or t (p + 5) 0;
      edge2 = get_or t (p + 6) 0 % 256;
      from2 = get_or t (p + 7) 0;
      to2 = get_or t (p + 8) 0;
    }
