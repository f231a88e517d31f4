-- The records that the rows of a table of cells stand for (crate tables has the layout, crate views a row).
-- Assumes nothing.
use Rattle.std.specs.Prelude.{List, [], ◌∷◌, ◌++◌, ℕ, zero, suc, ◌*◌}
use Rattle.grammar.specs.declared.Cell.{Cell}
use Rattle.views.specs.Views.{cell_at}

-- what stands past the end of a slice of records: `get_or` asks for one
abbrev pub no_record : Cell
no_record = record { place = 0; typefrom = 0; typeto = 0; sort = 0; pathfrom = 0; pathto = 0; entries = 0 }

-- 'The cell list has per cell, in file order': the record of row k
abbrev pub record_of : List ℕ → ℕ → Cell
record_of t k = cell_at t (7 * k)

-- the first n of a numbered row of things
unfoldable pub first_of : {A : Type 0} → (ℕ → A) → ℕ → List A
first_of of zero = []
first_of of (suc n) = first_of of n ++ of n ∷ []

-- the records of the first n rows
abbrev pub records_of : List ℕ → ℕ → List Cell
records_of t n = first_of (record_of t) n
