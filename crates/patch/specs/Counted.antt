-- How many cells were read of each text, beside the answer of the patch.
-- Assumes nothing.
use Rattle.std.specs.Prelude.{ℕ, ◌≡◌, List, Result, Ok, Err}
use Rattle.grammar.specs.Machine.{Res}
use Rattle.grammar.specs.Reading.{At}
use Rattle.readcells.specs.declared.Counts.{Counts}
use Rattle.readcells.specs.Refusal.{Refusal}
use Rattle.readcells.specs.Files.{answer_of}
use Rattle.patch.specs.declared.Counted.{Counted}
use Rattle.patch.specs.Meaning.{Course, file_table, cell_table, PatchIs}

-- the cells of a text that was read; a refused one has none
abbrev pub count_of : Result Counts Refusal → ℕ
count_of (Ok counts) = counts.cells
count_of (Err why) = 0

abbrev pub cells_read : Res At → ℕ
cells_read o = count_of (answer_of o)

-- how many cells the file's table then holds, and the incoming text's
abbrev pub file_count : Course → ℕ
file_count c = file_table (λ o k. cells_read o) 0 c

abbrev pub cell_count : Course → ℕ
cell_count c = cell_table (λ o k. cells_read o) 0 c

-- THE CONTRACT of the patch that counts
abbrev pub CountedIs : (start : List ℕ) (c : Course) (u u' t t' u2 u2' t2 t2' current current' : List ℕ) → Counted → Type 0
CountedIs start c u u' t t' u2 u2' t2 t2' current current' r =
    PatchIs start c u u' t t' u2 u2' t2 t2' current current' r.answer × (r.cells ≡ file_count c) × (r.incoming ≡ cell_count c)
