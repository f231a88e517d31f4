-- A text that was read, with so many cells and entries.
-- Assumes nothing.
use Rattle.std.specs.Prelude.{ℕ, Result, Ok}
use Rattle.tokenforms.specs.declared.Refusal.{Refusal}
use Rattle.readcells.specs.declared.Counts.{Counts}

abbrev pub Read : ℕ → ℕ → Result Counts Refusal
Read n m = Ok (record { cells = n; entries = m })
