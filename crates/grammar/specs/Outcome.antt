-- The outcome of reading a whole text: a file, or the one cell of a patch. This is what the public contracts cite.
-- Assumes nothing.
use Rattle.std.specs.Prelude.{Bool, false, List, [], ℕ, ltb, length, replicate}
use Rattle.classes.specs.Choice.{pick}
use Rattle.grammar.specs.Ll.{Sym}
use Rattle.grammar.specs.Machine.{Res, bad}
use Rattle.grammar.specs.Grammar.{Term, N, file, one_cell_of}
use Rattle.grammar.specs.Meaning.{Log, tidy}
use Rattle.grammar.specs.Reading.{At, reading}

abbrev pub Stack : Type 0
Stack = List (Sym Term N)

abbrev pub state : Stack → Bool → Bool → ℕ → ℕ → ℕ → Log → At
state ss o slash unit cr ir l = record { stack = ss; book = record { opened = o; slash = slash; unit = unit; cell_room = cr; item_room = ir; log = l } }

-- nothing was read: no text of the header stands anywhere, and there is neither a cell nor an entry
abbrev pub no_log : Log
no_log = tidy (replicate 14 0) [] []

-- 'text longer than 16,777,216 bytes' (1, place 0)
abbrev pub text_limit : ℕ
text_limit = 16777216

abbrev pub within-limit : List ℕ → Res At → Res At
within-limit s r = pick (ltb text_limit (length s)) (bad 1 0) r

-- a file, with room for so many cells and entries: the divider is . and, 'without it, 1 ns' (10^6 femtoseconds), until the header says otherwise
unfoldable pub read_file : ℕ → ℕ → List ℕ → Res At
read_file cr ir s = within-limit s (reading s (state file false false 6 cr ir no_log) 0)

-- 'one cell, white space and comments around it, read with the file's divider and time scale'
unfoldable pub read_cell_of : Bool → ℕ → ℕ → ℕ → List ℕ → Res At
read_cell_of slash unit cr ir s = within-limit s (reading s (state (one_cell_of slash) false slash unit cr ir no_log) 0)
