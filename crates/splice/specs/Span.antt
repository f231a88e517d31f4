-- WHERE A CELL STANDS: from the bracket right before its keyword to the bracket that finishes it. A text that is read, cut there.
-- Assumes nothing.
use Rattle.std.specs.Prelude.{Bool, true, false, List, [], ◌∷◌, ℕ, ◌-◌, get_or}
use Rattle.std.proofs.Math.Option.{Option, none, some}
use Rattle.classes.specs.Choice.{pick}
use Rattle.tokens.specs.Stream.{Placed, stream}
use Rattle.grammar.specs.Ll.{Row, feeds}
use Rattle.grammar.specs.Grammar.{Note, skip, heading, type, top, named, any, finish, edged, end, plain, empty, all, whole, close, Act, note, divide, scaled, unity, joined, cell, entry, time, Term, N, alts, fits, file, one_cell_of}
use Rattle.grammar.specs.Grammar as G
use Rattle.grammar.specs.Outcome.{Stack}
use Rattle.laws.specs.Taken.{Taken, toks, opens_cell, those}
use Rattle.laws.specs.Log.{starts}
use Rattle.splice.specs.Swap.{swapped}

-- the bracket that finishes a cell
abbrev pub closes_note : Note → Bool
closes_note skip = false
closes_note (heading k) = false
closes_note type = false
closes_note top = false
closes_note named = false
closes_note any = false
closes_note finish = true
closes_note (edged i) = false
closes_note (end i) = false
closes_note (plain i) = false
closes_note G.none = false
closes_note empty = false
closes_note all = false
closes_note whole = false
closes_note close = false

abbrev pub closes_cell : Act → Bool
closes_cell (note n) = closes_note n
closes_cell (divide d) = false
closes_cell scaled = false
closes_cell unity = false
closes_cell joined = false
closes_cell cell = false
closes_cell (entry g) = false
closes_cell (time s k) = false

-- the brackets that finish the cells, in file order
abbrev pub cell_closes : List Taken → List Placed
cell_closes xs = those closes_cell xs

-- a cell's keyword is next
abbrev pub cell_next : List Taken → Bool
cell_next [] = false
cell_next (x ∷ xs) = opens_cell x.by.act

-- the brackets that open the cells: the tokens right before the cells' keywords, in file order
abbrev pub cell_opens_of : List Taken → List Placed
cell_opens_of [] = []
cell_opens_of (x ∷ xs) = pick (cell_next xs) (x.tok ∷ cell_opens_of xs) (cell_opens_of xs)

-- where tokens end
abbrev pub stops : List Placed → List ℕ
stops [] = []
stops (t ∷ ts) = t.end ∷ stops ts

-- THE PLACES of the cell number k (from 1) in a text whose tokens are taken so: where its '(' starts, and where its ')' ends
unfoldable pub cell_from : ℕ → List Taken → ℕ
cell_from k xs = get_or (starts (cell_opens_of xs)) (k - 1) 0

unfoldable pub cell_to : ℕ → List Taken → ℕ
cell_to k xs = get_or (stops (cell_closes xs)) (k - 1) 0

-- THE NEW FILE: 'the new file takes its bytes from ( to )'. The bytes before the cell number k, those of the incoming cell, and those behind the
-- old one; both texts' tokens are taken so.
abbrev pub new_file : List ℕ → List Taken → ℕ → List ℕ → List Taken → List ℕ
new_file s xs k t ys = swapped s (cell_from k xs) (cell_to k xs) t (cell_from 1 ys) (cell_to 1 ys)

-- THE TOKENS of a text, each with the terminal that takes it where the text is read as ss says (none where it is not carried)
abbrev pub pair_up : List Term → List Placed → List Taken
pair_up [] ts = []
pair_up (c ∷ cs) [] = []
pair_up (c ∷ cs) (t ∷ ts) = record { by = c; tok = t } ∷ pair_up cs ts

abbrev pub taken_by : Option (Row Term N) → List Placed → List Taken
taken_by none ts = []
taken_by (some r) ts = pair_up r.labels ts

unfoldable pub taken_of : Stack → List ℕ → List Taken
taken_of ss s = taken_by (feeds fits alts ss (stream s 0).toks) (stream s 0).toks

-- THE NEW FILE, from the bytes alone: a file, the number of one of its cells, the file's divider and the incoming text
unfoldable pub new_file_of : List ℕ → ℕ → Bool → List ℕ → List ℕ
new_file_of s k slash t = new_file s (taken_of file s) k t (taken_of (one_cell_of slash) t)
