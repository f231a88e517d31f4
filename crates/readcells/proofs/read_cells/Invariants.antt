-- `readcells::read_cells` meets its contract: these cells have been read, and their records written where the tables are filled.
use Rattle.std.proofs.Common.{◌≡◌, ◌-◌, ◌≤◌, List, length, Ok}
use Rattle.grammar.specs.Meaning.{Item}
use Rattle.grammar.specs.declared.Cell.{Cell}
use Rattle.rules.specs.Promises.{InHand}
use Rattle.readcells.specs.Whole.{filled_cells}
use Rattle.readcells.specs.Left.{Along}
use Rattle.cells.specs.Cells.{filled}
use Rattle.readcells.proofs.read_cells.Given as goal

abbrev pub invariant-loop-hand : goal.invariant-loop-hand
invariant-loop-hand l =
    (cs : List Cell) × (is : List Item) × (length cs ≡ l.n) × (length is ≡ l.m) × (l.n ≤ l.room.cells) × (l.m ≤ l.room.entries) × InHand l.text (Ok l.hand)
    × Along l.text (Ok l.initial.hand) l.slash l.unit l.room.cells l.room.entries (Ok l.hand) l.n l.m cs is
    × (l.cells ≡ filled_cells l.fill l.initial.cells 0 cs) × (l.entries ≡ filled l.fill l.initial.entries 0 is)
    × (length l.cells ≡ length l.initial.cells) × (length l.entries ≡ length l.initial.entries)

abbrev pub decreases-loop-hand : goal.decreases-loop-hand
decreases-loop-hand l = l.room.cells - l.n
