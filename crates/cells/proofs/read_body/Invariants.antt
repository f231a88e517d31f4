-- `cells::read_body` meets its contract: these entries have been read, and their rows written where the table is filled.
use Rattle.std.proofs.Common.{◌≡◌, ◌-◌, ◌≤◌, List, length}
use Rattle.grammar.specs.Meaning.{Item}
use Rattle.cells.specs.Cells.{Along, filled}
use Rattle.cells.proofs.read_body.Given as goal

abbrev pub invariant-loop-end : goal.invariant-loop-end
invariant-loop-end l = (is : List Item) × (length is ≡ l.n) × (l.n ≤ l.room) × (l.p ≤ length l.text) × Along l.text l.from l.slash l.unit l.room l.p l.n l.within l.some is
    × (l.from ≤ l.p) × (l.entries ≡ filled l.fill l.initial.entries l.row is) × (length l.entries ≡ length l.initial.entries)

abbrev pub decreases-loop-end : goal.decreases-loop-end
decreases-loop-end l = length l.text - l.p
