-- `tables::put_cell` meets its contract.
use mathlib.Core.Path.{◌∙◌}
use Rattle.tables.proofs.put_cell.Goals as goal

pub returns : goal.returns
returns c =
    c.put_words.ensures ∙ rw c.cell_words.ensures
