-- `entryarcs::arc_of` meets its contract.
use mathlib.Core.Path.{◌∙◌}
use Rattle.applying.specs.Bytes.{arc_of}
use Rattle.entryarcs.proofs.arc_of.Goals as goal

pub returns : goal.returns
unfolding arc_of
returns c =
    c.find_arc.ensures ∙ rw (c.path.ensures, c.part_of.ensures, c.part_of-2.ensures)
