-- `sheet::find_arc` meets its contract.
use Rattle.sheet.specs.Find.{find_arc}
use Rattle.sheet.proofs.find_arc.Goals as goal

pub returns : goal.returns
unfolding find_arc
returns c = c.find.ensures
