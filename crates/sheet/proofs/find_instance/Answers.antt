-- `sheet::find_instance` meets its contract.
use Rattle.sheet.specs.Find.{find_instance}
use Rattle.sheet.proofs.find_instance.Goals as goal

pub returns : goal.returns
unfolding find_instance
returns c = c.find.ensures
