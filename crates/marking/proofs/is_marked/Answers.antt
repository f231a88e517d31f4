-- `marking::is_marked` meets its contract.
use mathlib.Core.Path.{refl}
use Rattle.marking.specs.Choosing.{marked}
use Rattle.marking.proofs.is_marked.Goals as goal

pub returns : goal.returns
unfolding marked
returns c = refl
