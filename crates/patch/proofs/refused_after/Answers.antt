-- `patch::refused_after` meets its contract.
use Rattle.patch.proofs.refused_after.Goals as goal

pub returns : goal.returns
returns c = rw c.refused.ensures
