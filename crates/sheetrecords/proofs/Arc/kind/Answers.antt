-- `sheetrecords::Arc::kind` meets its contract.
use Rattle.sheetparts.specs.Form.{key_at}
use mathlib.Core.Path.{refl}
use Rattle.sheetrecords.proofs.Arc.kind.Goals as goal

pub returns : goal.returns
unfolding key_at
returns c = refl
