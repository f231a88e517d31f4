-- `sheet::stride_of` meets its contract.
use Rattle.sheet.specs.Search.{stride_of}
use mathlib.Core.Path.{refl}
use Rattle.sheet.proofs.stride_of.Goals as goal

pub returns : goal.returns
unfolding stride_of
returns c = refl
