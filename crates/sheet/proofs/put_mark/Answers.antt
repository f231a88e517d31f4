-- `sheet::put_mark` meets its contract.
use Rattle.std.proofs.Common.{arith}
use borrow.Author.Tests.{eq-eqb, ne_eqb}
use Rattle.sheet.specs.Search.{put_mark}
use Rattle.sheet.proofs.put_mark.Goals as goal

pub returns-then-j-stride : goal.returns-then-j-stride
unfolding put_mark
returns-then-j-stride c = rw (eq-eqb _ _ c.if-j-stride.true)

pub returns-else-j-stride : goal.returns-else-j-stride
unfolding put_mark
returns-else-j-stride c = rw (ne_eqb _ _ c.if-j-stride.false)
