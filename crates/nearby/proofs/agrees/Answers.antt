-- `nearby::agrees` meets its contract.
use mathlib.Core.Path.{◌∙◌}
use borrow.Author.Tests.{eq-eqb}
use Rattle.nearby.specs.Laws.{agree-canon}
use Rattle.nearby.proofs.agrees.Goals as goal

pub returns : goal.returns
returns c =
    λ h. eq-eqb _ 1 (c.cmp_front_written.ensures ∙ rw c.front_part.ensures (agree-canon c.args.slash c.args.name.now c.args.written.now h))
