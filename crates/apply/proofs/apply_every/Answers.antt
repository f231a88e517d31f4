-- `apply::apply_every` meets its contract.
use Rattle.entryarcs.specs.AmountTurns.{none-is}
use Rattle.entryarcs.specs.Bytes.{applied_every}
use Rattle.apply.proofs.apply_every.Goals as goal

pub returns-then-is_none : goal.returns-then-is_none
unfolding applied_every
returns-then-is_none c =
    let r = c.refusal_every-least.ensures in
    (r, rw (none-is _ _ _ r c.is_none.ensures, c.if-is_none.true) c.write_every.ensures)

pub returns-else-is_none : goal.returns-else-is_none
unfolding applied_every
returns-else-is_none c =
    let r = c.refusal_every-least.ensures in
    (r, rw (none-is _ _ _ r c.is_none.ensures, c.if-is_none.false))
