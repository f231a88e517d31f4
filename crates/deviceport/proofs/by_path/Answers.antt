-- `deviceport::by_path` meets its contract.
use Rattle.deviceport.specs.ByPath.{by_path}
use borrow.Author.Tests.{eq-eqb, ne_eqb}
use Rattle.deviceport.proofs.by_path.Goals as goal

pub returns-then-entry-eq0 : goal.returns-then-entry-eq0
unfolding by_path
returns-then-entry-eq0 c = rw (eq-eqb _ 0 c.if-entry-eq0.true)

pub returns-then-open_end : goal.returns-then-open_end
unfolding by_path
returns-then-open_end c =
    rw (ne_eqb _ 0 c.if-entry-eq0.false, ← c.path.ensures, ← c.open_end.ensures, c.if-open_end.true, ← c.part_of.ensures) c.plain_port.ensures

pub returns : goal.returns
unfolding by_path
returns c =
    rw (ne_eqb _ 0 c.if-entry-eq0.false, ← c.path.ensures, ← c.open_end.ensures, c.if-open_end.false)
