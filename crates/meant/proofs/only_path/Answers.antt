-- `meant::only_path` meets its contract.
use borrow.Author.Tests.{eq-eqb, ne_eqb}
use Rattle.meant.specs.Only.{only_path}
use Rattle.meant.proofs.only_path.Goals as goal

pub returns-then-entry-ne-DEVICE : goal.returns-then-entry-ne-DEVICE
unfolding only_path
returns-then-entry-ne-DEVICE c =
    rw (ne_eqb _ 4 c.if-entry-ne-DEVICE.true, ← c.first_end.ensures) c.path_before.ensures

pub returns-then-entry-eq0 : goal.returns-then-entry-eq0
unfolding only_path
returns-then-entry-eq0 c =
    rw (eq-eqb _ 4 c.if-entry-ne-DEVICE.false, eq-eqb _ 0 c.if-entry-eq0.true, ← c.second_end-end.ensures, ← c.last_component.ensures.0) c.path_before-then-entry-eq0.ensures

pub returns : goal.returns
unfolding only_path
returns c =
    rw (eq-eqb _ 4 c.if-entry-ne-DEVICE.false, ne_eqb _ 0 c.if-entry-eq0.false, ← c.second_end-end.ensures) c.path_before-2.ensures
