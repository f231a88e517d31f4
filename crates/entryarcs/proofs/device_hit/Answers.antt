-- `entryarcs::device_hit` meets its contract.
use borrow.Author.Tests.{eq-eqb, ne_eqb}
use Rattle.applying.specs.Bytes.{device_hit}
use Rattle.entryarcs.proofs.device_hit.Goals as goal

pub returns-then-kind-ne-IOPATH : goal.returns-then-kind-ne-IOPATH
unfolding device_hit
returns-then-kind-ne-IOPATH c =
    rw (← c.kind.ensures, ne_eqb _ 1 c.if-kind-ne-IOPATH.true)

pub returns-then-entry-eq0 : goal.returns-then-entry-eq0
unfolding device_hit
returns-then-entry-eq0 c =
    rw (← c.kind.ensures, eq-eqb _ 1 c.if-kind-ne-IOPATH.false, eq-eqb _ 0 c.if-entry-eq0.true, ← c.second_end-end.ensures, ← c.path-path.ensures) c.one_below.ensures

pub returns : goal.returns
unfolding device_hit
returns c =
    rw (← c.kind.ensures, eq-eqb _ 1 c.if-kind-ne-IOPATH.false, ne_eqb _ 0 c.if-entry-eq0.false)
    (rw (← c.second_end-end.ensures, ← c.path-path.ensures, ← c.part_of-port.ensures) c.same_full.ensures)
