-- `meant::meant_on` meets its contract.
use borrow.Author.Tests.{eq-eqb, ne_eqb}
use Rattle.meaning.specs.Bytes.{device_hit}
use Rattle.patching.specs.Meant.{meant_in}
use Rattle.meant.proofs.meant_on.Goals as goal

pub returns-then-kind-ne-IOPATH : goal.returns-then-kind-ne-IOPATH
unfolding meant_in device_hit
returns-then-kind-ne-IOPATH c p e =
    rw (eq-eqb _ 4 c.if-entry-eq-DEVICE.true, ← c.kind.ensures, ne_eqb _ 1 c.if-kind-ne-IOPATH.true)

pub returns-then-entry-eq0 : goal.returns-then-entry-eq0
unfolding meant_in device_hit
returns-then-entry-eq0 c p e =
    rw (eq-eqb _ 4 c.if-entry-eq-DEVICE.true, ← c.kind.ensures, eq-eqb _ 1 c.if-kind-ne-IOPATH.false, eq-eqb _ 0 c.if-entry-eq0.true)
    (rw (← c.second_end-end.ensures, e) c.one_below.ensures)

pub returns-then-entry-eq-DEVICE : goal.returns-then-entry-eq-DEVICE
unfolding meant_in device_hit
returns-then-entry-eq-DEVICE c p e =
    rw (eq-eqb _ 4 c.if-entry-eq-DEVICE.true, ← c.kind.ensures, eq-eqb _ 1 c.if-kind-ne-IOPATH.false, ne_eqb _ 0 c.if-entry-eq0.false)
    (rw (← c.second_end-end.ensures, e, ← c.part_of-name.ensures) c.same_full.ensures)

pub returns : goal.returns
unfolding meant_in
returns c p e =
    rw (ne_eqb _ 4 c.if-entry-eq-DEVICE.false, e, ← c.part_of-name.ensures, ← c.part_of.ensures, ← c.key_vs.ensures)
