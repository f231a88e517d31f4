-- `touching::may_touch` meets its contract.
use borrow.Author.Tests.{eq-eqb, ne_eqb}
use Rattle.patching.specs.Meant.{may_touch}
use Rattle.touching.proofs.may_touch.Goals as goal

pub returns-then-cmp_front_written-eq-SAME : goal.returns-then-cmp_front_written-eq-SAME
unfolding may_touch
returns-then-cmp_front_written-eq-SAME c =
    rw (← c.first_end.ensures, ← c.part_of-path.ensures, ← c.cmp_front_written.ensures, eq-eqb _ 1 c.if-cmp_front_written-eq-SAME.true)

pub returns : goal.returns
unfolding may_touch
returns c =
    rw (← c.first_end.ensures, ← c.second_end.ensures, ← c.part_of-path.ensures)
    (rw (← c.cmp_front_written.ensures, ne_eqb _ 1 c.if-cmp_front_written-eq-SAME.false, ← c.cmp_front_written-2.ensures))
