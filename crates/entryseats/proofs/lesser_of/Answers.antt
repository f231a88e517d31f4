-- `entryseats::lesser_of` meets its contract.
use Rattle.std.proofs.Common.{eq-eqb, ne_eqb, le-leb}
use borrow.Author.Tests.{lt-leb}
use Rattle.meant.specs.Amounts.{lesser}
use Rattle.entryseats.proofs.lesser_of.Goals as goal

pub returns-then-a-eq0 : goal.returns-then-a-eq0
unfolding lesser
returns-then-a-eq0 c =
    rw (eq-eqb _ _ c.if-a-eq0.true)

pub returns-then-b-eq0 : goal.returns-then-b-eq0
unfolding lesser
returns-then-b-eq0 c =
    rw (ne_eqb _ _ c.if-a-eq0.false, eq-eqb _ _ c.if-b-eq0.true)

pub returns-then-a-b : goal.returns-then-a-b
unfolding lesser
returns-then-a-b c =
    rw (ne_eqb _ _ c.if-a-eq0.false, ne_eqb _ _ c.if-b-eq0.false, le-leb _ _ c.if-a-b.true)

pub returns : goal.returns
unfolding lesser
returns c =
    rw (ne_eqb _ _ c.if-a-eq0.false, ne_eqb _ _ c.if-b-eq0.false, lt-leb _ _ c.if-a-b.false)
