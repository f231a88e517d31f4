-- `meaning::whom_of` meets its contract.
use mathlib.Core.Path.{sym, ◌∙◌}
use borrow.Author.Tests.{eq-eqb, ne_eqb}
use Rattle.meaning.specs.Whom.{whom_of, typed_as, in_sheet}
use Rattle.meaning.proofs.whom_of.Goals as goal

pub returns-then-cell-eq2 : goal.returns-then-cell-eq2
unfolding whom_of
returns-then-cell-eq2 c =
    (rw (eq-eqb _ 2 c.if-cell-eq2.true), tt)

pub invariant_of-type_name : goal.invariant_of-type_name
invariant_of-type_name c =
    record { whole = (in_sheet c.args.start.now _ c.args.plan.instances c.in-Some.instance c.requires.good (sym c.find_instance-found.ensures ∙ c.in-Some.is)) }

pub returns-then-same_text : goal.returns-then-same_text
unfolding whom_of typed_as
returns-then-same_text c =
    let other = ne_eqb _ 2 c.if-cell-eq2.false in
    let at = sym c.find_instance-found.ensures ∙ c.in-Some.is in (
      rw (other, ← c.part_of-path.ensures, at, ← c.part_of-celltype.ensures, ← c.type_name.ensures, ← c.same_text.ensures, c.if-same_text.true),
      in_sheet c.args.start.now _ c.args.plan.instances c.in-Some.instance c.requires.good at,
    )

pub returns-in-None : goal.returns-in-None
unfolding whom_of typed_as
returns-in-None c =
    let other = ne_eqb _ 2 c.if-cell-eq2.false in
    (rw (other, ← c.part_of-path.ensures, sym c.find_instance-found.ensures ∙ c.in-None.is), tt)

pub returns-else-same_text : goal.returns-else-same_text
unfolding whom_of typed_as
returns-else-same_text c =
    let other = ne_eqb _ 2 c.if-cell-eq2.false in
    let at = sym c.find_instance-found.ensures ∙ c.in-Some.is in
    (rw (other, ← c.part_of-path.ensures, at, ← c.part_of-celltype.ensures, ← c.type_name.ensures, ← c.same_text.ensures, c.if-same_text.false), tt)
