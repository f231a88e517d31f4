-- `apply::refusal_in` meets its contract.
use mathlib.Core.Path.{sym, ◌∙◌}
use borrow.Author.Tests.{eq-eqb, ne_eqb}
use Rattle.entryarcs.specs.Amounts.{refused}
use Rattle.entryarcs.specs.Bytes.{found_refusal, refusal_in}
use Rattle.entryarcs.specs.Turns.{found-whole}
use Rattle.apply.proofs.refusal_in.Goals as goal

pub returns-then-change-eq-DEVICE : goal.returns-then-change-eq-DEVICE
unfolding refusal_in
returns-then-change-eq-DEVICE c =
    rw (eq-eqb _ 4 c.if-change-eq-DEVICE.true) c.device_refusal.ensures

pub invariant_of-values : goal.invariant_of-values
invariant_of-values c =
    record {
      whole = (found-whole c.args.start.sheet.now c.args.change.text.now c.args.start.plan.slash c.args.start.plan.arcs c.args.start.plan.first c.args.change.head c.args.instance
          c.in-Some.arc c.requires.0.arcs (sym c.arc_of.ensures ∙ c.in-Some.is));
    }

pub arc_refusal-requires : goal.arc_refusal-requires
arc_refusal-requires c =
    let whole = found-whole c.args.start.sheet.now c.args.change.text.now c.args.start.plan.slash c.args.start.plan.arcs c.args.start.plan.first c.args.change.head
    c.args.instance c.in-Some.arc c.requires.0.arcs (sym c.arc_of.ensures ∙ c.in-Some.is) in
    rw (c.values.ensures, c.requires.0.long) whole

pub returns-in-Some : goal.returns-in-Some
unfolding refusal_in found_refusal
returns-in-Some c =
    rw (ne_eqb _ 4 c.if-change-eq-DEVICE.false, sym c.arc_of.ensures ∙ c.in-Some.is) (c.arc_refusal.ensures ∙ rw c.values.ensures)

pub returns-in-None : goal.returns-in-None
unfolding refusal_in found_refusal refused
returns-in-None c =
    rw (ne_eqb _ 4 c.if-change-eq-DEVICE.false, sym c.arc_of.ensures ∙ c.in-None.is)
