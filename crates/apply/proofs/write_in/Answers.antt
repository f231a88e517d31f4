-- `apply::write_in` meets its contract.
use mathlib.Core.Path.{sym, ◌∙◌}
use borrow.Author.Tests.{eq-eqb, ne_eqb}
use Rattle.entryarcs.specs.Bytes.{found_written, written_in}
use Rattle.entryarcs.specs.Turns.{found-whole}
use Rattle.apply.proofs.write_in.Goals as goal

pub returns-then-change-eq-DEVICE : goal.returns-then-change-eq-DEVICE
unfolding written_in
returns-then-change-eq-DEVICE c =
    rw (eq-eqb _ 4 c.if-change-eq-DEVICE.true) c.device_write.ensures

pub invariant_of-values : goal.invariant_of-values
invariant_of-values c =
    record {
      whole = (found-whole c.args.start.sheet.now c.args.change.text.now c.args.start.plan.slash c.args.start.plan.arcs c.args.start.plan.first c.args.change.head c.args.instance
          c.in-Some.arc c.requires.0.arcs (sym c.arc_of.ensures ∙ c.in-Some.is));
    }

pub write_arc-requires : goal.write_arc-requires
write_arc-requires c =
    let whole = found-whole c.args.start.sheet.now c.args.change.text.now c.args.start.plan.slash c.args.start.plan.arcs c.args.start.plan.first c.args.change.head
    c.args.instance c.in-Some.arc c.requires.0.arcs (sym c.arc_of.ensures ∙ c.in-Some.is) in
    rw (c.values-values.ensures, c.requires.0.long) whole

pub returns-in-Some : goal.returns-in-Some
unfolding written_in found_written
returns-in-Some c =
    rw (ne_eqb _ 4 c.if-change-eq-DEVICE.false, sym c.arc_of.ensures ∙ c.in-Some.is) (c.write_arc.ensures ∙ rw c.values-values.ensures)

pub returns-in_default : goal.returns-in_default
unfolding written_in found_written
returns-in_default c =
    rw (ne_eqb _ 4 c.if-change-eq-DEVICE.false, sym c.arc_of.ensures ∙ c.in_default.is)
