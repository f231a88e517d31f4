-- `apply::apply_in` meets its contract.
use Rattle.std.proofs.Common.{sym, ◌∙◌, eq-eqb, ne_eqb}
use Rattle.entryarcs.specs.Amounts.{refused}
use Rattle.entryarcs.specs.AmountTurns.{none-is}
use Rattle.entryarcs.specs.Bytes.{found_refusal, found_written, refusal_in, written_in, applied_in}
use Rattle.entryarcs.specs.Turns.{found-whole}
use Rattle.apply.proofs.apply_in.Goals as goal

pub returns-then-is_none : goal.returns-then-is_none
unfolding refusal_in applied_in written_in
returns-then-is_none c =
    let device = eq-eqb _ 4 c.if-change-eq-DEVICE.true in
    let r = c.device_refusal-refusal.ensures in
    (rw device r, rw (device, none-is _ _ _ r c.is_none.ensures, c.if-is_none.true) c.device_write.ensures)

pub returns-else-is_none : goal.returns-else-is_none
unfolding refusal_in applied_in
returns-else-is_none c =
    let device = eq-eqb _ 4 c.if-change-eq-DEVICE.true in
    let r = c.device_refusal-refusal.ensures in
    (rw device r, rw (device, none-is _ _ _ r c.is_none.ensures, c.if-is_none.false))

pub invariant_of-values : goal.invariant_of-values
invariant_of-values c =
    record {
      whole = (found-whole c.args.start.sheet.now c.args.change.text.now c.args.start.plan.slash c.args.start.plan.arcs c.args.start.plan.first c.args.change.head c.args.instance
          c.in-Some.arc c.requires.0.arcs (sym c.arc_of.ensures ∙ c.in-Some.is));
    }

pub arc_refusal-refusal-requires : goal.arc_refusal-refusal-requires
arc_refusal-refusal-requires c =
    let whole = found-whole c.args.start.sheet.now c.args.change.text.now c.args.start.plan.slash c.args.start.plan.arcs c.args.start.plan.first c.args.change.head
    c.args.instance c.in-Some.arc c.requires.0.arcs (sym c.arc_of.ensures ∙ c.in-Some.is) in
    rw (c.values-values.ensures, c.requires.0.long) whole

pub write_arc-requires : goal.write_arc-requires
write_arc-requires c =
    let whole = found-whole c.args.start.sheet.now c.args.change.text.now c.args.start.plan.slash c.args.start.plan.arcs c.args.start.plan.first c.args.change.head
    c.args.instance c.in-Some.arc c.requires.0.arcs (sym c.arc_of.ensures ∙ c.in-Some.is) in
    rw (c.values-values.ensures, c.requires.0.long) whole

pub returns-then-is_none-2 : goal.returns-then-is_none-2
unfolding refusal_in applied_in written_in found_refusal found_written
returns-then-is_none-2 c =
    let other = ne_eqb _ 4 c.if-change-eq-DEVICE.false in
    let found = sym c.arc_of.ensures ∙ c.in-Some.is in
    let r = c.arc_refusal-refusal.ensures in (
      rw (other, found, ← c.values-values.ensures) r,
      rw (other, found, ← c.values-values.ensures, none-is _ _ _ r c.is_none-in-Some.ensures, c.if-is_none-2.true) c.write_arc.ensures,
    )

pub returns-else-is_none-2 : goal.returns-else-is_none-2
unfolding refusal_in applied_in found_refusal
returns-else-is_none-2 c =
    let other = ne_eqb _ 4 c.if-change-eq-DEVICE.false in
    let found = sym c.arc_of.ensures ∙ c.in-Some.is in
    let r = c.arc_refusal-refusal.ensures in (
      rw (other, found, ← c.values-values.ensures) r,
      rw (other, found, ← c.values-values.ensures, none-is _ _ _ r c.is_none-in-Some.ensures, c.if-is_none-2.false),
    )

pub returns-in-None : goal.returns-in-None
unfolding refusal_in applied_in found_refusal refused
returns-in-None c =
    let other = ne_eqb _ 4 c.if-change-eq-DEVICE.false in
    let found = sym c.arc_of.ensures ∙ c.in-None.is in
    (rw (other, found), rw (other, found))
