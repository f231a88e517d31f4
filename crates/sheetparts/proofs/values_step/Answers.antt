-- `sheetparts::values_step` meets its contract.
use mathlib.Core.Path.{sym, ◌∙◌}
use borrow.Author.Rules.{rules}
use Rattle.sheetparts.specs.Loops.{value-more, values_end}
use Rattle.sheetparts.proofs.Steps.{passed_on}
use Rattle.sheetparts.proofs.values_step.Goals as goal

pub returns-in_err-here : goal.returns-in_err-here
returns-in_err-here c =
    let e = sym (value-more c.args.sheet.now c.args.kind c.args.count c.loop-slot.slot c.loop-slot.here (search rules)) ∙ c.loop-slot.invariant.1 in
    rw (passed_on c.from_residual.result _ c.from_residual.ensures) (rw (← c.in_err-here.ensures.0) at e, search rules)

pub loop-slot-preserved : goal.loop-slot-preserved
loop-slot-preserved c =
    let e = sym (value-more c.args.sheet.now c.args.kind c.args.count c.loop-slot.slot c.loop-slot.here (search rules)) ∙ c.loop-slot.invariant.1 in
    (c.in_ok-here.ensures.1, rw (← c.in_ok-here.ensures.0) at e)

pub returns : goal.returns
returns c =
    (sym (values_end c.args.sheet.now c.args.kind c.args.count c.loop-slot.slot c.loop-slot.here (search rules)) ∙ c.loop-slot.invariant.1, search rules)
