-- `sheetform::arcs_step` meets its contract.
use mathlib.Core.Path.{sym, ◌∙◌}
use native.Mathlib.Omega.{arith}
use borrow.Author.Rules.{rules}
use Rattle.sheetparts.specs.Passed.{ar_next_lem}
use Rattle.sheetparts.specs.Loops.{arc-more, arcs_end}
use Rattle.sheetparts.proofs.Steps.{passed_on}
use Rattle.sheetform.proofs.arcs_step.Goals as goal

pub returns-in_err-next : goal.returns-in_err-next
returns-in_err-next c =
    let e = sym (arc-more c.args.sheet.now c.args.count c.loop.counter c.loop.prev c.loop.here (search rules)) ∙ c.loop.invariant.2 in
    rw (passed_on c.from_residual.result _ c.from_residual.ensures) (rw (← c.in_err-next.ensures.0) at e, search rules)

pub loop-preserved : goal.loop-preserved
loop-preserved c =
    let e = sym (arc-more c.args.sheet.now c.args.count c.loop.counter c.loop.prev c.loop.here (search rules)) ∙ c.loop.invariant.2 in
    let r = ar_next_lem c.args.sheet.now c.loop.prev c.loop.here c.in_ok-next.next (sym c.in_ok-next.ensures.0) in
    let i = r.inside in
    let j = r.place in
    (i, (λ z. omega arith), rw (← c.in_ok-next.ensures.0) at e)

pub returns : goal.returns
returns c =
    (sym (arcs_end c.args.sheet.now c.args.count c.loop.counter c.loop.prev c.loop.here (search rules)) ∙ c.loop.invariant.2, search rules)
