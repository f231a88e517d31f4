-- `marking::mark_found` meets its contract: the arc that is found is the only one that the entry means.
use mathlib.Core.Path.{sym, ◌∙◌}
use Rattle.marking.specs.Laws.{mark-long, mark_keeps, found-marked, absent_marked}
use Rattle.marking.proofs.mark_found.Goals as goal

pub returns-in-Some : goal.returns-in-Some
returns-in-Some c = (
  mark-long c.args.bits.now _ _ c.requires.3 c.mark.ensures,
  mark_keeps c.args.bits.now _ _ c.requires.3 c.mark.ensures,
  λ type. found-marked c.args.start.now c.args.text.now c.args.plan.slash c.args.plan.instances c.args.plan.arcs c.args.plan.first
      c.args.entry c.args.instance type (λ i. (c.type_inv.start i).fits) c.requires.0.good c.requires.2 _ c.args.bits.now _ c.requires.3 (sym c.arc_of.ensures ∙ c.in-Some.is)
      c.mark.ensures,
)

pub returns-in_default : goal.returns-in_default
returns-in_default c = (
  c.requires.3,
  λ q t. t,
  λ type. absent_marked c.args.start.now c.args.text.now c.args.plan.slash c.args.plan.instances c.args.plan.arcs c.args.plan.first
      c.args.entry c.args.instance type (λ i. (c.type_inv.start i).fits) c.requires.0.good c.requires.2 c.args.bits.now (sym c.arc_of.ensures ∙ c.in_default.is),
)
