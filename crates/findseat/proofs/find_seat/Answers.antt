-- `findseat::find_seat` meets its contract.
use mathlib.Core.Path.{sym, ◌∙◌}
use lib.ListN.{length}
use Rattle.findseat.specs.Laws.{only-found, only_none}
use Rattle.findseat.proofs.find_seat.Goals as goal

pub returns-in-Some-clause-only : goal.returns-in-Some-clause-only
returns-in-Some-clause-only c =
    only-found c.args.start.now c.args.text.now c.args.plan.slash c.args.plan.instances c.args.plan.arcs c.args.plan.first c.args.entry c.args.instance (λ i. (c.type_inv.start i).fits) c.requires.0.good c.requires.3 c.args.arcs.now (length c.args.arcs.now) c.requires.1 _ _ (sym c.arc_of.ensures ∙ c.in-Some.is) c.seat_at.ensures.only

pub returns-in-None-clause-only : goal.returns-in-None-clause-only
returns-in-None-clause-only c =
    only_none c.args.start.now c.args.text.now c.args.plan.slash c.args.plan.instances c.args.plan.arcs c.args.plan.first c.args.entry c.args.instance (λ i. (c.type_inv.start i).fits) c.requires.0.good c.requires.3 c.args.arcs.now (length c.args.arcs.now) c.requires.1 (sym c.arc_of.ensures ∙ c.in-None.is)
