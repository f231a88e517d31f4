-- `findseat::seat_at` meets its contract: the places rise, so one that is found is the only one, and one that is not found is none.
use Rattle.findseat.specs.Laws.{only_by}
use Rattle.findseat.proofs.seat_at.Goals as goal

pub returns-clause-only : goal.returns-clause-only
returns-clause-only c =
    rw c.ok.ensures.value (only_by c.args.arcs.now c.args.place c.requires c.binary_search.result c.binary_search.ensures.position)
