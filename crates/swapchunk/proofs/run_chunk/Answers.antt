-- `swapchunk::run_chunk` meets its contract.
use lib.ListN.{length}
use Rattle.findseat.specs.Laws.{order_there}
use Rattle.swapchunk.proofs.run_chunk.Goals as goal

pub load_seats-requires : goal.load_seats-requires
load_seats-requires c =
    let s = c.args.swapping.searched in
    (order_there s.start.now s.plan.arcs s.plan.first c.args.arcs.now (length c.args.arcs.now) c.requires.0.arcs.good c.requires.1, c.requires.3)

pub common_front-requires : goal.common_front-requires
common_front-requires c =
    let s = c.args.swapping.searched in
    order_there s.start.now s.plan.arcs s.plan.first c.args.arcs.now (length c.args.arcs.now) c.requires.0.arcs.good c.requires.1
