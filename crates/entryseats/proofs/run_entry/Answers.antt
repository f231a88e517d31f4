-- `entryseats::run_entry` meets its contract.
use lib.ListN.{length}
use Rattle.findseat.specs.Laws.{order_there}
use Rattle.entryseats.proofs.run_entry.Goals as goal

pub run_all-requires : goal.run_all-requires
run_all-requires c =
    let a = c.args.asked in
    let s = a.searched in
    (c.requires.0, order_there s.start.now s.plan.arcs s.plan.first c.args.arcs.now (length c.args.arcs.now) c.requires.1.good c.requires.2, c.requires.3, c.requires.4, c.requires.5, c.requires.6)
