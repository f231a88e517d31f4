-- `seating::mark_both` meets its contract.
use native.Mathlib.Omega.{arith}
use Rattle.swaparcs.specs.Turns.{leaves}
use Rattle.seating.specs.Through.{marks_cover}
use Rattle.seating.proofs.mark_both.Goals as goal

pub mark_entries-requires : goal.mark_entries-requires
mark_entries-requires c =
    (c.requires.0.search, c.requires.0.arcs, c.requires.0.leaver_in, omega (arith, leaves c.requires.0.ready), c.requires.1)

pub returns : goal.returns
returns c =
    let w = c.args.swapping in
    let s = w.searched in
    (c.mark_entries-2.ensures.0, marks_cover s.start.now s.plan.instances s.plan.arcs s.plan.first w.file.now w.incoming.now s.plan.slash w.cells.now w.entries.now w.cells2.now w.entries2.now w.swap w.leaver w.leavertype.now w.comer w.comertype.now _ _ c.mark_entries.ensures.2 c.mark_entries-2.ensures.1 c.mark_entries-2.ensures.2)
