-- `seating::flag_seats` meets its contract.
use mathlib.Core.Path.{◌∙◌}
use native.Mathlib.Omega.{arith}
use lib.ListN.{length}
use Rattle.swaparcs.specs.Turns.{leaves}
use Rattle.seating.specs.Through.{flags_seated}
use Rattle.seating.proofs.flag_seats.Goals as goal

pub touch_seats-requires : goal.touch_seats-requires
touch_seats-requires c =
    (c.requires.0.search, c.requires.0.arcs, c.requires.0.leaver_in, c.requires.1, leaves c.requires.0.ready, omega (arith, c.requires.2, c.fill.ensures.len))

pub returns : goal.returns
returns c =
    let w = c.args.swapping in
    let s = w.searched in (
      c.touch_seats-2.ensures.0 ∙ c.touch_seats.ensures.0 ∙ c.fill.ensures.len,
      flags_seated s.start.now s.plan.instances s.plan.arcs s.plan.first w.file.now w.incoming.now s.plan.slash w.cells.now w.entries.now w.cells2.now w.entries2.now w.swap w.leaver w.leavertype.now w.comer w.comertype.now
          c.args.arcs.now (length c.args.arcs.now) c.args.flags.now _ _ c.requires.2 (rw c.fill.ensures.after at c.touch_seats.ensures.1) c.touch_seats-2.ensures.1,
    )
