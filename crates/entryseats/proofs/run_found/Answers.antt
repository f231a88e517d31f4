-- `entryseats::run_found` meets its contract.
use mathlib.Core.Path.{refl}
use native.Mathlib.Omega.{arith}
use lib.ListN.{length}
use Rattle.findseat.specs.Laws.{order_there}
use Rattle.nearby.specs.Laws.{found_none, found-run}
use Rattle.entryseats.proofs.run_found.Goals as goal

pub run_seat-requires : goal.run_seat-requires
run_seat-requires c =
    let s = c.args.asked.searched in
    let within = rw c.in-Some.is at c.find_seat-found.ensures.within in (
      c.requires.0,
      order_there s.start.now s.plan.arcs s.plan.first c.args.arcs.now (length c.args.arcs.now) c.requires.1.good c.requires.2 c.in-Some.seat within,
      rw c.requires.4 c.requires.3,
      c.requires.5,
      omega (arith, within, c.requires.6),
      omega (arith, within, c.requires.7),
    )

pub returns-in-Some : goal.returns-in-Some
returns-in-Some c =
    let a = c.args.asked in
    let s = a.searched in
    let within = rw c.in-Some.is at c.find_seat-found.ensures.within in
    let only = rw (c.head_at-entry.ensures, c.in-Some.is) at (c.find_seat-found.ensures.only a.celltype.now) in (
      c.run_seat.ensures.0,
      rw c.requires.4 (found-run s.start.now a.text.now s.plan.slash s.plan.instances c.args.entries.now c.args.row c.args.instance a.celltype.now c.args.arcs.now
          c.args.flags.now c.args.states.now (length c.args.arcs.now) c.in-Some.seat only _ _ within c.requires.7 (rw c.requires.4 at c.run_seat.ensures.1)),
    )

pub returns-in-None : goal.returns-in-None
returns-in-None c =
    let a = c.args.asked in
    let s = a.searched in
    let only = rw (c.head_at-entry.ensures, c.in-None.is) at (c.find_seat-found.ensures.only a.celltype.now) in (
      refl,
      rw c.requires.4 (found_none s.start.now a.text.now s.plan.slash s.plan.instances c.args.entries.now c.args.row c.args.instance a.celltype.now c.args.arcs.now
          c.args.flags.now c.args.states.now (length c.args.arcs.now) (length c.args.arcs.now) only (omega arith)),
    )
