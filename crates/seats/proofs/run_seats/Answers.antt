-- `seats::run_seats` meets its contract.
use mathlib.Core.Path.{refl, sym}
use native.Mathlib.Omega.{arith}
use lib.ListN.{length}
use Rattle.views.specs.Views.{cell_at}
use Rattle.findseat.specs.Laws.{order_there}
use Rattle.nearby.specs.Laws.{seats_ran, seats_skipped, far_none}
use Rattle.seats.proofs.run_seats.Goals as goal

pub returns-then-is_far : goal.returns-then-is_far
returns-then-is_far c =
    let s = c.args.searched in
    let t = c.args.seated in
    let w = rw c.cell_at-cell.ensures at (c.is_far.ensures c.if-is_far.true) in
    (refl, seats_skipped s.start.now c.args.text.now s.plan.slash s.plan.instances s.plan.arcs s.plan.first c.args.side c.args.cells.now c.args.row c.args.entries.now c.args.first c.args.event t.arcs.now t.flags.now c.args.states.now (length t.arcs.now) w.0 (far_none s.start.now c.args.text.now s.plan.slash s.plan.instances s.plan.arcs s.plan.first c.args.side c.args.cells.now c.args.row c.args.entries.now c.args.first c.args.event t.arcs.now t.flags.now c.args.states.now (length t.arcs.now) t.common.now w.1 c.requires.3))

pub is_near-requires : goal.is_near-requires
is_near-requires c =
    let s = c.args.searched in
    let t = c.args.seated in
    order_there s.start.now s.plan.arcs s.plan.first t.arcs.now (length t.arcs.now) c.requires.1.good c.requires.2

pub returns-then-not-is_near : goal.returns-then-not-is_near
returns-then-not-is_near c =
    let s = c.args.searched in
    let t = c.args.seated in
    let w = rw c.cell_at-cell.ensures at (c.is_near.ensures (c.if-not-is_near.true)) in
    (refl, seats_skipped s.start.now c.args.text.now s.plan.slash s.plan.instances s.plan.arcs s.plan.first c.args.side c.args.cells.now c.args.row c.args.entries.now c.args.first c.args.event t.arcs.now t.flags.now c.args.states.now (length t.arcs.now) w.0 w.1)

pub run_entries-requires : goal.run_entries-requires
unfolding cell_at
run_entries-requires c =
    (c.requires.0, c.requires.1, c.requires.2, c.whom_of.ensures.1, rw c.cell_at-cell.ensures c.requires.7, c.requires.4, c.requires.5, rw c.cell_at-cell.ensures (omega (arith, c.requires.8)))

pub returns : goal.returns
returns c =
    let s = c.args.searched in
    let t = c.args.seated in
    (c.run_entries.ensures.0, seats_ran s.start.now c.args.text.now s.plan.slash s.plan.instances s.plan.arcs s.plan.first c.args.side c.args.cells.now c.args.row c.args.entries.now c.args.first c.args.event t.arcs.now t.flags.now c.args.states.now (length t.arcs.now) c.whom_of.result c.run_entries.new.states c.run_entries.result (sym (rw c.cell_at-cell.ensures at c.whom_of.ensures.0)) (rw (c.part_of.ensures, c.cell_at-cell.ensures) at c.run_entries.ensures.1))
