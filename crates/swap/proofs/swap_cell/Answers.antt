-- `swap::swap_cell` meets its contract.
use borrow.Author.Rules.{rules}
use Rattle.meant.specs.Find.{sheet_good, arcs_ready, instances_ready}
use Rattle.ownfaults.specs.OwnLaws.{own_least}
use Rattle.names.specs.Name.{name_of_it}
use Rattle.swap.proofs.SwapLaws.{MoversAre, movers, swap_answered}
use Rattle.swap.proofs.swap_cell.Goals as goal
use native.Mathlib.Omega.{arith}
use Rattle.swaparcs.specs.Turns.{events_fit}

pub overflow_add-at : goal.overflow_add-at
overflow_add-at c =
    let fit = events_fit c.requires.1 (omega (arith)) (omega (arith)) (omega (arith)) in
    omega (arith, fit)

pub own_fault-own-requires : goal.own_fault-own-requires
own_fault-own-requires c =
    let fit = events_fit c.requires.1 (omega (arith)) (omega (arith)) (omega (arith)) in
    (rw c.mark_instances.ensures (instances_ready c.args.start.now c.args.plan.instances c.args.plan.arcs c.args.plan.first _ (sheet_good c.args.start.now c.args.plan.instances c.args.plan.arcs c.args.plan.first c.requires.0) (search rules)), rw c.mark_arcs.ensures (arcs_ready c.args.start.now c.args.plan.instances c.args.plan.arcs c.args.plan.first _ (sheet_good c.args.start.now c.args.plan.instances c.args.plan.arcs c.args.plan.first c.requires.0) (search rules)), c.requires.1.room2, omega (arith, c.requires.1.coming, c.requires.1.entries_room2), omega (arith, fit, c.requires.1.coming))

pub overflow_mul-swap : goal.overflow_mul-swap
overflow_mul-swap c =
    omega (arith, c.requires.1.room, c.requires.1.there)

pub mark_instances-requires : goal.mark_instances-requires
mark_instances-requires c =
    let s = sheet_good c.args.start.now c.args.plan.instances c.args.plan.arcs c.args.plan.first c.requires.0 in
    (s.instances, s.short)

pub mark_arcs-requires : goal.mark_arcs-requires
mark_arcs-requires c =
    let s = sheet_good c.args.start.now c.args.plan.instances c.args.plan.arcs c.args.plan.first c.requires.0 in
    (s.arcs, s.short)

pub whom_of-requires : goal.whom_of-requires
whom_of-requires c =
    rw c.mark_instances.ensures (instances_ready c.args.start.now c.args.plan.instances c.args.plan.arcs c.args.plan.first _ (sheet_good c.args.start.now c.args.plan.instances c.args.plan.arcs c.args.plan.first c.requires.0) (search rules))

pub cell_at-into-requires : goal.cell_at-into-requires
cell_at-into-requires c =
    c.requires.1.room2

pub whom_of-requires-2 : goal.whom_of-requires-2
whom_of-requires-2 c =
    rw c.mark_instances.ensures (instances_ready c.args.start.now c.args.plan.instances c.args.plan.arcs c.args.plan.first _ (sheet_good c.args.start.now c.args.plan.instances c.args.plan.arcs c.args.plan.first c.requires.0) (search rules))

pub swap_seated-requires : goal.swap_seated-requires
swap_seated-requires c =
    (record { ready = c.requires.1; search = rw c.mark_instances.ensures (instances_ready c.args.start.now c.args.plan.instances c.args.plan.arcs c.args.plan.first _ (sheet_good c.args.start.now c.args.plan.instances c.args.plan.arcs c.args.plan.first c.requires.0) (search rules)); arcs = rw c.mark_arcs.ensures (arcs_ready c.args.start.now c.args.plan.instances c.args.plan.arcs c.args.plan.first _ (sheet_good c.args.start.now c.args.plan.instances c.args.plan.arcs c.args.plan.first c.requires.0) (search rules)); leaver_in = c.whom_of.ensures.1; comer_in = c.whom_of-2.ensures.1 }, c.requires.2)

pub returns : goal.returns
unfolding name_of_it
returns c =
    let move : MoversAre c.args.start.now c.args.plan.instances c.args.plan.arcs c.args.plan.first c.args.file.now c.args.incoming.now c.args.plan.slash c.args.cells.now c.args.entries.now c.args.cells2.now c.args.entries2.now c.args.swap c.whom_of.result c.name_of.result.now c.whom_of-2.result c.name_of-2.result.now = rw (c.whom_of.ensures.0, c.name_of.ensures, c.whom_of-2.ensures.0, c.name_of-2.ensures, c.cell_at-out.ensures, c.cell_at-into.ensures) (movers c.args.start.now c.args.plan.instances c.args.plan.arcs c.args.plan.first c.args.file.now c.args.incoming.now c.args.plan.slash c.args.cells.now c.args.entries.now c.args.cells2.now c.args.entries2.now c.args.swap) in
    rw c.answer_of.ensures (swap_answered c.args.start.now c.args.plan.instances c.args.plan.arcs c.args.plan.first c.args.file.now c.args.incoming.now c.args.plan.slash c.args.cells.now c.args.entries.now c.args.cells2.now c.args.entries2.now c.args.swap c.whom_of.result c.name_of.result.now c.whom_of-2.result c.name_of-2.result.now c.own_fault-own.result move (λ y h g. own_least c.args.start.now c.args.plan.instances c.args.plan.arcs c.args.plan.first c.args.file.now c.args.incoming.now c.args.plan.slash c.args.swap.before c.own_fault-own.result c.requires.1.before c.own_fault-own.ensures y h g) c.args.current.now c.swap_seated.result _ c.swap_seated.ensures)
