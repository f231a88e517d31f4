-- `ownfaults::own_fault` meets its contract.
use mathlib.Core.Path.{sym, ◌∙◌}
use Rattle.views.specs.Views.{cell_at}
use Rattle.ownfaults.specs.OwnLaws.{own_refused, own_listed}
use Rattle.ownfaults.proofs.own_fault.Goals as goal

pub own_entries-requires : goal.own_entries-requires
unfolding cell_at
own_entries-requires c =
    (c.requires.0.good, c.requires.1, c.whom_of-whom.ensures.1, rw c.cell_at-cell.ensures c.requires.3, rw c.cell_at-cell.ensures c.requires.4)

pub returns-in-Nobody : goal.returns-in-Nobody
returns-in-Nobody c =
    let s = c.args.searched in
    let e = sym c.whom_of-whom.ensures.0 ∙ c.in-Nobody.is in
    rw c.cell_at-cell.ensures (own_refused s.start.now s.plan.instances s.plan.arcs s.plan.first c.args.incoming.now
    s.plan.slash c.args.cells.now c.args.entries.now c.args.event c.in-Nobody.number (rw c.cell_at-cell.ensures at e))

pub returns : goal.returns
returns c =
    let s = c.args.searched in
    own_listed s.start.now s.plan.instances s.plan.arcs s.plan.first c.args.incoming.now s.plan.slash
    c.args.cells.now c.args.entries.now c.args.event c.whom_of-whom.result c.own_entries.result (sym (rw c.cell_at-cell.ensures at c.whom_of-whom.ensures.0))
    (λ x z. c.in_default.not-Nobody x z) (rw (c.part_of.ensures, c.cell_at-cell.ensures) at c.own_entries.ensures)
