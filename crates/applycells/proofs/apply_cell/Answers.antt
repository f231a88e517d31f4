-- `applycells::apply_cell` meets its contract.
use Rattle.std.proofs.Common.{refl, sym, ◌∙◌}
use Rattle.views.specs.Views.{cell_at}
use Rattle.applycells.specs.CellLaws.{cell_refused, cell_entries}
use Rattle.applycells.proofs.apply_cell.Goals as goal

pub apply_entries-requires : goal.apply_entries-requires
unfolding cell_at
apply_entries-requires c =
    (c.requires.0, rw c.cell_at-cell.ensures c.requires.3, c.whom_of.ensures.1, c.requires.4, c.requires.5)

pub returns-in-Nobody : goal.returns-in-Nobody
returns-in-Nobody c =
    let e = sym c.whom_of.ensures.0 ∙ c.in-Nobody.is in (
      refl,
      λ y g. rw c.cell_at-cell.ensures (cell_refused c.args.lookup.start.sheet.now y c.args.lookup.start.plan.instances c.args.lookup.start.plan.arcs c.args.lookup.start.plan.first g
          c.args.read.text.now c.args.lookup.start.plan.slash c.args.read.cells.now c.args.row c.args.read.entries.now c.args.first c.args.out.now c.args.out.now
          c.in-Nobody.number (rw c.cell_at-cell.ensures at e) y g),
    )

pub returns-in_default : goal.returns-in_default
returns-in_default c =
    let e = sym c.whom_of.ensures.0 in (
      c.apply_entries.ensures.0,
      λ y g. cell_entries c.args.lookup.start.sheet.now y c.args.lookup.start.plan.instances c.args.lookup.start.plan.arcs c.args.lookup.start.plan.first g
          c.args.read.text.now c.args.lookup.start.plan.slash c.args.read.cells.now c.args.row c.args.read.entries.now c.args.first c.args.out.now
          c.apply_entries.new.out c.whom_of.result c.apply_entries.result (rw c.cell_at-cell.ensures at e)
          (λ x z. c.in_default.not-Nobody x z) (rw (c.part_of-celltype.ensures, c.cell_at-cell.ensures) at c.apply_entries.ensures.1) y g,
    )
