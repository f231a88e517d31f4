-- `marking::mark_entries` meets its contract. Invariant: the arcs that the entries so far mean are marked.
use Rattle.marking.specs.Laws.{nobody_marked}
use Rattle.marking.proofs.mark_entries.Goals as goal

pub returns-in-Nobody : goal.returns-in-Nobody
returns-in-Nobody c =
    rw c.in-Nobody.is (
      c.requires.4,
      λ q t. t,
      nobody_marked c.args.asked.searched.start.now c.args.asked.text.now c.args.asked.searched.plan.slash c.args.asked.searched.plan.instances c.args.asked.searched.plan.arcs c.args.asked.searched.plan.first
          c.args.entries.now c.args.first c.args.some _ c.args.asked.celltype.now c.args.bits.now,
    )
