-- `touchseats::touch_seats` meets its contract. Invariant: all seats have their flags behind the entries so far.
use mathlib.Core.Path.{refl, ◌∙◌}
use lib.ListN.{length}
use Rattle.touchseats.specs.Laws.{nobody_touched, entries_none, entries_more}
use Rattle.touchseats.proofs.touch_seats.Goals as goal

pub returns-in-Nobody : goal.returns-in-Nobody
returns-in-Nobody c =
    rw c.in-Nobody.is (
      refl,
      nobody_touched c.args.asked.searched.start.now c.args.asked.text.now c.args.asked.searched.plan.slash c.args.asked.searched.plan.instances c.args.entries.now c.args.first
          c.args.some _ c.args.asked.celltype.now c.args.arcs.now c.args.flags.now (length c.args.arcs.now),
    )

pub loop-k-init : goal.loop-k-init
loop-k-init c = (refl, entries_none c.args.asked.searched.start.now c.args.asked.text.now c.args.asked.searched.plan.slash c.args.asked.searched.plan.instances c.args.entries.now c.args.first c.args.asked.whom c.args.asked.celltype.now c.args.arcs.now c.args.flags.now (length c.args.arcs.now))

pub loop-k-preserved : goal.loop-k-preserved
loop-k-preserved c = (
  c.touch_entry.ensures.0 ∙ c.loop-k.invariant.0,
  entries_more c.args.asked.searched.start.now c.args.asked.text.now c.args.asked.searched.plan.slash c.args.asked.searched.plan.instances c.args.entries.now c.args.first
      c.args.asked.whom c.args.asked.celltype.now c.args.arcs.now c.args.flags.now (length c.args.arcs.now) c.loop-k.k c.loop-k.flags _ c.touch_entry.ensures.1 c.loop-k.invariant.1,
)
