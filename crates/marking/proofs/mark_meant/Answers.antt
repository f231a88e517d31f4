-- `marking::mark_meant` meets its contract. Invariant: of the arcs so far those that the entry means are marked.
use mathlib.Core.Path.{refl, sym, ◌∙◌}
use native.Mathlib.Omega.{arith}
use Rattle.sheetlaws.specs.Sheet.{nth}
use Rattle.meant.specs.ArcTurns.{arc-whole, arc-more}
use Rattle.marking.specs.Laws.{mark-long, mark_keeps, kept_same, arc-marked, arc_passed}
use Rattle.marking.proofs.mark_meant.Goals as goal
use Rattle.marking.proofs.mark_meant.Goals.{then-is_meant, else-is_meant}

pub loop-j-init : goal.loop-j-init
unfolding nth
loop-j-init c = (refl, c.requires.3, λ q t. t, λ i h. absurd (omega arith))

pub is_meant-requires : goal.is_meant-requires
is_meant-requires c =
    let s = c.args.asked.searched in (c.requires.0, arc-whole s.start.now c.loop-j.j s.plan.first c.loop-j.here s.plan.arcs c.requires.1 (omega arith) c.loop-j.invariant.0, c.requires.2)

pub invariant_of-next : goal.invariant_of-next
invariant_of-next c =
    let s = c.args.asked.searched in
    record { whole = (arc-whole s.start.now c.loop-j.j s.plan.first c.loop-j.here s.plan.arcs c.requires.1 (omega arith) c.loop-j.invariant.0) }

pub loop-j-preserved : goal.loop-j-preserved
loop-j-preserved c =
    let s = c.args.asked.searched in
    let text = c.args.asked.text.now in
    let next = arc-more s.start.now c.loop-j.j s.plan.first c.loop-j.here _ c.loop-j.invariant.0 c.next-here.ensures in
    elim c.if-is_meant.branch [
      | then-is_meant w ↦ (
        next,
        mark-long c.loop-j.bits c.loop-j.here _ c.loop-j.invariant.1 (w.bits-is ∙ w.mark.ensures),
        λ q t. mark_keeps c.loop-j.bits c.loop-j.here _ c.loop-j.invariant.1 (w.bits-is ∙ w.mark.ensures) q (c.loop-j.invariant.2 q t),
        arc-marked s.start.now text s.plan.slash s.plan.instances s.plan.first c.args.entry c.args.asked.whom c.args.asked.celltype.now c.loop-j.j c.loop-j.here
            c.loop-j.invariant.0 c.loop-j.bits _ c.loop-j.invariant.1 (w.bits-is ∙ w.mark.ensures) c.loop-j.invariant.3,
      )
      | else-is_meant w ↦ (
        next,
        c.if-is_meant.auto.bits ∙ c.loop-j.invariant.1,
        λ q t. kept_same c.loop-j.bits _ w.bits-is q (c.loop-j.invariant.2 q t),
        arc_passed s.start.now text s.plan.slash s.plan.instances s.plan.first c.args.entry c.args.asked.whom c.args.asked.celltype.now c.loop-j.j c.loop-j.here
            c.loop-j.invariant.0 c.loop-j.bits _ w.bits-is (sym c.is_meant.ensures ∙ w.if-is_meant.false) c.loop-j.invariant.3,
      )
    ]
