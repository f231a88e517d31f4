-- `entryarcs::device_refusal` meets its contract. Invariant: whether one of the arcs so far is meant, and the least refusal of those that are.
use mathlib.Core.Path.{◌≡◌, refl, ◌∙◌, ap}
use native.Mathlib.Omega.{arith}
use Rattle.sheetlaws.specs.Sheet.{nth}
use Rattle.applying.specs.Amounts.{refused}
use Rattle.applying.specs.AmountTurns.{lesser-refused}
use Rattle.applying.specs.Bytes.{some_of, least_of, device_refusal}
use Rattle.entryarcs.specs.Turns.{some_with, some_without, least_with, least_without, arc-whole, arc-more, hits, refuses, hit-is}
use Rattle.entryarcs.proofs.device_refusal.Goals as goal
use Rattle.entryarcs.proofs.device_refusal.Goals.{then-device_hit, else-device_hit}

pub loop-k-init : goal.loop-k-init
unfolding nth some_of least_of refused
loop-k-init c = (refl, refl, refl)

pub device_hit-requires : goal.device_hit-requires
device_hit-requires c = (
  c.requires.there,
  arc-whole c.args.start.now c.loop-k.k c.args.plan.first c.loop-k.here c.args.plan.arcs c.requires.arcs (omega arith) c.loop-k.invariant.0,
)

pub invariant_of-values : goal.invariant_of-values
invariant_of-values c =
    record { whole = (arc-whole c.args.start.now c.loop-k.k c.args.plan.first c.loop-k.here c.args.plan.arcs c.requires.arcs (omega arith) c.loop-k.invariant.0) }

pub arc_refusal-requires : goal.arc_refusal-requires
arc_refusal-requires c =
    let whole = arc-whole c.args.start.now c.loop-k.k c.args.plan.first c.loop-k.here c.args.plan.arcs c.requires.arcs (omega arith)
    c.loop-k.invariant.0 in
    rw (c.values-values.ensures, c.requires.long) whole

pub invariant_of-next : goal.invariant_of-next
invariant_of-next c =
    record { whole = (arc-whole c.args.start.now c.loop-k.k c.args.plan.first c.loop-k.here c.args.plan.arcs c.requires.arcs (omega arith) c.loop-k.invariant.0) }

pub loop-k-preserved : goal.loop-k-preserved
loop-k-preserved c =
    let test = hits c.args.start.now c.args.change.text.now c.args.plan.slash c.args.plan.first c.args.change.head c.args.instance in
    let refusal = refuses c.args.start.now c.args.out.now c.args.plan.first c.args.change.head c.args.change.rows in
    let hit = hit-is c.args.start.now c.args.change.text.now c.args.plan.slash c.args.plan.first c.args.change.head c.args.instance c.loop-k.k c.loop-k.here _ c.loop-k.invariant.0
    c.device_hit.ensures in
    let next = arc-more c.args.start.now c.loop-k.k c.args.plan.first c.loop-k.here _ c.loop-k.invariant.0 c.next-here.ensures in
    elim c.if-device_hit.branch [
      | then-device_hit w ↦ (
        next,
        w.some-is ∙ some_with test c.loop-k.k (hit ∙ w.if-device_hit.true),
        w.least-is ∙ w.lesser_of-least.ensures
            ∙ rw (c.loop-k.invariant.2, w.arc_refusal.ensures, w.values-values.ensures, c.loop-k.invariant.0) (lesser-refused (least_of test refusal c.loop-k.k) (refusal c.loop-k.k))
            ∙ ap refused (least_with test c.loop-k.k refusal _ (least_of test refusal c.loop-k.k) (hit ∙ w.if-device_hit.true) refl refl),
      )
      | else-device_hit w ↦ (
        next,
        some_without test c.loop-k.k _ (hit ∙ w.if-device_hit.false) (w.some-is ∙ c.loop-k.invariant.1),
        w.least-is ∙ c.loop-k.invariant.2 ∙ ap refused (least_without test c.loop-k.k refusal (least_of test refusal c.loop-k.k) (hit ∙ w.if-device_hit.false) refl),
      )
    ]

pub returns-then-some : goal.returns-then-some
unfolding device_refusal
returns-then-some c =
    let e : c.loop-k.k ≡ c.args.plan.arcs = omega arith in
    rw (← e, ← c.loop-k.invariant.1, c.if-some.true) c.loop-k.invariant.2

pub returns-else-some : goal.returns-else-some
unfolding device_refusal refused
returns-else-some c =
    let e : c.loop-k.k ≡ c.args.plan.arcs = omega arith in
    rw (← e, ← c.loop-k.invariant.1, c.if-some.false)
