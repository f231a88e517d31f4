-- `entryarcs::device_write` meets its contract. Invariant: what the arcs so far that are meant make of the sheet is written.
use mathlib.Core.Path.{◌≡◌, refl, ◌∙◌}
use native.Mathlib.Omega.{arith}
use Rattle.sheetlaws.specs.Sheet.{nth}
use Rattle.applying.specs.Bytes.{written_of, device_written}
use Rattle.entryarcs.specs.Turns.{written_with, written_without, arc-whole, arc-more, hits, writes, hit-is}
use Rattle.entryarcs.proofs.device_write.Goals as goal
use Rattle.entryarcs.proofs.device_write.Goals.{then-device_hit, else-device_hit}

pub loop-k-init : goal.loop-k-init
unfolding nth written_of
loop-k-init c = (refl, refl, refl)

pub device_hit-requires : goal.device_hit-requires
device_hit-requires c = (
  c.requires.there,
  arc-whole c.args.start.now c.loop-k.k c.args.plan.first c.loop-k.here c.args.plan.arcs c.requires.arcs (omega arith) c.loop-k.invariant.0,
)

pub invariant_of-values : goal.invariant_of-values
invariant_of-values c =
    record { whole = (arc-whole c.args.start.now c.loop-k.k c.args.plan.first c.loop-k.here c.args.plan.arcs c.requires.arcs (omega arith) c.loop-k.invariant.0) }

pub write_arc-requires : goal.write_arc-requires
write_arc-requires c =
    let whole = arc-whole c.args.start.now c.loop-k.k c.args.plan.first c.loop-k.here c.args.plan.arcs c.requires.arcs (omega arith)
    c.loop-k.invariant.0 in
    rw (c.values-values.ensures, c.loop-k.invariant.2, c.requires.long) whole

pub invariant_of-next : goal.invariant_of-next
invariant_of-next c =
    record { whole = (arc-whole c.args.start.now c.loop-k.k c.args.plan.first c.loop-k.here c.args.plan.arcs c.requires.arcs (omega arith) c.loop-k.invariant.0) }

pub loop-k-preserved : goal.loop-k-preserved
loop-k-preserved c =
    let test = hits c.args.start.now c.args.change.text.now c.args.plan.slash c.args.plan.first c.args.change.head c.args.instance in
    let write = writes c.args.start.now c.args.plan.first c.args.change.head c.args.change.rows in
    let hit = hit-is c.args.start.now c.args.change.text.now c.args.plan.slash c.args.plan.first c.args.change.head c.args.instance c.loop-k.k c.loop-k.here _ c.loop-k.invariant.0
    c.device_hit.ensures in
    let next = arc-more c.args.start.now c.loop-k.k c.args.plan.first c.loop-k.here _ c.loop-k.invariant.0 c.next-here.ensures in
    elim c.if-device_hit.branch [
      | then-device_hit w ↦ (
        next,
        written_with test c.loop-k.k write c.args.out.now _ c.loop-k.out (hit ∙ w.if-device_hit.true) c.loop-k.invariant.1
            (w.out-is ∙ w.write_arc.ensures ∙ rw (w.values-values.ensures, c.loop-k.invariant.0)),
        c.if-device_hit.auto.out ∙ c.loop-k.invariant.2,
      )
      | else-device_hit w ↦ (
        next,
        written_without test c.loop-k.k write c.args.out.now _ (hit ∙ w.if-device_hit.false) (w.out-is ∙ c.loop-k.invariant.1),
        c.if-device_hit.auto.out ∙ c.loop-k.invariant.2,
      )
    ]

pub shape_of-out : goal.shape_of-out
shape_of-out c =
    c.loop-k.invariant.2

pub returns : goal.returns
unfolding device_written
returns c =
    let e : c.loop-k.k ≡ c.args.plan.arcs = omega arith in
    rw (← e) c.loop-k.invariant.1
