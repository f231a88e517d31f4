-- `choosing::choose` meets its contract. Invariant: the marked ones of the arcs so far have the first seats.
use Prim.Native.Nat.{suc}
use mathlib.Core.Path.{◌≡◌, sym, ◌∙◌}
use native.Mathlib.Omega.{arith}
use Rattle.meant.specs.ArcTurns.{arc-whole, arc-more}
use Rattle.marking.specs.Laws.{set_long, chosen-start, choose_one, choose-none, chosen-full}
use Rattle.choosing.proofs.choose.Goals as goal
use Rattle.choosing.proofs.choose.Goals.{then-is_marked, else-is_marked}

pub loop-next-init : goal.loop-next-init
loop-next-init c = (c.requires.2, c.requires.4, (0, omega arith, chosen-start c.args.start.now c.args.plan.first c.args.bits.now c.args.from c.args.arcs.now))

pub returns-then-count-eq-SEATS : goal.returns-then-count-eq-SEATS
returns-then-count-eq-SEATS c =
    let full : c.loop-next.count ≡ 4096 = c.if-count-eq-SEATS.true in
    let some = chosen-full c.args.start.now c.args.plan.first c.args.bits.now c.args.from c.loop-next.invariant.2.0 c.loop-next.count c.loop-next.arcs (omega arith) c.loop-next.invariant.2.2 in
    (c.loop-next.invariant.1, (c.loop-next.invariant.2.0, c.loop-next.invariant.2.1, (omega arith), (λ h. some), c.loop-next.invariant.0, c.loop-next.invariant.2.2.0, c.loop-next.invariant.2.2.1, c.loop-next.invariant.2.2.2))

pub invariant_of-next : goal.invariant_of-next
invariant_of-next c =
    record { whole = (arc-whole c.args.start.now c.loop-next.next c.args.plan.first c.loop-next.here c.args.plan.arcs c.requires.0 (omega (arith, c.loop-next-test.true)) c.loop-next.invariant.0) }

pub loop-next-preserved : goal.loop-next-preserved
loop-next-preserved c =
    let more = arc-more c.args.start.now c.loop-next.next c.args.plan.first c.loop-next.here _ c.loop-next.invariant.0 c.next-here.ensures in
    elim c.if-is_marked.branch [
      | then-is_marked w ↦ (
        more,
        set_long c.loop-next.arcs _ c.loop-next.count c.loop-next.here w.arcs-is ∙ c.loop-next.invariant.1,
        (
          suc c.loop-next.invariant.2.0,
          omega (arith, c.loop-next.invariant.2.1),
          rw w.count-is (choose_one c.args.start.now c.args.plan.first c.args.bits.now c.args.from c.loop-next.invariant.2.0 c.loop-next.next c.loop-next.here c.loop-next.count c.loop-next.arcs _ c.loop-next.invariant.2.1 c.loop-next.invariant.0
              (sym c.is_marked.ensures ∙ w.if-is_marked.true) c.loop-next.invariant.1 (omega (arith, c.loop-next.invariant.2.2.1, c.if-count-eq-SEATS.false)) w.arcs-is c.loop-next.invariant.2.2),
        ),
      )
      | else-is_marked w ↦ (
        more,
        c.if-is_marked.auto.arcs ∙ c.loop-next.invariant.1,
        (
          suc c.loop-next.invariant.2.0,
          omega (arith, c.loop-next.invariant.2.1),
          rw w.count-is (choose-none c.args.start.now c.args.plan.first c.args.bits.now c.args.from c.loop-next.invariant.2.0 c.loop-next.next c.loop-next.here c.loop-next.count c.loop-next.arcs _ c.loop-next.invariant.2.1 c.loop-next.invariant.0
              (sym c.is_marked.ensures ∙ w.if-is_marked.false) w.arcs-is c.loop-next.invariant.2.2),
        ),
      )
    ]
