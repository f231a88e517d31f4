-- `nearby::common_front` meets its contract. Invariant: the first n bytes agree with the ends of the first arcs.
use native.Mathlib.Omega.{arith}
use lib.Seq.{length-take-le}
use Rattle.nearby.specs.Laws.{common_more}
use Rattle.nearby.proofs.common_front.Goals as goal

pub loop-arc-preserved : goal.loop-arc-preserved
loop-arc-preserved c =
    let x = rw c.front_part.ensures at c.agreeing_ends-n.ensures in
    let l = length-take-le c.loop-arc.n c.first_end-name.result.now c.loop-arc.invariant.0 in
    let y = rw l at x.0 in
    (omega (arith, y, c.loop-arc.invariant.0), common_more c.args.start.now c.first_end-name.result.now c.loop-arc.n c.agreeing_ends-n.result y c.args.arcs.now c.loop-arc.arc-index c.loop-arc.invariant.1 x.1)
