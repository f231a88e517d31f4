-- `nearby::agreeing_ends` meets its contract.
use native.Mathlib.Omega.{arith}
use lib.Seq.{length-take-le}
use Rattle.nearby.specs.Laws.{ends_both}
use Rattle.nearby.proofs.agreeing_ends.Goals as goal

pub returns : goal.returns
returns c =
    let x = rw c.front_part.ensures at c.agreeing.ensures in
    let l = length-take-le c.agreeing-n.result c.args.name.now c.agreeing-n.ensures.0 in
    let y = rw l at x.0 in
    (omega (arith, y, c.agreeing-n.ensures.0), ends_both c.args.start.now c.args.name.now c.agreeing-n.result c.agreeing.result y c.args.arc (rw c.first_end.ensures at c.agreeing-n.ensures.1) (rw c.second_end.ensures at x.1))
