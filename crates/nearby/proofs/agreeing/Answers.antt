-- `nearby::agreeing` meets its contract. Invariant: the first i bytes agree.
use native.Mathlib.Omega.{arith}
use native.Mathlib.Numerals.{add-one}
use lib.ListN.{length}
use Rattle.nearby.specs.Laws.{agree-nil, agree-more, agree-past}
use Rattle.nearby.proofs.agreeing.Goals as goal

pub loop-i-init : goal.loop-i-init
loop-i-init c = agree-nil _

pub returns-then-y-i : goal.returns-then-y-i
returns-then-y-i c =
    (omega arith, agree-past c.args.y.now c.args.x.now c.loop-i.i (length c.args.x.now) (omega arith) c.loop-i.invariant)

pub loop-i-preserved : goal.loop-i-preserved
loop-i-preserved c =
    rw add-one (agree-more c.args.y.now c.args.x.now c.loop-i.i (omega arith) (omega arith) (omega arith) c.loop-i.invariant)
