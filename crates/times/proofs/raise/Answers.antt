-- `times::raise` meets its contract: the invariant: what is left of the power, times the value so far, is the whole.
use Rattle.std.proofs.Common.{◌≡◌, ◌+◌, ◌-◌, ◌∙◌, arith, lit<, rules}
use Rattle.std.proofs.Math.Nat.{mul-le-mul_left, one-le-pow}
use Rattle.numbershape.specs.Steps.{raise_step}
use Rattle.times.proofs.raise.Goals as goal

pub returns-then-raised-ge-STOP : goal.returns-then-raised-ge-STOP
returns-then-raised-ge-STOP c =
    (omega (arith, mul-le-mul_left c.loop.raised (one-le-pow (c.args.n - c.loop.counter) 10 (lit< tt)), c.loop.invariant.2), search rules)

pub loop-preserved : goal.loop-preserved
loop-preserved c =
    let left : c.args.n - (c.loop.counter + 1) ≡ c.args.n - c.loop.counter - 1 = omega arith in (
      search rules,
      search rules,
      rw (left, c.put-raised.ensures.0) (raise_step c.loop.raised (c.args.n - c.loop.counter) (omega arith) ∙ c.loop.invariant.2),
    )
