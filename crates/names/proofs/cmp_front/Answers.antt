-- `names::cmp_front` meets its contract.
use Rattle.std.proofs.Common.{rules, arith, sym, ◌∙◌, ◌≡◌, ◌≤◌}
use Rattle.names.specs.Order.{front_short, front_end}
use Rattle.names.proofs.Compare.{front_apart, front_on, rest_is}
use Rattle.names.proofs.cmp_front.Goals as goal

pub returns-then-x-i : goal.returns-then-x-i
returns-then-x-i c = rw c.cmp_num.ensures
    (sym (front_apart c.args.x.now c.args.y.now c.loop-i.i (search rules) (search rules) c.if-x-i.true) ∙ c.loop-i.invariant)

pub loop-i-preserved : goal.loop-i-preserved
loop-i-preserved c =
    sym (front_on c.args.x.now c.args.y.now c.loop-i.i (search rules) (search rules) c.if-x-i.false) ∙ c.loop-i.invariant

pub returns-then-n-y : goal.returns-then-n-y
returns-then-n-y c = sym (front_short c.args.x.now c.args.y.now c.loop-i.i (search rules) (search rules)) ∙ c.loop-i.invariant

pub returns-else-n-y : goal.returns-else-n-y
returns-else-n-y c = sym (front_end c.args.x.now c.args.y.now c.loop-i.i (search rules)) ∙ c.loop-i.invariant

pub returns : goal.returns
returns c =
    let most : c.loop-i.i ≤ c.min-early.result = search rules in
    let at : c.loop-i.i ≡ c.min-early.result = omega (arith, c.loop-i-test.false) in
    let within : c.min-early.result ≤ c.min-n.result = omega (arith, c.min-early.ensures) in
    c.number_of.ensures ∙ rw c.cmp.ensures (rest_is c.args.x.now c.args.y.now c.min-early.result c.min-n.result c.min-n.ensures within)
    ∙ rw at at c.loop-i.invariant
