-- `names::cmp_front_turned` meets its contract.
use Rattle.std.proofs.Common.{rules, arith, refl, sym, ◌∙◌, eq-eqb, ne_eqb}
use Rattle.names.specs.Name.{canon, written_short, written_end}
use Rattle.names.proofs.Compare.{written_by}
use Rattle.names.proofs.cmp_front_turned.Goals as goal

pub loop-i-init : goal.loop-i-init
unfolding canon
loop-i-init c = (search rules, refl)

pub returns-then-x-i : goal.returns-then-x-i
returns-then-x-i c =
    sym (written_short c.args.x.now c.args.name.now c.args.slash c.loop-i.escaped c.loop-i.i (search rules) (search rules)) ∙ c.loop-i.invariant.1

pub returns-then-order-ne-SAME : goal.returns-then-order-ne-SAME
returns-then-order-ne-SAME c =
    sym (written_by c.args.x.now c.args.name.now c.args.slash c.loop-i.escaped c.loop-i.i (search rules) (search rules)
    ∙ rw (← c.turn-d.ensures, ← c.cmp_num-order.ensures, ne_eqb _ _ c.if-order-ne-SAME.true)) ∙ c.loop-i.invariant.1

pub loop-i-preserved : goal.loop-i-preserved
loop-i-preserved c = (
  omega arith,
  sym (written_by c.args.x.now c.args.name.now c.args.slash c.loop-i.escaped c.loop-i.i (search rules) (search rules)
      ∙ rw (← c.turn-d.ensures, ← c.escape-escaped.ensures, ← c.cmp_num-order.ensures, eq-eqb _ _ c.if-order-ne-SAME.false)) ∙ c.loop-i.invariant.1,
)

pub returns : goal.returns
returns c =
    sym (written_end c.args.x.now c.args.name.now c.args.slash c.loop-i.escaped c.loop-i.i (search rules)) ∙ c.loop-i.invariant.1
