-- `names::cmp_full` meets its contract.
use Rattle.std.proofs.Common.{◌-◌, ◌+◌, sym, ◌∙◌, arith, length, drop, length-drop, take_all, eq-eqb, ne_eqb}
use Rattle.names.specs.Name.{canon, full-top, full_turn}
use Rattle.names.specs.Order.{cmp_byte_short}
use Rattle.names.proofs.Compare.{by_byte}
use Rattle.names.proofs.cmp_full.Goals as goal

pub returns-then-n-eq0 : goal.returns-then-n-eq0
returns-then-n-eq0 c =
    rw (full-top c.args.path.now (canon c.args.slash c.args.name.now) c.if-n-eq0.true) c.cmp_written.ensures

pub returns-then-order-ne-SAME : goal.returns-then-order-ne-SAME
returns-then-order-ne-SAME c =
    sym (full_turn c.args.x.now c.args.path.now (canon c.args.slash c.args.name.now) c.if-n-eq0.false
    ∙ rw (← c.cmp_front-order.ensures, ne_eqb _ _ c.if-order-ne-SAME.true))

pub returns-then-x-n : goal.returns-then-x-n
returns-then-x-n c =
    sym (full_turn c.args.x.now c.args.path.now (canon c.args.slash c.args.name.now) c.if-n-eq0.false ∙ rw (
      ← c.cmp_front-order.ensures,
      eq-eqb _ _ c.if-order-ne-SAME.false,
      cmp_byte_short c.args.x.now (canon c.args.slash c.args.name.now) 46 (length c.args.path.now) c.if-x-n.true,
    ))

pub returns-then-by_dot-ne-SAME : goal.returns-then-by_dot-ne-SAME
returns-then-by_dot-ne-SAME c =
    sym (full_turn c.args.x.now c.args.path.now (canon c.args.slash c.args.name.now) c.if-n-eq0.false ∙ rw (
      ← c.cmp_front-order.ensures,
      eq-eqb _ _ c.if-order-ne-SAME.false,
      by_byte c.args.x.now (canon c.args.slash c.args.name.now) 46 (length c.args.path.now) c.if-x-n.false,
      ← c.cmp_num-by_dot.ensures,
      ne_eqb _ _ c.if-by_dot-ne-SAME.true,
    ))

pub returns : goal.returns
returns c =
    let t = take_all (length c.args.x.now - (length c.args.path.now + 1)) (drop (length c.args.path.now + 1) c.args.x.now) (rw length-drop (omega arith)) in
    sym (full_turn c.args.x.now c.args.path.now (canon c.args.slash c.args.name.now) c.if-n-eq0.false ∙ rw (
      ← c.cmp_front-order.ensures,
      eq-eqb _ _ c.if-order-ne-SAME.false,
      by_byte c.args.x.now (canon c.args.slash c.args.name.now) 46 (length c.args.path.now) c.if-x-n.false,
      ← c.cmp_num-by_dot.ensures,
      eq-eqb _ _ c.if-by_dot-ne-SAME.false,
    ) (sym (rw t at c.cmp_written-2.ensures)))
