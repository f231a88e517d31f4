-- `names::cmp_written` meets its contract.
use Rattle.std.proofs.Common.{sym, ◌∙◌, eq-eqb, ne_eqb, lt-ltb, le-ltb}
use Rattle.names.specs.Name.{canon, length-canon}
use Rattle.names.specs.Order.{cmp-whole}
use Rattle.names.proofs.cmp_written.Goals as goal

pub returns-then-order-ne-SAME : goal.returns-then-order-ne-SAME
returns-then-order-ne-SAME c =
    sym (cmp-whole c.args.x.now (canon c.args.slash c.args.name.now) ∙ rw (
      ← c.cmp_front_written-order.ensures,
      ne_eqb _ _ c.if-order-ne-SAME.true,
    ))

pub returns-then-name-x : goal.returns-then-name-x
returns-then-name-x c =
    sym (cmp-whole c.args.x.now (canon c.args.slash c.args.name.now) ∙ rw (
      ← c.cmp_front_written-order.ensures,
      eq-eqb _ _ c.if-order-ne-SAME.false,
      length-canon,
      lt-ltb _ _ c.if-name-x.true,
    ))

pub returns-else-name-x : goal.returns-else-name-x
returns-else-name-x c =
    sym (cmp-whole c.args.x.now (canon c.args.slash c.args.name.now) ∙ rw (
      ← c.cmp_front_written-order.ensures,
      eq-eqb _ _ c.if-order-ne-SAME.false,
      length-canon,
      le-ltb _ _ c.if-name-x.false,
    ))
