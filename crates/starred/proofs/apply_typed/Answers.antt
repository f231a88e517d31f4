-- `starred::apply_typed` meets its contract.
use Rattle.entryarcs.specs.AmountTurns.{none-is}
use Rattle.entryarcs.specs.Bytes.{applied_every}
use native.Mathlib.Omega.{arith}
use Prim.Native.Nat.{◌≤◌}
use Rattle.starred.proofs.apply_typed.Goals as goal

pub refusal_chained-least-requires : goal.refusal_chained-least-requires
refusal_chained-least-requires c =
    let few : c.args.lookup.start.plan.instances ≤ 65536 = omega arith in
    (c.requires.0, few, c.requires.1 few, c.requires.2)

pub write_chained-requires : goal.write_chained-requires
write_chained-requires c =
    let few : c.args.lookup.start.plan.instances ≤ 65536 = omega arith in
    (c.requires.0, few, c.requires.1 few, c.requires.2)

pub returns-then-is_none : goal.returns-then-is_none
unfolding applied_every
returns-then-is_none c =
    let r = c.refusal_chained-least.ensures in
    (r, rw (none-is _ _ _ r c.is_none.ensures, c.if-is_none.true) c.write_chained.ensures)

pub returns-else-is_none : goal.returns-else-is_none
unfolding applied_every
returns-else-is_none c =
    let r = c.refusal_chained-least.ensures in
    (r, rw (none-is _ _ _ r c.is_none.ensures, c.if-is_none.false))
