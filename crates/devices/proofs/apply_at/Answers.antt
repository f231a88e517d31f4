-- `devices::apply_at` meets its contract.
use Rattle.entryarcs.specs.AmountTurns.{none-is}
use Rattle.entryarcs.specs.Bytes.{refusal_in, written_in, applied_in}
use borrow.Author.Tests.{eq-eqb}
use Rattle.devices.proofs.apply_at.Goals as goal

pub refusal_chained-refusal-requires : goal.refusal_chained-refusal-requires
refusal_chained-refusal-requires c =
    let w = c.is_chained.ensures c.if-is_chained.true in
    let r = c.requires.2 w.1 in
    (c.requires.0, c.requires.1, r.0, r.1, w.2)

pub write_chained-requires : goal.write_chained-requires
write_chained-requires c =
    let w = c.is_chained.ensures c.if-is_chained.true in
    let r = c.requires.2 w.1 in
    (c.requires.0, c.requires.1, r.0, r.1, w.2)

pub returns-then-is_none : goal.returns-then-is_none
unfolding refusal_in written_in applied_in
returns-then-is_none c =
    let d = eq-eqb _ 4 (c.is_chained.ensures c.if-is_chained.true).0 in
    let r = c.refusal_chained-refusal.ensures in
    (rw d r, rw (d, none-is _ _ _ r c.is_none.ensures, c.if-is_none.true) c.write_chained.ensures)

pub returns-else-is_none : goal.returns-else-is_none
unfolding refusal_in applied_in
returns-else-is_none c =
    let d = eq-eqb _ 4 (c.is_chained.ensures c.if-is_chained.true).0 in
    let r = c.refusal_chained-refusal.ensures in
    (rw d r, rw (d, none-is _ _ _ r c.is_none.ensures, c.if-is_none.false))
