-- `devices::refusal_at` meets its contract.
use Rattle.entryarcs.specs.Bytes.{refusal_in}
use borrow.Author.Tests.{eq-eqb}
use Rattle.devices.proofs.refusal_at.Goals as goal

pub refusal_chained-requires : goal.refusal_chained-requires
refusal_chained-requires c =
    let w = c.is_chained.ensures c.if-is_chained.true in
    let r = c.requires.2 w.1 in
    (c.requires.0, c.requires.1, r.0, r.1, w.2)

pub returns-then-is_chained : goal.returns-then-is_chained
unfolding refusal_in
returns-then-is_chained c =
    rw (eq-eqb _ 4 (c.is_chained.ensures c.if-is_chained.true).0) c.refusal_chained.ensures
