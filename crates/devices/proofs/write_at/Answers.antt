-- `devices::write_at` meets its contract.
use Rattle.entryarcs.specs.Bytes.{written_in}
use borrow.Author.Tests.{eq-eqb}
use Rattle.devices.proofs.write_at.Goals as goal

pub write_chained-requires : goal.write_chained-requires
write_chained-requires c =
    let w = c.is_chained.ensures c.if-is_chained.true in
    let r = c.requires.2 w.1 in
    (c.requires.0, c.requires.1, r.0, r.1, w.2)

pub returns-then-is_chained : goal.returns-then-is_chained
unfolding written_in
returns-then-is_chained c =
    rw (eq-eqb _ 4 (c.is_chained.ensures c.if-is_chained.true).0) c.write_chained.ensures
