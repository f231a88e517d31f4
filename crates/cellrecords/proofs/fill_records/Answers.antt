-- `cellrecords::fill_records` meets its contract: one record more is filled each turn.
use Rattle.std.proofs.Common.{◌<◌, length, arith}
use Rattle.cellrecords.specs.Records.{no_record, record_of}
use Rattle.cellrecords.proofs.Laws.{zs_none, filled_more}
use Rattle.cellrecords.proofs.fill_records.Goals as goal

pub loop-k-init : goal.loop-k-init
loop-k-init c = (zs_none (record_of c.args.table.now) c.args.records.now)

pub loop-k-preserved : goal.loop-k-preserved
loop-k-preserved c =
    let k = c.loop-k.k in
    let within : k < length c.args.records.now = omega arith in
    rw (c.loop-k.invariant, c.row_at.ensures) (filled_more (record_of c.args.table.now) c.args.records.now k within no_record)
