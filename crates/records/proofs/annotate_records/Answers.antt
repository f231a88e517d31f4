-- `records::annotate_records` meets its contract: the table has a row for each cell that was read, and the fill puts these rows into the records.
use Rattle.std.proofs.Common.{◌≡◌, ◌/◌, length, arith}
use Rattle.meaning.specs.Meaning.{course}
use Rattle.readrecords.specs.Reading.{room_for}
use Rattle.records.proofs.AnnotatingLaws.{records-out, rows_fit_out}
use Rattle.records.proofs.annotate_records.Goals as goal

pub fill_records-requires : goal.fill_records-requires
fill_records-requires c =
    let counted = c.annotate_within-counted in
    let same : length counted.new.table ≡ length c.args.table.now = counted.auto.table in
    let n : c.cells_counted-n.result ≡ counted.result.cells = c.cells_counted-n.ensures in
    let rows = rows_fit_out c.args.start.now
    (course c.args.start.now c.args.text.now (room_for (length c.args.table.now) (length c.args.records.now)) (length c.args.entries.now / 28) (length c.args.out.now))
    c.args.table.now counted.new.table c.args.entries.now counted.new.entries c.args.out.now counted.new.out counted.result counted.ensures.0 same in
    let room = counted.ensures.1 in
    (omega (arith, n, room), omega (arith, n, rows, same))

pub returns : goal.returns
returns c =
    let counted = c.annotate_within-counted in
    records-out c.args.start.now c.args.text.now (room_for (length c.args.table.now) (length c.args.records.now)) (length c.args.entries.now / 28)
    (length c.args.out.now) c.args.table.now counted.new.table c.args.entries.now counted.new.entries c.args.out.now counted.new.out
    c.args.records.now c.fill_records.new.records counted.result c.cells_counted-n.result counted.ensures.0 c.cells_counted-n.ensures c.fill_records.ensures
