-- `readrecords::read_cell_records` meets its contract: the table has a row for each cell that was read, and the fill puts these rows into the records.
use Rattle.std.proofs.Common.{◌≡◌, ◌/◌, length, arith}
use Rattle.grammar.specs.Outcome.{read_cell_of}
use Rattle.meaning.specs.Sound.{cell_sound}
use Rattle.readrecords.specs.Reading.{room_for, count_of}
use Rattle.readrecords.proofs.ReadingLaws.{records-are, rows_fit}
use Rattle.readrecords.proofs.read_cell_records.Goals as goal

pub fill_records-requires : goal.fill_records-requires
fill_records-requires c =
    let read = c.read_cell_within-read in
    let same : length read.new.table ≡ length c.args.table.now = read.auto.table in
    let n : c.cells_read-n.result ≡ count_of read.result.answer = c.cells_read-n.ensures in
    let rows = rows_fit (read_cell_of c.args.slash c.args.unit (room_for (length c.args.table.now) (length c.args.records.now)) (length c.args.entries.now / 28) c.args.text.now)
    c.args.table.now read.new.table c.args.entries.now read.new.entries read.result read.ensures.0 same in
    let room = read.ensures.1 in
    (omega (arith, n, room), omega (arith, n, rows, same))

pub returns : goal.returns
returns c =
    let read = c.read_cell_within-read in
    records-are (read_cell_of c.args.slash c.args.unit (room_for (length c.args.table.now) (length c.args.records.now)) (length c.args.entries.now / 28) c.args.text.now)
    c.args.table.now read.new.table c.args.entries.now read.new.entries c.args.records.now c.fill_records.new.records read.result c.cells_read-n.result
    (cell_sound c.args.slash c.args.unit (room_for (length c.args.table.now) (length c.args.records.now)) (length c.args.entries.now / 28) c.args.text.now) read.ensures.0 c.cells_read-n.ensures c.fill_records.ensures
