-- `patchrecords::patch_records` meets its contract: each table has a row for each cell that was read of its text, and the fills put these rows
-- into the records.
use Rattle.std.proofs.Common.{◌≡◌, ◌/◌, length, arith}
use Rattle.readrecords.specs.Reading.{room_for}
use Rattle.patch.specs.Meaning.{course}
use Rattle.patchwithin.specs.PatchingLaws.{file-rows, cell-rows, patched_records}
use Rattle.patchrecords.proofs.patch_records.Goals as goal

pub fill_records-requires : goal.fill_records-requires
fill_records-requires c =
    let counted = c.patch_within-counted in
    let same : length counted.new.table ≡ length c.args.table.now = counted.auto.table in
    let n : c.file_cells-n.result ≡ counted.result.cells = c.file_cells-n.ensures in
    let rows = file-rows c.args.start.now
    (course c.args.start.now c.args.file.now c.args.number c.args.incoming.now c.args.current.now
    (room_for (length c.args.table.now) (length c.args.records.now)) (length c.args.entries.now / 28)
    (room_for (length c.args.table2.now) (length c.args.records2.now)) (length c.args.entries2.now / 28))
    c.args.table.now counted.new.table c.args.entries.now counted.new.entries c.args.table2.now counted.new.table2 c.args.entries2.now counted.new.entries2
    c.args.current.now counted.new.current counted.result counted.ensures.0 same in
    let room = counted.ensures.1 in
    (omega (arith, n, room), omega (arith, n, rows, same))

pub fill_records-requires-2 : goal.fill_records-requires-2
fill_records-requires-2 c =
    let counted = c.patch_within-counted in
    let same : length counted.new.table2 ≡ length c.args.table2.now = counted.auto.table2 in
    let m : c.incoming_cells-m.result ≡ counted.result.incoming = c.incoming_cells-m.ensures in
    let rows = cell-rows c.args.start.now
    (course c.args.start.now c.args.file.now c.args.number c.args.incoming.now c.args.current.now
    (room_for (length c.args.table.now) (length c.args.records.now)) (length c.args.entries.now / 28)
    (room_for (length c.args.table2.now) (length c.args.records2.now)) (length c.args.entries2.now / 28))
    c.args.table.now counted.new.table c.args.entries.now counted.new.entries c.args.table2.now counted.new.table2 c.args.entries2.now counted.new.entries2
    c.args.current.now counted.new.current counted.result counted.ensures.0 same in
    let room = counted.ensures.2 in
    (omega (arith, m, room), omega (arith, m, rows, same))

pub returns : goal.returns
returns c =
    let counted = c.patch_within-counted in
    patched_records c.args.start.now c.args.file.now c.args.number c.args.incoming.now c.args.current.now
    (room_for (length c.args.table.now) (length c.args.records.now)) (length c.args.entries.now / 28)
    (room_for (length c.args.table2.now) (length c.args.records2.now)) (length c.args.entries2.now / 28)
    c.args.table.now counted.new.table c.args.entries.now counted.new.entries c.args.table2.now counted.new.table2 c.args.entries2.now counted.new.entries2
    counted.new.current counted.result c.args.records.now c.fill_records.new.records c.args.records2.now c.fill_records-2.new.records
    c.file_cells-n.result c.incoming_cells-m.result counted.ensures.0 c.file_cells-n.ensures c.incoming_cells-m.ensures
    c.fill_records.ensures c.fill_records-2.ensures
