-- `records::annotate_within` meets its contract.
use Rattle.std.proofs.Common.{◌*◌, ◌/◌, ◌≤◌, ◌≡◌, sym, arith, length, take, length-take-le, rules}
use Rattle.records.proofs.AnnotatingLaws.{counted_part, counted_whole}
use Rattle.records.proofs.annotate_within.Goals as goal

pub slice_bounds-annotate_counted-end-then-room-table : goal.slice_bounds-annotate_counted-end-then-room-table
slice_bounds-annotate_counted-end-then-room-table c =
    let inside : 7 * c.args.room ≤ length c.args.table.now = omega (arith, c.if-room-table.true) in
    sym (length-take-le (7 * c.args.room) c.args.table.now inside)

pub returns-then-room-table : goal.returns-then-room-table
returns-then-room-table c =
    let same : length c.annotate_counted.new.cells ≡ length (take (7 * c.args.room) c.args.table.now) = search rules in
    counted_part c.args.start.now c.args.text.now (length c.args.entries.now / 28) (length c.args.out.now) c.args.room c.args.table.now
    c.annotate_counted.new.cells c.args.entries.now c.annotate_counted.new.entries c.args.out.now c.annotate_counted.new.out c.annotate_counted.result
    c.if-room-table.true c.annotate_counted.ensures same

pub returns : goal.returns
returns c =
    let same : length c.annotate_counted-2.new.cells ≡ length c.args.table.now = search rules in
    counted_whole c.args.start.now c.args.text.now (length c.args.entries.now / 28) (length c.args.out.now) c.args.room c.args.table.now
    c.annotate_counted-2.new.cells c.args.entries.now c.annotate_counted-2.new.entries c.args.out.now c.annotate_counted-2.new.out c.annotate_counted-2.result
    c.if-room-table.false c.annotate_counted-2.ensures same
