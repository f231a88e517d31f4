-- `readrecords::read_within` meets its contract.
use Rattle.std.proofs.Common.{◌*◌, ◌/◌, ◌≤◌, ◌≡◌, sym, arith, length, take, length-take-le, rules}
use Rattle.grammar.specs.Outcome.{read_file}
use Rattle.readrecords.proofs.ReadingLaws.{within-part, within-whole}
use Rattle.readrecords.proofs.read_within.Goals as goal

pub slice_bounds-read_file-end-then-room-table : goal.slice_bounds-read_file-end-then-room-table
slice_bounds-read_file-end-then-room-table c =
    let inside : 7 * c.args.room ≤ length c.args.table.now = omega (arith, c.if-room-table.true) in
    sym (length-take-le (7 * c.args.room) c.args.table.now inside)

pub returns-then-room-table : goal.returns-then-room-table
returns-then-room-table c =
    let same : length c.read_file.new.cells ≡ length (take (7 * c.args.room) c.args.table.now) = search rules in
    within-part (λ k. read_file k (length c.args.entries.now / 28) c.args.text.now) c.args.room c.args.table.now c.read_file.new.cells
    c.args.entries.now c.read_file.new.entries c.read_file.result c.if-room-table.true c.read_file.ensures same

pub returns : goal.returns
returns c =
    let same : length c.read_file-2.new.cells ≡ length c.args.table.now = search rules in
    within-whole (λ k. read_file k (length c.args.entries.now / 28) c.args.text.now) c.args.room c.args.table.now c.read_file-2.new.cells
    c.args.entries.now c.read_file-2.new.entries c.read_file-2.result c.if-room-table.false c.read_file-2.ensures same
