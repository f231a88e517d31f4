-- `patchwithin::patch_within` meets its contract.
use Rattle.std.proofs.Common.{◌*◌, ◌/◌, ◌≤◌, ◌≡◌, sym, arith, length, take, length-take-le, rules}
use Rattle.readrecords.specs.Reading.{room_for}
use Rattle.patch.specs.Meaning.{course}
use Rattle.patchwithin.specs.PatchingLaws.{file-part, file-whole}
use Rattle.patchwithin.proofs.patch_within.Goals as goal

pub slice_bounds-patch_incoming_within-end-then-room-table : goal.slice_bounds-patch_incoming_within-end-then-room-table
slice_bounds-patch_incoming_within-end-then-room-table c =
    let inside : 7 * c.args.room ≤ length c.args.table.now = omega (arith, c.if-room-table.true) in
    sym (length-take-le (7 * c.args.room) c.args.table.now inside)

pub returns-then-room-table : goal.returns-then-room-table
returns-then-room-table c =
    let same : length c.patch_incoming_within.new.table ≡ length (take (7 * c.args.room) c.args.table.now) = search rules in
    let w = file-part (λ k. course c.args.start.now c.args.file.now c.args.number c.args.incoming.now c.args.current.now k (length c.args.entries.now / 28)
    (room_for (length c.args.table2.now) c.args.room2) (length c.args.entries2.now / 28))
    c.args.start.now c.args.room c.args.table.now c.patch_incoming_within.new.table c.args.entries.now c.patch_incoming_within.new.entries
    c.args.table2.now c.patch_incoming_within.new.table2 c.args.entries2.now c.patch_incoming_within.new.entries2 c.args.current.now
    c.patch_incoming_within.new.current c.patch_incoming_within.result c.if-room-table.true c.patch_incoming_within.ensures.0 same in
    (w.0, w.1, c.patch_incoming_within.ensures.1)

pub returns : goal.returns
returns c =
    let same : length c.patch_incoming_within-2.new.table ≡ length c.args.table.now = search rules in
    let w = file-whole (λ k. course c.args.start.now c.args.file.now c.args.number c.args.incoming.now c.args.current.now k (length c.args.entries.now / 28)
    (room_for (length c.args.table2.now) c.args.room2) (length c.args.entries2.now / 28))
    c.args.start.now c.args.room c.args.table.now c.patch_incoming_within-2.new.table c.args.entries.now c.patch_incoming_within-2.new.entries
    c.args.table2.now c.patch_incoming_within-2.new.table2 c.args.entries2.now c.patch_incoming_within-2.new.entries2 c.args.current.now
    c.patch_incoming_within-2.new.current c.patch_incoming_within-2.result c.if-room-table.false c.patch_incoming_within-2.ensures.0 same in
    (w.0, w.1, c.patch_incoming_within-2.ensures.1)
