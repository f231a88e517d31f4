-- `patchwithin::patch_incoming_within` meets its contract.
use Rattle.std.proofs.Common.{◌*◌, ◌/◌, ◌≤◌, ◌≡◌, sym, arith, length, take, length-take-le, rules}
use Rattle.patch.specs.Meaning.{course}
use Rattle.patchwithin.specs.PatchingLaws.{cell-part, cell-whole}
use Rattle.patchwithin.proofs.patch_incoming_within.Goals as goal

pub slice_bounds-patch_counted-end-then-room2-table2 : goal.slice_bounds-patch_counted-end-then-room2-table2
slice_bounds-patch_counted-end-then-room2-table2 c =
    let inside : 7 * c.args.room2 ≤ length c.args.table2.now = omega (arith, c.if-room2-table2.true) in
    sym (length-take-le (7 * c.args.room2) c.args.table2.now inside)

pub returns-then-room2-table2 : goal.returns-then-room2-table2
returns-then-room2-table2 c =
    let same : length c.patch_counted.new.cells2 ≡ length (take (7 * c.args.room2) c.args.table2.now) = search rules in
    cell-part (λ k. course c.args.start.now c.args.file.now c.args.number c.args.incoming.now c.args.current.now (length c.args.table.now / 7)
    (length c.args.entries.now / 28) k (length c.args.entries2.now / 28))
    c.args.start.now c.args.room2 c.args.table.now c.patch_counted.new.cells c.args.entries.now c.patch_counted.new.entries
    c.args.table2.now c.patch_counted.new.cells2 c.args.entries2.now c.patch_counted.new.entries2 c.args.current.now
    c.patch_counted.new.current c.patch_counted.result c.if-room2-table2.true c.patch_counted.ensures same

pub returns : goal.returns
returns c =
    let same : length c.patch_counted-2.new.cells2 ≡ length c.args.table2.now = search rules in
    cell-whole (λ k. course c.args.start.now c.args.file.now c.args.number c.args.incoming.now c.args.current.now (length c.args.table.now / 7)
    (length c.args.entries.now / 28) k (length c.args.entries2.now / 28))
    c.args.start.now c.args.room2 c.args.table.now c.patch_counted-2.new.cells c.args.entries.now c.patch_counted-2.new.entries
    c.args.table2.now c.patch_counted-2.new.cells2 c.args.entries2.now c.patch_counted-2.new.entries2 c.args.current.now
    c.patch_counted-2.new.current c.patch_counted-2.result c.if-room2-table2.false c.patch_counted-2.ensures same
