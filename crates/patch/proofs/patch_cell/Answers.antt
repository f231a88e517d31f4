-- `patch::patch_cell` meets its contract.
use Prim.Native.Nat.{◌+◌, ◌*◌}
use mathlib.Core.Path.{refl}
use native.Mathlib.Omega.{arith}
use lib.ListN.{get_or}
use Rattle.patch.specs.PatchLaws.{cell_unread, none_come, cell_ready, cell_read, one-comes}
use Rattle.patch.proofs.patch_cell.Goals as goal
use Rattle.meant.specs.Cells.{entries_within}

pub count_entries-requires : goal.count_entries-requires
count_entries-requires c =
    let w = entries_within c.args.cells.now c.args.outgoing c.args.count c.requires.4 in
    (omega (arith, c.requires.2, c.requires.4), omega (arith, w, c.requires.3))

pub overflow_mul-swap : goal.overflow_mul-swap
overflow_mul-swap c =
    omega (arith, c.requires.2, c.requires.4)

pub overflow_add-swap : goal.overflow_add-swap
overflow_add-swap c =
    omega (arith, c.requires.2, c.requires.4)

pub offset_bounds-cells-outgoing : goal.offset_bounds-cells-outgoing
offset_bounds-cells-outgoing c =
    omega (arith, c.requires.2, c.requires.4)

pub bounds-cells-outgoing : goal.bounds-cells-outgoing
bounds-cells-outgoing c =
    omega (arith, c.requires.2, c.requires.4)

pub bounds-cells2-6 : goal.bounds-cells2-6
bounds-cells2-6 c =
    let ready = cell_ready c.args.texts.start.now c.args.plan.instances c.args.plan.arcs c.args.plan.first c.args.texts.file.now
    c.args.texts.incoming.now c.args.plan.slash c.args.unit c.args.cells.now c.args.entries.now c.args.count c.args.outgoing
    c.args.cells2.now c.read_cell-read.new.cells c.args.entries2.now c.read_cell-read.new.entries c.read_cell-read.result
    c.read_cell-read.ensures c.in-Ok.counts c.in-Ok.is
    (record {
      outgoing = c.args.outgoing;
      cells = c.args.count;
      before = c.count_entries.result;
      leaving = get_or c.args.cells.now
          (7 * c.args.outgoing + 6) 0;
      coming = get_or c.read_cell-read.new.cells 6 0;
    }) c.requires.2 c.requires.3 c.requires.4 refl refl c.count_entries.ensures
    refl refl in
    omega (arith, ready.room2)

pub swap_cell-swapped-requires : goal.swap_cell-swapped-requires
swap_cell-swapped-requires c = (
  c.requires.0,
  cell_ready c.args.texts.start.now c.args.plan.instances c.args.plan.arcs c.args.plan.first c.args.texts.file.now
      c.args.texts.incoming.now c.args.plan.slash c.args.unit c.args.cells.now c.args.entries.now c.args.count c.args.outgoing
      c.args.cells2.now c.read_cell-read.new.cells c.args.entries2.now c.read_cell-read.new.entries c.read_cell-read.result
      c.read_cell-read.ensures c.in-Ok.counts c.in-Ok.is
      (record {
        outgoing = c.args.outgoing;
        cells = c.args.count;
        before = c.count_entries.result;
        leaving = get_or c.args.cells.now
            (7 * c.args.outgoing + 6) 0;
        coming = get_or c.read_cell-read.new.cells 6 0;
      }) c.requires.2 c.requires.3 c.requires.4 refl refl c.count_entries.ensures
      refl refl,
  c.requires.1,
)

pub returns-in-Err : goal.returns-in-Err
returns-in-Err c =
    rw c.refused_after.ensures (
      cell_unread c.args.texts.start.now c.args.plan.instances c.args.plan.arcs c.args.plan.first c.args.texts.file.now
          c.args.texts.incoming.now c.args.plan.slash c.args.unit c.args.cells.now c.args.entries.now c.args.count c.args.outgoing
          c.args.cells2.now c.read_cell-read.new.cells c.args.entries2.now c.read_cell-read.new.entries c.read_cell-read.result
          c.read_cell-read.ensures c.in-Err.refusal c.in-Err.is c.args.current.now,
      refl,
      none_come c.args.texts.start.now c.args.plan.instances c.args.plan.arcs c.args.plan.first c.args.texts.file.now
          c.args.texts.incoming.now c.args.plan.slash c.args.unit c.args.cells.now c.args.entries.now c.args.count c.args.outgoing
          c.args.cells2.now c.read_cell-read.new.cells c.args.entries2.now c.read_cell-read.new.entries c.read_cell-read.result
          c.read_cell-read.ensures c.in-Err.refusal c.in-Err.is,
    )

pub returns-in-Ok : goal.returns-in-Ok
returns-in-Ok c = (
  cell_read c.args.texts.start.now c.args.plan.instances c.args.plan.arcs c.args.plan.first c.args.texts.file.now c.args.texts.incoming.now
      c.args.plan.slash c.args.unit c.args.cells.now c.args.entries.now c.args.count c.args.outgoing c.args.cells2.now
      c.read_cell-read.new.cells c.args.entries2.now c.read_cell-read.new.entries c.read_cell-read.result c.read_cell-read.ensures
      c.in-Ok.counts c.in-Ok.is c.requires.4 (record {
        outgoing = c.args.outgoing;
        cells = c.args.count;
        before = c.count_entries.result;
        leaving = get_or c.args.cells.now (7 * c.args.outgoing + 6) 0;
        coming = get_or c.read_cell-read.new.cells 6
            0;
      }) refl refl c.args.current.now c.swap_cell-swapped.new.current c.swap_cell-swapped.result c.swap_cell-swapped.ensures,
  refl,
  one-comes c.args.texts.start.now c.args.plan.instances c.args.plan.arcs c.args.plan.first c.args.texts.file.now
      c.args.texts.incoming.now c.args.plan.slash c.args.unit c.args.cells.now c.args.entries.now c.args.count c.args.outgoing
      c.args.cells2.now c.read_cell-read.new.cells c.args.entries2.now c.read_cell-read.new.entries c.read_cell-read.result
      c.read_cell-read.ensures c.in-Ok.counts c.in-Ok.is,
)
