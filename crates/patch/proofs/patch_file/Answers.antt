-- `patch::patch_file` meets its contract.
use Prim.Native.Nat.{◌/◌}
use mathlib.Core.Path.{refl}
use mathlib.Core.Logic.{inl, inr}
use native.Mathlib.Omega.{arith}
use lib.ListN.{length}
use Rattle.patch.specs.PatchLaws.{patch_unread, patch-number, patch_read}
use Rattle.annotate.specs.TextLaws.{read_tables}
use Rattle.patch.proofs.patch_file.Goals as goal

pub returns-then-number-eq0 : goal.returns-then-number-eq0
returns-then-number-eq0 c =
    rw c.refused_after-then-number-eq0.ensures (patch-number c.args.start.now c.args.file.now c.args.number c.args.incoming.now c.args.current.now
    (length c.args.cells.now / 7) (length c.args.entries.now / 28) (length c.args.cells2.now / 7) (length c.args.entries2.now / 28)
    c.args.cells.now c.args.entries.now c.args.cells2.now c.args.entries2.now c.args.outline.instances c.args.outline.arcs c.args.outline.first_arc c.requires.0
    c.requires.1 c.requires.2 c.read_file-read.new.cells c.read_file-read.new.entries c.read_file-read.result c.read_file-read.ensures c.in-Ok.counts c.in-Ok.is (inl c.if-number-eq0.true))

pub returns-then-number-count : goal.returns-then-number-count
returns-then-number-count c =
    rw c.refused_after-then-number-count.ensures (patch-number c.args.start.now c.args.file.now c.args.number c.args.incoming.now c.args.current.now
    (length c.args.cells.now / 7) (length c.args.entries.now / 28) (length c.args.cells2.now / 7) (length c.args.entries2.now / 28)
    c.args.cells.now c.args.entries.now c.args.cells2.now c.args.entries2.now c.args.outline.instances c.args.outline.arcs c.args.outline.first_arc c.requires.0
    c.requires.1 c.requires.2 c.read_file-read.new.cells c.read_file-read.new.entries c.read_file-read.result c.read_file-read.ensures c.in-Ok.counts c.in-Ok.is (inr c.if-number-count.true))

pub patch_cell-requires : goal.patch_cell-requires
patch_cell-requires c =
    let t = read_tables c.args.start.now c.args.file.now (length c.args.cells.now / 7) (length c.args.entries.now / 28)
    c.args.cells.now c.read_file-read.new.cells c.args.entries.now c.read_file-read.new.entries c.args.current.now c.args.outline.instances
    c.args.outline.arcs c.args.outline.first_arc c.requires.0 c.requires.1 c.read_file-read.result c.read_file-read.ensures c.in-Ok.counts
    c.in-Ok.is in
    (c.requires.0, c.requires.1, t.5.cells_fit, t.5.entries_fit_of, omega (arith, c.if-number-eq0.false, c.if-number-count.false))

pub returns-in-Err : goal.returns-in-Err
returns-in-Err c =
    rw c.refused_after.ensures (patch_unread c.args.start.now c.args.file.now c.args.number c.args.incoming.now c.args.current.now
    (length c.args.cells.now / 7) (length c.args.entries.now / 28) (length c.args.cells2.now / 7) (length c.args.entries2.now / 28)
    c.args.cells.now c.args.entries.now c.args.cells2.now c.args.entries2.now c.args.outline.instances c.args.outline.arcs c.args.outline.first_arc c.requires.0
    c.requires.1 c.requires.2 c.read_file-read.new.cells c.read_file-read.new.entries c.read_file-read.result c.read_file-read.ensures c.in-Err.refusal c.in-Err.is)

pub returns-else-number-count : goal.returns-else-number-count
returns-else-number-count c =
    patch_read c.args.start.now c.args.file.now c.args.number c.args.incoming.now c.args.current.now
    (length c.args.cells.now / 7) (length c.args.entries.now / 28) (length c.args.cells2.now / 7) (length c.args.entries2.now / 28)
    c.args.cells.now c.args.entries.now c.args.cells2.now c.args.entries2.now c.args.outline.instances c.args.outline.arcs c.args.outline.first_arc c.requires.0
    c.requires.1 c.requires.2 c.read_file-read.new.cells c.read_file-read.new.entries c.read_file-read.result c.read_file-read.ensures
    (λ i. (c.shared_slice_known-1.given i).fits) (λ i. (c.slice_known-1.given i).fits) c.in-Ok.counts
    c.in-Ok.is (omega (arith, c.if-number-eq0.false)) (omega (arith, c.if-number-count.false)) refl refl c.patch_cell.new.cells2
    c.patch_cell.new.entries2 c.patch_cell.new.current c.patch_cell.result c.patch_cell.ensures.0 c.patch_cell.ensures.1 c.patch_cell.ensures.2
