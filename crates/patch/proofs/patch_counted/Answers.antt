-- `patch::patch_counted` meets its contract.
use Prim.Native.Nat.{◌/◌}
use mathlib.Core.Path.{sym, ◌∙◌}
use lib.ListN.{length}
use Rattle.meant.specs.Find.{sheet_good}
use Rattle.patch.specs.PatchLaws.{patch-unfit, patch-length, patch_records}
use Rattle.patch.proofs.patch_counted.Goals as goal

pub returns-then-current-start : goal.returns-then-current-start
returns-then-current-start c =
    rw c.refused_after-then-current-start.ensures (patch-length c.args.start.now c.args.file.now c.args.number c.args.incoming.now c.args.current.now
    (length c.args.cells.now / 7) (length c.args.entries.now / 28) (length c.args.cells2.now / 7) (length c.args.entries2.now / 28)
    c.args.cells.now c.args.entries.now c.args.cells2.now c.args.entries2.now c.in-Ok.outline.instances c.in-Ok.outline.arcs
    c.in-Ok.outline.first_arc (sym c.in-Ok.ensures) c.if-current-start.true)

pub same_records-requires : goal.same_records-requires
same_records-requires c =
    let s = sheet_good c.args.start.now c.in-Ok.outline.instances c.in-Ok.outline.arcs c.in-Ok.outline.first_arc
    (sym c.in-Ok.ensures) in
    (s.arcs, c.if-current-start.false)

pub returns-then-not-same_records : goal.returns-then-not-same_records
returns-then-not-same_records c =
    rw c.refused_after-then-not-same_records.ensures (patch_records c.args.start.now c.args.file.now c.args.number c.args.incoming.now c.args.current.now
    (length c.args.cells.now / 7) (length c.args.entries.now / 28) (length c.args.cells2.now / 7) (length c.args.entries2.now / 28)
    c.args.cells.now c.args.entries.now c.args.cells2.now c.args.entries2.now c.in-Ok.outline.instances c.in-Ok.outline.arcs
    c.in-Ok.outline.first_arc (sym c.in-Ok.ensures) c.if-current-start.false (sym c.same_records.ensures ∙ c.if-not-same_records.true))

pub patch_file-requires : goal.patch_file-requires
patch_file-requires c =
    (sym c.in-Ok.ensures, c.if-current-start.false, sym c.same_records.ensures ∙ c.if-not-same_records.false)

pub returns-in_default : goal.returns-in_default
returns-in_default c =
    rw c.refused_after.ensures (patch-unfit c.args.start.now c.args.file.now c.args.number c.args.incoming.now c.args.current.now
    (length c.args.cells.now / 7) (length c.args.entries.now / 28) (length c.args.cells2.now / 7) (length c.args.entries2.now / 28)
    c.args.cells.now c.args.entries.now c.args.cells2.now c.args.entries2.now c.in_default.field-0.number c.in_default.field-0.place
    (sym c.in_default.ensures))
