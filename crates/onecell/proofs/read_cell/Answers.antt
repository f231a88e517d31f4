-- `onecell::read_cell` meets its contract: two passes, the first to judge, the second to fill.
use Rattle.std.proofs.Common.{refl, ◌∙◌, ◌/◌, length, replicate}
use Rattle.readcells.specs.Files.{file_refused, file_read}
use Rattle.onecell.specs.One.{cell_too_long, cell_short}
use Rattle.onecell.proofs.read_cell.Goals as goal

pub returns-then-text-gt-LIMIT : goal.returns-then-text-gt-LIMIT
returns-then-text-gt-LIMIT c =
    file_refused _ 1 0 _ _ _ _ _ (cell_too_long c.args.slash c.args.unit (length c.args.cells.now / 7) (length c.args.entries.now / 28) c.args.text.now c.if-text-gt-LIMIT.true) refl refl c.refused.ensures

pub returns-in-Err : goal.returns-in-Err
returns-in-Err c =
    let why = c.in-Err.refusal in
    let a = c.in-Err.ensures in
    file_refused _ why.number why.place _ _ _ _ _ (cell_short c.args.slash c.args.unit (length c.args.cells.now / 7) (length c.args.entries.now / 28) c.args.text.now c.if-text-gt-LIMIT.false ∙ a.0) (a.1 refl).0 (a.1 refl).1 c.refused-in-Err.ensures

pub returns-in-Ok : goal.returns-in-Ok
returns-in-Ok c =
    let n = c.in-Ok.counts in
    file_read _ _ (length c.args.cells.now / 7) (length c.args.entries.now / 28) n.cells n.entries _ _ _ _ _ _ (replicate 14 0) _ c.args.slash _ c.args.unit _ c.one_cell-in-Ok.result _
    (cell_short c.args.slash c.args.unit (length c.args.cells.now / 7) (length c.args.entries.now / 28) c.args.text.now c.if-text-gt-LIMIT.false) c.in-Ok.ensures c.one_cell-in-Ok.ensures (refl, refl, refl, refl)
