-- `reader::read_file` meets its contract: two passes, the first to judge, the second to fill.
use Rattle.std.proofs.Common.{refl, true, ◌∙◌, ◌/◌, length, replicate}
use Rattle.readcells.specs.Files.{as_pass, too_long, short_enough, file_refused, file_read}
use Rattle.reader.proofs.read_file.Goals as goal

pub returns-then-text-gt-LIMIT : goal.returns-then-text-gt-LIMIT
returns-then-text-gt-LIMIT c =
    file_refused _ 1 0 _ _ _ _ _ (too_long (length c.args.cells.now / 7) (length c.args.entries.now / 28) c.args.text.now c.if-text-gt-LIMIT.true) refl refl c.refused.ensures

pub returns-in-Err : goal.returns-in-Err
returns-in-Err c =
    let why = c.in-Err.refusal in
    let a = c.in-Err.ensures in
    file_refused _ why.number why.place _ _ _ _ _ (short_enough (length c.args.cells.now / 7) (length c.args.entries.now / 28) c.args.text.now c.if-text-gt-LIMIT.false ∙ a.0) (a.1 refl).0 (a.1 refl).1 c.refused-in-Err.ensures

pub returns-in-Ok : goal.returns-in-Ok
returns-in-Ok c =
    let n = c.in-Ok.pass.counts in
    let (d, unit, a, w) = as_pass c.args.text.now true (length c.args.cells.now / 7) (length c.args.entries.now / 28) c.read_all.new.cells c.read_all-in-Ok.new.cells c.read_all.new.entries c.read_all-in-Ok.new.entries (replicate 14 0) c.read_all-in-Ok.new.texts c.read_all-in-Ok.result c.read_all-in-Ok.ensures in
    file_read _ _ (length c.args.cells.now / 7) (length c.args.entries.now / 28) n.cells n.entries _ _ _ _ _ _ c.read_all.new.texts _ c.in-Ok.pass.slash d c.in-Ok.pass.unit unit a _
    (short_enough (length c.args.cells.now / 7) (length c.args.entries.now / 28) c.args.text.now c.if-text-gt-LIMIT.false) c.in-Ok.ensures w (refl, refl, refl, refl)
