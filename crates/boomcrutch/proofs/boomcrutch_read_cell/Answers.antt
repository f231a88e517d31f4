-- `boomcrutch::boomcrutch_read_cell` meets its contract: the reader's, behind the tests of the divider and the time scale.
use Rattle.std.proofs.Common.{refl, length, rules, ◌/◌}
use Rattle.answers.specs.Exports.{same_left, no_divider, no_scale, cell-by}
use Rattle.boomcrutch.proofs.boomcrutch_read_cell.Goals as goal

pub returns-then-slash-gt1 : goal.returns-then-slash-gt1
returns-then-slash-gt1 c =
    rw (no_divider c.args.slash c.args.scale (length c.args.cells.now / 7) (length c.args.entries.now / 28) c.args.text.now (search rules)) (c.no_setting.ensures, refl, refl)

pub returns-then-scale-gt17 : goal.returns-then-scale-gt17
returns-then-scale-gt17 c =
    rw (no_scale c.args.slash c.args.scale (length c.args.cells.now / 7) (length c.args.entries.now / 28) c.args.text.now (search rules) (search rules)) (c.no_setting-then-scale-gt17.ensures, refl, refl)

pub returns : goal.returns
returns c =
    rw (cell-by c.args.slash c.args.scale (length c.args.cells.now / 7) (length c.args.entries.now / 28) c.args.text.now (search rules) (search rules)) (same_left _ _ _ _ _ c.read_cell-read.result _ c.read_cell-read.ensures c.numbers.ensures)
