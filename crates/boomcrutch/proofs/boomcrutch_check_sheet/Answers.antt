-- `boomcrutch::boomcrutch_check_sheet` meets its contract.
use Rattle.std.proofs.Common.{◌∙◌, ap}
use Rattle.answers.specs.Exports.{sheet_numbers}
use Rattle.boomcrutch.proofs.boomcrutch_check_sheet.Goals as goal

pub returns : goal.returns
returns c = c.sheet_numbers.ensures ∙ ap sheet_numbers c.check_sheet-check.ensures
