-- `boomcrutch::boomcrutch_read_file` meets its contract: the reader's.
use Rattle.answers.specs.Exports.{same_left}
use Rattle.boomcrutch.proofs.boomcrutch_read_file.Goals as goal

pub returns : goal.returns
returns c =
    same_left _ _ _ _ _ c.read_file-read.result _ c.read_file-read.ensures c.numbers.ensures
