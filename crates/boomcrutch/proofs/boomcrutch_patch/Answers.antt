-- `boomcrutch::boomcrutch_patch` meets its contract.
use Rattle.answers.specs.Exports.{same-patched}
use Rattle.boomcrutch.proofs.boomcrutch_patch.Goals as goal

pub returns : goal.returns
returns c =
    same-patched _ _ _ _ _ _ _ _ _ _ _ _ _ _ c.patch-answer.ensures c.patched_numbers.ensures
