-- `boomcrutch::boomcrutch_annotate` meets its contract.
use Rattle.std.proofs.Common.{◌∙◌}
use Rattle.answers.specs.Exports.{same-annotated}
use Rattle.boomcrutch.proofs.boomcrutch_annotate.Goals as goal

pub returns : goal.returns
returns c =
    let s = same-annotated _ _ _ _ _ _ _ _ _ c.annotate-answer.ensures in
    (c.annotated_numbers.ensures ∙ s.0, s.1, s.2, s.3)
