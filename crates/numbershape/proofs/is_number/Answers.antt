-- `numbershape::is_number` meets its contract: parts are found exactly where the word is a number.
use Rattle.std.proofs.Common.{ap, ◌∙◌}
use Rattle.std.specs.Prelude.{is_some}
use Rattle.numbershape.specs.Places.{found_shape}
use Rattle.numbershape.proofs.is_number.Goals as goal

pub returns : goal.returns
returns c = c.is_some.ensures ∙ ap is_some c.find_parts.ensures.parts ∙ found_shape c.args.signed c.args.word.now
