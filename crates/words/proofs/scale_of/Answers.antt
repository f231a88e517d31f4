-- `words::scale_of` meets its contract: a multiple, or a multiple with a unit of two letters or of one, or no scale.
use Rattle.std.proofs.Common.{arith, sym, ◌∙◌}
use Rattle.words.specs.Scales.{multiple_number, cut-found, last_cut}
use Rattle.words.proofs.scale_of.Goals as goal

pub returns-then-multiple-ne0 : goal.returns-then-multiple-ne0
returns-then-multiple-ne0 c =
    c.multiple_of-multiple.ensures ∙ sym (multiple_number c.args.word.now (omega (arith, c.multiple_of-multiple.ensures)))

pub returns-then-joined-ne0 : goal.returns-then-joined-ne0
returns-then-joined-ne0 c =
    c.joined_scale-joined.ensures ∙ sym (cut-found 2 c.args.word.now (omega (arith, c.joined_scale-joined.ensures)))

pub returns-else-joined-ne0 : goal.returns-else-joined-ne0
returns-else-joined-ne0 c =
    c.joined_scale.ensures ∙ sym (last_cut c.args.word.now (omega (arith, c.multiple_of-multiple.ensures)) (omega (arith, c.joined_scale-joined.ensures)))
