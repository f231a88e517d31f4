-- `headtexts::header_text` meets its contract.
use mathlib.Core.Path.{◌∙◌}
use borrow.Author.Tests.{le-leb, lt-leb}
use Rattle.headtexts.specs.Texts.{text_of, part_none}
use Rattle.headtexts.proofs.header_text.Goals as goal

pub returns-then-which-le6 : goal.returns-then-which-le6
unfolding text_of
returns-then-which-le6 c =
    c.part_of.ensures ∙ rw (le-leb _ _ c.if-which-le6.true)

pub returns : goal.returns
unfolding text_of
returns c =
    c.part_of-2.ensures ∙ part_none c.args.text.now ∙ rw (lt-leb _ _ c.if-which-le6.false)
