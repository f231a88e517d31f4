-- `tokenforms::token_here` meets its contract.
use mathlib.Core.Path.{sym, ◌∙◌}
use borrow.Author.Rules.{rules}
use borrow.Author.Tests.{le-leb}
use Rattle.tokenforms.specs.Tokens.{token_of}
use Rattle.tokenforms.specs.HereLaws.{mark-here, word_here}
use Rattle.tokenforms.proofs.token_here.Goals as goal

pub returns-then-text-i : goal.returns-then-text-i
unfolding token_of
returns-then-text-i c = rw (le-leb _ _ c.if-text-i.true)

pub returns-then-mark-ne0 : goal.returns-then-mark-ne0
returns-then-mark-ne0 c = c.single.ensures ∙ sym (mark-here _ _ _ (search rules) (sym c.mark_of-mark.ensures) c.if-mark-ne0.true)

pub returns-then-i-e : goal.returns-then-i-e
returns-then-i-e c = sym (word_here _ _ _ (search rules) (sym c.word_end-e.ensures.0) c.if-i-e.true)
