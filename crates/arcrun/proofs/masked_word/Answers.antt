-- `arcrun::masked_word` meets its contract.
use borrow.Author.Tests.{eq-eqb, ne_eqb}
use Rattle.meant.specs.Amounts.{given}
use Rattle.meant.specs.Scratch.{masked_word}
use Rattle.arcrun.proofs.masked_word.Goals as goal

pub returns-then-flags-slot-eq0 : goal.returns-then-flags-slot-eq0
unfolding masked_word
returns-then-flags-slot-eq0 c =
    rw (eq-eqb _ 0 c.if-flags-slot-eq0.true)

pub returns : goal.returns
unfolding masked_word given
returns c =
    rw (ne_eqb _ 0 c.if-flags-slot-eq0.false)
