-- `sheet::second_vs` meets its contract.
use Rattle.std.proofs.Common.{sym, ◌∙◌}
use borrow.Author.Tests.{eqb-true, eqb-false}
use Rattle.sheet.specs.Find.{wanted, second_wanted, cmp-empty, cmp-some}
use Rattle.sheet.proofs.second_vs.Goals as goal

pub returns-then-is_empty : goal.returns-then-is_empty
unfolding wanted second_wanted
returns-then-is_empty c =
    rw (← c.second_end-end.ensures, ← c.one_end.ensures, c.if-one_end.true) (sym (cmp-empty _ (eqb-true _ _ (sym c.is_empty.ensures ∙ c.if-is_empty.true))))

pub returns-else-is_empty : goal.returns-else-is_empty
unfolding wanted second_wanted
returns-else-is_empty c =
    rw (← c.second_end-end.ensures, ← c.one_end.ensures, c.if-one_end.true) (sym (cmp-some _ (eqb-false _ _ (sym c.is_empty.ensures ∙ c.if-is_empty.false))))

pub returns : goal.returns
unfolding wanted second_wanted
returns c = rw (← c.second_end-end.ensures, ← c.one_end.ensures, c.if-one_end.false) c.cmp_full.ensures
