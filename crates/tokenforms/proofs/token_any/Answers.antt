-- `tokenforms::token_any` meets its contract.
use borrow.Author.Tests.{le-leb, lt-leb, eq-eqb, ne_eqb}
use Rattle.tokenforms.specs.Tokens.{behind, token_at}
use Rattle.tokenforms.proofs.token_any.Goals as goal

pub returns-then-mode-eq0 : goal.returns-then-mode-eq0
unfolding behind token_at
returns-then-mode-eq0 c = simp (eq-eqb _ _ c.if-mode-eq0.true, ← c.skip_blank-skipped.ensures.ends, ← c.skip_blank-skipped.ensures.state) c.token_here.ensures

pub returns-then-text-i : goal.returns-then-text-i
unfolding behind token_at
returns-then-text-i c = simp (le-leb _ _ c.if-text-i.true, eq-eqb _ _ c.if-mode-eq1.true, ne_eqb _ _ c.if-mode-eq0.false, ← c.skip_blank-skipped.ensures.ends, ← c.skip_blank-skipped.ensures.state)

pub returns-then-mode-eq1 : goal.returns-then-mode-eq1
unfolding behind token_at
returns-then-mode-eq1 c = simp (lt-leb _ _ c.if-text-i.false, eq-eqb _ _ c.if-mode-eq1.true, ne_eqb _ _ c.if-mode-eq0.false, ← c.skip_blank-skipped.ensures.ends, ← c.skip_blank-skipped.ensures.state)

pub returns-then-text-e : goal.returns-then-text-e
unfolding behind token_at
returns-then-text-e c = simp (le-leb _ _ c.if-text-e.true, ← c.block_end-e.ensures, ne_eqb _ _ c.if-mode-eq1.false, ne_eqb _ _ c.if-mode-eq0.false, ← c.skip_blank-skipped.ensures.ends, ← c.skip_blank-skipped.ensures.state)

pub returns : goal.returns
unfolding behind token_at
returns c = simp (lt-leb _ _ c.if-text-e.false, ← c.block_end-e.ensures, ne_eqb _ _ c.if-mode-eq1.false, ne_eqb _ _ c.if-mode-eq0.false, ← c.skip_blank-skipped.ensures.ends, ← c.skip_blank-skipped.ensures.state)
