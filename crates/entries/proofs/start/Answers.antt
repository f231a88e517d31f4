-- `entries::start` meets its contract.
use borrow.Author.Tests.{eq-eqb, ne_eqb, lt-leb, le-leb}
use Rattle.entries.proofs.start.Goals.{then-token-ne7-via-then-token-ne7, then-token-ne7-via-else-token-ne7+then-kind-least, then-token-ne7-via-else-token-ne7+else-kind-least+then-most-kind}
use Rattle.entries.proofs.start.Goals as goal

pub returns-then-token-ne7 : goal.returns-then-token-ne7
returns-then-token-ne7 c =
    elim c.then-token-ne7.branch [
      | then-token-ne7-via-then-token-ne7 w ↦ simp (ne_eqb c.args.token.kind 7 w.if-token-ne7.true, c.wrong_at-number.ensures)
      | then-token-ne7-via-else-token-ne7+then-kind-least w ↦ simp (lt-leb c.args.least _ (rw c.key_of-kind.ensures at w.if-kind-least.true), eq-eqb c.args.token.kind 7 w.if-token-ne7.false, c.wrong_at-number.ensures)
      | then-token-ne7-via-else-token-ne7+else-kind-least+then-most-kind w ↦ simp (
        le-leb c.args.least _ (rw c.key_of-kind.ensures at w.if-kind-least.false),
        lt-leb _ c.args.most (rw c.key_of-kind.ensures at w.if-most-kind.true),
        eq-eqb c.args.token.kind 7 w.if-token-ne7.false,
        c.wrong_at-number.ensures,
      )
    ]

pub returns-then-token : goal.returns-then-token
returns-then-token c =
    simp (le-leb c.args.least _ (rw c.key_of-kind.ensures at c.if-kind-least.false), le-leb _ c.args.most (rw c.key_of-kind.ensures at c.if-most-kind.false), eq-eqb c.args.token.kind 7 c.if-token-ne7.false, c.if-token.true)

pub returns-then-room-eq0 : goal.returns-then-room-eq0
returns-then-room-eq0 c =
    simp (le-leb c.args.least _ (rw c.key_of-kind.ensures at c.if-kind-least.false), le-leb _ c.args.most (rw c.key_of-kind.ensures at c.if-most-kind.false), eq-eqb c.args.token.kind 7 c.if-token-ne7.false, c.if-token.false, c.if-room-eq0.true)

pub returns : goal.returns
returns c =
    simp (le-leb c.args.least _ (rw c.key_of-kind.ensures at c.if-kind-least.false), le-leb _ c.args.most (rw c.key_of-kind.ensures at c.if-most-kind.false), eq-eqb c.args.token.kind 7 c.if-token-ne7.false, c.if-token.false, ne_eqb c.args.room 0 c.if-room-eq0.false, c.key_of-kind.ensures)
