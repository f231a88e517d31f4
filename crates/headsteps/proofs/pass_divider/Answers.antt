-- `headsteps::pass_divider` meets its contract: the entry is read, or passed over.
use Rattle.std.proofs.Common.{Ok}
use Rattle.rules.specs.Promises.{InHand}
use Rattle.rules.specs.Rules.{ahead}
use Rattle.headsteps.specs.Header.{divider_over, divider_there}
use Rattle.headsteps.proofs.pass_divider.Goals as goal

pub read_divider-requires : goal.read_divider-requires
read_divider-requires c =
    let h = c.in_ok-hand.hand in
    let i : InHand c.args.text.now (Ok h) = rw c.in_ok-hand.was at c.requires in
    (ahead c.args.text.now h.from h.token.kind h.token.start h.token.end h.token.long i.0 i.1).1

pub returns-then-hand-eq48 : goal.returns-then-hand-eq48
returns-then-hand-eq48 c =
    let h = c.in_ok-hand.hand in
    let i : InHand c.args.text.now (Ok h) = rw c.in_ok-hand.was at c.requires in
    rw c.in_ok-hand.was (divider_there c.args.text.now h i c.read_divider.result c.if-hand-eq48.true c.read_divider.ensures)

pub returns : goal.returns
returns c =
    let h = c.in_ok-hand.hand in
    let i : InHand c.args.text.now (Ok h) = rw c.in_ok-hand.was at c.requires in
    rw c.in_ok-hand.was (divider_over c.args.text.now h i c.if-hand-eq48.false)
