-- `headsteps::pass_text` meets its contract: the entry is read, or passed over.
use Rattle.std.proofs.Common.{Ok}
use Rattle.rules.specs.Promises.{InHand}
use Rattle.rules.specs.Rules.{ahead}
use Rattle.headsteps.specs.Header.{passes_over, passes-text}
use Rattle.headsteps.proofs.pass_text.Goals as goal

pub read_heading-requires : goal.read_heading-requires
read_heading-requires c =
    let h = c.in_ok-hand.hand in
    let i : InHand c.args.text.now (Ok h) = rw c.in_ok-hand.was at c.requires.0 in
    ((ahead c.args.text.now h.from h.token.kind h.token.start h.token.end h.token.long i.0 i.1).1, c.requires.3)

pub returns-then-hand-n : goal.returns-then-hand-n
returns-then-hand-n c =
    let h = c.in_ok-hand.hand in
    let i : InHand c.args.text.now (Ok h) = rw c.in_ok-hand.was at c.requires.0 in
    rw c.in_ok-hand.was (passes-text c.args.text.now h i c.args.n c.args.which _ _ c.read_heading.result c.requires.1 c.requires.2 c.if-hand-n.true c.read_heading.ensures)

pub returns : goal.returns
returns c =
    let h = c.in_ok-hand.hand in
    let i : InHand c.args.text.now (Ok h) = rw c.in_ok-hand.was at c.requires.0 in
    rw c.in_ok-hand.was (passes_over c.args.text.now h i c.args.n _ c.requires.1 c.if-hand-n.false _)
