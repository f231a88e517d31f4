-- `headsteps::pass_bare` meets its contract: the entry is read, or passed over.
use Rattle.std.proofs.Common.{Ok}
use Rattle.rules.specs.Promises.{InHand}
use Rattle.std.proofs.lemmas.Result.{err_from_is_err_and}
use Rattle.rules.specs.Rules.{ahead}
use Rattle.headsteps.specs.Header.{passes_over, passes-bare-not, passes-bare}
use Rattle.headsteps.proofs.pass_bare.Goals as goal

pub read_bare-requires : goal.read_bare-requires
read_bare-requires c =
    let h = c.in_ok-hand.hand in
    let i : InHand c.args.text.now (Ok h) = rw c.in_ok-hand.was at c.requires.0 in
    (ahead c.args.text.now h.from h.token.kind h.token.start h.token.end h.token.long i.0 i.1).1

pub returns-in_err-behind : goal.returns-in_err-behind
returns-in_err-behind c =
    let h = c.in_ok-hand.hand in
    let i : InHand c.args.text.now (Ok h) = rw c.in_ok-hand.was at c.requires.0 in
    let p = err_from_is_err_and c.from_residual-in_err-behind.result c.from_residual-in_err-behind.ensures.1 in
    rw (p.1, p.2, c.in_ok-hand.was) (passes-bare-not c.args.text.now h i c.args.n _ _ c.requires.1 c.requires.2 c.if-hand-n.true c.in_err-behind.ensures)

pub returns-then-hand-n : goal.returns-then-hand-n
returns-then-hand-n c =
    let h = c.in_ok-hand.hand in
    let i : InHand c.args.text.now (Ok h) = rw c.in_ok-hand.was at c.requires.0 in
    rw c.in_ok-hand.was (passes-bare c.args.text.now h i c.args.n c.in_ok-behind.behind c.take_opened.result c.requires.1 c.requires.2 c.if-hand-n.true c.in_ok-behind.ensures c.take_opened.ensures)

pub returns : goal.returns
returns c =
    let h = c.in_ok-hand.hand in
    let i : InHand c.args.text.now (Ok h) = rw c.in_ok-hand.was at c.requires.0 in
    rw c.in_ok-hand.was (λ ts. passes_over c.args.text.now h i c.args.n _ c.requires.1 c.if-hand-n.false ts)
