-- `headsteps::expect_key` meets its contract.
use Rattle.std.proofs.Common.{arith, Ok}
use Rattle.tokens.specs.Stream.{onwards}
use Rattle.rules.specs.Promises.{InHand}
use Rattle.headsteps.specs.Header.{key_read, key-wrong}
use Rattle.headsteps.proofs.expect_key.Goals as goal

pub returns-then-hand-n : goal.returns-then-hand-n
returns-then-hand-n c =
    let h = c.in_ok-hand.hand in
    let i : InHand c.args.text.now (Ok h) = rw c.in_ok-hand.was at c.requires.0 in
    rw c.in_ok-hand.was (key_read c.args.text.now h i c.args.n c.requires.1 c.if-hand-n.true)

pub slice_bounds-wrong_at-count : goal.slice_bounds-wrong_at-count
slice_bounds-wrong_at-count c =
    let h = c.in_ok-hand.hand in
    let i : InHand c.args.text.now (Ok h) = rw c.in_ok-hand.was at c.requires.0 in
    let g = onwards c.args.text.now h.from h.token.kind h.token.start h.token.end h.token.long i.0 i.1 in omega (arith, g)

pub slice_bounds-wrong_at-start : goal.slice_bounds-wrong_at-start
slice_bounds-wrong_at-start c =
    let h = c.in_ok-hand.hand in
    let i : InHand c.args.text.now (Ok h) = rw c.in_ok-hand.was at c.requires.0 in
    let g = onwards c.args.text.now h.from h.token.kind h.token.start h.token.end h.token.long i.0 i.1 in omega (arith, g)

pub slice_bounds-wrong_at-end : goal.slice_bounds-wrong_at-end
slice_bounds-wrong_at-end c =
    let h = c.in_ok-hand.hand in
    let i : InHand c.args.text.now (Ok h) = rw c.in_ok-hand.was at c.requires.0 in
    let g = onwards c.args.text.now h.from h.token.kind h.token.start h.token.end h.token.long i.0 i.1 in g.2

pub returns : goal.returns
returns c =
    let h = c.in_ok-hand.hand in
    let i : InHand c.args.text.now (Ok h) = rw c.in_ok-hand.was at c.requires.0 in
    rw c.in_ok-hand.was (key-wrong c.args.text.now h i c.args.n c.wrong_at.result c.if-hand-n.false c.wrong_at.ensures)
