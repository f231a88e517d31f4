-- `header::pass_scale` meets its contract: the entry is read, or passed over.
use Rattle.std.proofs.Common.{Ok}
use Rattle.std.proofs.lemmas.Result.{err_from_is_err_and}
use Rattle.rules.specs.Promises.{InHand}
use Rattle.rules.specs.Rules.{ahead}
use Rattle.headsteps.specs.Header.{scale_over, scale_there_not, scale_open, scale_there}
use Rattle.header.proofs.pass_scale.Goals as goal

pub returns-then-hand-ne52 : goal.returns-then-hand-ne52
returns-then-hand-ne52 c =
    let h = c.in_ok-hand.hand in
    let i : InHand c.args.text.now (Ok h) = rw c.in_ok-hand.was at c.requires in
    rw c.in_ok-hand.was (scale_over c.args.text.now h i c.if-hand-ne52.true)

pub read_scale-requires : goal.read_scale-requires
read_scale-requires c =
    let h = c.in_ok-hand.hand in
    let i : InHand c.args.text.now (Ok h) = rw c.in_ok-hand.was at c.requires in
    (ahead c.args.text.now h.from h.token.kind h.token.start h.token.end h.token.long i.0 i.1).1

pub returns-in_err-scale : goal.returns-in_err-scale
returns-in_err-scale c =
    let h = c.in_ok-hand.hand in
    let i : InHand c.args.text.now (Ok h) = rw c.in_ok-hand.was at c.requires in
    let p = err_from_is_err_and c.from_residual-in_err-scale.result c.from_residual-in_err-scale.ensures.1 in
    rw (p.1, p.2, c.in_ok-hand.was) (scale_there_not c.args.text.now h i _ _ c.if-hand-ne52.false c.in_err-scale.ensures)

pub returns-in_err-take_next : goal.returns-in_err-take_next
returns-in_err-take_next c =
    let h = c.in_ok-hand.hand in
    let i : InHand c.args.text.now (Ok h) = rw c.in_ok-hand.was at c.requires in
    let p = err_from_is_err_and c.from_residual-in_err-take_next.result c.from_residual-in_err-take_next.ensures.1 in
    rw (p.1, p.2, c.in_ok-hand.was) (scale_open c.args.text.now h i c.in_ok-scale.scale c.if-hand-ne52.false c.in_ok-scale.ensures _ _ c.in_err-take_next.ensures)

pub returns : goal.returns
returns c =
    let h = c.in_ok-hand.hand in
    let i : InHand c.args.text.now (Ok h) = rw c.in_ok-hand.was at c.requires in
    rw c.in_ok-hand.was (scale_there c.args.text.now h i c.in_ok-scale.scale c.if-hand-ne52.false c.in_ok-scale.ensures _ c.in_ok-take_next.ensures)
