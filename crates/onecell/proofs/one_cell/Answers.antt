-- `onecell::one_cell` meets its contract: the bracket, the word CELL, the rest of the cell, and the text's end.
use Rattle.std.proofs.Common.{refl, arith}
use Rattle.std.proofs.lemmas.Result.{err_from_is_err_and}
use Rattle.tokens.specs.Stream.{onwards}
use Rattle.onecell.specs.One.{one-stops, one-wrong, one-full, one_tail_not, one-done}
use Rattle.onecell.proofs.one_cell.Goals as goal

pub returns-in_err-hand : goal.returns-in_err-hand
returns-in_err-hand c =
    let p = err_from_is_err_and c.from_residual.result c.from_residual.ensures.1 in
    let why = c.in_err-hand.field-0.0 in
    rw (p.1, p.2) (one-stops c.args.text.now c.args.slash c.args.unit c.args.room.cells c.args.room.entries why.number why.place c.in_err-hand.ensures, λ f. (refl, refl))

pub slice_bounds-wrong_at-count : goal.slice_bounds-wrong_at-count
slice_bounds-wrong_at-count c =
    let h = c.in_ok-hand.hand in
    let g = onwards c.args.text.now h.from h.token.kind h.token.start h.token.end h.token.long c.in_ok-hand.ensures.1.0 c.in_ok-hand.ensures.1.1 in omega arith

pub slice_bounds-wrong_at-start : goal.slice_bounds-wrong_at-start
slice_bounds-wrong_at-start c =
    let h = c.in_ok-hand.hand in
    let g = onwards c.args.text.now h.from h.token.kind h.token.start h.token.end h.token.long c.in_ok-hand.ensures.1.0 c.in_ok-hand.ensures.1.1 in omega arith

pub slice_bounds-wrong_at-end : goal.slice_bounds-wrong_at-end
slice_bounds-wrong_at-end c =
    let h = c.in_ok-hand.hand in
    let g = onwards c.args.text.now h.from h.token.kind h.token.start h.token.end h.token.long c.in_ok-hand.ensures.1.0 c.in_ok-hand.ensures.1.1 in g.2

pub returns-then-hand-ne53 : goal.returns-then-hand-ne53
returns-then-hand-ne53 c =
    let h = c.in_ok-hand.hand in
    (one-wrong c.args.text.now c.args.slash c.args.unit c.args.room.cells c.args.room.entries h.from h.token.kind h.token.start h.token.end h.key h.token.long c.in_ok-hand.ensures c.wrong_at-number.result c.if-hand-ne53.true c.wrong_at-number.ensures, λ f. (refl, refl))

pub returns-then-room-eq0 : goal.returns-then-room-eq0
returns-then-room-eq0 c =
    let h = c.in_ok-hand.hand in
    (one-full c.args.text.now c.args.slash c.args.unit c.args.room.cells c.args.room.entries h.from h.token.kind h.token.start h.token.end h.key h.token.long c.in_ok-hand.ensures c.if-hand-ne53.false c.if-room-eq0.true, λ f. (refl, refl))

pub read_tail-requires : goal.read_tail-requires
read_tail-requires c =
    let h = c.in_ok-hand.hand in
    let g = onwards c.args.text.now h.from h.token.kind h.token.start h.token.end h.token.long c.in_ok-hand.ensures.1.0 c.in_ok-hand.ensures.1.1 in
    (g.2, omega (arith, c.requires.1), omega (arith, c.if-room-eq0.false, c.requires.0))

pub returns-in_err-tail : goal.returns-in_err-tail
returns-in_err-tail c =
    let h = c.in_ok-hand.hand in
    let p = err_from_is_err_and c.from_residual-in_err-tail.result c.from_residual-in_err-tail.ensures.1 in
    let why = c.in_err-tail.field-0.0 in
    let t = c.in_err-tail.ensures in
    rw (p.1, p.2) (one_tail_not c.args.text.now c.args.slash c.args.unit c.args.room.cells c.args.room.entries h.from h.token.kind h.token.start h.token.end h.key h.token.long c.in_ok-hand.ensures c.if-hand-ne53.false c.if-room-eq0.false why.number why.place t.0, λ f. ((t.1 f).1, (t.1 f).0))

pub returns : goal.returns
returns c =
    let h = c.in_ok-hand.hand in
    let t = c.in_ok-tail.ensures in
    one-done c.args.text.now c.args.slash c.args.unit c.args.room.cells c.args.room.entries h.from h.token.kind h.token.start h.token.end h.key h.token.long c.in_ok-hand.ensures c.if-hand-ne53.false c.if-room-eq0.false c.in_ok-tail.tail.end c.in_ok-tail.tail.count t.0 t.1 t.2 t.3 c.args.fill _ _ _ _ t.7 t.6 c.finish.result c.finish.ensures
