-- `headsteps::read_divider` meets its contract: each way through it has its rule.
use Rattle.std.proofs.Common.{arith, sym}
use Rattle.std.proofs.lemmas.Result.{err_from_is_err_and}
use Rattle.tokens.specs.Stream.{onwards}
use Rattle.rules.specs.Rules.{ahead}
use Rattle.headsteps.specs.Header.{divider-stops, divider-kind, divider-not, divider-open, divider-done}
use Rattle.headsteps.proofs.read_divider.Goals as goal

pub returns-in_err-token : goal.returns-in_err-token
returns-in_err-token c =
    let p = err_from_is_err_and c.from_residual.result c.from_residual.ensures.1 in
    rw (p.1, p.2) (divider-stops c.args.text.now c.args.from _ _ c.requires (sym c.in_err-token.ensures))

pub slice_bounds-divider_of-count : goal.slice_bounds-divider_of-count
slice_bounds-divider_of-count c =
    let t = c.in_ok-token.token in
    let g = onwards c.args.text.now c.args.from t.kind t.start t.end t.long c.requires (sym c.in_ok-token.ensures) in omega (arith, g)

pub slice_bounds-divider_of-start : goal.slice_bounds-divider_of-start
slice_bounds-divider_of-start c =
    let t = c.in_ok-token.token in
    let g = onwards c.args.text.now c.args.from t.kind t.start t.end t.long c.requires (sym c.in_ok-token.ensures) in omega (arith, g)

pub slice_bounds-divider_of-end : goal.slice_bounds-divider_of-end
slice_bounds-divider_of-end c =
    let t = c.in_ok-token.token in
    let g = onwards c.args.text.now c.args.from t.kind t.start t.end t.long c.requires (sym c.in_ok-token.ensures) in g.2

pub take_next-requires : goal.take_next-requires
take_next-requires c =
    let t = c.in_ok-token.token in
    (ahead c.args.text.now c.args.from t.kind t.start t.end t.long c.requires (sym c.in_ok-token.ensures)).1

pub returns-in_err-hand : goal.returns-in_err-hand
returns-in_err-hand c =
    let t = c.in_ok-token.token in
    let p = err_from_is_err_and c.from_residual-in_err-hand.result c.from_residual-in_err-hand.ensures.1 in
    rw (p.1, p.2) (divider-open c.args.text.now c.args.from t.kind t.start t.end t.long c.requires (sym c.in_ok-token.ensures) c.divider_of-divider.result _ _ c.if-token-eq7.true c.divider_of-divider.ensures c.if-divider-ge1.true c.in_err-hand.ensures)

pub returns-then-divider-ge1 : goal.returns-then-divider-ge1
returns-then-divider-ge1 c =
    let t = c.in_ok-token.token in
    divider-done c.args.text.now c.args.from t.kind t.start t.end t.long c.requires (sym c.in_ok-token.ensures) c.divider_of-divider.result c.in_ok-hand.hand c.if-token-eq7.true c.divider_of-divider.ensures c.if-divider-ge1.true c.in_ok-hand.ensures

pub returns-else-divider-ge1 : goal.returns-else-divider-ge1
returns-else-divider-ge1 c =
    let t = c.in_ok-token.token in
    divider-not c.args.text.now c.args.from t.kind t.start t.end t.long c.requires (sym c.in_ok-token.ensures) c.if-token-eq7.true (rw c.divider_of-divider.ensures at c.if-divider-ge1.false)

pub returns-else-token-eq7 : goal.returns-else-token-eq7
returns-else-token-eq7 c =
    let t = c.in_ok-token.token in
    divider-kind c.args.text.now c.args.from t.kind t.start t.end t.long c.requires (sym c.in_ok-token.ensures) c.if-token-eq7.false
