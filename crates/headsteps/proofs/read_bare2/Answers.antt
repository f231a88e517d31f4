-- `headsteps::read_bare2` meets its contract: each way through it has its rule.
use Rattle.std.proofs.Common.{arith, sym}
use Rattle.std.proofs.lemmas.Result.{err_from_is_err_and}
use Rattle.tokens.specs.Stream.{onwards}
use Rattle.rules.specs.Rules.{ahead}
use Rattle.grammar.specs.Grammar.{bare2}
use Rattle.headsteps.specs.Header.{skip_stops, bare2_colon, bare2_wrong, bare2_open, bare2_done}
use Rattle.headsteps.proofs.read_bare2.Goals as goal

pub returns-in_err-token : goal.returns-in_err-token
returns-in_err-token c =
    let p = err_from_is_err_and c.from_residual.result c.from_residual.ensures.1 in
    rw (p.1, p.2) (skip_stops c.args.text.now c.args.from _ _ (bare2 c.args.some) c.requires (sym c.in_err-token.ensures))

pub read_bare3-requires : goal.read_bare3-requires
read_bare3-requires c =
    let t = c.in_ok-token.token in
    (ahead c.args.text.now c.args.from t.kind t.start t.end t.long c.requires (sym c.in_ok-token.ensures)).1

pub returns-then-token-eq4 : goal.returns-then-token-eq4
returns-then-token-eq4 c =
    let t = c.in_ok-token.token in
    bare2_colon c.args.text.now c.args.from t.kind t.start t.end t.long c.requires (sym c.in_ok-token.ensures) c.args.some c.read_bare3.result c.if-token-eq4.true c.read_bare3.ensures

pub number_shape-requires : goal.number_shape-requires
number_shape-requires c =
    let t = c.in_ok-token.token in
    let g = onwards c.args.text.now c.args.from t.kind t.start t.end t.long c.requires (sym c.in_ok-token.ensures) in (omega (arith, g), g.2)

pub returns-in_err-number_shape : goal.returns-in_err-number_shape
returns-in_err-number_shape c =
    let t = c.in_ok-token.token in
    let p = err_from_is_err_and c.from_residual-in_err-number_shape.result c.from_residual-in_err-number_shape.ensures.1 in
    rw (p.1, p.2) (bare2_wrong c.args.text.now c.args.from t.kind t.start t.end t.long c.requires (sym c.in_ok-token.ensures) c.args.some _ _ c.if-token-eq4.false c.in_err-number_shape.ensures)

pub expect-requires : goal.expect-requires
expect-requires c =
    let t = c.in_ok-token.token in
    (ahead c.args.text.now c.args.from t.kind t.start t.end t.long c.requires (sym c.in_ok-token.ensures)).1

pub returns-in_err-behind : goal.returns-in_err-behind
returns-in_err-behind c =
    let t = c.in_ok-token.token in
    let p = err_from_is_err_and c.from_residual-in_err-behind.result c.from_residual-in_err-behind.ensures.1 in
    rw (p.1, p.2) (bare2_open c.args.text.now c.args.from t.kind t.start t.end t.long c.requires (sym c.in_ok-token.ensures) c.args.some _ _ c.if-token-eq4.false c.in_ok-number_shape.ensures c.in_err-behind.ensures)

pub returns : goal.returns
returns c =
    let t = c.in_ok-token.token in
    bare2_done c.args.text.now c.args.from t.kind t.start t.end t.long c.requires (sym c.in_ok-token.ensures) c.args.some c.in_ok-behind.behind c.read_bare3-2.result c.if-token-eq4.false c.in_ok-number_shape.ensures c.in_ok-behind.ensures c.read_bare3-2.ensures
