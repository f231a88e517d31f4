-- `headsteps::read_bare` meets its contract: each way through it has its rule.
use Rattle.std.proofs.Common.{arith, sym}
use Rattle.std.proofs.lemmas.Result.{err_from_is_err_and}
use Rattle.tokens.specs.Stream.{onwards}
use Rattle.rules.specs.Rules.{ahead}
use Rattle.grammar.specs.Grammar.{bare}
use Rattle.headsteps.specs.Header.{skip_stops, bare-colon, bare-wrong, bare-done}
use Rattle.headsteps.proofs.read_bare.Goals as goal

pub returns-in_err-token : goal.returns-in_err-token
returns-in_err-token c =
    let p = err_from_is_err_and c.from_residual.result c.from_residual.ensures.1 in
    rw (p.1, p.2) (skip_stops c.args.text.now c.args.from _ _ bare c.requires (sym c.in_err-token.ensures))

pub read_bare2-requires : goal.read_bare2-requires
read_bare2-requires c =
    let t = c.in_ok-token.token in
    (ahead c.args.text.now c.args.from t.kind t.start t.end t.long c.requires (sym c.in_ok-token.ensures)).1

pub returns-then-token-eq4 : goal.returns-then-token-eq4
returns-then-token-eq4 c =
    let t = c.in_ok-token.token in
    bare-colon c.args.text.now c.args.from t.kind t.start t.end t.long c.requires (sym c.in_ok-token.ensures) c.read_bare2.result c.if-token-eq4.true c.read_bare2.ensures

pub number_shape-requires : goal.number_shape-requires
number_shape-requires c =
    let t = c.in_ok-token.token in
    let g = onwards c.args.text.now c.args.from t.kind t.start t.end t.long c.requires (sym c.in_ok-token.ensures) in (omega (arith, g), g.2)

pub returns-in_err-number_shape : goal.returns-in_err-number_shape
returns-in_err-number_shape c =
    let t = c.in_ok-token.token in
    let p = err_from_is_err_and c.from_residual-in_err-number_shape.result c.from_residual-in_err-number_shape.ensures.1 in
    rw (p.1, p.2) (bare-wrong c.args.text.now c.args.from t.kind t.start t.end t.long c.requires (sym c.in_ok-token.ensures) _ _ c.if-token-eq4.false c.in_err-number_shape.ensures)

pub read_bare1-requires : goal.read_bare1-requires
read_bare1-requires c =
    let t = c.in_ok-token.token in
    (ahead c.args.text.now c.args.from t.kind t.start t.end t.long c.requires (sym c.in_ok-token.ensures)).1

pub returns : goal.returns
returns c =
    let t = c.in_ok-token.token in
    bare-done c.args.text.now c.args.from t.kind t.start t.end t.long c.requires (sym c.in_ok-token.ensures) c.read_bare1.result c.if-token-eq4.false c.in_ok-number_shape.ensures c.read_bare1.ensures
