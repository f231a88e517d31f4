-- `headsteps::read_bare3` meets its contract: each way through it has its rule.
use Rattle.std.proofs.Common.{arith, sym}
use Rattle.std.proofs.lemmas.Result.{err_from_is_err_and}
use Rattle.tokens.specs.Stream.{onwards}
use Rattle.rules.specs.Rules.{ahead}
use Rattle.grammar.specs.Grammar.{bare3}
use Rattle.headsteps.specs.Header.{skip_stops, bare3_shut, bare3_lacks, bare3_wrong, bare3_done}
use Rattle.headsteps.proofs.read_bare3.Goals as goal

pub returns-in_err-token : goal.returns-in_err-token
returns-in_err-token c =
    let p = err_from_is_err_and c.from_residual.result c.from_residual.ensures.1 in
    rw (p.1, p.2) (skip_stops c.args.text.now c.args.from _ _ (bare3 c.args.some) c.requires (sym c.in_err-token.ensures))

pub returns-then-some : goal.returns-then-some
returns-then-some c =
    let t = c.in_ok-token.token in
    bare3_shut c.args.text.now c.args.from t.kind t.start t.end t.long c.requires (sym c.in_ok-token.ensures) c.args.some c.if-token-eq3.true c.if-some.true

pub returns-then-token-eq3 : goal.returns-then-token-eq3
returns-then-token-eq3 c =
    let t = c.in_ok-token.token in
    bare3_lacks c.args.text.now c.args.from t.kind t.start t.end t.long c.requires (sym c.in_ok-token.ensures) c.args.some c.if-token-eq3.true c.if-some.false

pub number_shape-requires : goal.number_shape-requires
number_shape-requires c =
    let t = c.in_ok-token.token in
    let g = onwards c.args.text.now c.args.from t.kind t.start t.end t.long c.requires (sym c.in_ok-token.ensures) in (omega (arith, g), g.2)

pub returns-in_err-number_shape : goal.returns-in_err-number_shape
returns-in_err-number_shape c =
    let t = c.in_ok-token.token in
    let p = err_from_is_err_and c.from_residual-in_err-number_shape.result c.from_residual-in_err-number_shape.ensures.1 in
    rw (p.1, p.2) (bare3_wrong c.args.text.now c.args.from t.kind t.start t.end t.long c.requires (sym c.in_ok-token.ensures) c.args.some _ _ c.if-token-eq3.false c.in_err-number_shape.ensures)

pub expect-requires : goal.expect-requires
expect-requires c =
    let t = c.in_ok-token.token in
    (ahead c.args.text.now c.args.from t.kind t.start t.end t.long c.requires (sym c.in_ok-token.ensures)).1

pub returns : goal.returns
returns c =
    let t = c.in_ok-token.token in
    bare3_done c.args.text.now c.args.from t.kind t.start t.end t.long c.requires (sym c.in_ok-token.ensures) c.args.some c.expect.result c.if-token-eq3.false c.in_ok-number_shape.ensures c.expect.ensures
