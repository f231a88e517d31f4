-- `readcells::cell_more` meets its contract: each way through it has its rule.
use Rattle.std.proofs.Common.{sym, Ok}
use Rattle.std.proofs.lemmas.Result.{err_from_is_err_and}
use Rattle.tokenforms.specs.Tokens.{Refused}
use Rattle.grammar.specs.declared.Hand.{Hand}
use Rattle.rules.specs.Rules.{ahead}
use Rattle.readcells.specs.Whole.{more-stops, more_last, more-next, more-wrong}
use Rattle.readcells.proofs.cell_more.Goals as goal

pub returns-in_err-token : goal.returns-in_err-token
returns-in_err-token c =
    let p = err_from_is_err_and c.from_residual.result c.from_residual.ensures.1 in
    let why = c.in_err-token.field-0.0 in
    rw (p.1, p.2) (more-stops c.args.text.now c.args.from why.number why.place c.args.slash c.requires (sym c.in_err-token.ensures))

pub returns-then-token-eq3 : goal.returns-then-token-eq3
returns-then-token-eq3 c =
    let t = c.in_ok-token.token in
    more_last c.args.text.now c.args.from t.kind t.start t.end t.long c.requires (sym c.in_ok-token.ensures) c.args.slash c.if-token-eq3.true

pub take-requires : goal.take-requires
take-requires c =
    let t = c.in_ok-token.token in
    (ahead c.args.text.now c.args.from t.kind t.start t.end t.long c.requires (sym c.in_ok-token.ensures)).1

pub returns-in_err-hand : goal.returns-in_err-hand
returns-in_err-hand c =
    let t = c.in_ok-token.token in
    let p = err_from_is_err_and c.from_residual-in_err-hand.result c.from_residual-in_err-hand.ensures.1 in
    let why = c.in_err-hand.field-0.0 in
    rw (p.1, p.2)
    (more-next c.args.text.now c.args.from t.kind t.start t.end t.long c.requires (sym c.in_ok-token.ensures) c.args.slash (Refused {T = Hand} why.number why.place) c.if-token-eq2.true c.in_err-hand.ensures)

pub returns-then-token-eq2 : goal.returns-then-token-eq2
returns-then-token-eq2 c =
    let t = c.in_ok-token.token in
    more-next c.args.text.now c.args.from t.kind t.start t.end t.long c.requires (sym c.in_ok-token.ensures) c.args.slash (Ok c.in_ok-hand.hand) c.if-token-eq2.true c.in_ok-hand.ensures

pub returns : goal.returns
returns c =
    let t = c.in_ok-token.token in
    more-wrong c.args.text.now c.args.from t.kind t.start t.end t.long c.requires (sym c.in_ok-token.ensures) c.args.slash c.if-token-eq3.false c.if-token-eq2.false
