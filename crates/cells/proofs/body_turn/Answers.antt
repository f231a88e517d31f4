-- `cells::body_turn` meets its contract: each way through it has its rule.
use Rattle.std.proofs.Common.{sym}
use Rattle.std.proofs.lemmas.Result.{err_from_is_err_and}
use Rattle.rules.specs.Rules.{ahead}
use Rattle.rules.specs.Bodies.{turn_stops, turn_shut, turn_wrong, turn_opens}
use Rattle.cells.proofs.body_turn.Goals as goal

pub returns-in_err-token : goal.returns-in_err-token
returns-in_err-token c = λ slash.
    let p = err_from_is_err_and c.from_residual.result c.from_residual.ensures.1 in
    let why = c.in_err-token.field-0.0 in
    rw (p.1, p.2) (turn_stops c.args.text.now c.args.from why.number why.place c.args.within c.args.some slash c.requires (sym c.in_err-token.ensures))

pub returns-then-token-eq3 : goal.returns-then-token-eq3
returns-then-token-eq3 c = λ slash.
    let t = c.in_ok-token.token in
    rw c.shut.ensures (turn_shut c.args.text.now c.args.from t.kind t.start t.end t.long c.requires (sym c.in_ok-token.ensures) slash c.args.within c.args.some c.if-token-eq3.true)

pub open_turn-requires : goal.open_turn-requires
open_turn-requires c =
    let t = c.in_ok-token.token in
    (ahead c.args.text.now c.args.from t.kind t.start t.end t.long c.requires (sym c.in_ok-token.ensures)).1

pub returns-then-token-eq2 : goal.returns-then-token-eq2
returns-then-token-eq2 c = λ slash.
    let t = c.in_ok-token.token in
    turn_opens c.args.text.now c.args.from t.kind t.start t.end t.long c.requires (sym c.in_ok-token.ensures) slash c.args.within c.args.some c.open_turn.result c.if-token-eq2.true (c.open_turn.ensures slash)

pub returns : goal.returns
returns c = λ slash.
    let t = c.in_ok-token.token in
    turn_wrong c.args.text.now c.args.from t.kind t.start t.end t.long c.requires (sym c.in_ok-token.ensures) slash c.args.within c.args.some c.if-token-eq3.false c.if-token-eq2.false
