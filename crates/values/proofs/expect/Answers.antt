-- `values::expect` meets its contract.
use Rattle.std.proofs.Common.{sym, ◌∙◌, ◌+◌, false, arith}
use Rattle.std.proofs.lemmas.Result.{err_from_is_err_and}
use Rattle.rules.specs.Rules.{mark-stops, mark_got, mark-not}
use Rattle.values.proofs.expect.Goals as goal

pub returns-then-mark-ge2 : goal.returns-then-mark-ge2
returns-then-mark-ge2 c =
    let sign = c.mark_from-sign.result in
    let g = c.mark_from-sign.ensures.2 (omega (arith, c.if-sign-mark.true, c.if-mark-ge2.true)) in
    mark_got c.args.text.now c.args.from sign.kind sign.place (sign.place + 1) false c.requires g.0 c.args.mark c.if-sign-mark.true

pub returns-in_err-token : goal.returns-in_err-token
returns-in_err-token c =
    let p = err_from_is_err_and c.from_residual.result c.from_residual.ensures.1 in
    let why = c.in_err-token.field-0.0 in
    rw (p.1, p.2) (mark-stops c.args.text.now c.args.from c.args.mark why.number why.place c.requires (sym c.mark_from-sign.ensures.0 ∙ sym c.in_err-token.ensures))

pub returns-then-token-mark : goal.returns-then-token-mark
returns-then-token-mark c =
    let t = c.in_ok-token.token in
    mark_got c.args.text.now c.args.from t.kind t.start t.end t.long c.requires (sym c.mark_from-sign.ensures.0 ∙ sym c.in_ok-token.ensures) c.args.mark c.if-token-mark.true

pub returns : goal.returns
returns c =
    let t = c.in_ok-token.token in
    mark-not c.args.text.now c.args.from t.kind t.start t.end t.long c.requires (sym c.mark_from-sign.ensures.0 ∙ sym c.in_ok-token.ensures) c.args.mark c.if-token-mark.false
