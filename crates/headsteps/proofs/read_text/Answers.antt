-- `headsteps::read_text` meets its contract.
use Rattle.std.proofs.Common.{sym}
use Rattle.std.proofs.lemmas.Result.{err_from_is_err_and}
use Rattle.headsteps.specs.Header.{text-stops, text-kind, text-long, text_fine}
use Rattle.headsteps.proofs.read_text.Goals as goal

pub returns-in_err-token : goal.returns-in_err-token
returns-in_err-token c =
    let p = err_from_is_err_and c.from_residual.result c.from_residual.ensures.1 in
    rw (p.1, p.2) (text-stops c.args.text.now c.args.from _ _ c.requires (sym c.in_err-token.ensures))

pub returns-then-token-ne6 : goal.returns-then-token-ne6
returns-then-token-ne6 c =
    let t = c.in_ok-token.token in
    text-kind c.args.text.now c.args.from t.kind t.start t.end t.long c.requires (sym c.in_ok-token.ensures) c.if-token-ne6.true

pub returns-then-token : goal.returns-then-token
returns-then-token c =
    let t = c.in_ok-token.token in
    text-long c.args.text.now c.args.from t.kind t.start t.end t.long c.requires (sym c.in_ok-token.ensures) c.if-token-ne6.false c.if-token.true

pub returns : goal.returns
returns c =
    let t = c.in_ok-token.token in
    text_fine c.args.text.now c.args.from t.kind t.start t.end t.long c.requires (sym c.in_ok-token.ensures) c.if-token-ne6.false c.if-token.false
