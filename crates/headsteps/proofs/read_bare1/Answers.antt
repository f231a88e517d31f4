-- `headsteps::read_bare1` meets its contract: each way through it has its rule.
use Rattle.std.proofs.Common.{sym, rules}
use Rattle.std.proofs.lemmas.Result.{err_from_is_err_and}
use Rattle.rules.specs.Rules.{ahead}
use Rattle.grammar.specs.Grammar.{bare1}
use Rattle.headsteps.specs.Header.{skip_stops, bare1_shut, bare1_colon, bare1_wrong}
use Rattle.headsteps.proofs.read_bare1.Goals as goal

pub returns-in_err-token : goal.returns-in_err-token
returns-in_err-token c =
    let p = err_from_is_err_and c.from_residual.result c.from_residual.ensures.1 in
    rw (p.1, p.2) (skip_stops c.args.text.now c.args.from _ _ bare1 c.requires (sym c.in_err-token.ensures))

pub returns-in-3 : goal.returns-in-3
returns-in-3 c =
    let t = c.in_ok-token.token in
    bare1_shut c.args.text.now c.args.from t.kind t.start t.end t.long c.requires (sym c.in_ok-token.ensures) c.in-3.is

pub read_bare2-requires : goal.read_bare2-requires
read_bare2-requires c =
    let t = c.in_ok-token.token in
    (ahead c.args.text.now c.args.from t.kind t.start t.end t.long c.requires (sym c.in_ok-token.ensures)).1

pub returns-in-4 : goal.returns-in-4
returns-in-4 c =
    let t = c.in_ok-token.token in
    bare1_colon c.args.text.now c.args.from t.kind t.start t.end t.long c.requires (sym c.in_ok-token.ensures) c.read_bare2.result c.in-4.is c.read_bare2.ensures

pub returns-in_default : goal.returns-in_default
returns-in_default c =
    let t = c.in_ok-token.token in
    bare1_wrong c.args.text.now c.args.from t.kind t.start t.end t.long c.requires (sym c.in_ok-token.ensures) (search rules) (search rules)
