-- `cellhead::read_instance` meets its contract: each way through it has its rule.
use Rattle.std.proofs.Common.{sym, rules}
use Rattle.std.proofs.lemmas.Result.{err_from_is_err_and}
use Rattle.rules.specs.Rules.{ahead}
use Rattle.cellhead.specs.Heads.{path-judged, instance-stops, instance-top, instance_any, instance_any_not, instance-wrong, instance_open, instance-named}
use Rattle.cellhead.proofs.read_instance.Goals as goal

pub returns-in_err-shaped : goal.returns-in_err-shaped
returns-in_err-shaped c =
    let p = err_from_is_err_and c.from_residual.result c.from_residual.ensures.1 in
    rw (p.1, p.2) (instance-stops c.args.text.now c.args.from _ _ c.args.slash c.requires c.in_err-shaped.ensures)

pub returns-in-3 : goal.returns-in-3
returns-in-3 c =
    let t = c.in_ok-shaped.shaped.token in
    instance-top c.args.text.now c.args.from t.kind t.start t.end t.long c.requires c.in_ok-shaped.ensures.0 c.args.slash c.in-3.is

pub expect-requires : goal.expect-requires
expect-requires c =
    let t = c.in_ok-shaped.shaped.token in
    (ahead c.args.text.now c.args.from t.kind t.start t.end t.long c.requires c.in_ok-shaped.ensures.0).1

pub returns-in_err-expect-in-5 : goal.returns-in_err-expect-in-5
returns-in_err-expect-in-5 c =
    let t = c.in_ok-shaped.shaped.token in
    let p = err_from_is_err_and c.from_residual-in_err-expect-in-5.result c.from_residual-in_err-expect-in-5.ensures.1 in
    rw (p.1, p.2) (instance_any_not c.args.text.now c.args.from t.kind t.start t.end t.long c.requires c.in_ok-shaped.ensures.0 c.args.slash _ _ c.in-5.is c.in_err-expect-in-5.ensures)

pub returns-in_ok-expect-in-5 : goal.returns-in_ok-expect-in-5
returns-in_ok-expect-in-5 c =
    let t = c.in_ok-shaped.shaped.token in
    instance_any c.args.text.now c.args.from t.kind t.start t.end t.long c.requires c.in_ok-shaped.ensures.0 c.args.slash _ c.in-5.is c.in_ok-expect-in-5.ensures

pub returns-in_err-name_fault-in_default : goal.returns-in_err-name_fault-in_default
returns-in_err-name_fault-in_default c =
    let t = c.in_ok-shaped.shaped.token in
    let p = err_from_is_err_and c.from_residual-in_err-name_fault-in_default.result c.from_residual-in_err-name_fault-in_default.ensures.1 in
    rw (p.1, p.2) (instance-wrong c.args.text.now c.args.from t.kind t.start t.end t.long c.requires c.in_ok-shaped.ensures.0 c.args.slash _ _ (search rules) (search rules) (rw (sym c.in_err-name_fault-in_default.ensures) at (path-judged c.args.text.now c.args.slash t.kind t.start t.end t.long c.in_ok-shaped.shaped.state c.in_ok-shaped.ensures.1)))

pub expect-requires-in_default : goal.expect-requires-in_default
expect-requires-in_default c =
    let t = c.in_ok-shaped.shaped.token in
    (ahead c.args.text.now c.args.from t.kind t.start t.end t.long c.requires c.in_ok-shaped.ensures.0).1

pub returns-in_err-expect-in_default : goal.returns-in_err-expect-in_default
returns-in_err-expect-in_default c =
    let t = c.in_ok-shaped.shaped.token in
    let p = err_from_is_err_and c.from_residual-in_err-expect-in_default.result c.from_residual-in_err-expect-in_default.ensures.1 in
    rw (p.1, p.2) (instance_open c.args.text.now c.args.from t.kind t.start t.end t.long c.requires c.in_ok-shaped.ensures.0 c.args.slash _ _ (search rules) (search rules) (rw (sym c.in_ok-name_fault-in_default.ensures) at (path-judged c.args.text.now c.args.slash t.kind t.start t.end t.long c.in_ok-shaped.shaped.state c.in_ok-shaped.ensures.1)) c.in_err-expect-in_default.ensures)

pub returns-in_ok-expect-in_default : goal.returns-in_ok-expect-in_default
returns-in_ok-expect-in_default c =
    let t = c.in_ok-shaped.shaped.token in
    instance-named c.args.text.now c.args.from t.kind t.start t.end t.long c.requires c.in_ok-shaped.ensures.0 c.args.slash _ (search rules) (search rules) (rw (sym c.in_ok-name_fault-in_default.ensures) at (path-judged c.args.text.now c.args.slash t.kind t.start t.end t.long c.in_ok-shaped.shaped.state c.in_ok-shaped.ensures.1)) c.in_ok-expect-in_default.ensures
