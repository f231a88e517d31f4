-- `entryends::read_end` meets its contract: each way through it has its rule.
use Rattle.std.proofs.Common.{Ok, Err}
use Rattle.std.proofs.lemmas.Result.{err_from_is_err_and}
use Rattle.rules.specs.Rules.{ahead, end_stops, end_plain, end_not, end_edged}
use Rattle.entryends.specs.Ports.{port_told}
use Rattle.entryends.proofs.read_end.Goals as goal

pub returns-in_err-shaped : goal.returns-in_err-shaped
returns-in_err-shaped c =
    let p = err_from_is_err_and c.from_residual.result c.from_residual.ensures.1 in
    let why = c.in_err-shaped.field-0.0 in
    rw (p.1, p.2) (end_stops c.args.text.now c.args.from why.number why.place c.args.second c.args.slash c.requires c.in_err-shaped.ensures)

pub read_edged-requires : goal.read_edged-requires
read_edged-requires c =
    let t = c.in_ok-shaped.shaped.token in
    (ahead c.args.text.now c.args.from t.kind t.start t.end t.long c.requires c.in_ok-shaped.ensures.0).1

pub returns-then-token-eq2 : goal.returns-then-token-eq2
returns-then-token-eq2 c =
    let t = c.in_ok-shaped.shaped.token in
    end_edged c.args.text.now c.args.from t.kind t.start t.end t.long c.requires c.in_ok-shaped.ensures.0 c.args.slash c.args.second c.read_edged.result c.if-token-eq2.true c.read_edged.ensures

pub returns-in_err-name_fault : goal.returns-in_err-name_fault
returns-in_err-name_fault c =
    let p = err_from_is_err_and c.from_residual-in_err-name_fault.result c.from_residual-in_err-name_fault.ensures.1 in
    let why = c.in_err-name_fault.field-0.0 in
    let t = c.in_ok-shaped.shaped.token in
    let w = c.in_ok-shaped.ensures in
    let n = port_told c.args.text.now c.args.slash c.in_ok-shaped.shaped (Err why) w.1 c.in_err-name_fault.ensures in
    rw (p.1, p.2) (end_not c.args.text.now c.args.from t.kind t.start t.end t.long c.requires w.0 c.args.slash c.args.second why.number why.place c.if-token-eq2.false n)

pub returns : goal.returns
returns c =
    let t = c.in_ok-shaped.shaped.token in
    let w = c.in_ok-shaped.ensures in
    end_plain c.args.text.now c.args.from t.kind t.start t.end t.long c.requires w.0 c.args.slash c.args.second c.if-token-eq2.false
    (port_told c.args.text.now c.args.slash c.in_ok-shaped.shaped (Ok tt) w.1 c.in_ok-name_fault.ensures)
