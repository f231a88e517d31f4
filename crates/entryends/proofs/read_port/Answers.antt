-- `entryends::read_port` meets its contract.
use Rattle.std.proofs.Common.{Ok, Err}
use Rattle.std.proofs.lemmas.Result.{err_from_is_err_and}
use Rattle.rules.specs.Rules.{port-stops, port_got, port-not}
use Rattle.entryends.specs.Ports.{port_told}
use Rattle.entryends.proofs.read_port.Goals as goal

pub returns-in_err-shaped : goal.returns-in_err-shaped
returns-in_err-shaped c =
    let p = err_from_is_err_and c.from_residual.result c.from_residual.ensures.1 in
    let why = c.in_err-shaped.field-0.0 in
    rw (p.1, p.2) (port-stops c.args.text.now c.args.from why.number why.place c.args.slash c.requires c.in_err-shaped.ensures)

pub returns-in_err-name_fault : goal.returns-in_err-name_fault
returns-in_err-name_fault c =
    let p = err_from_is_err_and c.from_residual-in_err-name_fault.result c.from_residual-in_err-name_fault.ensures.1 in
    let why = c.in_err-name_fault.field-0.0 in
    let t = c.in_ok-shaped.shaped.token in
    let w = c.in_ok-shaped.ensures in
    let n = port_told c.args.text.now c.args.slash c.in_ok-shaped.shaped (Err why) w.1 c.in_err-name_fault.ensures in
    rw (p.1, p.2) (port-not c.args.text.now c.args.from t.kind t.start t.end t.long c.requires w.0 c.args.slash why.number why.place n)

pub returns : goal.returns
returns c =
    let t = c.in_ok-shaped.shaped.token in
    let w = c.in_ok-shaped.ensures in
    port_got c.args.text.now c.args.from t.kind t.start t.end t.long c.requires w.0 c.args.slash
    (port_told c.args.text.now c.args.slash c.in_ok-shaped.shaped (Ok tt) w.1 c.in_ok-name_fault.ensures)
