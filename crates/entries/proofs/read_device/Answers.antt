-- `entries::read_device` meets its contract: each way through it has its rule.
use Rattle.std.proofs.Common.{[], Ok, Err, take}
use Rattle.std.proofs.lemmas.Result.{err_from_is_err_and}
use Rattle.grammar.specs.Meaning.{no_head}
use Rattle.rules.specs.Rules.{ahead}
use Rattle.rules.specs.Entries.{device-stops, device-bare, device-not, device-done}
use Rattle.entryends.specs.Ports.{port_told}
use Rattle.entries.proofs.read_device.Goals as goal

pub returns-in_err-shaped : goal.returns-in_err-shaped
returns-in_err-shaped c =
    let p = err_from_is_err_and c.from_residual.result c.from_residual.ensures.1 in
    let why = c.in_err-shaped.field-0.0 in
    let a = c.args.started in
    rw (p.1, p.2) (device-stops c.args.text.now c.args.from c.args.slash c.args.unit a.kind a.group a.place why.number why.place no_head [] c.requires c.in_err-shaped.ensures)

pub read_values-requires : goal.read_values-requires
read_values-requires c =
    let t = c.in_ok-shaped.shaped.token in
    (ahead c.args.text.now c.args.from t.kind t.start t.end t.long c.requires c.in_ok-shaped.ensures.0).1

pub returns-in_err-values : goal.returns-in_err-values
returns-in_err-values c =
    let p = err_from_is_err_and c.from_residual-in_err-values.result c.from_residual-in_err-values.ensures.1 in
    let t = c.in_ok-shaped.shaped.token in
    let a = c.args.started in
    rw (p.1, p.2) (device-bare c.args.text.now c.args.from c.args.slash c.args.unit a.kind a.group a.place t.kind t.start t.end t.long c.requires c.in_ok-shaped.ensures.0 (Err c.in_err-values.field-0.0) [] c.if-token-eq2.true c.in_err-values.ensures)

pub returns-then-token-eq2 : goal.returns-then-token-eq2
returns-then-token-eq2 c =
    let t = c.in_ok-shaped.shaped.token in
    let a = c.args.started in
    let v = c.in_ok-values.values in
    rw c.bare.ensures (device-bare c.args.text.now c.args.from c.args.slash c.args.unit a.kind a.group a.place t.kind t.start t.end t.long c.requires c.in_ok-shaped.ensures.0 (Ok v.end) (take v.count v.list) c.if-token-eq2.true c.in_ok-values.ensures)

pub returns-in_err-name_fault : goal.returns-in_err-name_fault
returns-in_err-name_fault c =
    let p = err_from_is_err_and c.from_residual-in_err-name_fault.result c.from_residual-in_err-name_fault.ensures.1 in
    let why = c.in_err-name_fault.field-0.0 in
    let t = c.in_ok-shaped.shaped.token in
    let a = c.args.started in
    let w = c.in_ok-shaped.ensures in
    let n = port_told c.args.text.now c.args.slash c.in_ok-shaped.shaped (Err why) w.1 c.in_err-name_fault.ensures in
    rw (p.1, p.2) (device-not c.args.text.now c.args.from c.args.slash c.args.unit a.kind a.group a.place t.kind t.start t.end t.long c.requires w.0 why.number why.place no_head [] c.if-token-eq2.false n)

pub open_values-requires : goal.open_values-requires
open_values-requires c =
    let t = c.in_ok-shaped.shaped.token in
    (ahead c.args.text.now c.args.from t.kind t.start t.end t.long c.requires c.in_ok-shaped.ensures.0).1

pub returns-in_err-values-2 : goal.returns-in_err-values-2
returns-in_err-values-2 c =
    let p = err_from_is_err_and c.from_residual-in_err-values-2.result c.from_residual-in_err-values-2.ensures.1 in
    let t = c.in_ok-shaped.shaped.token in
    let a = c.args.started in
    let w = c.in_ok-shaped.ensures in
    let n = port_told c.args.text.now c.args.slash c.in_ok-shaped.shaped (Ok tt) w.1 c.in_ok-name_fault.ensures in
    rw (p.1, p.2) (device-done c.args.text.now c.args.from c.args.slash c.args.unit a.kind a.group a.place t.kind t.start t.end t.long c.requires w.0 (Err c.in_err-values-2.field-0.0) [] c.if-token-eq2.false n c.in_err-values-2.ensures)

pub returns : goal.returns
returns c =
    let t = c.in_ok-shaped.shaped.token in
    let a = c.args.started in
    let w = c.in_ok-shaped.ensures in
    let v = c.in_ok-values-2.values in
    let n = port_told c.args.text.now c.args.slash c.in_ok-shaped.shaped (Ok tt) w.1 c.in_ok-name_fault.ensures in
    rw c.bare-2.ensures (device-done c.args.text.now c.args.from c.args.slash c.args.unit a.kind a.group a.place t.kind t.start t.end t.long c.requires w.0 (Ok v.end) (take v.count v.list) c.if-token-eq2.false n c.in_ok-values-2.ensures)
