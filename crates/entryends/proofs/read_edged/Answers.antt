-- `entryends::read_edged` meets its contract: each way through it has its rule.
use Rattle.std.proofs.Common.{sym, arith}
use Rattle.std.proofs.lemmas.Result.{err_from_is_err_and}
use Rattle.tokens.specs.Stream.{onwards}
use Rattle.rules.specs.Rules.{ahead, edged-stops, edged-not, edged-port-not, edged_open, edged-done}
use Rattle.entryends.proofs.read_edged.Goals as goal

pub returns-in_err-token : goal.returns-in_err-token
returns-in_err-token c =
    let p = err_from_is_err_and c.from_residual.result c.from_residual.ensures.1 in
    let why = c.in_err-token.field-0.0 in
    rw (p.1, p.2) (edged-stops c.args.text.now c.args.from why.number why.place c.args.second c.args.slash c.requires (sym c.in_err-token.ensures))

pub edge_here-requires : goal.edge_here-requires
edge_here-requires c =
    let t = c.in_ok-token.token in
    let g = onwards c.args.text.now c.args.from t.kind t.start t.end t.long c.requires (sym c.in_ok-token.ensures) in
    (omega (arith, g.1), g.2)

pub returns-in_err-edge : goal.returns-in_err-edge
returns-in_err-edge c =
    let p = err_from_is_err_and c.from_residual-in_err-edge.result c.from_residual-in_err-edge.ensures.1 in
    let why = c.in_err-edge.field-0.0 in
    let t = c.in_ok-token.token in
    rw (p.1, p.2) (edged-not c.args.text.now c.args.from t.kind t.start t.end t.long c.requires (sym c.in_ok-token.ensures) c.args.slash c.args.second why.number why.place c.in_err-edge.ensures)

pub read_port-requires : goal.read_port-requires
read_port-requires c =
    let t = c.in_ok-token.token in
    (ahead c.args.text.now c.args.from t.kind t.start t.end t.long c.requires (sym c.in_ok-token.ensures)).1

pub returns-in_err-port : goal.returns-in_err-port
returns-in_err-port c =
    let p = err_from_is_err_and c.from_residual-in_err-port.result c.from_residual-in_err-port.ensures.1 in
    let why = c.in_err-port.field-0.0 in
    let t = c.in_ok-token.token in
    rw (p.1, p.2) (edged-port-not c.args.text.now c.args.from t.kind t.start t.end t.long c.requires (sym c.in_ok-token.ensures) c.args.slash c.args.second c.in_ok-edge.edge why.number why.place c.in_ok-edge.ensures c.in_err-port.ensures)

pub returns-in_err-end : goal.returns-in_err-end
returns-in_err-end c =
    let p = err_from_is_err_and c.from_residual-in_err-end.result c.from_residual-in_err-end.ensures.1 in
    let why = c.in_err-end.field-0.0 in
    let t = c.in_ok-token.token in
    let q = c.in_ok-port.port in
    rw (p.1, p.2) (edged_open c.args.text.now c.args.from t.kind t.start t.end t.long c.requires (sym c.in_ok-token.ensures) c.args.slash c.args.second c.in_ok-edge.edge q.from q.to why.number why.place c.in_ok-edge.ensures c.in_ok-port.ensures c.in_err-end.ensures)

pub returns : goal.returns
returns c =
    let t = c.in_ok-token.token in
    let q = c.in_ok-port.port in
    edged-done c.args.text.now c.args.from t.kind t.start t.end t.long c.requires (sym c.in_ok-token.ensures) c.args.slash c.args.second c.in_ok-edge.edge q.from q.to c.in_ok-end.end c.in_ok-edge.ensures c.in_ok-port.ensures c.in_ok-end.ensures
