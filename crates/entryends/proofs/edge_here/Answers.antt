-- `entryends::edge_here` meets its contract.
use Rattle.tokens.specs.Stream.{placed}
use Rattle.rules.specs.Rules.{edge_long, edge_fine}
use Rattle.entryends.proofs.edge_here.Goals as goal

pub returns-then-token : goal.returns-then-token
returns-then-token c =
    let t = c.args.token in
    edge_long (placed c.args.text.now t.kind t.start t.end t.long) c.if-token-ne7.false (rw c.edge_of-edge.ensures at c.if-edge-lt1.false) c.if-token.true

pub returns : goal.returns
returns c =
    let t = c.args.token in
    edge_fine (placed c.args.text.now t.kind t.start t.end t.long) c.edge_of-edge.result c.if-token-ne7.false c.edge_of-edge.ensures (rw c.edge_of-edge.ensures at c.if-edge-lt1.false) c.if-token.false
