-- `nametokens::any_token` meets its contract.
use Rattle.std.proofs.Common.{arith, sym}
use Rattle.tokens.specs.Stream.{onwards}
use Rattle.nametokens.proofs.any_token.Goals as goal

pub shape_of-requires : goal.shape_of-requires
shape_of-requires c =
    let t = c.in_ok-token.token in
    let g = onwards c.args.text.now c.args.from t.kind t.start t.end t.long c.requires (sym c.in_ok-token.ensures) in
    (omega (arith, g.1), g.2)
