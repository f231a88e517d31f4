-- `headsteps::take` meets its contract.
use Rattle.std.proofs.Common.{arith, sym}
use Rattle.std.proofs.lemmas.Result.{err_from_is_err_and}
use Rattle.tokens.specs.Stream.{onwards}
use Rattle.headsteps.specs.Header.{take-stops}
use Rattle.headsteps.proofs.take.Goals as goal

pub returns-in_err-token : goal.returns-in_err-token
returns-in_err-token c =
    let p = err_from_is_err_and c.from_residual.result c.from_residual.ensures.1 in
    rw (p.1, p.2) (take-stops c.args.text.now c.args.from _ _ c.requires (sym c.in_err-token.ensures))

pub slice_bounds-key_of-count : goal.slice_bounds-key_of-count
slice_bounds-key_of-count c =
    let t = c.in_ok-token.token in
    let g = onwards c.args.text.now c.args.from t.kind t.start t.end t.long c.requires (sym c.in_ok-token.ensures) in omega (arith, g)

pub slice_bounds-key_of-start : goal.slice_bounds-key_of-start
slice_bounds-key_of-start c =
    let t = c.in_ok-token.token in
    let g = onwards c.args.text.now c.args.from t.kind t.start t.end t.long c.requires (sym c.in_ok-token.ensures) in omega (arith, g)

pub slice_bounds-key_of-end : goal.slice_bounds-key_of-end
slice_bounds-key_of-end c =
    let t = c.in_ok-token.token in
    let g = onwards c.args.text.now c.args.from t.kind t.start t.end t.long c.requires (sym c.in_ok-token.ensures) in g.2
