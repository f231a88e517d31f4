-- `header::read_scale` meets its contract: each way through it has its rule.
use Rattle.std.proofs.Common.{arith, sym}
use Rattle.std.proofs.lemmas.Result.{err_from_is_err_and}
use Rattle.tokens.specs.Stream.{onwards, part}
use Rattle.rules.specs.Rules.{ahead}
use Rattle.headsteps.specs.Header.{scale_most, scale_gap, scale_stops, scale_kind, scale_not, scale_joined, scale_split}
use Rattle.header.proofs.read_scale.Goals as goal

pub returns-in_err-token : goal.returns-in_err-token
returns-in_err-token c =
    let p = err_from_is_err_and c.from_residual.result c.from_residual.ensures.1 in
    rw (p.1, p.2) (scale_stops c.args.text.now c.args.from _ _ c.requires (sym c.in_err-token.ensures))

pub slice_bounds-scale_of-count : goal.slice_bounds-scale_of-count
slice_bounds-scale_of-count c =
    let t = c.in_ok-token.token in
    let g = onwards c.args.text.now c.args.from t.kind t.start t.end t.long c.requires (sym c.in_ok-token.ensures) in omega (arith, g)

pub slice_bounds-scale_of-start : goal.slice_bounds-scale_of-start
slice_bounds-scale_of-start c =
    let t = c.in_ok-token.token in
    let g = onwards c.args.text.now c.args.from t.kind t.start t.end t.long c.requires (sym c.in_ok-token.ensures) in omega (arith, g)

pub slice_bounds-scale_of-end : goal.slice_bounds-scale_of-end
slice_bounds-scale_of-end c =
    let t = c.in_ok-token.token in
    let g = onwards c.args.text.now c.args.from t.kind t.start t.end t.long c.requires (sym c.in_ok-token.ensures) in g.2

pub returns-then-scale-ge11 : goal.returns-then-scale-ge11
returns-then-scale-ge11 c =
    let t = c.in_ok-token.token in
    scale_joined c.args.text.now c.args.from t.kind t.start t.end t.long c.requires (sym c.in_ok-token.ensures) c.scale_of-scale.result c.if-token-eq7.true c.scale_of-scale.ensures c.if-scale-ge11.true
    (let m = scale_most (part t.start t.end c.args.text.now) in omega arith)

pub invariant_of-result : goal.invariant_of-result
invariant_of-result c =
    let t = c.in_ok-token.token in
    let m = scale_most (part t.start t.end c.args.text.now) in record { most = omega arith }

pub read_unit-requires : goal.read_unit-requires
read_unit-requires c =
    let t = c.in_ok-token.token in
    let m = scale_gap (part t.start t.end c.args.text.now) (rw c.scale_of-scale.ensures at c.if-scale-ge1.true) (rw c.scale_of-scale.ensures at c.if-scale-ge11.false) in
    ((ahead c.args.text.now c.args.from t.kind t.start t.end t.long c.requires (sym c.in_ok-token.ensures)).1, omega arith)

pub returns-then-scale-ge1 : goal.returns-then-scale-ge1
returns-then-scale-ge1 c =
    let t = c.in_ok-token.token in
    scale_split c.args.text.now c.args.from t.kind t.start t.end t.long c.requires (sym c.in_ok-token.ensures) c.scale_of-scale.result c.read_unit.result c.if-token-eq7.true c.scale_of-scale.ensures c.if-scale-ge1.true c.if-scale-ge11.false c.read_unit.ensures

pub returns-else-scale-ge1 : goal.returns-else-scale-ge1
returns-else-scale-ge1 c =
    let t = c.in_ok-token.token in
    scale_not c.args.text.now c.args.from t.kind t.start t.end t.long c.requires (sym c.in_ok-token.ensures) c.if-token-eq7.true (rw c.scale_of-scale.ensures at c.if-scale-ge1.false)

pub returns-else-token-eq7 : goal.returns-else-token-eq7
returns-else-token-eq7 c =
    let t = c.in_ok-token.token in
    scale_kind c.args.text.now c.args.from t.kind t.start t.end t.long c.requires (sym c.in_ok-token.ensures) c.if-token-eq7.false
