-- `header::read_unit` meets its contract: each way through it has its rule.
use Rattle.std.proofs.Common.{arith, sym}
use Rattle.std.proofs.lemmas.Result.{err_from_is_err_and}
use Rattle.tokens.specs.Stream.{onwards, part}
use Rattle.headsteps.specs.Header.{unit_most, unit_stops, unit_kind, unit_not, unit_done}
use Rattle.header.proofs.read_unit.Goals as goal

pub returns-in_err-token : goal.returns-in_err-token
returns-in_err-token c =
    let p = err_from_is_err_and c.from_residual.result c.from_residual.ensures.1 in
    rw (p.1, p.2) (unit_stops c.args.text.now c.args.from _ _ c.args.power c.requires.0 (sym c.in_err-token.ensures))

pub slice_bounds-unit_of-count : goal.slice_bounds-unit_of-count
slice_bounds-unit_of-count c =
    let t = c.in_ok-token.token in
    let g = onwards c.args.text.now c.args.from t.kind t.start t.end t.long c.requires.0 (sym c.in_ok-token.ensures) in omega (arith, g)

pub slice_bounds-unit_of-start : goal.slice_bounds-unit_of-start
slice_bounds-unit_of-start c =
    let t = c.in_ok-token.token in
    let g = onwards c.args.text.now c.args.from t.kind t.start t.end t.long c.requires.0 (sym c.in_ok-token.ensures) in omega (arith, g)

pub slice_bounds-unit_of-end : goal.slice_bounds-unit_of-end
slice_bounds-unit_of-end c =
    let t = c.in_ok-token.token in
    let g = onwards c.args.text.now c.args.from t.kind t.start t.end t.long c.requires.0 (sym c.in_ok-token.ensures) in g.2

pub overflow_add-result : goal.overflow_add-result
overflow_add-result c =
    let t = c.in_ok-token.token in
    let m = unit_most (part t.start t.end c.args.text.now) in omega (arith, c.requires.1)

pub invariant_of-result : goal.invariant_of-result
invariant_of-result c =
    let t = c.in_ok-token.token in
    let m = unit_most (part t.start t.end c.args.text.now) in record { most = omega (arith, c.requires.1) }

pub returns-then-unit-ge1 : goal.returns-then-unit-ge1
returns-then-unit-ge1 c =
    let t = c.in_ok-token.token in
    unit_done c.args.text.now c.args.from t.kind t.start t.end t.long c.requires.0 (sym c.in_ok-token.ensures) c.args.power c.unit_of-unit.result c.if-token-eq7.true c.unit_of-unit.ensures c.if-unit-ge1.true
    (let m = unit_most (part t.start t.end c.args.text.now) in omega (arith, c.requires.1))

pub returns-else-unit-ge1 : goal.returns-else-unit-ge1
returns-else-unit-ge1 c =
    let t = c.in_ok-token.token in
    unit_not c.args.text.now c.args.from t.kind t.start t.end t.long c.requires.0 (sym c.in_ok-token.ensures) c.args.power c.if-token-eq7.true (rw c.unit_of-unit.ensures at c.if-unit-ge1.false)

pub returns-else-token-eq7 : goal.returns-else-token-eq7
returns-else-token-eq7 c =
    let t = c.in_ok-token.token in
    unit_kind c.args.text.now c.args.from t.kind t.start t.end t.long c.requires.0 (sym c.in_ok-token.ensures) c.args.power c.if-token-eq7.false
