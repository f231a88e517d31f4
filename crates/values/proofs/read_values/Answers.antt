-- `values::read_values` meets its contract: the values read so far are the front of the list.
use Rattle.std.proofs.Common.{◌≡◌, refl, sym, ◌+◌, [], ◌∷◌, ◌++◌, take, set, arith, rules, add-one, length-set}
use Rattle.std.proofs.lemmas.Result.{err_from_is_err_and}
use lib.Seq.{take-suc-set}
use Rattle.grammar.specs.Meaning.{nothing}
use Rattle.rules.specs.Rules.{ahead, values_start, values_none, values_stop, values_shut, values_wrong, values_many, values_more, values_bad}
use Rattle.values.proofs.read_values.Goals.{then-token-ne2-via-then-token-ne2, then-token-ne2-via-else-token-ne2+then-count-ge6}
use Rattle.values.proofs.read_values.Goals as goal

pub returns-in_err-first : goal.returns-in_err-first
returns-in_err-first c =
    let p = err_from_is_err_and c.from_residual.result c.from_residual.ensures.1 in
    let why = c.in_err-first.field-0.0 in
    rw (p.1, p.2) (values_none c.args.text.now c.args.from c.args.unit why.number why.place [] c.in_err-first.ensures)

pub loop-token-init : goal.loop-token-init
loop-token-init c =
    let v = c.in_ok-first.first in
    let g = (c.in_ok-first.ensures nothing).1 in
    (search rules, refl, omega (arith, g.0), g.1, values_start c.args.text.now c.args.from c.args.unit v.value v.end c.in_ok-first.ensures)

pub returns-in_err-token : goal.returns-in_err-token
returns-in_err-token c =
    let p = err_from_is_err_and c.from_residual-in_err-token.result c.from_residual-in_err-token.ensures.1 in
    let why = c.in_err-token.field-0.0 in
    let i = c.loop-token.invariant in
    rw (p.1, p.2) (values_stop c.args.text.now c.args.from c.loop-token.p c.args.unit (take c.loop-token.count c.loop-token.list) [] c.loop-token.count why.number why.place i.4 i.3 (sym c.in_err-token.ensures))

pub returns-then-token-eq3 : goal.returns-then-token-eq3
returns-then-token-eq3 c =
    let t = c.in_ok-token.token in
    let i = c.loop-token.invariant in
    values_shut c.args.text.now c.loop-token.p t.kind t.start t.end t.long i.3 (sym c.in_ok-token.ensures) c.args.from c.args.unit (take c.loop-token.count c.loop-token.list) c.loop-token.count i.4 i.2 c.if-token-eq3.true

pub returns-then-token-ne2 : goal.returns-then-token-ne2
returns-then-token-ne2 c =
    let t = c.in_ok-token.token in
    let i = c.loop-token.invariant in
    let vs = take c.loop-token.count c.loop-token.list in
    elim c.then-token-ne2.branch [
      | then-token-ne2-via-then-token-ne2 w ↦ values_wrong c.args.text.now c.loop-token.p t.kind t.start t.end t.long i.3 (sym c.in_ok-token.ensures) c.args.from c.args.unit vs c.loop-token.count i.4 [] c.if-token-eq3.false w.if-token-ne2.true
      | then-token-ne2-via-else-token-ne2+then-count-ge6 w ↦ values_many c.args.text.now c.loop-token.p t.kind t.start t.end t.long i.3 (sym c.in_ok-token.ensures) c.args.from c.args.unit vs c.loop-token.count i.4 [] w.if-token-ne2.false w.if-count-ge6.true
    ]

pub read_value-requires-in-loop-token : goal.read_value-requires-in-loop-token
read_value-requires-in-loop-token c =
    let t = c.in_ok-token.token in
    (ahead c.args.text.now c.loop-token.p t.kind t.start t.end t.long c.loop-token.invariant.3 (sym c.in_ok-token.ensures)).1

pub returns-in_err-next : goal.returns-in_err-next
returns-in_err-next c =
    let p = err_from_is_err_and c.from_residual-in_err-next.result c.from_residual-in_err-next.ensures.1 in
    let t = c.in_ok-token.token in
    let i = c.loop-token.invariant in
    let why = c.in_err-next.field-0.0 in
    rw (p.1, p.2) (values_bad c.args.text.now c.loop-token.p t.kind t.start t.end t.long i.3 (sym c.in_ok-token.ensures) c.args.from c.args.unit (take c.loop-token.count c.loop-token.list) c.loop-token.count i.4 [] why.number why.place c.if-token-ne2.false c.if-count-ge6.false c.in_err-next.ensures)

pub loop-token-preserved : goal.loop-token-preserved
loop-token-preserved c =
    let t = c.in_ok-token.token in
    let v = c.in_ok-next.next in
    let n = c.loop-token.count in
    let i = c.loop-token.invariant in
    let g = ahead c.args.text.now c.loop-token.p t.kind t.start t.end t.long i.3 (sym c.in_ok-token.ensures) in
    let d = (c.in_ok-next.ensures nothing).1 in
    let e : take (n + 1) (set c.loop-token.list n v.value) ≡ (take n c.loop-token.list) ++ v.value ∷ [] = rw add-one (take-suc-set c.loop-token.list n v.value (omega arith)) in (
      omega arith,
      simp length-set i.1,
      omega (arith, i.2, g.0, d.0),
      d.1,
      rw e (values_more c.args.text.now c.loop-token.p t.kind t.start t.end t.long i.3 (sym c.in_ok-token.ensures) c.args.from c.args.unit (take n c.loop-token.list) n i.4 v.value v.end c.if-token-ne2.false c.if-count-ge6.false c.in_ok-next.ensures),
    )
