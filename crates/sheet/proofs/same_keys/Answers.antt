-- `sheet::same_keys` meets its contract.
use Rattle.std.proofs.Common.{refl, sym, ◌≡◌, ◌∙◌, ◌-◌, arith, rules}
use Rattle.sheetlaws.specs.Sheet.{ar_next}
use Rattle.sheet.specs.Find.{ArcsGood, arcs_tail, arcs_whole}
use Rattle.sheet.specs.Search.{whole-next, good-next}
use Rattle.sheet.specs.Same.{same_more, same_end}
use Rattle.sheet.proofs.same_keys.Goals as goal

pub loop-init : goal.loop-init
loop-init c = let z : (c.args).count - 0 ≡ (c.args).count = omega arith in (rw z c.requires.0, rw z refl)

pub invariant_of-values : goal.invariant_of-values
invariant_of-values c =
    let b = c.args.sheet.now in
    record { whole = (whole-next (ar_next b) (ArcsGood b) b (arcs_whole b) c.args.count c.loop.counter c.loop.here c.loop-test.true c.loop.invariant.0).1 }

pub same_part-requires : goal.same_part-requires
same_part-requires c =
    let b = c.args.sheet.now in
    let t = whole-next (ar_next b) (ArcsGood b) b (arcs_whole b) c.args.count c.loop.counter c.loop.here c.loop-test.true c.loop.invariant.0 in
    rw c.values-end.ensures (omega arith, omega arith, c.requires.1)

pub returns-then-not-same_part : goal.returns-then-not-same_part
returns-then-not-same_part c =
    sym (same_more c.args.sheet.now c.args.other.now c.args.count c.loop.counter c.loop.here c.loop-test.true
    ∙ rw (← c.values-end.ensures, ← c.same_part.ensures, c.if-not-same_part.true)) ∙ c.loop.invariant.1

pub overflow_add-here : goal.overflow_add-here
overflow_add-here c =
    let b = c.args.sheet.now in
    let t = whole-next (ar_next b) (ArcsGood b) b (arcs_whole b) c.args.count c.loop.counter c.loop.here c.loop-test.true c.loop.invariant.0 in
    omega (arith, t.1, c.values-end.ensures)

pub loop-preserved : goal.loop-preserved
loop-preserved c =
    let b = c.args.sheet.now in (
      rw c.values-end.ensures (good-next (ar_next b) (ArcsGood b) (λ n p g. (arcs_tail b n p g).1) c.args.count c.loop.counter c.loop.here c.loop-test.true
          c.loop.invariant.0),
      sym (same_more c.args.sheet.now c.args.other.now c.args.count c.loop.counter c.loop.here c.loop-test.true
          ∙ rw (← c.values-end.ensures, ← c.same_part.ensures, c.if-not-same_part.false)) ∙ c.loop.invariant.1,
    )

pub returns : goal.returns
returns c =
    sym (same_end c.args.sheet.now c.args.other.now c.args.count c.loop.counter c.loop.here (search rules)) ∙ c.loop.invariant.1
