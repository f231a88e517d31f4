-- `sheet::search` meets its contract.
use Rattle.std.proofs.Common.{◌≡◌, refl, sym, ◌∙◌, ◌-◌, arith, rules}
use Rattle.std.proofs.Math.Logic.{∥∥₁_elim, ∥∥₁_map}
use Rattle.std.proofs.Props.{props}
use borrow.Author.Tests.{eq-eqb, ne_eqb}
use Rattle.sheet.specs.Search.{search-more, search_end, beyond, whole-next, good-next}
use Rattle.sheet.proofs.search.Goals as goal

pub loop-init : goal.loop-init
loop-init g c = let z : (c.args).count - 0 ≡ (c.args).count = omega arith in (rw z c.requires, rw z refl)

pub against-order-requires : goal.against-order-requires
against-order-requires g c =
    let R = g.R.Record in
    let b = c.args.sheet.now in
    ∥∥₁_elim c.loop.invariant.0 (hlevel props) (λ good. (whole-next (R.next b) (R.Good b) b (g.met.R.Record.whole b) c.args.count c.loop.counter
    c.loop.here c.loop-test.true good).1)

pub behind-here-requires : goal.behind-here-requires
behind-here-requires g c =
    let R = g.R.Record in
    let b = c.args.sheet.now in
    ∥∥₁_elim c.loop.invariant.0 (hlevel props) (λ good. (whole-next (R.next b) (R.Good b) b (g.met.R.Record.whole b) c.args.count c.loop.counter
    c.loop.here c.loop-test.true good).1)

pub returns-then-order-eq-SAME : goal.returns-then-order-eq-SAME
returns-then-order-eq-SAME g c =
    let R = g.R.Record in
    let b = c.args.sheet.now in
    sym (search-more (R.key b) (R.next b) R.order (R.wanted c.args.wanted) c.args.count c.loop.counter c.loop.here c.loop-test.true
    ∙ rw (← c.against-order.ensures, eq-eqb _ _ c.if-order-eq-SAME.true)) ∙ c.loop.invariant.1

pub returns-then-order-eq-AFTER : goal.returns-then-order-eq-AFTER
returns-then-order-eq-AFTER g c =
    let R = g.R.Record in
    let b = c.args.sheet.now in
    ∥∥₁_elim c.loop.invariant.0 (hlevel props) (λ good. sym (beyond (R.key b) (R.next b) R.order (R.wanted c.args.wanted) (R.Good b)
    (g.met.R.Record.rises b (λ i. (c.type_inv.sheet i).fits)) (c.args.count - c.loop.counter) c.loop.here good
    (sym c.against-order.ensures ∙ c.if-order-eq-AFTER.true)) ∙ c.loop.invariant.1)

pub loop-preserved : goal.loop-preserved
loop-preserved g c =
    let R = g.R.Record in
    let b = c.args.sheet.now in
    rw c.behind-here.ensures (
      ∥∥₁_map c.loop.invariant.0 (good-next (R.next b) (R.Good b) (g.met.R.Record.tail b) c.args.count c.loop.counter c.loop.here c.loop-test.true),
      sym (search-more (R.key b) (R.next b) R.order (R.wanted c.args.wanted) c.args.count c.loop.counter c.loop.here c.loop-test.true
          ∙ rw (← c.against-order.ensures, ne_eqb _ _ c.if-order-eq-SAME.false)) ∙ c.loop.invariant.1,
    )

pub returns : goal.returns
returns g c =
    let R = g.R.Record in
    let b = c.args.sheet.now in
    sym (search_end (R.key b) (R.next b) R.order (R.wanted c.args.wanted) c.args.count c.loop.counter c.loop.here (search rules)) ∙ c.loop.invariant.1
