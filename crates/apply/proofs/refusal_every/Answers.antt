-- `apply::refusal_every` meets its contract. Invariant: the least refusal in the instances so far that are of the type.
use mathlib.Core.Path.{◌≡◌, refl, ◌∙◌, ap}
use native.Mathlib.Omega.{arith}
use Rattle.sheetlaws.specs.Sheet.{nth}
use Rattle.entryarcs.specs.Amounts.{refused}
use Rattle.entryarcs.specs.AmountTurns.{lesser-refused}
use Rattle.entryarcs.specs.Bytes.{least_of, refusal_every}
use Rattle.entryarcs.specs.Turns.{least_with, least_without, instance-whole, instance-more, typed, type-is, refuses_in}
use Rattle.apply.proofs.refusal_every.Goals as goal
use Rattle.apply.proofs.refusal_every.Goals.{then-is_of, else-is_of}

pub loop-k-init : goal.loop-k-init
unfolding nth least_of refused
loop-k-init c = (refl, refl)

pub is_of-requires : goal.is_of-requires
is_of-requires c =
    instance-whole c.args.start.sheet.now c.loop-k.k 12 c.loop-k.here c.args.start.plan.instances c.requires.instances (omega arith) c.loop-k.invariant.0

pub refusal_in-requires : goal.refusal_in-requires
refusal_in-requires c =
    let whole = instance-whole c.args.start.sheet.now c.loop-k.k 12 c.loop-k.here c.args.start.plan.instances c.requires.instances (omega arith)
    c.loop-k.invariant.0 in
    (record { arcs = c.requires.search.good; long = c.requires.long; there = whole }, c.requires.search)

pub invariant_of-next : goal.invariant_of-next
invariant_of-next c =
    record { whole = (instance-whole c.args.start.sheet.now c.loop-k.k 12 c.loop-k.here c.args.start.plan.instances c.requires.instances (omega arith) c.loop-k.invariant.0) }

pub loop-k-preserved : goal.loop-k-preserved
loop-k-preserved c =
    let test = typed c.args.start.sheet.now c.args.celltype.now in
    let refusal = refuses_in c.args.start.sheet.now c.args.change.text.now c.args.start.plan.slash c.args.start.plan.instances c.args.start.plan.arcs c.args.start.plan.first
    c.args.change.head c.args.change.rows c.args.out.now in
    let is = type-is c.args.start.sheet.now c.args.celltype.now c.loop-k.k c.loop-k.here _ c.loop-k.invariant.0 c.is_of.ensures in
    let next = instance-more c.args.start.sheet.now c.loop-k.k 12 c.loop-k.here _ c.loop-k.invariant.0 c.next-here.ensures in
    elim c.if-is_of.branch [
      | then-is_of w ↦ (
        next,
        w.least-is ∙ w.lesser_of-least.ensures
            ∙ rw (c.loop-k.invariant.1, w.refusal_in.ensures, c.loop-k.invariant.0) (lesser-refused (least_of test refusal c.loop-k.k) (refusal c.loop-k.k))
            ∙ ap refused (least_with test c.loop-k.k refusal _ (least_of test refusal c.loop-k.k) (is ∙ w.if-is_of.true) refl refl),
      )
      | else-is_of w ↦ (
        next,
        w.least-is ∙ c.loop-k.invariant.1 ∙ ap refused (least_without test c.loop-k.k refusal (least_of test refusal c.loop-k.k) (is ∙ w.if-is_of.false) refl),
      )
    ]

pub returns : goal.returns
unfolding refusal_every
returns c =
    let e : c.loop-k.k ≡ c.args.start.plan.instances = omega arith in
    rw e at c.loop-k.invariant.1
