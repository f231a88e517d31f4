-- `apply::write_every` meets its contract. Invariant: what is made of the sheet in the instances so far that are of the type is written.
use mathlib.Core.Path.{◌≡◌, refl, ◌∙◌}
use native.Mathlib.Omega.{arith}
use Rattle.sheetlaws.specs.Sheet.{nth}
use Rattle.entryarcs.specs.Bytes.{written_of, written_every}
use Rattle.entryarcs.specs.Turns.{written_with, written_without, instance-whole, instance-more, typed, type-is, writes_in}
use Rattle.apply.proofs.write_every.Goals as goal
use Rattle.apply.proofs.write_every.Goals.{then-is_of, else-is_of}

pub loop-k-init : goal.loop-k-init
unfolding nth written_of
loop-k-init c = (refl, refl, refl)

pub is_of-requires : goal.is_of-requires
is_of-requires c =
    instance-whole c.args.start.sheet.now c.loop-k.k 12 c.loop-k.here c.args.start.plan.instances c.requires.instances (omega arith) c.loop-k.invariant.0

pub write_in-requires : goal.write_in-requires
write_in-requires c =
    let whole = instance-whole c.args.start.sheet.now c.loop-k.k 12 c.loop-k.here c.args.start.plan.instances c.requires.instances (omega arith)
    c.loop-k.invariant.0 in
    (record { arcs = c.requires.search.good; long = c.loop-k.invariant.2 ∙ c.requires.long; there = whole }, c.requires.search)

pub invariant_of-next : goal.invariant_of-next
invariant_of-next c =
    record { whole = (instance-whole c.args.start.sheet.now c.loop-k.k 12 c.loop-k.here c.args.start.plan.instances c.requires.instances (omega arith) c.loop-k.invariant.0) }

pub loop-k-preserved : goal.loop-k-preserved
loop-k-preserved c =
    let test = typed c.args.start.sheet.now c.args.celltype.now in
    let write = writes_in c.args.start.sheet.now c.args.change.text.now c.args.start.plan.slash c.args.start.plan.instances c.args.start.plan.arcs c.args.start.plan.first c.args.change.head
    c.args.change.rows in
    let is = type-is c.args.start.sheet.now c.args.celltype.now c.loop-k.k c.loop-k.here _ c.loop-k.invariant.0 c.is_of.ensures in
    let next = instance-more c.args.start.sheet.now c.loop-k.k 12 c.loop-k.here _ c.loop-k.invariant.0 c.next-here.ensures in
    elim c.if-is_of.branch [
      | then-is_of w ↦ (
        next,
        written_with test c.loop-k.k write c.args.out.now _ c.loop-k.out (is ∙ w.if-is_of.true) c.loop-k.invariant.1
            (w.out-is ∙ w.write_in.ensures ∙ rw c.loop-k.invariant.0),
        c.if-is_of.auto.out ∙ c.loop-k.invariant.2,
      )
      | else-is_of w ↦ (
        next,
        written_without test c.loop-k.k write c.args.out.now _ (is ∙ w.if-is_of.false) (w.out-is ∙ c.loop-k.invariant.1),
        c.if-is_of.auto.out ∙ c.loop-k.invariant.2,
      )
    ]

pub shape_of-out : goal.shape_of-out
shape_of-out c =
    c.loop-k.invariant.2

pub returns : goal.returns
unfolding written_every
returns c =
    let e : c.loop-k.k ≡ c.args.start.plan.instances = omega arith in
    rw e at c.loop-k.invariant.1
