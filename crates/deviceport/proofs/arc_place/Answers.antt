-- `deviceport::arc_place` meets its contract. Invariant: `here` is the place of arc number k.
use Rattle.entryarcs.specs.Search.{stride_of, mark-room, nth-next}
use Rattle.entryarcs.specs.Find.{arc_there}
use Rattle.sheetlaws.specs.Sheet.{ar_next}
use native.Mathlib.Nat.{div-mul-le_self}
use native.Mathlib.Omega.{arith}
use mathlib.Core.Path.{◌≡◌, sym, ◌∙◌}
use Prim.Native.Nat.{◌+◌, ◌/◌}
use Rattle.deviceport.proofs.arc_place.Goals as goal

pub offset_bounds-start-mark : goal.offset_bounds-start-mark
unfolding stride_of
offset_bounds-start-mark c =
    let l = mark-room c.args.start.plan.arcs c.args.number c.requires.1 in
    omega (arith, l)

pub bounds-start-mark : goal.bounds-start-mark
unfolding stride_of
bounds-start-mark c =
    mark-room c.args.start.plan.arcs c.args.number c.requires.1

pub loop-k-init : goal.loop-k-init
unfolding stride_of
loop-k-init c =
    let s = c.args.start.plan.arcs / 4096 + 1 in
    let l = div-mul-le_self c.args.number s in
    (l, c.requires.0.marks.holds (c.args.number / s) (omega (arith, l, c.requires.1)))

pub invariant_of-next : goal.invariant_of-next
invariant_of-next c =
    record { whole = (rw c.loop-k.invariant.1 (arc_there c.args.start.sheet.now c.loop-k.k c.args.start.plan.arcs c.args.start.plan.first (omega (arith, c.requires.1)) c.requires.0.good).1) }

pub loop-k-preserved : goal.loop-k-preserved
loop-k-preserved c =
    (omega arith, c.next-here.ensures ∙ rw c.loop-k.invariant.1 (sym (nth-next (ar_next c.args.start.sheet.now) c.loop-k.k c.args.start.plan.first)))

pub returns : goal.returns
returns c =
    let e : c.loop-k.k ≡ c.args.number = omega arith in
    rw e at c.loop-k.invariant.1
