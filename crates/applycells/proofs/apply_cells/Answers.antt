-- `applycells::apply_cells` meets its contract. Invariant: the first k cells were gone through, and `first` is the number of their entries.
use Prim.Native.Nat.{ℕ, ◌+◌, ◌*◌}
use mathlib.Core.Path.{◌≡◌, refl, ◌∙◌, ap}
use native.Mathlib.Omega.{arith}
use native.Mathlib.Numerals.{add-one}
use lib.ListN.{get_or}
use Rattle.meaning.specs.Cells.{entries_before, entries_within}
use Rattle.applycells.specs.CellLaws.{cells-none, cells-more, cells-stop, cells_end}
use Rattle.applycells.proofs.apply_cells.Goals as goal

pub overflow_add-first-in-loop-k : goal.overflow_add-first-in-loop-k
overflow_add-first-in-loop-k c =
    let w = entries_within c.args.read.cells.now c.loop-k.k c.args.count (omega arith) in
    omega (arith, w, c.loop-k.invariant.0, c.requires.3)

pub loop-k-init : goal.loop-k-init
unfolding entries_before
loop-k-init c = (
  refl,
  (λ y g. cells-none c.args.lookup.start.sheet.now y c.args.lookup.start.plan.instances c.args.lookup.start.plan.arcs c.args.lookup.start.plan.first g c.args.read.text.now
      c.args.lookup.start.plan.slash c.args.read.cells.now c.args.count c.args.read.entries.now c.args.out.now),
  refl,
)

pub apply_cell-went-requires : goal.apply_cell-went-requires
apply_cell-went-requires c =
    let w = entries_within c.args.read.cells.now c.loop-k.k c.args.count (omega arith) in (
      record { instances = c.requires.0.instances; search = c.requires.0.search; long = c.loop-k.invariant.2 ∙ c.requires.0.long },
      c.requires.1,
      omega (arith, c.requires.2),
      omega
          (arith, w, c.loop-k.invariant.0, c.requires.3),
      c.requires.4,
      c.requires.5,
    )

pub shape_of-out-in-Refused : goal.shape_of-out-in-Refused
shape_of-out-in-Refused c =
    c.out-1.given ∙ c.loop-k.invariant.2

pub returns-in-Refused : goal.returns-in-Refused
returns-in-Refused c = (
  c.out-1.given ∙ c.loop-k.invariant.2,
  λ y g. cells-stop c.args.lookup.start.sheet.now y c.args.lookup.start.plan.instances c.args.lookup.start.plan.arcs c.args.lookup.start.plan.first g
      c.args.read.text.now c.args.lookup.start.plan.slash c.args.read.cells.now c.args.count c.args.read.entries.now c.args.out.now c.loop-k.k c.loop-k.out
      c.apply_cell-went.new.out c.loop-k.first c.in-Refused.number c.in-Refused.place (omega arith) c.loop-k.invariant.0
      (c.loop-k.invariant.1 y g) (rw c.in-Refused.is at c.apply_cell-went.ensures.1) y g,
)

pub loop-k-preserved : goal.loop-k-preserved
unfolding entries_before
loop-k-preserved c = (
  rw add-one (ap (λ (x : ℕ). x + get_or c.args.read.cells.now (7 * c.loop-k.k + 6) 0) c.loop-k.invariant.0),
  (λ y g. rw add-one (cells-more c.args.lookup.start.sheet.now y c.args.lookup.start.plan.instances c.args.lookup.start.plan.arcs c.args.lookup.start.plan.first g c.args.read.text.now
      c.args.lookup.start.plan.slash c.args.read.cells.now c.args.count c.args.read.entries.now c.args.out.now c.loop-k.k c.loop-k.out
      c.apply_cell-went.new.out c.loop-k.first (omega arith) c.loop-k.invariant.0 (c.loop-k.invariant.1 y g)
      (rw c.in_default.is at c.apply_cell-went.ensures.1))),
  c.out-1.given ∙ c.loop-k.invariant.2,
)

pub shape_of-out : goal.shape_of-out
shape_of-out c =
    c.loop-k.invariant.2

pub returns : goal.returns
returns c =
    let e : c.loop-k.k ≡ c.args.count = omega arith in (
      c.loop-k.invariant.2,
      λ y g. cells_end c.args.lookup.start.sheet.now y c.args.lookup.start.plan.instances c.args.lookup.start.plan.arcs c.args.lookup.start.plan.first g c.args.read.text.now
          c.args.lookup.start.plan.slash c.args.read.cells.now c.args.count c.args.read.entries.now c.args.out.now c.loop-k.out (rw e at (c.loop-k.invariant.1 y g)) y g,
    )
