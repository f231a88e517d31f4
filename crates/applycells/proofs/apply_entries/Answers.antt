-- `applycells::apply_entries` meets its contract. Invariant: the first k entries were gone through.
use mathlib.Core.Path.{◌≡◌, refl, sym, ◌∙◌}
use native.Mathlib.Omega.{arith}
use native.Mathlib.Numerals.{add-one}
use Rattle.meaning.specs.AmountTurns.{none-refused, some-refused}
use Rattle.applycells.specs.EntryLaws.{entries_none, entries_more, entries_stop, entries_end}
use Rattle.applycells.proofs.apply_entries.Goals as goal

pub loop-k-init : goal.loop-k-init
loop-k-init c = (
  (λ y g. entries_none c.args.lookup.start.sheet.now y c.args.lookup.start.plan.instances c.args.lookup.start.plan.arcs c.args.lookup.start.plan.first g c.args.read.text.now
      c.args.lookup.start.plan.slash c.args.read.entries.now c.args.first c.args.count c.args.whom c.args.celltype.now c.args.out.now),
  refl,
)

pub apply_entry-requires : goal.apply_entry-requires
apply_entry-requires c =
    (record { instances = c.requires.0.instances; search = c.requires.0.search; long = c.loop-k.invariant.1 ∙ c.requires.0.long }, omega (arith, c.requires.1), c.requires.2, c.requires.3, c.requires.4)

pub shape_of-out-in-Some : goal.shape_of-out-in-Some
shape_of-out-in-Some c =
    c.out-1.given ∙ c.loop-k.invariant.1

pub returns-in-Some : goal.returns-in-Some
returns-in-Some c =
    let r = sym c.apply_entry.ensures.0 ∙ c.in-Some.is in (
      c.out-1.given ∙ c.loop-k.invariant.1,
      λ y g. entries_stop c.args.lookup.start.sheet.now y c.args.lookup.start.plan.instances c.args.lookup.start.plan.arcs c.args.lookup.start.plan.first g
          c.args.read.text.now c.args.lookup.start.plan.slash c.args.read.entries.now c.args.first c.args.count c.args.whom c.args.celltype.now c.args.out.now
          c.loop-k.k c.loop-k.out c.apply_entry.new.out c.in-Some.number (omega arith) (c.loop-k.invariant.0 y g)
          (some-refused _ _ r).0 (some-refused _ _ r).1 y g,
    )

pub loop-k-preserved : goal.loop-k-preserved
loop-k-preserved c = (
  (λ y g. rw add-one (entries_more c.args.lookup.start.sheet.now y c.args.lookup.start.plan.instances c.args.lookup.start.plan.arcs c.args.lookup.start.plan.first g
      c.args.read.text.now c.args.lookup.start.plan.slash c.args.read.entries.now c.args.first c.args.count c.args.whom c.args.celltype.now c.args.out.now
      c.loop-k.k c.loop-k.out c.apply_entry.new.out (omega arith) (c.loop-k.invariant.0 y g)
      (none-refused _ (sym c.apply_entry.ensures.0 ∙ c.in_default.is)) c.apply_entry.ensures.1)),
  c.out-1.given ∙ c.loop-k.invariant.1,
)

pub shape_of-out : goal.shape_of-out
shape_of-out c =
    c.loop-k.invariant.1

pub returns : goal.returns
returns c =
    let e : c.loop-k.k ≡ c.args.count = omega arith in (
      c.loop-k.invariant.1,
      λ y g. entries_end c.args.lookup.start.sheet.now y c.args.lookup.start.plan.instances c.args.lookup.start.plan.arcs c.args.lookup.start.plan.first g c.args.read.text.now
          c.args.lookup.start.plan.slash c.args.read.entries.now c.args.first c.args.count c.args.whom c.args.celltype.now c.args.out.now c.loop-k.out
          (rw e at (c.loop-k.invariant.0 y g)) y g,
    )
