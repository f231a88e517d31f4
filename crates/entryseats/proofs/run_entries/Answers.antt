-- `entryseats::run_entries` meets its contract. Invariant: the seats were run through the first k entries.
use Prim.Native.Nat.{◌+◌, ◌*◌}
use mathlib.Core.Path.{◌≡◌, refl, ◌∙◌}
use native.Mathlib.Omega.{arith}
use native.Mathlib.Numerals.{add-one}
use lib.ListN.{length}
use Rattle.findseat.specs.Laws.{order_there}
use Rattle.nearby.specs.Laws.{seats_unwanted, entries_none, entries_more, entries_stop, entries_end}
use Rattle.entryseats.proofs.run_entries.Goals as goal
use Rattle.entryseats.proofs.run_entries.Goals.{then-is_wanted+else-number-ne0, else-is_wanted}

pub loop-k-init : goal.loop-k-init
loop-k-init c =
    let a = c.args.asked in
    let s = a.searched in
    (refl, entries_none s.start.now a.text.now s.plan.slash s.plan.instances s.plan.arcs s.plan.first c.args.side c.args.entries.now c.args.first c.args.some a.whom a.celltype.now c.args.event c.args.arcs.now c.args.flags.now c.args.states.now (length c.args.arcs.now))

pub is_wanted-requires : goal.is_wanted-requires
is_wanted-requires c =
    let a = c.args.asked in
    let s = a.searched in
    order_there s.start.now s.plan.arcs s.plan.first c.args.arcs.now (length c.args.arcs.now) c.requires.1.good c.requires.2

pub returns-then-number-ne0 : goal.returns-then-number-ne0
returns-then-number-ne0 c =
    let a = c.args.asked in
    let s = a.searched in
    (c.run_entry-number.ensures.0 ∙ c.loop-k.invariant.0, entries_stop s.start.now a.text.now s.plan.slash s.plan.instances s.plan.arcs s.plan.first c.args.side c.args.entries.now c.args.first c.args.some a.whom a.celltype.now c.args.event c.args.arcs.now c.args.flags.now c.args.states.now (length c.args.arcs.now) c.loop-k.k c.run_entry-number.result c.loop-k.states c.run_entry-number.new.states c.loop-k-test.true c.loop-k.invariant.1 c.if-number-ne0.true (c.run_entry-number.ensures.1.1 c.if-number-ne0.true))

pub loop-k-preserved : goal.loop-k-preserved
loop-k-preserved c =
    let a = c.args.asked in
    let s = a.searched in
    elim c.if-is_wanted.branch [ then-is_wanted+else-number-ne0 w ↦ (c.if-is_wanted.auto.states ∙ c.loop-k.invariant.0, rw (w.states-is, add-one) (entries_more s.start.now a.text.now s.plan.slash s.plan.instances s.plan.arcs s.plan.first c.args.side c.args.entries.now c.args.first c.args.some a.whom a.celltype.now c.args.event c.args.arcs.now c.args.flags.now c.args.states.now (length c.args.arcs.now) c.loop-k.k c.loop-k.states _ c.loop-k-test.true c.loop-k.invariant.1 (w.run_entry-number.ensures.1.0 w.if-number-ne0.false))) | else-is_wanted w ↦ (c.if-is_wanted.auto.states ∙ c.loop-k.invariant.0, rw (w.states-is, add-one) (entries_more s.start.now a.text.now s.plan.slash s.plan.instances s.plan.arcs s.plan.first c.args.side c.args.entries.now c.args.first c.args.some a.whom a.celltype.now c.args.event c.args.arcs.now c.args.flags.now c.args.states.now (length c.args.arcs.now) c.loop-k.k c.loop-k.states c.loop-k.states c.loop-k-test.true c.loop-k.invariant.1 (seats_unwanted s.start.now a.text.now s.plan.slash s.plan.instances c.args.entries.now (28 * (c.args.first + c.loop-k.k)) a.whom a.celltype.now c.args.arcs.now c.args.flags.now c.loop-k.states (length c.args.arcs.now) (rw c.head_at-entry.ensures at (c.is_wanted.ensures w.if-is_wanted.false))))) ]

pub returns : goal.returns
returns c =
    let a = c.args.asked in
    let s = a.searched in
    let e : c.loop-k.k ≡ c.args.some = omega (arith, c.loop-k-test.false) in
    (c.loop-k.invariant.0, entries_end s.start.now a.text.now s.plan.slash s.plan.instances s.plan.arcs s.plan.first c.args.side c.args.entries.now c.args.first c.args.some a.whom a.celltype.now c.args.event c.args.arcs.now c.args.flags.now c.args.states.now (length c.args.arcs.now) c.loop-k.states (rw e at c.loop-k.invariant.1))
