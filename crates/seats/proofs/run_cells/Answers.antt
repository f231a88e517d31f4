-- `seats::run_cells` meets its contract. Invariant: the seats were run through the cells number `from` up to k, `first` entries stand before number k, and its events start at `event`.
use Prim.Native.Nat.{ℕ, ◌+◌, ◌*◌}
use mathlib.Core.Path.{refl, ◌∙◌, ap}
use native.Mathlib.Omega.{arith}
use native.Mathlib.Numerals.{add-one}
use lib.ListN.{get_or}
use lib.ListN.{length}
use Rattle.meant.specs.Cells.{entries_before, entries_within}
use Rattle.nearby.specs.Laws.{all_none, all_more, all-stop, all_end}
use Rattle.seats.proofs.run_cells.Goals as goal

pub run_seats-least-requires : goal.run_seats-least-requires
run_seats-least-requires c =
    let w = entries_within c.args.cells.now c.loop-k.k c.args.to (omega arith) in
    (c.requires.0, c.requires.1, c.requires.2, c.requires.3, c.requires.4, omega (arith, c.requires.5, c.loop-k.invariant.3), omega (arith, c.requires.6), omega (arith, w, c.loop-k.invariant.0, c.requires.8), omega (arith, w, c.loop-k.invariant.0, c.loop-k.invariant.1, c.requires.6, c.requires.8, c.requires.9))

pub overflow_add-first : goal.overflow_add-first
overflow_add-first c =
    let w = entries_within c.args.cells.now c.loop-k.k c.args.to (omega arith) in
    omega (arith, w, c.loop-k.invariant.0, c.requires.8)

pub overflow_add-event : goal.overflow_add-event
overflow_add-event c =
    let w = entries_within c.args.cells.now c.loop-k.k c.args.to (omega arith) in
    omega (arith, w, c.loop-k.invariant.0, c.requires.8)

pub overflow_add-event-in-loop-k : goal.overflow_add-event-in-loop-k
overflow_add-event-in-loop-k c =
    let w = entries_within c.args.cells.now c.loop-k.k c.args.to (omega arith) in
    omega (arith, w, c.loop-k.invariant.0, c.loop-k.invariant.1, c.requires.6, c.requires.8, c.requires.9)

pub loop-k-init : goal.loop-k-init
loop-k-init c =
    let s = c.args.searched in
    let t = c.args.seated in
    (c.requires.7, omega arith, all_none s.start.now c.args.file.now s.plan.slash s.plan.instances s.plan.arcs s.plan.first c.args.cells.now c.args.from c.args.to c.args.entries.now c.args.begin t.arcs.now t.flags.now c.args.states.now (length t.arcs.now), refl)

pub returns-in-Fault : goal.returns-in-Fault
returns-in-Fault c =
    let s = c.args.searched in
    let t = c.args.seated in
    (c.run_seats-least.ensures.0 ∙ c.loop-k.invariant.3, all-stop s.start.now c.args.file.now s.plan.slash s.plan.instances s.plan.arcs s.plan.first c.args.cells.now c.args.from c.args.to c.args.entries.now c.args.begin t.arcs.now t.flags.now c.args.states.now (length t.arcs.now) c.loop-k.k c.loop-k.states c.run_seats-least.new.states c.loop-k.first c.loop-k.event c.in-Fault.e c.in-Fault.number c.in-Fault.place c.in-Fault.incoming (omega arith) (omega arith) c.loop-k.invariant.0 c.loop-k.invariant.2 (rw c.in-Fault.is at c.run_seats-least.ensures.1))

pub loop-k-preserved : goal.loop-k-preserved
unfolding entries_before
loop-k-preserved c =
    let s = c.args.searched in
    let t = c.args.seated in
    (rw add-one (ap (λ (x : ℕ). x + get_or c.args.cells.now (7 * c.loop-k.k + 6) 0) c.loop-k.invariant.0), omega (arith, c.loop-k.invariant.1), rw add-one (all_more s.start.now c.args.file.now s.plan.slash s.plan.instances s.plan.arcs s.plan.first c.args.cells.now c.args.from c.args.to c.args.entries.now c.args.begin t.arcs.now t.flags.now c.args.states.now (length t.arcs.now) c.loop-k.k c.loop-k.states c.run_seats-least.new.states c.loop-k.first c.loop-k.event _ (omega arith) (omega arith) c.loop-k.invariant.0 refl c.loop-k.invariant.2 (rw c.in_default.is at c.run_seats-least.ensures.1)), c.run_seats-least.ensures.0 ∙ c.loop-k.invariant.3)

pub returns : goal.returns
returns c =
    let s = c.args.searched in
    let t = c.args.seated in
    (c.loop-k.invariant.3, all_end s.start.now c.args.file.now s.plan.slash s.plan.instances s.plan.arcs s.plan.first c.args.cells.now c.args.from c.args.to c.args.entries.now c.args.begin t.arcs.now t.flags.now c.args.states.now (length t.arcs.now) c.loop-k.k c.loop-k.states c.loop-k.event (omega arith) (λ h. omega arith) c.loop-k.invariant.2)
