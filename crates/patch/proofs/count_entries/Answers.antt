-- `patch::count_entries` meets its contract. Invariant: the sum of the cells so far.
use Prim.Native.Nat.{ℕ, ◌+◌, ◌*◌}
use mathlib.Core.Path.{refl, ap}
use native.Mathlib.Omega.{arith}
use native.Mathlib.Numerals.{add-one}
use lib.ListN.{get_or}
use Rattle.meant.specs.Cells.{entries_before, entries_within}
use Rattle.patch.proofs.count_entries.Goals as goal

pub loop-k-init : goal.loop-k-init
unfolding entries_before
loop-k-init c = refl

pub overflow_add-sum-in-loop-k : goal.overflow_add-sum-in-loop-k
overflow_add-sum-in-loop-k c =
    let w = entries_within c.args.cells.now c.loop-k.k c.args.count (omega arith) in
    omega (arith, w, c.loop-k.invariant, c.requires.1)

pub loop-k-preserved : goal.loop-k-preserved
unfolding entries_before
loop-k-preserved c =
    rw add-one (ap (λ (x : ℕ). x + get_or c.args.cells.now (7 * c.loop-k.k + 6) 0) c.loop-k.invariant)
