-- `swapseats::swap_seated` meets its contract.
use Prim.Native.Nat.{ℕ}
use mathlib.Core.Path.{sym}
use lib.ListN.{length-replicate}
use Rattle.swapseats.proofs.swap_seated.Goals as goal

pub mark_both-requires : goal.mark_both-requires
mark_both-requires c = (c.requires.0, length-replicate {A = ℕ} 131072 0)

pub slice_bounds-swap_marked-end-2 : goal.slice_bounds-swap_marked-end-2
slice_bounds-swap_marked-end-2 c = sym (length-replicate {A = ℕ} 73728 0)

pub slice_bounds-swap_marked-end-3 : goal.slice_bounds-swap_marked-end-3
slice_bounds-swap_marked-end-3 c = sym (length-replicate {A = ℕ} 589824 0)

pub swap_marked-requires : goal.swap_marked-requires
swap_marked-requires c =
    (c.requires.0, c.mark_both.ensures.1, c.mark_both.ensures.0, length-replicate {A = ℕ} 73728 0, length-replicate {A = ℕ} 589824 0, c.requires.1)
