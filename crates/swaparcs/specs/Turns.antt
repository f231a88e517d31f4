-- One turn of the loop that writes an arc, and what the numbers of a swap leave room for.
-- Assumes nothing.
use Rattle.std.specs.Prelude.{ℕ, ◌+◌, ◌*◌, ◌≤◌, ◌<◌, ◌≡◌, List, length, get_or}
use Rattle.std.proofs.Common.{add-one, arith}
use Rattle.std.proofs.Math.Seq.{paste}
use borrow.Author.Tests.{eq-eqb, ne_eqb}
use Rattle.wire.specs.Wire.{be64, be_bytes}
use Rattle.meant.specs.Scratch.{back_written}
use Rattle.meant.specs.Cells.{entries_before, entries_within}
use Rattle.swaparcs.specs.declared.Swap.{Swap}
use Rattle.swaparcs.specs.Loops.{SwapReady}

-- One value.
module _ (cur : List ℕ) (at : ℕ) (st flags : List ℕ) (n : ℕ) (now old : List ℕ) (was : old ≡ back_written cur at st flags n) where
  pub value_with : (get_or flags n 0 ≡ 0 → ⊥) → now ≡ paste old (at + 8 * n) (be_bytes (be64 st (8 * n))) 8 → now ≡ back_written cur at st flags (n + 1)
  unfolding back_written
  value_with d e = rw (add-one, ne_eqb _ _ d, e, was)

  pub value_without : get_or flags n 0 ≡ 0 → now ≡ old → now ≡ back_written cur at st flags (n + 1)
  unfolding back_written
  value_without d e = rw (add-one, eq-eqb _ _ d, e, was)

-- What the swap's numbers leave room for.
module _ {cells entries cells2 entries2 : List ℕ} {swap : Swap} (ready : SwapReady cells entries cells2 entries2 swap) where
  -- the outgoing cell's entries are in the table
  pub leaves : 28 * (swap.before + swap.leaving) ≤ length entries
  leaves =
      let w = entries_within cells swap.outgoing swap.cells ready.there in
      let room = ready.entries_room in
      let b = ready.before in
      let l = ready.leaving in
      omega arith

  -- and those before it
  pub front-room : 28 * entries_before cells swap.outgoing ≤ length entries
  front-room = let l = leaves in let b = ready.before in omega arith

  -- those behind it start here
  pub behind-at : swap.before + swap.leaving ≡ entries_before cells (swap.outgoing + 1)
  unfolding entries_before
  behind-at = rw (add-one, ready.before, ready.leaving)

  -- the numbers of the new file's events fit
  pub events_fit : length cells < 18446744073709551616 → length entries < 18446744073709551616 → length entries2 < 18446744073709551616
      → swap.outgoing + swap.before + 1 + swap.coming + (swap.cells + entries_before cells swap.cells) < 18446744073709551616
  events_fit c e e2 =
      let l = leaves in
      let room = ready.room in
      let t = ready.there in
      let r = ready.entries_room in
      let r2 = ready.entries_room2 in
      omega arith
