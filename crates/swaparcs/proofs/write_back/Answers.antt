-- `swaparcs::write_back` meets its contract. Invariant: the values so far are written.
use Prim.Native.Nat.{ℕ, ◌+◌, ◌*◌}
use mathlib.Core.Path.{refl, ◌∙◌, ap}
use lib.Seq.{paste}
use borrow.Author.Rules.{rules}
use Rattle.wire.specs.Wire.{be_bytes}
use Rattle.meant.specs.AmountTurns.{bits_back}
use Rattle.meant.specs.Scratch.{back_written}
use Rattle.swaparcs.specs.Turns.{value_with, value_without}
use Rattle.swaparcs.proofs.write_back.Goals as goal
use Rattle.swaparcs.proofs.write_back.Goals.{then-flags-slot-ne0, else-flags-slot-ne0}

pub loop-slot-init : goal.loop-slot-init
unfolding back_written
loop-slot-init c = refl

pub loop-slot-preserved : goal.loop-slot-preserved
loop-slot-preserved c =
    elim c.if-flags-slot-ne0.branch [
      | then-flags-slot-ne0 w ↦
          value_with c.args.current.now c.args.at c.args.state.now c.args.flags.now c.loop-slot.slot _ c.loop-slot.current c.loop-slot.invariant
          w.if-flags-slot-ne0.true (w.current-is ∙ w.write_i64.ensures ∙ ap (λ (n : ℕ). paste c.loop-slot.current (c.args.at + 8 * c.loop-slot.slot) (be_bytes n) 8)
          (bits_back w.of_bits.result w.u64_at-word.result (search rules) w.of_bits.ensures ∙ w.u64_at-word.ensures))
      | else-flags-slot-ne0 w ↦
          value_without c.args.current.now c.args.at c.args.state.now c.args.flags.now c.loop-slot.slot _ c.loop-slot.current
          c.loop-slot.invariant w.if-flags-slot-ne0.false w.current-is
    ]
