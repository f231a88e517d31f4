-- `touching::touch_rows` meets its contract. Invariant: the flags behind the slots so far.
use mathlib.Core.Path.{refl}
use Rattle.applying.specs.Amounts.{given}
use Rattle.patching.specs.Scratch.{touched_flags}
use Rattle.touching.specs.Turns.{slot_with, slot_without}
use Rattle.touching.proofs.touch_rows.Goals as goal
use Rattle.touching.proofs.touch_rows.Goals.{then-rows-slot, else-rows-slot}

pub loop-slot-init : goal.loop-slot-init
unfolding touched_flags
loop-slot-init c = refl

pub loop-slot-preserved : goal.loop-slot-preserved
unfolding given
loop-slot-preserved c =
    elim c.if-rows-slot.branch [
      | then-rows-slot w ↦ slot_with c.args.flags.now _ c.loop-slot.slot _ c.loop-slot.flags c.loop-slot.invariant w.if-rows-slot.true w.flags-is
      | else-rows-slot w ↦ slot_without c.args.flags.now _ c.loop-slot.slot _ c.loop-slot.flags c.loop-slot.invariant w.if-rows-slot.false w.flags-is
    ]
