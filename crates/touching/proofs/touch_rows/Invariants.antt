-- `touching::touch_rows` meets its contract. Invariant: the flags behind the slots so far.
use mathlib.Core.Path.{◌≡◌}
use Rattle.patching.specs.Scratch.{touched_flags}
use Rattle.touching.proofs.touch_rows.Given as goal

abbrev pub invariant-loop-slot : goal.invariant-loop-slot
invariant-loop-slot l = l.flags ≡ touched_flags l.initial.flags l.rows l.slot
