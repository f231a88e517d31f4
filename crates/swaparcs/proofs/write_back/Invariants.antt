-- `swaparcs::write_back` meets its contract. Invariant: the values so far are written.
use mathlib.Core.Path.{◌≡◌}
use Rattle.meant.specs.Scratch.{back_written}
use Rattle.swaparcs.proofs.write_back.Given as goal

abbrev pub invariant-loop-slot : goal.invariant-loop-slot
invariant-loop-slot l =
    l.current ≡ back_written l.initial.current l.at l.state l.flags l.slot
