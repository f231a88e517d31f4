-- Where a word of the file or of the incoming text stands in the new file (the laws: proofs/Demand.antt).
-- Assumes nothing.
use Prim.Native.Nat.{ℕ, ◌+◌, ◌-◌}
use Rattle.std.specs.Prelude.{ltb}
use Rattle.classes.specs.Choice.{pick}
use Rattle.patch.specs.Where.{Where}

-- 1. Where a word stands

-- Where a word of the file or of the incoming text stands in the new file: the file's cell stood from p to q, the incoming one from p' to q'. A place
-- of the file before the cell stays, one behind it moves by the difference; one of the incoming text moves to where the cell stood.
unfoldable pub moved : ℕ → ℕ → ℕ → ℕ → Where → ℕ
moved p q p' q' w = pick w.incoming (p + (w.place - p')) (pick (ltb w.place p) w.place (p + (q' - p') + (w.place - q)))
