-- Values within 10^15 either way, and supplies (the laws: proofs/Ranges.antt).
-- Assumes nothing.
use Rattle.std.specs.Prelude.{◌≤◌, nat_abs}
use Rattle.std.proofs.Math.Option.{none, some}
use Rattle.history.specs.Events.{limit, Value, Supply, nothing, replace, add}

-- a value is within 10^15, or there is none
abbrev pub InRange : Value → Type 0
InRange none = Unit {0}
InRange (some z) = nat_abs z ≤ limit

-- a supply that replaces is within it; one that adds is judged by the sum
abbrev pub Fits : Supply → Type 0
Fits nothing = Unit {0}
Fits (replace t) = nat_abs t ≤ limit
Fits (add t) = Unit {0}
