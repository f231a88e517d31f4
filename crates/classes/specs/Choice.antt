-- Choosing by a test. The definitions of every crate are written with these.
-- Assumes nothing.
use Rattle.std.specs.Prelude.{ℕ, Bool, true, false, leb}

abbrev pub pick : {A : Type 0} → Bool → A → A → A
pick true a b = a
pick false a b = b

abbrev pub or : Bool → Bool → Bool
or true b = true
or false b = b

abbrev pub and : Bool → Bool → Bool
and true b = b
and false b = false

-- from lo to hi, both included
abbrev pub within : ℕ → ℕ → ℕ → Bool
within lo hi b = and (leb lo b) (leb b hi)
