-- THE TOKENS OF THE NEW FILE: those before the cell, the incoming cell's, and those behind it, with their places moved.
-- Assumes nothing.
use Rattle.std.specs.Prelude.{ℕ, ◌+◌, List, ◌++◌, take, drop}
use Rattle.tokens.specs.Stream.{part}

-- the text with the part of another in place of a part of its own
abbrev pub swapped : List ℕ → ℕ → ℕ → List ℕ → ℕ → ℕ → List ℕ
swapped s from to t from' to' = take from s ++ (part from' to' t ++ drop to s)
