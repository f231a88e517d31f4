-- Where tokens start (the laws: proofs/Log.antt).
-- Assumes nothing.
use Rattle.std.specs.Prelude.{List, [], ◌∷◌, ℕ}
use Rattle.tokens.specs.Stream.{Placed}

-- where the tokens of a list start
abbrev pub starts : List Placed → List ℕ
starts [] = []
starts (t ∷ ts) = t.start ∷ starts ts
