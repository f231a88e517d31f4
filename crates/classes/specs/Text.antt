-- A quoted text as the list of its bytes, so that definitions and examples read beside the paper.
-- Assumes nothing.
use Rattle.std.specs.Prelude.{List, [], ◌∷◌, ℕ}
use Prim.Native.Char.{code}
use Prim.Native.String.{String}

abbrev pub bytes : String → List ℕ
bytes Prim.Native.String.[] = []
bytes (Prim.Native.String.◌∷◌ c s) = code c ∷ bytes s
