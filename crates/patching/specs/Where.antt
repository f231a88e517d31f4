-- 'A place says which text': where a word of the new file stands.
-- Assumes nothing.
use Rattle.std.specs.Prelude.{ℕ, Bool}

-- a word of the file, or of the incoming text
pub record Where : Type 0 where
  pub incoming : Bool
  pub place : ℕ

abbrev pub at : Bool → ℕ → Where
at side p = record { incoming = side; place = p }
