-- What the program has in hand when it applies an entry: a starting sheet that was checked, landmarks, and a sheet of the same length to write.
-- Assumes nothing.
use Rattle.std.specs.Prelude.{ℕ, ◌≤◌, ◌≡◌, List, length}
use Rattle.sheetlaws.specs.Sheet.{in_end}
use Rattle.sheet.specs.Find.{ArcsGood, InsGood, ArcSearch}

-- for one instance, at p
pub record InReady (b : List ℕ) (m f : ℕ) (out : List ℕ) (p : ℕ) : Type 0 where
  pub arcs : ArcsGood b m f
  pub long : length out ≡ length b
  pub there : in_end b p ≤ length b

-- and for all of them
pub record Ready (b : List ℕ) (n m f : ℕ) (marks out : List ℕ) : Type 0 where
  pub instances : InsGood b n 12
  pub search : ArcSearch b m f marks
  pub long : length out ≡ length b
