-- The contracts of the reader and of the patch determine what they say and leave.
-- Assumes nothing.
use Rattle.std.specs.Prelude.{ℕ, ◌≡◌, List}
use Rattle.std.proofs.Common.{sym, ◌∙◌}
use Rattle.grammar.specs.Machine.{Res}
use Rattle.grammar.specs.Reading.{At}
use Rattle.patch.specs.FileRead.{FileRead}
use Rattle.patch.specs.Files.{FileIs}
use Rattle.patch.specs.Patched.{Patched}
use Rattle.patch.specs.Meaning.{Course, PatchIs}

-- ONE OUTCOME of a reading, of a file or of one cell: the answer, the divider, the scale, the header's texts and both tables
pub reading-one-outcome : (o : Res At) (u u1 u2 t t1 t2 : List ℕ) (r1 r2 : FileRead) → FileIs o u u1 t t1 r1 → FileIs o u u2 t t2 r2
    → (r1.answer ≡ r2.answer) × (r1.slash ≡ r2.slash) × (r1.unit ≡ r2.unit) × (r1.texts ≡ r2.texts) × (u1 ≡ u2) × (t1 ≡ t2)
reading-one-outcome o u u1 u2 t t1 t2 r1 r2 a b = (
  a.says ∙ sym b.says,
  a.slash ∙ sym b.slash,
  a.unit ∙ sym b.unit,
  a.texts ∙ sym b.texts,
  a.cells ∙ sym b.cells,
  a.entries ∙ sym b.entries,
)

-- ONE OUTCOME of a patch: two outcomes that satisfy the contract, for the same input, are the same
pub one-outcome : (start : List ℕ) (c : Course) (u u1 u2 t t1 t2 v v1 v2 w w1 w2 cur cur1 cur2 : List ℕ) (r1 r2 : Patched)
    → PatchIs start c u u1 t t1 v v1 w w1 cur cur1 r1 → PatchIs start c u u2 t t2 v v2 w w2 cur cur2 r2
    → (r1 ≡ r2) × (u1 ≡ u2) × (t1 ≡ t2) × (v1 ≡ v2) × (w1 ≡ w2) × (cur1 ≡ cur2)
one-outcome start c u u1 u2 t t1 t2 v v1 v2 w w1 w2 cur cur1 cur2 r1 r2 a b = (
  a.says ∙ sym b.says,
  a.cells ∙ sym b.cells,
  a.entries ∙ sym b.entries,
  a.incoming_cells ∙ sym b.incoming_cells,
  a.incoming_entries ∙ sym b.incoming_entries,
  a.sheet ∙ sym b.sheet,
)
