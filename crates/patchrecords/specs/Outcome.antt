-- The contract of the patch that is lent records determines what it says and leaves.
-- Assumes nothing.
use Rattle.std.specs.Prelude.{ℕ, ◌≡◌, List}
use Rattle.std.proofs.Common.{sym, ◌∙◌}
use Rattle.grammar.specs.declared.Cell.{Cell}
use Rattle.patch.specs.declared.Counted.{Counted}
use Rattle.patch.specs.Meaning.{Course}
use Rattle.patchwithin.specs.Patching.{PatchedRecords}

-- ONE OUTCOME: the answer and both counts, the four tables, the current sheet, and both slices of records
pub one-outcome : (start : List ℕ) (c : Course) (u u1 u2 t t1 t2 v v1 v2 w w1 w2 cur cur1 cur2 : List ℕ) (rs rs1 rs2 ss ss1 ss2 : List Cell) (r1 r2 : Counted)
    → PatchedRecords start c u u1 t t1 v v1 w w1 cur cur1 rs rs1 ss ss1 r1 → PatchedRecords start c u u2 t t2 v v2 w w2 cur cur2 rs rs2 ss ss2 r2
    → (r1.answer ≡ r2.answer) × (r1.cells ≡ r2.cells) × (r1.incoming ≡ r2.incoming) × (u1 ≡ u2) × (t1 ≡ t2) × (v1 ≡ v2) × (w1 ≡ w2)
    × (cur1 ≡ cur2) × (rs1 ≡ rs2) × (ss1 ≡ ss2)
one-outcome start c u u1 u2 t t1 t2 v v1 v2 w w1 w2 cur cur1 cur2 rs rs1 rs2 ss ss1 ss2 r1 r2 a b = (
  a.0.0.says ∙ sym b.0.0.says,
  a.0.1 ∙ sym b.0.1,
  a.0.2 ∙ sym b.0.2,
  a.0.0.cells ∙ sym b.0.0.cells,
  a.0.0.entries ∙ sym b.0.0.entries,
  a.0.0.incoming_cells ∙ sym b.0.0.incoming_cells,
  a.0.0.incoming_entries ∙ sym b.0.0.incoming_entries,
  a.0.0.sheet ∙ sym b.0.0.sheet,
  a.1 ∙ sym b.1,
  a.2 ∙ sym b.2,
)
