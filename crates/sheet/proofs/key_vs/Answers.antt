-- `sheet::key_vs` meets its contract.
use borrow.Author.Tests.{eq-eqb, ne_eqb}
use Rattle.sheetparts.specs.Form.{cmp_key}
use Rattle.sheet.specs.Find.{wanted}
use Rattle.sheet.proofs.key_vs.Goals as goal

pub returns-then-by_kind-ne-SAME : goal.returns-then-by_kind-ne-SAME
unfolding cmp_key wanted
returns-then-by_kind-ne-SAME c = rw (← c.kind.ensures, ← c.cmp_num-by_kind.ensures, ne_eqb _ _ c.if-by_kind-ne-SAME.true)

pub returns-then-by_first-ne-SAME : goal.returns-then-by_first-ne-SAME
unfolding cmp_key wanted
returns-then-by_first-ne-SAME c =
    rw (
      ← c.kind.ensures,
      ← c.cmp_num-by_kind.ensures,
      eq-eqb _ _
          c.if-by_kind-ne-SAME.false,
      ← c.first_end.ensures,
      ← c.cmp_full-by_first.ensures,
      ne_eqb _ _
          c.if-by_first-ne-SAME.true,
    )

pub returns-then-by_edge-ne-SAME : goal.returns-then-by_edge-ne-SAME
unfolding cmp_key wanted
returns-then-by_edge-ne-SAME c =
    rw (
      ← c.kind.ensures,
      ← c.cmp_num-by_kind.ensures,
      eq-eqb _ _
          c.if-by_kind-ne-SAME.false,
      ← c.first_end.ensures,
      ← c.cmp_full-by_first.ensures,
      eq-eqb _ _ c.if-by_first-ne-SAME.false,
      ← c.edge.ensures,
      ← c.cmp_num-by_edge.ensures,
      ne_eqb _ _ c.if-by_edge-ne-SAME.true,
    )

pub returns-then-by_second-ne-SAME : goal.returns-then-by_second-ne-SAME
unfolding cmp_key wanted
returns-then-by_second-ne-SAME c =
    rw (
      ← c.kind.ensures,
      ← c.cmp_num-by_kind.ensures,
      eq-eqb _ _
          c.if-by_kind-ne-SAME.false,
      ← c.first_end.ensures,
      ← c.cmp_full-by_first.ensures,
      eq-eqb _ _
          c.if-by_first-ne-SAME.false,
      ← c.edge.ensures,
      ← c.cmp_num-by_edge.ensures,
      eq-eqb _ _ c.if-by_edge-ne-SAME.false,
      ← c.second_vs-by_second.ensures,
      ne_eqb _ _
          c.if-by_second-ne-SAME.true,
    )

pub returns : goal.returns
unfolding cmp_key wanted
returns c =
    rw (
      ← c.kind.ensures,
      ← c.cmp_num-by_kind.ensures,
      eq-eqb _ _
          c.if-by_kind-ne-SAME.false,
      ← c.first_end.ensures,
      ← c.cmp_full-by_first.ensures,
      eq-eqb _ _
          c.if-by_first-ne-SAME.false,
      ← c.edge.ensures,
      ← c.cmp_num-by_edge.ensures,
      eq-eqb _ _ c.if-by_edge-ne-SAME.false,
      ← c.second_vs-by_second.ensures,
      eq-eqb _ _
          c.if-by_second-ne-SAME.false,
      ← c.edge2.ensures,
    ) c.cmp_num.ensures
