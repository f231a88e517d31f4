-- `arcrun::run_entry` meets its contract.
use mathlib.Core.Path.{refl, sym, ◌∙◌}
use native.Mathlib.Omega.{arith}
use Rattle.meant.specs.AmountTurns.{none-is, number-is}
use Rattle.meant.specs.Entries.{rows_at}
use Rattle.arcrun.specs.Run.{entry_number, entry_state}
use Rattle.arcrun.proofs.run_entry.Goals as goal
use Rattle.arcrun.proofs.run_entry.Goals.{then-is_none, else-is_none}

pub returns-then-not-is_meant : goal.returns-then-not-is_meant
unfolding entry_number entry_state
returns-then-not-is_meant c =
    let m = sym c.is_meant.ensures ∙ c.if-not-is_meant.true in
    rw (← c.head_at-entry.ensures, m) (refl, refl)

pub arc_refusal-refusal-requires : goal.arc_refusal-refusal-requires
arc_refusal-refusal-requires c =
    omega (arith, c.requires.5)

pub write_arc-requires : goal.write_arc-requires
write_arc-requires c =
    omega (arith, c.requires.5)

pub returns : goal.returns
unfolding entry_number entry_state rows_at
returns c =
    let m = sym c.is_meant.ensures ∙ c.if-not-is_meant.false in
    let r = c.arc_refusal-refusal.ensures in (
      rw (← c.head_at-entry.ensures, m, ← c.expand.ensures, ← c.mask-rows.ensures) (c.unwrap_or.ensures ∙ rw r (number-is _)),
      elim c.if-is_none.branch [
        | then-is_none w ↦ w.state-is
            ∙ rw (← c.head_at-entry.ensures, m, ← c.expand.ensures, ← c.mask-rows.ensures, none-is _ _ _ r c.is_none.ensures, w.if-is_none.true) w.write_arc.ensures
        | else-is_none w ↦ w.state-is
            ∙ rw (← c.head_at-entry.ensures, m, ← c.expand.ensures, ← c.mask-rows.ensures, none-is _ _ _ r c.is_none.ensures, w.if-is_none.false)
      ],
    )
