-- `amounts::write_arc` meets its contract. Invariant: the values so far are written.
use Rattle.std.proofs.Common.{refl, ◌∙◌, rules}
use Rattle.amounts.specs.Amounts.{given, arc_written}
use Rattle.amounts.specs.Turns.{written-more}
use Rattle.amounts.proofs.write_arc.Goals as goal

pub loop-slot-init : goal.loop-slot-init
unfolding arc_written
loop-slot-init c = (refl, refl)

pub loop-slot-preserved : goal.loop-slot-preserved
unfolding given
loop-slot-preserved c =
    (c.write_value.ensures ∙ rw (written-more, c.loop-slot.invariant.0), search rules)

pub shape_of-sheet : goal.shape_of-sheet
shape_of-sheet c = c.loop-slot.invariant.1
