-- `amounts::arc_refusal` meets its contract. Invariant: the least refusal among the values so far.
use Rattle.std.proofs.Common.{refl, ◌∙◌}
use Rattle.amounts.specs.Amounts.{refused, given, arc_refusal}
use Rattle.amounts.specs.Turns.{refusal-more, lesser-refused}
use Rattle.amounts.proofs.arc_refusal.Goals as goal

pub loop-slot-init : goal.loop-slot-init
unfolding arc_refusal refused
loop-slot-init c = refl

pub loop-slot-preserved : goal.loop-slot-preserved
unfolding given
loop-slot-preserved c =
    c.lesser_of-least.ensures ∙ rw (c.loop-slot.invariant, c.refusal_of.ensures, c.u64_at-old.ensures, refusal-more) (lesser-refused _ _)
