-- `amounts::arc_refusal` meets its contract. Invariant: the least refusal among the values so far.
use Rattle.std.proofs.Common.{◌≡◌}
use Rattle.amounts.specs.Amounts.{refused, arc_refusal}
use Rattle.amounts.proofs.arc_refusal.Given as goal

abbrev pub invariant-loop-slot : goal.invariant-loop-slot
invariant-loop-slot l = l.least ≡ refused (arc_refusal l.sheet l.at l.rows l.add l.slot)
