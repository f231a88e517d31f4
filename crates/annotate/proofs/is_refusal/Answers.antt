-- `annotate::is_refusal` meets its contract.
use Rattle.meaning.specs.Cells.{is_refusal}
use Rattle.annotate.proofs.is_refusal.Goals as goal

pub returns-in-Done : goal.returns-in-Done
unfolding is_refusal
returns-in-Done c =
    rw c.in-Done.is

pub returns-in-Refused : goal.returns-in-Refused
unfolding is_refusal
returns-in-Refused c =
    rw c.in-Refused.is
