-- `swap::answer_of` meets its contract.
use Rattle.swap.proofs.answer_of.Goals as goal

pub returns-in-Fault : goal.returns-in-Fault
returns-in-Fault c =
    rw c.in-Fault.is c.refused.ensures
