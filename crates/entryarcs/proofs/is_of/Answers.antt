-- `entryarcs::is_of` meets its contract.
use Rattle.entryarcs.proofs.is_of.Goals as goal

pub returns : goal.returns
returns c =
    rw (← c.type_name-own.ensures) c.same_text.ensures
