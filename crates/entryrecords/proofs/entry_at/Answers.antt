-- `entryrecords::entry_at` meets its contract.
use Rattle.entryrecords.proofs.entry_at.Goals as goal

pub returns : goal.returns
returns c = rw (c.head_at.ensures, c.numbers_at.ensures)
