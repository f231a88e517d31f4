-- `sheetrecords::Arc::edge2` meets its contract.
use Rattle.sheetparts.specs.Form.{key_at}
use Rattle.sheetrecords.proofs.Arc.edge2.Goals as goal

pub returns : goal.returns
unfolding key_at
returns c = rw (← c.first_len-m.ensures)
