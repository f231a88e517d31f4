-- `sheetrecords::Arc::second_end` meets its contract.
use native.Mathlib.Nat.{add-sub_cancel_left}
use Rattle.sheetparts.specs.Form.{key_at}
use Rattle.sheetrecords.proofs.Arc.second_end.Goals as goal

pub returns : goal.returns
unfolding key_at
returns c = rw (← c.second_len.ensures, ← c.first_len.ensures, add-sub_cancel_left)
