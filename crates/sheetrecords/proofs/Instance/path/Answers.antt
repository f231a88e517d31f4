-- `sheetrecords::Instance::path` meets its contract.
use native.Mathlib.Nat.{add-sub_cancel_left}
use Rattle.sheetrecords.proofs.Instance.path.Goals as goal

pub returns : goal.returns
returns c = rw (← c.path_len.ensures, add-sub_cancel_left)
