-- `sheetrecords::Instance::type_name` meets its contract.
use native.Mathlib.Nat.{add-sub_cancel_left}
use Rattle.sheetrecords.proofs.Instance.type_name.Goals as goal

pub returns : goal.returns
returns c = rw (← c.type_len.ensures, ← c.path_len.ensures, add-sub_cancel_left)
