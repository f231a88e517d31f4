-- `tables::put_values` meets its contract: the words of i values are there.
use Rattle.std.proofs.Common.{◌≡◌, length, take}
use Rattle.tables.specs.Layout.{values_row}
use Rattle.tables.specs.Pastes.{put}
use Rattle.tables.proofs.put_values.Given as goal

abbrev pub invariant-loop-i : goal.invariant-loop-i
invariant-loop-i l = (l.table ≡ put l.initial.table l.place (values_row (take l.count l.list) l.i)) × (length l.table ≡ length l.initial.table)
