-- The first k records are those of the first k rows, and the rest are as lent.
use Rattle.std.proofs.Common.{◌≡◌, ◌++◌, drop}
use Rattle.cellrecords.specs.Records.{records_of}
use Rattle.cellrecords.proofs.fill_records.Given as goal

abbrev pub invariant-loop-k : goal.invariant-loop-k
invariant-loop-k l = l.records ≡ records_of l.table l.k ++ drop l.k l.fn.records
