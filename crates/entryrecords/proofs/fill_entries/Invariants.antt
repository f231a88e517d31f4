-- The first k records are those of the first k rows, and the rest are as lent.
use Rattle.std.proofs.Common.{◌≡◌, ◌++◌, drop}
use Rattle.entryrecords.specs.Entries.{entries_of}
use Rattle.entryrecords.proofs.fill_entries.Given as goal

abbrev pub invariant-loop-k : goal.invariant-loop-k
invariant-loop-k l = l.records ≡ entries_of l.table l.k ++ drop l.k l.fn.records
