-- `sheet::mark` meets its contract.
use Rattle.std.proofs.Common.{◌≡◌}
use Rattle.sheetlaws.specs.Sheet.{nth}
use Rattle.sheet.specs.Search.{stride_of, marked}
use Rattle.sheet.proofs.mark.Given as goal

abbrev pub invariant-loop-k : goal.invariant-loop-k
invariant-loop-k g l =
    let next = g.R.Record.next l.sheet in
    (l.here ≡ nth next l.k l.first) × (l.marks ≡ marked next l.first (stride_of l.count) l.initial.marks l.k)
