-- `choosing::choose` meets its contract. Invariant: the marked ones of the arcs so far have the first seats.
use Prim.Native.Nat.{ℕ, ◌+◌}
use mathlib.Core.Path.{◌≡◌}
use lib.ListN.{length}
use Rattle.sheetlaws.specs.Sheet.{place}
use Rattle.marking.specs.Choosing.{ChosenTo}
use Rattle.choosing.proofs.choose.Given as goal

abbrev pub invariant-loop-next : goal.invariant-loop-next
invariant-loop-next l =
    (l.here ≡ place l.start l.next l.plan.first) × (length l.arcs ≡ 4096)
    × ((k : ℕ) × (l.next ≡ l.from + k) × ChosenTo l.start l.plan.first l.bits l.from k l.count l.arcs)
