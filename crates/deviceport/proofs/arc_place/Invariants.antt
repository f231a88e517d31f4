-- `deviceport::arc_place` meets its contract. Invariant: `here` is the place of arc number k.
use Rattle.std.proofs.Common.{◌≡◌, ◌≤◌}
use Rattle.sheetlaws.specs.Sheet.{place}
use Rattle.deviceport.proofs.arc_place.Given as goal

abbrev pub invariant-loop-k : goal.invariant-loop-k
invariant-loop-k l = (l.k ≤ l.number) × (l.here ≡ place l.start.sheet.now l.k l.start.plan.first)
