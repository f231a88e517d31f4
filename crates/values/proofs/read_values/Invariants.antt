-- `values::read_values` meets its contract: the values read so far are the front of the list.
use Rattle.std.proofs.Common.{◌≡◌, ◌-◌, ◌≤◌, length, take}
use Rattle.rules.specs.Promises.{Listed}
use Rattle.values.proofs.read_values.Given as goal

abbrev pub invariant-loop-token : goal.invariant-loop-token
invariant-loop-token l = (l.count ≤ 6) × (length l.list ≡ 6) × (l.from ≤ l.p) × (l.p ≤ length l.text) × Listed l.text l.from l.unit l.p (take l.count l.list) l.count

abbrev pub decreases-loop-token : goal.decreases-loop-token
decreases-loop-token l = 6 - l.count
