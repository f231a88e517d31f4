-- `times::raise` meets its contract: the invariant: what is left of the power, times the value so far, is the whole.
use Rattle.std.proofs.Common.{◌≡◌, ◌≤◌, ◌<◌, ◌*◌, ◌^◌, ◌-◌, min}
use Rattle.numbershape.specs.Steps.{stop}
use Rattle.times.proofs.raise.Given as goal

abbrev pub invariant-loop : goal.invariant-loop
invariant-loop l = (l.raised ≤ stop) × (0 < l.raised) × (min (l.raised * 10 ^ (l.n - l.counter)) stop ≡ min (l.value * 10 ^ l.n) stop)
