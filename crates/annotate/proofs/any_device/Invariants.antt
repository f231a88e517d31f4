-- `annotate::any_device` meets its contract. Invariant: none of the first k rows is of a DEVICE.
use Rattle.std.proofs.Common.{◌≡◌, false}
use Rattle.annotate.specs.Devices.{any_device}
use Rattle.annotate.proofs.any_device.Given as goal

abbrev pub invariant-loop-k : goal.invariant-loop-k
invariant-loop-k l = false ≡ any_device l.entries l.k
