-- `meant::path_before` meets its contract.
use Prim.Native.Nat.{◌+◌, ◌-◌}
use mathlib.Core.Path.{◌≡◌}
use native.Mathlib.Omega.{arith}
use lib.ListN.{length}
use Rattle.meant.specs.Only.{path_before}
use Rattle.meant.proofs.path_before.Goals as goal

pub returns-then-count-end : goal.returns-then-count-end
unfolding path_before
returns-then-count-end c =
    let e : length c.args.end.now - (c.args.count + 1) ≡ length c.args.end.now - c.args.count - 1 - 0 = omega arith in
    rw e

pub returns : goal.returns
unfolding path_before
returns c =
    let e : length c.args.end.now - (c.args.count + 1) ≡ 0 = omega arith in
    rw e
