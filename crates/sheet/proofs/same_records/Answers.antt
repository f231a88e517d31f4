-- `sheet::same_records` meets its contract.
use Rattle.sheet.specs.Same.{same_records}
use native.Mathlib.Omega.{arith}
use mathlib.Core.Path.{◌≡◌}
use Prim.Native.Nat.{◌-◌}
use Rattle.sheet.proofs.same_records.Goals as goal

pub same_part-requires : goal.same_part-requires
same_part-requires c = (omega arith, c.requires.0.3, c.requires.1)

pub returns-then-same_part : goal.returns-then-same_part
unfolding same_records
returns-then-same_part c =
    rw (← (let z : (c.args).first - 0 ≡ (c.args).first = omega arith in rw z at c.same_part.ensures), c.if-same_part.true)
    c.same_keys.ensures

pub returns : goal.returns
unfolding same_records
returns c =
    rw (← (let z : (c.args).first - 0 ≡ (c.args).first = omega arith in rw z at c.same_part.ensures), c.if-same_part.false)
