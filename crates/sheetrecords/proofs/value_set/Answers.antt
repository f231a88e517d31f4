-- `sheetrecords::value_set` meets its contract.
use Rattle.wire.specs.Wire.{be_bytes}
use mir.ValLaws.{to_z-of_z}
use mir.Val.{of_z}
use mir.Syntax.{w64}
use lib.Seq.{paste}
use mathlib.Core.Path.{ap, ◌∙◌}
use Prim.Native.Nat.{◌+◌, ◌*◌}
use Rattle.sheetrecords.proofs.value_set.Goals as goal

pub returns : goal.returns
returns c =
    c.write_i64.ensures ∙ ap (λ y. paste c.args.sheet.now (c.args.values + 8 * (c.args).slot) (be_bytes (of_z w64 y)) 8) (to_z-of_z
    w64 c.args.value c.ranges.value)
