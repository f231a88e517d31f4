-- `sheetform::front_step` meets its contract.
use mathlib.Core.Path.{sym}
use native.Mathlib.Omega.{arith}
use Rattle.sheetparts.specs.Passed.{head_next}
use Rattle.sheetform.proofs.front_step.Goals as goal

pub u32_at-requires : goal.u32_at-requires
u32_at-requires c = let h = head_next c.args.sheet.now c.in_ok-instances.instances (sym c.in_ok-instances.ensures.0) in omega arith
