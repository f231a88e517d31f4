-- `sheetform::check_sheet` meets its contract.
use mathlib.Core.Path.{sym}
use native.Mathlib.Omega.{arith}
use Rattle.sheetparts.specs.Passed.{front-next}
use Rattle.sheetform.proofs.check_sheet.Goals as goal

pub back_step-requires : goal.back_step-requires
back_step-requires c = (c.in_ok-first_arc.ensures.1, front-next c.args.sheet.now c.in_ok-first_arc.first_arc (sym c.in_ok-first_arc.ensures.0))

pub u32_at-requires : goal.u32_at-requires
u32_at-requires c = let h = front-next c.args.sheet.now c.in_ok-first_arc.first_arc (sym c.in_ok-first_arc.ensures.0) in omega arith

pub u32_at-requires-2 : goal.u32_at-requires-2
u32_at-requires-2 c = front-next c.args.sheet.now c.in_ok-first_arc.first_arc (sym c.in_ok-first_arc.ensures.0)
