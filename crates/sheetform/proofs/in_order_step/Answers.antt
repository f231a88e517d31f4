-- `sheetform::in_order_step` meets its contract.
use mathlib.Core.Path.{sym, ◌∙◌}
use Rattle.sheetform.proofs.Whole.{path_whole}
use Rattle.sheetform.proofs.in_order_step.Goals as goal

pub path_cmp-requires : goal.path_cmp-requires
path_cmp-requires c = (
  c.requires.1 c.if-prev-eq0.false,
  path_whole c.args.sheet.now c.path_step.result c.args.place c.path_step.ensures.0 (sym c.is_err.ensures.value ∙ c.if-is_err.false),
)
