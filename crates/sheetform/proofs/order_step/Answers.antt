-- `sheetform::order_step` meets its contract.
use mathlib.Core.Path.{sym, ◌∙◌}
use Rattle.sheetform.proofs.Whole.{key_whole}
use Rattle.sheetform.proofs.order_step.Goals as goal

pub key_cmp-requires : goal.key_cmp-requires
key_cmp-requires c = (
  c.requires.1 c.if-prev-eq0.false,
  key_whole c.args.sheet.now c.key_step.result c.args.place c.key_step.ensures.0 (sym c.is_err.ensures.value ∙ c.if-is_err.false),
)
