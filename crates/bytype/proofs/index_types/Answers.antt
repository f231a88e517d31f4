-- `bytype::index_types` meets its contract.
use Rattle.bytype.specs.Chains.{chained_none}
use Rattle.bytype.specs.ByType.{type_bucket, link_place}
use native.Mathlib.Omega.{arith}
use mathlib.Core.Path.{◌∙◌}
use Rattle.bytype.proofs.index_types.Goals as goal

pub returns-then-count-gt-MOST : goal.returns-then-count-gt-MOST
returns-then-count-gt-MOST c = λ h. absurd (omega arith)

pub chain-requires : goal.chain-requires
chain-requires c =
    (c.requires.0, omega arith, c.note_spots.ensures.0, chained_none link_place (type_bucket c.args.sheet.now) c.args.count _ (λ h g. c.note_spots.ensures.2 h g ∙ c.clear_heads.ensures.1 h g), c.note_spots.ensures.1)
