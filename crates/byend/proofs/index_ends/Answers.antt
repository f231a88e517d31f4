-- `byend::index_ends` meets its contract.
use Rattle.byend.specs.Ends.{end_place, end_bucket, not_ready, ready}
use Rattle.bytype.specs.Chains.{chained_none}
use native.Mathlib.Omega.{arith}
use mathlib.Core.Path.{◌∙◌}
use Rattle.byend.proofs.index_ends.Goals as goal

pub returns-then-count-gt-MOST : goal.returns-then-count-gt-MOST
returns-then-count-gt-MOST c =
    not_ready c.args.sheet.now c.args.count c.args.first c.args.ends.now c.requires.2

pub returns-then-not-wanted : goal.returns-then-not-wanted
returns-then-not-wanted c =
    not_ready c.args.sheet.now c.args.count c.args.first c.args.ends.now c.requires.2

pub chain-requires : goal.chain-requires
chain-requires c =
    (c.requires.0, omega arith, c.note_places.ensures.0, chained_none end_place (end_bucket c.args.sheet.now c.args.first) c.args.count _ (λ h g. c.note_places.ensures.2 h g ∙ c.clear_heads.ensures.1 h g), c.note_places.ensures.1)

pub returns : goal.returns
returns c =
    ready c.args.sheet.now c.args.count c.args.first _ (omega arith) c.chain.ensures.1
