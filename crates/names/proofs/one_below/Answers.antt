-- `names::one_below` meets its contract.
use Rattle.std.proofs.Common.{sym, ◌∙◌}
use Rattle.names.specs.Order.{same_text}
use Rattle.names.specs.Name.{one_below, same_name, last_of}
use Rattle.names.proofs.Paths.{behind_none, behind_some, behind_le, ends_same}
use Rattle.names.proofs.one_below.Goals as goal

pub returns-in_default : goal.returns-in_default
unfolding one_below same_name same_text
returns-in_default c = sym (behind_none c.args.name.now c.args.path.now (last_of c.args.name.now) (sym c.behind.ensures ∙ c.in_default.is))

pub returns : goal.returns
unfolding one_below same_name same_text
returns c =
    let found = sym c.behind.ensures ∙ c.in-Some.is in
    let some = behind_some c.args.name.now c.args.path.now (last_of c.args.name.now) c.in-Some.start found in
    let within = behind_le c.args.name.now c.args.path.now c.in-Some.start found in
    let ends = ends_same c.args.name.now c.in-Some.start c.last_component.result within c.last_component.ensures.1 in
    sym (rw (some, ← c.last_component.ensures.0) ends)
