-- `names::same_full` meets its contract.
use Rattle.std.proofs.Common.{◌-◌, refl, sym, ◌∙◌, arith, length, drop, length-drop, take_all}
use Rattle.names.specs.Order.{same_text}
use Rattle.names.specs.Name.{canon, same_name}
use Rattle.names.proofs.Paths.{behind_none, behind_some}
use Rattle.names.proofs.same_full.Goals as goal

pub returns-in_default : goal.returns-in_default
unfolding same_name same_text
returns-in_default c = sym (behind_none c.args.x.now c.args.path.now (canon c.args.slash c.args.name.now) (sym c.behind.ensures ∙ c.in_default.is))

pub returns : goal.returns
unfolding same_name same_text
returns c =
    let found = sym c.behind.ensures ∙ c.in-Some.is in
    let some = behind_some c.args.x.now c.args.path.now (canon c.args.slash c.args.name.now) c.in-Some.start found in
    let whole = take_all (length c.args.x.now - c.in-Some.start) (drop c.in-Some.start c.args.x.now) (rw length-drop (omega arith)) in
    rw (some, rw whole at c.cmp_written.ensures) refl
