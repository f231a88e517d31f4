-- `meant::meant_every` meets its contract.
use mathlib.Core.Path.{sym, ◌∙◌}
use Rattle.names.specs.Name.{dotted}
use Rattle.meaning.specs.Whom.{in_sheet}
use Rattle.meant.specs.Only.{every-not, every_absent, every-found}
use Rattle.meant.proofs.meant_every.Goals as goal

pub returns-then-not-meant_on : goal.returns-then-not-meant_on
returns-then-not-meant_on c =
    let text = c.args.text.now in
    let m = rw (c.if-not-meant_on.true, c.only_path-path.ensures, c.part_of-written.ensures) at c.meant_on.ensures in
    sym (every-not c.args.start.now text c.args.plan.slash c.args.entry c.args.plan.instances c.requires.0.good c.args.celltype.now c.args.arc m)

pub invariant_of-type_name : goal.invariant_of-type_name
invariant_of-type_name c =
    record { whole = (in_sheet c.args.start.now _ c.args.plan.instances c.in-Some.instance c.requires.0.good (sym c.find_instance-found.ensures ∙ c.in-Some.is)) }

pub returns-in-None : goal.returns-in-None
returns-in-None c =
    let text = c.args.text.now in
    let z = sym (rw (dotted, c.only_path-path.ensures, c.part_of-written.ensures) at c.find_instance-found.ensures) ∙ c.in-None.is in
    sym (every_absent c.args.start.now text c.args.plan.slash c.args.entry c.args.plan.instances c.requires.0.good c.args.celltype.now c.args.arc z)

pub returns-in-Some : goal.returns-in-Some
returns-in-Some c =
    let text = c.args.text.now in
    let m = rw (c.if-not-meant_on.false, c.only_path-path.ensures, c.part_of-written.ensures) at c.meant_on.ensures in
    let z = sym (rw (dotted, c.only_path-path.ensures, c.part_of-written.ensures) at c.find_instance-found.ensures) ∙ c.in-Some.is in
    (rw c.type_name.ensures at c.same_text.ensures)
    ∙ sym (every-found c.args.start.now text c.args.plan.slash c.args.entry c.args.plan.instances c.requires.0.good c.args.celltype.now c.args.arc
    c.in-Some.instance m z)
