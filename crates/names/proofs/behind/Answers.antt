-- `names::behind` meets its contract.
use Rattle.std.proofs.Common.{rules, sym, ◌∙◌, length, get_or, eq-eqb, ne_eqb}
use Rattle.names.proofs.Paths.{behind_top, behind_is, begins_dotted, too_short}
use Rattle.names.proofs.behind.Goals as goal
use Rattle.names.proofs.behind.Goals.{else-n-x-via-then-n-x+then-x-n-eq46+else-eq, else-n-x-via-then-n-x+else-x-n-eq46, else-n-x-via-else-n-x}

pub returns-then-n-eq0 : goal.returns-then-n-eq0
returns-then-n-eq0 c = sym (behind_top c.args.x.now c.args.path.now c.if-n-eq0.true)

pub returns-then-eq : goal.returns-then-eq
returns-then-eq c =
    let dot = eq-eqb (get_or c.args.x.now (length c.args.path.now) 0) 46 (search rules) in
    sym (behind_is c.args.x.now c.args.path.now c.if-n-eq0.false
    ∙ rw (begins_dotted c.args.x.now c.args.path.now c.if-n-x.true, dot, sym c.eq.ensures ∙ c.if-eq.true))

pub returns : goal.returns
returns c =
    let none = behind_is c.args.x.now c.args.path.now c.if-n-eq0.false in
    elim c.else-n-x.branch [
      | else-n-x-via-then-n-x+then-x-n-eq46+else-eq w ↦
          let dot = eq-eqb (get_or c.args.x.now (length c.args.path.now) 0) 46 (search rules) in
          sym (none ∙ rw (begins_dotted c.args.x.now c.args.path.now w.if-n-x.true, dot, sym w.eq.ensures ∙ w.if-eq.false))
      | else-n-x-via-then-n-x+else-x-n-eq46 w ↦ sym (none ∙ rw (begins_dotted c.args.x.now c.args.path.now w.if-n-x.true, ne_eqb _ 46 w.if-x-n-eq46.false))
      | else-n-x-via-else-n-x w ↦ sym (none ∙ rw (too_short c.args.x.now c.args.path.now w.if-n-x.false))
    ]
