-- `numbershape::find_parts` meets its contract: its tests are those of `found-is`, one after the other.
use Rattle.std.proofs.Common.{◌+◌, refl, sym, ◌∙◌, drop, eq-eqb, ne_eqb}
use Rattle.numbershape.specs.Places.{found-is}
use Rattle.numbershape.specs.Shape.{pointed}
use Rattle.numbershape.proofs.find_parts.Goals as goal

pub returns-then-whole-eq0-clause-parts : goal.returns-then-whole-eq0-clause-parts
returns-then-whole-eq0-clause-parts c =
    let p = pointed (drop (c.count_lead-start.result + c.count_digits-whole.result) c.args.word.now) in
    sym
    (found-is c.args.signed c.args.word.now c.count_lead-start.result c.count_digits-whole.result p
    c.count_lead-start.ensures.0 c.count_digits-whole.ensures.0 refl
    ∙ simp (eq-eqb _ _ c.if-whole-eq0.true))

pub returns-then-pointed-eq1-clause-parts : goal.returns-then-pointed-eq1-clause-parts
returns-then-pointed-eq1-clause-parts c =
    sym
    (found-is c.args.signed c.args.word.now c.count_lead-start.result c.count_digits-whole.result c.count_pointed-pointed.result
    c.count_lead-start.ensures.0 c.count_digits-whole.ensures.0 c.count_pointed-pointed.ensures.0
    ∙ simp (ne_eqb _ _ c.if-whole-eq0.false, eq-eqb _ _ c.if-pointed-eq1.true))

pub returns-in_err-below-clause-parts : goal.returns-in_err-below-clause-parts
returns-in_err-below-clause-parts c =
    c.from_residual.ensures
    ∙ sym
    (found-is c.args.signed c.args.word.now c.count_lead-start.result c.count_digits-whole.result c.count_pointed-pointed.result
    c.count_lead-start.ensures.0 c.count_digits-whole.ensures.0 c.count_pointed-pointed.ensures.0
    ∙ simp (ne_eqb _ _ c.if-whole-eq0.false, ne_eqb _ _ c.if-pointed-eq1.false, sym c.find_power.ensures.power ∙ c.in_err-below.was))

pub returns-clause-parts : goal.returns-clause-parts
returns-clause-parts c =
    sym
    (found-is c.args.signed c.args.word.now c.count_lead-start.result c.count_digits-whole.result c.count_pointed-pointed.result
    c.count_lead-start.ensures.0 c.count_digits-whole.ensures.0 c.count_pointed-pointed.ensures.0
    ∙ simp (ne_eqb _ _ c.if-whole-eq0.false, ne_eqb _ _ c.if-pointed-eq1.false, sym c.find_power.ensures.power ∙ c.in_ok-below.was, ← c.is_minus-minus.ensures))
