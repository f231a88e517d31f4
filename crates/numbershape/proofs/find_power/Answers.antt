-- `numbershape::find_power` meets its contract: the end, another byte, or an e, its sign and its digits.
use Rattle.std.proofs.Common.{◌+◌, ◌-◌, ◌≡◌, true, ap, sym, ◌∙◌, length, get_or, eqb, eq-eqb, ne_eqb, arith}
use Rattle.std.proofs.lemmas.Grind.{common_steps}
use Rattle.numbershape.specs.Places.{power_end, power_other, power_marked}
use Rattle.numbershape.proofs.find_power.Goals as goal
use Rattle.numbershape.proofs.find_power.Goals.{then-digits-eq0-via-then-digits-eq0, then-digits-eq0-via-else-digits-eq0+then-power-digits}

pub returns-in_default-clause-power : goal.returns-in_default-clause-power
returns-in_default-clause-power c = grind (arith, common_steps, power_end)

pub returns-then-mark-ne101-clause-power : goal.returns-then-mark-ne101-clause-power
returns-then-mark-ne101-clause-power c = grind (arith, common_steps, power_other)

pub returns-then-digits-eq0-clause-power : goal.returns-then-digits-eq0-clause-power
returns-then-digits-eq0-clause-power c =
    let j = c.args.from + 1 + c.count_signs.result in
    let mark : eqb (get_or c.args.word.now c.args.from 0) 101 ≡ true = grind (arith, common_steps) in
    let s = ap (λ n. c.args.from + 1 + n) c.count_signs.ensures.0 in
    let k = c.count_digits-digits.result in
    sym
    (power_marked c.args.word.now c.args.from j k mark s c.count_digits-digits.ensures.0
    ∙ elim c.then-digits-eq0.branch [
      | then-digits-eq0-via-then-digits-eq0 w ↦ simp (eq-eqb _ _ w.if-digits-eq0.true)
      | then-digits-eq0-via-else-digits-eq0+then-power-digits w ↦
          simp (ne_eqb _ _ w.if-digits-eq0.false, ne_eqb (length c.args.word.now - (j + k)) 0 (λ z. omega (arith, z)))
    ])

pub returns-clause-power : goal.returns-clause-power
returns-clause-power c =
    let j = c.args.from + 1 + c.count_signs.result in
    let mark : eqb (get_or c.args.word.now c.args.from 0) 101 ≡ true = grind (arith, common_steps) in
    let s = ap (λ n. c.args.from + 1 + n) c.count_signs.ensures.0 in
    let k = c.count_digits-digits.result in
    sym
    (power_marked c.args.word.now c.args.from j k mark s c.count_digits-digits.ensures.0
    ∙ simp (ne_eqb _ _ c.if-digits-eq0.false, eq-eqb (length c.args.word.now - (j + k)) 0 (omega arith)))
