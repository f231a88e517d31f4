-- `values::read_lead` meets its contract: each way through it has its rule.
use Rattle.std.proofs.Common.{◌≡◌, ⊎_elim, true, false, subst, ℤ, to_z, of_z, w64, rules, Ok, Some, None}
use Rattle.std.proofs.lemmas.Result.{err_from_is_err_and}
use Rattle.grammar.specs.Ll.{non}
use Rattle.grammar.specs.Grammar.{value, first}
use Rattle.rules.specs.Promises.{Reads, ReadsValue}
use Rattle.rules.specs.Rules.{ahead, stops, value-shut, value-colon, value-wrong, value-done}
use Rattle.values.specs.declared.Seen.TheVariants as seen
use Rattle.values.specs.Parts.{known, Sees, leads_on, FirstRead}
use Rattle.values.proofs.read_lead.Goals as goal

pub returns-in_err-kind : goal.returns-in_err-kind
returns-in_err-kind c =
    let p = err_from_is_err_and c.from_residual.result c.from_residual.ensures.1 in
    let why = c.in_err-kind.field-0.0 in
    rw (p.1, p.2) (⊎_elim
    (λ t v. stops c.args.text.now c.args.from why.number why.place (non (value c.args.signed)) true v c.args.unit c.requires t)
    (λ u. value-wrong c.args.text.now c.args.from u.0 u.1 u.2 u.3 c.requires u.4 c.args.signed c.args.unit why.number why.place u.6 u.7 u.5) c.in_err-kind.ensures)

pub returns-then-kind-eq3 : goal.returns-then-kind-eq3
returns-then-kind-eq3 c =
    let w : Sees c.args.text.now c.args.from c.args.signed c.args.unit true (Ok (seen.Mark c.in-Mark.kind c.in-Mark.start c.in-Mark.end)) = rw c.in-Mark.is at c.in_ok-kind.ensures in
    value-shut c.args.text.now c.args.from c.in-Mark.kind c.in-Mark.start c.in-Mark.end w.0 c.requires w.1 c.args.signed c.args.unit c.if-kind-eq3.true

pub read_first-requires : goal.read_first-requires
read_first-requires c =
    let w : Sees c.args.text.now c.args.from c.args.signed c.args.unit true (Ok (seen.Time c.in-Time.z c.in-Time.end)) = rw c.in-Time.is at c.in_ok-kind.ensures in
    (ahead c.args.text.now c.args.from w.0 w.1 c.in-Time.end w.2 c.requires w.3).1

pub returns-else-kind-eq3 : goal.returns-else-kind-eq3
returns-else-kind-eq3 c =
    let w : Sees c.args.text.now c.args.from c.args.signed c.args.unit true (Ok (seen.Mark c.in-Mark.kind c.in-Mark.start c.in-Mark.end)) = rw c.in-Mark.is at c.in_ok-kind.ensures in (
      λ r u. value-colon c.args.text.now c.args.from c.in-Mark.kind c.in-Mark.start c.in-Mark.end w.0 c.requires w.1 c.args.signed c.args.unit r (⊎_elim (λ q. absurd (c.if-kind-eq3.false q)) (λ q. q) w.3) u,
      (ahead c.args.text.now c.args.from c.in-Mark.kind c.in-Mark.start c.in-Mark.end w.0 c.requires w.1).1,
    )

pub returns-in-Time : goal.returns-in-Time
returns-in-Time c =
    let w : Sees c.args.text.now c.args.from c.args.signed c.args.unit true (Ok (seen.Time c.in-Time.z c.in-Time.end)) = rw c.in-Time.is at c.in_ok-kind.ensures in
    let f : to_z w64 (of_z w64 c.in-Time.z) ≡ c.in-Time.z = search rules in
    let u = subst (λ (z : ℤ). FirstRead c.args.text.now c.in-Time.end c.args.signed c.args.unit z c.read_first.result) f c.read_first.ensures in
    leads_on c.args.text.now c.args.signed c.args.unit (Reads c.args.text.now c.in-Time.end (non (first c.args.signed)) false (known (Some c.in-Time.z) None) c.args.unit) (ReadsValue c.args.text.now c.args.from c.args.signed c.args.unit)
    (λ r x. value-done c.args.text.now c.args.from w.0 w.1 c.in-Time.end w.2 c.requires w.3 c.args.signed c.args.unit c.in-Time.z r w.5 w.6 w.4 x) c.read_first.result u
