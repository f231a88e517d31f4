-- `values::read_third` meets its contract: each way through it has its rule.
use Rattle.std.proofs.Common.{◌≡◌, ⊎_elim, ap, ◌∙◌, is_some, not, false, Ok, Some, subst, sym, ℤ, to_z, of_z, w64, arith, rules}
use Rattle.std.proofs.lemmas.Result.{err_from_is_err_and}
use Rattle.grammar.specs.Ll.{non}
use Rattle.grammar.specs.Grammar.{third}
use Rattle.rules.specs.Rules.{ahead, stops, third_shut, third_lacks, third_wrong, third_open, third_done}
use Rattle.rules.specs.Promises.{Reads}
use Rattle.values.specs.declared.Seen.TheVariants as seen
use Rattle.values.specs.Parts.{known, any, Sees}
use Rattle.values.proofs.read_third.Goals.{then-kind-eq4-via-then-kind-eq4, then-kind-eq4-via-else-kind-eq4+then-is_none}
use Rattle.values.proofs.read_third.Goals as goal

pub returns-in_err-kind : goal.returns-in_err-kind
returns-in_err-kind c =
    let p = err_from_is_err_and c.from_residual.result c.from_residual.ensures.1 in
    let why = c.in_err-kind.field-0.0 in
    rw (p.1, p.2) (⊎_elim
    (λ t. stops c.args.text.now c.args.from why.number why.place (non (third (any c.args.min c.args.typ) c.args.signed)) false (known c.args.min c.args.typ) c.args.unit c.requires t)
    (λ u. third_wrong c.args.text.now c.args.from u.0 u.1 u.2 u.3 c.requires u.4 c.args.signed c.args.unit (any c.args.min c.args.typ) (known c.args.min c.args.typ) why.number why.place u.6 u.5) c.in_err-kind.ensures)

pub returns-then-kind-eq4 : goal.returns-then-kind-eq4
returns-then-kind-eq4 c =
    let w : Sees c.args.text.now c.args.from c.args.signed c.args.unit false (Ok (seen.Mark c.in-Mark.kind c.in-Mark.start c.in-Mark.end)) = rw c.in-Mark.is at c.in_ok-kind.ensures in
    let f = any c.args.min c.args.typ in
    let v = known c.args.min c.args.typ in
    elim c.then-kind-eq4.branch [
      | then-kind-eq4-via-then-kind-eq4 x ↦ third_wrong c.args.text.now c.args.from c.in-Mark.kind c.in-Mark.start c.in-Mark.end w.0 c.requires w.1 c.args.signed c.args.unit f v 4 c.in-Mark.start (λ q. omega (arith, x.if-kind-eq4.true)) w.2
      | then-kind-eq4-via-else-kind-eq4+then-is_none x ↦ third_lacks c.args.text.now c.args.from c.in-Mark.kind c.in-Mark.start c.in-Mark.end w.0 c.requires w.1 c.args.signed c.args.unit f v (⊎_elim (λ q. q) (λ q. absurd (x.if-kind-eq4.false q)) w.3)
          (sym (ap is_some x.or.ensures) ∙ x.is_none.ensures ∙ ap not x.if-is_none.true)
    ]

pub expect-requires : goal.expect-requires
expect-requires c =
    let w : Sees c.args.text.now c.args.from c.args.signed c.args.unit false (Ok (seen.Time c.in-Time.z c.in-Time.end)) = rw c.in-Time.is at c.in_ok-kind.ensures in
    (ahead c.args.text.now c.args.from w.0 w.1 c.in-Time.end w.2 c.requires w.3).1

pub returns-in_err-end-in-Time : goal.returns-in_err-end-in-Time
returns-in_err-end-in-Time c =
    let w : Sees c.args.text.now c.args.from c.args.signed c.args.unit false (Ok (seen.Time c.in-Time.z c.in-Time.end)) = rw c.in-Time.is at c.in_ok-kind.ensures in
    let p = err_from_is_err_and c.from_residual-in_err-end-in-Time.result c.from_residual-in_err-end-in-Time.ensures.1 in
    let why = c.in_err-end-in-Time.field-0.0 in
    rw (p.1, p.2) (third_open c.args.text.now c.args.from w.0 w.1 c.in-Time.end w.2 c.requires w.3 c.args.signed c.args.unit (any c.args.min c.args.typ) c.args.min c.args.typ c.in-Time.z why.number why.place w.5 w.4 c.in_err-end-in-Time.ensures)

pub returns-else-is_none : goal.returns-else-is_none
returns-else-is_none c =
    let w : Sees c.args.text.now c.args.from c.args.signed c.args.unit false (Ok (seen.Mark c.in-Mark.kind c.in-Mark.start c.in-Mark.end)) = rw c.in-Mark.is at c.in_ok-kind.ensures in
    third_shut c.args.text.now c.args.from c.in-Mark.kind c.in-Mark.start c.in-Mark.end w.0 c.requires w.1 c.args.signed c.args.unit (any c.args.min c.args.typ) c.args.min c.args.typ (⊎_elim (λ q. q) (λ q. absurd (c.if-kind-eq4.false q)) w.3)
    (sym (ap is_some c.or.ensures) ∙ c.is_none.ensures ∙ ap not c.if-is_none.false)

pub returns-in_ok-end-in-Time : goal.returns-in_ok-end-in-Time
returns-in_ok-end-in-Time c =
    let w : Sees c.args.text.now c.args.from c.args.signed c.args.unit false (Ok (seen.Time c.in-Time.z c.in-Time.end)) = rw c.in-Time.is at c.in_ok-kind.ensures in
    let f : to_z w64 (of_z w64 c.in-Time.z) ≡ c.in-Time.z = search rules in
    subst (λ (z : ℤ). Reads c.args.text.now c.args.from (non (third (any c.args.min c.args.typ) c.args.signed)) false (known c.args.min c.args.typ) c.args.unit
    (Ok (record { value = record { min = c.args.min; typ = c.args.typ; max = Some z }; end = c.in_ok-end-in-Time.end }))) (sym f)
    (third_done c.args.text.now c.args.from w.0 w.1 c.in-Time.end w.2 c.requires w.3 c.args.signed c.args.unit (any c.args.min c.args.typ) c.args.min c.args.typ c.in-Time.z c.in_ok-end-in-Time.end w.5 w.4 c.in_ok-end-in-Time.ensures)
