-- `values::read_second` meets its contract: each way through it has its rule.
use Rattle.std.proofs.Common.{◌≡◌, sym, ◌+◌, ⊎_elim, false, Ok, Err, Some, None, is_some, subst, ℤ, to_z, of_z, w64, arith, rules}
use Rattle.std.proofs.lemmas.Result.{err_from_is_err_and}
use Rattle.grammar.specs.Ll.{non}
use Rattle.grammar.specs.Grammar.{second}
use Rattle.rules.specs.Rules.{ahead, stops, second_colon, second_wrong, second_open, second_done}
use Rattle.values.specs.declared.Seen.TheVariants as seen
use Rattle.values.specs.Parts.{known, Sees, MiddleRead}
use Rattle.values.specs.Seeing.{sees_from}
use Rattle.values.proofs.read_second.Goals as goal

pub returns-then-sign-eq4 : goal.returns-then-sign-eq4
returns-then-sign-eq4 c =
    let sign = c.mark_from-sign.result in
    let g = c.mark_from-sign.ensures.2 (omega (arith, c.if-sign-eq4.true)) in
    (λ x r w. second_colon c.args.text.now c.args.from sign.kind sign.place (sign.place + 1) false c.requires g.0 c.args.signed c.args.unit (is_some x) x r c.if-sign-eq4.true w, g.1)

pub returns-in_err-kind : goal.returns-in_err-kind
returns-in_err-kind c =
    let p = err_from_is_err_and c.from_residual.result c.from_residual.ensures.1 in
    let why = c.in_err-kind.field-0.0 in
    let w = sees_from c.args.text.now c.mark_from-sign.result.place c.args.from c.args.signed c.args.unit false c.mark_from-sign.ensures.0 (Err why) c.in_err-kind.ensures in
    rw (p.1, p.2) (λ x. ⊎_elim
    (λ t. stops c.args.text.now c.args.from why.number why.place (non (second (is_some x) c.args.signed)) false (known x None) c.args.unit c.requires t)
    (λ u. second_wrong c.args.text.now c.args.from u.0 u.1 u.2 u.3 c.requires u.4 c.args.signed c.args.unit (is_some x) (known x None) why.number why.place u.7 u.5) w)

pub returns-then-kind-eq4 : goal.returns-then-kind-eq4
returns-then-kind-eq4 c =
    let w : Sees c.args.text.now c.args.from c.args.signed c.args.unit false (Ok (seen.Mark c.in-Mark.kind c.in-Mark.start c.in-Mark.end)) =
    rw c.in-Mark.is at (sees_from c.args.text.now c.mark_from-sign.result.place c.args.from c.args.signed c.args.unit false c.mark_from-sign.ensures.0 (Ok c.in_ok-kind.field-0) c.in_ok-kind.ensures) in (
      λ x r u. second_colon c.args.text.now c.args.from c.in-Mark.kind c.in-Mark.start c.in-Mark.end w.0 c.requires w.1 c.args.signed c.args.unit (is_some x) x r c.if-kind-eq4.true u,
      (ahead c.args.text.now c.args.from c.in-Mark.kind c.in-Mark.start c.in-Mark.end w.0 c.requires w.1).1,
    )

pub expect-requires : goal.expect-requires
expect-requires c =
    let w : Sees c.args.text.now c.args.from c.args.signed c.args.unit false (Ok (seen.Time c.in-Time.z c.in-Time.end)) =
    rw c.in-Time.is at (sees_from c.args.text.now c.mark_from-sign.result.place c.args.from c.args.signed c.args.unit false c.mark_from-sign.ensures.0 (Ok c.in_ok-kind.field-0) c.in_ok-kind.ensures) in
    (ahead c.args.text.now c.args.from w.0 w.1 c.in-Time.end w.2 c.requires w.3).1

pub returns-in_err-end-in-Time : goal.returns-in_err-end-in-Time
returns-in_err-end-in-Time c =
    let p = err_from_is_err_and c.from_residual-in_err-end-in-Time.result c.from_residual-in_err-end-in-Time.ensures.1 in
    let why = c.in_err-end-in-Time.field-0.0 in
    let w : Sees c.args.text.now c.args.from c.args.signed c.args.unit false (Ok (seen.Time c.in-Time.z c.in-Time.end)) =
    rw c.in-Time.is at (sees_from c.args.text.now c.mark_from-sign.result.place c.args.from c.args.signed c.args.unit false c.mark_from-sign.ensures.0 (Ok c.in_ok-kind.field-0) c.in_ok-kind.ensures) in
    rw (p.1, p.2) (λ x. second_open c.args.text.now c.args.from w.0 w.1 c.in-Time.end w.2 c.requires w.3 c.args.signed c.args.unit (is_some x) x c.in-Time.z why.number why.place w.6 w.4 c.in_err-end-in-Time.ensures)

pub returns-else-kind-eq4 : goal.returns-else-kind-eq4
returns-else-kind-eq4 c =
    let w : Sees c.args.text.now c.args.from c.args.signed c.args.unit false (Ok (seen.Mark c.in-Mark.kind c.in-Mark.start c.in-Mark.end)) =
    rw c.in-Mark.is at (sees_from c.args.text.now c.mark_from-sign.result.place c.args.from c.args.signed c.args.unit false c.mark_from-sign.ensures.0 (Ok c.in_ok-kind.field-0) c.in_ok-kind.ensures) in
    λ x. second_wrong c.args.text.now c.args.from c.in-Mark.kind c.in-Mark.start c.in-Mark.end w.0 c.requires w.1 c.args.signed c.args.unit (is_some x) (known x None) 4 c.in-Mark.start c.if-kind-eq4.false w.2

pub returns-in_ok-end-in-Time : goal.returns-in_ok-end-in-Time
returns-in_ok-end-in-Time c =
    let w : Sees c.args.text.now c.args.from c.args.signed c.args.unit false (Ok (seen.Time c.in-Time.z c.in-Time.end)) =
    rw c.in-Time.is at (sees_from c.args.text.now c.mark_from-sign.result.place c.args.from c.args.signed c.args.unit false c.mark_from-sign.ensures.0 (Ok c.in_ok-kind.field-0) c.in_ok-kind.ensures) in
    let f : to_z w64 (of_z w64 c.in-Time.z) ≡ c.in-Time.z = search rules in
    subst (λ (z : ℤ). MiddleRead c.args.text.now c.args.from c.args.signed c.args.unit (Ok (record { typ = Some z; end = c.in_ok-end-in-Time.end }))) (sym f) (
      λ x r u. second_done c.args.text.now c.args.from w.0 w.1 c.in-Time.end w.2 c.requires w.3 c.args.signed c.args.unit (is_some x) x c.in-Time.z c.in_ok-end-in-Time.end r w.6 w.4 c.in_ok-end-in-Time.ensures u,
      c.in_ok-end-in-Time.ensures.3,
    )
