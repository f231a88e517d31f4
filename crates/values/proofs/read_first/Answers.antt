-- `values::read_first` meets its contract: each way through it has its rule.
use Rattle.std.proofs.Common.{◌≡◌, sym, subst, ℤ, false, Ok, Some, None, to_z, of_z, w64, rules}
use Rattle.std.proofs.lemmas.Result.{err_from_is_err_and}
use Rattle.grammar.specs.Ll.{non}
use Rattle.grammar.specs.Grammar.{first}
use Rattle.rules.specs.Rules.{ahead, stops, first-shut, first-colon, first-wrong}
use Rattle.values.specs.declared.Lead.TheVariants as lead
use Rattle.values.specs.Parts.{known, FirstRead}
use Rattle.values.proofs.read_first.Goals as goal

pub returns-in_err-token : goal.returns-in_err-token
returns-in_err-token c =
    let p = err_from_is_err_and c.from_residual.result c.from_residual.ensures.1 in
    let why = c.in_err-token.field-0.0 in
    rw (p.1, p.2) (stops c.args.text.now c.args.from why.number why.place (non (first c.args.signed)) false (known (Some c.args.z) None) c.args.unit c.requires (sym c.in_err-token.ensures))

pub returns-in-3 : goal.returns-in-3
returns-in-3 c =
    let t = c.in_ok-token.token in
    let f : to_z w64 (of_z w64 c.args.z) ≡ c.args.z = search rules in
    subst (λ (x : ℤ). FirstRead c.args.text.now c.args.from c.args.signed c.args.unit c.args.z (Ok (lead.Whole (record { value = record { min = Some x; typ = Some x; max = Some x }; end = t.end })))) (sym f)
    (first-shut c.args.text.now c.args.from t.kind t.start t.end t.long c.requires (sym c.in_ok-token.ensures) c.args.signed c.args.unit (Some c.args.z) c.in-3.is)

pub returns-in-4 : goal.returns-in-4
returns-in-4 c =
    let t = c.in_ok-token.token in
    let tok = sym c.in_ok-token.ensures in
    let f : to_z w64 (of_z w64 c.args.z) ≡ c.args.z = search rules in
    subst (λ (x : ℤ). FirstRead c.args.text.now c.args.from c.args.signed c.args.unit c.args.z (Ok (lead.Colon (Some x) t.end))) (sym f)
    (λ r w. first-colon c.args.text.now c.args.from t.kind t.start t.end t.long c.requires tok c.args.signed c.args.unit (Some c.args.z) r c.in-4.is w, (ahead c.args.text.now c.args.from t.kind t.start t.end t.long c.requires tok).1)

pub returns-in_default : goal.returns-in_default
returns-in_default c =
    let t = c.in_ok-token.token in
    first-wrong c.args.text.now c.args.from t.kind t.start t.end t.long c.requires (sym c.in_ok-token.ensures) c.args.signed c.args.unit (known (Some c.args.z) None) (search rules) (search rules)
