-- `values::see_token` meets its contract.
use Rattle.std.proofs.Common.{◌≡◌, sym, inl, inr, to_z, of_z, w64, arith, rules}
use Rattle.std.proofs.lemmas.Result.{err_from_is_err_and}
use Rattle.tokens.specs.Stream.{onwards}
use Rattle.values.specs.Seeing.{mark-seen}
use Rattle.values.proofs.see_token.Goals.{then-token-eq3-via-then-token-eq3, then-token-eq3-via-else-token-eq3+then-token-eq4}
use Rattle.values.proofs.see_token.Goals as goal

pub returns-then-token-eq3 : goal.returns-then-token-eq3
returns-then-token-eq3 c =
    let t = c.in_ok-token.token in
    mark-seen c.args.text.now c.args.from t.kind t.start t.end t.long c.args.signed c.args.unit c.args.opened (sym c.in_ok-token.ensures)
    (elim c.then-token-eq3.branch [ then-token-eq3-via-then-token-eq3 w ↦ inl w.if-token-eq3.true | then-token-eq3-via-else-token-eq3+then-token-eq4 w ↦ inr w.if-token-eq4.true ])

pub number_here-requires : goal.number_here-requires
number_here-requires c =
    let t = c.in_ok-token.token in
    let o = onwards c.args.text.now c.args.from t.kind t.start t.end t.long c.requires (sym c.in_ok-token.ensures) in
    (omega (arith, o.1), o.2)

pub returns-in_err-z : goal.returns-in_err-z
returns-in_err-z c =
    let p = err_from_is_err_and c.from_residual-in_err-z.result c.from_residual-in_err-z.ensures.1 in
    let t = c.in_ok-token.token in
    rw (p.1, p.2) (inr (t.kind, t.start, t.end, t.long, sym c.in_ok-token.ensures, c.in_err-z.ensures, c.if-token-eq3.false, c.if-token-eq4.false))

pub returns : goal.returns
returns c =
    let t = c.in_ok-token.token in
    let f : to_z w64 (of_z w64 c.in_ok-z.z) ≡ c.in_ok-z.z = search rules in
    rw f (t.kind, t.start, t.long, sym c.in_ok-token.ensures, c.in_ok-z.ensures, c.if-token-eq3.false, c.if-token-eq4.false)
