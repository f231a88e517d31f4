-- `entries::read_delay` meets its contract.
use Rattle.std.proofs.Common.{sym, subst, [], arith}
use Rattle.std.proofs.lemmas.Result.{err_from_is_err_and}
use Rattle.tokens.specs.Stream.{onwards}
use Rattle.grammar.specs.Grammar.{delay}
use Rattle.grammar.specs.Meaning.{no_head}
use Rattle.rules.specs.Promises.{entry_end, entry_of, values_of}
use Rattle.rules.specs.Rules.{ahead}
use Rattle.rules.specs.Entries.{listable_stops, delay_tail}
use Rattle.entries.specs.Started.{Starts, delay-starts}
use Rattle.entries.proofs.read_delay.Goals as goal

pub returns-in_err-token : goal.returns-in_err-token
returns-in_err-token c =
    let p = err_from_is_err_and c.from_residual.result c.from_residual.ensures.1 in
    let why = c.in_err-token.field-0.0 in
    rw (p.1, p.2) (listable_stops c.args.text.now c.args.from why.number why.place (delay c.args.group c.args.slash) c.args.slash c.args.unit c.args.room no_head [] c.requires (sym c.in_err-token.ensures))

pub start-requires : goal.start-requires
start-requires c =
    let t = c.in_ok-token.token in
    let g = onwards c.args.text.now c.args.from t.kind t.start t.end t.long c.requires (sym c.in_ok-token.ensures) in
    (omega (arith, g.1), g.2)

pub returns-in_err-started : goal.returns-in_err-started
returns-in_err-started c =
    let p = err_from_is_err_and c.from_residual-in_err-started.result c.from_residual-in_err-started.ensures.1 in
    let t = c.in_ok-token.token in
    let w = subst (Starts c.args.text.now c.args.from t.end (delay c.args.group c.args.slash) c.args.slash c.args.unit c.args.room 1 4 (λ k. delay_tail k c.args.slash)) (sym c.in_err-started.ensures) (delay-starts c.args.text.now c.args.from t.kind t.start t.end t.long c.requires (sym c.in_ok-token.ensures) c.args.slash c.args.unit c.args.room c.args.group) in
    rw (p.1, p.2) (w no_head [])

pub delay_of-requires : goal.delay_of-requires
delay_of-requires c =
    let t = c.in_ok-token.token in
    let d = ahead c.args.text.now c.args.from t.kind t.start t.end t.long c.requires (sym c.in_ok-token.ensures) in
    let w = subst (Starts c.args.text.now c.args.from t.end (delay c.args.group c.args.slash) c.args.slash c.args.unit c.args.room 1 4 (λ k. delay_tail k c.args.slash)) (sym c.in_ok-started.ensures) (delay-starts c.args.text.now c.args.from t.kind t.start t.end t.long c.requires (sym c.in_ok-token.ensures) c.args.slash c.args.unit c.args.room c.args.group) in
    (d.1, w.1, w.2)

pub returns : goal.returns
returns c =
    let t = c.in_ok-token.token in
    let r = c.delay_of.result in
    let w = subst (Starts c.args.text.now c.args.from t.end (delay c.args.group c.args.slash) c.args.slash c.args.unit c.args.room 1 4 (λ k. delay_tail k c.args.slash)) (sym c.in_ok-started.ensures) (delay-starts c.args.text.now c.args.from t.kind t.start t.end t.long c.requires (sym c.in_ok-token.ensures) c.args.slash c.args.unit c.args.room c.args.group) in
    w.0 (entry_end r) (entry_of r) (values_of r) c.delay_of.ensures
