-- `values::number_here` meets its contract: each answer of a number's reader has its rule.
use Rattle.std.proofs.Common.{◌≡◌, ◌∙◌, Err, sym, ℕ, Bool, ℤ, Ok, subst, to_z, of_z, w64, rules}
use Rattle.tokenforms.specs.Tokens.{Refused}
use Rattle.tokens.specs.Stream.{Placed, placed}
use Rattle.numbershape.specs.Value.{number_of}
use Rattle.numbershape.specs.declared.NotTime.{NotTime}
use Rattle.numbershape.specs.declared.NotTime.TheVariants.{Fine, Beyond, Wrong}
use Rattle.grammar.specs.Meaning.{wrongly}
use Rattle.rules.specs.Promises.{refusal_of, NumberHere}
use Rattle.rules.specs.Rules.{number-wrong, number_fine, number_beyond, number-long, number_time}
use Rattle.values.proofs.number_here.Goals as goal

refused : (t : Placed) (sg : Bool) (unit : ℕ) (o : Bool) (x : NotTime) (w n : ℕ) → t.kind ≡ 7 → number_of sg unit t.bytes ≡ Err x →
    w ≡ wrongly o t.kind t.bytes → n ≡ refusal_of (Err x) w → NumberHere t sg unit o (Refused n t.start)
refused t sg unit o Fine w n q e g h = rw h (number_fine t sg unit o q e)
refused t sg unit o Beyond w n q e g h = rw h (number_beyond t sg unit o q e)
refused t sg unit o Wrong w n q e g h = rw (h, g) (number-wrong t sg unit o q e)

pub returns-in-Err : goal.returns-in-Err
returns-in-Err c =
    let t = c.args.token in
    refused (placed c.args.text.now t.kind t.start t.end t.long) c.args.signed c.args.unit c.args.opened c.in-Err.why c.wrong_at.result c.number_refusal-number.result c.if-token-ne7.false
    (sym c.read_number.ensures ∙ c.in-Err.is) c.wrong_at.ensures c.number_refusal-number.ensures

pub returns-then-token : goal.returns-then-token
returns-then-token c =
    let t = c.args.token in
    number-long (placed c.args.text.now t.kind t.start t.end t.long) c.args.signed c.args.unit c.args.opened c.in-Ok.z c.if-token-ne7.false (sym c.read_number.ensures ∙ c.in-Ok.is) c.if-token.true

pub returns : goal.returns
returns c =
    let t = c.args.token in
    let p = placed c.args.text.now t.kind t.start t.end t.long in
    let f : to_z w64 (of_z w64 c.in-Ok.z) ≡ c.in-Ok.z = search rules in
    subst (λ (z : ℤ). NumberHere p c.args.signed c.args.unit c.args.opened (Ok z)) (sym f)
    (number_time p c.args.signed c.args.unit c.args.opened c.in-Ok.z c.if-token-ne7.false (sym c.read_number.ensures ∙ c.in-Ok.is) c.if-token.false)
