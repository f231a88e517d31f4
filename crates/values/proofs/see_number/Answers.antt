-- `values::see_number` meets its contract.
use Rattle.std.proofs.Common.{◌≡◌, sym, ◌∙◌, subst, ℤ, Ok, to_z, of_z, w64, arith, rules}
use Rattle.times.specs.StandingLaws.{plainly_time}
use Rattle.values.specs.declared.Seen.TheVariants as seen
use Rattle.values.specs.Parts.{Sees}
use Rattle.values.specs.Seeing.{plain-seen}
use Rattle.values.proofs.see_number.Goals as goal

pub overflow_sub-long : goal.overflow_sub-long
overflow_sub-long c =
    let t = plainly_time c.args.unit c.args.text.now c.args.from c.in-Some.plain.femtoseconds c.in-Some.plain.end (sym c.in-Some.ensures) in
    omega (arith, t.some)

pub ends_word-requires : goal.ends_word-requires
ends_word-requires c = (plainly_time c.args.unit c.args.text.now c.args.from c.in-Some.plain.femtoseconds c.in-Some.plain.end (sym c.in-Some.ensures)).fits

pub returns-then-ends_word : goal.returns-then-ends_word
returns-then-ends_word c =
    let f : to_z w64 (of_z w64 c.in-Some.plain.femtoseconds) ≡ c.in-Some.plain.femtoseconds = search rules in
    subst (λ (z : ℤ). Sees c.args.text.now c.args.from c.args.signed c.args.unit c.args.opened (Ok (seen.Time z c.in-Some.plain.end))) (sym f)
    (plain-seen c.args.text.now c.args.from c.in-Some.plain.femtoseconds c.in-Some.plain.end c.args.signed c.args.unit c.args.opened (sym c.in-Some.ensures) (sym c.ends_word.ensures ∙ c.if-ends_word.true) c.if-not-long.true)
