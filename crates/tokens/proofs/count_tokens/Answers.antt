-- `tokens::count_tokens` meets its contract: the tokens counted so far, and those from here on, are all.
use Rattle.std.proofs.Common.{arith, sym, ◌∙◌}
use Rattle.tokens.specs.Stream.{count-one, count_none}
use Rattle.tokens.proofs.count_tokens.Goals as goal

pub loop-end-smaller : goal.loop-end-smaller
loop-end-smaller c =
    let o = count-one c.args.text.now c.loop-end.from c.in-Some.end c.loop-end.invariant.0 (sym c.in-Some.is ∙ c.token_end.ensures) in
    omega (arith, o.1, o.2)

pub loop-end-preserved : goal.loop-end-preserved
loop-end-preserved c =
    let o = count-one c.args.text.now c.loop-end.from c.in-Some.end c.loop-end.invariant.0 (sym c.in-Some.is ∙ c.token_end.ensures) in
    (o.2, omega (arith, o.1), omega (arith, c.loop-end.invariant.2, o.0))

pub returns : goal.returns
returns c =
    omega (arith, c.loop-end.invariant.2, count_none c.args.text.now c.loop-end.from c.loop-end.invariant.0 (sym c.in_default.is ∙ c.token_end.ensures))
