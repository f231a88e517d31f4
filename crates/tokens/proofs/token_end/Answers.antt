-- `tokens::token_end` meets its contract.
use Rattle.std.proofs.Common.{arith, sym, ap, ◌∙◌}
use Rattle.tokens.specs.Stream.{end_of}
use Rattle.tokens.specs.Quick.{word_token}
use Rattle.tokens.proofs.token_end.Goals as goal

pub returns-then-place-end : goal.returns-then-place-end
returns-then-place-end c =
    let found = word_token c.args.text.now c.mark_from-sign.result.place c.word_end-end.result (omega (arith, c.word_end-end.ensures.1, c.if-place-end.true)) (sym c.word_end-end.ensures.0) c.if-place-end.true in
    sym (ap end_of (sym c.mark_from-sign.ensures.0 ∙ found))
