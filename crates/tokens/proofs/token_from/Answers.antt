-- `tokens::token_from` meets its contract.
use Rattle.std.proofs.Common.{arith, sym, ◌∙◌}
use Rattle.tokens.specs.Quick.{word_token}
use Rattle.tokens.proofs.token_from.Goals as goal

pub returns-then-start-end : goal.returns-then-start-end
returns-then-start-end c =
    let found = word_token c.args.text.now c.mark_from-sign.result.place c.word_end-end.result (omega (arith, c.word_end-end.ensures.1, c.if-start-end.true)) (sym c.word_end-end.ensures.0) c.if-start-end.true in
    sym (sym c.mark_from-sign.ensures.0 ∙ found)
