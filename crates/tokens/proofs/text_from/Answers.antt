-- `tokens::text_from` meets its contract: a quote is a string's, and no white space changes the token.
use mathlib.Core.Path.{◌≡◌, sym, ◌∙◌}
use native.Mathlib.Omega.{arith}
use lib.ListN.{get_or}
use Rattle.scanning.specs.RunLaws.{more_bytes}
use Rattle.tokens.specs.Quick.{white_token, string_token}
use Rattle.tokens.proofs.text_from.Goals as goal

pub string_at-requires : goal.string_at-requires
string_at-requires c =
    let q : get_or c.args.text.now c.white_end-start.result 0 ≡ 34 = sym c.peek.ensures ∙ c.if-peek-eq34.true in
    more_bytes c.args.text.now c.white_end-start.result (omega arith)

pub returns-then-peek-eq34 : goal.returns-then-peek-eq34
returns-then-peek-eq34 c =
    let q : get_or c.args.text.now c.white_end-start.result 0 ≡ 34 = sym c.peek.ensures ∙ c.if-peek-eq34.true in
    c.string_at.ensures
    ∙ sym (string_token c.args.text.now c.white_end-start.result (more_bytes c.args.text.now c.white_end-start.result (omega arith)) q)
    ∙ white_token c.args.text.now c.white_end-start.result c.args.from c.white_end-start.ensures.ends c.white_end-start.ensures.state

pub returns : goal.returns
returns c =
    c.token_any.ensures ∙ white_token c.args.text.now c.white_end-start.result c.args.from c.white_end-start.ensures.ends c.white_end-start.ensures.state
