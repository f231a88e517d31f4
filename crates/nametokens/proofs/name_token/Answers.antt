-- `nametokens::name_token` meets its contract.
use native.Mathlib.Omega.{arith}
use mathlib.Core.Path.{◌≡◌, ap, sym, ◌∙◌}
use mathlib.Core.Bool.{true}
use lib.ListN.{get_or}
use Rattle.nameshape.specs.Shape.{is_name_byte}
use Rattle.tokens.specs.Quick.{white_token}
use Rattle.nametokens.specs.ShapeLaws.{within_text, name_word, shaped_from}
use Rattle.nametokens.proofs.name_token.Goals as goal

pub returns-then-not-is_name_byte : goal.returns-then-not-is_name_byte
returns-then-not-is_name_byte c =
    shaped_from c.args.text.now c.args.slash c.white_end-start.result c.args.from
    (white_token c.args.text.now c.white_end-start.result c.args.from c.white_end-start.ensures.ends c.white_end-start.ensures.state) c.any_token.result c.any_token.ensures

pub plain_name-i-requires : goal.plain_name-i-requires
plain_name-i-requires c =
    let b : is_name_byte (get_or c.args.text.now c.white_end-start.result 0) ≡ true = ap is_name_byte (sym c.peek.ensures) ∙ sym c.is_name_byte.ensures ∙ c.if-not-is_name_byte.false in
    omega (arith, within_text c.args.text.now c.white_end-start.result b)

pub returns : goal.returns
returns c =
    let b : is_name_byte (get_or c.args.text.now c.white_end-start.result 0) ≡ true =
    ap is_name_byte (sym c.peek.ensures) ∙ sym c.is_name_byte.ensures
    ∙ c.if-not-is_name_byte.false in
    let n = name_word c.args.text.now c.args.slash c.white_end-start.result c.plain_name-i.result c.word_end-end.result b c.plain_name-i.ensures (sym c.word_end-end.ensures.0) c.word_end-end.ensures.2 c.word_end-end.ensures.1 in
    (sym (sym n.0 ∙ white_token c.args.text.now c.white_end-start.result c.args.from c.white_end-start.ensures.ends c.white_end-start.ensures.state), c.run_on.ensures ∙ n.1)
