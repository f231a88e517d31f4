-- `tokens::mark_from` meets its contract: behind each byte of white space the token is the same.
use Rattle.std.proofs.Common.{sym, ◌∙◌, get_or, rules, eqb-true}
use Rattle.classes.specs.Classes.{class_of}
use Rattle.scanning.specs.RunLaws.{white_goes}
use Rattle.tokens.specs.Quick.{white_token, mark_token}
use Rattle.tokens.proofs.mark_from.Goals as goal

pub returns-then-not-is_white : goal.returns-then-not-is_white
returns-then-not-is_white c =
    (search rules, search rules, λ k. (sym c.loop-i.invariant.1 ∙ mark_token c.args.text.now c.loop-i.i c.mark_of.result (search rules) (sym c.mark_of.ensures) k, search rules))

pub loop-i-preserved : goal.loop-i-preserved
loop-i-preserved c =
    let k = eqb-true (class_of (get_or c.args.text.now c.loop-i.i 0)) 1 (sym c.is_white.ensures ∙ c.if-not-is_white.false) in
    let w = white_goes c.args.text.now c.loop-i.i (search rules) k in
    (search rules, white_token c.args.text.now _ _ w.0 w.1 ∙ c.loop-i.invariant.1)
