-- `scanning::white_end` meets its contract.
use native.Mathlib.Omega.{arith}
use mathlib.Core.Path.{◌≡◌, sym, ◌∙◌}
use lib.ListN.{get_or, length}
use borrow.Author.Rules.{rules}
use borrow.Author.Tests.{eqb-true, eqb-false}
use Rattle.classes.specs.Classes.{class_of}
use Rattle.scanning.specs.RunLaws.{white_goes}
use Rattle.scanning.proofs.white_end.Goals as goal

pub returns-then-not-is_white : goal.returns-then-not-is_white
returns-then-not-is_white c =
    let f = sym c.is_white.ensures ∙ c.if-not-is_white.true in
    record { on = c.loop-i.invariant.0; fits = c.loop-i.invariant.1; ends = c.loop-i.invariant.2; state = c.loop-i.invariant.3; stop = λ h. eqb-false _ 1 f }

pub loop-i-preserved : goal.loop-i-preserved
loop-i-preserved c =
    let k = eqb-true (class_of (get_or c.args.text.now c.loop-i.i 0)) 1 (sym c.is_white.ensures ∙ c.if-not-is_white.false) in
    let w = white_goes c.args.text.now c.loop-i.i (search rules) k in
    (search rules, search rules, w.0 ∙ c.loop-i.invariant.2, w.1 ∙ c.loop-i.invariant.3)

pub returns : goal.returns
returns c =
    let e : length c.args.text.now ≡ c.loop-i.i = omega arith in
    record { on = omega arith; fits = omega arith; ends = rw e c.loop-i.invariant.2; state = rw e c.loop-i.invariant.3; stop = λ h. absurd (omega arith) }
