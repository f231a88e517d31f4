-- `tokenforms::text_end` meets its contract.
use Prim.Native.Nat.{◌+◌}
use mathlib.Core.Path.{◌≡◌, sym, ◌∙◌}
use mathlib.Core.Bool.{true, false}
use native.Mathlib.Omega.{arith}
use lib.ListN.{get_or, length}
use borrow.Author.Rules.{rules}
use Rattle.scanning.specs.Scan.{stops, goes_on, ends, stops_st, goes_on_st, ends_st}
use Rattle.scanning.specs.Machines.{text_halts, text_goes}
use Rattle.tokenforms.proofs.text_end.Goals as goal

pub returns-then-text_stop : goal.returns-then-text_stop
returns-then-text_stop c =
    let h : text_halts c.loop-i.state (get_or c.args.text.now c.loop-i.i 0) (get_or c.args.text.now (c.loop-i.i + 1) 0) ≡ true = cc in
    (sym (stops text_halts text_goes c.args.text.now c.loop-i.state c.loop-i.i (search rules) h) ∙ c.loop-i.invariant.2, sym (stops_st text_halts text_goes c.args.text.now c.loop-i.state c.loop-i.i (search rules) h) ∙ c.loop-i.invariant.3, search rules, search rules)

pub loop-i-preserved : goal.loop-i-preserved
loop-i-preserved c =
    let h : text_halts c.loop-i.state (get_or c.args.text.now c.loop-i.i 0) (get_or c.args.text.now (c.loop-i.i + 1) 0) ≡ false = cc in
    (search rules, search rules, cc (goes_on text_halts text_goes c.args.text.now c.loop-i.state c.loop-i.i (search rules) h), cc (goes_on_st text_halts text_goes c.args.text.now c.loop-i.state c.loop-i.i (search rules) h))

pub returns : goal.returns
returns c =
    let e : length c.args.text.now ≡ c.loop-i.i = omega arith in
    (rw e (sym (ends text_halts text_goes c.args.text.now c.loop-i.state c.loop-i.i (search rules)) ∙ c.loop-i.invariant.2), sym (ends_st text_halts text_goes c.args.text.now c.loop-i.state c.loop-i.i (search rules)) ∙ c.loop-i.invariant.3, search rules, search rules)
