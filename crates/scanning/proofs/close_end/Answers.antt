-- `scanning::close_end` meets its contract.
use mathlib.Core.Path.{◌≡◌, sym, ◌∙◌}
use native.Mathlib.Omega.{arith}
use lib.ListN.{length}
use borrow.Author.Rules.{rules}
use Rattle.scanning.specs.Scan.{stops, goes_on, ends}
use Rattle.scanning.specs.Machines.{close_halts, text_goes}
use Rattle.scanning.proofs.close_end.Goals as goal

pub returns-then-close_stop : goal.returns-then-close_stop
returns-then-close_stop c =
    (sym (stops close_halts text_goes c.args.text.now c.loop-i.state c.loop-i.i (search rules) (cc)) ∙ c.loop-i.invariant.2, search rules)

pub loop-i-preserved : goal.loop-i-preserved
loop-i-preserved c =
    (search rules, search rules, cc (goes_on close_halts text_goes c.args.text.now c.loop-i.state c.loop-i.i (search rules) (cc)))

pub returns : goal.returns
returns c =
    let e : length c.args.text.now ≡ c.loop-i.i = omega arith in
    (rw e (sym (ends close_halts text_goes c.args.text.now c.loop-i.state c.loop-i.i (search rules)) ∙ c.loop-i.invariant.2), search rules)
