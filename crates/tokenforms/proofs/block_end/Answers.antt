-- `tokenforms::block_end` meets its contract.
use mathlib.Core.Path.{◌≡◌, sym, ◌∙◌}
use native.Mathlib.Omega.{arith}
use lib.ListN.{length}
use borrow.Author.Rules.{rules}
use Rattle.scanning.specs.Scan.{stops, goes_on, ends}
use Rattle.scanning.specs.Machines.{block_halts, block_goes}
use Rattle.tokenforms.proofs.block_end.Goals as goal

pub returns-then-block_stop : goal.returns-then-block_stop
returns-then-block_stop c =
    sym (stops block_halts block_goes c.args.text.now 0 c.loop-i.i (search rules) (cc)) ∙ c.loop-i.invariant.1

pub loop-i-preserved : goal.loop-i-preserved
loop-i-preserved c =
    (search rules, goes_on block_halts block_goes c.args.text.now 0 c.loop-i.i (search rules) (cc) ∙ c.loop-i.invariant.1)

pub returns : goal.returns
returns c =
    let e : length c.args.text.now ≡ c.loop-i.i = omega arith in
    rw e (sym (ends block_halts block_goes c.args.text.now 0 c.loop-i.i (search rules)) ∙ c.loop-i.invariant.1)
