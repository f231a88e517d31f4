-- `nameshape::plain_run` meets its contract.
use Rattle.std.proofs.Common.{rules, arith}
use Rattle.nameshape.specs.Shape.{plain_on, plain-off, plain_end}
use Rattle.nameshape.proofs.plain_run.Goals as goal

pub returns-then-not-is_name_byte : goal.returns-then-not-is_name_byte
returns-then-not-is_name_byte c =
    let t = plain-off c.args.word.now c.loop-i.i (search rules) (search rules) in
    (omega (arith, t, c.loop-i.invariant), omega arith)

pub loop-i-preserved : goal.loop-i-preserved
loop-i-preserved c =
    let t = plain_on c.args.word.now c.loop-i.i (search rules) (search rules) in
    omega (arith, t, c.loop-i.invariant)

pub returns : goal.returns
returns c =
    let t = plain_end c.args.word.now c.loop-i.i (search rules) in
    (omega (arith, t, c.loop-i.invariant), search rules)
