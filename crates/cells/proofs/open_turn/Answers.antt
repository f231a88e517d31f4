-- `cells::open_turn` meets its contract.
use Rattle.grammar.specs.declared.Within.TheVariants.{Cell, Delay}
use Rattle.rules.specs.Bodies.{OpenTurned, cell_opens, delay_opens}
use Rattle.cells.proofs.open_turn.Goals as goal

pub returns-in-Cell : goal.returns-in-Cell
returns-in-Cell c = λ slash.
    let (r, e, q) = c.open_keyword.ensures in
    rw (c.in-Cell.is, q) (cell_opens c.args.text.now c.args.from slash r e)

pub returns-in-Delay : goal.returns-in-Delay
returns-in-Delay c = λ slash.
    let (r, e, q) = c.open_keyword-in-Delay.ensures in
    rw (c.in-Delay.is, q) (delay_opens c.args.text.now c.args.from slash r e)
