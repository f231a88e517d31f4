-- `headsteps::read_heading` meets its contract: the places between the quotes are what is written.
use Rattle.std.proofs.Common.{false, Ok}
use Rattle.std.proofs.lemmas.Result.{err_from_is_err_and}
use Rattle.headsteps.specs.Header.{heading_open, heading_done}
use Rattle.headsteps.proofs.read_heading.Goals as goal

pub take_next-requires : goal.take_next-requires
take_next-requires c =
    (c.in_ok-name.ensures.0 false).5

pub returns-in_err-hand : goal.returns-in_err-hand
returns-in_err-hand c =
    let p = err_from_is_err_and c.from_residual-in_err-hand.result c.from_residual-in_err-hand.ensures.1 in
    rw (p.1, p.2) (heading_open c.args.text.now c.args.from c.args.which c.args.texts.now c.in_ok-name.name.from c.in_ok-name.name.to c.in_ok-name.ensures _ _ c.in_err-hand.ensures)

pub returns : goal.returns
returns c =
    heading_done c.args.text.now c.args.from c.args.which c.args.texts.now c.in_ok-name.name.from c.in_ok-name.name.to c.in_ok-name.ensures (Ok c.in_ok-hand.hand) c.in_ok-hand.ensures
