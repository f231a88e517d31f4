-- `cellhead::cell_head` meets its contract: each way through it has its rule.
use Rattle.std.proofs.Common.{true}
use Rattle.std.proofs.lemmas.Result.{err_from_is_err_and}
use Rattle.cellhead.specs.Heads.{head_path-not, head_done}
use Rattle.cellhead.proofs.cell_head.Goals as goal

pub cell_path-requires : goal.cell_path-requires
cell_path-requires c =
    (c.in_ok-name.ensures.0 true).5

pub returns-in_err-path : goal.returns-in_err-path
returns-in_err-path c =
    let p = err_from_is_err_and c.from_residual-in_err-path.result c.from_residual-in_err-path.ensures.1 in
    rw (p.1, p.2) (head_path-not c.args.text.now c.args.from c.args.slash c.take_opened-hand.result c.take_opened-hand.ensures c.in_ok-behind.behind c.in_ok-behind.ensures c.in_ok-name.name.from c.in_ok-name.name.to c.in_ok-name.ensures _ _ c.in_err-path.ensures)

pub returns : goal.returns
returns c =
    head_done c.args.text.now c.args.from c.args.slash c.take_opened-hand.result c.take_opened-hand.ensures c.in_ok-behind.behind c.in_ok-behind.ensures c.in_ok-name.name.from c.in_ok-name.name.to c.in_ok-name.ensures c.in_ok-path.path c.in_ok-path.ensures
