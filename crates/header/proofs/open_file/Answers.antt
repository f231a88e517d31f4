-- `header::open_file` meets its contract.
use Rattle.std.proofs.lemmas.Result.{err_from_is_err_and}
use Rattle.headsteps.specs.Header.{file-not, version_not, file-done}
use Rattle.header.proofs.open_file.Goals as goal

pub returns-in_err-inside : goal.returns-in_err-inside
returns-in_err-inside c =
    let p = err_from_is_err_and c.from_residual.result c.from_residual.ensures.1 in
    rw (p.1, p.2) (file-not c.args.text.now _ c.take_opened-outer.result c.take_opened-outer.ensures _ _ c.in_err-inside.ensures)

pub returns-in_err-behind : goal.returns-in_err-behind
returns-in_err-behind c =
    let p = err_from_is_err_and c.from_residual-in_err-behind.result c.from_residual-in_err-behind.ensures.1 in
    rw (p.1, p.2) (version_not c.args.text.now _ c.take_opened-outer.result c.take_opened-outer.ensures c.in_ok-inside.inside c.in_ok-inside.ensures c.take_opened-inner.result c.take_opened-inner.ensures _ _ c.in_err-behind.ensures)

pub returns : goal.returns
returns c =
    file-done c.args.text.now _ c.take_opened-outer.result c.take_opened-outer.ensures c.in_ok-inside.inside c.in_ok-inside.ensures c.take_opened-inner.result c.take_opened-inner.ensures c.in_ok-behind.behind _ c.read_heading.result c.in_ok-behind.ensures c.read_heading.ensures
