-- `values::read_value` meets its contract: each way through it has its rule.
use Rattle.std.proofs.Common.{Ok, Err}
use Rattle.std.proofs.lemmas.Result.{err_from_is_err_and}
use Rattle.values.specs.Parts.{LeadRead}
use Rattle.values.specs.declared.Lead.TheVariants as lead
use Rattle.values.proofs.read_value.Goals as goal

pub returns-in_err-middle-in-Colon : goal.returns-in_err-middle-in-Colon
returns-in_err-middle-in-Colon c =
    let w : LeadRead c.args.text.now c.args.from c.args.signed c.args.unit (Ok (lead.Colon c.in-Colon.min c.in-Colon.end)) = rw c.in-Colon.is at c.in_ok-read.ensures in
    let p = err_from_is_err_and c.from_residual-in_err-middle-in-Colon.result c.from_residual-in_err-middle-in-Colon.ensures.1 in
    rw (p.1, p.2) (w.0 (Err c.in_err-middle-in-Colon.field-0.0) (c.in_err-middle-in-Colon.ensures c.in-Colon.min))

pub returns-in_ok-middle-in-Colon : goal.returns-in_ok-middle-in-Colon
returns-in_ok-middle-in-Colon c =
    let w : LeadRead c.args.text.now c.args.from c.args.signed c.args.unit (Ok (lead.Colon c.in-Colon.min c.in-Colon.end)) = rw c.in-Colon.is at c.in_ok-read.ensures in
    w.0 c.read_third.result (c.in_ok-middle-in-Colon.ensures.0 c.in-Colon.min c.read_third.result c.read_third.ensures)

pub returns-in_err-read : goal.returns-in_err-read
returns-in_err-read c =
    let p = err_from_is_err_and c.from_residual.result c.from_residual.ensures.1 in
    rw (p.1, p.2) c.in_err-read.ensures
