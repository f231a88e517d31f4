-- What a `?` hands on.
-- Assumes nothing.
use Rattle.std.specs.Prelude.{◌≡◌, Result, Err, IsErr, IsErrAnd}
use Rattle.std.proofs.lemmas.Result.{err_from_is_err_and}
use Rattle.sheetparts.specs.declared.Fault.{Fault}

-- the exit of a `?` answers the fault that it was given
pub passed_on : {A : Type 0} (r : Result A Fault) (d : Fault) → IsErr r × IsErrAnd r (λ e. e ≡ d) → r ≡ Err d
passed_on r d h = let p = err_from_is_err_and r h.1 in rw (p.1, p.2)
