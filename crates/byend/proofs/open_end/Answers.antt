-- `byend::open_end` meets its contract.
use Rattle.std.proofs.Common.{refl, sym, rules, arith}
use Rattle.byend.specs.Ports.{open_none, open_last}
use Rattle.byend.proofs.open_end.Goals as goal

pub returns-in-Some : goal.returns-in-Some
returns-in-Some c =
    let i = c.in-Some.ensures.item in
    rw (open_last c.args.path.now (λ e. omega arith), ← i.3.1 0) refl

pub returns-in-None : goal.returns-in-None
returns-in-None c = sym (open_none c.args.path.now (search rules))
