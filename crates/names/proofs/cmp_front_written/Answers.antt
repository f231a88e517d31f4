-- `names::cmp_front_written` meets its contract.
use Rattle.names.specs.Name.{dotted}
use Rattle.names.proofs.cmp_front_written.Goals as goal

pub returns-else-slash : goal.returns-else-slash
returns-else-slash c = rw (c.if-slash.false, dotted) c.cmp_front.ensures
