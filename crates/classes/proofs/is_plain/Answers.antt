-- `classes::is_plain` meets its contract.
use Rattle.std.proofs.Common.{rules, ne_eqb}
use Rattle.classes.proofs.Asked.{plain_asked}
use Rattle.classes.proofs.is_plain.Goals as goal

pub returns-else-byte-eq36 : goal.returns-else-byte-eq36
returns-else-byte-eq36 c =
    rw (plain_asked c.args.byte (search rules), ← c.is_letter.ensures, c.if-is_letter.false, ← c.is_within.ensures, c.if-is_within.false)
    (rw (ne_eqb _ _ c.if-byte-eq95.false, ne_eqb _ _ c.if-byte-eq36.false))
