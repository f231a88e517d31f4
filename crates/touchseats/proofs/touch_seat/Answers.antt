-- `touchseats::touch_seat` meets its contract: the seat's part of the flags is lent and comes back.
use mathlib.Core.Path.{◌∙◌, ap}
use lib.ListN.{length}
use Rattle.meant.specs.Entries.{rows_at}
use Rattle.touchseats.specs.Laws.{seat-put, touched-long}
use Rattle.touchseats.proofs.touch_seat.Goals as goal

pub returns : goal.returns
unfolding rows_at
returns c =
    let e = seat-put c.args.entries.now c.args.row c.args.flags.now _ c.args.seat c.requires.1 (c.touch_rows.ensures ∙ rw (c.expand-rows.ensures, c.head_at-entry.ensures)) in
    (ap length e ∙ touched-long c.args.entries.now c.args.row c.args.flags.now c.args.seat c.requires.1, e)
