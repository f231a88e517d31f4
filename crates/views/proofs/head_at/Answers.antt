-- `views::head_at` meets its contract.
use Rattle.views.specs.Views.{head_at}
use Rattle.views.proofs.head_at.Goals as goal

pub returns : goal.returns
unfolding head_at
returns c =
    rw (← c.byte.ensures, ← c.byte-2.ensures, ← c.byte-3.ensures, ← c.byte-4.ensures)
