-- `views::cell_at` meets its contract.
use Rattle.views.specs.Views.{cell_at}
use Rattle.views.proofs.cell_at.Goals as goal

pub returns : goal.returns
unfolding cell_at
returns c =
    rw (← c.byte.ensures)
