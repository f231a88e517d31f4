-- `arcrun::mask` meets its contract.
use Rattle.meant.specs.Scratch.{masked}
use Rattle.arcrun.proofs.mask.Goals as goal

pub returns : goal.returns
unfolding masked
returns c =
    rw (c.mask_row.ensures, c.mask_row-2.ensures, c.mask_row-3.ensures, c.mask_row-4.ensures, c.mask_row-5.ensures, c.mask_row-6.ensures)
