-- `meant::is_meant` meets its contract.
use Rattle.meant.specs.Touch.{meant_for}
use Rattle.meant.proofs.is_meant.Goals as goal

pub returns-in-One : goal.returns-in-One
unfolding meant_for
returns-in-One c =
    rw c.in-One.is c.meant_in.ensures

pub returns-in-Every : goal.returns-in-Every
unfolding meant_for
returns-in-Every c =
    rw c.in-Every.is c.meant_every.ensures

pub returns-in-Nobody : goal.returns-in-Nobody
unfolding meant_for
returns-in-Nobody c =
    rw c.in-Nobody.is
