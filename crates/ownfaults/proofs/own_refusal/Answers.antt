-- `ownfaults::own_refusal` meets its contract.
use mathlib.Core.Path.{refl}
use Rattle.meant.specs.Amounts.{refused}
use Rattle.meant.specs.Entries.{rows_at, refusal_for}
use Rattle.ownfaults.proofs.own_refusal.Goals as goal

pub refusal_in-requires : goal.refusal_in-requires
refusal_in-requires c =
    let whole = rw c.in-One.is at c.requires.2 in
    (record { arcs = c.requires.1.good; long = refl; there = whole }, c.requires.1)

pub refusal_every-requires : goal.refusal_every-requires
refusal_every-requires c =
    record { instances = c.requires.0; search = c.requires.1; long = refl }

pub returns-in-One : goal.returns-in-One
unfolding refusal_for rows_at
returns-in-One c =
    rw (c.in-One.is, ← c.head_at-entry.ensures, ← c.expand-rows.ensures) c.refusal_in.ensures

pub returns-in-Every : goal.returns-in-Every
unfolding refusal_for rows_at
returns-in-Every c =
    rw (c.in-Every.is, ← c.head_at-entry.ensures, ← c.expand-rows.ensures) c.refusal_every.ensures

pub returns-in-Nobody : goal.returns-in-Nobody
unfolding refusal_for refused
returns-in-Nobody c =
    rw c.in-Nobody.is
