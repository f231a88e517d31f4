-- `applycells::apply_entry` meets its contract.
use mathlib.Core.Path.{refl}
use Rattle.meaning.specs.Amounts.{refused}
use Rattle.meaning.specs.Entries.{rows_at, refusal_for, applied_for}
use Rattle.applycells.proofs.apply_entry.Goals as goal

pub apply_at-requires : goal.apply_at-requires
apply_at-requires c =
    let whole = rw c.in-One.is at c.requires.2 in
    (record { arcs = c.requires.0.search.good; long = c.requires.0.long; there = whole }, c.requires.0.search, c.requires.4)

pub apply_typed-requires : goal.apply_typed-requires
apply_typed-requires c =
    (c.requires.0, c.requires.3, c.requires.4)

pub returns-in-One : goal.returns-in-One
unfolding refusal_for applied_for rows_at
returns-in-One c =
    rw (c.in-One.is, ← c.head_at-entry.ensures, ← c.expand-rows.ensures) c.apply_at.ensures

pub returns-in-Every : goal.returns-in-Every
unfolding refusal_for applied_for rows_at
returns-in-Every c =
    rw (c.in-Every.is, ← c.head_at-entry.ensures, ← c.expand-rows.ensures) c.apply_typed.ensures

pub returns-in-Nobody : goal.returns-in-Nobody
unfolding refusal_for applied_for refused
returns-in-Nobody c =
    rw c.in-Nobody.is (refl, refl)
