-- `scanning::word_stop` meets its contract.
use mathlib.Core.Path.{sym, ◌∙◌}
use mathlib.Core.Logic.{inl, inr, ⊎_elim}
use lib.ListN.{get_or}
use borrow.Author.Tests.{ne_eqb}
use Rattle.scanning.specs.Runs.{state_of}
use Rattle.scanning.specs.RunLaws.{halts_by}
use Rattle.scanning.proofs.States.{state_low, outside_is}
use Rattle.scanning.proofs.word_stop.Goals as goal

pub returns-in-47 : goal.returns-in-47
returns-in-47 c =
    rw (halts_by (state_of c.args.inside) c.args.byte (get_or c.args.text.now c.args.next 0) (state_low c.args.inside) c.requires, c.in-47.is, ← c.peek.ensures)
    c.starts_comment.ensures

pub returns-in-92 : goal.returns-in-92
returns-in-92 c =
    rw (
      halts_by (state_of c.args.inside) c.args.byte (get_or c.args.text.now c.args.next 0) (state_low c.args.inside) c.requires,
      c.in-92.is,
      ← c.peek-in-92.ensures,
      c.is_within.ensures,
    )

pub returns-in-91 : goal.returns-in-91
returns-in-91 c =
    let halts = halts_by (state_of c.args.inside) c.args.byte (get_or c.args.text.now c.args.next 0) (state_low c.args.inside) c.requires in
    ⊎_elim (λ e. sym (halts ∙ rw e)) (λ e. sym (halts ∙ rw e)) c.in-91.is

pub returns-in-58 : goal.returns-in-58
returns-in-58 c =
    rw (halts_by (state_of c.args.inside) c.args.byte (get_or c.args.text.now c.args.next 0) (state_low c.args.inside) c.requires, c.in-58.is)
    (sym (outside_is c.args.inside))

pub returns-in_default : goal.returns-in_default
returns-in_default c =
    rw (
      halts_by (state_of c.args.inside) c.args.byte (get_or c.args.text.now c.args.next 0) (state_low c.args.inside) c.requires,
      ne_eqb c.args.byte 91 (λ e. c.in_default.in_default-own.rest.0.1 (inl e)),
      ne_eqb c.args.byte 93 (λ e. c.in_default.in_default-own.rest.0.1 (inr e)),
      ne_eqb c.args.byte 47 c.in_default.in_default-own.rest.0.0.0.1,
      ne_eqb c.args.byte 92 c.in_default.in_default-own.rest.0.0.1,
      ne_eqb c.args.byte 58 c.in_default.in_default-own.rest.1,
    )
