-- `touchseats::touch_found` meets its contract: the entry means at most the arc of the seat that is found.
use mathlib.Core.Path.{refl, sym, ◌∙◌}
use native.Mathlib.Omega.{arith}
use lib.ListN.{length}
use Rattle.findseat.specs.Laws.{order_there}
use Rattle.touchseats.specs.Laws.{only-meant, only_unmeant}
use Rattle.touchseats.proofs.touch_found.Goals as goal

pub is_meant-requires : goal.is_meant-requires
is_meant-requires c =
    let s = c.args.asked.searched in
    let within = rw c.in-Some.is at c.find_seat-found.ensures.within in
    (c.requires.0, order_there s.start.now s.plan.arcs s.plan.first c.args.arcs.now (length c.args.arcs.now) c.requires.1.good c.requires.4 c.in-Some.one within, rw c.requires.3 c.requires.2)

pub returns-then-is_meant : goal.returns-then-is_meant
returns-then-is_meant c =
    let a = c.args.asked in
    let s = a.searched in
    let within = rw c.in-Some.is at c.find_seat-found.ensures.within in
    let only = rw (c.head_at-entry.ensures, c.in-Some.is) at (c.find_seat-found.ensures.only a.celltype.now) in (
      c.touch_seat.ensures.0,
      rw c.requires.3 (only-meant s.start.now a.text.now s.plan.slash s.plan.instances c.args.entries.now c.args.row
          c.args.instance a.celltype.now c.args.arcs.now c.args.flags.now (length c.args.arcs.now) c.in-Some.one only _ within c.requires.6
          (rw (← c.head_at-entry.ensures) (sym (rw c.requires.3 at c.is_meant.ensures) ∙ c.if-is_meant.true)) c.touch_seat.ensures.1),
    )

pub returns-else-is_meant : goal.returns-else-is_meant
returns-else-is_meant c =
    let a = c.args.asked in
    let s = a.searched in
    let only = rw (c.head_at-entry.ensures, c.in-Some.is) at (c.find_seat-found.ensures.only a.celltype.now) in (
      refl,
      rw c.requires.3 (only_unmeant s.start.now a.text.now s.plan.slash s.plan.instances c.args.entries.now c.args.row
          c.args.instance a.celltype.now c.args.arcs.now c.args.flags.now (length c.args.arcs.now) c.in-Some.one only
          (λ h. rw (← c.head_at-entry.ensures) (sym (rw c.requires.3 at c.is_meant.ensures) ∙ c.if-is_meant.false))),
    )

pub returns-in_default : goal.returns-in_default
returns-in_default c =
    let a = c.args.asked in
    let s = a.searched in
    let only = rw (c.head_at-entry.ensures, c.in_default.is) at (c.find_seat-found.ensures.only a.celltype.now) in (
      refl,
      rw c.requires.3 (only_unmeant s.start.now a.text.now s.plan.slash s.plan.instances c.args.entries.now c.args.row
          c.args.instance a.celltype.now c.args.arcs.now c.args.flags.now (length c.args.arcs.now) (length c.args.arcs.now) only (λ h. absurd (omega arith))),
    )
