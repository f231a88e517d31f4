-- `byend::note_places` meets its contract. Invariant: the places so far are noted, and the heads stay.
use Rattle.std.proofs.Common.{◌+◌, refl, sym, ◌∙◌, rules, arith, get_or-set_other}
use Rattle.sheetlaws.specs.Sheet.{ar_next, nth, place}
use Rattle.sheet.specs.Search.{nth-next}
use Rattle.sheet.specs.Find.{arc_there}
use Rattle.bytype.specs.Chains.{noted_more}
use Rattle.byend.specs.Ends.{end_place, ends_apart}
use Rattle.byend.proofs.note_places.Goals as goal

pub loop-k-init : goal.loop-k-init
unfolding nth
loop-k-init c = (refl, (λ i g. absurd (omega arith)), (λ h g. refl), c.requires.3)

pub overflow_cast-ends : goal.overflow_cast-ends
overflow_cast-ends c =
    let t = arc_there c.args.sheet.now c.loop-k.k c.args.count c.args.first (search rules) c.requires.0 in
    omega (arith, c.loop-k.invariant.0, t.0, c.requires.1)

pub invariant_of-next : goal.invariant_of-next
invariant_of-next c =
    record { whole = (rw c.loop-k.invariant.0 (arc_there c.args.sheet.now c.loop-k.k c.args.count c.args.first (search rules) c.requires.0).1) }

pub loop-k-preserved : goal.loop-k-preserved
loop-k-preserved c = (
  c.next-here.ensures ∙ rw c.loop-k.invariant.0 (sym (nth-next (ar_next c.args.sheet.now) c.loop-k.k c.args.first)),
  noted_more end_place (λ i. place c.args.sheet.now i c.args.first) ends_apart c.loop-k.k c.loop-k.ends c.loop-k.here (omega arith) c.loop-k.invariant.0 c.loop-k.invariant.1,
  (λ h g. get_or-set_other c.loop-k.ends (4096 + c.loop-k.k) h c.loop-k.here 0 (λ e. omega arith) ∙ c.loop-k.invariant.2 h g),
  search rules,
)
