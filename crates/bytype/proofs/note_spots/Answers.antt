-- `bytype::note_spots` meets its contract. Invariant: the places so far are noted, and the heads stay.
use Rattle.std.proofs.Common.{◌+◌, ◌*◌, refl, sym, ◌∙◌, rules, arith, get_or-set_other}
use Rattle.sheetlaws.specs.Sheet.{in_end, nth}
use Rattle.sheet.specs.Search.{nth-next}
use Rattle.sheet.specs.Find.{in_there}
use Rattle.bytype.specs.Chains.{noted_more}
use Rattle.bytype.specs.ByType.{spot_of, spot_place, spots_apart}
use Rattle.bytype.proofs.note_spots.Goals as goal

pub loop-k-init : goal.loop-k-init
unfolding nth
loop-k-init c = (refl, (λ i g. absurd (omega arith)), (λ h g. refl), c.requires.3)

pub overflow_cast-index : goal.overflow_cast-index
overflow_cast-index c =
    let t = in_there c.args.sheet.now c.loop-k.k c.args.count 12 (search rules) c.requires.0 in
    omega (arith, c.loop-k.invariant.0, t.0, c.requires.1)

pub invariant_of-next : goal.invariant_of-next
invariant_of-next c =
    record { whole = (rw c.loop-k.invariant.0 (in_there c.args.sheet.now c.loop-k.k c.args.count 12 (search rules) c.requires.0).1) }

pub loop-k-preserved : goal.loop-k-preserved
loop-k-preserved c = (
  c.next-here.ensures ∙ rw c.loop-k.invariant.0 (sym (nth-next (in_end c.args.sheet.now) c.loop-k.k 12)),
  noted_more spot_place (spot_of c.args.sheet.now) spots_apart c.loop-k.k c.loop-k.index c.loop-k.here (omega arith) c.loop-k.invariant.0 c.loop-k.invariant.1,
  (λ h g. get_or-set_other c.loop-k.index (4097 + 2 * c.loop-k.k) h c.loop-k.here 0 (λ e. omega arith) ∙ c.loop-k.invariant.2 h g),
  search rules,
)
