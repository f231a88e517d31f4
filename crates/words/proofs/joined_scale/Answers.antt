-- `words::joined_scale` meets its contract: the number is that of the two parts.
use mathlib.Core.Path.{sym, ◌∙◌, ap}
use Prim.Native.Nat.{◌-◌}
use native.Mathlib.Omega.{arith}
use lib.ListN.{length, length-take}
use Rattle.words.specs.Words.{unit_of}
use Rattle.words.specs.Packed.{from_on}
use Rattle.words.specs.Scales.{cut_short, cut_parts, cut_no_multiple, cut_no_unit, at_most_28}
use Rattle.words.proofs.joined_scale.Goals as goal

pub returns-then-word-letters : goal.returns-then-word-letters
returns-then-word-letters c = sym (cut_short c.args.letters c.args.word.now (omega arith))

pub slice_bounds-multiple_of-end : goal.slice_bounds-multiple_of-end
slice_bounds-multiple_of-end c = simp length-take (omega arith)

pub returns-then-multiple-eq0 : goal.returns-then-multiple-eq0
returns-then-multiple-eq0 c =
    cut_no_multiple c.args.letters c.args.word.now (sym c.if-multiple-eq0.true ∙ c.multiple_of-multiple.ensures)

pub returns-then-unit-eq0 : goal.returns-then-unit-eq0
returns-then-unit-eq0 c =
    cut_no_unit c.args.letters c.args.word.now (sym c.if-unit-eq0.true ∙ c.unit_of-unit.ensures ∙ ap unit_of (from_on (length c.args.word.now - c.args.letters) c.args.word.now))

pub overflow_add-result : goal.overflow_add-result
overflow_add-result c = omega (arith, at_most_28 _ _ _ _ c.multiple_of-multiple.ensures c.unit_of-unit.ensures)

pub overflow_add-result-2 : goal.overflow_add-result-2
overflow_add-result-2 c = omega (arith, at_most_28 _ _ _ _ c.multiple_of-multiple.ensures c.unit_of-unit.ensures)

pub returns : goal.returns
returns c =
    cut_parts c.args.letters c.args.word.now _ _ c.multiple_of-multiple.ensures (c.unit_of-unit.ensures ∙ ap unit_of (from_on (length c.args.word.now - c.args.letters) c.args.word.now))
    (omega arith) (omega arith)
