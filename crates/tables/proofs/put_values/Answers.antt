-- `tables::put_values` meets its contract: the words of i values are there.
use Rattle.std.proofs.Common.{◌≡◌, ◌+◌, ◌*◌, length, take, get_or, refl, sym, ◌∙◌, rules, arith}
use lib.Seq.{length-take-le}
use Rattle.grammar.specs.Meaning.{nothing}
use Rattle.tables.specs.Layout.{values_row, length_values, values_turn, value-here, value-past, value_words}
use Rattle.tables.specs.Pastes.{put-none, put-put}
use Rattle.tables.proofs.put_values.Goals as goal
use Rattle.tables.proofs.put_values.Goals.{then-i-count, else-i-count}

pub loop-i-init : goal.loop-i-init
unfolding values_row
loop-i-init c = (sym (put-none c.args.table.now c.args.place), refl)

pub loop-i-preserved : goal.loop-i-preserved
loop-i-preserved c =
    let vs = take c.args.count c.args.list in
    let i = c.loop-i.i in
    let e : c.if-i-count.value ≡ get_or vs i nothing =
    elim c.if-i-count.branch [
      | then-i-count w ↦ w.value-is ∙ sym (value-here c.args.list c.args.count i w.if-i-count.true)
      | else-i-count w ↦ w.value-is ∙ sym (value-past c.args.list c.args.count i w.if-i-count.false)
    ] in
    let m = length_values vs i in
    let b : c.args.place + 3 * i ≡ c.args.place + length (values_row vs i) = omega arith in (
      c.put_words.ensures ∙ rw (c.value_words.ensures, e, c.loop-i.invariant.0, values_turn vs i)
          (put-put c.args.table.now (values_row vs i) (value_words (get_or vs i nothing)) c.args.place (c.args.place + 3 * i) b (omega (arith, c.requires.0))),
      c.put_words.auto.table ∙ c.loop-i.invariant.1,
    )

pub shape_of-table : goal.shape_of-table
shape_of-table c = c.loop-i.invariant.1

pub returns : goal.returns
returns c =
    let h : c.loop-i.i ≡ 6 = omega arith in
    let g : length c.args.list ≡ 6 = search rules in
    (rw h at c.loop-i.invariant.0, length-take-le c.args.count c.args.list (omega (arith, c.requires.1)))
