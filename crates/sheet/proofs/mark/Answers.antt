-- `sheet::mark` meets its contract.
use Rattle.std.proofs.Common.{refl, sym, ◌≡◌, ◌∙◌, arith, rules}
use Rattle.sheetlaws.specs.Sheet.{nth}
use Rattle.sheet.specs.Search.{stride_of, marked, stride_pos, mark-room, marked_more, nth-next, whole_at}
use Rattle.sheet.proofs.mark.Goals as goal

pub loop-k-init : goal.loop-k-init
unfolding nth marked
loop-k-init g c = (refl, refl)

pub overflow_cast-here : goal.overflow_cast-here
overflow_cast-here g c =
    let b = c.args.sheet.now in
    let there = whole_at (g.R.Record.next b) (g.R.Record.Good b) b (g.met.R.Record.whole b) (g.met.R.Record.tail b) c.loop-k.k c.args.count c.args.first
    c.loop-k-test.true c.requires.0 in
    omega (arith, c.loop-k.invariant.0, there.0, c.requires.1)

pub put_mark-requires : goal.put_mark-requires
put_mark-requires g c =
    rw c.stride_of-stride.ensures (stride_pos c.args.count, mark-room c.args.count c.loop-k.k c.loop-k-test.true)

pub behind-here-requires : goal.behind-here-requires
behind-here-requires g c =
    let b = c.args.sheet.now in
    rw c.loop-k.invariant.0 (whole_at (g.R.Record.next b) (g.R.Record.Good b) b (g.met.R.Record.whole b) (g.met.R.Record.tail b) c.loop-k.k c.args.count
    c.args.first c.loop-k-test.true c.requires.0).1

pub loop-k-preserved : goal.loop-k-preserved
loop-k-preserved g c =
    let next = g.R.Record.next c.args.sheet.now in (
      c.behind-here.ensures ∙ rw c.loop-k.invariant.0 (sym (nth-next next c.loop-k.k c.args.first)),
      c.put_mark.ensures
          ∙ rw (c.loop-k.invariant.1, c.loop-k.invariant.0, c.stride_of-stride.ensures) (sym (marked_more next c.args.first
          (stride_of c.args.count) c.args.marks.now c.loop-k.k)),
    )

pub returns : goal.returns
returns g c =
    let e : c.loop-k.k ≡ c.args.count = omega arith in
    rw e at c.loop-k.invariant.1
