-- `readcells::read_cells` meets its contract: these cells have been read, and their records written where the tables are filled.
use Rattle.std.proofs.Common.{◌+◌, refl, sym, ◌∙◌, [], ◌∷◌, ◌++◌, arith, Ok}
use Rattle.std.proofs.lemmas.Result.{err_from_is_err_and}
use Rattle.tokens.specs.Stream.{onwards}
use Rattle.readcells.specs.declared.More.TheVariants as mr
use Rattle.readcells.specs.Whole.{MoreRead}
use Rattle.readcells.specs.Left.{cells_then, items_then, more-cells, more_items, unfilled, unfilled_cells, finished-cells, cells-none, along-wrong, along-full, along_tail_not, along-more-not, along-next, along_last, along-after}
use Rattle.readcells.specs.Left as left
use Rattle.cells.specs.Cells.{filled_none}
use Rattle.readcells.proofs.read_cells.Goals as goal

pub loop-hand-init : goal.loop-hand-init
loop-hand-init c =
    let i = rw c.in_ok-hand.was at c.requires.0 in
    ([], [], refl, refl, omega arith, omega arith, i, left.along-start c.args.text.now (Ok c.in_ok-hand.hand) c.args.slash c.args.unit c.args.room.cells c.args.room.entries, sym (cells-none c.args.fill c.args.cells.now), sym (filled_none c.args.fill c.args.entries.now 0), refl, refl)

pub slice_bounds-wrong_at-count : goal.slice_bounds-wrong_at-count
slice_bounds-wrong_at-count c =
    let h = c.loop-hand.hand in
    let g = onwards c.args.text.now h.from h.token.kind h.token.start h.token.end h.token.long c.loop-hand.invariant.6.0 c.loop-hand.invariant.6.1 in omega arith

pub slice_bounds-wrong_at-start : goal.slice_bounds-wrong_at-start
slice_bounds-wrong_at-start c =
    let h = c.loop-hand.hand in
    let g = onwards c.args.text.now h.from h.token.kind h.token.start h.token.end h.token.long c.loop-hand.invariant.6.0 c.loop-hand.invariant.6.1 in omega arith

pub slice_bounds-wrong_at-end : goal.slice_bounds-wrong_at-end
slice_bounds-wrong_at-end c =
    let h = c.loop-hand.hand in
    let g = onwards c.args.text.now h.from h.token.kind h.token.start h.token.end h.token.long c.loop-hand.invariant.6.0 c.loop-hand.invariant.6.1 in g.2

pub returns-then-hand-ne53 : goal.returns-then-hand-ne53
returns-then-hand-ne53 c =
    let h = c.loop-hand.hand in
    rw c.in_ok-hand.was (along-wrong c.args.text.now (Ok c.in_ok-hand.hand) c.args.slash c.args.unit c.args.room.cells c.args.room.entries c.loop-hand.n c.loop-hand.m c.loop-hand.invariant.0 c.loop-hand.invariant.1 h.from h.token.kind h.token.start h.token.end h.key h.token.long c.loop-hand.invariant.6 c.loop-hand.invariant.7 c.wrong_at-number.result c.if-hand-ne53.true c.wrong_at-number.ensures, λ f. (c.loop-hand.invariant.8 ∙ rw f, c.loop-hand.invariant.9 ∙ rw f))

pub returns-then-n-room : goal.returns-then-n-room
returns-then-n-room c =
    let h = c.loop-hand.hand in
    rw c.in_ok-hand.was (along-full c.args.text.now (Ok c.in_ok-hand.hand) c.args.slash c.args.unit c.args.room.cells c.args.room.entries c.loop-hand.n c.loop-hand.m c.loop-hand.invariant.0 c.loop-hand.invariant.1 h.from h.token.kind h.token.start h.token.end h.key h.token.long c.loop-hand.invariant.6 c.loop-hand.invariant.7 c.if-hand-ne53.false c.if-n-room.true, λ f. (c.loop-hand.invariant.8 ∙ rw f, c.loop-hand.invariant.9 ∙ rw f))

pub overflow_sub-room : goal.overflow_sub-room
overflow_sub-room c =
    c.loop-hand.invariant.5

pub read_tail-requires : goal.read_tail-requires
read_tail-requires c =
    let h = c.loop-hand.hand in
    let g = onwards c.args.text.now h.from h.token.kind h.token.start h.token.end h.token.long c.loop-hand.invariant.6.0 c.loop-hand.invariant.6.1 in
    (g.2, omega (arith, c.loop-hand.invariant.5, c.loop-hand.invariant.11, c.requires.2), omega (arith, c.if-n-room.false, c.loop-hand.invariant.4, c.loop-hand.invariant.10, c.requires.1))

pub returns-in_err-tail : goal.returns-in_err-tail
returns-in_err-tail c =
    let h = c.loop-hand.hand in
    let p = err_from_is_err_and c.from_residual-in_err-tail.result c.from_residual-in_err-tail.ensures.1 in
    let why = c.in_err-tail.field-0.0 in
    let t = c.in_err-tail.ensures in
    rw (c.in_ok-hand.was, p.1, p.2)
    (along_tail_not c.args.text.now (Ok c.in_ok-hand.hand) c.args.slash c.args.unit c.args.room.cells c.args.room.entries c.loop-hand.n c.loop-hand.m c.loop-hand.invariant.0 c.loop-hand.invariant.1 h.from h.token.kind h.token.start h.token.end h.key h.token.long c.loop-hand.invariant.6 c.loop-hand.invariant.7 c.if-hand-ne53.false (omega (arith, c.if-n-room.false, c.loop-hand.invariant.4)) why.number why.place t.0, λ f. ((t.1 f).1 ∙ c.loop-hand.invariant.8 ∙ rw f, (t.1 f).0 ∙ c.loop-hand.invariant.9 ∙ rw f))

pub overflow_add-n : goal.overflow_add-n
overflow_add-n c =
    omega (arith, c.if-n-room.false, c.loop-hand.invariant.4)

pub returns-in_err-end : goal.returns-in_err-end
returns-in_err-end c =
    let h = c.loop-hand.hand in
    let t = c.in_ok-tail.ensures in
    let p = err_from_is_err_and c.from_residual-in_err-end.result c.from_residual-in_err-end.ensures.1 in
    let why = c.in_err-end.field-0.0 in
    rw (c.in_ok-hand.was, p.1, p.2) (
      along-more-not c.args.text.now (Ok c.in_ok-hand.hand) c.args.slash c.args.unit c.args.room.cells c.args.room.entries c.loop-hand.n c.loop-hand.m c.loop-hand.invariant.0 c.loop-hand.invariant.1 h.from h.token.kind h.token.start h.token.end h.key h.token.long c.loop-hand.invariant.6 c.loop-hand.invariant.7 c.if-hand-ne53.false (omega (arith, c.if-n-room.false, c.loop-hand.invariant.4)) c.in_ok-tail.tail.end t.0 t.1 t.3 why.number why.place c.in_err-end.ensures,
      λ f. (
        t.7 ∙ unfilled_cells c.args.fill c.loop-hand.cells c.loop-hand.n (t.0 ∷ []) f ∙ c.loop-hand.invariant.8 ∙ unfilled_cells c.args.fill c.args.cells.now 0 c.loop-hand.invariant.0 f,
        t.6 ∙ unfilled c.args.fill c.loop-hand.entries c.loop-hand.m t.1 f ∙ c.loop-hand.invariant.9 ∙ unfilled c.args.fill c.args.entries.now 0 c.loop-hand.invariant.1 f,
      ),
    )

pub returns-in-Last : goal.returns-in-Last
returns-in-Last c =
    let h = c.loop-hand.hand in
    let t = c.in_ok-tail.ensures in
    let w : MoreRead c.args.text.now c.in_ok-tail.tail.end c.args.slash (Ok (mr.Last c.in-Last.end)) = rw c.in-Last.is at c.in_ok-end.ensures in
    rw c.in_ok-hand.was
    (finished-cells c.args.text.now (Ok c.in_ok-hand.hand) c.args.slash c.args.unit c.args.room.cells c.args.room.entries (c.loop-hand.n + 1) (c.loop-hand.m + c.in_ok-tail.tail.count) (c.loop-hand.invariant.0 ++ t.0 ∷ []) (c.loop-hand.invariant.1 ++ t.1) c.args.fill c.args.cells.now c.read_tail.new.cells c.args.entries.now c.read_tail.new.entries
    (more-cells c.loop-hand.n c.loop-hand.invariant.0 t.0 c.loop-hand.invariant.2) (more_items c.loop-hand.m c.in_ok-tail.tail.count c.loop-hand.invariant.1 t.1 c.loop-hand.invariant.3 t.2)
    (cells_then c.args.fill c.args.cells.now c.loop-hand.cells c.read_tail.new.cells c.loop-hand.n c.loop-hand.invariant.0 t.0 c.loop-hand.invariant.2 (omega (arith, c.loop-hand.invariant.4, c.requires.1)) c.loop-hand.invariant.8 t.7)
    (items_then c.args.fill c.args.entries.now c.loop-hand.entries c.read_tail.new.entries c.loop-hand.m c.loop-hand.invariant.1 t.1 c.loop-hand.invariant.3 (omega (arith, c.loop-hand.invariant.5, c.requires.2)) c.loop-hand.invariant.9 t.6)
    c.in-Last.end
    (λ q e. along_last c.args.text.now (Ok c.in_ok-hand.hand) c.args.slash c.args.unit c.args.room.cells c.args.room.entries c.loop-hand.n c.loop-hand.m c.loop-hand.invariant.0 c.loop-hand.invariant.1 h.from h.token.kind h.token.start h.token.end h.key h.token.long c.loop-hand.invariant.6 c.loop-hand.invariant.7 c.if-hand-ne53.false (omega (arith, c.if-n-room.false, c.loop-hand.invariant.4)) c.in_ok-tail.tail.end t.0 t.1 t.3 c.in-Last.end c.in_ok-tail.tail.count q t.2 w e)
    (λ j q e. along-after c.args.text.now (Ok c.in_ok-hand.hand) c.args.slash c.args.unit c.args.room.cells c.args.room.entries c.loop-hand.n c.loop-hand.m c.loop-hand.invariant.0 c.loop-hand.invariant.1 h.from h.token.kind h.token.start h.token.end h.key h.token.long c.loop-hand.invariant.6 c.loop-hand.invariant.7 c.if-hand-ne53.false (omega (arith, c.if-n-room.false, c.loop-hand.invariant.4)) c.in_ok-tail.tail.end t.0 t.1 t.3 c.in-Last.end j q w e)
    c.finish.result c.finish.ensures)

pub loop-hand-smaller : goal.loop-hand-smaller
loop-hand-smaller c =
    omega (arith, c.if-n-room.false, c.loop-hand.invariant.4)

pub loop-hand-preserved : goal.loop-hand-preserved
loop-hand-preserved c =
    let h = c.loop-hand.hand in
    let t = c.in_ok-tail.ensures in
    let w : MoreRead c.args.text.now c.in_ok-tail.tail.end c.args.slash (Ok (mr.Next c.in-Next.next)) = rw c.in-Next.is at c.in_ok-end.ensures in (
      c.loop-hand.invariant.0 ++ t.0 ∷ [],
      c.loop-hand.invariant.1 ++ t.1,
      more-cells c.loop-hand.n c.loop-hand.invariant.0 t.0 c.loop-hand.invariant.2,
      more_items c.loop-hand.m c.in_ok-tail.tail.count c.loop-hand.invariant.1 t.1 c.loop-hand.invariant.3 t.2,
      (omega (arith, c.if-n-room.false, c.loop-hand.invariant.4)),
      omega (arith, t.4, c.loop-hand.invariant.5),
      w.1,
      along-next c.args.text.now (Ok c.in_ok-hand.hand) c.args.slash c.args.unit c.args.room.cells c.args.room.entries c.loop-hand.n c.loop-hand.m c.loop-hand.invariant.0 c.loop-hand.invariant.1 h.from h.token.kind h.token.start h.token.end h.key h.token.long c.loop-hand.invariant.6 c.loop-hand.invariant.7 c.if-hand-ne53.false (omega (arith, c.if-n-room.false, c.loop-hand.invariant.4)) c.in_ok-tail.tail.end t.0 t.1 t.3 c.in-Next.next c.in_ok-tail.tail.count t.2 w,
      cells_then c.args.fill c.args.cells.now c.loop-hand.cells c.read_tail.new.cells c.loop-hand.n c.loop-hand.invariant.0 t.0 c.loop-hand.invariant.2 (omega (arith, c.loop-hand.invariant.4, c.requires.1)) c.loop-hand.invariant.8 t.7,
      items_then c.args.fill c.args.entries.now c.loop-hand.entries c.read_tail.new.entries c.loop-hand.m c.loop-hand.invariant.1 t.1 c.loop-hand.invariant.3 (omega (arith, c.loop-hand.invariant.5, c.requires.2)) c.loop-hand.invariant.9 t.6,
      c.read_tail.auto.cells ∙ c.loop-hand.invariant.10,
      c.read_tail.auto.entries ∙ c.loop-hand.invariant.11,
    )
