-- `sheet::Lookup::find` meets its contract.
use Rattle.std.proofs.Common.{◌*◌, sym, ◌∙◌, arith}
use Rattle.std.proofs.Math.Logic.{∥∥₁_elim, ∥∥₁_map}
use Rattle.std.proofs.Props.{props}
use Rattle.sheet.specs.Search.{stride_of, mark-fits, good-at, from-mark, no_marks}
use Rattle.sheet.proofs.Lookup.find.Goals as goal

pub overflow_mul-skipped : goal.overflow_mul-skipped
overflow_mul-skipped g c =
    ∥∥₁_elim c.args.self.now.ready (hlevel props) (λ r. rw c.stride_of.ensures
    (let h = mark-fits c.args.self.now.count c.last_mark-index.result c.last_mark-index.ensures.0 r.few in omega arith))

pub search-requires : goal.search-requires
search-requires g c =
    let b = c.args.self.now.sheet.now in
    let there = rw c.stride_of.ensures at c.if-skipped-self.true in
    ∥∥₁_map c.args.self.now.ready (λ r. rw (r.marks.holds c.last_mark-index.result there, c.stride_of.ensures)
    (good-at (g.R.Record.next b) (g.R.Record.Good b) (g.met.R.Record.tail b) (c.last_mark-index.result * stride_of c.args.self.now.count)
    c.args.self.now.count c.args.self.now.first (omega arith) r.good))

pub returns-then-skipped-self : goal.returns-then-skipped-self
returns-then-skipped-self g c =
    let R = g.R.Record in
    let s = c.args.self.now in
    let there = rw c.stride_of.ensures at c.if-skipped-self.true in
    ∥∥₁_elim s.ready (hlevel props) (λ r. rw (from-mark (R.key s.sheet.now) (R.next s.sheet.now) R.order (R.wanted s.wanted) (R.Good s.sheet.now)
    (g.met.R.Record.rises s.sheet.now s.bytes) s.count s.first (stride_of s.count) c.last_mark-index.result r.good c.last_mark-index.ensures.1 there)
    (rw (r.marks.holds c.last_mark-index.result there, c.stride_of.ensures) at c.search.ensures))

pub returns : goal.returns
returns g c =
    let R = g.R.Record in
    let s = c.args.self.now in
    sym (no_marks (R.key s.sheet.now) (R.next s.sheet.now) R.order (R.wanted s.wanted) (R.Good s.sheet.now) (g.met.R.Record.rises s.sheet.now s.bytes)
    s.count s.first (stride_of s.count) c.last_mark-index.result c.last_mark-index.ensures.1 (rw c.stride_of.ensures at c.if-skipped-self.false))
