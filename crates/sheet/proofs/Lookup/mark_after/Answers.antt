-- `sheet::Lookup::mark_after` meets its contract.
use Rattle.std.proofs.Common.{◌*◌, ◌∙◌, arith}
use Rattle.std.proofs.Math.Logic.{∥∥₁_elim}
use Rattle.std.proofs.Props.{props}
use borrow.Author.Tests.{lt-ltb, le-ltb}
use Rattle.sheet.specs.Search.{stride_of, mark-fits, whole_at}
use Rattle.sheet.proofs.Lookup.mark_after.Goals as goal

pub overflow_mul-skipped : goal.overflow_mul-skipped
overflow_mul-skipped g c =
    ∥∥₁_elim c.args.self.now.ready (hlevel props)
    (λ r. rw c.stride_of.ensures (let h = mark-fits c.args.self.now.count c.args.index c.requires r.few in omega arith))

pub against-requires : goal.against-requires
against-requires g c =
    let b = c.args.self.now.sheet.now in
    let there = rw c.stride_of.ensures at c.if-skipped-self.true in
    ∥∥₁_elim c.args.self.now.ready (hlevel props)
    (λ r. rw (r.marks.holds c.args.index there) (whole_at (g.R.Record.next b) (g.R.Record.Good b) b (g.met.R.Record.whole b) (g.met.R.Record.tail b)
    (c.args.index * stride_of c.args.self.now.count) c.args.self.now.count c.args.self.now.first there r.good).1)

pub returns-then-skipped-self : goal.returns-then-skipped-self
returns-then-skipped-self g c =
    let there = rw c.stride_of.ensures at c.if-skipped-self.true in
    ∥∥₁_elim c.args.self.now.ready (hlevel props) (λ r. rw (lt-ltb _ _ there, ← r.marks.holds c.args.index there, ← c.against.ensures))

pub returns : goal.returns
returns g c = rw (le-ltb _ _ (rw c.stride_of.ensures at c.if-skipped-self.false))
