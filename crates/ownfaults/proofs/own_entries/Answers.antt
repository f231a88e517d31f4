-- `ownfaults::own_entries` meets its contract. Invariant: none of the first k entries lacks its arc.
use mathlib.Core.Path.{◌≡◌, ◌∙◌}
use native.Mathlib.Omega.{arith}
use native.Mathlib.Numerals.{add-one}
use Rattle.meant.specs.AmountTurns.{number-is}
use Rattle.ownfaults.specs.OwnLaws.{own_none, own_more, own_stop, own_end}
use Rattle.ownfaults.proofs.own_entries.Goals as goal

pub loop-k-init : goal.loop-k-init
loop-k-init c =
    let a = c.args.asked in
    let s = a.searched in
    own_none s.start.now s.plan.instances s.plan.arcs s.plan.first a.text.now s.plan.slash c.args.entries.now c.args.count a.whom a.celltype.now c.args.event

pub returns-then-unwrap_or-eq-LACKING : goal.returns-then-unwrap_or-eq-LACKING
returns-then-unwrap_or-eq-LACKING c =
    let a = c.args.asked in
    let s = a.searched in
    own_stop s.start.now s.plan.instances s.plan.arcs s.plan.first a.text.now s.plan.slash c.args.entries.now c.args.count a.whom a.celltype.now c.args.event c.loop-k.k c.unwrap_or.result (omega arith)
    c.loop-k.invariant (c.unwrap_or.ensures ∙ rw c.own_refusal.ensures (number-is _)) c.if-unwrap_or-eq-LACKING.true

pub loop-k-preserved : goal.loop-k-preserved
loop-k-preserved c =
    let a = c.args.asked in
    let s = a.searched in
    rw add-one (own_more s.start.now s.plan.instances s.plan.arcs s.plan.first a.text.now s.plan.slash c.args.entries.now c.args.count a.whom a.celltype.now c.args.event c.loop-k.k c.unwrap_or.result
    (omega arith) c.loop-k.invariant (c.unwrap_or.ensures ∙ rw c.own_refusal.ensures (number-is _)) c.if-unwrap_or-eq-LACKING.false)

pub returns : goal.returns
returns c =
    let a = c.args.asked in
    let s = a.searched in
    let e : c.loop-k.k ≡ c.args.count = omega arith in
    own_end s.start.now s.plan.instances s.plan.arcs s.plan.first a.text.now s.plan.slash c.args.entries.now c.args.count a.whom a.celltype.now c.args.event (rw e at c.loop-k.invariant)
