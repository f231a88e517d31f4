-- `swapseats::swap_chunks` meets its contract.
use mathlib.Core.Path.{refl, sym, ◌∙◌}
use Rattle.chunks.specs.Chunks.{swapped-done, swapped-stop}
use Rattle.swapseats.proofs.swap_chunks.Goals as goal

pub returns-then-not-is_fault : goal.returns-then-not-is_fault
returns-then-not-is_fault c =
    let w = c.args.swapping in
    let s = w.searched in
    swapped-done s.start.now s.plan.instances s.plan.arcs s.plan.first w.file.now w.incoming.now s.plan.slash w.cells.now w.entries.now w.cells2.now w.entries2.now w.swap w.leaver w.leavertype.now w.comer w.comertype.now c.args.own c.args.current.now c.judge_chunks-best.result _ (sym c.is_fault.ensures ∙ c.if-not-is_fault.true)
    c.judge_chunks-best.ensures.2 c.write_chunks.ensures

pub returns-else-not-is_fault : goal.returns-else-not-is_fault
returns-else-not-is_fault c =
    let w = c.args.swapping in
    let s = w.searched in
    swapped-stop s.start.now s.plan.instances s.plan.arcs s.plan.first w.file.now w.incoming.now s.plan.slash w.cells.now w.entries.now w.cells2.now w.entries2.now w.swap w.leaver w.leavertype.now w.comer w.comertype.now c.args.own c.args.current.now c.judge_chunks-best.result _ (sym c.is_fault.ensures ∙ c.if-not-is_fault.false)
    c.judge_chunks-best.ensures.2 refl
