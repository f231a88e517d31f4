-- `scanning::word_end` meets its contract.
use Prim.Native.Nat.{◌+◌}
use native.Mathlib.Omega.{arith}
use mathlib.Core.Path.{◌≡◌, sym, ◌∙◌}
use mathlib.Core.Bool.{true, false, true≢false}
use lib.ListN.{get_or}
use borrow.Author.Rules.{rules}
use borrow.Author.Tests.{eq-eqb, eqb-true}
use Rattle.classes.specs.Classes.{class_of}
use Rattle.scanning.specs.Scan.{stops, ends}
use Rattle.scanning.specs.Machines.{word_halts, word_goes}
use Rattle.scanning.specs.Runs.{state_of}
use Rattle.scanning.proofs.States.{state_low}
use Rattle.scanning.specs.RunLaws.{plain-goes, word_goes_lem, width_some}
use Rattle.scanning.proofs.word_end.Goals as goal

pub loop-i-preserved-then-is_plain : goal.loop-i-preserved-then-is_plain
loop-i-preserved-then-is_plain c =
    let k : class_of (get_or c.args.text.now c.loop-i.i 0) ≡ 7 = eqb-true _ _ (sym c.is_plain.ensures ∙ c.if-is_plain.true) in
    (search rules, search rules, plain-goes c.args.text.now (state_of c.loop-i.inside) c.loop-i.i (state_low c.loop-i.inside) (search rules) k ∙ c.loop-i.invariant.2)

pub word_stop-requires : goal.word_stop-requires
word_stop-requires c =
    λ k. true≢false (sym (eq-eqb _ _ k) ∙ sym c.is_plain.ensures ∙ c.if-is_plain.false)

pub returns-then-word_stop : goal.returns-then-word_stop
returns-then-word_stop c =
    let halts : word_halts (state_of c.loop-i.inside) (get_or c.args.text.now c.loop-i.i 0) (get_or c.args.text.now (c.loop-i.i + 1) 0) ≡ true = cc in
    (sym (stops word_halts word_goes c.args.text.now (state_of c.loop-i.inside) c.loop-i.i (search rules) halts) ∙ c.loop-i.invariant.2, c.loop-i.invariant.1, c.loop-i.invariant.0)

pub overflow_add-i-else-is_plain-2 : goal.overflow_add-i-else-is_plain-2
overflow_add-i-else-is_plain-2 c =
    let halts : word_halts (state_of c.loop-i.inside) (get_or c.args.text.now c.loop-i.i 0) (get_or c.args.text.now (c.loop-i.i + 1) 0) ≡ false = cc in
    let g = word_goes_lem c.args.text.now (state_of c.loop-i.inside) c.loop-i.i (state_low c.loop-i.inside) (search rules) halts in
    search rules

pub loop-i-smaller : goal.loop-i-smaller
loop-i-smaller c =
    let halts : word_halts (state_of c.loop-i.inside) (get_or c.args.text.now c.loop-i.i 0) (get_or c.args.text.now (c.loop-i.i + 1) 0) ≡ false = cc in
    let g = word_goes_lem c.args.text.now (state_of c.loop-i.inside) c.loop-i.i (state_low c.loop-i.inside) (search rules) halts in
    omega (arith, g.1, width_some (get_or c.args.text.now c.loop-i.i 0), c.word_step-i.ensures)

pub loop-i-preserved : goal.loop-i-preserved
loop-i-preserved c =
    let halts : word_halts (state_of c.loop-i.inside) (get_or c.args.text.now c.loop-i.i 0) (get_or c.args.text.now (c.loop-i.i + 1) 0) ≡ false = cc in
    let g = word_goes_lem c.args.text.now (state_of c.loop-i.inside) c.loop-i.i (state_low c.loop-i.inside) (search rules) halts in
    (omega arith, omega arith, rw (c.word_next-inside.ensures, c.word_step-i.ensures) (g.0 ∙ c.loop-i.invariant.2))

pub returns : goal.returns
returns c =
    (sym (ends word_halts word_goes c.args.text.now (state_of c.loop-i.inside) c.loop-i.i (search rules)) ∙ c.loop-i.invariant.2, c.loop-i.invariant.1, c.loop-i.invariant.0)
