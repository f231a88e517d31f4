-- `nameshape::name_run` meets its contract.
use Rattle.nameshape.specs.Shape.{name_run, plain-run}
use lib.ListN.{length, drop, length-drop}
use lib.Seq.{take_all}
use native.Mathlib.Omega.{arith}
use mathlib.Core.Path.{ap, ◌∙◌}
use Prim.Native.Nat.{◌-◌}
use Rattle.nameshape.proofs.name_run.Goals as goal

pub returns : goal.returns
returns c =
    c.run_on.ensures
    ∙ ap (name_run c.args.slash c.state_behind.result) (take_all (length c.args.word.now - c.plain_run-n.result) (drop c.plain_run-n.result c.args.word.now) (simp length-drop (omega arith)))
    ∙ rw (c.state_behind.ensures, c.plain_run-n.ensures.0) (plain-run c.args.word.now c.args.slash)
