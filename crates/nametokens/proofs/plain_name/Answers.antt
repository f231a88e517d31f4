-- `nametokens::plain_name` meets its contract.
use Prim.Native.Nat.{◌+◌}
use mathlib.Core.Path.{◌≡◌, ap, sym, ◌∙◌}
use mathlib.Core.Bool.{true}
use lib.ListN.{get_or}
use borrow.Author.Rules.{rules}
use Rattle.nameshape.specs.Shape.{is_name_byte, divider}
use Rattle.nametokens.specs.ShapeLaws.{none_yet, one_byte, one-divider}
use Rattle.nametokens.proofs.plain_name.Goals as goal

pub loop-i-init : goal.loop-i-init
loop-i-init c =
    none_yet c.args.text.now c.args.slash c.args.from c.requires

pub loop-i-preserved-then-is_name_byte : goal.loop-i-preserved-then-is_name_byte
loop-i-preserved-then-is_name_byte c =
    one_byte c.args.text.now c.args.slash c.args.from c.loop-i.i c.loop-i.invariant (sym c.is_name_byte.ensures ∙ c.if-is_name_byte.true)

pub returns-then-not-is_name_byte : goal.returns-then-not-is_name_byte
returns-then-not-is_name_byte c = c.loop-i.invariant

pub loop-i-preserved : goal.loop-i-preserved
loop-i-preserved c =
    let e : get_or c.args.text.now c.loop-i.i 0 ≡ c.divider_of-divider.result = search rules in
    let d : get_or c.args.text.now c.loop-i.i 0 ≡ divider c.args.slash = e ∙ c.divider_of-divider.ensures in
    let b : is_name_byte (get_or c.args.text.now (c.loop-i.i + 1) 0) ≡ true = ap is_name_byte (sym c.peek.ensures) ∙ sym c.is_name_byte-else-is_name_byte.ensures ∙ c.if-not-is_name_byte.false in
    one-divider c.args.text.now c.args.slash c.args.from c.loop-i.i c.loop-i.invariant (search rules) d b

pub returns : goal.returns
returns c = c.loop-i.invariant
