-- `tokenforms::other_here` meets its contract.
use borrow.Author.Tests.{le-leb, lt-leb, eq-eqb, ne_eqb}
use Rattle.tokenforms.specs.Tokens.{token_of}
use Rattle.tokenforms.proofs.other_here.Goals as goal

pub returns-then-class-eq0 : goal.returns-then-class-eq0
unfolding token_of
returns-then-class-eq0 c = rw (lt-leb _ _ c.requires.0, ← c.class_of-class.ensures, eq-eqb _ 0 c.if-class-eq0.true)

pub returns-then-class-le5 : goal.returns-then-class-le5
unfolding token_of
returns-then-class-le5 c = rw (lt-leb _ _ c.requires.0, ← c.class_of-class.ensures, ne_eqb _ 0 c.if-class-eq0.false, le-leb _ 5 c.if-class-le5.true) c.single.ensures

pub returns-then-class-eq6 : goal.returns-then-class-eq6
unfolding token_of
returns-then-class-eq6 c =
    rw (lt-leb _ _ c.requires.0, ← c.class_of-class.ensures, ne_eqb _ 0 c.if-class-eq0.false, lt-leb _ 5 c.if-class-le5.false, eq-eqb _ 6 c.if-class-eq6.true)
    c.string_at.ensures

pub returns-then-class-eq12 : goal.returns-then-class-eq12
unfolding token_of
returns-then-class-eq12 c =
    rw (
      lt-leb _ _ c.requires.0,
      ← c.class_of-class.ensures,
      ne_eqb _ 0 c.if-class-eq0.false,
      lt-leb _ 5 c.if-class-le5.false,
      ne_eqb _ 6 c.if-class-eq6.false,
      eq-eqb _ 12 c.if-class-eq12.true,
    ) c.single-then-class-eq12.ensures

pub returns : goal.returns
unfolding token_of
returns c =
    rw (
      lt-leb _ _ c.requires.0,
      ← c.class_of-class.ensures,
      ne_eqb _ 0 c.if-class-eq0.false,
      lt-leb _ 5 c.if-class-le5.false,
      ne_eqb _ 6 c.if-class-eq6.false,
      ne_eqb _ 12 c.if-class-eq12.false,
      le-leb _ _ c.requires.1,
    )
