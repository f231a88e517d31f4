-- `tokenforms::string_at` meets its contract: the scan for the closing quote may start where the first illegal byte stands.
use Prim.Native.Nat.{◌+◌}
use mathlib.Core.Path.{◌≡◌, sym}
use borrow.Author.Tests.{le-leb, lt-leb, lt-ltb, le-ltb}
use Rattle.tokenforms.specs.Tokens.{string_of, spoilt, closing}
use Rattle.tokenforms.specs.Local.{closing_on}
use Rattle.tokenforms.proofs.string_at.Goals as goal

pub returns-then-text-f : goal.returns-then-text-f
unfolding string_of
returns-then-text-f c =
    let f : closing c.args.text.now (c.args.i + 1) ≡ c.close_end-f.result = cc (closing_on c.args.text.now (c.args.i + 1)) in
    rw (f, le-leb _ _ c.if-text-f.true)

pub returns-then-e-f : goal.returns-then-e-f
unfolding string_of
returns-then-e-f c =
    let e : spoilt c.args.text.now (c.args.i + 1) ≡ c.text_end-content.result.place = sym c.text_end-content.ensures.0 in
    let f : closing c.args.text.now (c.args.i + 1) ≡ c.close_end-f.result = cc (closing_on c.args.text.now (c.args.i + 1)) in
    rw (f, e, lt-leb _ _ c.if-text-f.false, lt-ltb _ _ c.if-e-f.true)

pub returns : goal.returns
unfolding string_of
returns c =
    let e : spoilt c.args.text.now (c.args.i + 1) ≡ c.text_end-content.result.place = sym c.text_end-content.ensures.0 in
    let f : closing c.args.text.now (c.args.i + 1) ≡ c.close_end-f.result = cc (closing_on c.args.text.now (c.args.i + 1)) in
    rw (f, e, lt-leb _ _ c.if-text-f.false, le-ltb _ _ c.if-e-f.false)
