-- `scanning::skip_blank` meets its contract.
use Prim.Native.Nat.{zero-le}
use mathlib.Core.Path.{sym, ◌∙◌}
use Rattle.scanning.specs.RunLaws.{unblank}
use Rattle.scanning.proofs.skip_blank.Goals as goal

pub returns-then-comment_at : goal.returns-then-comment_at
returns-then-comment_at c =
    record { ends = c.skip_comments.ensures.ends ∙ c.white_end-i.ensures.ends; state = c.skip_comments.ensures.state ∙ c.white_end-i.ensures.state; counted = c.skip_comments.ensures.counted; fits = c.skip_comments.ensures.fits }

pub returns : goal.returns
returns c =
    let u = unblank c.args.text.now c.white_end-i.result c.white_end-i.ensures.stop (sym c.comment_at.ensures ∙ c.if-comment_at.false) in
    record { ends = sym u.0 ∙ c.white_end-i.ensures.ends; state = sym u.1 ∙ c.white_end-i.ensures.state; counted = zero-le; fits = c.white_end-i.ensures.fits }
