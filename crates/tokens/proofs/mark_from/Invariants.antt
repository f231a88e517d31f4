-- `tokens::mark_from` meets its contract: behind each byte of white space the token is the same.
use Rattle.std.proofs.Common.{◌≡◌, ◌≤◌, length}
use Rattle.tokenforms.specs.Tokens.{token_at}
use Rattle.tokens.proofs.mark_from.Given as goal

abbrev pub invariant-loop-i : goal.invariant-loop-i
invariant-loop-i l = (l.i ≤ length l.text) × (token_at l.text l.i ≡ token_at l.text l.from)
