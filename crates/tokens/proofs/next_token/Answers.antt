-- `tokens::next_token` meets its contract.
use mathlib.Core.Path.{sym}
use borrow.Author.Rules.{rules}
use Rattle.tokens.specs.Stream.{token_beyond}
use Rattle.tokens.proofs.next_token.Goals as goal

pub returns-then-text-from : goal.returns-then-text-from
returns-then-text-from c = sym (token_beyond _ _ (search rules))
