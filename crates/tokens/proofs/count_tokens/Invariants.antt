-- `tokens::count_tokens` meets its contract: the tokens counted so far, and those from here on, are all.
use Rattle.std.proofs.Common.{◌≡◌, ◌+◌, ◌-◌, ◌≤◌, length}
use Rattle.tokens.specs.Stream.{stream, count}
use Rattle.tokens.proofs.count_tokens.Given as goal

abbrev pub invariant-loop-end : goal.invariant-loop-end
invariant-loop-end l = (l.from ≤ length l.text) × (l.n ≤ l.from) × (l.n + count (stream l.text l.from).toks ≡ count (stream l.text 0).toks)

abbrev pub decreases-loop-end : goal.decreases-loop-end
decreases-loop-end l = length l.text - l.from
