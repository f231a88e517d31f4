-- What was read, at other places: a place p of one text, a or behind it, stands at c + (p - a) in another.
-- Assumes nothing.
use Rattle.std.specs.Prelude.{ℕ, ◌+◌, ◌-◌, eqb}
use Rattle.classes.specs.Choice.{pick}

-- 'A missing end stands from 0 to 0', and a path that is no word does; it stays so. (What is listed stands behind a bracket, so never at 0.)
unfoldable pub move_at : ℕ → ℕ → ℕ → ℕ
move_at a c p = pick (eqb p 0) 0 (c + (p - a))
