-- What a token is as a name.
-- Assumes nothing.
use Rattle.std.specs.Prelude.{ℕ, ◌≤◌, ◌≡◌, Bool, List, eqb, length, Result, Ok, Err}
use Rattle.classes.specs.Choice.{pick}
use Rattle.scanning.specs.Runs.{word_from}
use Rattle.tokenforms.specs.declared.Token.{Token}
use Rattle.tokenforms.specs.declared.Refusal.{Refusal}
use Rattle.tokenforms.specs.Tokens.{Refused, token_at}
use Rattle.nametokens.specs.declared.Shaped.{Shaped}
use Rattle.tokens.specs.Stream.{part}
use Rattle.nameshape.specs.Shape.{name_run, may_end}

-- where a reader of names stands behind a token: a name is a word, and with any other token no name goes on
abbrev pub shape_of : Bool → List ℕ → Token → ℕ
shape_of slash s t = pick (eqb t.kind 7) (name_run slash 0 (part t.start t.end s)) 9

-- the token there and its shape, or why there is none
abbrev pub ShapedAt : Bool → List ℕ → ℕ → Result Shaped Refusal → Type 0
ShapedAt slash s p (Ok v) = (token_at s p ≡ Ok v.token) × (v.state ≡ shape_of slash s v.token)
ShapedAt slash s p (Err why) = token_at s p ≡ Err why

-- where a port's name (or an instance's path) is expected: the refusal is 4, or 8 for one 'over 1,024 bytes'
abbrev pub name_fault : Bool → Shaped → Result (Unit {0}) Refusal
name_fault port v = pick (may_end port v.state) (pick v.token.long (Refused 8 v.token.start) (Ok tt)) (Refused 4 v.token.start)

-- from p, inside a component, up to r there are bytes of components and dividers between them: word and name go on from r as from p
pub record InName (s : List ℕ) (slash : Bool) (p r : ℕ) : Type 0 where
  pub on : p ≤ r
  pub fits : r ≤ length s
  pub word : word_from 0 s r ≡ word_from 0 s p
  pub name : (e : ℕ) → r ≤ e → e ≤ length s → name_run slash 1 (part r e s) ≡ name_run slash 1 (part p e s)
