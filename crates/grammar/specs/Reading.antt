-- The reading of a text: the machine of the grammar, fed with the text's tokens.
-- Assumes nothing.
use Rattle.std.specs.Prelude.{◌≡◌, refl, Bool, List, [], ◌∷◌, ℕ, ◌≤◌, eqb, length, Result, Ok, Err}
use Rattle.std.proofs.Common.{ap, ◌∙◌}
use Rattle.classes.specs.Choice.{pick}
use Rattle.tokenforms.specs.declared.Token.{Token}
use Rattle.tokenforms.specs.declared.Refusal.{Refusal}
use Rattle.tokenforms.specs.Tokens.{Got, Refused}
use Rattle.tokenforms.specs.Tokens.{token_at}
use Rattle.tokens.specs.Stream.{Placed, placed, Stream, stream, stream_turn, onward}
use Rattle.grammar.specs.Ll.{Sym}
use Rattle.grammar.specs.Machine.{Res, fine, bad, ◌then◌, State, step, run}
use Rattle.grammar.specs.Grammar.{Term, N, alts, fits}
use Rattle.grammar.specs.Meaning.{Book, judge, wrong}

abbrev pub At : Type 0
At = State Term N Book

abbrev pub stepped : At → Placed → Res At
stepped = step fits alts judge wrong (λ t. t.start)

abbrev pub runs : At → List Placed → Res At
runs = run fits alts judge wrong (λ t. t.start)

-- the tokens have ended: at the text's end (4), with nothing to come, all is well
abbrev pub ended : List (Sym Term N) → At → ℕ → ℕ → Res At
ended [] st n q = pick (eqb n 4) (fine st) (bad n q)
ended (x ∷ ss) st n q = bad n q

abbrev pub run_stream : At → Stream → Res At
run_stream st r = runs st r.toks then (λ x. ended x.stack x r.number r.place)

-- THE READING of a text from a place on
unfoldable pub reading : List ℕ → At → ℕ → Res At
reading s st p = run_stream st (stream s p)

abbrev pub turned : List ℕ → At → Result Token Refusal → Res At
turned s st (Ok tok) = stepped st (placed s tok.kind tok.start tok.end tok.long) then (λ x. reading s x tok.end)
turned s st (Err why) = ended st.stack st why.number why.place

-- one token more
pub turn : (s : List ℕ) (st : At) (p : ℕ) → p ≤ length s → reading s st p ≡ turned s st (token_at s p)
unfolding reading run
turn s st p h = ap (run_stream st) (stream_turn s p h) ∙ by (token_at s p)
  where
    by : (t : Result Token Refusal) → run_stream st (onward s t (stream s)) ≡ turned s st t
    by (Ok tok) = into (stepped st (placed s tok.kind tok.start tok.end tok.long))
      where
        into : (r : Res At) → ((r then (λ x. runs x (stream s tok.end).toks)) then (λ x. ended x.stack x (stream s tok.end).number (stream s tok.end).place)) ≡ (r then (λ x. reading s x tok.end))
        into (fine x) = refl
        into (bad n q) = refl
    by (Err why) = refl

-- at a token: it goes on, or refuses
pub goes : (s : List ℕ) (st : At) (p k b e : ℕ) (l : Bool) (x : Res At) → p ≤ length s → token_at s p ≡ Got k b e l → stepped st (placed s k b e l) ≡ x →
    reading s st p ≡ x then (λ y. reading s y e)
goes s st p k b e l x h t g = turn s st p h ∙ rw (t, g)

-- where something is to come, what ends the tokens is the refusal
pub halts : (s : List ℕ) (y : Sym Term N) (ss : List (Sym Term N)) (b : Book) (p n q : ℕ) → p ≤ length s → token_at s p ≡ Refused n q →
    reading s (record { stack = y ∷ ss; book = b }) p ≡ bad n q
halts s y ss b p n q h t = turn s _ p h ∙ rw t
