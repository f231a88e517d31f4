-- What readers answer where they do not refuse, as terms.
-- Assumes nothing.
use Rattle.std.specs.Prelude.{ℕ, Bool, Result, Ok}
use Rattle.tokenforms.specs.declared.Refusal.{Refusal}
use Rattle.grammar.specs.declared.Span.{Span}
use Rattle.grammar.specs.declared.End.{End}
use Rattle.grammar.specs.declared.Value.{Value}
use Rattle.grammar.specs.declared.ReadValue.{ReadValue}
use Rattle.grammar.specs.declared.Keyword.{Keyword}
use Rattle.grammar.specs.declared.Hand.{Hand}

-- a name or a text, from b to e
abbrev pub Name : ℕ → ℕ → Result Span Refusal
Name b e = Ok (record { from = b; to = e })

-- an end with the edge g, whose port's name stands from b to e; q is behind it
abbrev pub EndTo : ℕ → ℕ → ℕ → ℕ → Result End Refusal
EndTo g b e q = Ok (record { edge = g; from = b; to = e; end = q })

-- a value up to e
abbrev pub ValueTo : Value → ℕ → Result ReadValue Refusal
ValueTo v e = Ok (record { value = v; end = e })

-- one of two keywords, up to e
abbrev pub Found : Bool → ℕ → Result Keyword Refusal
Found second e = Ok (record { second = second; end = e })

-- the token of the kind k from b to e in hand, looked at from p, with its keyword's number
abbrev pub HandAt : ℕ → ℕ → ℕ → ℕ → Bool → ℕ → Result Hand Refusal
HandAt p k b e l key = Ok (record { from = p; token = record { kind = k; start = b; end = e; long = l }; key = key })
