-- The parts of a value, as its readers hand them on: what reading on from there comes to, reading from here comes to.
-- Assumes nothing.
use Rattle.std.specs.Prelude.{◌≡◌, Bool, false, ◌⊎◌, List, ℕ, ◌≤◌, length, Result, Ok, Err, Some, None, Option, ℤ, is_some}
use Rattle.std.specs.Option.{option_or}
use Rattle.tokenforms.specs.Tokens.{token_at}
use Rattle.tokenforms.specs.Tokens.{Got, Refused}
use Rattle.tokens.specs.Stream.{placed}
use Rattle.tokenforms.specs.declared.Refusal.{Refusal}
use Rattle.grammar.specs.Ll.{non}
use Rattle.grammar.specs.Grammar.{first, second, third}
use Rattle.grammar.specs.declared.Value.{Value}
use Rattle.grammar.specs.declared.ReadValue.{ReadValue}
use Rattle.rules.specs.Promises.{NumberHere, Reads, ReadsValue}
use Rattle.values.specs.declared.Seen.{Seen}
use Rattle.values.specs.declared.Seen.TheVariants as seen
use Rattle.values.specs.declared.Lead.{Lead}
use Rattle.values.specs.declared.Lead.TheVariants as lead
use Rattle.values.specs.declared.Middle.{Middle}

-- what stands where a number may: of the token from there on, what it is as a number
abbrev pub Sees : List ℕ → ℕ → Bool → ℕ → Bool → Result Seen Refusal → Type 0
Sees s p sg unit o (Ok (seen.Time z e)) =
    (k : ℕ) × (b : ℕ) × (l : Bool) × (token_at s p ≡ Got k b e l) × NumberHere (placed s k b e l) sg unit o (Ok z) × (k ≡ 3 → ⊥) × (k ≡ 4 → ⊥)
Sees s p sg unit o (Ok (seen.Mark k b e)) =
    (l : Bool) × (token_at s p ≡ Got k b e l) × NumberHere (placed s k b e l) sg unit o (Refused 4 b) × ((k ≡ 3) ⊎ (k ≡ 4))
Sees s p sg unit o (Err why) =
    (token_at s p ≡ Refused why.number why.place)
    ⊎ ((k : ℕ) × (b : ℕ) × (e : ℕ) × (l : Bool) × (token_at s p ≡ Got k b e l) × NumberHere (placed s k b e l) sg unit o (Refused why.number why.place)
    × (k ≡ 3 → ⊥) × (k ≡ 4 → ⊥))

-- a value of which these are known
abbrev pub known : Option ℤ → Option ℤ → Value
known x y = record { min = x; typ = y; max = None }

-- whether any of the first two numbers of a value is supplied
abbrev pub any : Option ℤ → Option ℤ → Bool
any x y = is_some (option_or y x)

-- the beginning of a value, where G says of an answer that it is what the reading comes to
abbrev pub Leads : List ℕ → Bool → ℕ → (Result ReadValue Refusal → Type 0) → Result Lead Refusal → Type 0
Leads s sg unit G (Ok (lead.Whole got)) = G (Ok got)
Leads s sg unit G (Ok (lead.Colon x e)) = ((r : Result ReadValue Refusal) → Reads s e (non (second (is_some x) sg)) false (known x None) unit r → G r) × (e ≤ length s)
Leads s sg unit G (Err why) = G (Refused why.number why.place)

pub leads_on : (s : List ℕ) (sg : Bool) (unit : ℕ) (G H : Result ReadValue Refusal → Type 0) → ((r : Result ReadValue Refusal) → G r → H r) →
    (l : Result Lead Refusal) → Leads s sg unit G l → Leads s sg unit H l
leads_on s sg unit G H f (Ok (lead.Whole got)) w = f (Ok got) w
leads_on s sg unit G H f (Ok (lead.Colon x e)) w = (λ r u. f r (w.0 r u), w.1)
leads_on s sg unit G H f (Err why) w = f (Refused why.number why.place) w

-- behind the opening bracket, and behind the first number
abbrev pub LeadRead : List ℕ → ℕ → Bool → ℕ → Result Lead Refusal → Type 0
LeadRead s p sg unit r = Leads s sg unit (ReadsValue s p sg unit) r

abbrev pub FirstRead : List ℕ → ℕ → Bool → ℕ → ℤ → Result Lead Refusal → Type 0
FirstRead s p sg unit z r = Leads s sg unit (Reads s p (non (first sg)) false (known (Some z) None) unit) r

-- from the first colon to the second, whatever the first number is
abbrev pub MiddleRead : List ℕ → ℕ → Bool → ℕ → Result Middle Refusal → Type 0
MiddleRead s p sg unit (Ok mid) =
    ((x : Option ℤ) (r : Result ReadValue Refusal) → Reads s mid.end (non (third (any x mid.typ) sg)) false (known x mid.typ) unit r →
    Reads s p (non (second (is_some x) sg)) false (known x None) unit r) × (mid.end ≤ length s)
MiddleRead s p sg unit (Err why) = (x : Option ℤ) → Reads s p (non (second (is_some x) sg)) false (known x None) unit (Refused why.number why.place)
