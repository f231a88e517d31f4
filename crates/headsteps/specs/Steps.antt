-- What the steps of the header's reader promise: equations between readings, as in the rules' Contracts.
-- Assumes nothing.
use Rattle.std.specs.Prelude.{◌≡◌, Bool, true, false, List, [], ◌∷◌, ◌++◌, ℕ, ◌+◌, ◌-◌, ◌≤◌, ◌<◌, length, drop, Result, Ok, Err}
use Rattle.tokens.specs.Stream.{Placed}
use Rattle.grammar.specs.declared.Span.{Span}
use Rattle.tokenforms.specs.declared.Refusal.{Refusal}
use Rattle.grammar.specs.Ll.{Sym, lit, non}
use Rattle.grammar.specs.Machine.{Res, fine, bad}
use Rattle.grammar.specs.declared.Hand.{Hand}
use Rattle.headsteps.specs.declared.Divided.{Divided}
use Rattle.headsteps.specs.declared.scales.Scale.{Scale}
use Rattle.headsteps.specs.declared.scales.Scaled.{Scaled}
use Rattle.grammar.specs.Grammar.{Term, N, text, word, units, number, unity, heading, skip, ◌!◌, ◌‼◌, ◌⇒◌, keyword, ⟨, ⟩, header, heads, divider}
use Rattle.grammar.specs.Grammar.{timescale, bare, file}
use Rattle.grammar.specs.Meaning.{Log, tidy}
use Rattle.grammar.specs.Reading.{At, reading, stepped}
use Rattle.grammar.specs.Outcome.{Stack, state}
use Rattle.rules.specs.Promises.{holds, InHand, ReadsOne}

-- reading on from where a mark stands; a refusal stays what it is
abbrev pub onward : List ℕ → Result ℕ Refusal → At → Res At
onward s (Ok e) st = reading s st e
onward s (Err why) st = bad why.number why.place

abbrev pub InText : List ℕ → Result ℕ Refusal → Type 0
InText s (Ok e) = e ≤ length s
InText s (Err why) = Unit {0}

-- behind these symbols of the grammar the next token is in hand; o whether an opening bracket stands before them
abbrev pub Takes : List ℕ → ℕ → Stack → Bool → Result Hand Refusal → Type 0
Takes s p ys o r =
    ((y : Sym Term N) (ss : Stack) (slash : Bool) (unit cr ir : ℕ) (l : Log) →
    reading s (state (ys ++ y ∷ ss) o slash unit cr ir l) p ≡ holds s r (state (y ∷ ss) true slash unit cr ir l))
    × InHand s r

-- the token in hand where the keyword n has to stand
abbrev pub KeyRead : List ℕ → Result Hand Refusal → ℕ → Result ℕ Refusal → Type 0
KeyRead s h n r =
    ((ss : Stack) (slash : Bool) (unit cr ir : ℕ) (l : Log) →
    holds s h (state (lit (keyword n) ∷ ss) true slash unit cr ir l) ≡ onward s r (state ss false slash unit cr ir l))
    × InText s r

-- a quoted string, from its first quote to behind its last one
abbrev pub Spans : Result Span Refusal → Type 0
Spans (Ok span) = span.from < span.to
Spans (Err why) = Unit {0}

abbrev pub TextRead : List ℕ → ℕ → Result Span Refusal → Type 0
TextRead s p r = ((slash : Bool) → ReadsOne s p text false slash r) × Spans r

-- the header's text of this number, the brackets behind it, and the next token in hand; ts and ts' are the texts' places before and after
abbrev pub HeadingRead : List ℕ → ℕ → ℕ → List ℕ → List ℕ → Result Hand Refusal → Type 0
HeadingRead s p h ts ts' r =
    ((y : Sym Term N) (ss : Stack) (slash : Bool) (unit cr ir : ℕ) →
    reading s (state (lit (text ! (heading h)) ∷ ⟩ ∷ ⟨ ∷ y ∷ ss) false slash unit cr ir (tidy ts [] [])) p ≡
    holds s r (state (y ∷ ss) true slash unit cr ir (tidy ts' [] [])))
    × InHand s r

-- a bare number where one is expected: passed, or the refusal
abbrev pub NumberShape : Placed → Result (Unit {0}) Refusal → Type 0
NumberShape t (Ok u) =
    (ss : Stack) (slash : Bool) (unit cr ir : ℕ) (l : Log) →
    stepped (state (lit (number true ! skip) ∷ ss) false slash unit cr ir l) t ≡ fine (state ss false slash unit cr ir l)
NumberShape t (Err why) =
    (ss : Stack) (slash : Bool) (unit cr ir : ℕ) (l : Log) →
    stepped (state (lit (number true ! skip) ∷ ss) false slash unit cr ir l) t ≡ bad why.number why.place

-- all of this place of the grammar, which means nothing
abbrev pub Skips : List ℕ → ℕ → N → Result ℕ Refusal → Type 0
Skips s p y r =
    ((ss : Stack) (slash : Bool) (unit cr ir : ℕ) (l : Log) →
    reading s (state (non y ∷ ss) false slash unit cr ir l) p ≡ onward s r (state ss false slash unit cr ir l))
    × InText s r

-- a time scale's unit behind its number, which is 10 ^ power; and a whole time scale: 10 ^ unit femtoseconds
abbrev pub UnitRead : List ℕ → ℕ → ℕ → Result Scale Refusal → Type 0
UnitRead s p power (Ok scale) =
    ((ss : Stack) (slash : Bool) (cr ir : ℕ) (l : Log) →
    reading s (state (lit (word units 1 16 ‼ unity) ∷ ss) false slash power cr ir l) p ≡ reading s (state ss false slash scale.unit cr ir l) scale.end)
    × (scale.end ≤ length s)
UnitRead s p power (Err why) =
    (ss : Stack) (slash : Bool) (cr ir : ℕ) (l : Log) →
    reading s (state (lit (word units 1 16 ‼ unity) ∷ ss) false slash power cr ir l) p ≡ bad why.number why.place

abbrev pub ScaleRead : List ℕ → ℕ → Result Scale Refusal → Type 0
ScaleRead s p (Ok scale) =
    ((ss : Stack) (slash : Bool) (u cr ir : ℕ) (l : Log) →
    reading s (state (non timescale ∷ ss) false slash u cr ir l) p ≡ reading s (state ss false slash scale.unit cr ir l) scale.end)
    × (scale.end ≤ length s)
ScaleRead s p (Err why) =
    (ss : Stack) (slash : Bool) (u cr ir : ℕ) (l : Log) → reading s (state (non timescale ∷ ss) false slash u cr ir l) p ≡ bad why.number why.place

-- at the header entry of this number, behind its opening bracket
abbrev pub before : ℕ → Bool → ℕ → ℕ → ℕ → List ℕ → At
before k d unit cr ir ts = state (non (header k d) ∷ []) true d unit cr ir (tidy ts [] [])

-- a header entry's number, by its keyword's: DESIGN's, 43, is the first
abbrev pub place : ℕ → ℕ
place n = n - 43

-- the entry whose keyword is n has this behind it
abbrev pub Stands : ℕ → (Bool → Stack) → Type 0
Stands n rest = (d : Bool) → drop (place n) (heads d) ≡ (keyword n ⇒ rest d) ∷ drop (place n + 1) (heads d)

-- it is a text, of this number; or a bare number or triple
abbrev pub IsText : ℕ → ℕ → Type 0
IsText n h = Stands n (λ d. lit (text ! (heading h)) ∷ ⟩ ∷ ⟨ ∷ non (header (place n + 1) d) ∷ [])

abbrev pub IsBare : ℕ → Type 0
IsBare n = Stands n (λ d. non bare ∷ ⟨ ∷ non (header (place n + 1) d) ∷ [])

-- THE STEPS: what is in hand at an entry is passed on to the next one, whether the entry was there or not
abbrev pub Passes : List ℕ → ℕ → Result Hand Refusal → List ℕ → Result Hand Refusal → List ℕ → Type 0
Passes s n h ts h' ts' =
    ((d : Bool) (unit cr ir : ℕ) → holds s h (before (place n) d unit cr ir ts) ≡ holds s h' (before (place n + 1) d unit cr ir ts'))
    × InHand s h'

abbrev pub PassesBare : List ℕ → ℕ → Result Hand Refusal → Result Hand Refusal → Type 0
PassesBare s n h h' = (ts : List ℕ) → Passes s n h ts h' ts

-- DIVIDER, behind its keyword and as a step; the divider was the dot until then
abbrev pub DividerRead : List ℕ → ℕ → Result Divided Refusal → Type 0
DividerRead s p (Ok said) =
    ((unit cr ir : ℕ) (ts : List ℕ) →
    reading s (state (non divider ∷ []) false false unit cr ir (tidy ts [] [])) p ≡ holds s (Ok said.hand) (before 6 said.slash unit cr ir ts))
    × InHand s (Ok said.hand)
DividerRead s p (Err why) =
    (unit cr ir : ℕ) (ts : List ℕ) →
    reading s (state (non divider ∷ []) false false unit cr ir (tidy ts [] [])) p ≡ bad why.number why.place

abbrev pub PassesDivider : List ℕ → Result Hand Refusal → Result Divided Refusal → Type 0
PassesDivider s h (Ok said) =
    ((unit cr ir : ℕ) (ts : List ℕ) →
    holds s h (before 5 false unit cr ir ts) ≡ holds s (Ok said.hand) (before 6 said.slash unit cr ir ts))
    × InHand s (Ok said.hand)
PassesDivider s h (Err why) = (unit cr ir : ℕ) (ts : List ℕ) → holds s h (before 5 false unit cr ir ts) ≡ bad why.number why.place

-- TIMESCALE; 'without it, 1 ns', 10 ^ 6 femtoseconds
abbrev pub PassesScale : List ℕ → Result Hand Refusal → Result Scaled Refusal → Type 0
PassesScale s h (Ok said) =
    ((d : Bool) (cr ir : ℕ) (ts : List ℕ) →
    holds s h (before 9 d 6 cr ir ts) ≡ holds s (Ok said.hand) (before 10 d said.unit cr ir ts))
    × InHand s (Ok said.hand)
PassesScale s h (Err why) = (d : Bool) (cr ir : ℕ) (ts : List ℕ) → holds s h (before 9 d 6 cr ir ts) ≡ bad why.number why.place

-- a file's beginning, up to the token behind the bracket that follows SDFVERSION
abbrev pub FileOpened : List ℕ → List ℕ → List ℕ → Result Hand Refusal → Type 0
FileOpened s ts ts' r =
    ((cr ir : ℕ) → reading s (state file false false 6 cr ir (tidy ts [] [])) 0 ≡ holds s r (before 0 false 6 cr ir ts'))
    × InHand s r
