-- Histories of slots, and what a list of events does to a sheet's values. A slot is any place that holds a value; an event is a cell's keyword
-- or an entry; a word is whatever tells where a refusal stands.
-- Assumes nothing.
use Rattle.std.specs.Prelude.{Bool, true, false, List, [], ◌∷◌, ◌++◌, ℕ, leb, eqb, ℤ, nat_abs, ◌+ℤ◌}
use Rattle.std.proofs.Math.Option.{Option, none, some}
use Rattle.classes.specs.Choice.{pick, or, and}

-- 'at most 10^15 either way'
abbrev pub limit : ℕ
limit = 1000000000000000

-- 'The least 64-bit number means empty; every other value' is a time: none is empty
abbrev pub Value : Type 0
Value = Option ℤ

-- What one entry supplies to one slot: 'each of the three numbers is supplied or absent', and goes in by ABSOLUTE or a check, or by INCREMENT
pub data Supply : Type 0 where
  nothing : Supply
  replace : ℤ → Supply
  add : ℤ → Supply

-- what a slot's history has come to: a value, or the number of a refusal
pub data Held : Type 0 where
  holds : Value → Held
  fails : ℕ → Held

-- 16: 'a sum beyond 10^15 either way'
unfoldable pub summed : ℤ → Held
summed z = pick (leb (nat_abs z) limit) (holds (some z)) (fails 16)

-- one entry more; 15: 'INCREMENT supplies a number to an empty value'
unfoldable pub step : Value → Supply → Held
step v nothing = holds v
step v (replace t) = holds (some t)
step none (add t) = fails 15
step (some u) (add t) = summed (u +ℤ t)

-- a history that has failed stays so
unfoldable pub next : Held → Supply → Held
next (holds v) x = step v x
next (fails n) x = fails n

-- the value; of no weight where the history fails, for then nothing is written
unfoldable pub final : Held → Value
final (holds v) = v
final (fails n) = none

-- the history has failed with this number
unfoldable pub fails_with : ℕ → Held → Bool
fails_with n (holds v) = false
fails_with n (fails m) = eqb n m

-- an absent number supplies nothing
unfoldable pub supplied : Supply → Bool
supplied nothing = false
supplied (replace t) = true
supplied (add t) = true

-- some element passes the test
unfoldable pub any_of : {A : Type 0} → (A → Bool) → List A → Bool
any_of f [] = false
any_of f (a ∷ more) = or (f a) (any_of f more)

-- the first of two numbers that is there
unfoldable pub or_else : Option ℕ → Option ℕ → Option ℕ
or_else (some n) o = some n
or_else none o = o

-- the number, if the test holds
unfoldable pub when : Bool → ℕ → Option ℕ
when true n = some n
when false n = none

-- a cell's keyword, or an entry
pub record Event (Slot Word : Type 0) : Type 0 where
  pub word : Word
  -- 12, 13 or 14: what the sheet's records alone refuse here
  pub own : Option ℕ
  pub gives : Slot → Supply

-- the values that are left, or a refusal at a word
pub data Answer (Slot Word : Type 0) : Type 0 where
  sheet : (Slot → Value) → Answer Slot Word
  refused : ℕ → Word → Answer Slot Word

-- every slot is judged
abbrev pub everywhere : {Slot : Type 0} → Slot → Bool
everywhere s = true

module _ {Slot Word : Type 0} where
  -- What stands at the end, where `was` stood before. Annotating: 'after 12 to 16 it equals the starting sheet'; patching: 'A refused patch keeps
  -- the current sheet.'
  unfoldable pub left : (Slot → Value) → Answer Slot Word → Slot → Value
  left was (sheet v) = v
  left was (refused n w) = was

  -- a number refuses here; without one, what comes later decides
  unfoldable pub unless : Word → Option ℕ → Answer Slot Word → Answer Slot Word
  unless w none later = later
  unless w (some n) later = refused n w

  -- A slot's history: what h comes to by the events. 'Cells and entries go in file order.'
  unfoldable pub history : Held → List (Event Slot Word) → Slot → Held
  history h [] s = h
  history h (e ∷ more) s = history (next h (e.gives s)) more s

  -- 'supplied by the outgoing or the incoming cell': some event among these supplies the slot
  unfoldable pub supply : List (Event Slot Word) → Slot → Bool
  supply es s = any_of (λ (e : Event Slot Word). supplied (e.gives s)) es

  -- 'Refusals .. 12 to 14 on the incoming cell only': the events of another cell, with what the records refuse left out of account
  unfoldable pub lenient : List (Event Slot Word) → List (Event Slot Word)
  lenient [] = []
  lenient (e ∷ more) = record { word = e.word; own = none; gives = e.gives } ∷ lenient more

  -- slots: all those of the sheet; judged: those on which 15 and 16 are judged; start: the starting values
  module _ (slots : List Slot) (judged : Slot → Bool) (start : Slot → Value) where
    -- the history of some judged slot fails with this number
    unfoldable pub failing : ℕ → List (Event Slot Word) → Bool
    failing n es = any_of (λ (s : Slot). and (judged s) (fails_with n (history (holds (start s)) es s))) slots

    -- the number given at event e, behind `done`, which was let pass. 'for one entry 14, 15, 16': its own, then 15 over all slots, then 16
    unfoldable pub number : List (Event Slot Word) → Event Slot Word → Option ℕ
    number done e = or_else e.own (or_else (when (failing 15 (done ++ (e ∷ []))) 15) (when (failing 16 (done ++ (e ∷ []))) 16))

    -- 'cell by cell 12, 13, its entries': the first event that is refused decides; if none is, the sheet v
    unfoldable pub outcome : (Slot → Value) → List (Event Slot Word) → List (Event Slot Word) → Answer Slot Word
    outcome v done [] = sheet v
    outcome v done (e ∷ more) = unless e.word (number done e) (outcome v (done ++ (e ∷ [])) more)

  -- annotating: each slot holds what its history makes of its starting value
  unfoldable pub annotated : List Slot → (Slot → Value) → List (Event Slot Word) → Answer Slot Word
  annotated slots start es = outcome slots everywhere start (λ s. final (history (holds (start s)) es s)) [] es

  -- 'every value slot supplied by the outgoing or the incoming cell'
  unfoldable pub affected : List (Event Slot Word) → List (Event Slot Word) → Slot → Bool
  affected outgoing incoming s = or (supply outgoing s) (supply incoming s)

  -- Patching: `outgoing` stands between `before` and `after` in the file, and `incoming` takes its place. 'every value slot supplied by the outgoing
  -- or the incoming cell becomes what the new file's history makes of its starting value; all else stays. Refusals 15 and 16 are judged on those
  -- slots'
  unfoldable pub patched : (slots : List Slot) (start : Slot → Value) (before outgoing after incoming : List (Event Slot Word))
      (current : Slot → Value)
      → Answer Slot Word
  patched slots start before outgoing after incoming current =
      let new : List (Event Slot Word) = lenient before ++ (incoming ++ lenient after) in
      let touched : Slot → Bool = affected outgoing incoming in
      outcome slots touched start (λ s. pick (touched s) (final (history (holds (start s)) new s)) (current s)) [] new

  -- annotating as a program does it, entry by entry, on the values `now`: `EventLaws` has the law that it is the same
  module _ (slots : List Slot) where
    unfoldable pub stuck : ℕ → (Slot → Value) → Event Slot Word → Bool
    stuck n now e = any_of (λ (s : Slot). fails_with n (step (now s) (e.gives s))) slots

    unfoldable pub judge : (Slot → Value) → Event Slot Word → Option ℕ
    judge now e = or_else e.own (or_else (when (stuck 15 now e) 15) (when (stuck 16 now e) 16))

    unfoldable pub folded : (Slot → Value) → List (Event Slot Word) → Answer Slot Word
    folded now [] = sheet now
    folded now (e ∷ more) = unless e.word (judge now e) (folded (λ s. final (step (now s) (e.gives s))) more)
