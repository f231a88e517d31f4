-- What a loop over events says: they were gone through, and what comes behind them goes on from there; or they are refused.
-- Assumes nothing.
use Rattle.std.specs.Prelude.{◌≡◌, Bool}
use Rattle.std.proofs.Math.Path.{refl, ap, fun_ext}
use Rattle.std.proofs.Common.{sym, ◌∙◌, add-zero}
use Rattle.std.proofs.Math.Bool.{true, false}
use mathlib.Core.List.{List, [], ◌∷◌, ◌++◌, map-append, append-nil, append_assoc}
use Rattle.std.proofs.Math.Option.{Option, none, some}
use Prim.Native.Nat.{ℕ, suc, ◌+◌}
use native.Mathlib.Omega.{arith}
use Rattle.std.proofs.Math.ListN.{length, get_elem?}
use Rattle.classes.specs.Choice.{pick}
use Rattle.history.specs.Events.{Value, nothing, step, final, fails_with, or_else, when, Event, Answer, sheet, refused, unless, lenient, stuck, judge, folded}
use Rattle.history.proofs.EventLaws.{any_none, fold_step, fold-stop}
use Rattle.history.specs.Faults.{Fault, later}
use Rattle.history.specs.Places.{renamed_answer}
use Rattle.history.specs.Scan.{own_here}
use Rattle.history.proofs.Parts.{onward, fold_left, fold_fault, words_of, calmed-append}
use Rattle.history.proofs.Restricted.{only, restricted}

module _ {Slot Word : Type 0} (slots : List Slot) where
  -- 1. Loops

  -- THE INVARIANT of every loop over events, and what it ensures
  abbrev pub Through : (Slot → Value) → List (Event Slot Word) → Answer Slot Word → Type 0
  Through now es (sheet then) = (more : List (Event Slot Word)) → folded slots now (es ++ more) ≡ folded slots then more
  Through now es (refused n w) = (more : List (Event Slot Word)) → folded slots now (es ++ more) ≡ refused n w

  pub through-none : (now : Slot → Value) → Through now [] (sheet now)
  through-none now more = refl

  -- one list after another
  pub through_on : (now then : Slot → Value) (xs ys : List (Event Slot Word)) (a : Answer Slot Word) → Through now xs (sheet then) → Through then ys a
      → Through now (xs ++ ys) a
  through_on now then xs ys (sheet v) p q = λ more. rw append_assoc (p (ys ++ more) ∙ q more)
  through_on now then xs ys (refused n w) p q = λ more. rw append_assoc (p (ys ++ more) ∙ q more)

  -- what comes behind a refusal is not looked at
  pub through-stop : (now : Slot → Value) (xs ys : List (Event Slot Word)) (n : ℕ) (w : Word) → Through now xs (refused n w) → Through now (xs ++ ys) (refused n w)
  through-stop now xs ys n w p more = rw append_assoc (p (ys ++ more))

  -- one event: it is let pass, it is refused, or it supplies nothing here
  pub through-step : (now : Slot → Value) (e : Event Slot Word) → judge slots now e ≡ none → Through now (e ∷ []) (sheet (onward now e))
  through-step now e p more = fold_step slots now now e more p

  pub through_refuse : (now : Slot → Value) (e : Event Slot Word) (n : ℕ) → judge slots now e ≡ some n → Through now (e ∷ []) (refused n e.word)
  through_refuse now e n p more = fold-stop slots now now e more n p

  pub through_skip : (now : Slot → Value) (e : Event Slot Word) → e.own ≡ none → ((s : Slot) → e.gives s ≡ nothing) → Through now (e ∷ []) (sheet now)
  unfolding judge stuck or_else when fails_with step final
  through_skip now e o g more = fold_step slots now now e more (rw (o, calm 15, calm 16)) ∙ ap (λ (v : Slot → Value). folded slots v more) (fun_ext (λ s. rw (g s)))
    where
      calm : (n : ℕ) → stuck slots n now e ≡ false
      calm n = any_none _ slots (λ s m. rw (g s))

  -- at the end
  pub through-all : (now : Slot → Value) (es : List (Event Slot Word)) (a : Answer Slot Word) → Through now es a → folded slots now es ≡ a
  unfolding folded
  through-all now es (sheet v) p = rw append-nil at (p [])
  through-all now es (refused n w) p = rw append-nil at (p [])

-- 2. How a run takes its events: with what the records refuse, as annotating does; or without, on a work sheet. Slots that are not touched are OUT

module _ {Slot Word : Type 0} where
  abbrev pub taken : Bool → (Slot → Bool) → List (Event Slot Word) → List (Event Slot Word)
  taken strict touched es = restricted touched (pick strict es (lenient es))

  pub taken-append : (strict : Bool) (touched : Slot → Bool) (xs ys : List (Event Slot Word))
      → taken strict touched (xs ++ ys) ≡ taken strict touched xs ++ taken strict touched ys
  unfolding restricted
  taken-append true touched xs ys = map-append (only touched) xs ys
  taken-append false touched xs ys = calmed-append touched xs ys

-- 3. Words that tell the event's number: by them the faults of several runs are compared

pub record Spot (Word : Type 0) : Type 0 where
  pub event : ℕ
  pub word : Word

later-some : (o : Option Fault) (i n : ℕ) → o ≡ some (record { event = i; number = n }) → later o ≡ some (record { event = suc i; number = n })
unfolding later
later-some o i n e = rw e

later-nothing : (o : Option Fault) → o ≡ none → later o ≡ none
unfolding later
later-nothing o e = rw e

module _ {Slot Word : Type 0} where
  -- the events, numbered from k on
  unfoldable pub numbered : ℕ → List (Event Slot Word) → List (Event Slot (Spot Word))
  numbered k [] = []
  numbered k (e ∷ more) = record { word = record { event = k; word = e.word }; own = e.own; gives = e.gives } ∷ numbered (suc k) more

  pub numbered-append : (k : ℕ) (xs ys : List (Event Slot Word)) → numbered k (xs ++ ys) ≡ numbered k xs ++ numbered (k + length xs) ys
  unfolding numbered
  numbered-append k [] ys = rw (add-zero k)
  numbered-append k (e ∷ xs) ys = let z : suc k + length xs ≡ k + suc (length xs) = omega arith in rw (numbered-append (suc k) xs ys, z)

  module _ (slots : List Slot) where
    -- what the answer of such a run tells: no fault, and what is left; or the first fault and its word
    abbrev pub Tells : ℕ → List (Event Slot Word) → (Slot → Value) → Option Fault → Answer Slot (Spot Word) → Type 0
    Tells k es last o (sheet v) = (o ≡ none) × (v ≡ last)
    Tells k es last o (refused n w) =
        (i : ℕ) × (w.event ≡ k + i) × (o ≡ some (record { event = i; number = n })) × (get_elem? (words_of es) i ≡ some w.word)

    pub fold-tells : (k : ℕ) (now : Slot → Value) (es : List (Event Slot Word)) → Tells k es (fold_left now es) (fold_fault slots now es) (folded slots now (numbered k es))
    unfolding numbered folded fold_left fold_fault judge stuck unless own_here
    fold-tells k now [] = (refl, refl)
    fold-tells k now (e ∷ more) = go (judge slots now e) (folded slots (onward now e) (numbered (suc k) more)) (fold-tells (suc k) (onward now e) more)
      where
        spot : Spot Word
        spot = record { event = k; word = e.word }

        go : (o : Option ℕ) (a : Answer Slot (Spot Word)) → Tells (suc k) more (fold_left (onward now e) more) (fold_fault slots (onward now e) more) a
            → Tells k (e ∷ more) (fold_left (onward now e) more) (own_here o (fold_fault slots (onward now e) more)) (unless spot o a)
        go (some n) a ih = (0, sym (add-zero k), refl, refl)
        go none (sheet v) (p, q) = (later-nothing _ p, q)
        go none (refused n w) (i, p, q, r) = (suc i, omega arith, later-some _ i n q, r)

    pub spot_sheet : (now v : Slot → Value) (es : List (Event Slot Word)) → folded slots now (numbered 0 es) ≡ sheet v
        → (fold_fault slots now es ≡ none) × (v ≡ fold_left now es)
    spot_sheet now v es e = rw e at (fold-tells 0 now es)

    pub spot_refused : (now : Slot → Value) (es : List (Event Slot Word)) (n : ℕ) (w : Spot Word) → folded slots now (numbered 0 es) ≡ refused n w
        → (fold_fault slots now es ≡ some (record { event = w.event; number = n })) × (get_elem? (words_of es) w.event ≡ some w.word)
    spot_refused now es n w e =
        let (i, p, q, r) = rw e at (fold-tells 0 now es) in
        let z : w.event ≡ i = omega arith in
        rw z (q, r)

    -- annotating leaves the numbers out
    pub numbered-answer : (k : ℕ) (now : Slot → Value) (es : List (Event Slot Word))
        → renamed_answer (λ (w : Spot Word). w.word) (folded slots now (numbered k es)) ≡ folded slots now es
    unfolding numbered folded renamed_answer judge stuck unless
    numbered-answer k now [] = refl
    numbered-answer k now (e ∷ more) = go (judge slots now e) (numbered-answer (suc k) (onward now e) more)
      where
        spot : Spot Word
        spot = record { event = k; word = e.word }

        go : (o : Option ℕ) → renamed_answer (λ (w : Spot Word). w.word) (folded slots (onward now e) (numbered (suc k) more)) ≡ folded slots (onward now e) more
            → renamed_answer (λ (w : Spot Word). w.word) (unless spot o (folded slots (onward now e) (numbered (suc k) more)))
            ≡ unless e.word o (folded slots (onward now e) more)
        go none ih = ih
        go (some n) ih = refl
