-- Patching as a program does it: the incoming cell's own fault; one work sheet after the other, by annotating's loop, keeping the least fault; and
-- without one, the touched values written.
-- Assumes nothing.
use Rattle.std.specs.Prelude.{◌≡◌, Bool, true, false, length}
use Rattle.std.proofs.Math.Path.{refl, ap}
use Rattle.std.proofs.Common.{sym, ◌∙◌, zero-add}
use mathlib.Core.List.Memᴰ
use mathlib.Core.List.{List, [], ◌∷◌, ◌++◌, map-append, Memᴰ}
use Rattle.std.proofs.Math.Option.{Option, none, some}
use Prim.Native.Nat.{ℕ, zero, suc, ◌+◌, ◌<◌}
use native.Mathlib.Omega.{arith}
use Rattle.std.proofs.Math.ListN.{get_elem?}
use Rattle.std.proofs.lemmas.List.{length-map}
use Rattle.classes.specs.Choice.{pick}
use Rattle.history.specs.Events.{Event, Answer, sheet, refused, lenient, folded}
use Rattle.history.specs.Faults.{Fault, later}
use Rattle.history.specs.Scan.{precedes, better, own_here, own_fault}
use Rattle.history.specs.Sheet.{Records, Slot, Values, Cell, Cut, cut, events, file_events, slots_of, patch}
use Rattle.history.specs.BySlots.{new_events}
use Rattle.history.proofs.Parts.{least_of, least-none, least_more, fold_left, fold_fault, fold_late, own_is-fold, words_of}
use Rattle.history.proofs.EventLaws.{none≢some}
use Rattle.history.proofs.Work.{Work, seated, Shows, touched, work_events, work_fault, work_left, least_fault, Covered, work_words, words_lenient, patch_refused, patch-done}
use Rattle.history.proofs.Through.{Spot, numbered, Tells, fold-tells, spot_sheet, spot_refused}

-- a fault as the program keeps it: its number, its event's number and its word
pub record Found (Word : Type 0) : Type 0 where
  pub number : ℕ
  pub spot : Spot Word

abbrev pub fault_at : {Word : Type 0} → Found Word → Fault
fault_at g = record { event = g.spot.event; number = g.number }

-- the lesser of the one kept and of a run's; the one kept, if they are equal
unfoldable pub kept_of : {Slot Word : Type 0} → Option (Found Word) → Answer Slot (Spot Word) → Option (Found Word)
kept_of best (sheet v) = best
kept_of none (refused n w) = some (record { number = n; spot = w })
kept_of (some g) (refused n w) = pick (precedes (record { event = w.event; number = n }) (fault_at g)) (some (record { number = n; spot = w })) (some g)

better-nothing : (a : Option Fault) → better a none ≡ a
unfolding better
better-nothing none = refl
better-nothing (some f) = refl

-- a fault, with n events more before it
unfoldable pub shifted : ℕ → Option Fault → Option Fault
shifted n none = none
shifted n (some f) = some (record { event = n + f.event; number = f.number })

-- elements of a list by their numbers
at_second : {A : Type 0} (xs ys : List A) (i : ℕ) → get_elem? (xs ++ ys) (length xs + i) ≡ get_elem? ys i
at_second [] ys i = rw (zero-add i)
at_second (x ∷ xs) ys i = let z : suc (length xs) + i ≡ suc (length xs + i) = omega arith in rw z (at_second xs ys i)

at_first : {A : Type 0} (xs ys : List A) (i : ℕ) (a : A) → get_elem? xs i ≡ some a → get_elem? (xs ++ ys) i ≡ some a
at_first [] ys i a e = absurd (none≢some e)
at_first (x ∷ xs) ys zero a e = e
at_first (x ∷ xs) ys (suc i) a e = at_first xs ys i a e

-- 'Refusals .. 12 to 14 on the incoming cell only': lenient events before and behind have none of their own
module _ {Slot Word : Type 0} where
  own_back : (xs ys : List (Event Slot Word)) → own_fault (xs ++ lenient ys) ≡ own_fault xs
  unfolding own_fault own_here lenient later
  own_back [] [] = refl
  own_back [] (e ∷ ys) = rw (own_back [] ys)
  own_back (e ∷ xs) ys = ap (own_here e.own) (own_back xs ys)

  own_front : (xs ys : List (Event Slot Word)) → own_fault (lenient xs ++ ys) ≡ shifted (length xs) (own_fault ys)
  unfolding own_fault own_here lenient shifted later
  own_front [] ys = by (own_fault ys)
    where
      by : (o : Option Fault) → o ≡ shifted 0 o
      by none = refl
      by (some f) = rw (zero-add f.event)
  own_front (e ∷ xs) ys = ap later (own_front xs ys) ∙ by (own_fault ys)
    where
      by : (o : Option Fault) → later (shifted (length xs) o) ≡ shifted (suc (length xs)) o
      by none = refl
      by (some f) = let z : suc (length xs + f.event) ≡ suc (length xs) + f.event = omega arith in rw z

module _ (records : Records) {Word : Type 0} (p : Cut (Cell Word)) (incoming : Cell Word) (start : Values) where
  -- the program's fault is this one, at its event's word
  abbrev pub FoundIs : Option Fault → Option (Found Word) → Type 0
  FoundIs o none = o ≡ none
  FoundIs o (some g) = (o ≡ some (fault_at g)) × (get_elem? (words_of (new_events records p incoming)) g.spot.event ≡ some g.spot.word)

  -- THE INVARIANT of the loop over parts: `best` is the least fault of those in `past`, and of the incoming cell's own
  abbrev pub Best : List Work → Option (Found Word) → Type 0
  Best past best = FoundIs (least_fault records p incoming start past) best

  -- what the program says of the incoming cell alone: 12 or 13 at its keyword, the first 14 among its entries, or none
  abbrev pub OwnIs : Option (Found Word) → Type 0
  OwnIs none = own_fault (events records incoming) ≡ none
  OwnIs (some g) = (i : ℕ) × (g.spot.event ≡ length (file_events records p.before) + i)
      × (own_fault (events records incoming) ≡ some (record { event = i; number = g.number }))
      × (get_elem? (words_of (events records incoming)) i ≡ some g.spot.word)

  -- which is what a run over no slots says, with nothing left out
  pub own_ran : (now : Values) (a : Answer Slot (Spot Word))
      → folded [] now (numbered (length (file_events records p.before)) (events records incoming)) ≡ a → OwnIs (kept_of none a)
  unfolding kept_of
  own_ran now a e = go a (rw (e, own_is-fold now (events records incoming)) at (fold-tells [] (length (file_events records p.before)) now (events records incoming)))
    where
      go : (a : Answer Slot (Spot Word)) → Tells [] (length (file_events records p.before)) (events records incoming) (fold_left now (events records incoming))
          (own_fault (events records incoming)) a → OwnIs (kept_of none a)
      go (sheet v) t = t.0
      go (refused n w) t = t

  -- with it the loop begins
  pub best_own : (own : Option (Found Word)) → OwnIs own → Best [] own
  unfolding new_events least_of shifted
  best_own own = go own
    where
      before : List (Event Slot Word)
      before = file_events records p.before

      behind : List (Event Slot Word)
      behind = events records incoming ++ lenient (file_events records p.after)

      faults : own_fault (lenient before ++ behind) ≡ shifted (length before) (own_fault (events records incoming))
      faults = own_front before behind ∙ ap (shifted (length before)) (own_back (events records incoming) (file_events records p.after))

      words : (i : ℕ) (w : Word) → get_elem? (words_of (events records incoming)) i ≡ some w → get_elem? (words_of (lenient before ++ behind)) (length before + i) ≡ some w
      words i w e = rw (
        map-append (λ (e : Event Slot Word). e.word) (lenient before) behind,
        words_lenient before,
        ← length-map before (λ (e : Event Slot Word). e.word),
        at_second (words_of before) (words_of behind) i,
        map-append (λ (e : Event Slot Word). e.word) (events records incoming) (lenient (file_events records p.after)),
      )
          (at_first (words_of (events records incoming)) _ i w e)

      go : (own : Option (Found Word)) → OwnIs own → Best [] own
      go none e = faults ∙ rw e
      go (some g) (i, d, e, w) = rw d (faults ∙ rw e, words i g.spot.word w)

  -- what annotating's loop says of a work sheet, from the starting values and over numbered events
  abbrev pub WorkRan : Work → Answer Slot (Spot Word) → Type 0
  WorkRan w a = folded (slots_of w.records) (λ t. start (seated w t)) (numbered 0 (work_events records p incoming w)) ≡ a

  -- one part more
  pub best_more : (past : List Work) (best : Option (Found Word)) (w : Work) (a : Answer Slot (Spot Word)) → Shows records Word w → Best past best → WorkRan w a
      → Best (past ++ (w ∷ [])) (kept_of best a)
  unfolding kept_of better
  best_more past best w a shows so ran = rw (map-append, least_more) (go a ran)
    where
      es : List (Event Slot Word)
      es = work_events records p incoming w

      past_fault : Option Fault
      past_fault = least_fault records p incoming start past

      this : Option Fault
      this = work_fault records p incoming start w

      join : (o : Option Fault) (best : Option (Found Word)) (n : ℕ) (u : Spot Word) → FoundIs o best
          → get_elem? (words_of (new_events records p incoming)) u.event ≡ some u.word
          → FoundIs (better o (some (record { event = u.event; number = n }))) (kept_of {Slot = Slot} best (refused n u))
      join o none n u so r = rw so (refl, r)
      join o (some g) n u (x, y) r = rw x (pick-one (precedes (record { event = u.event; number = n }) (fault_at g)))
        where
          pick-one : (b : Bool) → FoundIs (pick b (some (record { event = u.event; number = n })) (some (fault_at g)))
              (pick b (some (record { number = n; spot = u })) (some g))
          pick-one true = (refl, r)
          pick-one false = (refl, y)

      go : (a : Answer Slot (Spot Word)) → WorkRan w a → FoundIs (better past_fault this) (kept_of best a)
      go (sheet v) e = rw ((spot_sheet (slots_of w.records) _ v es e).0, better-nothing past_fault) so
      go (refused n u) e =
          let (q, r) = spot_refused (slots_of w.records) _ es n u e in
          rw q (join past_fault best n u so (rw (work_words records p incoming w shows) at r))

  -- a part whose run is past the fault kept, with none of its own, need not be run on
  pub best_late : (past : List Work) (g : Found Word) (w : Work) (xs ys : List (Event Slot Word)) → work_events records p incoming w ≡ xs ++ ys
      → g.spot.event < length xs → fold_fault (slots_of w.records) (λ t. start (seated w t)) xs ≡ none → Best past (some g)
      → Best (past ++ (w ∷ [])) (some g)
  best_late past g w xs ys e l calm (x, y) = (rw (map-append, least_more, e, x) (fold_late (slots_of w.records) _ xs ys (fault_at g) l calm), y)

  module _ (cells : List (Cell Word)) (k : ℕ) (origin : Word) (current : Values) (is : cut cells k ≡ some p) (works : List Work)
      (shows : (w : Work) → Memᴰ w works → Shows records Word w) (covered : Covered records p incoming works) where
    -- THE ANSWER: the fault that is kept in the end
    pub patch-found : (g : Found Word) → Best works (some g) → patch records start cells k origin incoming current ≡ refused g.number g.spot.word
    patch-found g (x, y) = patch_refused records p incoming start cells k origin current is works shows covered (fault_at g) g.spot.word x y

    -- or none: the touched slots hold what the work sheets are left with, and all else is as it was
    pub patch_wrote : (v : Values) → Best works none
        → ((s : Slot) → touched records p incoming s ≡ false → v s ≡ current s)
        → ((w : Work) → Memᴰ w works → (left : Values) → WorkRan w (sheet left)
        → (t : Slot) → Memᴰ t (slots_of w.records) → touched records p incoming (seated w t) ≡ true → v (seated w t) ≡ left t)
        → patch records start cells k origin incoming current ≡ sheet v
    patch_wrote v b others those = patch-done records p incoming start cells k origin current is works shows covered v b (record { others = others; those = each })
      where
        each : (w : Work) → Memᴰ w works → (t : Slot) → Memᴰ t (slots_of w.records) → touched records p incoming (seated w t) ≡ true
            → v (seated w t) ≡ work_left records p incoming start w t
        each w m = go (folded (slots_of w.records) (λ t. start (seated w t)) (numbered 0 (work_events records p incoming w))) refl
          where
            calm : work_fault records p incoming start w ≡ none
            calm = (least-none _ _ b).1 (work_fault records p incoming start w) (Memᴰ.map (work_fault records p incoming start) m)

            go : (a : Answer Slot (Spot Word)) → WorkRan w a → (t : Slot) → Memᴰ t (slots_of w.records) → touched records p incoming (seated w t) ≡ true
                → v (seated w t) ≡ work_left records p incoming start w t
            go (sheet left) e t l q = those w m left e t l q ∙ ap (λ (x : Values). x t) (spot_sheet (slots_of w.records) _ left (work_events records p incoming w) e).1
            go (refused n u) e t l q = absurd (none≢some (sym calm ∙ (spot_refused (slots_of w.records) _ (work_events records p incoming w) n u e).0))
