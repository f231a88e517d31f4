-- What the records alone refuse, along a list of events: the parts of the new file, a cell's keyword, and its entries.
-- Assumes nothing.
use Rattle.std.specs.Prelude.{◌≡◌, true, false, length, get_or}
use Rattle.std.proofs.Math.Path.{refl, sym, ap}
use Rattle.std.proofs.Common.{◌∙◌, arith, zero-add}
use mathlib.Core.List.{List, [], ◌∷◌, ◌++◌, map}
use Rattle.std.proofs.Math.Option.{Option, none, some}
use Prim.Native.Nat.{ℕ, zero, suc, ◌+◌, ◌<◌}
use Rattle.std.proofs.Math.ListN.{get_elem?, length-map}
use Rattle.applying.specs.Sound.{Each}
use Rattle.history.specs.Events.{when, Event, lenient}
use Rattle.history.proofs.EventLaws.{none≢some, some_inj}
use Rattle.history.specs.Faults.{Fault, later}
use Rattle.history.specs.Scan.{own_here, own_fault}
use Rattle.history.specs.Sheet.{Records, Slot, Entry, Cell, Cut, lacks, cell_number, cell_event, entry_event, events, file_events}
use Rattle.history.specs.BySlots.{new_events}
use Rattle.patching.specs.GroupLaws.{shifted}

-- 1. Faults, some events later

shifted-zero : (o : Option Fault) → shifted 0 o ≡ o
unfolding shifted
shifted-zero none = refl
shifted-zero (some f) = rw (zero-add f.event)

later-shifted : (n : ℕ) (o : Option Fault) → later (shifted n o) ≡ shifted (suc n) o
unfolding shifted later
later-shifted n none = refl
later-shifted n (some f) = let z : suc (n + f.event) ≡ suc n + f.event = omega arith in rw z

later-one : (o : Option Fault) → later o ≡ shifted 1 o
later-one o = ap later (sym (shifted-zero o)) ∙ later-shifted 0 o

shifted_none : (n : ℕ) → shifted n none ≡ none
unfolding shifted
shifted_none n = refl

later-nothing : (o : Option Fault) → later o ≡ none → o ≡ none
unfolding later
later-nothing none e = refl
later-nothing (some f) e = absurd (none≢some (sym e))

-- no number here and behind: none at all
own_nothing : (o : Option ℕ) (rest : Option Fault) → own_here o rest ≡ none → (o ≡ none) × (rest ≡ none)
unfolding own_here
own_nothing none rest e = (refl, later-nothing rest e)
own_nothing (some n) rest e = absurd (none≢some (sym e))

-- 2. Elements of a list by their numbers

-- in the first part of a list, and in the second
at_first : {A : Type 0} (xs ys : List A) (i : ℕ) → i < length xs → get_elem? (xs ++ ys) i ≡ get_elem? xs i
at_first [] ys i l = absurd (omega arith)
at_first (x ∷ xs) ys zero l = refl
at_first (x ∷ xs) ys (suc i) l = at_first xs ys i (omega arith)

at_second : {A : Type 0} (xs ys : List A) (i : ℕ) → get_elem? (xs ++ ys) (length xs + i) ≡ get_elem? ys i
at_second [] ys i = rw (zero-add i)
at_second (x ∷ xs) ys i = let z : suc (length xs) + i ≡ suc (length xs + i) = omega arith in rw z (at_second xs ys i)

-- one that is there has a number below the length
there_below : {A : Type 0} (xs : List A) (i : ℕ) (a : A) → get_elem? xs i ≡ some a → i < length xs
there_below [] i a e = absurd (none≢some e)
there_below (x ∷ xs) zero a e = omega arith
there_below (x ∷ xs) (suc i) a e = let z = there_below xs i a e in omega arith

module _ {Slot Word : Type 0} where
  -- 3. A list of events, and its parts

  -- 'Refusals .. 12 to 14 on the incoming cell only': elsewhere there are none
  pub own_lenient : (es : List (Event Slot Word)) → own_fault (lenient es) ≡ none
  unfolding own_fault own_here lenient later
  own_lenient [] = refl
  own_lenient (e ∷ more) = rw (own_lenient more)

  pub lenient-length : (es : List (Event Slot Word)) → length (lenient es) ≡ length es
  unfolding lenient
  lenient-length [] = refl
  lenient-length (e ∷ more) = ap suc (lenient-length more)

  -- a first part without one: that of the second part decides
  pub own_append-none : (xs ys : List (Event Slot Word)) → own_fault xs ≡ none → own_fault (xs ++ ys) ≡ shifted (length xs) (own_fault ys)
  unfolding own_fault own_here
  own_append-none [] ys p = sym (shifted-zero (own_fault ys))
  own_append-none (e ∷ xs) ys p =
      let w = own_nothing e.own (own_fault xs) p in
      rw (w.0, own_append-none xs ys w.1) (later-shifted (length xs) (own_fault ys))

  -- a first part with one: it decides
  pub own_append-some : (xs ys : List (Event Slot Word)) (g : Fault) → own_fault xs ≡ some g → own_fault (xs ++ ys) ≡ some g
  unfolding own_fault own_here later
  own_append-some [] ys g p = absurd (none≢some p)
  own_append-some (e ∷ xs) ys g p = by e.own (own_fault xs) (own_append-some xs ys) p
    where
      by : (o : Option ℕ) (r : Option Fault) → ((h : Fault) → r ≡ some h → own_fault (xs ++ ys) ≡ some h) → own_here o r ≡ some g
          → own_here o (own_fault (xs ++ ys)) ≡ some g
      by (some n) r q z = z
      by none none q z = absurd (none≢some z)
      by none (some h) q z = rw (q h refl) z

  -- 4. Words

  -- an event of these has this number and this word
  abbrev pub WordAt : List (Event Slot Word) → ℕ → Word → Type 0
  WordAt es i w = (d : Event Slot Word) × (get_elem? es i ≡ some d) × (d.word ≡ w)

  -- words stay
  lenient_word : (es : List (Event Slot Word)) (i : ℕ) (e : Event Slot Word) → get_elem? es i ≡ some e → WordAt (lenient es) i e.word
  unfolding lenient
  lenient_word [] i e p = absurd (none≢some p)
  lenient_word (d ∷ more) zero e p = (record { word = d.word; own = none; gives = d.gives }, refl, ap (λ (x : Event Slot Word). x.word) (some_inj p))
  lenient_word (d ∷ more) (suc i) e p = lenient_word more i e p

module _ (records : Records) {Word : Type 0} where
  -- 5. The new file

  module _ (p : Cut (Cell Word)) (incoming : Cell Word) where
    -- 'Refusals .. 12 to 14 on the incoming cell only'
    pub own_new : own_fault (new_events records p incoming) ≡ shifted (length (file_events records p.before)) (own_fault (events records incoming))
    unfolding new_events
    own_new =
        own_append-none before (events records incoming ++ after) (own_lenient (file_events records p.before))
        ∙ rw (lenient-length (file_events records p.before)) (ap (shifted (length (file_events records p.before))) (here (own_fault (events records incoming)) refl))
      where
        before : List (Event Slot Word)
        before = lenient (file_events records p.before)

        after : List (Event Slot Word)
        after = lenient (file_events records p.after)

        here : (o : Option Fault) → own_fault (events records incoming) ≡ o → own_fault (events records incoming ++ after) ≡ own_fault (events records incoming)
        here none q =
            own_append-none (events records incoming) after q
            ∙ rw (own_lenient (file_events records p.after)) (shifted_none (length (events records incoming)) ∙ sym q)
        here (some g) q = own_append-some (events records incoming) after g q ∙ sym q

    -- what stands behind the cells before
    pub event_from : (i : ℕ) → get_elem? (new_events records p incoming) (length (file_events records p.before) + i)
        ≡ get_elem? (events records incoming ++ lenient (file_events records p.after)) i
    unfolding new_events
    event_from i =
        ap (λ k. get_elem? (new_events records p incoming) (k + i)) (sym (lenient-length (file_events records p.before)))
        ∙ at_second (lenient (file_events records p.before)) (events records incoming ++ lenient (file_events records p.after)) i

    -- the incoming cell's
    pub event_own : (i : ℕ) → i < length (events records incoming)
        → get_elem? (new_events records p incoming) (length (file_events records p.before) + i) ≡ get_elem? (events records incoming) i
    event_own i l = event_from i ∙ at_first (events records incoming) (lenient (file_events records p.after)) i l

    -- words, in the three parts
    pub word_before : (i : ℕ) (e : Event Slot Word) → get_elem? (file_events records p.before) i ≡ some e → WordAt (new_events records p incoming) i e.word
    unfolding new_events
    word_before i e q =
        let w = lenient_word (file_events records p.before) i e q in (
          w.0,
          at_first (lenient (file_events records p.before)) (events records incoming ++ lenient (file_events records p.after)) i
              (there_below (lenient (file_events records p.before)) i w.0 w.1) ∙ w.1,
          w.2,
        )

    pub word_own : (i : ℕ) (e : Event Slot Word) → get_elem? (events records incoming) i ≡ some e
        → WordAt (new_events records p incoming) (length (file_events records p.before) + i) e.word
    word_own i e q = (e, event_own i (there_below (events records incoming) i e q) ∙ q, refl)

    pub word_behind : (i : ℕ) (e : Event Slot Word) → get_elem? (file_events records p.after) i ≡ some e
        → WordAt (new_events records p incoming) (length (file_events records p.before) + (length (events records incoming) + i)) e.word
    word_behind i e q =
        let w = lenient_word (file_events records p.after) i e q in (
          w.0,
          event_from (length (events records incoming) + i)
              ∙ at_second (events records incoming) (lenient (file_events records p.after)) i ∙ w.1,
          w.2,
        )

  -- 6. One cell

  module _ (c : Cell Word) where
    -- its keyword, and its entries
    pub length-events : length (events records c) ≡ 1 + length c.entries
    unfolding events
    length-events = let z = length-map c.entries (entry_event records c) in omega (arith, z)

    -- 12 or 13: at its keyword
    pub own_cell-some : (x : ℕ) → cell_number records c ≡ some x → own_fault (events records c) ≡ some (record { event = 0; number = x })
    unfolding events cell_event own_fault own_here
    own_cell-some x q = rw q

    -- neither: at the entries, if at all
    pub own_cell-none : cell_number records c ≡ none → own_fault (events records c) ≡ shifted 1 (own_fault (map (entry_event records c) c.entries))
    unfolding events cell_event own_fault own_here
    own_cell-none q = rw q (later-one (own_fault (map (entry_event records c) c.entries)))

    -- 7. Its entries: 14, 'some addressed instance lacks the arc'

    pub own_entries_none : (l : List (Entry Word)) → Each (λ (e : Entry Word). lacks records c e ≡ false) l
        → own_fault (map (entry_event records c) l) ≡ none
    unfolding entry_event own_fault own_here later when
    own_entries_none [] h = refl
    own_entries_none (e ∷ l) h = rw (h.0, own_entries_none l h.1)

    pub own_entries_some : (xs : List (Entry Word)) (e : Entry Word) (ys : List (Entry Word)) → Each (λ (d : Entry Word). lacks records c d ≡ false) xs
        → lacks records c e ≡ true → own_fault (map (entry_event records c) (xs ++ e ∷ ys)) ≡ some (record { event = length xs; number = 14 })
    unfolding entry_event own_fault own_here later when
    own_entries_some [] e ys h q = rw q
    own_entries_some (d ∷ xs) e ys h q = rw (h.0, own_entries_some xs e ys h.1 q)

    -- the same, by the numbers of the entries
    pub own_numbers-none : (l : List (Entry Word)) (d : Entry Word) → ((k : ℕ) → k < length l → lacks records c (get_or l k d) ≡ false)
        → own_fault (map (entry_event records c) l) ≡ none
    unfolding entry_event own_fault own_here later when
    own_numbers-none [] d h = refl
    own_numbers-none (e ∷ l) d h = rw (h 0 (omega arith), own_numbers-none l d (λ k g. h (suc k) (omega arith)))

    pub own_numbers-some : (l : List (Entry Word)) (d : Entry Word) (k : ℕ) → k < length l → ((i : ℕ) → i < k → lacks records c (get_or l i d) ≡ false)
        → lacks records c (get_or l k d) ≡ true → own_fault (map (entry_event records c) l) ≡ some (record { event = k; number = 14 })
    unfolding entry_event own_fault own_here later when
    own_numbers-some [] d k g h q = absurd (omega arith)
    own_numbers-some (e ∷ l) d zero g h q = rw q
    own_numbers-some (e ∷ l) d (suc k) g h q =
        rw (h 0 (omega arith), own_numbers-some l d k (omega arith) (λ i x. h (suc i) (omega arith)) q)
