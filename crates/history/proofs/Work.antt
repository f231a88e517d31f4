-- Patching on work sheets: small sheets that hold some of the arcs, run through the new file by annotating's own loop.
-- Assumes nothing.
use Rattle.std.specs.Prelude.{◌≡◌, Bool, ◌⊎◌, length, get_or}
use Rattle.std.proofs.Math.Path.{refl, sym, ap, fun_ext}
use Rattle.std.proofs.Common.{◌∙◌, inl, inr, arith}
use Rattle.std.proofs.Math.Bool.{true, false}
use mathlib.Core.List.Memᴰ
use mathlib.Core.List.{List, [], ◌∷◌, ◌++◌, map, map-append, append-nil, Memᴰ}
use Rattle.std.proofs.Math.Option.{Option, none, some}
use Rattle.std.proofs.Math.Logic.{⊎_elim}
use Prim.Native.Nat.{ℕ, zero, suc, ◌<◌}
use Rattle.std.proofs.Math.ListN.{get_elem?}
use Rattle.std.proofs.lemmas.List.{length-map}
use Rattle.classes.specs.Choice.{pick, or}
use Rattle.history.specs.Events.{Value, supplied, supply, any_of, holds, step, final, fails_with, Event, sheet, refused}
use Rattle.history.specs.Events.{history, lenient, affected, patched, stuck, judge}
use Rattle.history.proofs.EventLaws.{some_inj, none≢some, clash, Within}
use Rattle.history.specs.Faults.{Fault}
use Rattle.history.proofs.Faults.{any_true}
use Rattle.history.specs.Scan.{own_here, own_fault}
use Rattle.history.proofs.Scan.{word_answer, fault_answer}
use Rattle.history.specs.Sheet.{Records, Key, Slot, Values, Entry, Cell, Cut, cut, swapped, given, addresses, events, cell_event, entry_event, file_events}
use Rattle.history.specs.Sheet.{each, slots_of, patch, patch_cut}
use Rattle.history.proofs.SheetLaws.{arc-listed, file-at, file-within}
use Rattle.history.specs.BySlots.{new_events}
use Rattle.history.proofs.BySlots.{new_low}
use Rattle.history.proofs.Restricted.{only, restricted}
use Rattle.history.proofs.Parts.{least_of, least-none, onward, fold_left, fold_fault, calmed, part_fault, outcome-by-parts, part_left, words_of, lenient-append}

any_map : {A B : Type 0} (f : B → Bool) (g : A → B) (l : List A) → any_of f (map g l) ≡ any_of (λ (a : A). f (g a)) l
unfolding any_of
any_map f g [] = refl
any_map f g (a ∷ more) = rw (any_map f g more)

-- 1. Slots under other names: what a work sheet's slot is on the sheet

module _ {Slot Small Word : Type 0} (place : Small → Slot) where
  unfoldable pub seen : Event Slot Word → Event Small Word
  seen e = record { word = e.word; own = e.own; gives = λ t. e.gives (place t) }

  seen-judge : (small : List Small) (now : Slot → Value) (e : Event Slot Word)
      → judge small (λ t. now (place t)) (seen e) ≡ judge (map place small) now e
  unfolding judge stuck seen
  seen-judge small now e = rw (
    any_map (λ (s : Slot). fails_with 15 (step (now s) (e.gives s))) place small,
    any_map (λ (s : Slot). fails_with 16 (step (now s) (e.gives s))) place small,
  )

  pub seen_fault : (small : List Small) (now : Slot → Value) (es : List (Event Slot Word))
      → fold_fault small (λ t. now (place t)) (map seen es) ≡ fold_fault (map place small) now es
  unfolding fold_fault seen
  seen_fault small now [] = refl
  seen_fault small now (e ∷ more) = ap (own_here _) (seen_fault small (onward now e) more) ∙ rw (seen-judge small now e)

  pub seen-left : (now : Slot → Value) (es : List (Event Slot Word)) (t : Small)
      → fold_left (λ t. now (place t)) (map seen es) t ≡ fold_left now es (place t)
  unfolding fold_left seen
  seen-left now [] t = refl
  seen-left now (e ∷ more) t = seen-left (onward now e) more t

  pub seen-restricted : (touched : Slot → Bool) (es : List (Event Slot Word))
      → restricted (λ t. touched (place t)) (map seen es) ≡ map seen (restricted touched es)
  unfolding restricted only seen
  seen-restricted touched [] = refl
  seen-restricted touched (e ∷ more) = rw (seen-restricted touched more)

  seen-supply : (es : List (Event Slot Word)) (t : Small) → supply (map seen es) t ≡ supply es (place t)
  unfolding supply any_of seen
  seen-supply [] t = refl
  seen-supply (e ∷ more) t = rw (seen-supply more t)

  seen_words : (es : List (Event Slot Word)) → words_of (map seen es) ≡ words_of es
  unfolding seen
  seen_words [] = refl
  seen_words (e ∷ more) = rw (seen_words more)

-- 2. Events with nothing of their own

module _ {Slot Word : Type 0} where
  lenient-twice : (es : List (Event Slot Word)) → lenient (lenient es) ≡ lenient es
  unfolding lenient
  lenient-twice [] = refl
  lenient-twice (e ∷ more) = rw (lenient-twice more)

  lenient-supply : (es : List (Event Slot Word)) (s : Slot) → supply (lenient es) s ≡ supply es s
  unfolding supply any_of lenient
  lenient-supply [] s = refl
  lenient-supply (e ∷ more) s = rw (lenient-supply more s)

  pub words_lenient : (es : List (Event Slot Word)) → words_of (lenient es) ≡ words_of es
  unfolding lenient
  words_lenient [] = refl
  words_lenient (e ∷ more) = rw (words_lenient more)

  words_restricted : (touched : Slot → Bool) (es : List (Event Slot Word)) → words_of (restricted touched es) ≡ words_of es
  unfolding restricted only
  words_restricted touched [] = refl
  words_restricted touched (e ∷ more) = rw (words_restricted touched more)

  word_answers : (es : List (Event Slot Word)) (v : Slot → Value) (i n : ℕ) (w : Word) → get_elem? (words_of es) i ≡ some w
      → word_answer n (get_elem? es i) v ≡ refused n w
  unfolding word_answer
  word_answers [] v i n w e = absurd (none≢some e)
  word_answers (d ∷ more) v zero n w e = ap (refused n) (some_inj e)
  word_answers (d ∷ more) v (suc i) n w e = word_answers more v i n w e

  supply-within : (slots : List Slot) (es : List (Event Slot Word)) (s : Slot) → Within slots es → supply es s ≡ true → Memᴰ s slots
  unfolding supply Within supplied
  supply-within slots es s w p =
      let (e, m, q) = any_true (λ (e : Event Slot Word). supplied (e.gives s)) es p in
      ⊎_elim (λ x. x) (λ z. clash (rw z at q)) (w e m s)

-- 3. Work sheets

-- a small sheet, and for each of its arcs the number of the sheet's arc that it is
pub record Work : Type 0 where
  pub records : Records
  pub seat : ℕ → ℕ

abbrev pub seated : Work → Slot → Slot
seated w t = record { arc = w.seat t.arc; row = t.row; corner = t.corner }

-- the work sheet of the arcs with these numbers
abbrev no_key_of : Key
no_key_of = record { kind = 0; edge1 = 0; end1 = []; edge2 = 0; end2 = [] }

abbrev pub work_of : Records → List ℕ → Work
work_of records seats = record {
  records = record { instances = records.instances; arcs = map (λ j. get_or records.arcs j no_key_of) seats };
  seat = λ k. get_or seats k (length records.arcs);
}

element : {A : Type 0} (l : List A) (d : A) (j : ℕ) → j < length l → get_elem? l j ≡ some (get_or l j d)
element [] d j h = absurd (omega arith)
element (a ∷ l) d zero h = refl
element (a ∷ l) d (suc j) h = element l d j (omega arith)

beyond : {A : Type 0} (l : List A) → get_elem? l (length l) ≡ none
beyond [] = refl
beyond (a ∷ l) = beyond l

picked : (arcs : List Key) (seats : List ℕ) → ((j : ℕ) → Memᴰ j seats → j < length arcs) → (k : ℕ)
    → get_elem? (map (λ j. get_or arcs j no_key_of) seats) k ≡ get_elem? arcs (get_or seats k (length arcs))
picked arcs [] inside k = sym (beyond arcs)
picked arcs (j ∷ seats) inside zero = sym (element arcs no_key_of j (inside j (Memᴰ.head refl)))
picked arcs (j ∷ seats) inside (suc k) = picked arcs seats (λ i m. inside i (Memᴰ.tail m)) k

-- a number in the list has a seat
seat_in : (seats : List ℕ) (j d : ℕ) → Memᴰ j seats → (k : ℕ) × (k < length seats) × (get_or seats k d ≡ j)
seat_in [] j d m = absurd (Memᴰ.not-nil m)
seat_in (i ∷ seats) j d m = go (seat_in seats j d) (Memᴰ.cases_cons m)
  where
    go : (Memᴰ j seats → (k : ℕ) × (k < length seats) × (get_or seats k d ≡ j)) → (j ≡ i) ⊎ Memᴰ j seats
        → (k : ℕ) × (k < suc (length seats)) × (get_or (i ∷ seats) k d ≡ j)
    go ih (inl p) = (0, omega arith, sym p)
    go ih (inr l) = let (k, h, e) = ih l in (suc k, omega arith, e)

-- an entry gives the work sheet's slots what it gives them on the sheet
abbrev pub Shows : (records : Records) (Word : Type 0) → Work → Type 0
Shows records Word w = (c : Cell Word) (e : Entry Word) (t : Slot) → given w.records c e t ≡ given records c e (seated w t)

module _ (records : Records) {Word : Type 0} where
  -- so it is with the same instances, and the arcs that stand at the seats
  pub shows_arcs : (w : Work) → w.records.instances ≡ records.instances
      → ((k : ℕ) → get_elem? w.records.arcs k ≡ get_elem? records.arcs (w.seat k)) → Shows records Word w
  unfolding given addresses
  shows_arcs w i a c e t = rw (i, a t.arc)

  -- so it is with the work sheet of the arcs with these numbers
  pub work_shows : (seats : List ℕ) → ((j : ℕ) → Memᴰ j seats → j < length records.arcs) → Shows records Word (work_of records seats)
  work_shows seats inside = shows_arcs (work_of records seats) refl (picked records.arcs seats inside)

  module _ (w : Work) (shows : Shows records Word w) where
    work_entries : (c : Cell Word) (l : List (Entry Word))
        → lenient (map (entry_event w.records c) l) ≡ map (seen (seated w)) (lenient (map (entry_event records c) l))
    unfolding lenient seen entry_event
    work_entries c [] = refl
    work_entries c (e ∷ more) = rw (work_entries c more, fun_ext (shows c e))

    work_cell : (c : Cell Word) → lenient (events w.records c) ≡ map (seen (seated w)) (lenient (events records c))
    unfolding events lenient cell_event seen
    work_cell c = rw (work_entries c c.entries)

    work_lenient : (cells : List (Cell Word)) → lenient (file_events w.records cells) ≡ map (seen (seated w)) (lenient (file_events records cells))
    unfolding file_events each lenient
    work_lenient [] = refl
    work_lenient (c ∷ more) = rw (
      lenient-append (events w.records c) (file_events w.records more),
      lenient-append (events records c) (file_events records more),
      work_cell c,
      work_lenient more,
    ) (sym (map-append (seen (seated w)) (lenient (events records c)) (lenient (file_events records more))))

    -- which slots are touched can be asked of the work sheet itself
    pub work_touched : (a b : Cell Word) (t : Slot)
        → affected (events w.records a) (events w.records b) t ≡ affected (events records a) (events records b) (seated w t)
    unfolding affected
    work_touched a b t = rw (one a, one b)
      where
        one : (c : Cell Word) → supply (events w.records c) t ≡ supply (events records c) (seated w t)
        one c = sym (lenient-supply (events w.records c) t) ∙ rw (work_cell c)
            (seen-supply (seated w) (lenient (events records c)) t ∙ lenient-supply (events records c) (seated w t))

  -- 4. Patching

  module _ (p : Cut (Cell Word)) (incoming : Cell Word) where
    -- 'supplied by the outgoing or the incoming cell'; a work sheet's other slots are OUT
    abbrev pub touched : Slot → Bool
    touched = affected (events records p.one) (events records incoming)

    -- what a work sheet goes through: the new file, supplying its touched slots only and refusing nothing of its own
    abbrev pub work_events : Work → List (Event Slot Word)
    work_events w = calmed (λ t. touched (seated w t)) (file_events w.records (swapped p incoming))

    -- every touched slot has a seat on some work sheet
    abbrev pub Covered : List Work → Type 0
    Covered works = (s : Slot) → touched s ≡ true → (w : Work) × Memᴰ w works × ((k : ℕ) × (k < length w.records.arcs) × (w.seat k ≡ s.arc))

    -- so it is where the arc of every touched slot is in some part
    pub parts_cover : (parts : List (List ℕ))
        → ((s : Slot) → touched s ≡ true → (seats : List ℕ) × Memᴰ seats parts × Memᴰ s.arc seats)
        → Covered (map (work_of records) parts)
    parts_cover parts f s t =
        let (seats, m, l) = f s t in
        let (k, h, e) = seat_in seats s.arc (length records.arcs) l in
        (work_of records seats, Memᴰ.map (work_of records) m, (k, rw length-map h, e))

    new-lenient : lenient (file_events records (swapped p incoming)) ≡ lenient (new_events records p incoming)
    unfolding new_events swapped
    new-lenient = rw (file-at records p.before incoming p.after) (simp (lenient-append, lenient-twice))

    work_events_lem : (w : Work) → Shows records Word w → work_events w ≡ map (seen (seated w)) (calmed touched (new_events records p incoming))
    work_events_lem w shows = ap (restricted (λ t. touched (seated w t))) (work_lenient w shows (swapped p incoming) ∙ ap (map (seen (seated w))) new-lenient)
        ∙ seen-restricted (seated w) touched (lenient (new_events records p incoming))

    -- a work sheet's words are the new file's
    pub work_words : (w : Work) → Shows records Word w → words_of (work_events w) ≡ words_of (new_events records p incoming)
    work_words w shows = rw (work_events_lem w shows) (seen_words (seated w) (calmed touched (new_events records p incoming))
        ∙ words_restricted touched (lenient (new_events records p incoming)) ∙ words_lenient (new_events records p incoming))

    -- the slots of a work sheet, as those of the sheet
    abbrev slots_in : Work → List Slot
    slots_in w = map (seated w) (slots_of w.records)

    touched-listed : (s : Slot) → touched s ≡ true → Memᴰ s (slots_of records)
    unfolding affected file_events each
    touched-listed s t = go (supply (events records p.one) s) refl t
      where
        listed : (c : Cell Word) → supply (events records c) s ≡ true → Memᴰ s (slots_of records)
        listed c q = supply-within (slots_of records) (events records c ++ []) s (file-within records (c ∷ [])) (rw append-nil q)

        go : (b : Bool) → supply (events records p.one) s ≡ b → or b (supply (events records incoming) s) ≡ true → Memᴰ s (slots_of records)
        go true q r = listed p.one q
        go false q r = listed incoming r

    -- a slot's seat
    seat_of_lem : (works : List Work) → Covered works → (s : Slot) → touched s ≡ true
        → (w : Work) × Memᴰ w works × ((t : Slot) × Memᴰ t (slots_of w.records) × (seated w t ≡ s))
    seat_of_lem works covered s t =
        let (w, m, (k, h, e)) = covered s t in
        let x : Slot = record { arc = k; row = s.row; corner = s.corner } in
        (w, m, (x, arc-listed w.records x h, ap (λ (a : ℕ). record { arc = a; row = s.row; corner = s.corner }) e))

    module _ (start : Values) where
      -- from the starting values: its first fault, and without one what it is left with
      abbrev pub work_fault : Work → Option Fault
      work_fault w = fold_fault (slots_of w.records) (λ t. start (seated w t)) (work_events w)

      abbrev pub work_left : Work → Slot → Value
      work_left w = fold_left (λ t. start (seated w t)) (work_events w)

      -- the least of the incoming cell's own and of each work sheet's
      abbrev pub least_fault : List Work → Option Fault
      least_fault works = least_of (own_fault (new_events records p incoming)) (map work_fault works)

      -- the touched slots were written from the work sheets, and no others
      pub record Written (works : List Work) (current v : Values) : Type 0 where
        pub others : (s : Slot) → touched s ≡ false → v s ≡ current s
        pub those : (w : Work) → Memᴰ w works → (t : Slot) → Memᴰ t (slots_of w.records) → touched (seated w t) ≡ true
            → v (seated w t) ≡ work_left w t

      work_fault_lem : (w : Work) → Shows records Word w → work_fault w ≡ part_fault touched start (new_events records p incoming) (slots_in w)
      work_fault_lem w shows = rw (work_events_lem w shows) (seen_fault (seated w) (slots_of w.records) start (calmed touched (new_events records p incoming)))

      work_faults : (works : List Work) → ((w : Work) → Memᴰ w works → Shows records Word w)
          → map work_fault works ≡ map (part_fault touched start (new_events records p incoming)) (map slots_in works)
      work_faults [] shows = refl
      work_faults (w ∷ more) shows = rw (work_fault_lem w (shows w (Memᴰ.head refl)), work_faults more (λ x m. shows x (Memᴰ.tail m)))

      module _ (cells : List (Cell Word)) (k : ℕ) (origin : Word) (current : Values) (is : cut cells k ≡ some p) (works : List Work)
          (shows : (w : Work) → Memᴰ w works → Shows records Word w) (covered : Covered works) where
        -- the answer
        pub patch-by-parts : patch records start cells k origin incoming current
            ≡ fault_answer (new_events records p incoming) (λ s. pick (touched s) (final (history (holds (start s)) (new_events records p incoming) s)) (current s))
            (least_fault works)
        unfolding patch patch_cut patched new_events
        patch-by-parts = rw (is, work_faults works shows) (outcome-by-parts touched start (new_events records p incoming) (slots_of records) _ (map slots_in works)
            (new_low records p incoming) (λ s t. (touched-listed s t, covers s t)))
          where
            covers : (s : Slot) → touched s ≡ true → (part : List Slot) × Memᴰ part (map slots_in works) × Memᴰ s part
            covers s t =
                let (w, m, (x, y, e)) = seat_of_lem works covered s t in
                (slots_in w, Memᴰ.map slots_in m, (rw e at (Memᴰ.map (seated w) y)))

        -- A REFUSAL: the least fault, at its event's word
        pub patch_refused : (f : Fault) (w : Word) → least_fault works ≡ some f → get_elem? (words_of (new_events records p incoming)) f.event ≡ some w
            → patch records start cells k origin incoming current ≡ refused f.number w
        unfolding fault_answer
        patch_refused f w e q = patch-by-parts ∙ rw e (word_answers (new_events records p incoming) _ f.event f.number w q)

        -- NO FAULT: whatever holds what the work sheets are left with in the touched slots, and else the current values
        pub patch-done : (v : Values) → least_fault works ≡ none → Written works current v → patch records start cells k origin incoming current ≡ sheet v
        unfolding fault_answer
        patch-done v e wrote = patch-by-parts ∙ rw e (ap sheet (fun_ext (λ s. go s (touched s) refl)))
          where
            go : (s : Slot) (b : Bool) → touched s ≡ b
                → pick b (final (history (holds (start s)) (new_events records p incoming) s)) (current s) ≡ v s
            go s false t = sym (wrote.others s t)
            go s true t =
                let (w, m, (x, y, q)) = seat_of_lem works covered s t in
                let t' = rw (← q) at t in
                let calm = sym (work_fault_lem w (shows w m)) ∙ (least-none _ _ e).1 (work_fault w) (Memᴰ.map work_fault m) in
                rw (← q) (sym (wrote.those w m x y t' ∙ ap (λ (es : List (Event Slot Word)). fold_left (λ t. start (seated w t)) es x) (work_events_lem w (shows w m))
                ∙ seen-left (seated w) start (calmed touched (new_events records p incoming)) x
                ∙ part_left touched start (new_events records p incoming) (slots_in w) (seated w x) (Memᴰ.map (seated w) y) t' calm))
