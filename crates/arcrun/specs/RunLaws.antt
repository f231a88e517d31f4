-- The slots of one arc, run through the entries of one cell, keep to the history: one entry, one event more, and the loop.
-- Assumes nothing.
use Rattle.std.specs.Prelude.{ℕ, zero, suc, ◌+◌, ◌*◌, ◌<◌, ◌≡◌, Bool, not, eqb, take, drop}
use Rattle.std.proofs.Math.Path.{refl, sym}
use Rattle.std.proofs.Common.{ap, ◌∙◌, arith, add-zero, zero-add, take_all}
use Rattle.std.proofs.Math.Bool.{true, false}
use mathlib.Core.List.Memᴰ
use mathlib.Core.List.{List, [], ◌∷◌, ◌++◌, map, Memᴰ}
use Rattle.std.proofs.Math.Option.{none, some}
use Rattle.std.proofs.Math.Logic.{⊎_elim}
use Rattle.std.proofs.Math.ListN.{length, get_or, get_elem?}
use Rattle.std.proofs.lemmas.List.{length-map}
use Rattle.std.proofs.Math.Seq.{length-take-le}
use borrow.Author.Tests.{eqb-true, eq-eqb, ne_eqb}
use Rattle.classes.specs.Choice.{pick, and}
use Rattle.wire.specs.Wire.{Bytes}
use Rattle.sheetparts.specs.Form.{Good, check_of}
use Rattle.sheetlaws.specs.Sheet.{place}
use Rattle.grammar.specs.Meaning.{Item}
use Rattle.meant.specs.Sound.{SoundItem}
use Rattle.tables.specs.Layout.{entry_row}
use Rattle.meant.specs.Amounts.{expanded, arc_refusal, arc_written}
use Rattle.meant.specs.Expand.{amount_in_range}
use Rattle.meant.specs.Laws.{first_of}
use Rattle.history.specs.Events.{Value, nothing, step, final, fails_with, any_of, Event}
use Rattle.history.proofs.EventLaws.{any_cong, any_false, clash, none≢some}
use Rattle.history.specs.Faults.{later}
use Rattle.history.specs.Ranges.{InRange, Fits}
use Rattle.history.specs.Sheet.{Group, absolute, increment, check, Slot, Values, Cell, arc_slots, addresses, entry_event, giving, each}
use Rattle.meant.specs.Slots.{slot_at}
use Rattle.meant.specs.Says.{group_of, entry_of}
use Rattle.meant.specs.Judged.{supply, arc_is, given_is}
use Rattle.meant.specs.Rows.{EntryIs, head_is, item-expanded, timely}
use Rattle.meant.specs.Instances.{records_at}
use Rattle.meant.specs.WhomType.{Whom}
use Rattle.meant.specs.WhomType.TheVariants.{One, Every, Nobody}
use Rattle.meant.specs.CellList.{each_at}
use Rattle.meant.specs.Entries.{rows_at, no_item, EntriesAre}
use Rattle.meant.specs.Where.{Where, at}
use Rattle.meant.specs.Group.{fails_here, number_here, stepped, group_fault, group_left}
use Rattle.meant.specs.GroupLaws.{shifted, left-append, fault_append-none, fault_append-some, quiet, quiet_stepped, group_in_range}
use Rattle.meant.specs.Scratch.{masked, Holds18, Flags, scratch_refusal, scratch_written}
use Rattle.meant.specs.Meant.{meant-one, meant-every, meant-none}
use Rattle.arcrun.specs.declared.Least.{Least}
use Rattle.arcrun.specs.declared.Least.TheVariants as least
use Rattle.meant.specs.Touch.{meant_for}
use Rattle.arcrun.specs.Run.{entry_number, entry_state, Ran, Of, EntriesRan}

-- 1. The slots of an arc, and what its 144 bytes hold

-- none is another's
no_others : (j : ℕ) → any_of (λ (u : Slot). not (eqb u.arc j)) (arc_slots j) ≡ false
unfolding any_of arc_slots each
no_others j = rw (eq-eqb j j refl)

-- they are the arc's
pub arc_of_lem : (j : ℕ) (t : Slot) → Memᴰ t (arc_slots j) → t.arc ≡ j
arc_of_lem j t l = by (eqb t.arc j) refl
  where
    by : (y : Bool) → eqb t.arc j ≡ y → t.arc ≡ j
    by true p = eqb-true t.arc j p
    by false p = clash (sym (any_false (λ (u : Slot). not (eqb u.arc j)) (arc_slots j) t (no_others j) l) ∙ rw p)

-- only the values of its own slots stand there
pub held_same : (st : List ℕ) (j : ℕ) (v w : Values) → Holds18 st j v → ((t : Slot) → t.arc ≡ j → v t ≡ w t) → ((t : Slot) → InRange (w t))
    → Holds18 st j w
unfolding slot_at
held_same st j v w h s f = record { size = h.size; words = λ i l. h.words i l ∙ rw (s (slot_at j i) refl); fine = f }

-- what is given from a number in range is in range
giving-fits : (g : Group) (v : Value) → InRange v → Fits (giving g v)
unfolding giving
giving-fits g none r = tt
giving-fits absolute (some z) r = r
giving-fits increment (some z) r = tt
giving-fits check (some z) r = r

module _ (j : ℕ) (touched : Slot → Bool) where
  -- the values behind an event that gives times in range
  pub stepped_fine : (now : Values) (e : Event Slot Where) → ((t : Slot) → Fits (e.gives t)) → ((t : Slot) → InRange (now t))
      → (t : Slot) → InRange (stepped (arc_slots j) touched now e t)
  unfolding group_left
  stepped_fine now e f r t =
      group_in_range (arc_slots j) touched now (e ∷ []) t
      (λ d m. ⊎_elim (λ p. rw p (f t)) (λ k. absurd (Memᴰ.not-nil k)) (Memᴰ.cases_cons m)) (r t)

module _ (b : List ℕ) (bytes : Bytes b) (n m f : ℕ) (good : check_of b ≡ Good n m f) (text : List ℕ) (slash side : Bool) (j : ℕ) (inside : j < m) where
  -- 2. Which entries mean the arc, and what they give it

  -- the history's word on it
  abbrev means : Cell Where → Item → Bool
  means c i = arc_is (records_at b n m f) (addresses (records_at b n m f) c (entry_of (at side) text slash i)) j

  -- and the program's
  pub meant_for_lem : (whom : Whom) (c : Cell Where) (i : Item) → Of b n m f whom c
      → meant_for b text slash n i.head whom c.type (place b j f) ≡ means c i
  unfolding meant_for
  meant_for_lem (One p) c i w =
      rw w.2 (meant-one b bytes n m f good text slash (at side) i c w.0 w.1 (rw w.2 at w.3) (rw w.2 at w.4) j inside)
  meant_for_lem Every c i w = meant-every b bytes n m f good text slash (at side) i c w j inside
  meant_for_lem (Nobody x) c i w = sym (meant-none (records_at b n m f) c (entry_of (at side) text slash i) x w j)

  -- the entry's event
  abbrev pub event_of : Cell Where → Item → Event Slot Where
  event_of c i = entry_event (records_at b n m f) c (entry_of (at side) text slash i)

  pub gives_is : (c : Cell Where) (i : Item) (t : Slot) → t.arc ≡ j
      → (event_of c i).gives t ≡ pick (means c i) (supply (entry_of (at side) text slash i) t) nothing
  unfolding entry_event
  gives_is c i t e = rw (given_is (records_at b n m f) c (entry_of (at side) text slash i) t, e)

  -- all times that it gives are in range
  pub gives_fits : (c : Cell Where) (i : Item) → SoundItem i → (t : Slot) → Fits ((event_of c i).gives t)
  unfolding entry_event supply entry_of
  gives_fits c i s t =
      rw (given_is (records_at b n m f) c (entry_of (at side) text slash i) t)
      (by (arc_is (records_at b n m f) (addresses (records_at b n m f) c (entry_of (at side) text slash i)) t.arc))
    where
      by : (y : Bool) → Fits (pick y (supply (entry_of (at side) text slash i) t) nothing)
      by true =
          giving-fits (group_of i.head.group) _
          (amount_in_range (group_of i.head.group) i.values (timely i.values s.values) t.row t.corner)
      by false = tt

  -- 3. One entry

  module _ (touched : Slot → Bool) where
    -- an entry that means the arc fails where its numbers do
    number-meant : (c : Cell Where) (i : Item) (now : Values) → means c i ≡ true
        → number_here (arc_slots j) touched now (event_of c i)
        ≡ first_of false (any_of (λ (t : Slot). and (touched t) (fails_with 15 (step (now t) (supply (entry_of (at side) text slash i) t)))) (arc_slots j))
        (any_of (λ (t : Slot). and (touched t) (fails_with 16 (step (now t) (supply (entry_of (at side) text slash i) t)))) (arc_slots j))
    unfolding number_here fails_here
    number-meant c i now p = rw (alike 15, alike 16)
      where
        alike : (x : ℕ) → fails_here (arc_slots j) touched x now (event_of c i)
            ≡ any_of (λ (t : Slot). and (touched t) (fails_with x (step (now t) (supply (entry_of (at side) text slash i) t)))) (arc_slots j)
        alike x = any_cong _ _ (arc_slots j) (λ t l. rw (gives_is c i t (arc_of_lem j t l), p))

    stepped-meant : (c : Cell Where) (i : Item) (now : Values) → means c i ≡ true → (u : Slot) → u.arc ≡ j
        → stepped (arc_slots j) touched now (event_of c i) u
        ≡ pick (touched u) (final (step (now u) (supply (entry_of (at side) text slash i) u))) (now u)
    unfolding stepped
    stepped-meant c i now p u e = rw (gives_is c i u e, p)

    module _ (t : List ℕ) (row : ℕ) (i : Item) (r : EntryIs t row i) (s : SoundItem i) (c : Cell Where) (whom : Whom) (w : Of b n m f whom c)
        (flags : List ℕ) (g : Flags flags j touched) (st : List ℕ) (now : Values) (h : Holds18 st j now) where
      -- the expanded list, with nothing for the slots that are not touched
      abbrev list : List (List ℕ)
      list = masked (expanded t (row + 10) (eqb i.head.group 84) (get_or t (row + 9) 0)) flags

      -- its refusal is the history's
      pub entry-number : entry_number b text slash n t row whom c.type (place b j f) flags st ≡ number_here (arc_slots j) touched now (event_of c i)
      unfolding entry_number rows_at
      entry-number = rw (head_is t row i r s, meant_for_lem whom c i w) (by (means c i) refl)
        where
          by : (y : Bool) → means c i ≡ y → pick y (arc_refusal st 0 list (eqb i.head.group 73) 18) 0 ≡ number_here (arc_slots j) touched now (event_of c i)
          by true p = scratch_refusal (item-expanded (at side) text slash t row i r s) h g ∙ sym (number-meant c i now p)
          by false p = sym (quiet (arc_slots j) touched now (event_of c i) (λ u l. rw (gives_is c i u (arc_of_lem j u l), p)))

      -- and so is what it leaves
      pub entry-state : entry_number b text slash n t row whom c.type (place b j f) flags st ≡ 0
          → Holds18 (entry_state b text slash n t row whom c.type (place b j f) flags st) j (stepped (arc_slots j) touched now (event_of c i))
      unfolding entry_number entry_state rows_at
      entry-state z = rw (head_is t row i r s, meant_for_lem whom c i w) (by (means c i) refl (rw (head_is t row i r s, meant_for_lem whom c i w) at z))
        where
          after : Values
          after = stepped (arc_slots j) touched now (event_of c i)

          fine : (u : Slot) → InRange (after u)
          fine = stepped_fine j touched now (event_of c i) (gives_fits c i s) h.fine

          by : (y : Bool) → means c i ≡ y → pick y (arc_refusal st 0 list (eqb i.head.group 73) 18) 0 ≡ 0
              → Holds18 (pick y (pick (eqb (arc_refusal st 0 list (eqb i.head.group 73) 18) 0) (arc_written st 0 list (eqb i.head.group 73) 18) st) st) j after
          by true p z =
              rw z (held_same _ j _ after (scratch_written (item-expanded (at side) text slash t row i r s) h g z) (λ u e. written u e) fine)
            where
              written : (u : Slot) → u.arc ≡ j
                  → pick (and (eqb u.arc j) (touched u)) (final (step (now u) (supply (entry_of (at side) text slash i) u))) (now u) ≡ after u
              written u e = rw (eq-eqb u.arc j e) (sym (stepped-meant c i now p u e))
          by false p z = held_same st j now after h (λ u e. sym (quiet_stepped (arc_slots j) touched now (event_of c i) u (rw (gives_is c i u e, p)))) fine

-- 4. What was run through, and more behind it

-- an element of the first part, and of the second
there_left : {A : Type 0} (xs ys : List A) (i : ℕ) (a : A) → get_elem? xs i ≡ some a → get_elem? (xs ++ ys) i ≡ some a
there_left [] ys i a e = absurd (none≢some e)
there_left (x ∷ xs) ys zero a e = e
there_left (x ∷ xs) ys (suc i) a e = there_left xs ys i a e

there_right : {A : Type 0} (xs ys : List A) (i : ℕ) → get_elem? (xs ++ ys) (length xs + i) ≡ get_elem? ys i
there_right [] ys i = rw zero-add
there_right (x ∷ xs) ys i = let z : suc (length xs) + i ≡ suc (length xs + i) = omega arith in rw z (there_right xs ys i)

module _ (j : ℕ) (touched : Slot → Bool) where
  -- what the touched slots come to
  abbrev left : Values → List (Event Slot Where) → Values
  left = group_left (arc_slots j) touched

  -- no events
  pub ran_none : (now : Values) (event : ℕ) (st : List ℕ) → Holds18 st j now → Ran j touched now [] event st least.Nothing
  unfolding group_fault group_left
  ran_none now event st h = (refl, h)

  -- one event that is let pass
  pub ran_one : (now : Values) (e : Event Slot Where) (event : ℕ) (st : List ℕ) → number_here (arc_slots j) touched now e ≡ 0
      → Holds18 st j (stepped (arc_slots j) touched now e) → Ran j touched now (e ∷ []) event st least.Nothing
  unfolding group_fault group_left later
  ran_one now e event st z h = (rw z, h)

  -- two parts, the first without a fault
  pub ran_on : (now : Values) (xs ys : List (Event Slot Where)) (event : ℕ) (st st' : List ℕ) (r : Least)
      → Ran j touched now xs event st least.Nothing → Ran j touched (group_left (arc_slots j) touched now xs) ys (event + length xs) st' r
      → Ran j touched now (xs ++ ys) event st' r
  unfolding shifted
  ran_on now xs ys event st st' least.Nothing a v =
      (fault_append-none (arc_slots j) touched now xs ys a.0 ∙ rw v.0, rw (left-append (arc_slots j) touched now xs ys) v.1)
  ran_on now xs ys event st st' (least.Fault ev x p s) a v = (
    length xs + v.0,
    (let z = v.1 in omega arith),
    fault_append-none (arc_slots j) touched now xs ys a.0 ∙ rw v.2,
    (v.3.0, there_right xs ys v.0 ∙ v.3.1, v.3.2),
  )

  -- one event more
  pub ran_more : (now : Values) (es : List (Event Slot Where)) (e : Event Slot Where) (event : ℕ) (st st' : List ℕ)
      → Ran j touched now es event st least.Nothing → number_here (arc_slots j) touched (group_left (arc_slots j) touched now es) e ≡ 0
      → Holds18 st' j (stepped (arc_slots j) touched (group_left (arc_slots j) touched now es) e) → Ran j touched now (es ++ (e ∷ [])) event st' least.Nothing
  ran_more now es e event st st' a z h =
      ran_on now es (e ∷ []) event st st' least.Nothing a (ran_one (left now es) e (event + length es) st' z h)

  -- one that is refused, whatever follows
  pub ran_stop : (now : Values) (es rest : List (Event Slot Where)) (e : Event Slot Where) (event : ℕ) (st st' : List ℕ) (x place : ℕ) (side : Bool)
      → Ran j touched now es event st least.Nothing → number_here (arc_slots j) touched (group_left (arc_slots j) touched now es) e ≡ x → (x ≡ 0 → ⊥)
      → e.word ≡ at side place → Ran j touched now (es ++ (e ∷ rest)) event st' (least.Fault (event + length es) x place side)
  unfolding group_fault
  ran_stop now es rest e event st st' x place side a q y w =
      ran_on now es (e ∷ rest) event st st' (least.Fault (event + length es) x place side) a
      (0, sym (add-zero (event + length es)), rw (q, ne_eqb x 0 y), (e, refl, w))

  -- a fault stays what it is, whatever follows
  pub ran_stopped : (now : Values) (xs ys : List (Event Slot Where)) (event : ℕ) (st st' : List ℕ) (ev x place : ℕ) (side : Bool)
      → Ran j touched now xs event st (least.Fault ev x place side) → Ran j touched now (xs ++ ys) event st' (least.Fault ev x place side)
  ran_stopped now xs ys event st st' ev x place side v = (
    v.0,
    v.1,
    fault_append-some (arc_slots j) touched now xs ys _ v.2,
    (v.3.0, there_left xs ys v.0 v.3.0 v.3.1, v.3.2),
  )

-- 5. The loop over a cell's entries

module _ (b text : List ℕ) (slash : Bool) (n m f : ℕ) (side : Bool) where
  -- the events of a cell's entries
  abbrev pub entries_of : Cell Where → List Item → List (Event Slot Where)
  entries_of c is = map (entry_event (records_at b n m f) c) (map (entry_of (at side) text slash) is)

  -- entry number k among them
  pub events-at : (c : Cell Where) (is : List Item) (k : ℕ) → k < length is
      → entries_of c is ≡ entries_of c (take k is)
      ++ (entry_event (records_at b n m f) c (entry_of (at side) text slash (get_or is k no_item)) ∷ entries_of c (drop (suc k) is))
  events-at c [] k h = absurd (omega arith)
  events-at c (i ∷ is) zero h = refl
  events-at c (i ∷ is) (suc k) h =
      ap (λ l. entry_event (records_at b n m f) c (entry_of (at side) text slash i) ∷ l) (events-at c is k (omega arith))

  events-next : (c : Cell Where) (is : List Item) (k : ℕ) → k < length is
      → entries_of c (take (suc k) is)
      ≡ entries_of c (take k is) ++ (entry_event (records_at b n m f) c (entry_of (at side) text slash (get_or is k no_item)) ∷ [])
  events-next c [] k h = absurd (omega arith)
  events-next c (i ∷ is) zero h = refl
  events-next c (i ∷ is) (suc k) h =
      ap (λ l. entry_event (records_at b n m f) c (entry_of (at side) text slash i) ∷ l) (events-next c is k (omega arith))

  -- each entry has one
  pub entries_length : (c : Cell Where) (is : List Item) → length (entries_of c is) ≡ length is
  entries_length c is =
      length-map (map (entry_of (at side) text slash) is) (entry_event (records_at b n m f) c) ∙ length-map is (entry_of (at side) text slash)

  module _ (t : List ℕ) (first count : ℕ) (whom : Whom) (type : List ℕ) (q : ℕ) (flags st : List ℕ) (event : ℕ) where
    -- the first k entries were run through
    abbrev pub RunSoFar : ℕ → List ℕ → Type 0
    RunSoFar k o =
        Bytes b → check_of b ≡ Good n m f → (j : ℕ) → j < m → q ≡ place b j f → (touched : Slot → Bool) → Flags flags j touched
        → (c : Cell Where) (is : List Item) (now : Values) → EntriesAre t first count is → c.type ≡ type → Of b n m f whom c → Holds18 st j now
        → Ran j touched now (map (entry_event (records_at b n m f) c) (map (entry_of (at side) text slash) (take k is))) event o least.Nothing

    pub run_none : RunSoFar 0 st
    run_none bytes good j l e touched g c is now a ty w h = ran_none j touched now event st h

    pub run_more : (k : ℕ) (o o' : List ℕ) → k < count → RunSoFar k o
        → entry_number b text slash n t (28 * (first + k)) whom type q flags o ≡ 0
        → o' ≡ entry_state b text slash n t (28 * (first + k)) whom type q flags o → RunSoFar (suc k) o'
    run_more k o o' d so z u bytes good j l e touched g c is now a ty w h =
        let x : k < length is = rw a.0 d in
        let i = get_or is k no_item in
        let r = a.1 k d in
        let s = each_at SoundItem is no_item a.2 k x in
        let was = so bytes good j l e touched g c is now a ty w h in
        let then = group_left (arc_slots j) touched now (entries_of c (take k is)) in
        let y = rw (e, ← ty) at z in
        rw (events-next c is k x)
        (ran_more j touched now (entries_of c (take k is)) _ event o o' was
        (sym (entry-number b bytes n m f good text slash side j l touched t (28 * (first + k)) i r s c whom w flags g o then was.1) ∙ y)
        (rw (u, e, ← ty) (entry-state b bytes n m f good text slash side j l touched t (28 * (first + k)) i r s c whom w flags g o then was.1 y)))

    -- the place of entry number k's keyword
    place_at : (is : List Item) → EntriesAre t first count is → (k : ℕ) → k < count → get_or t (28 * (first + k) + 2) 0 ≡ (get_or is k no_item).head.place
    unfolding entry_row
    place_at is a k d = a.1 k d 2 (omega arith)

    pub run-stop : (k : ℕ) (o o' : List ℕ) (x : ℕ) → k < count → RunSoFar k o
        → x ≡ entry_number b text slash n t (28 * (first + k)) whom type q flags o → (x ≡ 0 → ⊥)
        → EntriesRan b text slash n m f side t first count whom type q flags st o' event
        (least.Fault (event + k) x (get_or t (28 * (first + k) + 2) 0) side)
    unfolding entry_event entry_of
    run-stop k o o' x d so z y bytes good j l e touched g c is now a ty w h =
        let v : k < length is = rw a.0 d in
        let i = get_or is k no_item in
        let s = each_at SoundItem is no_item a.2 k v in
        let was = so bytes good j l e touched g c is now a ty w h in
        let then = group_left (arc_slots j) touched now (entries_of c (take k is)) in
        let p : length (entries_of c (take k is)) ≡ k = entries_length c (take k is) ∙ length-take-le k is (omega arith) in
        let u = sym (entry-number b bytes n m f good text slash side j l touched t (28 * (first + k)) i (a.1 k d) s c whom w flags g o then was.1)
        ∙ (rw (e, ← ty) at (sym z)) in
        rw (events-at c is k v)
        (rw p at (ran_stop j touched now (entries_of c (take k is)) (entries_of c (drop (suc k) is)) (entry_event (records_at b n m f) c (entry_of (at side) text slash i))
        event o o' x (get_or t (28 * (first + k) + 2) 0) side was u y (rw (place_at is a k d))))

    pub run_end : (o : List ℕ) → RunSoFar count o → EntriesRan b text slash n m f side t first count whom type q flags st o event least.Nothing
    run_end o so bytes good j l e touched g c is now a ty w h =
        rw (take_all count is (omega (arith, a.0))) at (so bytes good j l e touched g c is now a ty w h)
