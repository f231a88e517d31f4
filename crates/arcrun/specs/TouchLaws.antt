-- The flags of one arc's slots are those of the slots that the entries of two cells supply.
-- Assumes nothing.
use Prim.Native.Nat.{ℕ, zero, suc, ◌+◌, ◌-◌, ◌*◌, ◌<◌, ◌≤◌}
use Rattle.std.specs.Prelude.{◌≡◌, refl, Bool, not, List, [], ◌∷◌, ◌++◌, map, eqb, take, drop, replicate}
use Rattle.std.proofs.Math.Path.{sym}
use Rattle.std.proofs.Common.{ap, ◌∙◌, arith, length-append, length-drop, take_all, length-take-le, eq-eqb}
use Rattle.std.proofs.Math.Bool.{true, false}
use Rattle.std.proofs.Math.ListN.{length, get_or}
use Rattle.std.proofs.lemmas.List.{length-replicate, get_or-replicate, length-map}
use Rattle.classes.specs.Choice.{pick, and, or}
use Rattle.wire.specs.Wire.{Bytes}
use Rattle.grammar.specs.declared.Cell as read
use Rattle.grammar.specs.Meaning.{Item}
use Rattle.meant.specs.Sound.{SoundItem, total}
use Rattle.sheetparts.specs.Form.{Good, check_of}
use Rattle.sheetlaws.specs.Sheet.{place}
use Rattle.views.specs.Views.{head_at}
use Rattle.history.specs.Events.{Supply, nothing, supplied, any_of, Event, affected}
use Rattle.history.specs.Events as some-event
use Rattle.history.specs.Sheet.{Records, Slot, Entry, Cell, each, addresses, cell_event, entry_event, events, file_events}
use Rattle.meant.specs.Slots.{slot_at}
use Rattle.meant.specs.Amounts.{expanded}
use Rattle.meant.specs.Says.{entry_of, cell_of, cells_of}
use Rattle.meant.specs.Judged.{any_append, arc_is, supply, given_is}
use Rattle.meant.specs.Rows.{EntryIs, head_is, item-expanded}
use Rattle.meant.specs.Instances.{records_at}
use Rattle.meant.specs.WhomType.{Whom}
use Rattle.meant.specs.WhomType.TheVariants.{One, Every, Nobody}
use Rattle.meant.specs.Entries.{rows_at, no_item, EntriesAre}
use Rattle.meant.specs.CellList.{each_at, before}
use Rattle.meant.specs.Where.{Where, at}
use Rattle.meant.specs.Meant.{meant-none, meant-one, meant-every}
use Rattle.meant.specs.Scratch.{Flags, touched_flags, touch_flags}
use Rattle.meant.specs.Own.{length-events}
use Rattle.meant.specs.Touch.{meant_for, entries_touched}
use Rattle.arcrun.specs.Run.{Of}

-- 1. One entry

or-false : (b : Bool) → or b false ≡ b
or-false true = refl
or-false false = refl

or_assoc : (a b c : Bool) → or (or a b) c ≡ or a (or b c)
or_assoc true b c = refl
or_assoc false b c = refl

-- flags are those of the arc's slots alone
pub flags_same : (flags : List ℕ) (j : ℕ) (touched other : Slot → Bool) → Flags flags j touched
    → ((i : ℕ) → i < 18 → touched (slot_at j i) ≡ other (slot_at j i)) → Flags flags j other
flags_same flags j touched other g h = record { count = g.count; flag = λ i l. g.flag i l ∙ ap not (h i l) }

-- what it gives, if it does
given-supplied : (b : Bool) (x : Supply) → supplied (pick b x nothing) ≡ and b (supplied x)
unfolding supplied
given-supplied true x = refl
given-supplied false x = refl

-- some event of a list in two parts supplies the slot
pub supply-append : {Word : Type 0} (xs ys : List (Event Slot Word)) (s : Slot)
    → some-event.supply (xs ++ ys) s ≡ or (some-event.supply xs s) (some-event.supply ys s)
unfolding some-event.supply
supply-append xs ys s = any_append _ xs ys

pub supply-one : {Word : Type 0} (e : Event Slot Word) (s : Slot) → some-event.supply (e ∷ []) s ≡ supplied (e.gives s)
unfolding some-event.supply any_of
supply-one e s = or-false (supplied (e.gives s))

module _ (b : List ℕ) (bytes : Bytes b) (n m f : ℕ) (good : check_of b ≡ Good n m f) (text : List ℕ) (slash side : Bool) (j : ℕ) (j-below : j < m) where
  -- the program's question is whether the entry addresses the arc
  pub meant_for_lem : (i : Item) (c : Cell Where) (whom : Whom) → Of b n m f whom c
      → meant_for b text slash n i.head whom c.type (place b j f)
      ≡ arc_is (records_at b n m f) (addresses (records_at b n m f) c (entry_of (at side) text slash i)) j
  unfolding meant_for
  meant_for_lem i c (One p) w =
      rw w.2 (meant-one b bytes n m f good text slash (at side) i c w.0 w.1 (rw w.2 at w.3) (rw w.2 at w.4) j j-below)
  meant_for_lem i c Every w = meant-every b bytes n m f good text slash (at side) i c w j j-below
  meant_for_lem i c (Nobody x) w = sym (meant-none (records_at b n m f) c (entry_of (at side) text slash i) x w j)

  -- the events of a cell's entries
  abbrev pub entry_events : Cell Where → List Item → List (Event Slot Where)
  entry_events c is = map (entry_event (records_at b n m f) c) (map (entry_of (at side) text slash) is)

  -- what an entry supplies to a slot
  entry-supplies : (c : Cell Where) (i : Item) (s : Slot)
      → supplied ((entry_event (records_at b n m f) c (entry_of (at side) text slash i)).gives s)
      ≡ and (arc_is (records_at b n m f) (addresses (records_at b n m f) c (entry_of (at side) text slash i)) s.arc)
      (supplied (supply (entry_of (at side) text slash i) s))
  unfolding entry_event
  entry-supplies c i s =
      rw (given_is (records_at b n m f) c (entry_of (at side) text slash i) s)
      (given-supplied (arc_is (records_at b n m f) (addresses (records_at b n m f) c (entry_of (at side) text slash i)) s.arc)
      (supply (entry_of (at side) text slash i) s))

  -- an entry touches what it supplies; one that does not mean the arc supplies nothing there
  pub entry-touched : (t : List ℕ) (row : ℕ) (i : Item) → EntryIs t row i → SoundItem i → (c : Cell Where) (whom : Whom) → Of b n m f whom c
      → (flags : List ℕ) (touched : Slot → Bool) → Flags flags j touched
      → Flags (pick (meant_for b text slash n (head_at t row) whom c.type (place b j f)) (touched_flags flags (rows_at t row) 18) flags) j
      (λ s. or (touched s) (supplied ((entry_event (records_at b n m f) c (entry_of (at side) text slash i)).gives s)))
  unfolding rows_at slot_at
  entry-touched t row i r sound c whom w flags touched g =
      rw (head_is t row i r sound, meant_for_lem i c whom w)
      (by (arc_is (records_at b n m f) (addresses (records_at b n m f) c (entry_of (at side) text slash i)) j) refl)
    where
      e : Entry Where
      e = entry_of (at side) text slash i

      rows : List (List ℕ)
      rows = expanded t (row + 10) (eqb i.head.group 84) (get_or t (row + 9) 0)

      by : (y : Bool) → arc_is (records_at b n m f) (addresses (records_at b n m f) c e) j ≡ y
          → Flags (pick y (touched_flags flags rows 18) flags) j (λ s. or (touched s) (supplied ((entry_event (records_at b n m f) c e).gives s)))
      by true q =
          flags_same (touched_flags flags rows 18) j _ _ (touch_flags (item-expanded (at side) text slash t row i r sound) g)
          (λ k l. rw (entry-supplies c i (slot_at j k), q, eq-eqb j j refl))
      by false q = flags_same flags j _ _ g (λ k l. rw (entry-supplies c i (slot_at j k), q) (sym (or-false (touched (slot_at j k)))))

  -- 2. The entries of a cell

  -- entry number k is next among the events
  pub events-next : (c : Cell Where) (is : List Item) (k : ℕ) → k < length is
      → entry_events c (take (suc k) is)
      ≡ entry_events c (take k is) ++ (entry_event (records_at b n m f) c (entry_of (at side) text slash (get_or is k no_item)) ∷ [])
  events-next c [] k l = absurd (omega arith)
  events-next c (i ∷ is) zero l = refl
  events-next c (i ∷ is) (suc k) l = ap (λ es. entry_event (records_at b n m f) c (entry_of (at side) text slash i) ∷ es) (events-next c is k (omega arith))

  module _ (t : List ℕ) (first count : ℕ) (whom : Whom) (c : Cell Where) (w : Of b n m f whom c) (is : List Item) (a : EntriesAre t first count is)
      (flags : List ℕ) (touched : Slot → Bool) (g : Flags flags j touched) where
    -- the first k of them
    pub entries_so_far_lem : (k : ℕ) → k ≤ count
        → Flags (entries_touched b text slash n t first whom c.type (place b j f) flags k) j
        (λ s. or (touched s) (some-event.supply (entry_events c (take k is)) s))
    unfolding entries_touched some-event.supply any_of
    entries_so_far_lem zero l = flags_same flags j _ _ g (λ i h. sym (or-false (touched (slot_at j i))))
    entries_so_far_lem (suc k) l =
        let h : k < length is = (let z = a.0 in omega arith) in
        let i = get_or is k no_item in
        let e = entry_event (records_at b n m f) c (entry_of (at side) text slash i) in
        flags_same _ j _ _
        (entry-touched t (28 * (first + k)) i (a.1 k (omega arith)) (each_at SoundItem is no_item a.2 k h) c whom w _ _ (entries_so_far_lem k (omega arith)))
        (λ x y. rw (events-next c is k h, supply-append (entry_events c (take k is)) (e ∷ []) (slot_at j x), supply-one e (slot_at j x))
        (or_assoc (touched (slot_at j x)) (some-event.supply (entry_events c (take k is)) (slot_at j x)) (supplied (e.gives (slot_at j x)))))

    -- all of them
    pub entries_touched_lem : Flags (entries_touched b text slash n t first whom c.type (place b j f) flags count) j
        (λ s. or (touched s) (some-event.supply (entry_events c is) s))
    entries_touched_lem = rw (take_all count is (omega (arith, a.0))) at (entries_so_far_lem count (omega arith))

-- 3. No flags, and those of two cells

pub no_flags : (j : ℕ) → Flags (replicate 18 0) j (λ s. false)
no_flags j = record { count = length-replicate {A = ℕ} 18 0; flag = λ i l. rw (get_or-replicate {A = ℕ} 18 i 0 0 l) }

-- the keyword supplies nothing
pub supply-cell : (records : Records) {Word : Type 0} (c : Cell Word) (s : Slot)
    → some-event.supply (events records c) s ≡ some-event.supply (map (entry_event records c) c.entries) s
unfolding some-event.supply any_of events cell_event supplied
supply-cell records c s = refl

pub supply-events : (records : Records) {Word : Type 0} (word : ℕ → Word) (text : List ℕ) (slash : Bool) (cell : read.Cell) (is : List Item) (s : Slot)
    → some-event.supply (events records (cell_of word text slash cell is)) s
    ≡ some-event.supply (map (entry_event records (cell_of word text slash cell is)) (map (entry_of word text slash) is)) s
unfolding cell_of
supply-events records word text slash cell is s = supply-cell records (cell_of word text slash cell is) s

module _ (b : List ℕ) (bytes : Bytes b) (n m f : ℕ) (good : check_of b ≡ Good n m f) (slash : Bool) (j : ℕ) (j-below : j < m) where
  -- a cell as it was read
  pub cell-supplies : (text : List ℕ) (side : Bool) (t : List ℕ) (first count : ℕ) (whom : Whom) (cell : read.Cell) (is : List Item)
      → Of b n m f whom (cell_of (at side) text slash cell is) → EntriesAre t first count is
      → (flags : List ℕ) (touched : Slot → Bool) → Flags flags j touched
      → Flags (entries_touched b text slash n t first whom (cell_of (at side) text slash cell is).type (place b j f) flags count) j
      (λ s. or (touched s) (some-event.supply (events (records_at b n m f) (cell_of (at side) text slash cell is)) s))
  cell-supplies text side t first count whom cell is w a flags touched g =
      let c = cell_of (at side) text slash cell is in
      flags_same _ j _ _ (entries_touched_lem b bytes n m f good text slash side j j-below t first count whom c w is a flags touched g)
      (λ i l. rw (supply-events (records_at b n m f) (at side) text slash cell is (slot_at j i)))

  -- 'every value slot supplied by the outgoing or the incoming cell'
  pub both-touched : (file : List ℕ) (t1 : List ℕ) (first1 count1 : ℕ) (whom1 : Whom) (cell1 : read.Cell) (is1 : List Item)
      → Of b n m f whom1 (cell_of (at false) file slash cell1 is1) → EntriesAre t1 first1 count1 is1
      → (text : List ℕ) (t2 : List ℕ) (first2 count2 : ℕ) (whom2 : Whom) (cell2 : read.Cell) (is2 : List Item)
      → Of b n m f whom2 (cell_of (at true) text slash cell2 is2) → EntriesAre t2 first2 count2 is2
      → Flags (entries_touched b text slash n t2 first2 whom2 (cell_of (at true) text slash cell2 is2).type (place b j f)
      (entries_touched b file slash n t1 first1 whom1 (cell_of (at false) file slash cell1 is1).type (place b j f) (replicate 18 0) count1) count2) j
      (affected (events (records_at b n m f) (cell_of (at false) file slash cell1 is1)) (events (records_at b n m f) (cell_of (at true) text slash cell2 is2)))
  unfolding affected
  both-touched file t1 first1 count1 whom1 cell1 is1 w1 a1 text t2 first2 count2 whom2 cell2 is2 w2 a2 =
      cell-supplies text true t2 first2 count2 whom2 cell2 is2 w2 a2 _ _
      (cell-supplies file false t1 first1 count1 whom1 cell1 is1 w1 a1 (replicate 18 0) (λ s. false) (no_flags j))

-- 4. How many events the first cells of a file have

pub length-file : (records : Records) {Word : Type 0} (word : ℕ → Word) (text : List ℕ) (slash : Bool) (cs : List read.Cell) (is : List Item) (k : ℕ)
    → k ≤ length cs → total cs ≡ length is → length (file_events records (take k (cells_of word text slash cs is))) ≡ k + before cs k
unfolding file_events each cells_of cell_of total
length-file records word text slash cs is zero h e = refl
length-file records word text slash [] is (suc k) h e = absurd (omega arith)
length-file records word text slash (c ∷ cs) is (suc k) h e =
    let rest = drop c.entries is in
    let d : length rest ≡ length is - c.entries = length-drop c.entries is in
    let w : length (take c.entries is) ≡ c.entries = length-take-le c.entries is (omega arith) in
    let x : length (map (entry_of word text slash) (take c.entries is)) ≡ length (take c.entries is) = length-map (take c.entries is) (entry_of word text slash) in
    let y = length-events records (cell_of word text slash c (take c.entries is)) in
    let r = length-file records word text slash cs rest k (omega arith) (omega arith) in
    length-append (events records (cell_of word text slash c (take c.entries is))) (each (events records) (take k (cells_of word text slash cs rest)))
    ∙ omega (arith, w, x, y, r)
