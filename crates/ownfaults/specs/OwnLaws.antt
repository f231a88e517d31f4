-- What the records refuse of the incoming cell: the loop over its entries, its keyword, and the place of it all in the new file.
-- Assumes nothing.
use Rattle.std.specs.Prelude.{ℕ, zero, suc, ◌+◌, ◌*◌, ◌<◌, ◌≤◌, ◌≡◌, Bool, List, [], ◌∷◌, map, get_or, Option, Some, None}
use Rattle.std.proofs.Math.Path.{refl, sym, ap, subst}
use Rattle.std.proofs.Common.{◌∙◌, arith, add-zero, zero-add}
use Rattle.std.proofs.Math.Bool.{true, false}
use Rattle.std.proofs.Math.Option.{none, some}
use Rattle.std.proofs.Math.Dec.{eqb}
use Rattle.std.proofs.Math.ListN.{length, get_elem?, length-map}
use borrow.Author.Tests.{eqb-true, eqb-false, eq-eqb, ne_eqb}
use Rattle.classes.specs.Choice.{pick}
use Rattle.wire.specs.Wire.{Bytes}
use Rattle.names.specs.Order.{same_text}
use Rattle.names.specs.Name.{canon, part_of}
use Rattle.grammar.specs.declared.Cell as read
use Rattle.grammar.specs.Meaning.{Item}
use Rattle.meant.specs.Sound.{SoundItem}
use Rattle.tables.specs.Layout.{entry_row}
use Rattle.sheetparts.specs.Form.{Good, check_of, type_at}
use Rattle.meant.specs.Find.{find_instance}
use Rattle.views.specs.Views.{cell_at}
use Rattle.history.specs.Events.{Event}
use Rattle.history.specs.Scan.{own_fault}
use Rattle.history.specs.Sheet as part
use Rattle.history.specs.Sheet.{Slot, Cell, lacks, cell_number, cell_event, entry_event, events, file_events}
use Rattle.meant.specs.Slots.{values_of, spelled, sheet_at}
use Rattle.meant.specs.Spelled.{start}
use Rattle.meant.specs.Shapes.{values_in_range}
use Rattle.meant.specs.Says.{entry_of, cell_of, part_at, name_at}
use Rattle.meant.specs.Judged.{refusal_of}
use Rattle.meant.specs.Rows.{EntryIs, cell-is, head_is, item-expanded}
use Rattle.meant.specs.Instances.{records_at}
use Rattle.meant.specs.Addressed.{cell_same, cell-every}
use Rattle.meant.specs.Steps.{one-judged, every-judged}
use Rattle.meant.specs.WhomType.{Whom}
use Rattle.meant.specs.WhomType.TheVariants.{One, Every, Nobody}
use Rattle.meant.specs.Whom.{whom_of, typed_as}
use Rattle.meant.specs.Entries.{rows_at, refusal_for, no_item, EntriesAre}
use Rattle.meant.specs.Cells.{entries_before}
use Rattle.meant.specs.CellList.{each_at, before-is}
use Rattle.meant.specs.Where.{Where, at}
use Rattle.meant.specs.GroupLaws.{shifted}
use Rattle.meant.specs.Own.{own_new, own_cell-some, own_cell-none, own_numbers-none, own_numbers-some, word_own}
use Rattle.meant.specs.Meant.{refused_lacks}
use Rattle.arcrun.specs.declared.Least.{Least}
use Rattle.arcrun.specs.declared.Least.TheVariants as least
use Rattle.arcrun.specs.Run.{Of}
use Rattle.arcrun.specs.TouchLaws.{length-file}
use Rattle.arcrun.specs.CellRuns.{whom_of_lem}
use Rattle.swaparcs.specs.Swap.{Given, parts, comer, news, LeastIs}
use Rattle.ownfaults.specs.Own.{FaultIn, OwnEntries, OwnIs}

-- 1. One entry

module _ (b : List ℕ) (bytes : Bytes b) (n m f : ℕ) (good : check_of b ≡ Good n m f) (incoming : List ℕ) (slash : Bool) where
  -- on a sheet with its own values, the refusal is 14 exactly where an addressed instance lacks the arc
  judged_own : (t : List ℕ) (row : ℕ) (i : Item) → EntryIs t row i → SoundItem i → (c : Cell Where) (whom : Whom) → Of b n m f whom c
      → ((x : ℕ) → whom ≡ Nobody x → ⊥) → (out : List ℕ) → out ≡ spelled (sheet_at b n m f) (values_of (sheet_at b n m f))
      → refusal_for b incoming slash n m f t row whom c.type out
      ≡ refusal_of (records_at b n m f) c (entry_of (at true) incoming slash i) (values_of (sheet_at b n m f))
  unfolding refusal_for rows_at
  judged_own t row i r s c (One p) w h out k =
      rw (head_is t row i r s, k, w.2) (one-judged b bytes n m f good incoming slash (at true) i _ (item-expanded (at true) incoming slash t row i r s) c
      (values_of (sheet_at b n m f)) (values_in_range b bytes n m f good) w.0 w.1 (rw w.2 at w.3) (rw w.2 at w.4))
  judged_own t row i r s c Every w h out k =
      rw (head_is t row i r s, k) (every-judged b bytes n m f good incoming slash (at true) i _ (item-expanded (at true) incoming slash t row i r s) c
      (values_of (sheet_at b n m f)) (values_in_range b bytes n m f good) w)
  judged_own t row i r s c (Nobody x) w h out k = absurd (h x refl)

  entry-lacks : (t : List ℕ) (row : ℕ) (i : Item) → EntryIs t row i → SoundItem i → (c : Cell Where) (whom : Whom) → Of b n m f whom c
      → ((x : ℕ) → whom ≡ Nobody x → ⊥) → (x : ℕ) → x ≡ refusal_for b incoming slash n m f t row whom c.type b
      → lacks (records_at b n m f) c (entry_of (at true) incoming slash i) ≡ eqb x 14
  entry-lacks t row i r s c whom w h x e =
      sym (refused_lacks (records_at b n m f) c (entry_of (at true) incoming slash i) (values_of (sheet_at b n m f)))
      ∙ ap (λ z. eqb z 14) (sym (e ∙ judged_own t row i r s c whom w h b (sym (start b bytes n m f good))))

-- 2. The loop over the entries

module _ {A B : Type 0} (g : A → B) where
  -- what a list was made into, by number
  get_d_made : (l : List A) (k : ℕ) (d : A) → get_or (map g l) k (g d) ≡ g (get_or l k d)
  get_d_made [] k d = refl
  get_d_made (a ∷ l) zero d = refl
  get_d_made (a ∷ l) (suc k) d = get_d_made l k d

  there_made : (l : List A) (k : ℕ) (d : A) → k < length l → get_elem? (map g l) k ≡ some (g (get_or l k d))
  there_made [] k d h = absurd (omega arith)
  there_made (a ∷ l) zero d h = refl
  there_made (a ∷ l) (suc k) d h = there_made l k d (omega arith)

module _ (b : List ℕ) (n m f : ℕ) (incoming : List ℕ) (slash : Bool) (t : List ℕ) (count : ℕ) (whom : Whom) (type : List ℕ) (event : ℕ) where
  -- none of the first k entries lacks its arc
  abbrev pub OwnSoFar : ℕ → Type 0
  OwnSoFar k =
      Bytes b → check_of b ≡ Good n m f → (c : Cell Where) (is : List Item) → EntriesAre t 0 count is → c.type ≡ type → Of b n m f whom c
      → ((x : ℕ) → whom ≡ Nobody x → ⊥) → (i : ℕ) → i < k
      → lacks (records_at b n m f) c (entry_of (at true) incoming slash (get_or is i no_item)) ≡ false

  pub own_none : OwnSoFar 0
  own_none bytes good c is a ty w h i l = absurd (omega arith)

  -- entry number k
  own_at : (k x : ℕ) → k < count → x ≡ refusal_for b incoming slash n m f t (28 * k) whom type b
      → Bytes b → check_of b ≡ Good n m f → (c : Cell Where) (is : List Item) → EntriesAre t 0 count is → c.type ≡ type → Of b n m f whom c
      → ((x : ℕ) → whom ≡ Nobody x → ⊥)
      → lacks (records_at b n m f) c (entry_of (at true) incoming slash (get_or is k no_item)) ≡ eqb x 14
  own_at k x d e bytes good c is a ty w h =
      let l : k < length is = rw a.0 d in
      entry-lacks b bytes n m f good incoming slash t (28 * k) (get_or is k no_item) (rw (zero-add k) at (a.1 k d)) (each_at SoundItem is no_item a.2 k l) c whom w
      h x (rw ty e)

  pub own_more : (k x : ℕ) → k < count → OwnSoFar k → x ≡ refusal_for b incoming slash n m f t (28 * k) whom type b → (x ≡ 14 → ⊥) → OwnSoFar (suc k)
  own_more k x d so e y bytes good c is a ty w h i l = by (eqb i k) refl
    where
      by : (z : Bool) → eqb i k ≡ z → lacks (records_at b n m f) c (entry_of (at true) incoming slash (get_or is i no_item)) ≡ false
      by true p = rw (eqb-true i k p) (own_at k x d e bytes good c is a ty w h ∙ ne_eqb x 14 y)
      by false p = let q : i < k = below i k l p in so bytes good c is a ty w h i q
        where
          below : (i k : ℕ) → i < suc k → eqb i k ≡ false → i < k
          below i k l p = let q = eqb-false i k p in omega arith

  -- the place of entry number k's keyword
  place_at : (is : List Item) → EntriesAre t 0 count is → (k : ℕ) → k < count → get_or t (28 * k + 2) 0 ≡ (get_or is k no_item).head.place
  unfolding entry_row
  place_at is a k d = rw (zero-add k) at (a.1 k d 2 (omega arith))

  -- the events of the entries
  abbrev row_events : Cell Where → List Item → List (Event Slot Where)
  row_events c is = map (entry_event (records_at b n m f) c) (map (entry_of (at true) incoming slash) is)

  row_event : (c : Cell Where) (is : List Item) (k : ℕ) → k < length is
      → get_elem? (row_events c is) k ≡ some (entry_event (records_at b n m f) c (entry_of (at true) incoming slash (get_or is k no_item)))
  row_event c is k l =
      let z = length-map is (entry_of (at true) incoming slash) in
      there_made (entry_event (records_at b n m f) c) (map (entry_of (at true) incoming slash) is) k (entry_of (at true) incoming slash no_item) (omega arith)
      ∙ rw (get_d_made (entry_of (at true) incoming slash) is k no_item)

  pub own_stop : (k x : ℕ) → k < count → OwnSoFar k → x ≡ refusal_for b incoming slash n m f t (28 * k) whom type b → x ≡ 14
      → OwnEntries b n m f incoming slash t count whom type event (least.Fault (event + k) 14 (get_or t (28 * k + 2) 0) true)
  unfolding entry_event entry_of
  own_stop k x d so e y bytes good c is a ty w h =
      let l : k < length is = rw a.0 d in
      let z = length-map is (entry_of (at true) incoming slash) in (
        k,
        refl,
        own_numbers-some (records_at b n m f) c (map (entry_of (at true) incoming slash) is) (entry_of (at true) incoming slash no_item) k (omega arith)
            (λ i q. ap (lacks (records_at b n m f) c) (get_d_made (entry_of (at true) incoming slash) is i no_item) ∙ so bytes good c is a ty w h i q)
            (ap (lacks (records_at b n m f) c) (get_d_made (entry_of (at true) incoming slash) is k no_item) ∙ own_at k x d e bytes good c is a ty w h ∙ eq-eqb x 14 y),
        (_, row_event c is k l, rw (place_at is a k d)),
      )

  pub own_end : OwnSoFar count → OwnEntries b n m f incoming slash t count whom type event least.Nothing
  own_end so bytes good c is a ty w h =
      let z = length-map is (entry_of (at true) incoming slash) in
      let s = a.0 in
      own_numbers-none (records_at b n m f) c (map (entry_of (at true) incoming slash) is) (entry_of (at true) incoming slash no_item)
      (λ i q. ap (lacks (records_at b n m f) c) (get_d_made (entry_of (at true) incoming slash) is i no_item) ∙ so bytes good c is a ty w h i (omega arith))

-- 3. The cell

module _ (b : List ℕ) (bytes : Bytes b) (n m f : ℕ) (good : check_of b ≡ Good n m f) where
  found_none : (path : List ℕ) (c : Cell Where) → c.part ≡ part.at path → (o : Option ℕ) → find_instance b path n 12 ≡ o
      → ((x : ℕ) → typed_as b c.type o ≡ Nobody x → ⊥) → cell_number (records_at b n m f) c ≡ none
  unfolding typed_as
  found_none path c p None e h = absurd (h 12 refl)
  found_none path c p (Some q) e h = go (same_text (type_at b q) c.type) refl h
    where
      go : (t : Bool) → same_text (type_at b q) c.type ≡ t → ((x : ℕ) → pick t (One q) (Nobody 13) ≡ Nobody x → ⊥) → cell_number (records_at b n m f) c ≡ none
      go true d h = cell_same b bytes n m f good c path q p e d
      go false d h = absurd (h 13 refl)

  -- a cell that applies to somebody has neither 12 nor 13
  somebody : (text : List ℕ) (slash side : Bool) (cell : read.Cell) (is : List Item) → ((x : ℕ) → whom_of b text slash n cell ≡ Nobody x → ⊥)
      → cell_number (records_at b n m f) (cell_of (at side) text slash cell is) ≡ none
  unfolding whom_of cell_of part_at name_at
  somebody text slash side cell is h = go (eqb cell.sort 2) refl h
    where
      go : (t : Bool) → eqb cell.sort 2 ≡ t
          → ((x : ℕ) → pick t Every (typed_as b (part_of text cell.typefrom cell.typeto) (find_instance b (canon slash (part_of text cell.pathfrom cell.pathto)) n 12))
          ≡ Nobody x → ⊥) → cell_number (records_at b n m f) (cell_of (at side) text slash cell is) ≡ none
      go true e h = cell-every b bytes n m f good (cell_of (at side) text slash cell is) (rw e)
      go false e h = found_none (canon slash (part_of text cell.pathfrom cell.pathto)) (cell_of (at side) text slash cell is) (rw e) _ refl h

-- one event before them all
later_in : (e : Event Slot Where) (es : List (Event Slot Where)) (event : ℕ) (r : Least) → own_fault (e ∷ es) ≡ shifted 1 (own_fault es) → FaultIn es (event + 1) r
    → FaultIn (e ∷ es) event r
unfolding shifted
later_in e es event least.Nothing p h = p ∙ rw h
later_in e es event (least.Fault ev x q s) p h =
    let z : 1 + h.0 ≡ suc h.0 = omega arith in
    (suc h.0, (let y = h.1 in omega arith), p ∙ rw (h.2, z), (h.3.0, h.3.1, h.3.2))

module _ (b : List ℕ) (n m f : ℕ) (incoming : List ℕ) (slash : Bool) (cells entries : List ℕ) (event : ℕ) where
  -- 12 and 13 at its keyword
  pub own_refused : (x : ℕ) → whom_of b incoming slash n (cell_at cells 0) ≡ Nobody x
      → OwnIs b n m f incoming slash cells entries event (least.Fault event x (cell_at cells 0).place true)
  unfolding events cell_event cell_of
  own_refused x e bytes good cell is r s a =
      let c = cell_of (at true) incoming slash cell is in
      let v = cell-is cells 0 cell r s in
      let o : cell_number (records_at b n m f) c ≡ some x
      = subst (λ (w : Whom). Of b n m f w c) (rw v at e) (whom_of_lem b bytes n m f good incoming slash true cell is) in
      (0, sym (add-zero event), own_cell-some (records_at b n m f) c x o, (cell_event (records_at b n m f) c, refl, rw v))

  -- and else its entries
  pub own_listed : (whom : Whom) (r : Least) → whom_of b incoming slash n (cell_at cells 0) ≡ whom → ((x : ℕ) → whom ≡ Nobody x → ⊥)
      → OwnEntries b n m f incoming slash entries (cell_at cells 0).entries whom (part_of incoming (cell_at cells 0).typefrom (cell_at cells 0).typeto) (event + 1) r
      → OwnIs b n m f incoming slash cells entries event r
  unfolding events cell_of
  own_listed whom r e h run bytes good cell is x s a =
      let c = cell_of (at true) incoming slash cell is in
      let v = cell-is cells 0 cell x s in
      let u : whom_of b incoming slash n cell ≡ whom = rw v at e in
      let w : Of b n m f whom c = subst (λ (w : Whom). Of b n m f w c) u (whom_of_lem b bytes n m f good incoming slash true cell is) in
      let o : cell_number (records_at b n m f) c ≡ none = somebody b bytes n m f good incoming slash true cell is (λ y q. h y (sym u ∙ q)) in
      later_in (cell_event (records_at b n m f) c) _ event r (own_cell-none (records_at b n m f) c o) ((rw v at run) bytes good c is a refl w h)

-- 4. Its place in the new file

pub own_least : (b : List ℕ) (n m f : ℕ) (file incoming : List ℕ) (slash : Bool) {cells entries cells2 entries2 : List ℕ} {count k : ℕ} (before : ℕ) (r : Least)
    → before ≡ entries_before cells k → OwnIs b n m f incoming slash cells2 entries2 (k + before) r → Bytes b → check_of b ≡ Good n m f
    → (g : Given cells entries cells2 entries2 count k)
    → LeastIs b n m f file incoming slash g (own_fault (news b n m f file incoming slash g)) r
unfolding shifted
own_least b n m f file incoming slash {cells = cells} {entries = entries} {cells2 = cells2} {entries2 = entries2} {count = count} {k = k} before r e own bytes good g =
    by r (own bytes good g.cell2 g.is2 g.cell_is g.sort2 g.entries_are2)
  where
    cut_at : length (file_events (records_at b n m f) (parts b n m f file incoming slash g).before) ≡ k + before
    cut_at =
        let c = g.cells_are_of in
        let l = g.there in
        let u : k ≤ length g.cs = rw c.0 (omega arith) in
        length-file (records_at b n m f) (at false) file slash g.cs g.is k u (sym g.entries_are.0)
        ∙ ap (λ z. k + z) (sym (e ∙ before-is cells count g.cs c k (omega arith)))

    by : (r : Least) → FaultIn (events (records_at b n m f) (comer b n m f file incoming slash g)) (k + before) r
        → LeastIs b n m f file incoming slash g (own_fault (news b n m f file incoming slash g)) r
    by least.Nothing h = own_new (records_at b n m f) (parts b n m f file incoming slash g) (comer b n m f file incoming slash g) ∙ rw h
    by (least.Fault ev x q s) h =
        let w = word_own (records_at b n m f) (parts b n m f file incoming slash g) (comer b n m f file incoming slash g) h.0 h.3.0 h.3.1 in
        let y = rw cut_at at w.1 in (
          own_new (records_at b n m f) (parts b n m f file incoming slash g) (comer b n m f file incoming slash g) ∙ rw (h.2, cut_at, h.1),
          (w.0, ap (get_elem? (news b n m f file incoming slash g)) h.1 ∙ y, w.2 ∙ h.3.2),
        )
