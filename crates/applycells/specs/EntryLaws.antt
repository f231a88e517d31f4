-- The loop over a cell's entries keeps to the history: one turn, and how it ends.
-- Assumes nothing.
use Prim.Native.Nat.{ℕ, zero, suc, ◌+◌, ◌*◌, ◌<◌}
use Rattle.std.specs.Prelude.{◌≡◌, Bool, take, drop}
use Rattle.std.proofs.Math.Path.{refl, sym, ap}
use Rattle.std.proofs.Common.{◌∙◌, arith, take_all, ne_eqb}
use mathlib.Core.List.{List, [], ◌∷◌, ◌++◌, append_assoc}
use Rattle.std.proofs.Math.Option.{none, some}
use Rattle.std.proofs.Math.ListN.{length, get_or}
use Rattle.wire.specs.Wire.{Bytes}
use Rattle.grammar.specs.Meaning.{Item}
use Rattle.meaning.specs.Sound.{SoundItem}
use Rattle.sheetparts.specs.Form.{Good, check_of}
use Rattle.tables.specs.Layout.{entry_row}
use Rattle.history.specs.Events.{Event, judge, step, final}
use Rattle.history.proofs.EventLaws.{fold_step, fold-stop}
use Rattle.history.specs.Sheet.{Slot, Values, Cell, entry_event, slots_of}
use Rattle.meaning.specs.Says.{entry_of}
use Rattle.meaning.specs.Judged.{refusal_of, numbered, judged}
use Rattle.meaning.specs.Rows.{EntryIs, head_is, item-expanded}
use Rattle.meaning.specs.Instances.{records_at}
use Rattle.meaning.specs.Steps.{after, one-judged, one_left, every-judged, every-left}
use Rattle.meaning.specs.declared.Whom.{Whom}
use Rattle.meaning.specs.declared.Whom.TheVariants.{One, Every, Nobody}
use Rattle.meaning.specs.declared.Annotated.{Annotated}
use Rattle.meaning.specs.declared.Annotated.TheVariants.{Done, Refused}
use Rattle.meaning.specs.Whom.{For}
use Rattle.meaning.specs.CellList.{each_at}
use Rattle.meaning.specs.Entries.{rows_at, refusal_for, applied_for, Kept, Went, no_item, entry_events, EntriesAre, EntriesRun}

-- the places themselves are the words
abbrev pub here : ℕ → ℕ
here p = p

module _ (b : List ℕ) (bytes : Bytes b) (n m f : ℕ) (good : check_of b ≡ Good n m f) (text : List ℕ) (slash : Bool) where
  -- 1. One entry

  module _ (t : List ℕ) (row : ℕ) (i : Item) (r : EntryIs t row i) (s : SoundItem i) (c : Cell ℕ) (now : Values) where
    entry-judged : (whom : Whom) → For b n whom c → (out : List ℕ) → Kept b n m f out now
        → refusal_for b text slash n m f t row whom c.type out ≡ refusal_of (records_at b n m f) c (entry_of here text slash i) now
    unfolding refusal_for rows_at
    entry-judged (One p) w out k =
        rw (head_is t row i r s, k.0, w.2) (one-judged b bytes n m f good text slash here i _ (item-expanded here text slash t row i r s) c now k.1
        w.0 w.1 (rw w.2 at w.3) (rw w.2 at w.4))
    entry-judged Every w out k =
        rw (head_is t row i r s, k.0) (every-judged b bytes n m f good text slash here i _ (item-expanded here text slash t row i r s) c now k.1 w)
    entry-judged (Nobody x) w out k = absurd w

    entry-left : (whom : Whom) → For b n whom c → (out : List ℕ) → Kept b n m f out now
        → refusal_for b text slash n m f t row whom c.type out ≡ 0
        → Kept b n m f (applied_for b text slash n m f t row whom c.type out) (after b bytes n m f good c (entry_of here text slash i) now)
    unfolding refusal_for applied_for rows_at
    entry-left (One p) w out k z =
        rw (head_is t row i r s, k.0, w.2) (one_left b bytes n m f good text slash here i _ (item-expanded here text slash t row i r s) c now k.1
        w.0 w.1 (rw w.2 at w.3) (rw w.2 at w.4) (rw (head_is t row i r s, k.0, w.2) at z))
    entry-left Every w out k z =
        rw (head_is t row i r s, k.0) (every-left b bytes n m f good text slash here i _ (item-expanded here text slash t row i r s) c now k.1 w
        (rw (head_is t row i r s, k.0) at z))
    entry-left (Nobody x) w out k z = absurd w

  -- 2. What was gone through, and one entry more

  abbrev slots : List Slot
  slots = slots_of (records_at b n m f)

  -- no refusal, or one
  none-numbered : (x : ℕ) → x ≡ 0 → numbered x ≡ none
  unfolding numbered
  none-numbered x e = rw e

  some-numbered : (x : ℕ) → (x ≡ 0 → ⊥) → numbered x ≡ some x
  unfolding numbered
  some-numbered x h = rw (ne_eqb x 0 h)

  went-none : (out : List ℕ) (now : Values) → Kept b n m f out now → Went b n m f now [] out Done
  went-none out now k = (now, k, λ more. refl)

  -- one event that is let pass
  pub went-more : (now : Values) (es : List (Event Slot ℕ)) (out out' : List ℕ) (e : Event Slot ℕ) (w : Went b n m f now es out Done)
      → judge slots w.0 e ≡ none → Kept b n m f out' (λ u. final (step (w.0 u) (e.gives u)))
      → Went b n m f now (es ++ (e ∷ [])) out' Done
  went-more now es out out' e w j k = (_, k, λ more. rw (append_assoc es (e ∷ []) more) (w.2 (e ∷ more) ∙ fold_step slots now w.0 e more j))

  -- one that is refused
  pub went-stop : (now : Values) (es rest : List (Event Slot ℕ)) (out out' : List ℕ) (e : Event Slot ℕ) (x : ℕ) (w : Went b n m f now es out Done)
      → judge slots w.0 e ≡ some x → Went b n m f now (es ++ (e ∷ rest)) out' (Refused x e.word)
  went-stop now es rest out out' e x w j more =
      rw (append_assoc es (e ∷ rest) more) (w.2 (e ∷ (rest ++ more)) ∙ fold-stop slots now w.0 e (rest ++ more) x j)

  -- what was gone through in two parts
  pub went_on : (now : Values) (es fs : List (Event Slot ℕ)) (out out' : List ℕ) (a : Annotated) (w : Went b n m f now es out Done)
      → Went b n m f w.0 fs out' a → Went b n m f now (es ++ fs) out' a
  went_on now es fs out out' Done w v = (v.0, v.1, λ more. rw (append_assoc es fs more) (w.2 (fs ++ more) ∙ v.2 more))
  went_on now es fs out out' (Refused x q) w v = λ more. rw (append_assoc es fs more) (w.2 (fs ++ more) ∙ v more)

  -- 3. The loop

  module _ (t : List ℕ) (first count : ℕ) (whom : Whom) (type out : List ℕ) where
    -- the first k entries were gone through
    abbrev pub EntriesSoFar : ℕ → List ℕ → Type 0
    EntriesSoFar k o =
        (c : Cell ℕ) (is : List Item) (now : Values) → EntriesAre t first count is → c.type ≡ type → For b n whom c → Kept b n m f out now
        → Went b n m f now (entry_events b text slash n m f c (take k is)) o Done

    pub entries_none : EntriesSoFar 0 out
    unfolding entry_events
    entries_none c is now a e w k = went-none out now k

    -- entry number k among the events
    events-at : (c : Cell ℕ) (is : List Item) (k : ℕ) → k < length is
        → entry_events b text slash n m f c is ≡ entry_events b text slash n m f c (take k is)
        ++ (entry_event (records_at b n m f) c (entry_of here text slash (get_or is k no_item)) ∷ entry_events b text slash n m f c (drop (suc k) is))
    unfolding entry_events
    events-at c [] k h = absurd (omega arith)
    events-at c (i ∷ is) zero h = refl
    events-at c (i ∷ is) (suc k) h = ap (λ l. entry_event (records_at b n m f) c (entry_of here text slash i) ∷ l) (events-at c is k (omega arith))

    events-next : (c : Cell ℕ) (is : List Item) (k : ℕ) → k < length is
        → entry_events b text slash n m f c (take (suc k) is) ≡ entry_events b text slash n m f c (take k is)
        ++ (entry_event (records_at b n m f) c (entry_of here text slash (get_or is k no_item)) ∷ [])
    unfolding entry_events
    events-next c [] k h = absurd (omega arith)
    events-next c (i ∷ is) zero h = refl
    events-next c (i ∷ is) (suc k) h = ap (λ l. entry_event (records_at b n m f) c (entry_of here text slash i) ∷ l) (events-next c is k (omega arith))

    pub entries_more : (k : ℕ) (o o' : List ℕ) → k < count → EntriesSoFar k o
        → refusal_for b text slash n m f t (28 * (first + k)) whom type o ≡ 0
        → o' ≡ applied_for b text slash n m f t (28 * (first + k)) whom type o → EntriesSoFar (suc k) o'
    entries_more k o o' h so z e c is now a ty w kept =
        let l : k < length is = rw a.0 h in
        let i = get_or is k no_item in
        let r = a.1 k h in
        let s = each_at SoundItem is no_item a.2 k l in
        let before = so c is now a ty w kept in
        let x : refusal_of (records_at b n m f) c (entry_of here text slash i) before.0 ≡ 0
        = sym (entry-judged t (28 * (first + k)) i r s c before.0 whom w o before.1) ∙ rw ty z in
        let left : Kept b n m f o' (after b bytes n m f good c (entry_of here text slash i) before.0)
        = rw (e, ← ty) (entry-left t (28 * (first + k)) i r s c before.0 whom w o before.1 (rw ty z)) in
        rw (events-next c is k l)
        (went-more now (entry_events b text slash n m f c (take k is)) o o' (entry_event (records_at b n m f) c (entry_of here text slash i)) before
        (judged (records_at b n m f) before.0 c (entry_of here text slash i) ∙ none-numbered _ x) left)

    -- the place of entry number k's keyword
    place_at : (is : List Item) → EntriesAre t first count is → (k : ℕ) → k < count → get_or t (28 * (first + k) + 2) 0 ≡ (get_or is k no_item).head.place
    unfolding entry_row
    place_at is a k h = a.1 k h 2 (omega arith)

    pub entries_stop : (k : ℕ) (o o' : List ℕ) (x : ℕ) → k < count → EntriesSoFar k o
        → x ≡ refusal_for b text slash n m f t (28 * (first + k)) whom type o → (x ≡ 0 → ⊥)
        → EntriesRun b text slash n m f t first count whom type out o' (Refused x (get_or t (28 * (first + k) + 2) 0))
    unfolding entry_event entry_of
    entries_stop k o o' x h so z q y g c is now a ty w kept =
        let l : k < length is = rw a.0 h in
        let i = get_or is k no_item in
        let s = each_at SoundItem is no_item a.2 k l in
        let before = so c is now a ty w kept in
        let u : refusal_of (records_at b n m f) c (entry_of here text slash i) before.0 ≡ x
        = sym (entry-judged t (28 * (first + k)) i (a.1 k h) s c before.0 whom w o before.1) ∙ rw ty (sym z) in
        rw (events-at c is k l, place_at is a k h)
        (went-stop now (entry_events b text slash n m f c (take k is)) (entry_events b text slash n m f c (drop (suc k) is)) o o'
        (entry_event (records_at b n m f) c (entry_of here text slash i)) x before
        (judged (records_at b n m f) before.0 c (entry_of here text slash i) ∙ rw u (some-numbered x q)))

    pub entries_end : (o : List ℕ) → EntriesSoFar count o → EntriesRun b text slash n m f t first count whom type out o Done
    entries_end o so y g c is now a ty w kept = rw (take_all count is (omega (arith, a.0))) at (so c is now a ty w kept)
