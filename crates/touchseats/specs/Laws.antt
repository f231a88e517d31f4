-- One turn of each loop over the seats of a cell's entries; and seats that `choose` filled stand in order.
-- Assumes nothing.
use Rattle.std.specs.Prelude.{ℕ, zero, suc, ◌+◌, ◌-◌, ◌*◌, ◌<◌, ◌≤◌, ◌≡◌, Bool, true, false, List, ◌++◌, eqb, length, get_or, take, drop}
use Rattle.std.proofs.Math.Path.{refl}
use Rattle.std.proofs.Common.{sym, ap, ◌∙◌, append_assoc, arith, add-one, length-drop, length-take-le, drop-drop, eqb-true}
use Rattle.std.proofs.Math.Seq.{take-length}
use Rattle.std.proofs.lemmas.List.Edits.{length-paste}
use Rattle.std.proofs.lemmas.Bool.{eqb-false}
use Rattle.classes.specs.Choice.{pick}
use Rattle.sheetlaws.specs.Sheet.{ar_next, place}
use Rattle.meant.specs.Search.{nth-next}
use Rattle.views.specs.Views.{head_at}
use Rattle.meant.specs.WhomType.{Whom}
use Rattle.meant.specs.WhomType.TheVariants.{One, Nobody}
use Rattle.meant.specs.Entries.{rows_at}
use Rattle.meant.specs.Scratch.{touched_flags, touched-length}
use Rattle.meant.specs.Touch.{meant_for, entries_touched}
use Rattle.marking.specs.Chosen.{chosen, chosen_in, chosen_rises}
use Rattle.marking.specs.Parts.{part_no, part_own, flags_other}
use Rattle.marking.specs.Choosing.{marked_at, Chose}
use Rattle.findseat.specs.Findseat.{InOrder, OnlySeat}
use Rattle.touchseats.specs.Touchseats.{seat_touched, EntryTouched, SeatsTouched}

-- 1. One seat

-- a seat that is there has 18 flags, before and behind an entry
flags_long : (t : List ℕ) (row : ℕ) (flags : List ℕ) (seat : ℕ) → 18 * seat + 18 ≤ length flags
    → length (touched_flags (part_no 18 flags seat) (rows_at t row) 18) ≡ 18
flags_long t row flags seat room =
    touched-length (part_no 18 flags seat) (rows_at t row) 18 ∙ length-take-le 18 (drop (18 * seat) flags) (simp length-drop (omega arith))

-- its own flags, and those of another
touched_own : (t : List ℕ) (row : ℕ) (flags : List ℕ) (seat : ℕ) → 18 * seat + 18 ≤ length flags
    → part_no 18 (seat_touched t row flags seat) seat ≡ touched_flags (part_no 18 flags seat) (rows_at t row) 18
touched_own t row flags seat room = part_own flags (touched_flags (part_no 18 flags seat) (rows_at t row) 18) (18 * seat) 18 (omega arith) (flags_long t row flags seat room)

touched_other : (t : List ℕ) (row : ℕ) (flags : List ℕ) (seat i : ℕ) → 18 * seat + 18 ≤ length flags → (i ≡ seat → ⊥)
    → part_no 18 (seat_touched t row flags seat) i ≡ part_no 18 flags i
touched_other t row flags seat i room d =
    flags_other flags (touched_flags (part_no 18 flags seat) (rows_at t row) 18) seat i (omega arith) (flags_long t row flags seat room) d

-- the flags with a seat's part lent and back
pub seat-put : (t : List ℕ) (row : ℕ) (flags part : List ℕ) (seat : ℕ) → 18 * seat + 18 ≤ length flags
    → part ≡ touched_flags (take (18 * seat + 18 - 18 * seat) (drop (18 * seat) flags)) (rows_at t row) 18
    → take (18 * seat) flags ++ (part ++ drop (18 * seat + 18 - 18 * seat) (drop (18 * seat) flags)) ≡ seat_touched t row flags seat
seat-put t row flags part seat room is =
    let z : 18 * seat + 18 - 18 * seat ≡ 18 = omega arith in
    let own : part ≡ touched_flags (part_no 18 flags seat) (rows_at t row) 18 = rw z at is in
    let long : length part ≡ 18 = ap length own ∙ flags_long t row flags seat room in
    let whole : take 18 part ≡ part = rw (← long) (take-length part) in
    rw (z, ← own, drop-drop 18 (18 * seat) flags, whole) (sym (append_assoc (take (18 * seat) flags) part (drop (18 * seat + 18) flags)))

pub touched-long : (t : List ℕ) (row : ℕ) (flags : List ℕ) (seat : ℕ) → 18 * seat + 18 ≤ length flags → length (seat_touched t row flags seat) ≡ length flags
touched-long t row flags seat room =
    let l = flags_long t row flags seat room in
    length-paste flags (18 * seat) (touched_flags (part_no 18 flags seat) (rows_at t row) 18) 18 room (omega arith)

-- 2. One seat more

module _ (b text : List ℕ) (slash : Bool) (n : ℕ) (t : List ℕ) (row : ℕ) (whom : Whom) (type arcs flags : List ℕ) where
  -- the first i seats have their flags behind the entry, and the others are as they were
  abbrev pub SeatsSoFar : ℕ → List ℕ → Type 0
  SeatsSoFar i o = (EntryTouched b text slash n t row whom type arcs flags i o) × ((k : ℕ) → i ≤ k → part_no 18 o k ≡ part_no 18 flags k)

  pub seats_none : SeatsSoFar 0 flags
  seats_none = (λ i h. absurd (omega arith), λ k h. refl)

  pub seat-meant : (i : ℕ) (o o' : List ℕ) → 18 * i + 18 ≤ length o → meant_for b text slash n (head_at t row) whom type (get_or arcs i 0) ≡ true
      → o' ≡ seat_touched t row o i → SeatsSoFar i o → SeatsSoFar (i + 1) o'
  seat-meant i o o' room meant e so = (
    λ k h. go k h (eqb k i) refl,
    λ k h. rw e (touched_other t row o i k room (λ d. omega arith)) ∙ so.1 k (omega arith),
  )
    where
      go : (k : ℕ) → k < i + 1 → (z : Bool) → eqb k i ≡ z → part_no 18 o' k
          ≡ pick (meant_for b text slash n (head_at t row) whom type (get_or arcs k 0)) (touched_flags (part_no 18 flags k) (rows_at t row) 18) (part_no 18 flags k)
      go k h true x = rw (eqb-true k i x, e, touched_own t row o i room, meant, so.1 i (omega arith))
      go k h false x =
          let d = eqb-false k i x in
          rw (e, touched_other t row o i k room d) (so.0 k (omega arith))

  pub seat_unmeant : (i : ℕ) (o o' : List ℕ) → meant_for b text slash n (head_at t row) whom type (get_or arcs i 0) ≡ false → o' ≡ o
      → SeatsSoFar i o → SeatsSoFar (i + 1) o'
  seat_unmeant i o o' un e so = (λ k h. go k h (eqb k i) refl, λ k h. rw e (so.1 k (omega arith)))
    where
      go : (k : ℕ) → k < i + 1 → (z : Bool) → eqb k i ≡ z → part_no 18 o' k
          ≡ pick (meant_for b text slash n (head_at t row) whom type (get_or arcs k 0)) (touched_flags (part_no 18 flags k) (rows_at t row) 18) (part_no 18 flags k)
      go k h true x = rw (eqb-true k i x, e, un) (so.1 i (omega arith))
      go k h false x =
          let d = eqb-false k i x in
          rw e (so.0 k (omega arith))

-- 3. Only one seat

module _ (b text : List ℕ) (slash : Bool) (n : ℕ) (t : List ℕ) (row p : ℕ) (type arcs flags : List ℕ) (count r : ℕ)
    (only : OnlySeat b text slash n (head_at t row) p type arcs count r) where
  pub only-meant : (flags' : List ℕ) → r < count → 18 * count ≤ length flags
      → meant_for b text slash n (head_at t row) (One p) type (get_or arcs r 0) ≡ true → flags' ≡ seat_touched t row flags r
      → EntryTouched b text slash n t row (One p) type arcs flags count flags'
  only-meant flags' there room meant e i h = go (eqb i r) refl
    where
      go : (z : Bool) → eqb i r ≡ z → part_no 18 flags' i
          ≡ pick (meant_for b text slash n (head_at t row) (One p) type (get_or arcs i 0)) (touched_flags (part_no 18 flags i) (rows_at t row) 18) (part_no 18 flags i)
      go true x = rw (eqb-true i r x, e, touched_own t row flags r (omega arith), meant)
      go false x =
          let d = eqb-false i r x in
          rw (e, only.1 i h d) (touched_other t row flags r i (omega arith) d)

  pub only_unmeant : (r < count → meant_for b text slash n (head_at t row) (One p) type (get_or arcs r 0) ≡ false)
      → EntryTouched b text slash n t row (One p) type arcs flags count flags
  only_unmeant un i h = go (eqb i r) refl
    where
      go : (z : Bool) → eqb i r ≡ z → part_no 18 flags i
          ≡ pick (meant_for b text slash n (head_at t row) (One p) type (get_or arcs i 0)) (touched_flags (part_no 18 flags i) (rows_at t row) 18) (part_no 18 flags i)
      go true x =
          let s = eqb-true i r x in
          rw (s, un (omega arith))
      go false x = rw (only.1 i h (eqb-false i r x))

-- nobody means no arc
pub nobody_touched : (b text : List ℕ) (slash : Bool) (n : ℕ) (t : List ℕ) (first some x : ℕ) (type arcs flags : List ℕ) (count : ℕ)
    → SeatsTouched b text slash n t first some (Nobody x) type arcs flags count flags
unfolding entries_touched meant_for
nobody_touched b text slash n t first zero x type arcs flags count i h = refl
nobody_touched b text slash n t first (suc k) x type arcs flags count i h = nobody_touched b text slash n t first k x type arcs flags count i h

-- 4. One entry more

module _ (b text : List ℕ) (slash : Bool) (n : ℕ) (t : List ℕ) (first : ℕ) (whom : Whom) (type arcs flags : List ℕ) (count : ℕ) where
  pub entries_none : SeatsTouched b text slash n t first 0 whom type arcs flags count flags
  unfolding entries_touched
  entries_none i h = refl

  pub entries_more : (k : ℕ) (o o' : List ℕ) → EntryTouched b text slash n t (28 * (first + k)) whom type arcs o count o'
      → SeatsTouched b text slash n t first k whom type arcs flags count o → SeatsTouched b text slash n t first (k + 1) whom type arcs flags count o'
  unfolding entries_touched
  entries_more k o o' new so i h = rw (add-one, ← so i h) (new i h)

-- 5. Seats in order

-- arcs stand one behind the other
pub places_rise : (b : List ℕ) (f i l : ℕ) → i < l → place b i f < place b l f
places_rise b f i zero h = absurd (omega arith)
places_rise b f i (suc l) h = by (eqb i l) refl (places_rise b f i l)
  where
    next : place b (suc l) f ≡ ar_next b (place b l f)
    next = rw add-one at (nth-next (ar_next b) l f)

    by : (t : Bool) → eqb i l ≡ t → (i < l → place b i f < place b l f) → place b i f < place b (suc l) f
    by true e before = rw (next, eqb-true i l e) (omega arith)
    by false e before =
        let d = eqb-false i l e in
        let w = before (omega arith) in
        rw next (omega arith)

-- the seats that `choose` filled have arcs of the sheet, in its order
pub chosen_order : (b : List ℕ) (m f : ℕ) (bits : List ℕ) (from count next at : ℕ) (arcs : List ℕ) → Chose b m f bits from count next at arcs
    → InOrder b m f arcs count
chosen_order b m f bits from count next at arcs (k, number, below, some, there, long, few, seats) = (
  λ i h.
      let w = chosen_in hit from k i (rw long at h) in
      (get_or (chosen hit from k) i 0, omega (arith, w.1), seats i h),
  λ i l d h. rw (seats i (omega arith), seats l h) (places_rise b f _ _ (chosen_rises hit from k i l d (rw long at h))),
)
  where
    hit : ℕ → Bool
    hit = marked_at b f bits
