-- The parts of a swap by seats: the marks, the flags, the seats' values, and the three parts of the new file.
-- Assumes nothing.
use Prim.Native.Nat.{ℕ, zero, suc, ◌+◌, ◌-◌, ◌*◌, ◌<◌, ◌≤◌}
use Rattle.std.specs.Prelude.{◌≡◌, Bool, true, false, List, eqb, length, get_or, take, drop, replicate}
use Rattle.std.proofs.Math.Path.{refl}
use Rattle.std.proofs.Common.{sym, ◌∙◌, arith, add-one, length-drop, length-take-le, take_at, drop_at, eqb-true}
use Rattle.std.proofs.lemmas.List.{length-replicate, replicate-append-replicate}
use Rattle.std.proofs.Math.Seq.{paste}
use Rattle.std.proofs.lemmas.Bool.{eqb-false}
use Rattle.sheetparts.specs.Form.{values_at}
use Rattle.sheetlaws.specs.Sheet.{ar_next, place}
use Rattle.history.proofs.EventLaws.{clash}
use Rattle.views.specs.Views.{head_at}
use Rattle.meant.specs.WhomType.{Whom}
use Rattle.meant.specs.Scratch.{back_written}
use Rattle.arcrun.specs.declared.Least.{Least}
use Rattle.arcrun.specs.declared.Least.TheVariants as least
use Rattle.meant.specs.Touch.{meant_for, entries_touched}
use Rattle.marking.specs.Parts.{part_no}
use Rattle.marking.specs.Parts.{part_own, part_other}
use Rattle.swaparcs.specs.declared.Swap.{Swap}
use Rattle.arcrun.specs.Run.{CellsRan}
use Rattle.swaparcs.specs.Loops.{any_set, is_fault, SwapReady, ArcRan}
use Rattle.swaparcs.proofs.ArcLaws.{arc_ran_before, arc_ran_own, arc_ran_behind}
use Rattle.swaparcs.proofs.ArcLate.{arc_late_before, arc_late_own, arc_late_behind}
use Rattle.marking.specs.Choosing.{marked}
use Rattle.nearby.specs.Seats.{SeatsRan, CellsSeatsRan}
use Rattle.seating.specs.Seating.{StatesLoaded, backs, FrontRan, SeatsThrough, MarksCover, FlagsSeated}

-- 1. One turn of each loop

-- unset flags are unset in each part
zero-part : (size rest i z : ℕ) → part_no size (replicate (size * i + (size + rest)) z) i ≡ replicate size z
zero-part size rest i z =
    rw (
      ← replicate-append-replicate (size * i) (size + rest) z,
      drop_at (replicate (size * i) z) (replicate (size + rest) z) (size * i) (length-replicate (size * i) z),
      ← replicate-append-replicate size rest z,
      take_at (replicate size z) (replicate rest z) size (length-replicate size z),
    )

pub unset_part : (flags : List ℕ) (size i : ℕ) → size * i + size ≤ length flags → part_no size (replicate (length flags) 0) i ≡ replicate size 0
unset_part flags size i h =
    let e : length flags ≡ size * i + (size + (length flags - (size * i + size))) = omega arith in
    rw e (zero-part size (length flags - (size * i + size)) i 0)

-- one seat more has its values
pub loaded_more : (b arcs : List ℕ) (i : ℕ) (old now st : List ℕ) → ar_next b (get_or arcs i 0) ≤ length b → 144 * i + 144 ≤ length old
    → StatesLoaded b arcs i old → st ≡ take 144 (drop (values_at b (get_or arcs i 0)) b) → now ≡ paste old (144 * i) st (length st)
    → StatesLoaded b arcs (i + 1) now
loaded_more b arcs i old now st there room so e d k h = go (eqb k i) refl
  where
    long : length st ≡ 144
    long = rw e (length-take-le 144 (drop (values_at b (get_or arcs i 0)) b) (simp length-drop (omega (arith, there))))

    is : now ≡ paste old (144 * i) st 144
    is = rw long at d

    go : (z : Bool) → eqb k i ≡ z → part_no 144 now k ≡ take 144 (drop (values_at b (get_or arcs k 0)) b)
    go true p = rw (eqb-true k i p, is, part_own old st (144 * i) 144 (omega arith) long) e
    go false p = let x = eqb-false k i p in rw (is, part_other old st i k (omega arith) long x) (so k (omega arith))

-- no flag is set in unset ones
no_flag : any_set (replicate 18 0) 18 ≡ false
unfolding any_set
no_flag = refl

-- one seat more is written
pub back_more : (b arcs flags states o : List ℕ) (i : ℕ) (old now : List ℕ) → old ≡ backs b arcs flags states o i
    → now ≡ back_written old (values_at b (get_or arcs i 0)) (part_no 144 states i) (part_no 18 flags i) 18 → now ≡ backs b arcs flags states o (i + 1)
unfolding backs
back_more b arcs flags states o i old now e d = rw (add-one, ← e, d)

module _ (b : List ℕ) (n m f : ℕ) (file incoming : List ℕ) (slash : Bool) (cells entries cells2 entries2 : List ℕ) (swap : Swap) where
  -- 2. The three parts of the new file

  module _ (arcs flags : List ℕ) (count : ℕ) (ready : SwapReady cells entries cells2 entries2 swap) where
    pub through_before : (states st1 : List ℕ) (r : Least) → is_fault r ≡ true → StatesLoaded b arcs count states
        → CellsSeatsRan b file slash n m f cells 0 swap.outgoing entries 0 arcs flags states count st1 r
        → SeatsThrough b n m f file incoming slash cells entries cells2 entries2 swap arcs flags count st1 r
    through_before states st1 least.Nothing e loaded run = clash e
    through_before states st1 (least.Fault ev x p s) e loaded run = (
      (
        run.0.0,
        run.0.1,
        arc_ran_before b n m f file incoming slash cells entries cells2 entries2 swap (get_or arcs run.0.0 0) (part_no 18 flags run.0.0)
            (part_no 144 states run.0.0) (part_no 144 st1 run.0.0) (least.Fault ev x p s) ready (loaded run.0.0 run.0.1) run.0.2 ev x p s refl,
      ),
      λ i h. arc_late_before b n m f file incoming slash cells entries cells2 entries2 swap (get_or arcs i 0) (part_no 18 flags i) (part_no 144 states i) ev x ready
          (loaded i h) (run.1 i h),
    )

    pub front_ran : (states st1 : List ℕ) (r : Least) → is_fault r ≡ false → StatesLoaded b arcs count states
        → CellsSeatsRan b file slash n m f cells 0 swap.outgoing entries 0 arcs flags states count st1 r
        → FrontRan b n m f file incoming slash cells entries cells2 entries2 swap arcs flags count st1
    front_ran states st1 least.Nothing e loaded run i h = (part_no 144 states i, loaded i h, run i h)
    front_ran states st1 (least.Fault ev x p s) e loaded run i h = clash (sym e)

    module _ (st1 : List ℕ) (front : FrontRan b n m f file incoming slash cells entries cells2 entries2 swap arcs flags count st1) where
      pub through_own : (st2 : List ℕ) (r : Least) → is_fault r ≡ true
          → SeatsRan b incoming slash n m f true cells2 0 entries2 0 (swap.outgoing + swap.before) arcs flags st1 count st2 r
          → SeatsThrough b n m f file incoming slash cells entries cells2 entries2 swap arcs flags count st2 r
      through_own st2 least.Nothing e run = clash e
      through_own st2 (least.Fault ev x p s) e run = (
        (
          run.0.0,
          run.0.1,
          (let w = front run.0.0 run.0.1 in
              arc_ran_own b n m f file incoming slash cells entries cells2 entries2 swap (get_or arcs run.0.0 0) (part_no 18 flags run.0.0) w.0
              (part_no 144 st1 run.0.0) least.Nothing ready w.1 w.2 (part_no 144 st2 run.0.0) (least.Fault ev x p s) refl run.0.2 ev x p s refl),
        ),
        λ i h. (let w = front i h in arc_late_own b n m f file incoming slash cells entries cells2 entries2 swap (get_or arcs i 0) (part_no 18 flags i) w.0
            (part_no 144 st1 i) ev x ready w.1 w.2 (run.1 i h)),
      )

      pub through-behind : (st2 st3 : List ℕ) (r2 r : Least) → is_fault r2 ≡ false
          → SeatsRan b incoming slash n m f true cells2 0 entries2 0 (swap.outgoing + swap.before) arcs flags st1 count st2 r2
          → CellsSeatsRan b file slash n m f cells (suc swap.outgoing) swap.cells entries (swap.outgoing + swap.before + 1 + swap.coming) arcs flags st2
          count st3 r → SeatsThrough b n m f file incoming slash cells entries cells2 entries2 swap arcs flags count st3 r
      through-behind st2 st3 (least.Fault ev x p s) r e own run = clash (sym e)
      through-behind st2 st3 least.Nothing r e own run = by r run
        where
          ran : (i : ℕ) → i < count → (o : Least)
              → CellsRan b file slash n m f cells (suc swap.outgoing) swap.cells entries (get_or arcs i 0) (part_no 18 flags i) (part_no 144 st2 i)
              (part_no 144 st3 i) (swap.outgoing + swap.before + 1 + swap.coming) o
              → ArcRan b n m f file incoming slash cells entries cells2 entries2 swap (get_or arcs i 0) (part_no 18 flags i) (part_no 144 st3 i) o
          ran i h o last =
              let w = front i h in
              arc_ran_behind b n m f file incoming slash cells entries cells2 entries2 swap (get_or arcs i 0) (part_no 18 flags i) w.0 (part_no 144 st1 i)
              least.Nothing ready w.1 w.2 (part_no 144 st2 i) least.Nothing refl (own i h) (part_no 144 st3 i) o refl last

          by : (r : Least)
              → CellsSeatsRan b file slash n m f cells (suc swap.outgoing) swap.cells entries (swap.outgoing + swap.before + 1 + swap.coming) arcs flags
              st2 count st3 r → SeatsThrough b n m f file incoming slash cells entries cells2 entries2 swap arcs flags count st3 r
          by least.Nothing run = λ i h. ran i h least.Nothing (run i h)
          by (least.Fault ev x p s) run = (
            (run.0.0, run.0.1, ran run.0.0 run.0.1 (least.Fault ev x p s) run.0.2),
            λ i h. (let w = front i h in arc_late_behind b n m f file incoming slash cells entries cells2 entries2 swap (get_or arcs i 0) (part_no 18 flags i) w.0
                (part_no 144 st1 i) (part_no 144 st2 i) ev x ready w.1 w.2 (own i h) (run.1 i h)),
          )

  module _ (leaver : Whom) (type : List ℕ) (newcomer : Whom) (type2 : List ℕ) where
    -- 3. The flags

    pub flags_seated : (arcs : List ℕ) (count : ℕ) (flags flags1 flags2 : List ℕ) → 18 * count ≤ length flags
        → ((i : ℕ) → i < count → part_no 18 flags1 i ≡ entries_touched b file slash n entries swap.before leaver type (get_or arcs i 0) (part_no 18 (replicate (length flags) 0) i) swap.leaving)
        → ((i : ℕ) → i < count → part_no 18 flags2 i ≡ entries_touched b incoming slash n entries2 0 newcomer type2 (get_or arcs i 0) (part_no 18 flags1 i) swap.coming)
        → FlagsSeated b n m f file incoming slash cells entries cells2 entries2 swap leaver type newcomer type2 arcs count flags2
    flags_seated arcs count flags flags1 flags2 room one two i h =
        two i h ∙ rw (one i h, unset_part flags 18 i (omega arith))

    -- 4. The marks

    -- entries that mean an arc nowhere leave its flags
    untouched : (text t : List ℕ) (first : ℕ) (whom : Whom) (ty : List ℕ) (q : ℕ) (flags : List ℕ) (count : ℕ)
        → ((k : ℕ) → k < count → meant_for b text slash n (head_at t (28 * (first + k))) whom ty q ≡ false)
        → entries_touched b text slash n t first whom ty q flags count ≡ flags
    unfolding entries_touched
    untouched text t first whom ty q flags zero none_of = refl
    untouched text t first whom ty q flags (suc k) none_of =
        rw (none_of k (omega arith)) (untouched text t first whom ty q flags k (λ i h. none_of i (omega arith)))

    pub marks_cover : (bits1 bits2 : List ℕ)
        → ((j k : ℕ) → j < m → k < swap.leaving → meant_for b file slash n (head_at entries (28 * (swap.before + k))) leaver type (place b j f) ≡ true
        → marked bits1 (place b j f) ≡ true)
        → ((q : ℕ) → marked bits1 q ≡ true → marked bits2 q ≡ true)
        → ((j k : ℕ) → j < m → k < swap.coming → meant_for b incoming slash n (head_at entries2 (28 * (0 + k))) newcomer type2 (place b j f) ≡ true
        → marked bits2 (place b j f) ≡ true)
        → MarksCover b n m f file incoming slash cells entries cells2 entries2 swap leaver type newcomer type2 bits2
    marks_cover bits1 bits2 one more two j h t = go (marked bits2 (place b j f)) refl
      where
        off : (y : Bool) → (y ≡ true → marked bits2 (place b j f) ≡ true) → marked bits2 (place b j f) ≡ false → y ≡ false
        off true w e = clash (sym e ∙ w refl)
        off false w e = refl

        unset : any_set (replicate 18 0) 18 ≡ false
        unset = no_flag

        go : (y : Bool) → marked bits2 (place b j f) ≡ y → y ≡ true
        go true e = refl
        go false e =
            let a = untouched file entries swap.before leaver type (place b j f) (replicate 18 0) swap.leaving
            (λ k l. off _ (λ w. more (place b j f) (one j k h l w)) e) in
            let c = untouched incoming entries2 0 newcomer type2 (place b j f) (replicate 18 0) swap.coming (λ k l. off _ (λ w. two j k h l w) e) in
            clash (sym unset ∙ (rw (a, c) at t))
