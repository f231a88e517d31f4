-- The arcs of a sheet that may have a touched slot, a part of them at a time: the least fault of all, and what is written without one.
-- Assumes nothing.
use Prim.Native.Nat.{ℕ, zero, suc, ◌+◌, ◌-◌, ◌<◌, ◌≤◌}
use Rattle.std.specs.Prelude.{◌≡◌, Bool, List, [], ◌∷◌, ◌++◌, get_or, take}
use Rattle.std.proofs.lemmas.List.{get_or-take}
use Rattle.std.proofs.Math.Path.{refl}
use Rattle.std.proofs.Common.{sym, ◌∙◌, add-zero, length-take-le}
use Rattle.std.proofs.Math.Bool.{true, false}
use Rattle.std.proofs.Math.Option.{Option, some}
use native.Mathlib.Omega.{arith}
use Rattle.std.proofs.Math.Numerals.{add-one}
use Rattle.std.proofs.Math.ListN.{length, length-append}
use Rattle.classes.specs.Choice.{pick}
use Rattle.sheetlaws.specs.Sheet.{place}
use Rattle.history.proofs.EventLaws.{clash, none≢some}
use Rattle.history.specs.Faults.{Fault}
use Rattle.history.specs.Scan.{better, own_fault}
use Rattle.history.specs.Sheet.{arc_slots}
use Rattle.meant.specs.Slots.{values_of, sheet_at}
use Rattle.meant.specs.WhomType.{Whom}
use Rattle.meant.specs.Group.{group_fault}
use Rattle.meant.specs.Scratch.{Flags}
use Rattle.arcrun.specs.declared.Least.{Least}
use Rattle.arcrun.specs.declared.Least.TheVariants as least
use Rattle.marking.specs.Parts.{part_no}
use Rattle.swaparcs.specs.declared.Swap.{Swap}
use Rattle.swaparcs.specs.Swap.{news, touched, LeastIs}
use Rattle.swaparcs.specs.Loops.{better_of, is_fault, SwapReady, ArcsRan, ArcsWritten}
use Rattle.swaparcs.proofs.ArcLaws.{better-is, none-set, flags_both, ArcsSoFar, arcs_more, arcs_pass, arcs_end, WrittenSoFar, written-more, written_pass, written_end}
use Rattle.marking.specs.Choosing.{marked_at, Chose}
use Rattle.marking.specs.Chosen.{chosen, chosen_in, chosen_has}
use Rattle.seating.specs.Seating as seating
use Rattle.seating.specs.Seating.{backs}
use Rattle.chunks.specs.LeastOf.{least-among}

-- a fault and nothing
better-none : (a : Least) → better_of a least.Nothing ≡ a
better-none least.Nothing = refl
better-none (least.Fault e n p i) = refl

module _ (b : List ℕ) (n m f : ℕ) (file incoming : List ℕ) (slash : Bool) (cells entries cells2 entries2 : List ℕ) (swap : Swap) where
  module _ (leaver : Whom) (type : List ℕ) (newcomer : Whom) (type2 : List ℕ) where
    -- the flags of arc j, and whether one is set
    abbrev flags_of : ℕ → List ℕ
    flags_of = seating.flags_of b n m f file incoming slash cells entries cells2 entries2 swap leaver type newcomer type2

    abbrev touched_at : ℕ → Bool
    touched_at = seating.touched_at b n m f file incoming slash cells entries cells2 entries2 swap leaver type newcomer type2

    abbrev Covers : (ℕ → Bool) → Type 0
    Covers = seating.Covers b n m f file incoming slash cells entries cells2 entries2 swap leaver type newcomer type2

    abbrev SeatsAre : (hit : ℕ → Bool) (from k : ℕ) (arcs flags : List ℕ) → Type 0
    SeatsAre = seating.SeatsAre b n m f file incoming slash cells entries cells2 entries2 swap leaver type newcomer type2

    abbrev SeatsThrough : (arcs flags : List ℕ) (count : ℕ) (states : List ℕ) → Least → Type 0
    SeatsThrough = seating.SeatsThrough b n m f file incoming slash cells entries cells2 entries2 swap

    module _ (hit : ℕ → Bool) (from k : ℕ) (arcs flags states : List ℕ) (ready : SwapReady cells entries cells2 entries2 swap) (covers : Covers hit)
        (inside : from + k ≤ m) (sat : SeatsAre hit from k arcs flags) where
      -- an arc that is not hit has no touched slot
      unhit : (j : ℕ) → j < m → hit j ≡ false → touched_at j ≡ false
      unhit j h e = go (touched_at j) refl
        where
          go : (t : Bool) → touched_at j ≡ t → t ≡ false
          go true p = clash (sym e ∙ covers j h p)
          go false p = refl

      -- the seat of one that is
      seat_of_lem : (j : ℕ) → j < k → hit (from + j) ≡ true
          → (length (chosen hit from j) < length (chosen hit from k))
          × (get_or arcs (length (chosen hit from j)) 0 ≡ place b (from + j) f) × (part_no 18 flags (length (chosen hit from j)) ≡ flags_of (from + j))
      seat_of_lem j h e =
          let w = chosen_has hit from k j h e in
          let s = sat (length (chosen hit from j)) w.0 in
          (w.0, (rw w.1 at s.0), (rw w.1 at s.1))

      -- 1. The least fault

      module _ (own best : Least) (so : ArcsSoFar b n m f file incoming slash cells entries cells2 entries2 swap leaver type newcomer type2 own from best) where
        -- all seats came through
        passed : SeatsThrough arcs flags (length (chosen hit from k)) states least.Nothing → (i : ℕ) → i ≤ k
            → ArcsSoFar b n m f file incoming slash cells entries cells2 entries2 swap leaver type newcomer type2 own (from + i) best
        passed ran zero h = rw (add-zero from) so
        passed ran (suc i) h = let e : from + suc i ≡ suc (from + i) = omega arith in rw e (by (hit (from + i)) refl (passed ran i (omega arith)))
          where
            by : (t : Bool) → hit (from + i) ≡ t
                → ArcsSoFar b n m f file incoming slash cells entries cells2 entries2 swap leaver type newcomer type2 own (from + i) best
                → ArcsSoFar b n m f file incoming slash cells entries cells2 entries2 swap leaver type newcomer type2 own (suc (from + i)) best
            by true t w =
                let s = seat_of_lem i h t in
                let r = rw (s.1, s.2) at (ran (length (chosen hit from i)) s.0) in
                rw (better-none best) at (arcs_more b n m f file incoming slash cells entries cells2 entries2 swap leaver type newcomer type2 own (from + i)
                (place b (from + i) f) (flags_of (from + i)) (part_no 144 states (length (chosen hit from i))) best least.Nothing ready (omega arith) refl refl w r)
            by false t w =
                arcs_pass b n m f file incoming slash cells entries cells2 entries2 swap leaver type newcomer type2 own (from + i) (place b (from + i) f)
                (flags_of (from + i)) best ready (omega arith) refl refl (unhit (from + i) (omega arith) t) w

        -- one has a fault, and no other an earlier one
        stopped : (ev x p : ℕ) (s : Bool) → SeatsThrough arcs flags (length (chosen hit from k)) states (least.Fault ev x p s)
            → ArcsSoFar b n m f file incoming slash cells entries cells2 entries2 swap leaver type newcomer type2 own (from + k)
            (better_of best (least.Fault ev x p s))
        unfolding better
        stopped ev x p s ran bytes good g w o =
            rw (least-among fault (own_fault (news b n m f file incoming slash g)) from h k (number - from) (omega (arith, there)) is late)
            (better-is b n m f file incoming slash g _ (some h) best (least.Fault ev x p s) (so bytes good g w o) (refl, this.1))
          where
            h : Fault
            h = record { event = ev; number = x }

            fault : ℕ → Option Fault
            fault j =
                group_fault (arc_slots j) (touched b n m f file incoming slash g) (values_of (sheet_at b n m f)) (news b n m f file incoming slash g)

            flagged : (j : ℕ) → j < m → Flags (flags_of j) j (touched b n m f file incoming slash g)
            flagged j l =
                flags_both b n m f file incoming slash cells entries cells2 entries2 swap leaver type newcomer type2 ready bytes good g w j l

            number : ℕ
            number = get_or (chosen hit from k) ran.0.0 0

            there : (from ≤ number) × (number < from + k)
            there = chosen_in hit from k ran.0.0 ran.0.1

            below : number < m
            below = let t = there.1 in omega arith

            this : LeastIs b n m f file incoming slash g (fault number) (least.Fault ev x p s)
            this =
                let a = sat ran.0.0 ran.0.1 in
                (ran.0.2 bytes good number below a.0 g (rw a.1 (flagged number below))).0

            is : fault (from + (number - from)) ≡ some h
            is = let t = there.0 in let e : from + (number - from) ≡ number = omega arith in rw e this.0

            late : (j : ℕ) → j < k → better (fault (from + j)) (some h) ≡ some h
            late j l = by (hit (from + j)) refl
              where
                by : (t : Bool) → hit (from + j) ≡ t → better (fault (from + j)) (some h) ≡ some h
                by true t =
                    let a = seat_of_lem j l t in
                    ran.1 (length (chosen hit from j)) a.0 bytes good (from + j) (omega arith) a.1 g (rw a.2 (flagged (from + j) (omega arith)))
                by false t =
                    rw (none-set (flags_of (from + j)) (from + j) (touched b n m f file incoming slash g) (values_of (sheet_at b n m f)) (news b n m f file incoming slash g)
                    (flagged (from + j) (omega arith)) (unhit (from + j) (omega arith) t))

        pub chunk-judged : (r : Least) → SeatsThrough arcs flags (length (chosen hit from k)) states r
            → ArcsSoFar b n m f file incoming slash cells entries cells2 entries2 swap leaver type newcomer type2 own (from + k) (better_of best r)
        chunk-judged least.Nothing ran = rw (better-none best) (passed ran k (omega arith))
        chunk-judged (least.Fault ev x p s) ran = stopped ev x p s ran

      -- 2. What is written

      module _ (current o : List ℕ)
          (so : WrittenSoFar b n m f file incoming slash cells entries cells2 entries2 swap leaver type newcomer type2 current from o) where
        written : SeatsThrough arcs flags (length (chosen hit from k)) states least.Nothing → (i : ℕ) → i ≤ k
            → WrittenSoFar b n m f file incoming slash cells entries cells2 entries2 swap leaver type newcomer type2 current (from + i)
            (backs b arcs flags states o (length (chosen hit from i)))
        unfolding chosen backs
        written ran zero h = rw (add-zero from) so
        written ran (suc i) h = let e : from + suc i ≡ suc (from + i) = omega arith in rw e (by (hit (from + i)) refl (written ran i (omega arith)))
          where
            by : (t : Bool) → hit (from + i) ≡ t
                → WrittenSoFar b n m f file incoming slash cells entries cells2 entries2 swap leaver type newcomer type2 current (from + i)
                (backs b arcs flags states o (length (chosen hit from i)))
                → WrittenSoFar b n m f file incoming slash cells entries cells2 entries2 swap leaver type newcomer type2 current (suc (from + i))
                (backs b arcs flags states o (length (pick (hit (from + i)) (chosen hit from i ++ ((from + i) ∷ [])) (chosen hit from i))))
            by true t w =
                let s = seat_of_lem i h t in
                let r = rw (s.1, s.2) at (ran (length (chosen hit from i)) s.0) in
                let l : length (chosen hit from i ++ ((from + i) ∷ [])) ≡ suc (length (chosen hit from i))
                = length-append (chosen hit from i) ((from + i) ∷ []) ∙ add-one (length (chosen hit from i)) in
                rw (t, l) (written-more b n m f file incoming slash cells entries cells2 entries2 swap leaver type newcomer type2 current (from + i)
                (place b (from + i) f) (flags_of (from + i)) (part_no 144 states (length (chosen hit from i)))
                (backs b arcs flags states o (length (chosen hit from i))) _ least.Nothing ready (omega arith) refl refl w r (rw (s.1, s.2)))
            by false t w =
                rw t (written_pass b n m f file incoming slash cells entries cells2 entries2 swap leaver type newcomer type2 current (from + i)
                (place b (from + i) f) (flags_of (from + i)) (backs b arcs flags states o (length (chosen hit from i))) ready (omega arith) refl refl
                (unhit (from + i) (omega arith) t) w)

        pub chunk-written : (r : Least) → SeatsThrough arcs flags (length (chosen hit from k)) states r
            → WrittenSoFar b n m f file incoming slash cells entries cells2 entries2 swap leaver type newcomer type2 current (from + k)
            (backs b arcs flags states o (length (chosen hit from k)))
        chunk-written least.Nothing ran = written ran k (omega arith)
        chunk-written (least.Fault ev x p s) ran = λ bytes good g w none-at v e.
            let number = get_or (chosen hit from k) ran.0.0 0 in
            let a = sat ran.0.0 ran.0.1 in
            let t = (chosen_in hit from k ran.0.0 ran.0.1).1 in
            let below : number < m = omega arith in
            let y = (ran.0.2 bytes good number below a.0 g
            (rw a.1 (flags_both b n m f file incoming slash cells entries cells2 entries2 swap leaver type newcomer type2 ready bytes good g w number below))).0 in
            absurd (none≢some (sym (none-at number below) ∙ y.0))

-- 3. By what the functions say of a part

-- the arcs that were chosen, as the part of the table that they fill
pub part_long : (count : ℕ) (arcs : List ℕ) → count ≤ length arcs → length (take (count - 0) arcs) ≡ count
part_long count arcs fit = length-take-le (count - 0) arcs (omega arith) ∙ omega arith

pub part_chosen : (b : List ℕ) (m f : ℕ) (bits : List ℕ) (from count next at : ℕ) (arcs : List ℕ) → Chose b m f bits from count next at arcs
    → Chose b m f bits from count next at (take (count - 0) arcs)
part_chosen b m f bits from count next at arcs c =
    (c.0, c.1, c.2, c.3, c.4, c.5, c.6, λ i h. get_or-take (count - 0) arcs i 0 (omega arith) ∙ c.7 i h)

module _ (b : List ℕ) (n m f : ℕ) (file incoming : List ℕ) (slash : Bool) (cells entries cells2 entries2 : List ℕ) (swap : Swap)
    (leaver : Whom) (type : List ℕ) (newcomer : Whom) (type2 : List ℕ) where
  module _ (ready : SwapReady cells entries cells2 entries2 swap) (bits : List ℕ)
      (covers : seating.MarksCover b n m f file incoming slash cells entries cells2 entries2 swap leaver type newcomer type2 bits)
      (from count next at : ℕ) (arcs flags states : List ℕ) (chose : Chose b m f bits from count next at arcs)
      (flagged : seating.FlagsSeated b n m f file incoming slash cells entries cells2 entries2 swap leaver type newcomer type2 arcs count flags) (r : Least)
      (ran : seating.SeatsThrough b n m f file incoming slash cells entries cells2 entries2 swap arcs flags count states r) where
    -- the arcs that were chosen have their seats and their flags
    sat : seating.SeatsAre b n m f file incoming slash cells entries cells2 entries2 swap leaver type newcomer type2 (marked_at b f bits) from chose.0 arcs flags
    sat i h = let l : i < count = rw chose.5 h in (chose.7 i l, flagged i l ∙ rw (chose.7 i l))

    through : seating.SeatsThrough b n m f file incoming slash cells entries cells2 entries2 swap arcs flags (length (chosen (marked_at b f bits) from chose.0))
        states r
    through = rw (← chose.5) ran

    inside : from + chose.0 ≤ m
    inside = let e = chose.1 in let h = chose.2 in omega arith

    pub part-judged : (own best : Least) → ArcsSoFar b n m f file incoming slash cells entries cells2 entries2 swap leaver type newcomer type2 own from best
        → ArcsSoFar b n m f file incoming slash cells entries cells2 entries2 swap leaver type newcomer type2 own next (better_of best r)
    part-judged own best so =
        rw chose.1
        (chunk-judged b n m f file incoming slash cells entries cells2 entries2 swap leaver type newcomer type2 (marked_at b f bits) from chose.0 arcs flags states
        ready covers inside sat own best so r through)

    pub part-written : (current o : List ℕ)
        → WrittenSoFar b n m f file incoming slash cells entries cells2 entries2 swap leaver type newcomer type2 current from o
        → WrittenSoFar b n m f file incoming slash cells entries cells2 entries2 swap leaver type newcomer type2 current next (backs b arcs flags states o count)
    part-written current o so =
        rw (chose.1, chose.5)
        (chunk-written b n m f file incoming slash cells entries cells2 entries2 swap leaver type newcomer type2 (marked_at b f bits) from chose.0 arcs flags states
        ready covers inside sat current o so r through)

    -- a part that goes up to the last arc
    pub last_judged : (own best end : Least) → next ≡ m → end ≡ better_of best r
        → ArcsSoFar b n m f file incoming slash cells entries cells2 entries2 swap leaver type newcomer type2 own from best → ArcsRan b n m f file incoming slash cells entries cells2 entries2 swap leaver type newcomer type2 own end
    last_judged own best end e a so = arcs_end b n m f file incoming slash cells entries cells2 entries2 swap leaver type newcomer type2 own end (rw (e, ← a) at (part-judged own best so))

    pub last_written : (current o end : List ℕ) → next ≡ m → end ≡ backs b arcs flags states o count
        → WrittenSoFar b n m f file incoming slash cells entries cells2 entries2 swap leaver type newcomer type2 current from o → ArcsWritten b n m f file incoming slash cells entries cells2 entries2 swap leaver type newcomer type2 current end
    last_written current o end e a so = written_end b n m f file incoming slash cells entries cells2 entries2 swap leaver type newcomer type2 current end (rw (e, ← a) at (part-written current o so))

  -- all were judged, and all are written, or none is
  module _ (own : Least) (current : List ℕ) where
    pub swapped-done : (r : Least) (current' : List ℕ) → is_fault r ≡ false
        → ArcsRan b n m f file incoming slash cells entries cells2 entries2 swap leaver type newcomer type2 own r
        → ArcsWritten b n m f file incoming slash cells entries cells2 entries2 swap leaver type newcomer type2 current current'
        → seating.SwapSeated b n m f file incoming slash cells entries cells2 entries2 swap leaver type newcomer type2 own current current' r
    swapped-done least.Nothing current' e ran written = (ran, written)
    swapped-done (least.Fault ev x p s) current' e ran written = clash (sym e)

    pub swapped-stop : (r : Least) (current' : List ℕ) → is_fault r ≡ true
        → ArcsRan b n m f file incoming slash cells entries cells2 entries2 swap leaver type newcomer type2 own r → current' ≡ current
        → seating.SwapSeated b n m f file incoming slash cells entries cells2 entries2 swap leaver type newcomer type2 own current current' r
    swapped-stop least.Nothing current' e ran same = clash e
    swapped-stop (least.Fault ev x p s) current' e ran same = (ran, same)
