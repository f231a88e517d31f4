-- Names that agree, parts of a table, and one turn of each loop over seats.
-- Assumes nothing.
use Rattle.std.specs.Prelude.{ℕ, zero, suc, ◌+◌, ◌*◌, ◌<◌, ◌≤◌, ◌≡◌, Bool, not, List, [], ◌∷◌, ◌⊎◌, eqb, ltb, length, get_or, take}
use Rattle.std.proofs.Math.Path.{refl}
use Rattle.std.proofs.Common.{sym, ap, ◌∙◌, ⊎_elim, take-take}
use Rattle.std.proofs.Math.Bool.{true, false}
use Rattle.std.proofs.Math.Logic.{inl, inr}
use native.Mathlib.Omega.{arith}
use Rattle.std.proofs.Math.Dec.{leb}
use borrow.Author.Tests.{eqb-true, eqb-false, eq-eqb, ne_eqb, ltb-false, leb-true, leb-false, le-ltb, not-true}
use Rattle.classes.specs.Choice.{pick, and}
use Rattle.nameshape.specs.Shape.{escapes}
use Rattle.names.specs.Order.{front, front-nil, front-cons, same_text}
use Rattle.names.specs.Name.{canon, canon_from, turned, part_of, both}
use Rattle.sheetparts.specs.Form.{Key, key_at, path_at, type_at, cmp_key}
use Rattle.sheetlaws.specs.Sheet.{in_end, nth}
use Rattle.views.specs.Views.{cell_at, head_at}
use Rattle.history.proofs.EventLaws.{clash}
use Rattle.meant.specs.Cells.{entries_before}
use Rattle.grammar.specs.declared.Entry.{Entry}
use Rattle.meant.specs.Find.{wanted, key-same}
use Rattle.meant.specs.Bytes.{some_of, device_hit}
use Rattle.meant.specs.WhomType.{Whom}
use Rattle.meant.specs.WhomType.TheVariants.{One, Every, Nobody}
use Rattle.meant.specs.Whom.{whom_of}
use Rattle.meant.specs.Meant.{may_touch, meant_in, meant_every}
use Rattle.meant.specs.Amounts.{lesser, arc_written}
use Rattle.meant.specs.Entries.{rows_at}
use Rattle.meant.specs.Scratch.{masked}
use Rattle.arcrun.specs.declared.Least.{Least}
use Rattle.arcrun.specs.declared.Least.TheVariants as least
use Rattle.meant.specs.Touch.{meant_for}
use Rattle.arcrun.specs.Run.{row_refusal, entry_number, entry_state}
use Rattle.arcrun.specs.RunLaws.{RunSoFar, run_none, run_more, run-stop, run_end}
use Rattle.arcrun.specs.CellRuns.{cell_ran, cell_skipped, CellsSoFar, cells-none, cells-more, cells-stop, cells_end}
use Rattle.arcrun.specs.Late.{late_stop, cell_late, cells_late}
use Rattle.findseat.specs.Findseat.{OnlySeat}
use Rattle.marking.specs.Parts.{part_no, part_own, part_other}
use Rattle.nearby.specs.Seats.{agree, Ends, Common, NoneNear, kind_fits, NoneFits, LeastOf, SeatRan, EntryRan, EntryFault, EntryRun, EntriesSeatsRan, SeatsRan, CellsSeatsRan}

-- 1. Names that agree

pub agree-nil : (x : List ℕ) → agree x [] ≡ true
unfolding agree
agree-nil [] = refl
agree-nil (c ∷ r) = refl

-- of a name that agrees, any front part does
pub agree-take : (y x : List ℕ) (k : ℕ) → agree y x ≡ true → agree y (take k x) ≡ true
unfolding agree
agree-take [] x k h = refl
agree-take (c ∷ y) x zero h = refl
agree-take (c ∷ y) [] (suc k) h = refl
agree-take (c ∷ y) (d ∷ x) (suc k) h =
    let w = both (eqb c d) _ h in
    rw w.0 (agree-take y x k w.1)

-- one byte more
pub agree-more : (y x : List ℕ) (i : ℕ) → i < length y → i < length x → get_or y i 0 ≡ get_or x i 0 → agree y (take i x) ≡ true → agree y (take (suc i) x) ≡ true
unfolding agree
agree-more [] x i h g e a = absurd (omega arith)
agree-more (c ∷ y) [] i h g e a = absurd (omega arith)
agree-more (c ∷ y) (d ∷ x) zero h g e a = rw (eq-eqb c d e) (agree-nil y)
agree-more (c ∷ y) (d ∷ x) (suc i) h g e a =
    let w = both (eqb c d) _ a in
    rw w.0 (agree-more y x i (omega arith) (omega arith) e w.1)

-- past the end of y any bytes do
pub agree-past : (y x : List ℕ) (i k : ℕ) → length y ≤ i → agree y (take i x) ≡ true → agree y (take k x) ≡ true
unfolding agree
agree-past [] x i k h a = refl
agree-past (c ∷ y) x zero k h a = absurd (omega arith)
agree-past (c ∷ y) x (suc i) zero h a = refl
agree-past (c ∷ y) [] (suc i) (suc k) h a = refl
agree-past (c ∷ y) (d ∷ x) (suc i) (suc k) h a =
    let w = both (eqb c d) _ a in
    rw w.0 (agree-past y x i k (omega arith) w.1)

-- a name of which n bytes agree with the ends of some arcs, and r of these with those of one more
module _ (b : List ℕ) (name : List ℕ) (n r : ℕ) (less : r ≤ n) where
  pub ends_both : (q : ℕ) → agree (key_at b q).first (take n name) ≡ true → agree (key_at b q).second (take r (take n name)) ≡ true
      → Ends b q (take r name)
  ends_both q x y = let e = take-take r n name less in (rw (← e) (agree-take (key_at b q).first (take n name) r x), rw (← e) y)

  pub common_more : (arcs : List ℕ) (i : ℕ) → Common b arcs i (take n name) → Ends b (get_or arcs i 0) (take r (take n name))
      → Common b arcs (i + 1) (take r name)
  common_more arcs i so x k h = let e = take-take r n name less in rw (← e) (go (eqb k i) refl)
    where
      go : (t : Bool) → eqb k i ≡ t → Ends b (get_or arcs k 0) (take r (take n name))
      go true p = rw (eqb-true k i p) x
      go false p =
          let d = eqb-false k i p in
          let w = so k (omega arith) in
          (agree-take _ (take n name) r w.0, agree-take _ (take n name) r w.1)

-- bytes that compare as the same are the same
same_byte : (x y v : ℕ) → pick (ltb x y) 0 (pick (ltb y x) 2 v) ≡ 1 → (x ≡ y) × (v ≡ 1)
same_byte x y v = go (ltb x y) (ltb y x) refl refl
  where
    go : (s t : Bool) → ltb x y ≡ s → ltb y x ≡ t → pick s 0 (pick t 2 v) ≡ 1 → (x ≡ y) × (v ≡ 1)
    go true t p q e = absurd (omega arith)
    go false true p q e = absurd (omega arith)
    go false false p q e = let u = ltb-false x y p in let w = ltb-false y x q in (omega arith, e)

-- a front part of an end agrees with every name that agrees with the end
pub agree-front : (e p c : List ℕ) → front e p ≡ 1 → agree e c ≡ true → agree c p ≡ true
unfolding front agree
agree-front e [] c f a = agree-nil c
agree-front [] (y ∷ p) c f a = absurd (omega arith)
agree-front (x ∷ e) (y ∷ p) [] f a = refl
agree-front (x ∷ e) (y ∷ p) (z ∷ c) f a =
    let s = same_byte x y (front e p) f in
    let w = both (eqb x z) _ a in
    let d : z ≡ y = sym (eqb-true x z w.0) ∙ s.0 in
    rw (eq-eqb z y d) (agree-front e p c s.1 w.1)

-- a written name that agrees: its first bytes are a front part
agree-written : (slash escaped : Bool) (x p : List ℕ) → agree x (canon_from slash escaped p) ≡ true
    → front x (canon_from slash escaped (take (length x) p)) ≡ 1
unfolding canon_from agree
agree-written slash escaped [] p a = front-nil []
agree-written slash escaped (c ∷ x) [] a = front-nil (c ∷ x)
agree-written slash escaped (c ∷ x) (d ∷ p) a =
    let w = both (eqb c (turned slash escaped d)) _ a in
    let e = eqb-true c (turned slash escaped d) w.0 in
    rw (front-cons, ← e, le-ltb c c (omega arith)) (agree-written slash (escapes escaped d) x p w.1)

pub agree-canon : (slash : Bool) (x p : List ℕ) → agree x (canon slash p) ≡ true → front x (canon slash (take (length x) p)) ≡ 1
unfolding canon
agree-canon slash x p a = agree-written slash false x p a

-- 2. A cell that can touch none

-- one number more for which a test fails
pub one_more : (test : ℕ → Bool) (i : ℕ) → ((k : ℕ) → k < i → test k ≡ false) → test i ≡ false → (k : ℕ) → k < i + 1 → test k ≡ false
one_more test i so e k h = go (eqb k i) refl
  where
    go : (z : Bool) → eqb k i ≡ z → test k ≡ false
    go true p = rw (eqb-true k i p) e
    go false p = let d = eqb-false k i p in so k (omega arith)

-- what is not so
pub unless : (a r : Bool) → (a ≡ true → r ≡ true) → not r ≡ true → a ≡ false
unless true r h e = clash (sym (not-true r e) ∙ h refl)
unless false r h e = refl

-- the path of a cell that does not agree with the common name is no front part of an end
pub far_off : (b text : List ℕ) (slash : Bool) (from to q : ℕ) (x : List ℕ) → agree x (canon slash (part_of text from to)) ≡ false → Ends b q x
    → may_touch b text slash from to q ≡ false
unfolding may_touch
far_off b text slash from to q x a ends =
    rw (none (key_at b q).first ends.0, none (key_at b q).second ends.1)
  where
    none : (e : List ℕ) → agree e x ≡ true → eqb (front e (canon slash (part_of text from to))) 1 ≡ false
    none e h = go (eqb (front e (canon slash (part_of text from to))) 1) refl
      where
        go : (t : Bool) → eqb (front e (canon slash (part_of text from to))) 1 ≡ t → t ≡ false
        go true z = clash (sym a ∙ agree-front e (canon slash (part_of text from to)) x (eqb-true _ _ z) h)
        go false z = refl

-- 3. Parts of a table

-- 4. An entry that cannot mean an arc

module _ (b text : List ℕ) (slash : Bool) (n : ℕ) (h : Entry) (q : ℕ) (no : kind_fits h.kind (key_at b q).kind ≡ false) where
  unmeant_in : (p : ℕ) → meant_in b text slash h p q ≡ false
  unfolding meant_in device_hit wanted
  unmeant_in p = go (eqb h.kind 4) refl
    where
      key : Key
      key = wanted slash h.kind h.edge1 h.edge2 (path_at b p) (part_of text h.from1 h.to1) (part_of text h.from2 h.to2)

      same : eqb h.kind 4 ≡ false → (z : Bool) → eqb (cmp_key (key_at b q) key) 1 ≡ z → z ≡ false
      same d true e =
          let k : (key_at b q).kind ≡ h.kind = ap (λ (x : Key). x.kind) (key-same (key_at b q) key (eqb-true _ _ e)) in
          clash (sym (rw d at no) ∙ eq-eqb _ _ k)
      same d false e = refl

      go : (t : Bool) → eqb h.kind 4 ≡ t → pick t (device_hit b text slash h p q) (eqb (cmp_key (key_at b q) key) 1) ≡ false
      go true d = rw (rw d at no)
      go false d = same d (eqb (cmp_key (key_at b q) key) 1) refl

  pub unmeant : (whom : Whom) (type : List ℕ) → meant_for b text slash n h whom type q ≡ false
  unfolding meant_for meant_every some_of
  unmeant (One p) type = unmeant_in p
  unmeant Every type =
      none_of (λ k. and (same_text (type_at b (nth (in_end b) k 12)) type) (meant_in b text slash h (nth (in_end b) k 12) q)) n
      (λ k. rw (unmeant_in (nth (in_end b) k 12)) (and-false (same_text (type_at b (nth (in_end b) k 12)) type)))
    where
      and-false : (t : Bool) → and t false ≡ false
      and-false true = refl
      and-false false = refl

      none_of : (hit : ℕ → Bool) (k : ℕ) → ((i : ℕ) → hit i ≡ false) → some_of hit k ≡ false
      none_of hit zero e = refl
      none_of hit (suc k) e = rw (none_of hit k e, e k)
  unmeant (Nobody x) type = refl

-- it changes nothing
module _ (b text : List ℕ) (slash : Bool) (n : ℕ) (t : List ℕ) (row : ℕ) (whom : Whom) (type : List ℕ) (q : ℕ) (flags st : List ℕ) where
  passed_number : meant_for b text slash n (head_at t row) whom type q ≡ false → entry_number b text slash n t row whom type q flags st ≡ 0
  unfolding entry_number
  passed_number un = rw un

  passed_state : meant_for b text slash n (head_at t row) whom type q ≡ false → entry_state b text slash n t row whom type q flags st ≡ st
  unfolding entry_state
  passed_state un = rw un

  -- nor does one with a fault
  fault_state : (entry_number b text slash n t row whom type q flags st ≡ 0 → ⊥) → entry_state b text slash n t row whom type q flags st ≡ st
  unfolding entry_number entry_state
  fault_state bad = go (meant_for b text slash n (head_at t row) whom type q) refl
    where
      go : (z : Bool) → meant_for b text slash n (head_at t row) whom type q ≡ z
          → pick z (pick (eqb (row_refusal b text slash n t row whom type q flags st) 0)
          (arc_written st 0 (masked (rows_at t row) flags) (eqb (head_at t row).group 73) 18) st) st ≡ st
      go true e = rw (ne_eqb (row_refusal b text slash n t row whom type q flags st) 0 (rw e at bad))
      go false e = refl

-- 5. The least number of the seats

module _ (number : ℕ → ℕ) where
  least-none : LeastOf number 0 0
  least-none = (λ k h. absurd (omega arith), λ e. absurd (e refl))

  -- one number more, of which x is the new least
  least_step : (i l x : ℕ) → LeastOf number i l → ((number i ≡ 0) ⊎ ((0 < x) × (x ≤ number i)))
      → (0 < l → (0 < x) × (x ≤ l)) → ((x ≡ 0 → ⊥) → (x ≡ l) ⊎ (x ≡ number i)) → LeastOf number (i + 1) x
  least_step i l x so own old new = (
    λ k h. go k h (eqb k i) refl,
    λ e. ⊎_elim
        (λ z. let w = so.1 (λ d. e (z ∙ d)) in (w.0, (let y = w.1 in omega arith), w.2 ∙ sym z))
        (λ z. (i, omega arith, sym z)) (new e),
  )
    where
      go : (k : ℕ) → k < i + 1 → (t : Bool) → eqb k i ≡ t → (number k ≡ 0) ⊎ ((0 < x) × (x ≤ number k))
      go k h true e = rw (eqb-true k i e) own
      go k h false e =
          let d = eqb-false k i e in
          ⊎_elim (λ z. inl z) (λ w. let u = old w.0 in let v = w.1 in inr (u.0, omega (arith, u.1, v))) (so.0 k (omega arith))

  -- a number that is 0
  least_pass : (i l : ℕ) → LeastOf number i l → number i ≡ 0 → LeastOf number (i + 1) l
  least_pass i l so z = least_step i l l so (inl z) (λ h. (h, omega arith)) (λ e. inl refl)

  least_more : (i l r : ℕ) → r ≡ number i → LeastOf number i l → LeastOf number (i + 1) (lesser l r)
  unfolding lesser
  least_more i l r p so = first (eqb l 0) refl
    where
      third : (t : Bool) → leb l r ≡ t → (l ≡ 0 → ⊥) → (r ≡ 0 → ⊥) → LeastOf number (i + 1) (pick t l r)
      third true e d g =
          let w = leb-true l r e in
          least_step i l l so (inr (omega arith, omega arith)) (λ h. (h, omega arith)) (λ z. inl refl)
      third false e d g =
          let w = leb-false l r e in
          least_step i l r so (inr (omega arith, omega arith)) (λ h. (omega arith, omega arith)) (λ z. inr p)

      second : (t : Bool) → eqb r 0 ≡ t → (l ≡ 0 → ⊥) → LeastOf number (i + 1) (pick t l (pick (leb l r) l r))
      second true e d = let z = eqb-true r 0 e in least_pass i l so (sym p ∙ z)
      second false e d = third (leb l r) refl d (eqb-false r 0 e)

      own : (t : Bool) → eqb r 0 ≡ t → (number i ≡ 0) ⊎ ((0 < r) × (r ≤ number i))
      own true e = let z = eqb-true r 0 e in inl (sym p ∙ z)
      own false e = let z = eqb-false r 0 e in inr (omega arith, omega arith)

      first : (t : Bool) → eqb l 0 ≡ t → LeastOf number (i + 1) (pick t r (pick (eqb r 0) l (pick (leb l r) l r)))
      first true e =
          let z = eqb-true l 0 e in
          least_step i l r so (own (eqb r 0) refl) (λ h. absurd (omega arith)) (λ x. inr p)
      first false e = second (eqb r 0) refl (eqb-false l 0 e)

  -- all but one are 0
  least-one : (count s : ℕ) → s < count → ((k : ℕ) → k < count → (k ≡ s → ⊥) → number k ≡ 0) → LeastOf number count (number s)
  least-one count s h none = (λ k l. go k l (eqb k s) refl, λ e. (s, h, refl))
    where
      own : (t : Bool) → eqb (number s) 0 ≡ t → (number s ≡ 0) ⊎ ((0 < number s) × (number s ≤ number s))
      own true e = inl (eqb-true (number s) 0 e)
      own false e = let z = eqb-false (number s) 0 e in inr (omega arith, omega arith)

      go : (k : ℕ) → k < count → (t : Bool) → eqb k s ≡ t → (number k ≡ 0) ⊎ ((0 < number s) × (number s ≤ number k))
      go k l true e = rw (eqb-true k s e) (own (eqb (number s) 0) refl)
      go k l false e = inl (none k l (eqb-false k s e))

  least-all : (count : ℕ) → ((k : ℕ) → k < count → number k ≡ 0) → LeastOf number count 0
  least-all count none = (λ k l. inl (none k l), λ e. absurd (e refl))

-- 6. One seat more

module _ (b text : List ℕ) (slash : Bool) (n : ℕ) (t : List ℕ) (row : ℕ) (whom : Whom) (type : List ℕ) (arcs flags states : List ℕ) where
  -- the entry's number and the state behind it, seat by seat
  abbrev number : ℕ → ℕ
  number i = entry_number b text slash n t row whom type (get_or arcs i 0) (part_no 18 flags i) (part_no 144 states i)

  abbrev state : ℕ → List ℕ
  state i = entry_state b text slash n t row whom type (get_or arcs i 0) (part_no 18 flags i) (part_no 144 states i)

  -- the states of the first i seats are those behind it, whether or not it has a fault, and their least number is l
  entry-run : (count l : ℕ) (o : List ℕ) → ((k : ℕ) → k < count → part_no 144 o k ≡ state k) → LeastOf number count l
      → EntryRun b text slash n t row whom type arcs flags states count o l
  entry-run count l o held so = (
    λ e i h. (⊎_elim (λ z. z) (λ w. let y = w.0 in absurd (omega arith)) (so.0 i h), held i h),
    λ e. (so.1 e, λ i h. ⊎_elim (λ z. inl z) (λ w. inr w.1) (so.0 i h)),
  )

  -- what one seat's run makes of the table: its own state, and the others'
  seat_own : (i r : ℕ) (o o' : List ℕ) → 144 * i + 144 ≤ length o → part_no 144 o i ≡ part_no 144 states i
      → SeatRan b text slash n t row whom type (get_or arcs i 0) flags o o' i r → (r ≡ number i) × (part_no 144 o' i ≡ state i)
  seat_own i r o o' long same run = (rw (← same) run.0, go (eqb r 0) refl)
    where
      go : (z : Bool) → eqb r 0 ≡ z → part_no 144 o' i ≡ state i
      go true e =
          let w = run.2 (eqb-true r 0 e) in
          rw (w.2, part_own o w.0 (144 * i) 144 (omega arith) w.1, ← same) w.3
      go false e =
          let d = eqb-false r 0 e in
          rw (run.1 d) same
          ∙ sym (fault_state b text slash n t row whom type (get_or arcs i 0) (part_no 18 flags i) (part_no 144 states i)
          (λ z. d (run.0 ∙ rw same z)))

  seat_other : (i r k : ℕ) (o o' : List ℕ) → 144 * i + 144 ≤ length o → (k ≡ i → ⊥)
      → SeatRan b text slash n t row whom type (get_or arcs i 0) flags o o' i r → part_no 144 o' k ≡ part_no 144 o k
  seat_other i r k o o' long d run = go (eqb r 0) refl
    where
      go : (z : Bool) → eqb r 0 ≡ z → part_no 144 o' k ≡ part_no 144 o k
      go true e = let w = run.2 (eqb-true r 0 e) in rw w.2 (part_other o w.0 i k (omega arith) w.1 d)
      go false e = rw (run.1 (eqb-false r 0 e))

  -- the first i seats were run, with the least number l, and the others are as they were
  abbrev pub SeatsSoFar : ℕ → List ℕ → ℕ → Type 0
  SeatsSoFar i o l =
      ((k : ℕ) → k < i → part_no 144 o k ≡ entry_state b text slash n t row whom type (get_or arcs k 0) (part_no 18 flags k) (part_no 144 states k))
      × ((k : ℕ) → i ≤ k → part_no 144 o k ≡ part_no 144 states k)
      × LeastOf (λ k. entry_number b text slash n t row whom type (get_or arcs k 0) (part_no 18 flags k) (part_no 144 states k)) i l

  pub seats_none : SeatsSoFar 0 states 0
  seats_none = (λ i h. absurd (omega arith), λ k h. refl, least-none number)

  pub seats_more : (i l r : ℕ) (o o' : List ℕ) → 144 * i + 144 ≤ length o → SeatsSoFar i o l
      → SeatRan b text slash n t row whom type (get_or arcs i 0) flags o o' i r → SeatsSoFar (i + 1) o' (lesser l r)
  seats_more i l r o o' long so run = (
    λ k h. go k h (eqb k i) refl,
    λ k h. seat_other i r k o o' long (λ e. omega arith) run ∙ so.1 k (omega arith),
    least_more number i l r own.0 so.2,
  )
    where
      own : (r ≡ number i) × (part_no 144 o' i ≡ state i)
      own = seat_own i r o o' long (so.1 i (omega arith)) run

      go : (k : ℕ) → k < i + 1 → (z : Bool) → eqb k i ≡ z → part_no 144 o' k ≡ state k
      go k h true e = rw (eqb-true k i e) own.1
      go k h false e = let d = eqb-false k i e in seat_other i r k o o' long d run ∙ so.0 k (omega arith)

  -- a seat whose arc the entry does not mean
  pub seats_pass : (i l : ℕ) (o : List ℕ) → meant_for b text slash n (head_at t row) whom type (get_or arcs i 0) ≡ false → SeatsSoFar i o l
      → SeatsSoFar (i + 1) o l
  seats_pass i l o un so = (
    λ k h. go k h (eqb k i) refl,
    λ k h. so.1 k (omega arith),
    least_pass number i l so.2 (passed_number b text slash n t row whom type (get_or arcs i 0) (part_no 18 flags i) (part_no 144 states i) un),
  )
    where
      go : (k : ℕ) → k < i + 1 → (z : Bool) → eqb k i ≡ z → part_no 144 o k ≡ state k
      go k h true e =
          rw (eqb-true k i e)
          (so.1 i (omega arith)
          ∙ sym (passed_state b text slash n t row whom type (get_or arcs i 0) (part_no 18 flags i) (part_no 144 states i) un))
      go k h false e = let d = eqb-false k i e in so.0 k (omega arith)

  pub seats_end : (i count l : ℕ) (o : List ℕ) → i ≡ count → SeatsSoFar i o l → EntryRun b text slash n t row whom type arcs flags states count o l
  seats_end i count l o e so = let w = rw e at so in entry-run count l o w.0 w.2

  -- an entry that means none
  seats_unmeant : (count : ℕ) → ((i : ℕ) → i < count → meant_for b text slash n (head_at t row) whom type (get_or arcs i 0) ≡ false)
      → EntryRun b text slash n t row whom type arcs flags states count states 0
  seats_unmeant count none =
      entry-run count 0 states
      (λ k h. sym (passed_state b text slash n t row whom type (get_or arcs k 0) (part_no 18 flags k) (part_no 144 states k) (none k h)))
      (least-all number count (λ k h. passed_number b text slash n t row whom type (get_or arcs k 0) (part_no 18 flags k) (part_no 144 states k) (none k h)))

  -- one of a kind that fits none
  pub seats_unwanted : (count : ℕ) → NoneFits b (head_at t row).kind arcs count → EntryRan b text slash n t row whom type arcs flags states count states
  seats_unwanted count none =
      (seats_unmeant count (λ i h. unmeant b text slash n (head_at t row) (get_or arcs i 0) (none i h) whom type)).0 refl

  -- one that means at most the arc of seat s, which was run
  seats_only : (count s r : ℕ) (o : List ℕ) → s < count → 144 * count ≤ length states
      → ((i : ℕ) → i < count → (i ≡ s → ⊥) → meant_for b text slash n (head_at t row) whom type (get_or arcs i 0) ≡ false)
      → SeatRan b text slash n t row whom type (get_or arcs s 0) flags states o s r
      → EntryRun b text slash n t row whom type arcs flags states count o r
  seats_only count s r o h long none run =
      entry-run count r o (λ k l. go k l (eqb k s) refl)
      (rw own.0 (least-one number count s h (λ k l d. passed_number b text slash n t row whom type (get_or arcs k 0) (part_no 18 flags k) (part_no 144 states k) (none k l d))))
    where
      own : (r ≡ number s) × (part_no 144 o s ≡ state s)
      own = seat_own s r states o (omega arith) refl run

      go : (k : ℕ) → k < count → (z : Bool) → eqb k s ≡ z → part_no 144 o k ≡ state k
      go k l true e = rw (eqb-true k s e) own.1
      go k l false e =
          let d = eqb-false k s e in
          seat_other s r k states o (omega arith) d run
          ∙ sym (passed_state b text slash n t row whom type (get_or arcs k 0) (part_no 18 flags k) (part_no 144 states k) (none k l d))

-- the seat that a search gives
module _ (b text : List ℕ) (slash : Bool) (n : ℕ) (t : List ℕ) (row p : ℕ) (type arcs flags states : List ℕ) (count s : ℕ)
    (only : OnlySeat b text slash n (head_at t row) p type arcs count s) where
  -- is none
  pub found_none : count ≤ s → EntryRun b text slash n t row (One p) type arcs flags states count states 0
  found_none h = seats_unmeant b text slash n t row (One p) type arcs flags states count (λ i l. only.1 i l (λ e. omega arith))

  -- or was run
  pub found-run : (r : ℕ) (o : List ℕ) → s < count → 144 * count ≤ length states
      → SeatRan b text slash n t row (One p) type (get_or arcs s 0) flags states o s r
      → EntryRun b text slash n t row (One p) type arcs flags states count o r
  found-run r o h long run = seats_only b text slash n t row (One p) type arcs flags states count s r o h long only.1 run

-- 7. One entry more

module _ (b text : List ℕ) (slash : Bool) (n m f : ℕ) (side : Bool) (t : List ℕ) (first some : ℕ) (whom : Whom) (type : List ℕ) (event : ℕ)
    (arcs flags states : List ℕ) (count : ℕ) where
  -- all seats were run through the first k entries
  abbrev pub EntriesSoFar : ℕ → List ℕ → Type 0
  EntriesSoFar k o =
      (i : ℕ) → i < count → RunSoFar b text slash n m f side t first some whom type (get_or arcs i 0) (part_no 18 flags i) (part_no 144 states i) event k
      (part_no 144 o i)

  pub entries_none : EntriesSoFar 0 states
  entries_none i h = run_none b text slash n m f side t first some whom type (get_or arcs i 0) (part_no 18 flags i) (part_no 144 states i) event

  pub entries_more : (k : ℕ) (o o' : List ℕ) → k < some → EntriesSoFar k o
      → EntryRan b text slash n t (28 * (first + k)) whom type arcs flags o count o' → EntriesSoFar (suc k) o'
  entries_more k o o' l so run i h =
      run_more b text slash n m f side t first some whom type (get_or arcs i 0) (part_no 18 flags i) (part_no 144 states i) event k (part_no 144 o i) (part_no 144 o' i) l
      (so i h) (run i h).0 (run i h).1

  -- entry number k has a fault
  pub entries_stop : (k r : ℕ) (o o' : List ℕ) → k < some → EntriesSoFar k o → (r ≡ 0 → ⊥)
      → EntryFault b text slash n t (28 * (first + k)) whom type arcs flags o count r
      → EntriesSeatsRan b text slash n m f side t first some whom type event arcs flags states count o'
      (least.Fault (event + k) r (get_or t (28 * (first + k) + 2) 0) side)
  entries_stop k r o o' l so d fault = (
    (let i = fault.0.0 in
        let h = fault.0.1 in (
          i,
          h,
          run-stop b text slash n m f side t first some whom type (get_or arcs i 0) (part_no 18 flags i) (part_no 144 states i) event k (part_no 144 o i)
              (part_no 144 o' i) r l (so i h) (sym fault.0.2) d,
        )),
    λ i h. late_stop b text slash n m f side t first some whom type (get_or arcs i 0) (part_no 18 flags i) (part_no 144 states i) event k (part_no 144 o i) r l
        (so i h) (fault.1 i h),
  )

  pub entries_end : (o : List ℕ) → EntriesSoFar some o
      → EntriesSeatsRan b text slash n m f side t first some whom type event arcs flags states count o least.Nothing
  entries_end o so i h =
      run_end b text slash n m f side t first some whom type (get_or arcs i 0) (part_no 18 flags i) (part_no 144 states i) event (part_no 144 o i) (so i h)

-- 8. A cell

module _ (b text : List ℕ) (slash : Bool) (n m f : ℕ) (side : Bool) (cells : List ℕ) (row : ℕ) (entries : List ℕ) (first event : ℕ)
    (arcs flags states : List ℕ) (count : ℕ) where
  -- its entries were run
  pub seats_ran : (whom : Whom) (states' : List ℕ) (r : Least) → whom_of b text slash n (cell_at cells row) ≡ whom
      → EntriesSeatsRan b text slash n m f side entries first (cell_at cells row).entries whom
      (part_of text (cell_at cells row).typefrom (cell_at cells row).typeto) (event + 1) arcs flags states count states' r
      → SeatsRan b text slash n m f side cells row entries first event arcs flags states count states' r
  seats_ran whom states' least.Nothing e run = λ i h.
      cell_ran b text slash n m f side cells row entries first (get_or arcs i 0) (part_no 18 flags i) (part_no 144 states i) event (part_no 144 states' i) whom
      least.Nothing e (run i h)
  seats_ran whom states' (least.Fault ev x p s) e run = (
    (let i = run.0.0 in (
      i,
      run.0.1,
      cell_ran b text slash n m f side cells row entries first (get_or arcs i 0) (part_no 18 flags i) (part_no 144 states i) event
          (part_no 144 states' i) whom (least.Fault ev x p s) e run.0.2,
    )),
    λ i h. cell_late b text slash n m f side cells row entries first (get_or arcs i 0) (part_no 18 flags i) (part_no 144 states i) event whom ev x e
        (run.1 i h),
  )

  -- it can touch none
  pub seats_skipped : eqb (cell_at cells row).sort 2 ≡ false → NoneNear b text slash (cell_at cells row).pathfrom (cell_at cells row).pathto arcs count
      → SeatsRan b text slash n m f side cells row entries first event arcs flags states count states least.Nothing
  seats_skipped s none i h =
      cell_skipped b text slash n m f side cells row entries first (get_or arcs i 0) (part_no 18 flags i) (part_no 144 states i) event s (none i h)

  -- by its path against the common name
  pub far_none : (x : List ℕ) → agree x (canon slash (part_of text (cell_at cells row).pathfrom (cell_at cells row).pathto)) ≡ false → Common b arcs count x
      → NoneNear b text slash (cell_at cells row).pathfrom (cell_at cells row).pathto arcs count
  far_none x a common i h = far_off b text slash (cell_at cells row).pathfrom (cell_at cells row).pathto (get_or arcs i 0) x a (common i h)

-- 9. One cell more

module _ (b text : List ℕ) (slash : Bool) (n m f : ℕ) (cells : List ℕ) (from to : ℕ) (entries : List ℕ) (event : ℕ) (arcs flags states : List ℕ)
    (count : ℕ) where
  -- all seats were run through the cells number `from` up to k
  abbrev pub AllSoFar : ℕ → List ℕ → ℕ → Type 0
  AllSoFar k o next =
      (i : ℕ) → i < count → CellsSoFar b text slash n m f cells from to entries (get_or arcs i 0) (part_no 18 flags i) (part_no 144 states i) event k
      (part_no 144 o i) next

  pub all_none : AllSoFar from states event
  all_none i h = cells-none b text slash n m f cells from to entries (get_or arcs i 0) (part_no 18 flags i) (part_no 144 states i) event

  pub all_more : (k : ℕ) (o o' : List ℕ) (first next next' : ℕ) → from ≤ k → k < to → first ≡ entries_before cells k
      → next' ≡ next + (1 + get_or cells (7 * k + 6) 0) → AllSoFar k o next
      → SeatsRan b text slash n m f false cells (7 * k) entries first next arcs flags o count o' least.Nothing → AllSoFar (suc k) o' next'
  all_more k o o' first next next' u v e p so run i h =
      cells-more b text slash n m f cells from to entries (get_or arcs i 0) (part_no 18 flags i) (part_no 144 states i) event k (part_no 144 o i) (part_no 144 o' i)
      first next next' u v e p (so i h) (run i h)

  -- cell number k has a fault
  pub all-stop : (k : ℕ) (o o' : List ℕ) (first next ev x place : ℕ) (side : Bool) → from ≤ k → k < to → first ≡ entries_before cells k
      → AllSoFar k o next
      → SeatsRan b text slash n m f false cells (7 * k) entries first next arcs flags o count o' (least.Fault ev x place side)
      → CellsSeatsRan b text slash n m f cells from to entries event arcs flags states count o' (least.Fault ev x place side)
  all-stop k o o' first next ev x place side u v e so run = (
    (let i = run.0.0 in
        let h = run.0.1 in (
          i,
          h,
          cells-stop b text slash n m f cells from to entries (get_or arcs i 0) (part_no 18 flags i) (part_no 144 states i) event k (part_no 144 o i)
              (part_no 144 o' i) first next ev x place side u v e (so i h) run.0.2,
        )),
    λ i h. cells_late b text slash n m f cells from to entries (get_or arcs i 0) (part_no 18 flags i) (part_no 144 states i) event k (part_no 144 o i) first next
        ev x u v e (so i h) (run.1 i h),
  )

  pub all_end : (k : ℕ) (o : List ℕ) (next : ℕ) → to ≤ k → (from ≤ to → k ≤ to) → AllSoFar k o next
      → CellsSeatsRan b text slash n m f cells from to entries event arcs flags states count o least.Nothing
  all_end k o next u v so i h =
      cells_end b text slash n m f cells from to entries (get_or arcs i 0) (part_no 18 flags i) (part_no 144 states i) event k (part_no 144 o i) next u v (so i h)
