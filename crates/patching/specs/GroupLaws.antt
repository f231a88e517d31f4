-- Laws of the slots of one arc, run together: they find what the slot by slot scan finds, they can be cut at any event, and they come to what the
-- slots' histories come to.
-- Assumes nothing.
use Rattle.std.specs.Prelude.{◌≡◌, Bool, ◌⊎◌, ltb, eqb, length}
use Rattle.std.proofs.Math.Path.{refl, sym, ap}
use Rattle.std.proofs.Common.{◌∙◌, inl, inr, arith, ltb-true, ltb-false, eqb-true, eq-eqb}
use Rattle.std.proofs.Math.Bool.{true, false}
use mathlib.Core.List.Memᴰ
use mathlib.Core.List.{List, [], ◌∷◌, ◌++◌, append-nil, append_assoc, Memᴰ}
use Rattle.std.proofs.Math.Option.{Option, none, some}
use Rattle.std.proofs.Math.Logic.{⊎_elim}
use Prim.Native.Nat.{ℕ, zero, suc, ◌+◌, ◌≤◌, ◌<◌}
use Rattle.classes.specs.Choice.{pick, or, and}
use Rattle.applying.specs.Laws.{first_of}
use Rattle.history.specs.Events.{Value, Supply, nothing, Held, holds, fails, step, next, final, fails_with, any_of, Event, history, lenient}
use Rattle.history.proofs.EventLaws.{clash, none≢some, any_false, any_cong, any_none, step_fine}
use Rattle.history.specs.Faults.{Fault, later}
use Rattle.history.proofs.Faults.{fault_here, first_fault}
use Rattle.history.specs.Scan.{precedes, better}
use Rattle.history.proofs.Scan.{fault_of, scan}
use Rattle.history.specs.Sheet.{Records, Slot, Values, each, below, arc_slots, slots_of}
use Rattle.history.specs.Ranges.{InRange, Fits}
use Rattle.history.proofs.Ranges.{history_in_range}
use Rattle.patching.specs.Group.{fails_here, number_here, stepped, group_fault, group_left, least_fault}

-- 1. Faults

-- a fault, with n events more before it
unfoldable pub shifted : ℕ → Option Fault → Option Fault
shifted n none = none
shifted n (some f) = some (record { event = n + f.event; number = f.number })

-- the first of two that is there
unfoldable pub or_fault : Option Fault → Option Fault → Option Fault
or_fault none o = o
or_fault (some f) o = some f

shifted-zero : (o : Option Fault) → shifted 0 o ≡ o
unfolding shifted
shifted-zero none = refl
shifted-zero (some f) = let z : 0 + f.event ≡ f.event = omega arith in rw z

later-shifted : (n : ℕ) (o : Option Fault) → later (shifted n o) ≡ shifted (suc n) o
unfolding shifted later
later-shifted n none = refl
later-shifted n (some f) = let z : suc (n + f.event) ≡ suc n + f.event = omega arith in rw z

later-or : (a b : Option Fault) → later (or_fault a b) ≡ or_fault (later a) (later b)
unfolding or_fault later
later-or none b = refl
later-or (some f) b = refl

later-none : (o : Option Fault) → later o ≡ none → o ≡ none
unfolding later
later-none none e = refl
later-none (some f) e = absurd (none≢some (sym e))

-- no number: nothing fails
first-none : (a b : Bool) → first_of false a b ≡ 0 → (a ≡ false) × (b ≡ false)
unfolding first_of
first-none true b e = absurd (omega arith)
first-none false true e = absurd (omega arith)
first-none false false e = (refl, refl)

-- g is at an earlier event, or at the same one with a lower number
Before : Fault → Fault → Type 0
Before g f = (g.event < f.event) ⊎ ((g.event ≡ f.event) × (g.number < f.number))

-- this is what the test says
before : (g f : Fault) → precedes g f ≡ true → Before g f
unfolding Before
before g f p = go (ltb g.event f.event) refl (eqb g.event f.event) refl p
  where
    go : (a : Bool) → ltb g.event f.event ≡ a → (b : Bool) → eqb g.event f.event ≡ b → or a (and b (ltb g.number f.number)) ≡ true
        → Before g f
    go true x b y p = inl (ltb-true _ _ x)
    go false x true y p = inr (eqb-true _ _ y, ltb-true _ _ p)
    go false x false y p = clash p

not-before : (g f : Fault) → precedes g f ≡ false → Before g f → ⊥
unfolding Before
not-before g f p (inl x) = go (ltb g.event f.event) refl p
  where
    go : (a : Bool) → ltb g.event f.event ≡ a → or a (and (eqb g.event f.event) (ltb g.number f.number)) ≡ false → ⊥
    go true y q = clash (sym q)
    go false y q = let z = ltb-false g.event f.event y in omega arith
not-before g f p (inr (x, y)) = go (ltb g.event f.event) (ltb g.number f.number) refl (rw (eq-eqb _ _ x) at p)
  where
    go : (a b : Bool) → ltb g.number f.number ≡ b → or a (and true b) ≡ false → ⊥
    go true b z q = clash (sym q)
    go false true z q = clash (sym q)
    go false false z q = let w = ltb-false g.number f.number z in omega arith

-- one that comes before comes before, or behind, any third
before-or : (f g h : Fault) → Before h f → Before h g ⊎ Before g f
unfolding Before
before-or f g h (inl x) = go (ltb h.event g.event) refl
  where
    go : (a : Bool) → ltb h.event g.event ≡ a → Before h g ⊎ Before g f
    go true p = inl (inl (ltb-true _ _ p))
    go false p = let z = ltb-false h.event g.event p in inr (inl (omega arith))
before-or f g h (inr (x, y)) = go (ltb h.event g.event) refl (ltb g.event h.event) refl (ltb h.number g.number) refl
  where
    go : (a : Bool) → ltb h.event g.event ≡ a → (b : Bool) → ltb g.event h.event ≡ b → (c : Bool) → ltb h.number g.number ≡ c
        → Before h g ⊎ Before g f
    go true p b q c r = inl (inl (ltb-true _ _ p))
    go false p true q c r = let z = ltb-true g.event h.event q in inr (inl (omega arith))
    go false p false q true r = let z = ltb-false h.event g.event p in let w = ltb-false g.event h.event q in
        inl (inr (omega arith, ltb-true _ _ r))
    go false p false q false r = let z = ltb-false h.event g.event p in let w = ltb-false g.event h.event q in
        let u = ltb-false h.number g.number r in inr (inr (omega arith, omega arith))

-- and a third that is before the earlier is before both
before_trans : (f g h : Fault) → Before g f → Before h g → Before h f
unfolding Before
before_trans f g h (inl x) (inl y) = inl (omega arith)
before_trans f g h (inl x) (inr y) = inl (omega arith)
before_trans f g h (inr x) (inl y) = inl (omega arith)
before_trans f g h (inr x) (inr y) = inr (omega arith, omega arith)

-- no fault is worse than any
pub better-nothing : (a : Option Fault) → better a none ≡ a
unfolding better
better-nothing none = refl
better-nothing (some f) = refl

-- of three it matters not which two are compared first
pub better_assoc : (a b c : Option Fault) → better (better a b) c ≡ better a (better b c)
unfolding better
better_assoc none b c = refl
better_assoc (some f) none c = refl
better_assoc (some f) (some g) none = go (precedes g f)
  where
    go : (p : Bool) → better (pick p (some g) (some f)) none ≡ pick p (some g) (some f)
    go true = refl
    go false = refl
better_assoc (some f) (some g) (some h) = go (precedes g f) refl (precedes h g) refl
  where
    third : (r : Bool) → precedes h f ≡ r → precedes g f ≡ true → precedes h g ≡ true → some h ≡ pick r (some h) (some f)
    third true r p q = refl
    third false r p q = absurd (not-before h f r (before_trans f g h (before g f p) (before h g q)))

    first : (r : Bool) → precedes h f ≡ r → precedes g f ≡ false → precedes h g ≡ false → pick r (some h) (some f) ≡ some f
    first true r p q = absurd (⊎_elim (not-before h g q) (not-before g f p) (before-or f g h (before h f r)))
    first false r p q = refl

    go : (p : Bool) → precedes g f ≡ p → (q : Bool) → precedes h g ≡ q
        → better (pick p (some g) (some f)) (some h) ≡ better (some f) (pick q (some h) (some g))
    go true p true q = rw q (third (precedes h f) refl p q)
    go true p false q = rw (p, q)
    go false p true q = refl
    go false p false q = rw p (first (precedes h f) refl p q)

-- both one event later
later-better : (a b : Option Fault) → later (better a b) ≡ better (later a) (later b)
unfolding better later Before
later-better none b = refl
later-better (some f) none = refl
later-better (some f) (some g) = go (precedes g f) refl (precedes (next_of g) (next_of f)) refl
  where
    next_of : Fault → Fault
    next_of x = record { event = suc x.event; number = x.number }

    up : Before g f → Before (next_of g) (next_of f)
    up (inl x) = inl (omega arith)
    up (inr (x, y)) = inr (omega arith, y)

    down : Before (next_of g) (next_of f) → Before g f
    down (inl x) = inl (omega arith)
    down (inr (x, y)) = inr (omega arith, y)

    go : (p : Bool) → precedes g f ≡ p → (q : Bool) → precedes (next_of g) (next_of f) ≡ q
        → later (pick p (some g) (some f)) ≡ pick q (some (next_of g)) (some (next_of f))
    go true p true q = refl
    go true p false q = absurd (not-before _ _ q (up (before g f p)))
    go false p true q = absurd (not-before g f p (down (before _ _ q)))
    go false p false q = refl

-- the first stays where the second is not before it, and else gives way
better-first : (f g : Fault) → (Before g f → ⊥) → better (some f) (some g) ≡ some f
unfolding better
better-first f g n = go (precedes g f) refl
  where
    go : (p : Bool) → precedes g f ≡ p → pick p (some g) (some f) ≡ some f
    go true p = absurd (n (before g f p))
    go false p = refl

better_second : (f g : Fault) → Before g f → better (some f) (some g) ≡ some g
unfolding better
better_second f g b = go (precedes g f) refl
  where
    go : (p : Bool) → precedes g f ≡ p → pick p (some g) (some f) ≡ some g
    go true p = refl
    go false p = absurd (not-before g f p b)

-- a fault at the event at hand
at_hand : ℕ → Fault
at_hand n = record { event = 0; number = n }

-- is before all later ones
now-first : (n : ℕ) (o : Option Fault) → better (some (at_hand n)) (later o) ≡ some (at_hand n)
unfolding later Before at_hand
now-first n none = better-nothing (some (at_hand n))
now-first n (some f) = better-first (at_hand n) (record { event = suc f.event; number = f.number }) (⊎_elim (λ x. omega arith) (λ x. omega arith))

now_second : (n : ℕ) (o : Option Fault) → better (later o) (some (at_hand n)) ≡ some (at_hand n)
unfolding better later Before at_hand
now_second n none = refl
now_second n (some f) = better_second (record { event = suc f.event; number = f.number }) (at_hand n) (inl (omega arith))

-- and among those of one event the lower number wins
now_lower : (n m : ℕ) → n ≤ m → better (some (at_hand n)) (some (at_hand m)) ≡ some (at_hand n)
unfolding Before at_hand
now_lower n m h = better-first (at_hand n) (at_hand m) (⊎_elim (λ x. omega arith) (λ x. omega arith))

now_higher : (n m : ℕ) → m < n → better (some (at_hand n)) (some (at_hand m)) ≡ some (at_hand m)
unfolding Before at_hand
now_higher n m h = better_second (at_hand n) (at_hand m) (inr (refl, h))

-- what an event with this number, or 0 for none, and the events behind it come to
from-here : ℕ → Option Fault → Option Fault
from-here n rest = pick (eqb n 0) (later rest) (some (at_hand n))

-- a step holds, or fails with 15 or 16
Known : Held → Type 0
Known h = ((v : Value) × (h ≡ holds v)) ⊎ ((h ≡ fails 15) ⊎ (h ≡ fails 16))

known : (v : Value) (x : Supply) → Known (step v x)
unfolding Known fails_with
known v x = go (step v x) refl
  where
    go : (h : Held) → step v x ≡ h → Known (step v x)
    go (holds w) p = inl (w, p)
    go (fails n) p = which (eqb 15 n) refl (eqb 16 n) refl
      where
        which : (a : Bool) → eqb 15 n ≡ a → (b : Bool) → eqb 16 n ≡ b → Known (step v x)
        which true q b r = inr (inl (p ∙ ap fails (sym (eqb-true 15 n q))))
        which false q true r = inr (inr (p ∙ ap fails (sym (eqb-true 16 n r))))
        which false q false r = inl (final (step v x), step_fine v x (rw p q) (rw p r))

-- one slot more at an event: F is what comes of the slot behind it, G of the others
join : (h : Held) → Known h → (a b : Bool) (F G : Option Fault)
    → from-here (first_of false (or (fails_with 15 h) a) (or (fails_with 16 h) b)) (better F G)
    ≡ better (fault_here h F) (from-here (first_of false a b) G)
unfolding Known from-here first_of fails_with fault_here at_hand
join h (inl (v, p)) true b F G = rw p (sym (now_second 15 F))
join h (inl (v, p)) false true F G = rw p (sym (now_second 16 F))
join h (inl (v, p)) false false F G = rw p (later-better F G)
join h (inr (inl p)) true b F G = rw p (sym (now_lower 15 15 (omega arith)))
join h (inr (inl p)) false true F G = rw p (sym (now_lower 15 16 (omega arith)))
join h (inr (inl p)) false false F G = rw p (sym (now-first 15 G))
join h (inr (inr p)) true b F G = rw p (sym (now_higher 16 15 (omega arith)))
join h (inr (inr p)) false true F G = rw p (sym (now_lower 16 16 (omega arith)))
join h (inr (inr p)) false false F G = rw p (sym (now-first 16 G))

module _ {Slot Word : Type 0} (group : List Slot) (touched : Slot → Bool) where
  -- 2. A list of events, cut in two

  -- the values behind both parts
  pub left-append : (now : Slot → Value) (xs ys : List (Event Slot Word))
      → group_left group touched now (xs ++ ys) ≡ group_left group touched (group_left group touched now xs) ys
  unfolding group_left
  left-append now [] ys = refl
  left-append now (e ∷ xs) ys = left-append (stepped group touched now e) xs ys

  -- the fault of the first part, and without one that of the second
  pub fault_append : (now : Slot → Value) (xs ys : List (Event Slot Word))
      → group_fault group touched now (xs ++ ys)
      ≡ or_fault (group_fault group touched now xs) (shifted (length xs) (group_fault group touched (group_left group touched now xs) ys))
  unfolding group_fault group_left or_fault
  fault_append now [] ys = sym (shifted-zero (group_fault group touched now ys))
  fault_append now (e ∷ xs) ys = rw (fault_append (stepped group touched now e) xs ys) (go (eqb (number_here group touched now e) 0))
    where
      rest : Option Fault
      rest = group_fault group touched (group_left group touched (stepped group touched now e) xs) ys

      first : Option Fault
      first = group_fault group touched (stepped group touched now e) xs

      here : Option Fault
      here = some (record { event = 0; number = number_here group touched now e })

      go : (b : Bool) → pick b (later (or_fault first (shifted (length xs) rest))) here
          ≡ or_fault (pick b (later first) here) (shifted (suc (length xs)) rest)
      go true = rw (later-or first (shifted (length xs) rest), later-shifted (length xs) rest)
      go false = refl

  -- the same by its two cases
  pub fault_append-none : (now : Slot → Value) (xs ys : List (Event Slot Word)) → group_fault group touched now xs ≡ none
      → group_fault group touched now (xs ++ ys) ≡ shifted (length xs) (group_fault group touched (group_left group touched now xs) ys)
  unfolding or_fault
  fault_append-none now xs ys p = fault_append now xs ys ∙ rw p

  pub fault_append-some : (now : Slot → Value) (xs ys : List (Event Slot Word)) (f : Fault) → group_fault group touched now xs ≡ some f
      → group_fault group touched now (xs ++ ys) ≡ some f
  unfolding or_fault
  fault_append-some now xs ys f p = fault_append now xs ys ∙ rw p

  -- 3. Only what the events give counts

  -- the values
  pub left-lenient : (now : Slot → Value) (es : List (Event Slot Word)) → group_left group touched now (lenient es) ≡ group_left group touched now es
  unfolding group_left lenient stepped
  left-lenient now [] = refl
  left-lenient now (e ∷ more) = left-lenient (stepped group touched now e) more

  -- and the fault
  pub fault_lenient : (now : Slot → Value) (es : List (Event Slot Word)) → group_fault group touched now (lenient es) ≡ group_fault group touched now es
  unfolding group_fault lenient stepped number_here fails_here
  fault_lenient now [] = refl
  fault_lenient now (e ∷ more) = rw (fault_lenient (stepped group touched now e) more)

  -- 4. An event that gives the group nothing

  -- nothing fails at it
  pub quiet : (now : Slot → Value) (e : Event Slot Word) → ((t : Slot) → Memᴰ t group → e.gives t ≡ nothing)
      → number_here group touched now e ≡ 0
  unfolding number_here fails_here first_of step fails_with
  quiet now e f = rw (calm 15, calm 16)
    where
      none_here : (n : ℕ) (t : Slot) → Memᴰ t group → (b : Bool) → and b (fails_with n (step (now t) (e.gives t))) ≡ false
      none_here n t m true = rw (f t m)
      none_here n t m false = refl

      calm : (n : ℕ) → fails_here group touched n now e ≡ false
      calm n = any_none _ group (λ t m. none_here n t m (touched t))

  -- and it changes nothing
  pub quiet_stepped : (now : Slot → Value) (e : Event Slot Word) (t : Slot) → e.gives t ≡ nothing → stepped group touched now e t ≡ now t
  unfolding stepped step final
  quiet_stepped now e t p = go (touched t)
    where
      go : (b : Bool) → pick b (final (step (now t) (e.gives t))) (now t) ≡ now t
      go true = rw p
      go false = refl

  -- 5. The values of the group's own slots are all that counts

  same_number : (now other : Slot → Value) (e : Event Slot Word) → ((t : Slot) → Memᴰ t group → now t ≡ other t)
      → number_here group touched now e ≡ number_here group touched other e
  unfolding number_here fails_here
  same_number now other e f = rw (alike 15, alike 16)
    where
      alike : (n : ℕ) → fails_here group touched n now e ≡ fails_here group touched n other e
      alike n = any_cong _ _ group (λ t m. ap (λ (v : Value). and (touched t) (fails_with n (step v (e.gives t)))) (f t m))

  same-stepped : (now other : Slot → Value) (e : Event Slot Word) (t : Slot) → now t ≡ other t
      → stepped group touched now e t ≡ stepped group touched other e t
  unfolding stepped
  same-stepped now other e t p = rw p

  -- what a slot comes to hangs on its own value alone
  pub left-same : (now other : Slot → Value) (es : List (Event Slot Word)) (t : Slot) → now t ≡ other t
      → group_left group touched now es t ≡ group_left group touched other es t
  unfolding group_left
  left-same now other [] t p = p
  left-same now other (e ∷ more) t p = left-same (stepped group touched now e) (stepped group touched other e) more t (same-stepped now other e t p)

  -- and the fault on those of the group
  pub fault_same : (now other : Slot → Value) (es : List (Event Slot Word)) → ((t : Slot) → Memᴰ t group → now t ≡ other t)
      → group_fault group touched now es ≡ group_fault group touched other es
  unfolding group_fault
  fault_same now other [] f = refl
  fault_same now other (e ∷ more) f =
      let ih = fault_same (stepped group touched now e) (stepped group touched other e) more (λ t m. same-stepped now other e t (f t m)) in
      rw (same_number now other e f, ih)

  -- so an event that gives the group nothing can be left out
  pub quiet_fault : (now : Slot → Value) (e : Event Slot Word) (more : List (Event Slot Word))
      → ((t : Slot) → Memᴰ t group → e.gives t ≡ nothing)
      → group_fault group touched now (e ∷ more) ≡ later (group_fault group touched now more)
  unfolding group_fault
  quiet_fault now e more f =
      let ih = fault_same (stepped group touched now e) now more (λ t m. quiet_stepped now e t (f t m)) in
      rw (quiet now e f, ih)

  pub quiet_left : (now : Slot → Value) (e : Event Slot Word) (more : List (Event Slot Word)) (t : Slot) → e.gives t ≡ nothing
      → group_left group touched now (e ∷ more) t ≡ group_left group touched now more t
  unfolding group_left
  quiet_left now e more t p = left-same (stepped group touched now e) now more t (quiet_stepped now e t p)

  -- 6. Slots that are not touched

  -- without a touched one there is no fault
  pub group_none : (now : Slot → Value) (es : List (Event Slot Word)) → ((t : Slot) → Memᴰ t group → touched t ≡ false)
      → group_fault group touched now es ≡ none
  unfolding group_fault number_here fails_here first_of later
  group_none now [] f = refl
  group_none now (e ∷ more) f = rw (calm 15, calm 16, group_none (stepped group touched now e) more f)
    where
      calm : (n : ℕ) → fails_here group touched n now e ≡ false
      calm n = any_none _ group (λ t m. rw (f t m))

  -- and they stay
  pub group_stays : (now : Slot → Value) (es : List (Event Slot Word)) (t : Slot) → touched t ≡ false → group_left group touched now es t ≡ now t
  unfolding group_left stepped
  group_stays now [] t p = refl
  group_stays now (e ∷ more) t p = group_stays (stepped group touched now e) more t p ∙ rw p

  -- 7. Without a fault, each touched slot comes to what its history comes to

  -- without a fault, the first event is let pass, and there is none behind it
  pub group_passes : (now : Slot → Value) (e : Event Slot Word) (more : List (Event Slot Word)) → group_fault group touched now (e ∷ more) ≡ none
      → (number_here group touched now e ≡ 0) × (group_fault group touched (stepped group touched now e) more ≡ none)
  unfolding group_fault
  group_passes now e more p = go (eqb (number_here group touched now e) 0) refl p
    where
      here : Fault
      here = record { event = 0; number = number_here group touched now e }

      go : (b : Bool) → eqb (number_here group touched now e) 0 ≡ b
          → pick b (later (group_fault group touched (stepped group touched now e) more)) (some here) ≡ none
          → (number_here group touched now e ≡ 0) × (group_fault group touched (stepped group touched now e) more ≡ none)
      go true q r = (eqb-true _ _ q, later-none _ r)
      go false q r = absurd (none≢some (sym r))

  -- an event that is let pass leads on
  pub group_step : (now : Slot → Value) (e : Event Slot Word) (t : Slot) → Memᴰ t group → touched t ≡ true
      → number_here group touched now e ≡ 0 → step (now t) (e.gives t) ≡ holds (stepped group touched now e t)
  unfolding number_here fails_here stepped
  group_step now e t m j p =
      let (x, y) = first-none _ _ p in
      rw j (step_fine (now t) (e.gives t) (rw j at (any_false _ group t x m)) (rw j at (any_false _ group t y m)))

  -- the history holds, and holds what is left
  pub group_history : (now : Slot → Value) (es : List (Event Slot Word)) (t : Slot) → Memᴰ t group → touched t ≡ true
      → group_fault group touched now es ≡ none → history (holds (now t)) es t ≡ holds (group_left group touched now es t)
  unfolding history group_left next
  group_history now [] t m j p = refl
  group_history now (e ∷ more) t m j p =
      let (x, y) = group_passes now e more p in
      rw (group_step now e t m j x) (group_history (stepped group touched now e) more t m j y)

  -- as patching writes it
  pub group_holds : (now : Slot → Value) (es : List (Event Slot Word)) (t : Slot) → Memᴰ t group → touched t ≡ true
      → group_fault group touched now es ≡ none → group_left group touched now es t ≡ final (history (holds (now t)) es t)
  unfolding final
  group_holds now es t m j p = rw (group_history now es t m j p)

-- 8. The group, slot by slot

module _ {Slot Word : Type 0} where
  -- one slot more
  pub group_more : (touched : Slot → Bool) (s : Slot) (more : List Slot) (now : Slot → Value) (es : List (Event Slot Word))
      → group_fault (s ∷ more) touched now es ≡ better (fault_of touched now es s) (group_fault more touched now es)
  unfolding group_fault number_here fails_here any_of stepped fault_of first_fault from-here at_hand better
  group_more touched s more now [] = go (touched s)
    where
      go : (b : Bool) → none ≡ better (pick b none none) none
      go true = refl
      go false = refl
  group_more touched s more now (e ∷ es) =
      ap (from-here (number_here (s ∷ more) touched now e)) (group_more touched s more (stepped (s ∷ more) touched now e) es ∙
      ap (λ (o : Option Fault). better o G) (same (touched s))) ∙ go (touched s)
    where
      h : Held
      h = step (now s) (e.gives s)

      F : Option Fault
      F = first_fault (final h) es s

      G : Option Fault
      G = group_fault more touched (stepped more touched now e) es

      same : (b : Bool) → pick b (first_fault (pick b (final h) (now s)) es s) none ≡ pick b F none
      same true = refl
      same false = refl

      go : (b : Bool)
          → from-here (first_of false (or (and b (fails_with 15 h)) (fails_here more touched 15 now e)) (or (and b (fails_with 16 h))
          (fails_here more touched 16 now e))) (better (pick b F none) G)
          ≡ better (pick b (fault_here h F) none) (from-here (number_here more touched now e) G)
      go true = join h (known (now s) (e.gives s)) (fails_here more touched 15 now e) (fails_here more touched 16 now e) F G
      go false = refl

  -- the least fault of its touched slots is what the scan finds
  pub group_scan : (group : List Slot) (touched : Slot → Bool) (start : Slot → Value) (es : List (Event Slot Word)) (best : Option Fault)
      → scan touched start es best group ≡ better best (group_fault group touched start es)
  unfolding scan
  group_scan [] touched start es best =
      sym (ap (better best) (group_none [] touched start es (λ t m. absurd (Memᴰ.not-nil m))) ∙ better-nothing best)
  group_scan (s ∷ more) touched start es best =
      group_scan more touched start es (better best (fault_of touched start es s))
      ∙ better_assoc best (fault_of touched start es s) (group_fault more touched start es)
      ∙ ap (better best) (sym (group_more touched s more start es))

-- 9. All arcs of a sheet, one group after the other

each_append : {A B : Type 0} (f : A → List B) (xs ys : List A) → each f (xs ++ ys) ≡ each f xs ++ each f ys
unfolding each
each_append f [] ys = refl
each_append f (x ∷ xs) ys = rw (each_append f xs ys) (sym (append_assoc (f x) (each f xs) (each f ys)))

module _ {Slot Word : Type 0} (touched : Slot → Bool) (start : Slot → Value) (es : List (Event Slot Word)) where
  scan-append : (best : Option Fault) (xs ys : List Slot) → scan touched start es best (xs ++ ys)
      ≡ scan touched start es (scan touched start es best xs) ys
  unfolding scan
  scan-append best [] ys = refl
  scan-append best (x ∷ xs) ys = scan-append (better best (fault_of touched start es x)) xs ys

  -- the first n groups
  pub groups-scan : (slots : ℕ → List Slot) (best : Option Fault) (n : ℕ) → scan touched start es best (each slots (below n))
      ≡ least_fault (λ j. group_fault (slots j) touched start es) best n
  unfolding scan each below least_fault
  groups-scan slots best zero = refl
  groups-scan slots best (suc n) =
      ap (scan touched start es best) (each_append slots (below n) (n ∷ []) ∙ ap (λ (l : List Slot). each slots (below n) ++ l) (append-nil (slots n)))
      ∙ scan-append best (each slots (below n)) (slots n)
      ∙ group_scan (slots n) touched start es (scan touched start es best (each slots (below n)))
      ∙ ap (λ (o : Option Fault). better o (group_fault (slots n) touched start es)) (groups-scan slots best n)

-- all of them: what patching keeps when it goes through the slots is what it keeps when it goes through the arcs
pub all-scan : {Word : Type 0} (records : Records) (touched : Slot → Bool) (start : Values) (es : List (Event Slot Word)) (best : Option Fault)
    → scan touched start es best (slots_of records)
    ≡ least_fault (λ j. group_fault (arc_slots j) touched start es) best (length records.arcs)
unfolding slots_of
all-scan records touched start es best = groups-scan touched start es arc_slots best (length records.arcs)

-- 10. Values stay within 10^15 either way

module _ {Slot Word : Type 0} (group : List Slot) (touched : Slot → Bool) where
  -- of a slot that fails nothing is left
  stepped_in_range : (now : Slot → Value) (e : Event Slot Word) (t : Slot) → Fits (e.gives t) → InRange (now t)
      → InRange (stepped group touched now e t)
  unfolding stepped final history next
  stepped_in_range now e t f r = go (touched t) (step (now t) (e.gives t)) refl
    where
      fits : (d : Event Slot Word) → Memᴰ d (e ∷ []) → Fits (d.gives t)
      fits d m = ⊎_elim (λ p. rw p f) (λ k. absurd (Memᴰ.not-nil k)) (Memᴰ.cases_cons m)

      go : (b : Bool) (h : Held) → step (now t) (e.gives t) ≡ h → InRange (pick b (final h) (now t))
      go true (holds v) p = history_in_range (e ∷ []) t (now t) v fits r p
      go true (fails n) p = tt
      go false h p = r

  -- if the times of the file are in range, as reading ensures, so is what is left
  pub group_in_range : (now : Slot → Value) (es : List (Event Slot Word)) (t : Slot)
      → ((e : Event Slot Word) → Memᴰ e es → Fits (e.gives t)) → InRange (now t) → InRange (group_left group touched now es t)
  unfolding group_left
  group_in_range now [] t f r = r
  group_in_range now (e ∷ more) t f r = group_in_range (stepped group touched now e) more t (λ d m. f d (Memᴰ.tail m))
      (stepped_in_range now e t (f e (Memᴰ.head refl)) r)
