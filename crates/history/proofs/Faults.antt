-- Refusals found slot by slot: the first event that is refused is the least of all faults, by event and then by number.
-- Assumes nothing.
use Rattle.std.specs.Prelude.{◌≡◌, Bool, ◌⊎◌, leb, nat_abs, ◌+ℤ◌}
use Rattle.std.proofs.Math.Path.{refl, ap}
use Rattle.std.proofs.Common.{sym, ◌∙◌, eqb-true, eq-eqb}
use Rattle.std.proofs.Math.Bool.{true, false}
use mathlib.Core.List.{List, [], ◌∷◌, ◌++◌, Memᴰ}
use Rattle.std.proofs.Math.Option.{Option, none, some}
use Rattle.std.proofs.Math.Logic.{inl, inr, ⊎_elim}
use Prim.Native.Nat.{ℕ, zero, suc, ◌≤◌, ◌<◌}
use native.Mathlib.Omega.{arith}
use Rattle.std.proofs.Math.ListN.{get_elem?}
use Rattle.classes.specs.Choice.{pick, or, and}
use Rattle.names.specs.Name.{both}
use Rattle.history.specs.Events.{limit, Value, Supply, nothing, replace, add, Held, holds, fails, summed, step, next, final, fails_with, any_of}
use Rattle.history.specs.Events.{or_else, when, Event, sheet, refused, unless, history, failing, number, outcome}
use Rattle.history.specs.Faults.{Fault, later}
use Rattle.history.proofs.EventLaws.{any_cong, any_false, step_fine, history_snoc, no_number, clash, some_inj, none≢some}

unfoldable pub fault_here : Held → Option Fault → Option Fault
fault_here (holds v) rest = later rest
fault_here (fails n) rest = some (record { event = 0; number = n })

pub any_true : {A : Type 0} (f : A → Bool) (l : List A) → any_of f l ≡ true → (a : A) × Memᴰ a l × (f a ≡ true)
unfolding any_of
any_true f [] e = clash e
any_true {A} f (b ∷ more) e = go (f b) refl e (any_true f more)
  where
    go : (t : Bool) → f b ≡ t → or t (any_of f more) ≡ true → (any_of f more ≡ true → (a : A) × Memᴰ a more × (f a ≡ true))
        → (a : A) × Memᴰ a (b ∷ more) × (f a ≡ true)
    go true p q ih = (b, Memᴰ.head refl, p)
    go false p q ih = let (a, m, r) = ih q in (a, Memᴰ.tail m, r)

any_intro : {A : Type 0} (f : A → Bool) (l : List A) (a : A) → Memᴰ a l → f a ≡ true → any_of f l ≡ true
any_intro f l a m p = go (any_of f l) refl
  where
    go : (b : Bool) → any_of f l ≡ b → any_of f l ≡ true
    go true q = q
    go false q = clash (sym (any_false f l a q m) ∙ p)

-- what a number at an event comes from
three : (o : Option ℕ) (a b : Bool) (n : ℕ) → or_else o (or_else (when a 15) (when b 16)) ≡ some n
    → (o ≡ some n) ⊎ (((a ≡ true) × (n ≡ 15)) ⊎ ((a ≡ false) × (b ≡ true) × (n ≡ 16)))
unfolding or_else when
three (some k) a b n e = inl e
three none true b n e = inr (inl (refl, sym (some_inj e)))
three none false true n e = inr (inr (refl, refl, sym (some_inj e)))
three none false false n e = absurd (none≢some e)

fault_zero : (h : Held) (rest : Option Fault) (n : ℕ) → fault_here h rest ≡ some (record { event = 0; number = n }) → h ≡ fails n
unfolding fault_here later
fault_zero (holds v) none n e = absurd (none≢some e)
fault_zero (holds v) (some f) n e = let z = ap (λ (x : Fault). x.event) (some_inj e) in absurd (omega arith)
fault_zero (fails k) rest n e = ap fails (ap (λ (x : Fault). x.number) (some_inj e))

fault_suc : (h : Held) (rest : Option Fault) (i n : ℕ) → fault_here h rest ≡ some (record { event = suc i; number = n })
    → rest ≡ some (record { event = i; number = n })
unfolding fault_here later
fault_suc (holds v) none i n e = absurd (none≢some e)
fault_suc (holds v) (some f) i n e = let z = ap (λ (x : Fault). x.event) (some_inj e) in let y = ap (λ (x : Fault). x.number)
    (some_inj e) in let w : f.event ≡ i = omega arith in rw (← w, ← y)
fault_suc (fails k) rest i n e = let z = ap (λ (x : Fault). x.event) (some_inj e) in absurd (omega arith)

fails_with_lem : (n : ℕ) (h : Held) → fails_with n h ≡ true → h ≡ fails n
unfolding fails_with
fails_with_lem n (holds v) e = clash e
fails_with_lem n (fails m) e = ap fails (sym (eqb-true n m e))

fails_inj : {m n : ℕ} → ◌≡◌ {A = Held} (fails m) (fails n) → m ≡ n
fails_inj e = cc

not_fails : {v : Value} {n : ℕ} → ◌≡◌ {A = Held} (holds v) (fails n) → ⊥
not_fails e = let z : ◌≡◌ {A = ℕ} 0 1 = cc in omega arith

-- only 15 and 16 are ever given by a step
step-number : (v : Value) (x : Supply) (n : ℕ) → step v x ≡ fails n → (n ≡ 15) ⊎ (n ≡ 16)
unfolding step summed
step-number v nothing n e = absurd (not_fails e)
step-number v (replace t) n e = absurd (not_fails e)
step-number none (add t) n e = inl (sym (fails_inj e))
step-number (some u) (add t) n e = go (leb (nat_abs (u +ℤ t)) limit) e
  where
    go : (b : Bool) → pick b (holds (some (u +ℤ t))) (fails 16) ≡ fails n → (n ≡ 15) ⊎ (n ≡ 16)
    go true e = absurd (not_fails e)
    go false e = inr (sym (fails_inj e))

module _ {Slot Word : Type 0} where
  -- where a slot's history fails first: number of the event, from 0, and 15 or 16
  unfoldable pub first_fault : Value → List (Event Slot Word) → Slot → Option Fault
  first_fault v [] s = none
  first_fault v (e ∷ more) s = fault_here (step v (e.gives s)) (first_fault (final (step v (e.gives s))) more s)

  module _ (slots : List Slot) (judged : Slot → Bool) where
    -- a fault: an event's own number, or the first of a judged slot
    unfoldable pub Occurs : (Slot → Value) → List (Event Slot Word) → ℕ → ℕ → Type 0
    Occurs now es i n = ((e : Event Slot Word) × (get_elem? es i ≡ some e) × (e.own ≡ some n)) ⊎ ((s : Slot) × Memᴰ s slots × (judged s ≡ true)
        × (first_fault (now s) es s ≡ some (record { event = i; number = n })))

    unfoldable pub stuck_on : ℕ → (Slot → Value) → Event Slot Word → Bool
    stuck_on n now e = any_of (λ (s : Slot). and (judged s) (fails_with n (step (now s) (e.gives s)))) slots

    unfoldable pub number_on : (Slot → Value) → Event Slot Word → Option ℕ
    number_on now e = or_else e.own (or_else (when (stuck_on 15 now e) 15) (when (stuck_on 16 now e) 16))

    abbrev onward : (Slot → Value) → Event Slot Word → Slot → Value
    onward now e s = final (step (now s) (e.gives s))

    here_own : (now : Slot → Value) (e : Event Slot Word) (more : List (Event Slot Word)) (n : ℕ) → e.own ≡ some n → Occurs now (e ∷ more) 0 n
    unfolding Occurs
    here_own now e more n p = inl (e, refl, p)

    here_slot : (now : Slot → Value) (e : Event Slot Word) (more : List (Event Slot Word)) (n : ℕ) → stuck_on n now e ≡ true
        → Occurs now (e ∷ more) 0 n
    unfolding Occurs stuck_on first_fault fault_here
    here_slot now e more n p =
        let (s, m, q) = any_true _ slots p in
        let (j, k) = both (judged s) (fails_with n (step (now s) (e.gives s))) q in
        inr (s, m, j, rw (fails_with_lem n (step (now s) (e.gives s)) k))

    -- the number at e is one that occurs there
    pub found : (now : Slot → Value) (e : Event Slot Word) (more : List (Event Slot Word)) (n : ℕ) → number_on now e ≡ some n → Occurs now (e ∷ more) 0 n
    unfolding number_on
    found now e more n p = go (three e.own (stuck_on 15 now e) (stuck_on 16 now e) n p)
      where
        go : (e.own ≡ some n) ⊎ (((stuck_on 15 now e ≡ true) × (n ≡ 15)) ⊎ ((stuck_on 15 now e ≡ false) × (stuck_on 16 now e ≡ true) × (n ≡ 16)))
            → Occurs now (e ∷ more) 0 n
        go (inl q) = here_own now e more n q
        go (inr (inl (q, r))) = here_slot now e more n (rw r q)
        go (inr (inr (x, q, r))) = here_slot now e more n (rw r q)

    -- what occurs at e
    at-e : (now : Slot → Value) (e : Event Slot Word) (more : List (Event Slot Word)) (n : ℕ) → Occurs now (e ∷ more) 0 n
        → (e.own ≡ some n) ⊎ ((stuck_on n now e ≡ true) × ((n ≡ 15) ⊎ (n ≡ 16)))
    unfolding Occurs stuck_on first_fault fails_with
    at-e now e more n (inl (d, p, q)) = inl (ap (λ (x : Event Slot Word). x.own) (some_inj p) ∙ q)
    at-e now e more n (inr (s, m, j, p)) = let q = fault_zero (step (now s) (e.gives s)) _ n p in inr
        (any_intro _ slots s m (rw (j, q) (eq-eqb n n refl)), step-number (now s) (e.gives s) n q)

    pub missed : (now : Slot → Value) (e : Event Slot Word) (more : List (Event Slot Word)) (n : ℕ) → number_on now e ≡ none → Occurs now (e ∷ more) 0 n
        → ⊥
    unfolding number_on
    missed now e more n p o = go (no_number e.own (stuck_on 15 now e) (stuck_on 16 now e) p) (at-e now e more n o)
      where
        go : (e.own ≡ none) × (stuck_on 15 now e ≡ false) × (stuck_on 16 now e ≡ false)
            → (e.own ≡ some n) ⊎ ((stuck_on n now e ≡ true) × ((n ≡ 15) ⊎ (n ≡ 16))) → ⊥
        go (x, y, z) (inl q) = none≢some (sym x ∙ q)
        go (x, y, z) (inr (q, inl r)) = clash (sym y ∙ rw r at q)
        go (x, y, z) (inr (q, inr r)) = clash (sym z ∙ rw r at q)

    pub lower : (now : Slot → Value) (e : Event Slot Word) (more : List (Event Slot Word)) (n m : ℕ) → ((k : ℕ) → e.own ≡ some k → k < 15)
        → number_on now e ≡ some m → Occurs now (e ∷ more) 0 n → m ≤ n
    unfolding number_on or_else
    lower now e more n m low p o = go (three e.own (stuck_on 15 now e) (stuck_on 16 now e) m p) (at-e now e more n o)
      where
        go : (e.own ≡ some m) ⊎ (((stuck_on 15 now e ≡ true) × (m ≡ 15)) ⊎ ((stuck_on 15 now e ≡ false) × (stuck_on 16 now e ≡ true) × (m ≡ 16)))
            → (e.own ≡ some n) ⊎ ((stuck_on n now e ≡ true) × ((n ≡ 15) ⊎ (n ≡ 16))) → m ≤ n
        go x (inl q) = let z : m ≡ n = some_inj (sym p ∙ rw q) in omega arith
        go (inl q) (inr (r, inl y)) = let z = low m q in omega arith
        go (inl q) (inr (r, inr y)) = let z = low m q in omega arith
        go (inr (inl (q, z))) (inr (r, inl y)) = omega arith
        go (inr (inl (q, z))) (inr (r, inr y)) = omega arith
        go (inr (inr (q, x, z))) (inr (r, inl y)) = clash (sym q ∙ rw y at r)
        go (inr (inr (q, x, z))) (inr (r, inr y)) = omega arith

    -- what occurs behind e
    pub behind-e : (now : Slot → Value) (e : Event Slot Word) (more : List (Event Slot Word)) (i n : ℕ) → Occurs now (e ∷ more) (suc i) n
        → Occurs (onward now e) more i n
    unfolding Occurs first_fault
    behind-e now e more i n (inl x) = inl x
    behind-e now e more i n (inr (s, m, j, p)) = inr (s, m, j, fault_suc (step (now s) (e.gives s)) _ i n p)

    pub ahead : (now : Slot → Value) (e : Event Slot Word) (more : List (Event Slot Word)) (i n : ℕ) → number_on now e ≡ none
        → Occurs (onward now e) more i n → Occurs now (e ∷ more) (suc i) n
    unfolding Occurs first_fault number_on stuck_on fault_here later
    ahead now e more i n p (inl x) = inl x
    ahead now e more i n p (inr (s, m, j, q)) =
        let (x, y, z) = no_number e.own (stuck_on 15 now e) (stuck_on 16 now e) p in
        let f = step_fine (now s) (e.gives s) (rw j at (any_false _ slots s y m)) (rw j at (any_false _ slots s z m)) in
        inr (s, m, j, rw (q, f))

    module _ (start v : Slot → Value) where
      -- `now` is what the judged slots have come to by `done`
      abbrev Reached : List (Event Slot Word) → (Slot → Value) → Type 0
      Reached done now = (s : Slot) → Memᴰ s slots → judged s ≡ true → history (holds (start s)) done s ≡ holds (now s)

      one_more : (done : List (Event Slot Word)) (now : Slot → Value) (e : Event Slot Word) → Reached done now → (s : Slot) → Memᴰ s slots
          → judged s ≡ true → history (holds (start s)) (done ++ (e ∷ [])) s ≡ step (now s) (e.gives s)
      unfolding next
      one_more done now e r s m j = history_snoc (holds (start s)) done e s ∙ rw (r s m j)

      same-stuck : (n : ℕ) (done : List (Event Slot Word)) (now : Slot → Value) (e : Event Slot Word) → Reached done now
          → failing slots judged start n (done ++ (e ∷ [])) ≡ stuck_on n now e
      unfolding failing stuck_on
      same-stuck n done now e r = any_cong _ _ slots (λ s m. go s m (judged s) refl)
        where
          go : (s : Slot) → Memᴰ s slots → (b : Bool) → judged s ≡ b → and b (fails_with n (history (holds (start s)) (done ++ (e ∷ [])) s))
              ≡ and b (fails_with n (step (now s) (e.gives s)))
          go s m true p = ap (fails_with n) (one_more done now e r s m p)
          go s m false p = refl

      same_number : (done : List (Event Slot Word)) (now : Slot → Value) (e : Event Slot Word) → Reached done now
          → number slots judged start done e ≡ number_on now e
      unfolding number number_on
      same_number done now e r = rw (same-stuck 15 done now e r, same-stuck 16 done now e r)

      reach_on : (done : List (Event Slot Word)) (now : Slot → Value) (e : Event Slot Word) → Reached done now → number_on now e ≡ none
          → Reached (done ++ (e ∷ [])) (onward now e)
      unfolding number_on stuck_on
      reach_on done now e r p s m j =
          let (x, y, z) = no_number e.own (stuck_on 15 now e) (stuck_on 16 now e) p in
          one_more done now e r s m j ∙ step_fine (now s) (e.gives s) (rw j at (any_false _ slots s y m)) (rw j at (any_false _ slots s z m))

      -- no fault: all is let pass
      none_from : (done todo : List (Event Slot Word)) (now : Slot → Value) → Reached done now → ((i n : ℕ) → Occurs now todo i n → ⊥)
          → outcome slots judged start v done todo ≡ sheet v
      unfolding outcome unless
      none_from done [] now r f = refl
      none_from done (e ∷ more) now r f = rw (same_number done now e r)
          (go (number_on now e) refl (λ p. none_from (done ++ (e ∷ [])) more (onward now e) (reach_on done now e r p)
          (λ i n o. f (suc i) n (ahead now e more i n p o))))
        where
          go : (o : Option ℕ) → number_on now e ≡ o → (number_on now e ≡ none → outcome slots judged start v (done ++ (e ∷ [])) more ≡ sheet v)
              → unless e.word o (outcome slots judged start v (done ++ (e ∷ [])) more) ≡ sheet v
          go none p ih = ih p
          go (some n) p ih = absurd (f 0 n (found now e more n p))

      -- the least fault is the refusal
      least-from : (done todo : List (Event Slot Word)) (now : Slot → Value) (i n : ℕ) (d : Event Slot Word) → Reached done now
          → ((e : Event Slot Word) → Memᴰ e todo → (k : ℕ) → e.own ≡ some k → k < 15)
          → get_elem? todo i ≡ some d → Occurs now todo i n → ((j m : ℕ) → Occurs now todo j m → (i < j) ⊎ ((i ≡ j) × (n ≤ m)))
          → outcome slots judged start v done todo ≡ refused n d.word
      unfolding outcome unless
      least-from done [] now i n d r low g o f = absurd (none≢some g)
      least-from done (e ∷ more) now zero n d r low g o f = rw (same_number done now e r) (go (number_on now e) refl)
        where
          go : (x : Option ℕ) → number_on now e ≡ x → unless e.word x (outcome slots judged start v (done ++ (e ∷ [])) more) ≡ refused n d.word
          go none p = absurd (missed now e more n p o)
          go (some m) p =
              let h = lower now e more n m (low e (Memᴰ.head refl)) p o in
              let k : n ≤ m = ⊎_elim (λ x. absurd (omega arith)) (λ x. x.1) (f 0 m (found now e more m p)) in
              let z : m ≡ n = omega arith in
              let w = some_inj g in
              cc
      least-from done (e ∷ more) now (suc i) n d r low g o f = rw (same_number done now e r)
          (go (number_on now e) refl (λ p. least-from (done ++ (e ∷ [])) more (onward now e) i n d (reach_on done now e r p)
          (λ x y. low x (Memᴰ.tail y)) g (behind-e now e more i n o) (λ j m q. ⊎_elim (λ x. inl (omega arith)) (λ x. inr (omega arith, x.1))
          (f (suc j) m (ahead now e more j m p q)))))
        where
          go : (x : Option ℕ) → number_on now e ≡ x → (number_on now e ≡ none
              → outcome slots judged start v (done ++ (e ∷ [])) more ≡ refused n d.word)
              → unless e.word x (outcome slots judged start v (done ++ (e ∷ [])) more) ≡ refused n d.word
          go none p ih = ih p
          go (some m) p ih = absurd (⊎_elim (λ x. omega arith) (λ x. omega arith) (f 0 m (found now e more m p)))

      -- (B) A program may go slot by slot: no fault, and the answer is the sheet; else it is the least fault, by event and then by number
      pub no_fault : (es : List (Event Slot Word)) → ((i n : ℕ) → Occurs start es i n → ⊥) → outcome slots judged start v [] es ≡ sheet v
      unfolding history
      no_fault es f = none_from [] es start (λ s m j. refl) f

      pub least_fault_lem : (es : List (Event Slot Word)) (i n : ℕ) (d : Event Slot Word) → ((e : Event Slot Word) → Memᴰ e es → (k : ℕ)
          → e.own ≡ some k → k < 15)
          → get_elem? es i ≡ some d → Occurs start es i n → ((j m : ℕ) → Occurs start es j m → (i < j) ⊎ ((i ≡ j) × (n ≤ m)))
          → outcome slots judged start v [] es ≡ refused n d.word
      unfolding history
      least_fault_lem es i n d low g o f = least-from [] es start i n d (λ s m j. refl) low g o f
