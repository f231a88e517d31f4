-- A part of the slots, run through the events entry by entry as annotating does it: its first fault, by the event's number; and several parts,
-- one after the other: the least fault of all is the answer.
-- Assumes nothing.
use Rattle.std.specs.Prelude.{◌≡◌, Bool, ◌⊎◌}
use Rattle.std.proofs.Math.Path.{refl, sym, ap}
use Rattle.std.proofs.Common.{◌∙◌}
use Rattle.std.proofs.Math.Bool.{true, false}
use mathlib.Core.List.Memᴰ
use mathlib.Core.List.{List, [], ◌∷◌, ◌++◌, map, map-append, Memᴰ}
use Rattle.std.proofs.Math.Option.{Option, none, some}
use Rattle.std.proofs.Math.Logic.{inl, inr, ⊎_elim}
use Prim.Native.Nat.{ℕ, zero, suc, ◌<◌, ◌≤◌}
use native.Mathlib.Omega.{arith}
use Rattle.std.proofs.Math.ListN.{length, get_elem?}
use Rattle.classes.specs.Choice.{pick}
use Rattle.history.specs.Events.{Value, holds, step, next, final, Event, everywhere, unless}
use Rattle.history.specs.Events.{any_of, or_else, when, history, lenient, outcome, stuck, judge, folded}
use Rattle.history.proofs.EventLaws.{some_inj, none≢some, any_false, no_number, step_fine, lenient-history}
use Rattle.history.specs.Faults.{Fault, later}
use Rattle.history.proofs.Faults.{fault_here, first_fault, Occurs, stuck_on, number_on, found, missed, lower, behind-e, ahead, no_fault, least_fault_lem}
use Rattle.history.specs.Scan.{precedes, better, own_here, own_fault}
use Rattle.history.proofs.Scan.{Leq, word_answer, fault_answer, own_here-none, leq_trans, precedes_leq, not-precedes}
use Rattle.history.proofs.Scan.{better-none, own_none, own_some, fault_event}
use Rattle.history.proofs.BySlots.{lenient_own}
use Rattle.history.proofs.Restricted.{only, restricted, restricted_in}

-- 1. The least of several faults

-- o is the least of the faults that there are: P i n says that number n is one at event i
abbrev pub Least : (ℕ → ℕ → Type 0) → Option Fault → Type 0
Least P none = (i n : ℕ) → P i n → ⊥
Least P (some f) = P f.event f.number × ((i n : ℕ) → P i n → Leq f (record { event = i; number = n }))

least-same : {P Q : ℕ → ℕ → Type 0} → ((i n : ℕ) → P i n → Q i n) → ((i n : ℕ) → Q i n → P i n) → (o : Option Fault) → Least P o → Least Q o
least-same to from none l = λ i n q. l i n (from i n q)
least-same to from (some f) l = (to _ _ l.0, λ i n q. l.1 i n (from i n q))

-- of two kinds of faults: the lesser of the two least
least-join : (P Q : ℕ → ℕ → Type 0) (a b : Option Fault) → Least P a → Least Q b → Least (λ i n. P i n ⊎ Q i n) (better a b)
unfolding better
least-join P Q none none l r = λ i n. ⊎_elim (l i n) (r i n)
least-join P Q none (some g) l r = (inr r.0, λ i n. ⊎_elim (λ x. absurd (l i n x)) (r.1 i n))
least-join P Q (some f) none l r = (inl l.0, λ i n. ⊎_elim (l.1 i n) (λ x. absurd (r i n x)))
least-join P Q (some f) (some g) l r = go (precedes g f) refl
  where
    go : (b : Bool) → precedes g f ≡ b → Least (λ i n. P i n ⊎ Q i n) (pick b (some g) (some f))
    go true p = (inr r.0, λ i n. ⊎_elim (λ x. leq_trans g f _ (precedes_leq g f p) (l.1 i n x)) (r.1 i n))
    go false p = (inl l.0, λ i n. ⊎_elim (l.1 i n) (λ x. leq_trans f g _ (not-precedes g f p) (r.1 i n x)))

-- what a program keeps that takes one fault after the other
unfoldable pub least_of : Option Fault → List (Option Fault) → Option Fault
least_of best [] = best
least_of best (o ∷ more) = least_of (better best o) more

-- one more
pub least_more : (best : Option Fault) (l : List (Option Fault)) (o : Option Fault) → least_of best (l ++ (o ∷ [])) ≡ better (least_of best l) o
unfolding least_of
least_more best [] o = refl
least_more best (x ∷ more) o = least_more (better best x) more o

-- none: there was none at all
pub least-none : (best : Option Fault) (l : List (Option Fault)) → least_of best l ≡ none → (best ≡ none) × ((o : Option Fault) → Memᴰ o l → o ≡ none)
unfolding least_of
least-none best [] e = (e, λ o m. absurd (Memᴰ.not-nil m))
least-none best (x ∷ more) e =
    let (p, q) = least-none (better best x) more e in
    let (a, b) = better-none best x p in
    (a, λ o m. ⊎_elim (λ z. z ∙ b) (q o) (Memᴰ.cases_cons m))

module _ {Slot Word : Type 0} where
  -- 2. A part of the slots, run entry by entry

  -- the values behind an event, and behind several
  abbrev pub onward : (Slot → Value) → Event Slot Word → Slot → Value
  onward now e s = final (step (now s) (e.gives s))

  unfoldable pub fold_left : (Slot → Value) → List (Event Slot Word) → Slot → Value
  fold_left now [] = now
  fold_left now (e ∷ more) = fold_left (onward now e) more

  -- the words of events
  abbrev pub words_of : List (Event Slot Word) → List Word
  words_of es = map (λ (e : Event Slot Word). e.word) es

  -- the records' own numbers are 12, 13 and 14
  abbrev pub Low : List (Event Slot Word) → Type 0
  Low es = (e : Event Slot Word) → Memᴰ e es → (k : ℕ) → e.own ≡ some k → k < 15

  faults_later : (e : Event Slot Word) (es : List (Event Slot Word)) (v : Slot → Value) (o : Option Fault)
      → fault_answer (e ∷ es) v (later o) ≡ fault_answer es v o
  unfolding fault_answer later
  faults_later e es v none = refl
  faults_later e es v (some f) = refl

  module _ (part : List Slot) where
    -- the first fault: its event's number, from 0 on, and its own
    unfoldable pub fold_fault : (Slot → Value) → List (Event Slot Word) → Option Fault
    fold_fault now [] = none
    fold_fault now (e ∷ more) = own_here (judge part now e) (fold_fault (onward now e) more)

    -- ANNOTATING'S FOLD answers by it
    pub fold_answers : (now : Slot → Value) (es : List (Event Slot Word))
        → folded part now es ≡ fault_answer es (fold_left now es) (fold_fault now es)
    unfolding folded fold_left fold_fault fault_answer word_answer unless own_here
    fold_answers now [] = refl
    fold_answers now (e ∷ more) = rw (fold_answers (onward now e) more) (go (judge part now e))
      where
        go : (o : Option ℕ) → unless e.word o (fault_answer more (fold_left (onward now e) more) (fold_fault (onward now e) more))
            ≡ fault_answer (e ∷ more) (fold_left (onward now e) more) (own_here o (fold_fault (onward now e) more))
        go none = sym (faults_later e more _ (fold_fault (onward now e) more))
        go (some n) = refl

    -- it is the least fault of the part's slots and of the records' own
    pub fold-least : (now : Slot → Value) (es : List (Event Slot Word)) → Low es → Least (Occurs part everywhere now es) (fold_fault now es)
    unfolding fold_fault Occurs first_fault own_here later judge stuck number_on stuck_on
    fold-least now [] low = λ i n. ⊎_elim (λ x. none≢some x.1) (λ x. none≢some x.3)
    fold-least now (e ∷ more) low = go (judge part now e) refl (fold_fault (onward now e) more) (fold-least (onward now e) more (λ d m. low d (Memᴰ.tail m)))
      where
        go : (x : Option ℕ) → judge part now e ≡ x → (o : Option Fault) → Least (Occurs part everywhere (onward now e) more) o
            → Least (Occurs part everywhere now (e ∷ more)) (own_here x o)
        go (some m) p o ih = (found part everywhere now e more m p, first)
          where
            first : (i n : ℕ) → Occurs part everywhere now (e ∷ more) i n → Leq (record { event = 0; number = m }) (record { event = i; number = n })
            first zero n q = inr (refl, lower part everywhere now e more n m (low e (Memᴰ.head refl)) p q)
            first (suc i) n q = inl (omega arith)
        go none p none ih = last
          where
            last : (i n : ℕ) → Occurs part everywhere now (e ∷ more) i n → ⊥
            last zero n q = missed part everywhere now e more n p q
            last (suc i) n q = ih i n (behind-e part everywhere now e more i n q)
        go none p (some f) ih = (ahead part everywhere now e more f.event f.number p ih.0, rest)
          where
            rest : (i n : ℕ) → Occurs part everywhere now (e ∷ more) i n → Leq (record { event = suc f.event; number = f.number }) (record { event = i; number = n })
            rest zero n q = absurd (missed part everywhere now e more n p q)
            rest (suc i) n q = ⊎_elim (λ x. inl (omega arith)) (λ x. inr (omega arith, x.1)) (ih.1 i n (behind-e part everywhere now e more i n q))

    -- without a fault, each slot of the part comes to what its history comes to
    pub fold-history : (now : Slot → Value) (es : List (Event Slot Word)) (s : Slot) → Memᴰ s part → fold_fault now es ≡ none
        → history (holds (now s)) es s ≡ holds (fold_left now es s)
    unfolding fold_fault fold_left history next judge stuck
    fold-history now [] s m p = refl
    fold-history now (e ∷ more) s m p =
        let (x, y) = own_here-none (judge part now e) _ p in
        let (o, a, b) = no_number e.own (stuck part 15 now e) (stuck part 16 now e) x in
        rw (step_fine (now s) (e.gives s) (any_false _ part s a m) (any_false _ part s b m)) (fold-history (onward now e) more s m y)

    -- A run may stop early: once it is past a fault that was found elsewhere, the rest is of no weight
    fold-behind : (now : Slot → Value) (xs ys : List (Event Slot Word)) (g : Fault) → fold_fault now xs ≡ none → fold_fault now (xs ++ ys) ≡ some g
        → length xs ≤ g.event
    unfolding fold_fault own_here later
    fold-behind now [] ys g p q = omega arith
    fold-behind now (e ∷ xs) ys g p q =
        let (x, y) = own_here-none (judge part now e) _ p in
        go (fold_fault (onward now e) (xs ++ ys)) refl (rw x at q) (λ h. fold-behind (onward now e) xs ys h y)
      where
        go : (o : Option Fault) → fold_fault (onward now e) (xs ++ ys) ≡ o → later o ≡ some g
            → ((h : Fault) → fold_fault (onward now e) (xs ++ ys) ≡ some h → length xs ≤ h.event) → suc (length xs) ≤ g.event
        go none r q ih = absurd (none≢some q)
        go (some h) r q ih = let z = ih h r in let w : suc h.event ≡ g.event = ap (λ (f : Fault). f.event) (some_inj q) in omega arith

    pub fold_late : (now : Slot → Value) (xs ys : List (Event Slot Word)) (f : Fault) → f.event < length xs → fold_fault now xs ≡ none
        → better (some f) (fold_fault now (xs ++ ys)) ≡ some f
    unfolding better
    fold_late now xs ys f h p = go (fold_fault now (xs ++ ys)) refl
      where
        first : (g : Fault) → f.event < g.event → (b : Bool) → precedes g f ≡ b → pick b (some g) (some f) ≡ some f
        first g l true q = absurd (⊎_elim (λ x. omega arith) (λ x. omega arith) (precedes_leq g f q))
        first g l false q = refl

        go : (o : Option Fault) → fold_fault now (xs ++ ys) ≡ o → better (some f) o ≡ some f
        go none q = refl
        go (some g) q = let z = fold-behind now xs ys g p q in first g (omega arith) (precedes g f) refl

  -- over no slots only the records' own count
  pub own_is-fold : (now : Slot → Value) (es : List (Event Slot Word)) → fold_fault [] now es ≡ own_fault es
  unfolding fold_fault own_fault judge stuck any_of or_else when
  own_is-fold now [] = refl
  own_is-fold now (e ∷ more) = rw (own_is-fold (onward now e) more) (ap (λ (o : Option ℕ). own_here o (own_fault more)) (go e.own))
    where
      go : (o : Option ℕ) → or_else o (or_else (when false 15) (when false 16)) ≡ o
      go none = refl
      go (some n) = refl

  -- 3. From the least fault to the answer

  -- the records' own
  abbrev Own : List (Event Slot Word) → ℕ → ℕ → Type 0
  Own es i n = (e : Event Slot Word) × (get_elem? es i ≡ some e) × (e.own ≡ some n)

  own_least : (es : List (Event Slot Word)) → Least (Own es) (own_fault es)
  own_least es = go (own_fault es) refl
    where
      go : (o : Option Fault) → own_fault es ≡ o → Least (Own es) o
      go none p = λ i n x. own_none es i n x.0 p x.1 x.2
      go (some f) p = let (x, y) = own_some es f p in (x, λ i n z. y i n z.0 z.1 z.2)

  least_answers : (slots : List Slot) (judged : Slot → Bool) (start v : Slot → Value) (es : List (Event Slot Word)) (o : Option Fault) → Low es
      → Least (Occurs slots judged start es) o → outcome slots judged start v [] es ≡ fault_answer es v o
  unfolding fault_answer word_answer Occurs
  least_answers slots judged start v es none low l = no_fault slots judged start v es l
  least_answers slots judged start v es (some f) low l =
      let (d, g) = there l.0 in
      rw g (least_fault_lem slots judged start v es f.event f.number d low g l.0 l.1)
    where
      there : Occurs slots judged start es f.event f.number → (d : Event Slot Word) × (get_elem? es f.event ≡ some d)
      there (inl (e, g, q)) = (e, g)
      there (inr (s, m, j, q)) = fault_event es (start s) s f q

  -- 4. Parts of the slots, run through events that supply the touched ones only and refuse nothing of their own

  pub lenient-append : (xs ys : List (Event Slot Word)) → lenient (xs ++ ys) ≡ lenient xs ++ lenient ys
  unfolding lenient
  lenient-append [] ys = refl
  lenient-append (e ∷ xs) ys = rw (lenient-append xs ys)

  module _ (touched : Slot → Bool) where
    abbrev pub calmed : List (Event Slot Word) → List (Event Slot Word)
    calmed es = restricted touched (lenient es)

    pub calmed-append : (xs ys : List (Event Slot Word)) → calmed (xs ++ ys) ≡ calmed xs ++ calmed ys
    unfolding restricted
    calmed-append xs ys = rw (lenient-append xs ys) (map-append (only touched) (lenient xs) (lenient ys))

    calmed_own : (es : List (Event Slot Word)) → own_fault (calmed es) ≡ none
    unfolding own_fault own_here later lenient restricted only
    calmed_own [] = refl
    calmed_own (e ∷ more) = rw (calmed_own more)

    calmed_low : (es : List (Event Slot Word)) → Low (calmed es)
    unfolding restricted only
    calmed_low es e m k q =
        let (d, x, p) = Memᴰ.of_map (only touched) (lenient es) m in
        absurd (none≢some (sym (lenient_own es d x) ∙ ap (λ (y : Event Slot Word). y.own) p ∙ q))

    calmed_in : (es : List (Event Slot Word)) (s : Slot) (v : Value) → touched s ≡ true → first_fault v (calmed es) s ≡ first_fault v es s
    unfolding first_fault lenient restricted only
    calmed_in [] s v t = refl
    calmed_in (e ∷ more) s v t = rw t (ap (fault_here (step v (e.gives s))) (calmed_in more s (final (step v (e.gives s))) t))

    calmed_out : (es : List (Event Slot Word)) (s : Slot) (v : Value) → touched s ≡ false → first_fault v (calmed es) s ≡ none
    unfolding first_fault lenient restricted only fault_here later step final
    calmed_out [] s v t = refl
    calmed_out (e ∷ more) s v t = rw t (ap later (calmed_out more s v t))

    module _ (start : Slot → Value) (new : List (Event Slot Word)) where
      abbrev SlotFault : List Slot → ℕ → ℕ → Type 0
      SlotFault part i n = (s : Slot) × Memᴰ s part × (touched s ≡ true) × (first_fault (start s) new s ≡ some (record { event = i; number = n }))

      -- a part's first fault is the least of its touched slots
      part-least : (part : List Slot) → Least (SlotFault part) (fold_fault part start (calmed new))
      unfolding Occurs
      part-least part = least-same to (λ i n (s, m, t, q). inr (s, m, refl, calmed_in new s (start s) t ∙ q)) (fold_fault part start (calmed new))
          (fold-least part start (calmed new) (calmed_low new))
        where
          to : (i n : ℕ) → Occurs part everywhere start (calmed new) i n → SlotFault part i n
          to i n (inl (e, g, q)) = absurd (own_none (calmed new) i n e (calmed_own new) g q)
          to i n (inr (s, m, j, q)) = go (touched s) refl
            where
              go : (b : Bool) → touched s ≡ b → SlotFault part i n
              go true t = (s, m, t, sym (calmed_in new s (start s) t) ∙ q)
              go false t = absurd (none≢some (sym (calmed_out new s (start s) t) ∙ q))

      abbrev pub part_fault : List Slot → Option Fault
      part_fault part = fold_fault part start (calmed new)

      parts-least : (P : ℕ → ℕ → Type 0) (best : Option Fault) → Least P best → (parts : List (List Slot))
          → Least (λ i n. P i n ⊎ ((part : List Slot) × Memᴰ part parts × SlotFault part i n)) (least_of best (map part_fault parts))
      unfolding least_of
      parts-least P best l [] = least-same (λ i n. inl) (λ i n. ⊎_elim (λ x. x) (λ x. absurd (Memᴰ.not-nil x.1))) best l
      parts-least P best l (part ∷ more) = least-same to from (least_of (better best (part_fault part)) (map part_fault more))
          (parts-least (λ i n. P i n ⊎ SlotFault part i n) (better best (part_fault part)) (least-join P (SlotFault part) best (part_fault part) l (part-least part)) more)
        where
          to : (i n : ℕ) → (P i n ⊎ SlotFault part i n) ⊎ ((x : List Slot) × Memᴰ x more × SlotFault x i n)
              → P i n ⊎ ((x : List Slot) × Memᴰ x (part ∷ more) × SlotFault x i n)
          to i n (inl (inl p)) = inl p
          to i n (inl (inr q)) = inr (part, Memᴰ.head refl, q)
          to i n (inr (x, m, q)) = inr (x, Memᴰ.tail m, q)

          from : (i n : ℕ) → P i n ⊎ ((x : List Slot) × Memᴰ x (part ∷ more) × SlotFault x i n)
              → (P i n ⊎ SlotFault part i n) ⊎ ((x : List Slot) × Memᴰ x more × SlotFault x i n)
          from i n (inl p) = inl (inl p)
          from i n (inr (x, m, q)) = ⊎_elim (λ e. inl (inr (rw e at q))) (λ k. inr (x, k, q)) (Memᴰ.cases_cons m)

      -- THE ANSWER is the least fault of all parts and of the records' own; every touched slot is in some part, and it matters not in how many
      pub outcome-by-parts : (slots : List Slot) (v : Slot → Value) (parts : List (List Slot)) → Low new
          → ((s : Slot) → touched s ≡ true → Memᴰ s slots × ((part : List Slot) × Memᴰ part parts × Memᴰ s part))
          → outcome slots touched start v [] new ≡ fault_answer new v (least_of (own_fault new) (map part_fault parts))
      unfolding Occurs
      outcome-by-parts slots v parts low covered = least_answers slots touched start v new least low
          (least-same (λ i n. ⊎_elim inl (λ (part, k, (s, m, t, q)). inr (s, (covered s t).0, t, q)))
          (λ i n. ⊎_elim inl (λ (s, m, t, q). let (part, k, l) = (covered s t).1 in inr (part, k, (s, l, t, q)))) least
          (parts-least (Own new) (own_fault new) (own_least new) parts))
        where
          least : Option Fault
          least = least_of (own_fault new) (map part_fault parts)

      -- and without one, a touched slot comes to what its history comes to, in whichever part it is
      pub part_left : (part : List Slot) (s : Slot) → Memᴰ s part → touched s ≡ true → part_fault part ≡ none
          → fold_left start (calmed new) s ≡ final (history (holds (start s)) new s)
      unfolding final
      part_left part s m t p = ap final (sym (fold-history part start (calmed new) s m p) ∙ restricted_in touched (lenient new) s (holds (start s)) t
          ∙ lenient-history new s (holds (start s)))
