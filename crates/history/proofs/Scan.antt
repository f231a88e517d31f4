-- A program without a second sheet: it goes slot by slot, keeps the least fault, and answers what the definition says.
-- Assumes nothing.
use Rattle.std.specs.Prelude.{◌≡◌, Bool, false, ◌⊎◌, ltb, eqb}
use Rattle.std.proofs.Math.Path.{refl, ap}
use Rattle.std.proofs.Common.{sym, ◌∙◌, inl, inr, arith, ltb-true, ltb-false, eqb-true}
use Rattle.std.proofs.Math.Bool.{true}
use mathlib.Core.List.Memᴰ
use mathlib.Core.List.{List, [], ◌∷◌, Memᴰ}
use Rattle.std.proofs.Math.Option.{Option, none, some}
use Rattle.std.proofs.Math.Logic.{⊎_elim}
use Prim.Native.Nat.{ℕ, zero, suc, ◌≤◌, ◌<◌}
use Rattle.std.proofs.Math.ListN.{get_elem?}
use Rattle.std.proofs.lemmas.Bool.{eqb-false}
use Rattle.classes.specs.Choice.{pick, or, and}
use Rattle.history.specs.Events.{Value, Held, holds, fails, step, final, Event, Answer, sheet, refused, outcome}
use Rattle.history.proofs.EventLaws.{clash, some_inj, none≢some}
use Rattle.history.specs.Faults.{Fault, later}
use Rattle.history.specs.Scan.{precedes, better, own_here, own_fault}
use Rattle.history.proofs.Faults.{fault_here, first_fault, Occurs, no_fault, least_fault_lem}

-- f is before g, or at the same event with no higher number
abbrev pub Leq : Fault → Fault → Type 0
Leq f g = (f.event < g.event) ⊎ ((f.event ≡ g.event) × (f.number ≤ g.number))

pub own_here-none : (o : Option ℕ) (rest : Option Fault) → own_here o rest ≡ none → (o ≡ none) × (rest ≡ none)
unfolding own_here later
own_here-none none none e = (refl, refl)
own_here-none none (some f) e = absurd (none≢some (sym e))
own_here-none (some n) rest e = absurd (none≢some (sym e))

own_here-some : (o : Option ℕ) (rest : Option Fault) (f : Fault) → own_here o rest ≡ some f
    → ((o ≡ some f.number) × (f.event ≡ 0)) ⊎ ((h : Fault) × (o ≡ none) × (rest ≡ some h) × (f.event ≡ suc h.event) × (f.number ≡ h.number))
unfolding own_here later
own_here-some none none f e = absurd (none≢some e)
own_here-some none (some h) f e = let q = some_inj e in inr (
  h,
  refl,
  refl,
  ap (λ (x : Fault). x.event) (sym q),
  ap (λ (x : Fault). x.number)
      (sym q),
)
own_here-some (some n) rest f e = let q = some_inj e in inl (ap (λ (x : Fault). some x.number) q, ap (λ (x : Fault). x.event) (sym q))

fault_here-some : (h : Held) (rest : Option Fault) (f : Fault) → fault_here h rest ≡ some f
    → (f.event ≡ 0) ⊎ ((k : Fault) × (rest ≡ some k) × (f.event ≡ suc k.event))
unfolding fault_here later
fault_here-some (holds v) none f e = absurd (none≢some e)
fault_here-some (holds v) (some k) f e = inr (k, refl, ap (λ (x : Fault). x.event) (sym (some_inj e)))
fault_here-some (fails n) rest f e = inl (ap (λ (x : Fault). x.event) (sym (some_inj e)))

leq_refl : (f : Fault) → Leq f f
leq_refl f = inr (refl, omega arith)

pub leq_trans : (f g h : Fault) → Leq f g → Leq g h → Leq f h
leq_trans f g h (inl a) (inl b) = inl (omega arith)
leq_trans f g h (inl a) (inr b) = inl (omega arith)
leq_trans f g h (inr a) (inl b) = inl (omega arith)
leq_trans f g h (inr a) (inr b) = inr (omega arith, omega arith)

leq_at : (f g h k : Fault) → h ≡ f → k ≡ g → Leq h k → Leq f g
leq_at f g h k p q x = rw (← p, ← q) x

-- the test, both ways
pub precedes_leq : (g f : Fault) → precedes g f ≡ true → Leq g f
precedes_leq g f p = go (ltb g.event f.event) refl (eqb g.event f.event) refl p
  where
    go : (a : Bool) → ltb g.event f.event ≡ a → (b : Bool) → eqb g.event f.event ≡ b → or a (and b (ltb g.number f.number)) ≡ true
        → Leq g f
    go true x b y p = inl (ltb-true _ _ x)
    go false x true y p = let z = ltb-true g.number f.number p in inr (eqb-true _ _ y, omega arith)
    go false x false y p = clash p

pub not-precedes : (g f : Fault) → precedes g f ≡ false → Leq f g
not-precedes g f p = go (ltb g.event f.event) refl (eqb g.event f.event) refl p
  where
    go : (a : Bool) → ltb g.event f.event ≡ a → (b : Bool) → eqb g.event f.event ≡ b → or a (and b (ltb g.number f.number)) ≡ false
        → Leq f g
    go true x b y p = clash (sym p)
    go false x true y p = let z = ltb-false g.number f.number p in inr (sym (eqb-true _ _ y), z)
    go false x false y p = let z = ltb-false g.event f.event x in let n = eqb-false g.event f.event y in inl
        (strict f.event g.event z (λ q. n (sym q)))
      where
        strict : (a b : ℕ) → a ≤ b → (a ≡ b → ⊥) → a < b
        strict a b h n = omega arith

-- f is at most whatever o holds
abbrev Under : Fault → Option Fault → Type 0
Under f o = (g : Fault) → o ≡ some g → Leq f g

pub better-none : (a b : Option Fault) → better a b ≡ none → (a ≡ none) × (b ≡ none)
unfolding better
better-none none b e = (refl, e)
better-none (some f) none e = absurd (none≢some (sym e))
better-none (some f) (some g) e = absurd (go (precedes g f) e)
  where
    go : (t : Bool) → pick t (some g) (some f) ≡ none → ⊥
    go true e = none≢some (sym e)
    go false e = none≢some (sym e)

better-some : (a b : Option Fault) (f : Fault) → better a b ≡ some f → ((a ≡ some f) ⊎ (b ≡ some f)) × Under f a × Under f b
unfolding better
better-some none b f e = (inr e, λ g q. absurd (none≢some q), λ g q. let z = some_inj (sym e ∙ q) in rw z (leq_refl g))
better-some (some h) none f e = (inl e, λ g q. let z = some_inj (sym e ∙ q) in rw z (leq_refl g), λ g q. absurd (none≢some q))
better-some (some h) (some k) f e = go (precedes k h) refl e
  where
    go : (t : Bool) → precedes k h ≡ t → pick t (some k) (some h) ≡ some f
        → ((some h ≡ some f) ⊎ (some k ≡ some f)) × Under f (some h) × Under f (some k)
    go true p q = (
      inr q,
      λ g r. leq_at f g k h (some_inj q) (some_inj r) (precedes_leq k h p),
      λ g r. leq_at f g k k (some_inj q) (some_inj r)
          (leq_refl k),
    )
    go false p q = (
      inl q,
      λ g r. leq_at f g h h (some_inj q) (some_inj r) (leq_refl h),
      λ g r. leq_at f g h k (some_inj q) (some_inj r)
          (not-precedes k h p),
    )

module _ {Slot Word : Type 0} where
  unfoldable pub word_answer : ℕ → Option (Event Slot Word) → (Slot → Value) → Answer Slot Word
  word_answer n none v = sheet v
  word_answer n (some e) v = refused n e.word

  unfoldable pub fault_answer : List (Event Slot Word) → (Slot → Value) → Option Fault → Answer Slot Word
  fault_answer es v none = sheet v
  fault_answer es v (some f) = word_answer f.number (get_elem? es f.event) v

  module _ (judged : Slot → Bool) (start : Slot → Value) (es : List (Event Slot Word)) where
    unfoldable pub fault_of : Slot → Option Fault
    fault_of s = pick (judged s) (first_fault (start s) es s) none

    unfoldable pub scan : Option Fault → List Slot → Option Fault
    scan best [] = best
    scan best (s ∷ more) = scan (better best (fault_of s)) more

    scan-none : (best : Option Fault) (l : List Slot) → scan best l ≡ none → (best ≡ none) × ((s : Slot) → Memᴰ s l → fault_of s ≡ none)
    unfolding scan
    scan-none best [] e = (e, λ s m. absurd (Memᴰ.not-nil m))
    scan-none best (x ∷ more) e = let (p, q) = scan-none (better best (fault_of x)) more e in let (a, b) = better-none best
        (fault_of x) p in (a, λ s m. ⊎_elim (λ z. rw z b) (q s) (Memᴰ.cases_cons m))

    scan-some : (best : Option Fault) (l : List Slot) (f : Fault) → scan best l ≡ some f
        → ((best ≡ some f) ⊎ ((s : Slot) × Memᴰ s l × (fault_of s ≡ some f))) × Under f best × ((s : Slot) → Memᴰ s l → Under f (fault_of s))
    unfolding scan
    scan-some best [] f e = (inl e, λ g q. leq_at f g f f refl (some_inj (sym e ∙ q)) (leq_refl f), λ s m. absurd (Memᴰ.not-nil m))
    scan-some best (x ∷ more) f e = let (a, b, c) = scan-some (better best (fault_of x)) more f e in let (u, w) = bounds
        (better best (fault_of x)) refl b in
        (source a, u, λ s m. ⊎_elim (λ z. rw z w) (c s) (Memᴰ.cases_cons m))
      where
        bounds : (o : Option Fault) → better best (fault_of x) ≡ o → Under f (better best (fault_of x)) → Under f best × Under f (fault_of x)
        bounds none p b = let (y, z) = better-none best (fault_of x) p in (
          λ g q. absurd (none≢some (sym y ∙ q)),
          λ g q. absurd
              (none≢some (sym z ∙ q)),
        )
        bounds (some h) p b = let (a, y, z) = better-some best (fault_of x) h p in (
          λ g q. leq_trans f h g (b h p) (y g q),
          λ g q. leq_trans f h g
              (b h p) (z g q),
        )

        source : (better best (fault_of x) ≡ some f) ⊎ ((s : Slot) × Memᴰ s more × (fault_of s ≡ some f))
            → (best ≡ some f) ⊎ ((s : Slot) × Memᴰ s (x ∷ more) × (fault_of s ≡ some f))
        source (inl q) = ⊎_elim inl (λ z. inr (x, Memᴰ.head refl, z)) (better-some best (fault_of x) f q).0
        source (inr (s, m, q)) = inr (s, Memᴰ.tail m, q)

  pub own_none : (es : List (Event Slot Word)) (i n : ℕ) (e : Event Slot Word) → own_fault es ≡ none → get_elem? es i ≡ some e → e.own ≡ some n → ⊥
  unfolding own_fault
  own_none [] i n e p g q = none≢some g
  own_none (d ∷ more) zero n e p g q = none≢some (sym (own_here-none d.own (own_fault more) p).0 ∙ ap (λ (x : Event Slot Word). x.own)
      (some_inj g) ∙ q)
  own_none (d ∷ more) (suc i) n e p g q = own_none more i n e (own_here-none d.own (own_fault more) p).1 g q

  pub own_some : (es : List (Event Slot Word)) (f : Fault) → own_fault es ≡ some f
      → ((e : Event Slot Word) × (get_elem? es f.event ≡ some e) × (e.own ≡ some f.number)) ×
      ((i n : ℕ) (e : Event Slot Word) → get_elem? es i ≡ some e → e.own ≡ some n → Leq f (record { event = i; number = n }))
  unfolding own_fault
  own_some [] f p = absurd (none≢some p)
  own_some (d ∷ more) f p = go (own_here-some d.own (own_fault more) f p) (own_some more)
    where
      IH : Type 0
      IH = (h : Fault) → own_fault more ≡ some h → ((e : Event Slot Word) × (get_elem? more h.event ≡ some e) × (e.own ≡ some h.number))
          × ((i n : ℕ) (e : Event Slot Word) → get_elem? more i ≡ some e → e.own ≡ some n → Leq h (record { event = i; number = n }))

      first : (x y : ℕ) → f.event ≡ 0 → d.own ≡ some f.number → (e : Event Slot Word) → get_elem? (d ∷ more) x ≡ some e → e.own ≡ some y
          → Leq f (record { event = x; number = y })
      first zero y z o e g q = let k : f.number ≡ y = some_inj (sym o ∙ ap (λ (x : Event Slot Word). x.own) (some_inj g) ∙ q) in inr
          (z, omega arith)
      first (suc x) y z o e g q = inl (omega arith)

      rest : (h : Fault) → d.own ≡ none → f.event ≡ suc h.event → f.number ≡ h.number
          → ((i n : ℕ) (e : Event Slot Word) → get_elem? more i ≡ some e → e.own ≡ some n → Leq h (record { event = i; number = n }))
          → (x y : ℕ) (e : Event Slot Word) → get_elem? (d ∷ more) x ≡ some e → e.own ≡ some y → Leq f (record { event = x; number = y })
      rest h o a b l zero y e g q = absurd (none≢some (sym o ∙ ap (λ (x : Event Slot Word). x.own) (some_inj g) ∙ q))
      rest h o a b l (suc x) y e g q = ⊎_elim (λ z. inl (omega arith)) (λ z. inr (omega arith, omega arith)) (l x y e g q)

      go : ((d.own ≡ some f.number) × (f.event ≡ 0)) ⊎ ((h : Fault) × (d.own ≡ none) × (own_fault more ≡ some h) × (f.event ≡ suc h.event)
          × (f.number ≡ h.number)) → IH
          → ((e : Event Slot Word) × (get_elem? (d ∷ more) f.event ≡ some e) × (e.own ≡ some f.number)) × ((i n : ℕ) (e : Event Slot Word)
          → get_elem? (d ∷ more) i ≡ some e → e.own ≡ some n → Leq f (record { event = i; number = n }))
      go (inl (o, z)) ih = ((d, ap (get_elem? (d ∷ more)) z, o), λ x y e g q. first x y z o e g q)
      go (inr (h, o, r, a, b)) ih = let (w, l) = ih h r in let (e, g, q) = w in (
        (
          e,
          ap (get_elem? (d ∷ more)) a ∙ g,
          q ∙ ap some
              (sym b),
        ),
        λ x y e g q. rest h o a b l x y e g q,
      )

  pub fault_event : (es : List (Event Slot Word)) (v : Value) (s : Slot) (f : Fault) → first_fault v es s ≡ some f
      → (e : Event Slot Word) × (get_elem? es f.event ≡ some e)
  unfolding first_fault
  fault_event [] v s f p = absurd (none≢some p)
  fault_event (d ∷ more) v s f p = go (fault_here-some (step v (d.gives s)) _ f p) (fault_event more (final (step v (d.gives s))) s)
    where
      go : (f.event ≡ 0) ⊎ ((k : Fault) × (first_fault (final (step v (d.gives s))) more s ≡ some k) × (f.event ≡ suc k.event))
          → ((k : Fault) → first_fault (final (step v (d.gives s))) more s ≡ some k → (e : Event Slot Word) × (get_elem? more k.event ≡ some e))
          → (e : Event Slot Word) × (get_elem? (d ∷ more) f.event ≡ some e)
      go (inl z) ih = (d, ap (get_elem? (d ∷ more)) z)
      go (inr (k, r, a)) ih = let (e, g) = ih k r in (e, ap (get_elem? (d ∷ more)) a ∙ g)

  -- the program's answer is the definition's
  pub scan-is-outcome : (slots : List Slot) (judged : Slot → Bool) (start v : Slot → Value) (es : List (Event Slot Word))
      → ((e : Event Slot Word) → Memᴰ e es → (k : ℕ) → e.own ≡ some k → k < 15)
      → fault_answer es v (scan judged start es (own_fault es) slots) ≡ outcome slots judged start v [] es
  unfolding fault_answer word_answer Occurs fault_of
  scan-is-outcome slots judged start v es low = go (scan judged start es (own_fault es) slots) refl
    where
      counts : (s : Slot) → judged s ≡ true → fault_of judged start es s ≡ first_fault (start s) es s
      counts s j = rw j

      judged-true : (s : Slot) (f : Fault) (b : Bool) → judged s ≡ b → fault_of judged start es s ≡ some f → judged s ≡ true
      judged-true s f true j q = j
      judged-true s f false j q = absurd (none≢some (rw j at q))

      -- the fault that was kept occurs, at an event that is there
      kept : (f : Fault) → (own_fault es ≡ some f) ⊎ ((s : Slot) × Memᴰ s slots × (fault_of judged start es s ≡ some f))
          → (d : Event Slot Word) × (get_elem? es f.event ≡ some d) × Occurs slots judged start es f.event f.number
      kept f (inl q) = let (e, g, o) = (own_some es f q).0 in (e, g, inl (e, g, o))
      kept f (inr (s, m, q)) = let j = judged-true s f (judged s) refl q in let r = sym (counts s j) ∙ q in let (d, g) = fault_event es
          (start s) s f r in (d, g, inr (s, m, j, r))

      -- and is at most any that occurs
      own_least : (f : Fault) → Under f (own_fault es) → (o : Option Fault) → own_fault es ≡ o → (i n : ℕ) (e : Event Slot Word)
          → get_elem? es i ≡ some e → e.own ≡ some n → Leq f (record { event = i; number = n })
      own_least f u none p i n e g q = absurd (own_none es i n e p g q)
      own_least f u (some h) p i n e g q = leq_trans f h (record { event = i; number = n }) (u h p) ((own_some es h p).1 i n e g q)

      least : (f : Fault) → Under f (own_fault es) → ((s : Slot) → Memᴰ s slots → Under f (fault_of judged start es s)) → (i n : ℕ)
          → Occurs slots judged start es i n → Leq f (record { event = i; number = n })
      least f u w i n (inl (e, g, q)) = own_least f u (own_fault es) refl i n e g q
      least f u w i n (inr (s, m, j, q)) = w s m (record { event = i; number = n }) (counts s j ∙ q)

      nothing_occurs : own_fault es ≡ none → ((s : Slot) → Memᴰ s slots → fault_of judged start es s ≡ none) → (i n : ℕ)
          → Occurs slots judged start es i n → ⊥
      nothing_occurs a b i n (inl (e, g, q)) = own_none es i n e a g q
      nothing_occurs a b i n (inr (s, m, j, q)) = none≢some (sym (b s m) ∙ counts s j ∙ q)

      go : (o : Option Fault) → scan judged start es (own_fault es) slots ≡ o → fault_answer es v o ≡ outcome slots judged start v [] es
      go none p = let (a, b) = scan-none judged start es (own_fault es) slots p in sym (no_fault slots judged start v es (nothing_occurs a b))
      go (some f) p =
          let (src, u, w) = scan-some judged start es (own_fault es) slots f p in
          let (d, g, o) = kept f src in
          rw g (sym (least_fault_lem slots judged start v es f.event f.number d low g o (least f u w)))
