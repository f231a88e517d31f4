-- Laws of histories: entry by entry is slot by slot; patching is annotating; what stays; two patches in either order.
-- Assumes nothing.
use Rattle.std.proofs.Math.Path.{◌≡◌, refl, sym, ap, subst, fun_ext}
use Rattle.std.proofs.Common.{◌∙◌, inl, inr, arith}
use Rattle.std.specs.Prelude.{Bool, ◌⊎◌, ◌↔◌, ℕ, leb, nat_abs, ◌+ℤ◌}
use Rattle.std.proofs.Math.Bool.{true, false}
use mathlib.Core.List.Memᴰ
use mathlib.Core.List.{List, [], ◌∷◌, ◌++◌, append-nil, append_assoc, Memᴰ}
use Rattle.std.proofs.Math.Option.{Option, none, some}
use Rattle.std.proofs.Math.Seq.{append_snoc}
use Rattle.classes.specs.Choice.{pick, or, and}
use Rattle.history.specs.Events.{limit, Value, Supply, nothing, replace, add, Held, holds, fails, summed, step, next, final, fails_with}
use Rattle.history.specs.Events.{supplied, any_of, or_else, when, Event, Answer, sheet, refused, left, everywhere, unless, history, supply}
use Rattle.history.specs.Events.{lenient, failing, number, outcome, annotated, affected, patched, stuck, judge, folded}

pub clash : {X : Type 0} → false ≡ true → X
clash e = let z : ◌≡◌ {A = ℕ} 0 1 = cc in absurd (omega arith)

pub some_inj : {A : Type 0} {a b : A} → ◌≡◌ {A = Option A} (some a) (some b) → a ≡ b
some_inj e = cc

pub none≢some : {A : Type 0} {a : A} → ◌≡◌ {A = Option A} none (some a) → ⊥
none≢some e = let z : ◌≡◌ {A = ℕ} 0 1 = cc in omega arith

or_left : (a b : Bool) → or a b ≡ false → a ≡ false
or_left true b e = e
or_left false b e = refl

or_right : (a b : Bool) → or a b ≡ false → b ≡ false
or_right true b e = clash (sym e)
or_right false b e = e

pub any_false : {A : Type 0} (f : A → Bool) (l : List A) (a : A) → any_of f l ≡ false → Memᴰ a l → f a ≡ false
unfolding any_of
any_false f [] a e m = absurd (Memᴰ.not-nil m)
any_false f (b ∷ more) a e m = go (any_false f more a (or_right (f b) (any_of f more) e)) (Memᴰ.cases_cons m)
  where
    go : (Memᴰ a more → f a ≡ false) → (a ≡ b) ⊎ Memᴰ a more → f a ≡ false
    go ih (inl p) = rw p (or_left (f b) (any_of f more) e)
    go ih (inr k) = ih k

pub any_cong : {A : Type 0} (f g : A → Bool) (l : List A) → ((a : A) → Memᴰ a l → f a ≡ g a) → any_of f l ≡ any_of g l
unfolding any_of
any_cong f g [] h = refl
any_cong f g (b ∷ more) h = rw (h b (Memᴰ.head refl), any_cong f g more (λ a m. h a (Memᴰ.tail m)))

pub any_none : {A : Type 0} (f : A → Bool) (l : List A) → ((a : A) → Memᴰ a l → f a ≡ false) → any_of f l ≡ false
unfolding any_of
any_none f [] h = refl
any_none f (b ∷ more) h = rw (h b (Memᴰ.head refl)) (any_none f more (λ a m. h a (Memᴰ.tail m)))

-- one step: a number that is neither 15 nor 16 is never given
pub step_fine : (v : Value) (x : Supply) → fails_with 15 (step v x) ≡ false → fails_with 16 (step v x) ≡ false → step v x ≡ holds (final (step v x))
unfolding step fails_with final summed
step_fine v nothing p q = refl
step_fine v (replace t) p q = refl
step_fine none (add t) p q = clash (sym p)
step_fine (some u) (add t) p q = go (leb (nat_abs (u +ℤ t)) limit) q
  where
    go : (b : Bool) → fails_with 16 (pick b (holds (some (u +ℤ t))) (fails 16)) ≡ false
        → pick b (holds (some (u +ℤ t))) (fails 16) ≡ holds (final (pick b (holds (some (u +ℤ t))) (fails 16)))
    go true q = refl
    go false q = clash (sym q)

-- no number: none of its three parts gives one
pub no_number : (o : Option ℕ) (a b : Bool) → or_else o (or_else (when a 15) (when b 16)) ≡ none → (o ≡ none) × (a ≡ false) × (b ≡ false)
unfolding or_else when
no_number (some n) a b e = let z : ◌≡◌ {A = ℕ} 0 1 = cc in absurd (omega arith)
no_number none true b e = let z : ◌≡◌ {A = ℕ} 0 1 = cc in absurd (omega arith)
no_number none false true e = let z : ◌≡◌ {A = ℕ} 0 1 = cc in absurd (omega arith)
no_number none false false e = (refl, refl, refl)

still : (x : Supply) (h : Held) → supplied x ≡ false → next h x ≡ h
unfolding supplied next step
still nothing (holds v) q = refl
still nothing (fails n) q = refl
still (replace t) h q = clash (sym q)
still (add t) h q = clash (sym q)

pub holds_inj : {v w : Value} → ◌≡◌ {A = Held} (holds v) (holds w) → v ≡ w
holds_inj e = cc

sheet_inj : {Slot Word : Type 0} {v w : Slot → Value} → ◌≡◌ {A = Answer Slot Word} (sheet v) (sheet w) → v ≡ w
sheet_inj e = cc

not-both : {Slot Word : Type 0} {v : Slot → Value} {n : ℕ} {x : Word} → ◌≡◌ {A = Answer Slot Word} (refused n x) (sheet v) → ⊥
not-both e = let z : ◌≡◌ {A = ℕ} 0 1 = cc in omega arith

number_inj : {Slot Word : Type 0} {n m : ℕ} {x y : Word} → ◌≡◌ {A = Answer Slot Word} (refused n x) (refused m y) → n ≡ m
number_inj e = cc

word_inj : {Slot Word : Type 0} {n m : ℕ} {x y : Word} → ◌≡◌ {A = Answer Slot Word} (refused n x) (refused m y) → x ≡ y
word_inj e = cc

module _ {Slot Word : Type 0} where
  history-append : (h : Held) (xs ys : List (Event Slot Word)) (s : Slot) → history h (xs ++ ys) s ≡ history (history h xs s) ys s
  unfolding history
  history-append h [] ys s = refl
  history-append h (e ∷ xs) ys s = history-append (next h (e.gives s)) xs ys s

  history_fails : (n : ℕ) (es : List (Event Slot Word)) (s : Slot) → history (fails n) es s ≡ fails n
  unfolding history next
  history_fails n [] s = refl
  history_fails n (e ∷ more) s = history_fails n more s

  -- a history that holds in the end holds all along
  pub prefix_holds : (h : Held) (xs ys : List (Event Slot Word)) (s : Slot) (v : Value) → history h (xs ++ ys) s ≡ holds v
      → (w : Value) × (history h xs s ≡ holds w)
  prefix_holds h xs ys s v e = go (history h xs s) refl (rw history-append at e)
    where
      go : (k : Held) → history h xs s ≡ k → history (history h xs s) ys s ≡ holds v → (w : Value) × (history h xs s ≡ holds w)
      go (holds w) p q = (w, p)
      go (fails n) p q = let z : ◌≡◌ {A = Held} (fails n) (holds v) = sym (history_fails n ys s)
          ∙ (rw p at q) in let y : ◌≡◌ {A = ℕ} 0 1 = cc in absurd (omega arith)

  -- one event more
  pub history_snoc : (h : Held) (xs : List (Event Slot Word)) (e : Event Slot Word) (s : Slot)
      → history h (xs ++ (e ∷ [])) s ≡ next (history h xs s) (e.gives s)
  unfolding history
  history_snoc h xs e s = history-append h xs (e ∷ []) s

  -- Entry by entry is slot by slot

  -- an event supplies slots of the sheet only
  unfoldable pub Within : List Slot → List (Event Slot Word) → Type 0
  Within slots es = (e : Event Slot Word) → Memᴰ e es → (s : Slot) → Memᴰ s slots ⊎ (e.gives s ≡ nothing)

  module _ (slots : List Slot) (start : Slot → Value) where
    -- `now` is what the histories over `done` have come to
    abbrev Reached : List (Event Slot Word) → (Slot → Value) → Type 0
    Reached done now = (s : Slot) → history (holds (start s)) done s ≡ holds (now s)

    one_more : (done : List (Event Slot Word)) (now : Slot → Value) (e : Event Slot Word) → Reached done now → (s : Slot)
        → history (holds (start s)) (done ++ (e ∷ [])) s ≡ step (now s) (e.gives s)
    unfolding next
    one_more done now e r s = history_snoc (holds (start s)) done e s ∙ rw (r s)

    same-failing : (n : ℕ) (done : List (Event Slot Word)) (now : Slot → Value) (e : Event Slot Word) → Reached done now
        → failing slots everywhere start n (done ++ (e ∷ [])) ≡ stuck slots n now e
    unfolding failing stuck
    same-failing n done now e r = any_cong _ _ slots (λ s m. ap (fails_with n) (one_more done now e r s))

    same_number : (done : List (Event Slot Word)) (now : Slot → Value) (e : Event Slot Word) → Reached done now
        → number slots everywhere start done e ≡ judge slots now e
    unfolding number judge
    same_number done now e r = rw (same-failing 15 done now e r, same-failing 16 done now e r)

    -- where nothing is refused, every slot steps on
    steps_on : (now : Slot → Value) (e : Event Slot Word) → ((s : Slot) → Memᴰ s slots ⊎ (e.gives s ≡ nothing)) → judge slots now e ≡ none
        → (s : Slot) → step (now s) (e.gives s) ≡ holds (final (step (now s) (e.gives s)))
    unfolding judge stuck fails_with step
    steps_on now e w q s = go (w s)
      where
        three : (e.own ≡ none) × (stuck slots 15 now e ≡ false) × (stuck slots 16 now e ≡ false)
        three = no_number e.own (stuck slots 15 now e) (stuck slots 16 now e) q

        quiet : (x : Supply) → x ≡ nothing → step (now s) x ≡ holds (final (step (now s) x))
        quiet x p = rw p (step_fine (now s) nothing refl refl)

        go : Memᴰ s slots ⊎ (e.gives s ≡ nothing) → step (now s) (e.gives s) ≡ holds (final (step (now s) (e.gives s)))
        go (inl m) = step_fine (now s) (e.gives s) (any_false _ slots s three.1 m) (any_false _ slots s three.2 m)
        go (inr p) = quiet (e.gives s) p

    -- after `done`, and with `now` as the histories over it, the rest gives what the histories over all of it say
    pub fold-from : (done todo : List (Event Slot Word)) (now v : Slot → Value) → Within slots todo → Reached done now
        → ((s : Slot) → v s ≡ final (history (holds (start s)) (done ++ todo) s))
        → folded slots now todo ≡ outcome slots everywhere start v done todo
    unfolding folded outcome unless final Within
    fold-from done [] now v w r f = ap sheet (fun_ext
        (λ s. sym (f s ∙ ap final (ap (λ (l : List (Event Slot Word)). history (holds (start s)) l s) (append-nil done) ∙ r s))))
    fold-from done (e ∷ more) now v w r f = rw (same_number done now e r) (go (judge slots now e) refl
        (λ p. fold-from (done ++ (e ∷ [])) more (λ s. final (step (now s) (e.gives s))) v (λ d m. w d (Memᴰ.tail m))
        (λ s. one_more done now e r s ∙ steps_on now e (w e (Memᴰ.head refl)) p s) (λ s. rw append_snoc (f s))))
      where
        go : (o : Option ℕ) → judge slots now e ≡ o
            → (judge slots now e ≡ none → folded slots (λ s. final (step (now s) (e.gives s))) more ≡ outcome slots everywhere start v
            (done ++ (e ∷ [])) more)
            → unless e.word o (folded slots (λ s. final (step (now s) (e.gives s))) more) ≡ unless e.word o
            (outcome slots everywhere start v (done ++ (e ∷ [])) more)
        go none p ih = ih p
        go (some n) p ih = refl

    -- a program that goes entry by entry gives what the definition says, slot by slot
    pub fold-is-annotated : (es : List (Event Slot Word)) → Within slots es → folded slots start es ≡ annotated slots start es
    unfolding annotated history
    fold-is-annotated es w = fold-from [] es start (λ s. final (history (holds (start s)) es s)) w (λ s. refl) (λ s. refl)

    -- a loop's two steps
    pub fold_step : (now : Slot → Value) (e : Event Slot Word) (more : List (Event Slot Word)) → judge slots now e ≡ none
        → folded slots now (e ∷ more) ≡ folded slots (λ s. final (step (now s) (e.gives s))) more
    unfolding folded unless
    fold_step now e more p = rw p

    pub fold-stop : (now : Slot → Value) (e : Event Slot Word) (more : List (Event Slot Word)) (n : ℕ) → judge slots now e ≡ some n
        → folded slots now (e ∷ more) ≡ refused n e.word
    unfolding folded unless
    fold-stop now e more n p = rw p

    fold_reaches : (done todo : List (Event Slot Word)) (now v : Slot → Value) → Within slots todo → Reached done now
        → folded slots now todo ≡ sheet v → Reached (done ++ todo) v
    unfolding folded unless Within
    fold_reaches done [] now v w r e = λ s. rw append-nil (r s ∙ ap (λ (x : Slot → Value). holds (x s)) (sheet_inj e))
    fold_reaches done (d ∷ more) now v w r e = go (judge slots now d) refl e
        (λ p q s. rw append_snoc at (fold_reaches (done ++ (d ∷ [])) more (λ s. final (step (now s) (d.gives s))) v (λ x m. w x (Memᴰ.tail m))
        (λ s. one_more done now d r s ∙ steps_on now d (w d (Memᴰ.head refl)) p s) q s))
      where
        go : (o : Option ℕ) → judge slots now d ≡ o → unless d.word o (folded slots (λ s. final (step (now s) (d.gives s))) more) ≡ sheet v
            → (judge slots now d ≡ none → folded slots (λ s. final (step (now s) (d.gives s))) more ≡ sheet v → Reached (done ++ (d ∷ more)) v)
            → Reached (done ++ (d ∷ more)) v
        go none p q ih = ih p q
        go (some n) p q ih = absurd (not-both q)

    -- after any number of entries that were let pass, the program's sheet holds in each slot the history over those
    pub fold-holds : (es : List (Event Slot Word)) (v : Slot → Value) → Within slots es → folded slots start es ≡ sheet v → (s : Slot)
        → history (holds (start s)) es s ≡ holds (v s)
    unfolding history
    fold-holds es v w e = fold_reaches [] es start v w (λ s. refl) e

  -- What an accepted list of events tells

  module _ (slots : List Slot) (judged : Slot → Bool) (start v : Slot → Value) where
    passes : (done : List (Event Slot Word)) (e : Event Slot Word) (more : List (Event Slot Word)) (w : Slot → Value)
        → outcome slots judged start v done (e ∷ more) ≡ sheet w
        → (number slots judged start done e ≡ none) × (outcome slots judged start v (done ++ (e ∷ [])) more ≡ sheet w)
    unfolding outcome unless
    passes done e more w p = go (number slots judged start done e) refl p
      where
        go : (o : Option ℕ) → number slots judged start done e ≡ o → unless e.word o (outcome slots judged start v (done ++ (e ∷ [])) more)
            ≡ sheet w
            → (number slots judged start done e ≡ none) × (outcome slots judged start v (done ++ (e ∷ [])) more ≡ sheet w)
        go none q r = (q, r)
        go (some n) q r = absurd (not-both r)

    pub accepted_value : (done todo : List (Event Slot Word)) (w : Slot → Value) → outcome slots judged start v done todo ≡ sheet w → v ≡ w
    unfolding outcome
    accepted_value done [] w p = sheet_inj p
    accepted_value done (e ∷ more) w p = accepted_value (done ++ (e ∷ [])) more w (passes done e more w p).1

    accepted_own : (done todo : List (Event Slot Word)) (w : Slot → Value) → outcome slots judged start v done todo ≡ sheet w → (e : Event Slot Word)
        → Memᴰ e todo → e.own ≡ none
    unfolding number
    accepted_own done [] w p d m = absurd (Memᴰ.not-nil m)
    accepted_own done (e ∷ more) w p d m = go (accepted_own (done ++ (e ∷ [])) more w (passes done e more w p).1 d) (Memᴰ.cases_cons m)
      where
        go : (Memᴰ d more → d.own ≡ none) → (d ≡ e) ⊎ Memᴰ d more → d.own ≡ none
        go ih (inl q) = rw q (no_number e.own _ _ (passes done e more w p).0).0
        go ih (inr k) = ih k

    accepted_holds : (done todo : List (Event Slot Word)) (w : Slot → Value) → outcome slots judged start v done todo ≡ sheet w → (s : Slot)
        → Memᴰ s slots → judged s ≡ true
        → (u : Value) → history (holds (start s)) done s ≡ holds u → (x : Value) × (history (holds (start s)) (done ++ todo) s ≡ holds x)
    unfolding number failing next
    accepted_holds done [] w p s m j u q = (u, rw append-nil q)
    accepted_holds done (e ∷ more) w p s m j u q = let (x, r) = accepted_holds (done ++ (e ∷ [])) more w
        (passes done e more w p).1 s m j _ fine in (x, rw append_snoc at r)
      where
        three : (e.own ≡ none) × (failing slots judged start 15 (done ++ (e ∷ [])) ≡ false) × (failing slots judged start 16 (done ++ (e ∷ []))
            ≡ false)
        three = no_number e.own _ _ (passes done e more w p).0

        now : history (holds (start s)) (done ++ (e ∷ [])) s ≡ step u (e.gives s)
        now = history_snoc (holds (start s)) done e s ∙ rw q

        fine : history (holds (start s)) (done ++ (e ∷ [])) s ≡ holds (final (step u (e.gives s)))
        fine = now ∙ step_fine u (e.gives s) (rw (j, now) at (any_false _ slots s three.1 m)) (rw (j, now) at (any_false _ slots s three.2 m))

  -- two ways of judging that differ only on slots whose history holds
  module _ (slots : List Slot) (one two : Slot → Bool) (start v : Slot → Value) where
    abbrev Calm : List (Event Slot Word) → Type 0
    Calm es = (s : Slot) → Memᴰ s slots → (one s ≡ two s) ⊎ ((x : Value) × (history (holds (start s)) es s ≡ holds x))

    same-judged : (n : ℕ) (es more : List (Event Slot Word)) → Calm (es ++ more) → failing slots one start n es ≡ failing slots two start n es
    unfolding failing fails_with
    same-judged n es more calm = any_cong _ _ slots (λ s m. go s (calm s m))
      where
        off : (b : Bool) → and b false ≡ false
        off true = refl
        off false = refl

        go : (s : Slot) → (one s ≡ two s) ⊎ ((x : Value) × (history (holds (start s)) (es ++ more) s ≡ holds x))
            → and (one s) (fails_with n (history (holds (start s)) es s)) ≡ and (two s) (fails_with n (history (holds (start s)) es s))
        go s (inl p) = rw p
        go s (inr (x, p)) = let (y, q) = prefix_holds (holds (start s)) es more s x p in rw q (off (one s) ∙ sym (off (two s)))

    same_outcome : (done todo : List (Event Slot Word)) → Calm (done ++ todo)
        → outcome slots one start v done todo ≡ outcome slots two start v done todo
    unfolding outcome number
    same_outcome done [] calm = refl
    same_outcome done (e ∷ more) calm = rw (
      same-judged 15 (done ++ (e ∷ [])) more here,
      same-judged 16 (done ++ (e ∷ [])) more here,
      same_outcome
          (done ++ (e ∷ [])) more here,
    )
      where
        here : Calm ((done ++ (e ∷ [])) ++ more)
        here = rw append_snoc calm

  -- if the records refuse nothing and every judged slot's history holds, all is let pass
  module _ (slots : List Slot) (judged : Slot → Bool) (start v : Slot → Value) where
    none-failing : (n : ℕ) (es more : List (Event Slot Word))
        → ((s : Slot) → Memᴰ s slots → (x : Value) × (history (holds (start s)) (es ++ more) s ≡ holds x))
        → failing slots judged start n es ≡ false
    unfolding failing fails_with
    none-failing n es more f = any_none _ slots (λ s m. go s (f s m))
      where
        off : (b : Bool) → and b false ≡ false
        off true = refl
        off false = refl

        go : (s : Slot) → (x : Value) × (history (holds (start s)) (es ++ more) s ≡ holds x)
            → and (judged s) (fails_with n (history (holds (start s)) es s)) ≡ false
        go s (x, p) = let (y, q) = prefix_holds (holds (start s)) es more s x p in rw q (off (judged s))

    all_pass : (done todo : List (Event Slot Word)) → ((e : Event Slot Word) → Memᴰ e todo → e.own ≡ none)
        → ((s : Slot) → Memᴰ s slots → (x : Value) × (history (holds (start s)) (done ++ todo) s ≡ holds x))
        → outcome slots judged start v done todo ≡ sheet v
    unfolding outcome number or_else when unless
    all_pass done [] own f = refl
    all_pass done (e ∷ more) own f = rw (
      none-failing 15 (done ++ (e ∷ [])) more here,
      none-failing 16 (done ++ (e ∷ [])) more here,
      all_pass
          (done ++ (e ∷ [])) more (λ d m. own d (Memᴰ.tail m)) here,
      own e (Memᴰ.head refl),
    )
      where
        here : (s : Slot) → Memᴰ s slots → (x : Value) × (history (holds (start s)) ((done ++ (e ∷ [])) ++ more) s ≡ holds x)
        here = rw append_snoc f

  -- events that give a slot nothing leave its history
  skip : (es : List (Event Slot Word)) (s : Slot) (h : Held) → supply es s ≡ false → history h es s ≡ h
  unfolding supply any_of history
  skip [] s h p = refl
  skip (e ∷ more) s h p = rw (still (e.gives s) h (or_left (supplied (e.gives s)) (supply more s) p))
      (skip more s h (or_right (supplied (e.gives s)) (supply more s) p))

  pub lenient-history : (es : List (Event Slot Word)) (s : Slot) (h : Held) → history h (lenient es) s ≡ history h es s
  unfolding lenient history
  lenient-history [] s h = refl
  lenient-history (e ∷ more) s h = lenient-history more s (next h (e.gives s))

  lenient-same : (es : List (Event Slot Word)) → ((e : Event Slot Word) → Memᴰ e es → e.own ≡ none) → lenient es ≡ es
  unfolding lenient
  lenient-same [] f = refl
  lenient-same (e ∷ more) f = rw (lenient-same more (λ d m. f d (Memᴰ.tail m)), ← f e (Memᴰ.head refl))

  -- a slot that neither cell supplies has the same history with either
  pub unaffected : (before outgoing after incoming : List (Event Slot Word)) (s : Slot) (h : Held) → affected outgoing incoming s ≡ false
      → history h (before ++ (outgoing ++ after)) s ≡ history h (before ++ (incoming ++ after)) s
  unfolding affected
  unaffected before outgoing after incoming s h p = simp history-append
      (rw (
        skip outgoing s (history h before s) (or_left (supply outgoing s) (supply incoming s) p),
        skip incoming s (history h before s)
            (or_right (supply outgoing s) (supply incoming s) p),
      ))

  -- the theorem behind demand 3
  pub patch-is_annotating : (slots : List Slot) (start : Slot → Value) (before outgoing after incoming : List (Event Slot Word))
      (current : Slot → Value)
      → annotated slots start (before ++ (outgoing ++ after)) ≡ sheet current
      → patched slots start before outgoing after incoming current ≡ annotated slots start (before ++ (incoming ++ after))
  unfolding annotated patched history
  patch-is_annotating slots start before outgoing after incoming current e =
      rw (
        lenient-same before (λ d m. own d (Memᴰ.append_left (outgoing ++ after) m)),
        lenient-same after
            (λ d m. own d (Memᴰ.append_right before (Memᴰ.append_right outgoing m))),
        fun_ext values,
      )
      (same_outcome slots touched everywhere start (λ s. final (over new s)) [] new (λ s m. calm s m (touched s) refl))
    where
      old : List (Event Slot Word)
      old = before ++ (outgoing ++ after)

      new : List (Event Slot Word)
      new = before ++ (incoming ++ after)

      over : List (Event Slot Word) → Slot → Held
      over es s = history (holds (start s)) es s

      touched : Slot → Bool
      touched = affected outgoing incoming

      own : (d : Event Slot Word) → Memᴰ d old → d.own ≡ none
      own = accepted_own slots everywhere start (λ s. final (over old s)) [] old current e

      was : (s : Slot) → final (over old s) ≡ current s
      was s = ap (λ (f : Slot → Value). f s) (accepted_value slots everywhere start (λ s. final (over old s)) [] old current e)

      value : (s : Slot) (b : Bool) → touched s ≡ b → pick b (final (over new s)) (current s) ≡ final (over new s)
      value s true p = refl
      value s false p = sym (was s) ∙ ap final (unaffected before outgoing after incoming s (holds (start s)) p)

      values : (s : Slot) → pick (touched s) (final (over new s)) (current s) ≡ final (over new s)
      values s = value s (touched s) refl

      calm : (s : Slot) → Memᴰ s slots → (b : Bool) → touched s ≡ b → (touched s ≡ true) ⊎ ((x : Value) × (over new s ≡ holds x))
      calm s m true p = inl p
      calm s m false p = let (x, q) = accepted_holds slots everywhere start (λ s. final (over old s)) [] old current e s m refl (start s) refl in inr
          (x, sym (unaffected before outgoing after incoming s (holds (start s)) p) ∙ q)

  -- What stays

  -- the values that an accepted patch leaves, whatever the current sheet
  patched-value : (slots : List Slot) (start : Slot → Value) (before outgoing after incoming : List (Event Slot Word)) (current w : Slot → Value)
      → patched slots start before outgoing after incoming current ≡ sheet w → (s : Slot)
      → w s ≡ pick (affected outgoing incoming s) (final (history (holds (start s)) (before ++ (incoming ++ after)) s)) (current s)
  unfolding patched
  patched-value slots start before outgoing after incoming current w e s = sym
      (ap (λ (f : Slot → Value). f s) (accepted_value slots _ start _ [] _ w e)) ∙ ap (λ (h : Held). pick (affected outgoing incoming s) (final h)
      (current s)) same
    where
      same : history (holds (start s)) (lenient before ++ (incoming ++ lenient after)) s ≡ history (holds (start s)) (before ++ (incoming ++ after)) s
      same = simp (history-append, lenient-history)

  -- whatever a patch answers, a slot that neither cell supplies is as before
  pub outside_unchanged : (slots : List Slot) (start : Slot → Value) (before outgoing after incoming : List (Event Slot Word))
      (current : Slot → Value) (s : Slot)
      → affected outgoing incoming s ≡ false → left current (patched slots start before outgoing after incoming current) s ≡ current s
  unfolding left
  outside_unchanged slots start before outgoing after incoming current s p = go (patched slots start before outgoing after incoming current) refl
    where
      go : (a : Answer Slot Word) → patched slots start before outgoing after incoming current ≡ a → left current a s ≡ current s
      go (sheet w) e = patched-value slots start before outgoing after incoming current w e s ∙ rw p
      go (refused n x) e = refl

  -- and after a refusal all are
  pub refused_unchanged : (was : Slot → Value) (a : Answer Slot Word) (n : ℕ) (x : Word) → a ≡ refused n x → left was a ≡ was
  unfolding left
  refused_unchanged was a n x e = rw e

  -- two patches, at two cells of a file, in either order
  pub patches_commute : (slots : List Slot) (start : Slot → Value)
      (before outgoing1 between outgoing2 after incoming1 incoming2 : List (Event Slot Word)) (current v1 w1 v2 w2 : Slot → Value)
      → patched slots start before outgoing1 (between ++ (outgoing2 ++ after)) incoming1 current ≡ sheet v1
      → patched slots start (before ++ (incoming1 ++ between)) outgoing2 after incoming2 v1 ≡ sheet w1
      → patched slots start (before ++ (outgoing1 ++ between)) outgoing2 after incoming2 current ≡ sheet v2
      → patched slots start before outgoing1 (between ++ (incoming2 ++ after)) incoming1 v2 ≡ sheet w2
      → w1 ≡ w2
  patches_commute slots start X O1 Y O2 Z c d current v1 w1 v2 w2 e1 f1 e2 f2 = fun_ext (λ s.
      patched-value slots start (X ++ (c ++ Y)) O2 Z d v1 w1 f1 s
      ∙ ap (pick (affected O2 d s) (over ((X ++ (c ++ Y)) ++ (d ++ Z)) s)) (patched-value slots start X O1 (Y ++ (O2 ++ Z)) c current v1 e1 s)
      ∙ go s (affected O1 c s) (affected O2 d s) refl refl
      ∙ ap (pick (affected O1 c s) (over (X ++ (c ++ (Y ++ (d ++ Z)))) s)) (sym (patched-value slots start (X ++ (O1 ++ Y)) O2 Z d current v2 e2 s))
      ∙ sym (patched-value slots start X O1 (Y ++ (d ++ Z)) c v2 w2 f2 s))
    where
      over : List (Event Slot Word) → Slot → Value
      over es s = final (history (holds (start s)) es s)

      regroup : (k m : List (Event Slot Word)) (s : Slot) → over ((X ++ (k ++ Y)) ++ (m ++ Z)) s ≡ over (X ++ (k ++ (Y ++ (m ++ Z)))) s
      regroup k m s = simp append_assoc

      go : (s : Slot) (b1 b2 : Bool) → affected O1 c s ≡ b1 → affected O2 d s ≡ b2
          → pick b2 (over ((X ++ (c ++ Y)) ++ (d ++ Z)) s) (pick b1 (over (X ++ (c ++ (Y ++ (O2 ++ Z)))) s) (current s))
          ≡ pick b1 (over (X ++ (c ++ (Y ++ (d ++ Z)))) s) (pick b2 (over ((X ++ (O1 ++ Y)) ++ (d ++ Z)) s) (current s))
      go s true true p q = regroup c d s
      go s true false p q = sym (regroup c O2 s) ∙ ap final (unaffected (X ++ (c ++ Y)) O2 Z d s (holds (start s)) q) ∙ regroup c d s
      go s false true p q = regroup c d s ∙ sym (regroup O1 d s ∙ ap final (unaffected X O1 (Y ++ (d ++ Z)) c s (holds (start s)) p))
      go s false false p q = refl

  -- exactly when, and what

  -- annotating gives the sheet v exactly if the records refuse nothing and every slot's history holds, and holds v there
  pub accepted_exactly : (slots : List Slot) (start v : Slot → Value) (es : List (Event Slot Word)) → Within slots es
      → (annotated slots start es ≡ sheet v) ↔ (((e : Event Slot Word) → Memᴰ e es → e.own ≡ none) × ((s : Slot)
      → history (holds (start s)) es s ≡ holds (v s)))
  unfolding annotated final
  accepted_exactly slots start v es w = (there, back)
    where
      there : annotated slots start es ≡ sheet v → ((e : Event Slot Word) → Memᴰ e es → e.own ≡ none) × ((s : Slot)
          → history (holds (start s)) es s ≡ holds (v s))
      there p = (accepted_own slots everywhere start _ [] es v p, fold-holds slots start es v w (fold-is-annotated slots start es w ∙ p))

      back : ((e : Event Slot Word) → Memᴰ e es → e.own ≡ none) × ((s : Slot) → history (holds (start s)) es s ≡ holds (v s))
          → annotated slots start es ≡ sheet v
      back (own, held) = all_pass slots everywhere start (λ s. final (history (holds (start s)) es s)) [] es own (λ s m. (v s, held s)) ∙ ap sheet
          (fun_ext (λ s. ap final (held s)))

  -- a refusal, exactly: the events before some e are let pass, e then gets this number, and the word is its own
  module _ (slots : List Slot) (judged : Slot → Bool) (start v : Slot → Value) where
    unfoldable pub First : List (Event Slot Word) → List (Event Slot Word) → ℕ → Word → Type 0
    First done todo n w = (before : List (Event Slot Word)) × (e : Event Slot Word) × (after : List (Event Slot Word)) ×
        (todo ≡ before ++ (e ∷ after)) × (outcome slots judged start v done before ≡ sheet v) × (number slots judged start (done ++ before) e
        ≡ some n) × (e.word ≡ w)

    first_refused : (done todo : List (Event Slot Word)) (n : ℕ) (w : Word) → outcome slots judged start v done todo ≡ refused n w
        → First done todo n w
    unfolding outcome First unless
    first_refused done [] n w p = absurd (not-both (sym p))
    first_refused done (e ∷ more) n w p = go (number slots judged start done e) refl p (first_refused (done ++ (e ∷ [])) more n w)
      where
        go : (o : Option ℕ) → number slots judged start done e ≡ o → unless e.word o (outcome slots judged start v (done ++ (e ∷ [])) more)
            ≡ refused n w
            → (outcome slots judged start v (done ++ (e ∷ [])) more ≡ refused n w → First (done ++ (e ∷ [])) more n w) → First done (e ∷ more) n w
        go none q r ih =
            let (b, d, a, x, y, z, u) = ih r in
            (e ∷ b, d, a, ap (λ (l : List (Event Slot Word)). e ∷ l) x, rw q y, rw append_snoc at z, u)
        go (some k) q r ih = ([], e, more, refl, refl, rw append-nil (q ∙ ap some (number_inj r)), word_inj r)

    stops_at : (done b : List (Event Slot Word)) (e : Event Slot Word) (a : List (Event Slot Word)) (n : ℕ)
        → outcome slots judged start v done b ≡ sheet v → number slots judged start (done ++ b) e ≡ some n
        → outcome slots judged start v done (b ++ (e ∷ a)) ≡ refused n e.word
    unfolding outcome unless
    stops_at done [] e a n y z = rw (rw append-nil at z)
    stops_at done (d ∷ b) e a n y z = let (q, r) = passes slots judged start v done d b v y in rw q
        (stops_at (done ++ (d ∷ [])) b e a n r (rw append_snoc z))

    pub refused_exactly : (done todo : List (Event Slot Word)) (n : ℕ) (w : Word)
        → (outcome slots judged start v done todo ≡ refused n w) ↔ First done todo n w
    unfolding First
    refused_exactly done todo n w = (first_refused done todo n w, λ (b, e, a, x, y, z, u). rw x (stops_at done b e a n y z ∙ ap (refused n) u))

  -- a property of a slot's value that each step keeps holds at the end (ranges, signs, unused rows)
  pub history_keeps : (P : Value → Type 0) (es : List (Event Slot Word)) (s : Slot) (v w : Value)
      → ((e : Event Slot Word) → Memᴰ e es → (x y : Value) → P x → step x (e.gives s) ≡ holds y → P y)
      → P v → history (holds v) es s ≡ holds w → P w
  unfolding history next
  history_keeps P [] s v w f p e = subst P (holds_inj e) p
  history_keeps P (d ∷ more) s v w f p e = go (step v (d.gives s)) refl e (λ x. history_keeps P more s x w (λ c m. f c (Memᴰ.tail m)))
    where
      go : (h : Held) → step v (d.gives s) ≡ h → history h more s ≡ holds w → ((x : Value) → P x → history (holds x) more s ≡ holds w → P w) → P w
      go (holds x) q r ih = ih x (f d (Memᴰ.head refl) v x p q) r
      go (fails n) q r ih = let z : ◌≡◌ {A = Held} (fails n) (holds w) = sym (history_fails n more s) ∙ r in let y : ◌≡◌ {A = ℕ} 0 1 = cc in absurd
          (omega arith)
