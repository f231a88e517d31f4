-- Walking through a stack of symbols with a number in hand that each symbol may change or refuse. Where the grammar's table agrees with the
-- walk, the walk goes on through whatever the machine is fed; and where what it meets can come, the stack can be completed.
-- Assumes nothing.
use Rattle.std.specs.Prelude.{◌≡◌, Bool, eqb, drop}
use Rattle.std.proofs.Math.Path.{refl, subst}
use Rattle.std.proofs.Common.{sym, ap, ◌∙◌, true≢false, eqb-true}
use Rattle.std.proofs.Math.Bool.{true, false}
use mathlib.Core.List.{List, [], ◌∷◌, ◌++◌}
use Rattle.std.proofs.Math.Option.{Option, none, some}
use Prim.Native.Nat.{ℕ, zero, suc}
use Rattle.classes.specs.Choice.{pick}
use Rattle.grammar.specs.Ll.{
  Sym,
  lit,
  non,
  Alt,
  Row,
  choose,
  feeds,
  before_inv,
  none≢some,
  both_true,
  Derives,
  done,
  term,
  back,
  below,
  emptied,
  nil,
}

pub some_inj : {A : Type 0} {a b : A} → ◌≡◌ {A = Option A} (some a) (some b) → a ≡ b
some_inj e = cc

abbrev pub along : Option ℕ → (ℕ → Option ℕ) → Option ℕ
along none f = none
along (some q) f = f q

pub along_inv : (o : Option ℕ) (f : ℕ → Option ℕ) (z : ℕ) → along o f ≡ some z → (q : ℕ) × (o ≡ some q) × (f q ≡ some z)
along_inv none f z e = absurd (none≢some z e)
along_inv (some q) f z e = (q, refl, e)

pub kept_if : (v : Bool) (o : Option ℕ) (z : ℕ) → pick v o none ≡ some z → (v ≡ true) × (o ≡ some z)
kept_if true o z e = (refl, e)
kept_if false o z e = absurd (none≢some z e)

abbrev pub lands : Option ℕ → ℕ → Bool
lands none g = false
lands (some p) g = eqb p g

pub landed : (o : Option ℕ) (g : ℕ) → lands o g ≡ true → o ≡ some g
landed none g e = absurd (true≢false (sym e))
landed (some p) g e = ap (λ (x : ℕ). some x) (eqb-true p g e)

-- a terminal moves the number or refuses it; a place that may come wants one number, and leaves another
module _ {C N : Type 0} (moves : ℕ → C → Option ℕ) (may : N → Bool) (from to : N → ℕ) where
  abbrev pub goes : ℕ → Sym C N → Option ℕ
  goes q (lit c) = moves q c
  goes q (non n) = pick (may n) (pick (eqb q (from n)) (some (to n)) none) none

  unfoldable pub walk : ℕ → List (Sym C N) → Option ℕ
  walk q [] = some q
  walk q (x ∷ ss) = along (goes q x) (λ p. walk p ss)

  -- the walk through the terminals that took tokens
  unfoldable pub through : ℕ → List C → Option ℕ
  through q [] = some q
  through q (c ∷ cs) = along (moves q c) (λ p. through p cs)

  pub through-cons : (q p o : ℕ) (c : C) (cs : List C) → moves q c ≡ some p → through p cs ≡ some o → through q (c ∷ cs) ≡ some o
  unfolding through
  through-cons q p o c cs m h = rw m h

  -- THE TEST OF THE TABLE: each alternative of a place walks as the place does
  unfoldable pub agrees : ℕ → ℕ → List (Alt C N) → Bool
  agrees f g [] = true
  agrees f g (a ∷ more) = pick (lands (walk f (lit a.head ∷ a.rest)) g) (agrees f g more) false

  pub agrees-drop : (k f g : ℕ) (l : List (Alt C N)) → agrees f g l ≡ true → agrees f g (drop k l) ≡ true
  unfolding agrees
  agrees-drop zero f g l e = e
  agrees-drop (suc k) f g [] e = refl
  agrees-drop (suc k) f g (a ∷ l) e = agrees-drop k f g l (both_true (lands (walk f (lit a.head ∷ a.rest)) g) (agrees f g l) e).1

  pub walk-append : (q : ℕ) (xs ys : List (Sym C N)) → walk q (xs ++ ys) ≡ along (walk q xs) (λ p. walk p ys)
  unfolding walk
  walk-append q [] ys = refl
  walk-append q (x ∷ xs) ys = by (goes q x) (λ p. walk-append p xs ys)
    where
      by : (o : Option ℕ) → ((p : ℕ) → walk p (xs ++ ys) ≡ along (walk p xs) (λ p. walk p ys)) →
          along o (λ p. walk p (xs ++ ys)) ≡ along (along o (λ p. walk p xs)) (λ p. walk p ys)
      by none ih = refl
      by (some p) ih = ih p

  pub through-append : (q : ℕ) (xs ys : List C) → through q (xs ++ ys) ≡ along (through q xs) (λ p. through p ys)
  unfolding through
  through-append q [] ys = refl
  through-append q (x ∷ xs) ys = by (moves q x) (λ p. through-append p xs ys)
    where
      by : (o : Option ℕ) → ((p : ℕ) → through p (xs ++ ys) ≡ along (through p xs) (λ p. through p ys)) →
          along o (λ p. through p (xs ++ ys)) ≡ along (along o (λ p. through p xs)) (λ p. through p ys)
      by none ih = refl
      by (some p) ih = ih p

  module _ {Tok : Type 0} (fits : C → Tok → Bool) where
    pub agrees-chosen : (f g : ℕ) (l : List (Alt C N)) (t : Tok) (a : Alt C N) → agrees f g l ≡ true → choose fits l t ≡ some a →
        walk f (lit a.head ∷ a.rest) ≡ some g
    unfolding agrees
    agrees-chosen f g [] t a p e = absurd (none≢some a e)
    agrees-chosen f g (x ∷ more) t a p e =
        let (l, r) = both_true (lands (walk f (lit x.head ∷ x.rest)) g) (agrees f g more) p in
        by (fits x.head t) refl l (agrees-chosen f g more t a r)
      where
        by : (b : Bool) → fits x.head t ≡ b → lands (walk f (lit x.head ∷ x.rest)) g ≡ true →
            (choose fits more t ≡ some a → walk f (lit a.head ∷ a.rest) ≡ some g) → walk f (lit a.head ∷ a.rest) ≡ some g
        by true h l ih =
            let z : x ≡ a = some_inj (rw h at e) in
            subst (λ (y : Alt C N). walk f (lit y.head ∷ y.rest) ≡ some g) z (landed (walk f (lit x.head ∷ x.rest)) g l)
        by false h l ih = ih (rw h at e)

    module _ (alts : N → List (Alt C N)) (table : (n : N) → agrees (from n) (to n) (alts n) ≡ true) where
      -- the walk goes on through the terminals that took tokens, and then through what is still to come
      abbrev pub Walks : ℕ → ℕ → Row C N → Type 0
      Walks q z r = (p : ℕ) × (through q r.labels ≡ some p) × (walk p r.left ≡ some z)

      pub kept : (ts : List Tok) (ss : List (Sym C N)) (q z : ℕ) (r : Row C N) → walk q ss ≡ some z → feeds fits alts ss ts ≡ some r → Walks q z r
      unfolding feeds walk through
      kept [] ss q z r w e =
          subst (λ (x : Row C N). Walks q z x) (some_inj e) (q, refl, w)
      kept (t ∷ ts) [] q z r w e = absurd (none≢some r e)
      kept (t ∷ ts) (lit c ∷ ss) q z r w e =
          let (p, m, v) = along_inv (moves q c) (λ p. walk p ss) z w in
          by (fits c t) refl p m (λ x. kept ts ss p z x v)
        where
          by : (b : Bool) → fits c t ≡ b → (p : ℕ) → moves q c ≡ some p → ((x : Row C N) → feeds fits alts ss ts ≡ some x → Walks p z x) →
              Walks q z r
          by true f p m ih =
              let (x, h, g) = before_inv c (feeds fits alts ss ts) r (rw f at e) in
              let (o, a, b) = ih x h in
              subst (λ (y : Row C N). Walks q z y) (sym g) (o, through-cons q p o c x.labels m a, b)
          by false f p m ih = absurd (none≢some r (rw f at e))
      kept (t ∷ ts) (non n ∷ ss) q z r w e =
          let (p, m, v) = along_inv (goes q (non n)) (λ p. walk p ss) z w in
          let (y, u) = kept_if (may n) _ p m in
          let (i, j) = kept_if (eqb q (from n)) _ p u in
          by (choose fits (alts n) t) refl (eqb-true q (from n) i) (rw (← some_inj j) at v) (λ a p x. kept ts (a.rest ++ ss) p z x)
        where
          by : (o : Option (Alt C N)) → choose fits (alts n) t ≡ o → q ≡ from n → walk (to n) ss ≡ some z →
              ((a : Alt C N) (p : ℕ) (x : Row C N) → walk p (a.rest ++ ss) ≡ some z → feeds fits alts (a.rest ++ ss) ts ≡ some x → Walks p z x) →
              Walks q z r
          by none f i v ih = absurd (none≢some r (rw f at e))
          by (some a) f i v ih =
              let (x, h, g) = before_inv a.head (feeds fits alts (a.rest ++ ss) ts) r (rw f at e) in
              let (p, m, d) = along_inv (moves (from n) a.head) _ (to n) (agrees-chosen (from n) (to n) (alts n) t a (table n) f) in
              let (o, b, c) = ih a p x (walk-append p a.rest ss ∙ rw d v) h in
              subst (λ (y : Row C N). Walks q z y) (sym g)
              (o, through-cons q p o a.head x.labels (ap (λ (y : ℕ). moves y a.head) i ∙ m) b, c)

      -- where a sample of each terminal and of each place can come, a stack that is walked through can be completed
      module _ (word : C → Tok) (words : N → List Tok) (fit : (q : ℕ) (c : C) (p : ℕ) → moves q c ≡ some p → fits c (word c) ≡ true)
          (completes : (n : N) → may n ≡ true → emptied fits alts (feeds fits alts (non n ∷ []) (words n)) ≡ true) where
        row_of : (o : Option (Row C N)) → emptied fits alts o ≡ true → (r : Row C N) × (o ≡ some r) × (r.left ≡ [])
        row_of none e = absurd (true≢false (sym e))
        row_of (some r) e = (r, refl, empty r.left e)
          where
            empty : (l : List (Sym C N)) → nil l ≡ true → l ≡ []
            empty [] e = refl
            empty (x ∷ xs) e = absurd (true≢false (sym e))

        pub ends : (ss : List (Sym C N)) (q z : ℕ) → walk q ss ≡ some z → (us : List Tok) × (cs : List C) × Derives fits alts ss us cs
        unfolding walk
        ends [] q z w = ([], [], done)
        ends (lit c ∷ ss) q z w =
            let (p, m, v) = along_inv (moves q c) (λ p. walk p ss) z w in
            let (us, cs, d) = ends ss p z v in
            (word c ∷ us, c ∷ cs, term (fit q c p m) d)
        ends (non n ∷ ss) q z w =
            let (p, m, v) = along_inv (goes q (non n)) (λ p. walk p ss) z w in
            let (us, cs, d) = ends ss p z v in
            let (r, e, l) = row_of (feeds fits alts (non n ∷ []) (words n)) (completes n (kept_if (may n) _ p m).0) in
            (words n ++ us, r.labels ++ cs, back fits alts (words n) us (non n ∷ ss) _ cs (below fits alts (words n) (non n ∷ []) ss r e) (rw l d))
