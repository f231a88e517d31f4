-- A reading machine over a grammar: each token is taken by a terminal, and the terminal's meaning is judged against what is known so far.
-- Assumes nothing.
use Rattle.std.specs.Prelude.{◌≡◌, Bool, true, false, ◌↔◌, ℕ}
use Rattle.std.proofs.Math.Path.{refl, ap, subst}
use Rattle.std.proofs.Common.{sym, arith}
use mathlib.Core.List.{List, [], ◌∷◌, ◌++◌, Memᴰ, append-nil}
use Rattle.std.proofs.Math.Option.{Option, none, some}
use Rattle.classes.specs.Choice.{pick}
use Rattle.grammar.specs.Ll.{Sym, lit, non, Alt, Took, Row, choose, onto, feed, feeds, before_inv, none≢some, Derives, done, back, complete}

-- going on, or a refusal with its number and its place
pub data Res (S : Type 0) : Type 0 where
  fine : S → Res S
  bad : ℕ → ℕ → Res S

infixl 45 ◌then◌
abbrev pub ◌then◌ : {S T : Type 0} → Res S → (S → Res T) → Res T
fine s then f = f s
bad n p then f = bad n p

some_inj : {A : Type 0} {a b : A} → ◌≡◌ {A = Option A} (some a) (some b) → a ≡ b
some_inj e = cc

pub fine_inj : {S : Type 0} {a b : S} → fine a ≡ fine b → a ≡ b
fine_inj e = cc

pub bad≢fine : {S : Type 0} {n p : ℕ} {a : S} → bad n p ≡ fine a → ⊥
bad≢fine e = let z : ◌≡◌ {A = ℕ} 0 1 = cc in omega arith

pub record State (C N D : Type 0) : Type 0 where
  pub stack : List (Sym C N)
  pub book : D

module _ {C N Tok D : Type 0} (fits : C → Tok → Bool) (alts : N → List (Alt C N)) (judge : D → C → Tok → Res D) (wrong : D → Tok → ℕ) (place : Tok → ℕ) where
  abbrev pub judged : D → Tok → Option (Took C N) → Res (State C N D)
  judged d t none = bad (wrong d t) (place t)
  judged d t (some w) = judge d w.by t then (λ x. fine (record { stack = w.left; book = x }))

  -- one token
  abbrev pub step : State C N D → Tok → Res (State C N D)
  step st t = judged st.book t (feed fits alts st.stack t)

  -- where one alternative of a place is left that may fit, it is as if its head stood there
  pub as_head : (n : N) (a : Alt C N) (ss : List (Sym C N)) (d : D) (t : Tok) → choose fits (alts n) t ≡ pick (fits a.head t) (some a) none →
      step (record { stack = non n ∷ ss; book = d }) t ≡ step (record { stack = lit a.head ∷ (a.rest ++ ss); book = d }) t
  as_head n a ss d t e = rw e (by (fits a.head t))
    where
      by : (v : Bool) → judged d t (onto ss (pick v (some a) none)) ≡ judged d t (pick v (some (record { by = a.head; left = a.rest ++ ss })) none)
      by true = refl
      by false = refl

  unfoldable pub run : State C N D → List Tok → Res (State C N D)
  run st [] = fine st
  run st (t ∷ ts) = step st t then (λ x. run x ts)

  pub run-append : (st : State C N D) (a b : List Tok) → run st (a ++ b) ≡ run st a then (λ x. run x b)
  unfolding run
  run-append st [] b = refl
  run-append st (t ∷ a) b = go (step st t) (λ x. run-append x a b)
    where
      go : (r : Res (State C N D)) → ((x : State C N D) → run x (a ++ b) ≡ run x a then (λ y. run y b)) → (r then (λ x. run x (a ++ b))) ≡ ((r then (λ x. run x a)) then (λ y. run y b))
      go (fine x) ih = ih x
      go (bad n p) ih = refl

  -- what the tokens mean, by the terminals that take them
  unfoldable pub judges : D → List C → List Tok → Res D
  judges d [] ts = fine d
  judges d (c ∷ cs) [] = fine d
  judges d (c ∷ cs) (t ∷ ts) = judge d c t then (λ x. judges x cs ts)

  -- the machine goes on exactly where the grammar does and each token's judgment is fine
  pub splits : (st : State C N D) (ts : List Tok) (st' : State C N D) → run st ts ≡ fine st' →
      (r : Row C N) × (feeds fits alts st.stack ts ≡ some r) × (r.left ≡ st'.stack) × (judges st.book r.labels ts ≡ fine st'.book)
  unfolding run judges feeds
  splits st [] st' e = (record { labels = []; left = st.stack }, refl, ap (λ (x : State C N D). x.stack) (fine_inj e), ap (λ (x : State C N D). fine x.book) (fine_inj e))
  splits st (t ∷ ts) st' e = go (feed fits alts st.stack t) refl (λ x. splits x ts st')
    where
      go : (o : Option (Took C N)) → feed fits alts st.stack t ≡ o →
          ((x : State C N D) → run x ts ≡ fine st' → (r : Row C N) × (feeds fits alts x.stack ts ≡ some r) × (r.left ≡ st'.stack) × (judges x.book r.labels ts ≡ fine st'.book)) →
          (r : Row C N) × (feeds fits alts st.stack (t ∷ ts) ≡ some r) × (r.left ≡ st'.stack) × (judges st.book r.labels (t ∷ ts) ≡ fine st'.book)
      go none p ih = absurd (bad≢fine (rw p at e))
      go (some w) p ih = by (judge st.book w.by t) refl (rw p at e)
        where
          by : (j : Res D) → judge st.book w.by t ≡ j → ((j then (λ x. fine (record { stack = w.left; book = x }))) then (λ x. run x ts)) ≡ fine st' →
              (r : Row C N) × (feeds fits alts st.stack (t ∷ ts) ≡ some r) × (r.left ≡ st'.stack) × (judges st.book r.labels (t ∷ ts) ≡ fine st'.book)
          by (fine x) q f =
              let (r, a, b, c) = ih (record { stack = w.left; book = x }) f in
              (record { labels = w.by ∷ r.labels; left = r.left }, rw (p, a), b, rw q c)
          by (bad n z) q f = absurd (bad≢fine f)

  pub joins : (st : State C N D) (ts : List Tok) (r : Row C N) (d : D) → feeds fits alts st.stack ts ≡ some r → judges st.book r.labels ts ≡ fine d →
      run st ts ≡ fine (record { stack = r.left; book = d })
  unfolding run judges feeds
  joins st [] r d e f =
      subst (λ (x : Row C N). judges st.book x.labels [] ≡ fine d → fine st ≡ fine (record { stack = x.left; book = d })) (some_inj e)
      (λ g. ap (λ (x : D). fine (record { stack = st.stack; book = x })) (fine_inj g)) f
  joins st (t ∷ ts) r d e f = go (feed fits alts st.stack t) refl (λ x r d. joins x ts r d)
    where
      Goal : Row C N → Type 0
      Goal x = judges st.book x.labels (t ∷ ts) ≡ fine d → run st (t ∷ ts) ≡ fine (record { stack = x.left; book = d })

      go : (o : Option (Took C N)) → feed fits alts st.stack t ≡ o →
          ((x : State C N D) (r : Row C N) (d : D) → feeds fits alts x.stack ts ≡ some r → judges x.book r.labels ts ≡ fine d → run x ts ≡ fine (record { stack = r.left; book = d })) →
          run st (t ∷ ts) ≡ fine (record { stack = r.left; book = d })
      go none p ih = absurd (none≢some r (rw p at e))
      go (some w) p ih =
          let (q, h, g) = before_inv w.by (feeds fits alts w.left ts) r (rw p at e) in
          subst Goal (sym g) (by (judge st.book w.by t) refl q h) f
        where
          by : (j : Res D) → judge st.book w.by t ≡ j → (q : Row C N) → feeds fits alts w.left ts ≡ some q →
              judges st.book (w.by ∷ q.labels) (t ∷ ts) ≡ fine d → run st (t ∷ ts) ≡ fine (record { stack = q.left; book = d })
          by (fine x) z q h k = rw (p, z) (ih (record { stack = w.left; book = x }) q d h (rw z at k))
          by (bad n y) z q h k = absurd (bad≢fine (rw z at k))

  module _ (apart : (n : N) (a b : Alt C N) (t : Tok) → Memᴰ a (alts n) → Memᴰ b (alts n) → fits a.head t ≡ true → fits b.head t ≡ true → a ≡ b) where
    -- READ EXACTLY: the machine empties its stack, with this book, exactly where the tokens are derived and each judgment is fine
    pub exactly : (st : State C N D) (ts : List Tok) (d : D) →
        (run st ts ≡ fine (record { stack = []; book = d })) ↔ ((cs : List C) × Derives fits alts st.stack ts cs × (judges st.book cs ts ≡ fine d))
    exactly st ts d = (λ e. there (splits st ts _ e), λ (cs, x, j). joins st ts _ d (complete fits alts apart ts st.stack cs x) j)
      where
        there : (r : Row C N) × (feeds fits alts st.stack ts ≡ some r) × (r.left ≡ []) × (judges st.book r.labels ts ≡ fine d) →
            (cs : List C) × Derives fits alts st.stack ts cs × (judges st.book cs ts ≡ fine d)
        there (r, f, l, j) = (
          r.labels ++ [],
          subst (λ (x : List Tok). Derives fits alts st.stack x (r.labels ++ [])) (append-nil ts)
              (back fits alts ts [] st.stack r [] f (subst (λ (x : List (Sym C N)). Derives fits alts x [] []) (sym l) done)),
          rw append-nil j,
        )
