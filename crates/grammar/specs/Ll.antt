-- A grammar whose every alternative begins with a terminal, its derivations, and a machine that feeds it token by token.
-- Each token is labelled with the terminal that takes it, so that a terminal can say what its token means.
-- Assumes nothing.
use Rattle.std.specs.Prelude.{◌≡◌, Bool, ℕ}
use Rattle.std.proofs.Math.Path.{refl, ap, subst}
use Rattle.std.proofs.Common.{sym, ◌∙◌, true≢false, arith, ⊎_elim}
use Rattle.std.proofs.Math.Bool.{true, false}
use mathlib.Core.List.Memᴰ
use mathlib.Core.List.{List, [], ◌∷◌, ◌++◌, append_assoc, Memᴰ}
use Rattle.std.proofs.Math.Option.{Option, none, some}
use Rattle.classes.specs.Choice.{pick}

pub data Sym (C N : Type 0) : Type 0 where
  lit : C → Sym C N
  non : N → Sym C N

pub record Alt (C N : Type 0) : Type 0 where
  pub head : C
  pub rest : List (Sym C N)

-- a token was taken by this terminal, and this is still to come
pub record Took (C N : Type 0) : Type 0 where
  pub by : C
  pub left : List (Sym C N)

-- tokens were taken by these terminals, and this is still to come
pub record Row (C N : Type 0) : Type 0 where
  pub labels : List C
  pub left : List (Sym C N)

pub none≢some : {A : Type 0} (a : A) → ◌≡◌ {A = Option A} none (some a) → ⊥
none≢some a e = let z : ◌≡◌ {A = ℕ} 0 1 = cc in omega arith

abbrev pub nil : {A : Type 0} → List A → Bool
nil [] = true
nil (x ∷ xs) = false

nil_is : {A : Type 0} (l : List A) → nil l ≡ true → l ≡ []
nil_is [] e = refl
nil_is (x ∷ xs) e = absurd (true≢false (sym e))

pub both_true : (a b : Bool) → pick a b false ≡ true → (a ≡ true) × (b ≡ true)
both_true true b e = (refl, e)
both_true false b e = absurd (true≢false (sym e))

some_inj : {A : Type 0} {a b : A} → ◌≡◌ {A = Option A} (some a) (some b) → a ≡ b
some_inj e = cc

module _ {C N : Type 0} where
  abbrev pub onto : List (Sym C N) → Option (Alt C N) → Option (Took C N)
  onto ss none = none
  onto ss (some a) = some (record { by = a.head; left = a.rest ++ ss })

  -- one more token before a row
  abbrev pub before : C → Option (Row C N) → Option (Row C N)
  before c none = none
  before c (some r) = some (record { labels = c ∷ r.labels; left = r.left })

  -- a token was taken or not, and then the others
  abbrev pub onward : Option (Took C N) → (List (Sym C N) → Option (Row C N)) → Option (Row C N)
  onward none f = none
  onward (some w) f = before w.by (f w.left)

  pub before_inv : (c : C) (o : Option (Row C N)) (r : Row C N) → before c o ≡ some r →
      (q : Row C N) × (o ≡ some q) × (r ≡ record { labels = c ∷ q.labels; left = q.left })
  before_inv c none r e = absurd (none≢some r e)
  before_inv c (some q) r e = (q, refl, sym (some_inj e))

module _ {C N Tok : Type 0} (fits : C → Tok → Bool) where
  abbrev pub choose : List (Alt C N) → Tok → Option (Alt C N)
  choose [] t = none
  choose (a ∷ more) t = pick (fits a.head t) (some a) (choose more t)

module _ {C N Tok : Type 0} (fits : C → Tok → Bool) (alts : N → List (Alt C N)) where
  -- THE DECLARATIVE SIDE: these tokens, each taken by the terminal beside it, are derived from this stack
  pub data Derives : List (Sym C N) → List Tok → List C → Type 0 where
    done : Derives [] [] []
    term : {c : C} {t : Tok} {ss : List (Sym C N)} {ts : List Tok} {cs : List C} → fits c t ≡ true → Derives ss ts cs → Derives (lit c ∷ ss) (t ∷ ts) (c ∷ cs)
    prod : {n : N} {t : Tok} {ss : List (Sym C N)} {ts : List Tok} {cs : List C} (a : Alt C N) → Memᴰ a (alts n) → fits a.head t ≡ true → Derives (a.rest ++ ss) ts cs →
        Derives (non n ∷ ss) (t ∷ ts) (a.head ∷ cs)

  -- THE MACHINE: which terminal takes the token, and what is still to come after it; none where the token cannot stand here
  abbrev pub feed : List (Sym C N) → Tok → Option (Took C N)
  feed [] t = none
  feed (lit c ∷ ss) t = pick (fits c t) (some (record { by = c; left = ss })) none
  feed (non n ∷ ss) t = onto ss (choose fits (alts n) t)

  unfoldable pub feeds : List (Sym C N) → List Tok → Option (Row C N)
  feeds ss [] = some (record { labels = []; left = ss })
  feeds ss (t ∷ ts) = onward (feed ss t) (λ r. feeds r ts)

  -- the alternative that is chosen is one of the list, and its head fits
  chosen : (l : List (Alt C N)) (t : Tok) (a : Alt C N) → choose fits l t ≡ some a → Memᴰ a l × (fits a.head t ≡ true)
  chosen [] t a e = absurd (none≢some a e)
  chosen (x ∷ more) t a e = go (fits x.head t) refl (λ f. chosen more t a f)
    where
      go : (b : Bool) → fits x.head t ≡ b → (choose fits more t ≡ some a → Memᴰ a more × (fits a.head t ≡ true)) → Memᴰ a (x ∷ more) × (fits a.head t ≡ true)
      go true p ih = let q : x ≡ a = some_inj (rw p at e) in (Memᴰ.head (sym q), rw (← q) p)
      go false p ih = let (m, f) = ih (rw p at e) in (Memᴰ.tail m, f)

  -- what the machine was fed, and then anything derived from what it still waits for, is derived
  pub back : (ts us : List Tok) (ss : List (Sym C N)) (r : Row C N) (cs : List C) → feeds ss ts ≡ some r → Derives r.left us cs → Derives ss (ts ++ us) (r.labels ++ cs)
  unfolding feeds
  back [] us ss r cs e d = subst (λ (x : Row C N). Derives x.left us cs → Derives ss us (x.labels ++ cs)) (some_inj e) (λ z. z) d
  back (t ∷ ts) us [] r cs e d = absurd (none≢some r e)
  back (t ∷ ts) us (lit c ∷ ss) r cs e d = go (fits c t) refl (λ q. back ts us ss q cs)
    where
      go : (b : Bool) → fits c t ≡ b → ((q : Row C N) → feeds ss ts ≡ some q → Derives q.left us cs → Derives ss (ts ++ us) (q.labels ++ cs)) → Derives (lit c ∷ ss) (t ∷ (ts ++ us)) (r.labels ++ cs)
      go true p ih = let (q, f, g) = before_inv c (feeds ss ts) r (rw p at e) in rw g (term p (ih q f (rw g at d)))
      go false p ih = absurd (none≢some r (rw p at e))
  back (t ∷ ts) us (non n ∷ ss) r cs e d = go (choose fits (alts n) t) refl (λ a q. back ts us (a.rest ++ ss) q cs)
    where
      go : (o : Option (Alt C N)) → choose fits (alts n) t ≡ o → ((a : Alt C N) (q : Row C N) → feeds (a.rest ++ ss) ts ≡ some q → Derives q.left us cs → Derives (a.rest ++ ss) (ts ++ us) (q.labels ++ cs)) →
          Derives (non n ∷ ss) (t ∷ (ts ++ us)) (r.labels ++ cs)
      go none p ih = absurd (none≢some r (rw p at e))
      go (some a) p ih =
          let (m, f) = chosen (alts n) t a p in
          let (q, h, g) = before_inv a.head (feeds (a.rest ++ ss) ts) r (rw p at e) in
          rw g (prod a m f (ih a q h (rw g at d)))

  module _ (apart : (n : N) (a b : Alt C N) (t : Tok) → Memᴰ a (alts n) → Memᴰ b (alts n) → fits a.head t ≡ true → fits b.head t ≡ true → a ≡ b) where
    -- a fitting alternative is chosen
    taken : (n : N) (l : List (Alt C N)) (a : Alt C N) (t : Tok) → ((b : Alt C N) → Memᴰ b l → Memᴰ b (alts n)) → Memᴰ a (alts n) → Memᴰ a l → fits a.head t ≡ true → choose fits l t ≡ some a
    taken n [] a t sub m0 m f = absurd (Memᴰ.not-nil m)
    taken n (b ∷ more) a t sub m0 m f = go (fits b.head t) refl (λ k. taken n more a t (λ x y. sub x (Memᴰ.tail y)) m0 k f)
      where
        go : (v : Bool) → fits b.head t ≡ v → (Memᴰ a more → choose fits more t ≡ some a) → choose fits (b ∷ more) t ≡ some a
        go true p ih = rw p (ap (λ (x : Alt C N). some x) (apart n b a t (sub b (Memᴰ.head refl)) m0 p f))
        go false p ih = rw p (⊎_elim (λ q. absurd (true≢false (sym (rw q at f) ∙ p))) ih (Memᴰ.cases_cons m))

    -- what is derived is fed to the empty stack, with the same terminals
    pub complete : (ts : List Tok) (ss : List (Sym C N)) (cs : List C) → Derives ss ts cs → feeds ss ts ≡ some (record { labels = cs; left = [] })
    unfolding feeds
    complete ts ss cs done = refl
    complete ts ss cs (term f d) = rw (f, complete _ _ _ d)
    complete ts ss cs (prod {n = n} {t = t} a m f d) = rw (taken n (alts n) a t (λ x y. y) m m f, complete _ _ _ d)

  feeds-append : (ss : List (Sym C N)) (ts us : List Tok) → feeds ss ts ≡ none → feeds ss (ts ++ us) ≡ none
  unfolding feeds
  feeds-append ss [] us e = absurd (none≢some _ (sym e))
  feeds-append ss (t ∷ ts) us e = go (feed ss t) (λ r. feeds-append r ts us) e
    where
      go : (o : Option (Took C N)) → ((r : List (Sym C N)) → feeds r ts ≡ none → feeds r (ts ++ us) ≡ none) → onward o (λ r. feeds r ts) ≡ none → onward o (λ r. feeds r (ts ++ us)) ≡ none
      go none ih f = refl
      go (some w) ih f = by (feeds w.left ts) refl (ih w.left) f
        where
          by : (q : Option (Row C N)) → feeds w.left ts ≡ q → (feeds w.left ts ≡ none → feeds w.left (ts ++ us) ≡ none) → before w.by q ≡ none → before w.by (feeds w.left (ts ++ us)) ≡ none
          by none p ih f = rw (ih p)
          by (some q) p ih f = absurd (none≢some _ (sym f))

  module _ (apart : (n : N) (a b : Alt C N) (t : Tok) → Memᴰ a (alts n) → Memᴰ b (alts n) → fits a.head t ≡ true → fits b.head t ≡ true → a ≡ b) where
    -- a token at which the machine stops: with it, nothing is derived
    pub stuck : (ts us : List Tok) (ss : List (Sym C N)) (cs : List C) → feeds ss ts ≡ none → Derives ss (ts ++ us) cs → ⊥
    stuck ts us ss cs e d = none≢some _ (sym (feeds-append ss ts us e) ∙ complete apart (ts ++ us) ss cs d)

  -- what is fed to a stack leaves alone what lies below it
  pub below : (ts : List Tok) (ss zz : List (Sym C N)) (r : Row C N) → feeds ss ts ≡ some r → feeds (ss ++ zz) ts ≡ some (record { labels = r.labels; left = r.left ++ zz })
  unfolding feeds
  below [] ss zz r e = ap (λ (x : Row C N). some (record { labels = x.labels; left = x.left ++ zz })) (some_inj e)
  below (t ∷ ts) [] zz r e = absurd (none≢some r e)
  below (t ∷ ts) (lit c ∷ ss) zz r e = go (fits c t) refl (λ q. below ts ss zz q)
    where
      go : (b : Bool) → fits c t ≡ b → ((q : Row C N) → feeds ss ts ≡ some q → feeds (ss ++ zz) ts ≡ some (record { labels = q.labels; left = q.left ++ zz })) →
          feeds (lit c ∷ (ss ++ zz)) (t ∷ ts) ≡ some (record { labels = r.labels; left = r.left ++ zz })
      go true p ih = let (q, f, g) = before_inv c (feeds ss ts) r (rw p at e) in rw (p, ih q f) (ap (λ (x : Row C N). some (record { labels = x.labels; left = x.left ++ zz })) (sym g))
      go false p ih = absurd (none≢some r (rw p at e))
  below (t ∷ ts) (non n ∷ ss) zz r e = go (choose fits (alts n) t) refl (λ a q. below ts (a.rest ++ ss) zz q)
    where
      go : (o : Option (Alt C N)) → choose fits (alts n) t ≡ o → ((a : Alt C N) (q : Row C N) → feeds (a.rest ++ ss) ts ≡ some q → feeds ((a.rest ++ ss) ++ zz) ts ≡ some (record { labels = q.labels; left = q.left ++ zz })) →
          feeds (non n ∷ (ss ++ zz)) (t ∷ ts) ≡ some (record { labels = r.labels; left = r.left ++ zz })
      go none p ih = absurd (none≢some r (rw p at e))
      go (some a) p ih =
          let (q, h, g) = before_inv a.head (feeds (a.rest ++ ss) ts) r (rw p at e) in
          rw (p, ← append_assoc a.rest ss zz, ih a q h) (ap (λ (x : Row C N). some (record { labels = x.labels; left = x.left ++ zz })) (sym g))

  -- a place is completed by these tokens
  abbrev pub emptied : Option (Row C N) → Bool
  emptied none = false
  emptied (some r) = nil r.left

  -- every terminal of a stack can come
  module _ (word : C → Tok) where
    unfoldable pub able : List (Sym C N) → Bool
    able [] = true
    able (lit c ∷ ss) = pick (fits c (word c)) (able ss) false
    able (non n ∷ ss) = able ss

    unfoldable pub ables : List (Alt C N) → Bool
    ables [] = true
    ables (a ∷ more) = pick (able a.rest) (ables more) false

    able-append : (xs ys : List (Sym C N)) → able xs ≡ true → able ys ≡ true → able (xs ++ ys) ≡ true
    unfolding able
    able-append [] ys p q = q
    able-append (lit c ∷ xs) ys p q = let (f, g) = both_true (fits c (word c)) (able xs) p in rw f (able-append xs ys g q)
    able-append (non n ∷ xs) ys p q = able-append xs ys p q

    able-chosen : (l : List (Alt C N)) (t : Tok) (a : Alt C N) → ables l ≡ true → choose fits l t ≡ some a → able a.rest ≡ true
    unfolding ables
    able-chosen [] t a p e = absurd (none≢some a e)
    able-chosen (x ∷ more) t a p e = go (fits x.head t) refl (λ f. able-chosen more t a (both_true (able x.rest) (ables more) p).1 f)
      where
        go : (b : Bool) → fits x.head t ≡ b → (choose fits more t ≡ some a → able a.rest ≡ true) → able a.rest ≡ true
        go true f ih = let q : x ≡ a = some_inj (rw f at e) in rw (← q) (both_true (able x.rest) (ables more) p).0
        go false f ih = ih (rw f at e)

    module _ (words : N → List Tok) (completes : (n : N) → emptied (feeds (non n ∷ []) (words n)) ≡ true) (table : (n : N) → ables (alts n) ≡ true) where
      -- what the machine still waits for can come
      kept : (ts : List Tok) (ss : List (Sym C N)) (r : Row C N) → able ss ≡ true → feeds ss ts ≡ some r → able r.left ≡ true
      unfolding feeds able
      kept [] ss r p e = subst (λ (x : Row C N). able x.left ≡ true) (some_inj e) p
      kept (t ∷ ts) [] r p e = absurd (none≢some r e)
      kept (t ∷ ts) (lit c ∷ ss) r p e = go (fits c t) refl (λ q. kept ts ss q (both_true (fits c (word c)) (able ss) p).1)
        where
          go : (b : Bool) → fits c t ≡ b → ((q : Row C N) → feeds ss ts ≡ some q → able q.left ≡ true) → able r.left ≡ true
          go true f ih = let (q, x, g) = before_inv c (feeds ss ts) r (rw f at e) in subst (λ (y : Row C N). able y.left ≡ true) (sym g) (ih q x)
          go false f ih = absurd (none≢some r (rw f at e))
      kept (t ∷ ts) (non n ∷ ss) r p e = go (choose fits (alts n) t) refl (λ a q f. kept ts (a.rest ++ ss) q f)
        where
          go : (o : Option (Alt C N)) → choose fits (alts n) t ≡ o → ((a : Alt C N) (q : Row C N) → able (a.rest ++ ss) ≡ true → feeds (a.rest ++ ss) ts ≡ some q → able q.left ≡ true) → able r.left ≡ true
          go none f ih = absurd (none≢some r (rw f at e))
          go (some a) f ih =
              let (q, x, g) = before_inv a.head (feeds (a.rest ++ ss) ts) r (rw f at e) in
              subst (λ (y : Row C N). able y.left ≡ true) (sym g) (ih a q (able-append a.rest ss (able-chosen (alts n) t a (table n) f) p) x)

      row_of : (o : Option (Row C N)) → emptied o ≡ true → (r : Row C N) × (o ≡ some r) × (r.left ≡ [])
      row_of none e = absurd (true≢false (sym e))
      row_of (some r) e = (r, refl, nil_is r.left e)

      -- every stack that the machine can reach can be completed
      pub ends : (ss : List (Sym C N)) → able ss ≡ true → (us : List Tok) × (cs : List C) × Derives ss us cs
      unfolding able
      ends [] p = ([], [], done)
      ends (lit c ∷ ss) p = let (f, g) = both_true (fits c (word c)) (able ss) p in let (us, cs, d) = ends ss g in (word c ∷ us, c ∷ cs, term f d)
      ends (non n ∷ ss) p =
          let (us, cs, d) = ends ss p in
          let (r, e, l) = row_of (feeds (non n ∷ []) (words n)) (completes n) in
          (words n ++ us, r.labels ++ cs, back (words n) us (non n ∷ ss) _ cs (below (words n) (non n ∷ []) ss r e) (rw l d))

      -- as long as the machine goes on, what it was fed begins something derived
      pub begins : (ts : List Tok) (ss : List (Sym C N)) (r : Row C N) → able ss ≡ true → feeds ss ts ≡ some r → (us : List Tok) × (cs : List C) × Derives ss (ts ++ us) (r.labels ++ cs)
      begins ts ss r p e = let (us, cs, d) = ends r.left (kept ts ss r p e) in (us, cs, back ts us ss r cs e d)
