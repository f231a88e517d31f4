-- REFUSAL LEAST: the refusal given holds of the text, and it is the least of all that hold: 'Within a text the lowest place wins, then the
-- lowest number.' A text is refused exactly if some refusal holds of it. The theorems stand at the end.
-- Assumes nothing.
use Rattle.std.specs.Prelude.{◌≡◌, Bool, true, false, ◌↔◌, ◌⊎◌, ℕ, zero, suc, ◌≤◌, ◌<◌, eqb, leb, ltb}
use Rattle.std.proofs.Math.Path.{refl}
use Rattle.std.proofs.Common.{sym, ap, subst, ◌∙◌, true≢false, inl, inr, eqb-true, eq-eqb, leb-true, le-leb, ltb-true, ltb-false}
use mathlib.Core.List.{List, [], ◌∷◌, ◌++◌, append_assoc, head-eq_of_cons-eq, tail-eq_of_cons-eq, nil≢cons}
use Rattle.std.proofs.Math.Logic.{⊎_elim}
use Rattle.std.proofs.Math.Option.{Option, none, some}
use native.Mathlib.Omega.{arith}
use Rattle.std.proofs.Math.ListN.{length}
use Rattle.classes.specs.Choice.{pick}
use Rattle.tokens.specs.Stream.{Placed, stream}
use Rattle.words.specs.Words.{find, keywords, not_carried, key_of}
use Rattle.words.specs.Laws.{stands, held}
use Rattle.grammar.specs.Ll.{Row, Took, feed, feeds, Derives}
use Rattle.grammar.specs.Machine.{Res, fine, bad, ◌then◌, bad≢fine, judged, run, run-append}
use Rattle.grammar.specs.Grammar.{Term, N, alts, fits}
use Rattle.grammar.specs.Meaning.{Book, judge, wrong, wrongly}
use Rattle.grammar.specs.Reading.{At, runs, stepped, ended, reading}
use Rattle.grammar.specs.Outcome.{Stack, text_limit, read_file, read_cell_of}
use Rattle.laws.specs.Walk.{some_inj}
use Rattle.laws.specs.Sides.{Whole, a_file, a_cell, Begins, sdf_begins, sdf_stuck, sdf_complete}
use Rattle.laws.specs.Phases.{Sound, taker_sound}
use Rattle.laws.specs.Taken.{As, as_file, as_cell, starting, read_as_of, file-is, cell-is, Taken, terms, toks, Carried, tells, Amiss, broken, beyond, long, no_cell, no_entry}
use Rattle.laws.proofs.Judged.{passed, blamed, clean}
use Rattle.laws.proofs.Behind.{Behind, behind, then_fine, opened_behind, amiss_here, amiss_there, Fed, fed, fed_split, fed_uncons, carried_on, reached}
use Rattle.laws.specs.Stops.{Rises, rises, ends, later, further}
use Rattle.laws.specs.Bytes.{at-two, no_illegal}
use Rattle.laws.proofs.Exactly.{one_way, ended_fine, within}
use Rattle.laws.specs.Holds.{Listed, Holds, too_large, illegal, bare_slash, unclosed, wrong_token, too_soon, on_the_list, amiss, Before}

-- THE LIST OF WORDS: its words are those with the numbers from 90 on
key-listed : (w : List ℕ) → 90 ≤ key_of w → 1 ≤ find not_carried w
unfolding key_of
key-listed w h =
    leb-true 1 (find not_carried w) (by (leb 90 (find keywords w)) (le-leb 90 (find keywords w) h)
    (held (λ k. pick (leb 90 k.number) (leb 1 (find not_carried k.word)) true) keywords _ refl
    (stands keywords w (find keywords w) (omega arith) refl)))
  where
    by : (v : Bool) → v ≡ true → pick v (leb 1 (find not_carried w)) true ≡ true → leb 1 (find not_carried w) ≡ true
    by true e h = h
    by false e h = absurd (true≢false (sym e))

listed-key : (w : List ℕ) → 1 ≤ find not_carried w → 90 ≤ key_of w
unfolding key_of
listed-key w h =
    leb-true 90 (find keywords w) (held (λ k. leb 90 (find keywords k.word)) not_carried _ refl (stands not_carried w (find not_carried w) h refl))

opened_last : (o : Bool) (ts : List Placed) (t : Placed) → opened_behind o (ts ++ t ∷ []) ≡ eqb t.kind 2
opened_last o [] t = refl
opened_last o (x ∷ ts) t = opened_last (eqb x.kind 2) ts t

opened_split : (o : Bool) (ts : List Placed) → opened_behind o ts ≡ true →
    ((ts ≡ []) × (o ≡ true)) ⊎ ((earlier : List Placed) × (b : Placed) × (ts ≡ earlier ++ b ∷ []) × (b.kind ≡ 2))
opened_split o [] e = inl (refl, e)
opened_split o (t ∷ ts) e =
    ⊎_elim (λ (p, q). inr ([], t, ap (λ (l : List Placed). t ∷ l) p, eqb-true t.kind 2 q))
    (λ (l, b, p, q). inr (t ∷ l, b, ap (λ (l : List Placed). t ∷ l) p, q)) (opened_split (eqb t.kind 2) ts e)

-- 4 or 5 for a token that the grammar does not take
which : (o : Bool) (before : List Placed) (t : Placed) → o ≡ opened_behind false before →
    ((wrongly o t.kind t.bytes ≡ 5) × Listed before t) ⊎ ((wrongly o t.kind t.bytes ≡ 4) × (Listed before t → ⊥))
which false before t e =
    inr (
      refl,
      λ l. true≢false
          (sym (eq-eqb l.bracket.kind 2 l.opening) ∙
          (sym (opened_last false l.earlier l.bracket) ∙ (ap (opened_behind false) (sym l.right_after) ∙ sym e))),
    )
which true before t e = word (eqb t.kind 7) refl (leb 90 (key_of t.bytes)) refl
  where
    word : (v : Bool) → eqb t.kind 7 ≡ v → (u : Bool) → leb 90 (key_of t.bytes) ≡ u →
        ((◌≡◌ {A = ℕ} (pick v (pick u 5 4) 4) 5) × Listed before t) ⊎ ((◌≡◌ {A = ℕ} (pick v (pick u 5 4) 4) 4) × (Listed before t → ⊥))
    word true p true q =
        ⊎_elim (λ (i, j). absurd (true≢false (sym j)))
        (λ (l, b, i, j). inl (
          refl,
          record {
            earlier = l;
            bracket = b;
            right_after = i;
            opening = j;
            a_word_of = eqb-true t.kind 7 p;
            on_list = key-listed t.bytes (leb-true 90 (key_of t.bytes) q);
          },
        ))
        (opened_split false before (sym e))
    word true p false q = inr (refl, λ l. true≢false (sym (le-leb 90 (key_of t.bytes) (listed-key t.bytes l.on_list)) ∙ q))
    word false p u q = inr (refl, λ l. true≢false (sym (eq-eqb t.kind 7 l.a_word_of) ∙ p))

-- what holds of a token of the text, behind tokens of the text
data Of (a : As) (before : List Placed) (t : Placed) : ℕ → Type 0 where
  four : Begins a.start before → (Begins a.start (before ++ t ∷ []) → ⊥) → (Listed before t → ⊥) → Of a before t 4
  five : Begins a.start before → (Begins a.start (before ++ t ∷ []) → ⊥) → Listed before t → Of a before t 5
  more : (xs after : List Taken) (x : Taken) (n : ℕ) → toks xs ≡ before → x.tok ≡ t → Carried a.start (xs ++ x ∷ after) →
      Amiss a.unit a.cell_room a.item_room xs x n → Of a before t n

-- where the machine stops, it stopped
feeds-stop : (ss : Stack) (xs : List Taken) (l : Stack) (t : Placed) → Fed ss xs l → feed fits alts l t ≡ none →
    feeds fits alts ss (toks xs ++ t ∷ []) ≡ none
unfolding feeds
feeds-stop ss [] l t e f = let g : ss ≡ l = ap (λ (r : Row Term N). r.left) (some_inj e) in rw (g, f)
feeds-stop ss (x ∷ xs) l t e f = let (m, g, h) = fed_uncons ss x xs l e in rw (g, feeds-stop m xs l t h f)

toks-append : (xs ys : List Taken) → toks (xs ++ ys) ≡ toks xs ++ toks ys
toks-append [] ys = refl
toks-append (x ∷ xs) ys = ap (λ (l : List Placed). x.tok ∷ l) (toks-append xs ys)

-- a carried text begins with each of its fronts
front : (ss : Stack) (xs after : List Taken) (x : Taken) → Carried ss (xs ++ x ∷ after) → Begins ss (toks xs ++ x.tok ∷ [])
front ss xs after x d = (
  toks after,
  terms (xs ++ x ∷ after),
  subst (λ (l : List Placed). Derives fits alts ss l (terms (xs ++ x ∷ after)))
      (toks-append xs (x ∷ after) ∙ sym (append_assoc (toks xs) (x.tok ∷ []) (toks after))) d,
)

begun : {ss : Stack} → Whole ss → (xs : List Taken) (l : Stack) → Fed ss xs l → Begins ss (toks xs)
begun w xs l f = let (us, cs, d) = sdf_begins w (toks xs) _ f in (us, _, d)

abbrev taker : Took Term N → Placed → Taken
taker w t = record { by = w.by; tok = t }

bad_inj : {S : Type 0} {n m p q : ℕ} → ◌≡◌ {A = Res S} (bad n p) (bad m q) → (n ≡ m) × (p ≡ q)
bad_inj e = (cc, cc)

then_bad : (r : Res Book) (f : Book → At) (n q : ℕ) → (r then (λ x. fine (f x))) ≡ bad n q → r ≡ bad n q
then_bad (fine x) f n q e = absurd (bad≢fine (sym e))
then_bad (bad m p) f n q e = let (i, j) = bad_inj e in cc

-- AT ONE TOKEN: the machine stands behind the tokens xs, and refuses t or takes it
module _ (a : As) (w : Whole a.start) (xs : List Taken) (st : At) (f : Fed a.start xs st.stack)
    (g : tells (starting a).book xs ≡ fine st.book) (t : Placed) where
  known : Behind (starting a).book xs st.book
  known = behind xs (starting a).book st.book g

  -- a refusal holds, at the token's place
  holds_of : (n q : ℕ) → stepped st t ≡ bad n q → (q ≡ t.start) × Of a (toks xs) t n
  holds_of n q e = by (feed fits alts st.stack t) refl e
    where
      by : (o : Option (Took Term N)) → feed fits alts st.stack t ≡ o → judged fits alts judge wrong (λ t. t.start) st.book t o ≡ bad n q →
          (q ≡ t.start) × Of a (toks xs) t n
      by none p e =
          let (i, j) = bad_inj e in
          let y = begun w xs st.stack f in
          let z = sdf_stuck a.start (toks xs ++ t ∷ []) (feeds-stop a.start xs st.stack t f p) in (
            sym j,
            ⊎_elim (λ (u, v). subst (λ (m : ℕ). Of a (toks xs) t m) (sym u ∙ i) (five y z v))
                (λ (u, v). subst (λ (m : ℕ). Of a (toks xs) t m) (sym u ∙ i) (four y z v)) (which st.book.opened (toks xs) t known.opened),
          )
      by (some v) p e =
          let b = blamed st.book (taker v t) n q (taker_sound w (toks xs) _ t v f p) (then_bad _ _ n q e) in
          let (after, d) = carried_on w xs (taker v t) st.stack v.left f p in
          (b.place, more xs after (taker v t) n refl refl d (amiss_there (starting a).book xs st.book known (taker v t) n b.amiss))

  untaken : (m : ℕ) → (Begins a.start (toks xs ++ t ∷ []) → ⊥) → wrong st.book t ≤ m → (n : ℕ) × (stepped st t ≡ bad n t.start) × (n ≤ m)
  untaken m z h = by (feed fits alts st.stack t) refl
    where
      by : (o : Option (Took Term N)) → feed fits alts st.stack t ≡ o →
          (n : ℕ) × (judged fits alts judge wrong (λ t. t.start) st.book t o ≡ bad n t.start) × (n ≤ m)
      by none p = (wrong st.book t, refl, h)
      by (some v) p =
          let (after, d) = carried_on w xs (taker v t) st.stack v.left f p in absurd (z (front a.start xs after (taker v t) d))

  -- and where one holds the machine refuses, with that number or a lower one
  refuses : (m : ℕ) → Of a (toks xs) t m → (n : ℕ) × (stepped st t ≡ bad n t.start) × (n ≤ m)
  refuses m (four b z l) =
      untaken 4 z (⊎_elim (λ (u, v). absurd (l v)) (λ (u, v). omega arith) (which st.book.opened (toks xs) t known.opened))
  refuses m (five b z l) =
      untaken 5 z (⊎_elim (λ (u, v). omega arith) (λ (u, v). omega arith) (which st.book.opened (toks xs) t known.opened))
  refuses m (more ys after x n i j d y) =
      let (l, e, h) = fed_split a.start ys (x ∷ after) [] (fed a.start (ys ++ x ∷ after) d) in
      let (r, p, q) = fed_uncons l x after [] h in
      let k = one_way a.start ys xs l st.stack i e f in
      let z : l ≡ st.stack = ap (λ (o : Row Term N). o.left) (some_inj (sym e ∙ (ap (feeds fits alts a.start) i ∙ f))) in
      by l r z x.by x.tok j p (subst (λ (o : List Taken). Amiss a.unit a.cell_room a.item_room o x n) k y)
    where
      judging : (c : Term) (r : Stack) → Sound c t → Amiss a.unit a.cell_room a.item_room xs (record { by = c; tok = t }) n → (o : Res Book) →
          judge st.book c t ≡ o →
          (k : ℕ) × (◌≡◌ {A = Res At} (o then (λ b. fine (record { stack = r; book = b }))) (bad k t.start)) × (k ≤ n)
      judging c r u y (fine b) e =
          absurd (clean st.book (record { by = c; tok = t }) b (passed st.book (record { by = c; tok = t }) b e) n
          (amiss_here (starting a).book xs st.book known (record { by = c; tok = t }) n y))
      judging c r u y (bad k q) e =
          let b = blamed st.book (record { by = c; tok = t }) k q u e in
          (k, ap (λ (p : ℕ). bad k p) b.place, b.least n (amiss_here (starting a).book xs st.book known (record { by = c; tok = t }) n y))

      by : (l r : Stack) → l ≡ st.stack → (c : Term) (u : Placed) → u ≡ t → feed fits alts l u ≡ some (record { by = c; left = r }) →
          Amiss a.unit a.cell_room a.item_room xs (record { by = c; tok = u }) n → (k : ℕ) × (stepped st t ≡ bad k t.start) × (k ≤ n)
      by l r z c u j p y =
          let o : feed fits alts st.stack t ≡ some (record { by = c; left = r }) = rw (← z, ← j) p in
          let (k, e, h) = judging c r (taker_sound w (toks xs) _ t _ f o)
          (subst (λ (v : Placed). Amiss a.unit a.cell_room a.item_room xs (record { by = c; tok = v }) n) j y)
          (judge st.book c t) refl in
          (k, ap (judged fits alts judge wrong (λ t. t.start) st.book t) o ∙ e, h)

-- THE MACHINE STOPS at the first token that it refuses
record Stopped (st : At) (ts : List Placed) (n q : ℕ) : Type 0 where
  before : List Placed
  token : Placed
  after : List Placed
  state : At
  tokens : ts ≡ before ++ token ∷ after
  reach : runs st before ≡ fine state
  refused : stepped state token ≡ bad n q

stopped : (ts : List Placed) (st : At) (n q : ℕ) → runs st ts ≡ bad n q → Stopped st ts n q
unfolding run
stopped [] st n q e = absurd (bad≢fine (sym e))
stopped (t ∷ ts) st n q e = by (stepped st t) refl e (λ x. stopped ts x n q)
  where
    by : (r : Res At) → stepped st t ≡ r → (r then (λ x. runs x ts)) ≡ bad n q → ((x : At) → runs x ts ≡ bad n q → Stopped x ts n q) →
        Stopped st (t ∷ ts) n q
    by (fine x) p e ih =
        let z = ih x e in
        record {
          before = t ∷ z.before;
          token = z.token;
          after = z.after;
          state = z.state;
          tokens = ap (λ (l : List Placed). t ∷ l) z.tokens;
          reach = rw p z.reach;
          refused = z.refused;
        }
    by (bad m k) p e ih = record { before = []; token = t; after = ts; state = st; tokens = refl; reach = refl; refused = p ∙ e }

-- or it takes each token
each-taken : (ts : List Placed) (st x : At) → runs st ts ≡ fine x → (before : List Placed) (t : Placed) (after : List Placed) →
    ts ≡ before ++ t ∷ after →
    (y : At) × (z : At) × (runs st before ≡ fine y) × (stepped y t ≡ fine z)
unfolding run
each-taken ts st x e before t after i =
    let (y, f, g) = then_fine (runs st before) (λ o. runs o (t ∷ after)) x
    (sym (run-append fits alts judge wrong (λ t. t.start) st before (t ∷ after)) ∙ (ap (runs st) (sym i) ∙ e)) in
    let (z, h, j) = then_fine (stepped y t) (λ o. runs o after) x g in
    (y, z, f, h)

-- two tokens of one list: they are the same, or one stands before the other
splits : (a b : List Placed) (x y : Placed) (c d : List Placed) → a ++ x ∷ c ≡ b ++ y ∷ d →
    ((a ≡ b) × (x ≡ y)) ⊎ (((m : List Placed) × (b ≡ a ++ x ∷ m)) ⊎ ((m : List Placed) × (a ≡ b ++ y ∷ m)))
splits [] [] x y c d e = inl (refl, head-eq_of_cons-eq e)
splits [] (z ∷ b) x y c d e = inr (inl (b, ap (λ (o : Placed). o ∷ b) (sym (head-eq_of_cons-eq e))))
splits (z ∷ a) [] x y c d e = inr (inr (a, ap (λ (o : Placed). o ∷ a) (head-eq_of_cons-eq e)))
splits (z ∷ a) (o ∷ b) x y c d e =
    let h : z ≡ o = head-eq_of_cons-eq e in
    ⊎_elim (λ (p, q). inl (cc, q)) (λ r. inr (⊎_elim (λ (m, p). inl (m, cc)) (λ (m, p). inr (m, cc)) r)) (splits a b x y c d (tail-eq_of_cons-eq e))

positive : (a : As) (s : List ℕ) (m p : ℕ) → Holds a s m p → 1 ≤ m
positive a s m p (too_large h) = omega arith
positive a s m p (illegal q e) = omega arith
positive a s m p (bare_slash e f) = omega arith
positive a s m p (unclosed e) = omega arith
positive a s m p (wrong_token b c t e f g h) = omega arith
positive a s m p (too_soon e f g) = omega arith
positive a s m p (on_the_list b c t e f g h) = omega arith
positive a s m p (amiss b x n t y) = by n y
  where
    by : (n : ℕ) → Amiss a.unit a.cell_room a.item_room b x n → 1 ≤ n
    by n (broken s k e f) = omega arith
    by n (beyond s k e f) = omega arith
    by n (long e) = omega arith
    by n (no_cell e f) = omega arith
    by n (no_entry e f) = omega arith

-- what holds of a token of the text holds of the text
of_text : (a : As) (s : List ℕ) (before after : List Placed) (t : Placed) (n : ℕ) → (stream s 0).toks ≡ before ++ t ∷ after → Of a before t n →
    Holds a s n t.start
of_text a s before after t n e (four b z l) = wrong_token before after t e b z l
of_text a s before after t n e (five b z l) = on_the_list before after t e b z l
of_text a s before after t n e (more xs rest x k i j d y) =
    subst (λ (u : Placed). Holds a s k u.start) j
    (amiss xs x k (record { rest = after; tokens = e ∙ rw (i, j); after = rest; carried = d }) y)

ended_bad : (l : Stack) (x : At) (n q m p : ℕ) → ended l x n q ≡ bad m p → (n ≡ m) × (q ≡ p) × (l ≡ [] → n ≡ 4 → ⊥)
ended_bad [] x n q m p e = by (eqb n 4) refl e
  where
    by : (v : Bool) → eqb n 4 ≡ v → pick v (fine x) (bad n q) ≡ bad m p → (n ≡ m) × (q ≡ p) × ((◌≡◌ {A = Stack} [] []) → n ≡ 4 → ⊥)
    by true h e = absurd (bad≢fine (sym e))
    by false h e = let (i, j) = bad_inj e in (i, j, λ y z. true≢false (sym (eq-eqb n 4 z) ∙ h))
ended_bad (y ∷ l) x n q m p e = let (i, j) = bad_inj e in (i, j, λ y z. nil≢cons (sym y))

module _ (a : As) (w : Whole a.start) (s : List ℕ) where
  held_there : (before : List Placed) (t : Placed) (st : At) (n q : ℕ) → runs (starting a) before ≡ fine st → stepped st t ≡ bad n q →
      (q ≡ t.start) × Of a before t n
  held_there before t st n q e r =
      let (xs, i, f, g) = reached a before st e in subst (λ (l : List Placed). (q ≡ t.start) × Of a l t n) i (holds_of a w xs st f g t n q r)

  refused_there : (before : List Placed) (t : Placed) (st : At) (m : ℕ) → runs (starting a) before ≡ fine st → Of a before t m →
      (n : ℕ) × (stepped st t ≡ bad n t.start) × (n ≤ m)
  refused_there before t st m e o =
      let (xs, i, f, g) = reached a before st e in refuses a w xs st f g t m (subst (λ (l : List Placed). Of a l t m) (sym i) o)

  -- where every token is taken nothing holds of a token
  all-taken : (ts : List Placed) (x : At) → runs (starting a) ts ≡ fine x → (before after : List Placed) (t : Placed) (m : ℕ) →
      ts ≡ before ++ t ∷ after →
      Of a before t m → ⊥
  all-taken ts x e before after t m i o =
      let (y, z, f, g) = each-taken ts (starting a) x e before t after i in
      let (n, h, k) = refused_there before t y m f o in
      bad≢fine (sym h ∙ g)

  -- where nothing is left to come, the tokens are a carried file (or cell)
  left_over : (ts : List Placed) (x : At) → runs (starting a) ts ≡ fine x → ((cs : List Term) → Derives fits alts a.start ts cs → x.stack ≡ [])
      × (x.stack ≡ [] → (cs : List Term) × Derives fits alts a.start ts cs) × Begins a.start ts
  left_over ts x e =
      let (xs, i, f, g) = reached a ts x e in (
        (λ cs d. ap (λ (r : Row Term N). r.left) (some_inj (sym f ∙ (ap (feeds fits alts a.start) i ∙ (sdf_complete a.start ts cs).0 d)))),
        (λ h. (
          terms xs,
          subst (λ (l : List Placed). Derives fits alts a.start l (terms xs)) i
              ((sdf_complete a.start (toks xs) (terms xs)).1 (subst (λ (l : Stack). Fed a.start xs l) h f)),
        )),
        subst (Begins a.start) i (begun w xs x.stack f),
      )

  -- a text that is read: nothing holds
  pub nothing-holds : (st : At) → read_as_of a s ≡ fine st → (m p : ℕ) → Holds a s m p → ⊥
  unfolding reading
  nothing-holds st e m p h =
      let (l, f) = within a s (reading s (starting a) 0) st e in
      let (x, g, i) = then_fine (runs (starting a) (stream s 0).toks) _ st f in
      let (j, k, o) = ended_fine x.stack x st (stream s 0).number (stream s 0).place i in
      by l x g j k m p h
    where
      by : length s ≤ text_limit → (x : At) → runs (starting a) (stream s 0).toks ≡ fine x → x.stack ≡ [] → (stream s 0).number ≡ 4 → (m p : ℕ) →
          Holds a s m p → ⊥
      by l x g j k m p (too_large h) = omega arith
      by l x g j k m p (illegal q h) =
          ⊎_elim (λ u. ⊎_elim (λ v. omega arith) (λ r. ⊎_elim (λ v. omega arith) (λ (v, y). omega (arith, h.0)) r) (ends s))
          (λ (u, v). omega arith) (no_illegal s q h)
      by l x g j k m p (bare_slash h i) = omega arith
      by l x g j k m p (unclosed h) = omega arith
      by l x g j k m p (wrong_token b c t i f z y) = all-taken (stream s 0).toks x g b c t 4 i (four f z y)
      by l x g j k m p (too_soon i f z) = let (cs, d) = (left_over (stream s 0).toks x g).1 j in z cs d
      by l x g j k m p (on_the_list b c t i f z y) = all-taken (stream s 0).toks x g b c t 5 i (five f z y)
      by l x g j k m p (amiss b y n t z) =
          all-taken (stream s 0).toks x g (toks b) t.rest y.tok n t.tokens (more b t.after y n refl refl t.carried z)

  -- the refusal of a token against another that holds of a token
  against : (n q : ℕ) (z : Stopped (starting a) (stream s 0).toks n q) → (before after : List Placed) (t : Placed) (m : ℕ) →
      (stream s 0).toks ≡ before ++ t ∷ after → Of a before t m → Before n q m t.start
  against n q z before after t m e o =
      let (k, _) = held_there z.before z.token z.state n q z.reach z.refused in
      ⊎_elim (same k) (λ r. ⊎_elim (behind_it k) earlier r) (splits z.before before z.token t z.after after (sym z.tokens ∙ e))
    where
      same : q ≡ z.token.start → (z.before ≡ before) × (z.token ≡ t) → Before n q m t.start
      same k (i, j) =
          let (l, f, g) = refused_there before t z.state m (ap (runs (starting a)) (sym i) ∙ z.reach) o in
          let (u, v) = bad_inj (sym z.refused ∙ (ap (stepped z.state) j ∙ f)) in
          inr (v, omega arith)

      behind_it : q ≡ z.token.start → (l : List Placed) × (before ≡ z.before ++ z.token ∷ l) → Before n q m t.start
      behind_it k (l, i) =
          let h = further 0 z.before z.token l t after (stream s 0).place
          (subst (λ (y : List Placed). Rises 0 y (stream s 0).place)
          (e ∙ (ap (λ (y : List Placed). y ++ t ∷ after) i ∙ append_assoc z.before (z.token ∷ l) (t ∷ after))) (rises s)) in
          inl (omega arith)

      earlier : (l : List Placed) × (z.before ≡ before ++ t ∷ l) → Before n q m t.start
      earlier (l, i) = absurd (all-taken z.before z.state z.reach before l t m i o)

  -- the refusal of a token is the least
  least_token : (n q : ℕ) → length s ≤ text_limit → (z : Stopped (starting a) (stream s 0).toks n q) → q ≡ z.token.start → (m p : ℕ) →
      Holds a s m p →
      Before n q m p
  least_token n q l z k m p h =
      by (later 0 z.before z.token z.after (stream s 0).place
      (subst (λ (y : List Placed). Rises 0 y (stream s 0).place) z.tokens (rises s))).1 m p h
    where
      by : z.token.start < (stream s 0).place → (m p : ℕ) → Holds a s m p → Before n q m p
      by y m p (too_large h) = absurd (omega arith)
      by y m p (illegal q h) = inl (⊎_elim (λ u. omega arith) (λ (u, v). omega arith) (no_illegal s q h))
      by y m p (bare_slash h i) = inl (omega arith)
      by y m p (unclosed h) = inl (omega arith)
      by y m p (wrong_token b c t i f g h) = against n q z b c t 4 i (four f g h)
      by y m p (too_soon i f g) =
          inl (⊎_elim (λ u. absurd (omega arith)) (λ r. ⊎_elim (λ u. absurd (omega arith)) (λ (u, v). omega arith) r) (ends s))
      by y m p (on_the_list b c t i f g h) = against n q z b c t 5 i (five f g h)
      by y m p (amiss b x k t h) = against n q z (toks b) t.rest x.tok k t.tokens (more b t.after x k refl refl t.carried h)

  -- what ends the tokens, where each was taken, is the least
  least_end : length s ≤ text_limit → (x : At) → runs (starting a) (stream s 0).toks ≡ fine x → (m p : ℕ) → Holds a s m p →
      Before (stream s 0).number (stream s 0).place m p
  least_end l x g m p (too_large h) = absurd (omega arith)
  least_end l x g m p (illegal q h) = ⊎_elim (λ u. inl u) (λ (u, v). inr (u, omega arith)) (no_illegal s q h)
  least_end l x g m p (bare_slash h i) = inr (refl, omega arith)
  least_end l x g m p (unclosed h) = inr (refl, omega arith)
  least_end l x g m p (wrong_token b c t i f z y) = absurd (all-taken (stream s 0).toks x g b c t 4 i (four f z y))
  least_end l x g m p (too_soon i f z) =
      inr (⊎_elim (λ u. absurd (omega arith)) (λ r. ⊎_elim (λ u. absurd (omega arith)) (λ (u, v). v) r) (ends s), omega arith)
  least_end l x g m p (on_the_list b c t i f z y) = absurd (all-taken (stream s 0).toks x g b c t 5 i (five f z y))
  least_end l x g m p (amiss b y n t z) =
      absurd (all-taken (stream s 0).toks x g (toks b) t.rest y.tok n t.tokens (more b t.after y n refl refl t.carried z))

  end_holds : (x : At) → runs (starting a) (stream s 0).toks ≡ fine x → (x.stack ≡ [] → (stream s 0).number ≡ 4 → ⊥) →
      Holds a s (stream s 0).number (stream s 0).place
  end_holds x g h =
      ⊎_elim (λ u. subst (λ (n : ℕ). Holds a s n (stream s 0).place) (sym u) (⊎_elim (illegal (stream s 0).place) (bare_slash u) (at-two s u)))
      (λ r. ⊎_elim (λ u. subst (λ (n : ℕ). Holds a s n (stream s 0).place) (sym u) (unclosed u))
      (λ (u, v). let (d, _, b) = left_over (stream s 0).toks x g in
      subst (λ (n : ℕ). Holds a s n (stream s 0).place) (sym u)
      (subst (λ (p : ℕ). Holds a s 4 p) (sym v) (too_soon u b (λ cs y. h (d cs y) u)))) r) (ends s)

  -- a text that is refused: the refusal holds, and it is the least of all that hold
  pub least : (n q : ℕ) → read_as_of a s ≡ bad n q → Holds a s n q × ((m p : ℕ) → Holds a s m p → Before n q m p)
  unfolding reading
  least n q e = by (ltb text_limit (length s)) refl e
    where
      at_end : length s ≤ text_limit → (x : At) → runs (starting a) (stream s 0).toks ≡ fine x →
          ((stream s 0).number ≡ n) × ((stream s 0).place ≡ q) × (x.stack ≡ [] → (stream s 0).number ≡ 4 → ⊥) →
          Holds a s n q × ((m p : ℕ) → Holds a s m p → Before n q m p)
      at_end l x g (i, j, h) = rw (← i, ← j) (end_holds x g h, least_end l x g)

      at_token : length s ≤ text_limit → Stopped (starting a) (stream s 0).toks n q → Holds a s n q × ((m p : ℕ) → Holds a s m p → Before n q m p)
      at_token l z =
          let (k, o) = held_there z.before z.token z.state n q z.reach z.refused in
          (subst (λ (p : ℕ). Holds a s n p) (sym k) (of_text a s z.before z.after z.token n z.tokens o), least_token n q l z k)

      tokens : (r : Res At) → runs (starting a) (stream s 0).toks ≡ r → length s ≤ text_limit →
          (r then (λ x. ended x.stack x (stream s 0).number (stream s 0).place)) ≡ bad n q →
          Holds a s n q × ((m p : ℕ) → Holds a s m p → Before n q m p)
      tokens (fine x) g l e = at_end l x g (ended_bad x.stack x (stream s 0).number (stream s 0).place n q e)
      tokens (bad m p) g l e = at_token l (stopped (stream s 0).toks (starting a) n q (g ∙ e))

      by : (v : Bool) → ltb text_limit (length s) ≡ v → pick v (bad 1 0) (reading s (starting a) 0) ≡ bad n q →
          Holds a s n q × ((m p : ℕ) → Holds a s m p → Before n q m p)
      by true v e =
          let (i, j) = bad_inj e in
          rw (← i, ← j) (too_large (ltb-true text_limit (length s) v), λ m p h. first m p (positive a s m p h))
        where
          first : (m p : ℕ) → 1 ≤ m → Before 1 0 m p
          first m zero h = inr (refl, h)
          first m (suc p) h = inl (omega arith)
      by false v e = tokens (runs (starting a) (stream s 0).toks) refl (ltb-false text_limit (length s) v) e

  -- a text is refused exactly if something holds of it
  pub exactly_refused : ((n : ℕ) × (q : ℕ) × (read_as_of a s ≡ bad n q)) ↔ ((n : ℕ) × (q : ℕ) × Holds a s n q)
  exactly_refused = ((λ (n, q, e). (n, q, (least n q e).0)), λ (n, q, h). by (read_as_of a s) refl n q h)
    where
      by : (r : Res At) → read_as_of a s ≡ r → (n q : ℕ) → Holds a s n q → (n : ℕ) × (q : ℕ) × (r ≡ bad n q)
      by (fine x) e n q h = absurd (nothing-holds x e n q h)
      by (bad m p) e n q h = (m, p, refl)

-- REFUSAL LEAST, for a file and for a patch's cell
pub refusal-least : (cr ir : ℕ) (s : List ℕ) (n q : ℕ) → read_file cr ir s ≡ bad n q →
    Holds (as_file cr ir) s n q × ((m p : ℕ) → Holds (as_file cr ir) s m p → Before n q m p)
refusal-least cr ir s n q e = least (as_file cr ir) a_file s n q (sym (file-is cr ir s) ∙ e)

pub cell-refusal-least : (slash : Bool) (unit cr ir : ℕ) (s : List ℕ) (n q : ℕ) → read_cell_of slash unit cr ir s ≡ bad n q →
    Holds (as_cell slash unit cr ir) s n q × ((m p : ℕ) → Holds (as_cell slash unit cr ir) s m p → Before n q m p)
cell-refusal-least slash unit cr ir s n q e = least (as_cell slash unit cr ir) (a_cell slash) s n q (sym (cell-is slash unit cr ir s) ∙ e)

-- refused exactly if something holds
pub refused_exactly : (cr ir : ℕ) (s : List ℕ) →
    ((n : ℕ) × (q : ℕ) × (read_file cr ir s ≡ bad n q)) ↔ ((n : ℕ) × (q : ℕ) × Holds (as_file cr ir) s n q)
refused_exactly cr ir s =
    rw (file-is cr ir s) (exactly_refused (as_file cr ir) a_file s)

pub cell_refused_exactly : (slash : Bool) (unit cr ir : ℕ) (s : List ℕ) →
    ((n : ℕ) × (q : ℕ) × (read_cell_of slash unit cr ir s ≡ bad n q)) ↔ ((n : ℕ) × (q : ℕ) × Holds (as_cell slash unit cr ir) s n q)
cell_refused_exactly slash unit cr ir s = rw (cell-is slash unit cr ir s) (exactly_refused (as_cell slash unit cr ir) (a_cell slash) s)
