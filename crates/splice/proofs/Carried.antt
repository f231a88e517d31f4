-- THE NEW FILE IS CARRIED: where the grammar takes one cell it takes another.
-- Assumes nothing.
use Rattle.std.specs.Prelude.{◌≡◌, refl, Bool, true, false, List, [], ◌∷◌, ◌++◌, map, ℕ, zero, suc, eqb, leb, drop}
use Rattle.std.proofs.Common.{sym, ap, subst, ◌∙◌, true≢false, arith, eqb-true, leb-true}
use Rattle.std.proofs.Math.Option.{Option, none, some}
use Rattle.classes.specs.Choice.{pick, and, within}
use Rattle.tokens.specs.Stream.{Placed}
use Rattle.words.specs.Words.{key_of}
use Rattle.grammar.specs.Ll.{lit, non, Alt, Took, choose, onto, feed, none≢some, both_true, below}
use Rattle.grammar.specs.Grammar.{Cls, this, text, word, path, port, number, cell, Term, N, header, more, opens, key, ◌‼◌, heads, cell_tail, alts, fits, looks, kind_of, file, one_cell_of}
use Rattle.grammar.specs.Meaning.{Book}
use Rattle.grammar.specs.Outcome.{Stack}
use Rattle.laws.specs.Phases.{taker-fits}
use Rattle.laws.specs.Taken.{Taken, toks}
use Rattle.laws.proofs.Behind.{Fed, fed_uncons, fed_append}
use Rattle.sound.specs.Sound.{Each}
use Rattle.splice.proofs.Along.{move_tok}
use Rattle.splice.proofs.Moved.{move_taken}
use Rattle.splice.proofs.OneCell.{Block}
use Rattle.splice.proofs.Blocks.{Takes, took_by, took_left, fed_cons, fed_something}
use Rattle.splice.proofs.Span.{CellAt}

-- two tokens that fit the same terminals are taken alike
module _ (t t' : Placed) where
  choose-same : (l : List (Alt Term N)) → Each (λ a. fits a.head t' ≡ fits a.head t) l → choose fits l t' ≡ choose fits l t
  choose-same [] h = refl
  choose-same (a ∷ l) (x, h) = rw (x, choose-same l h)

  each_fits : ((c : Term) → fits c t' ≡ fits c t) → (l : List (Alt Term N)) → Each (λ a. fits a.head t' ≡ fits a.head t) l
  each_fits f [] = tt
  each_fits f (a ∷ l) = (f a.head, each_fits f l)

  feed-same : ((c : Term) → fits c t' ≡ fits c t) → (ss : Stack) → feed fits alts ss t' ≡ feed fits alts ss t
  feed-same f [] = refl
  feed-same f (lit c ∷ ss) = rw (f c)
  feed-same f (non n ∷ ss) = rw (choose-same (alts n) (each_fits f (alts n)))

-- a token at another place
pub fed_moved : (a c : ℕ) (xs : List Taken) (ss l : Stack) → Fed ss xs l → Fed ss (map (move_taken a c) xs) l
fed_moved a c [] ss l f = f
fed_moved a c (x ∷ xs) ss l f =
    let (m, g, h) = fed_uncons ss x xs l f in
    fed_cons ss (move_taken a c x) (map (move_taken a c) xs) l m (feed-same x.tok (move_tok a c x.tok) (λ d. refl) ss ∙ g) (fed_moved a c xs m l h)

-- an opening bracket, and a cell's keyword
pub opener_kind : (t : Placed) → fits opens t ≡ true → t.kind ≡ 2
opener_kind t e = eqb-true t.kind 2 (both_true (eqb t.kind 2) true e).0

opener_fits : (t t' : Placed) → t.kind ≡ 2 → t'.kind ≡ 2 → (c : Term) → fits c t' ≡ fits c t
opener_fits t t' e f c = rw (e, f) (by c.cls)
  where
    by : (k : Cls) → pick (eqb 2 (kind_of k)) (looks k t'.bytes) false ≡ pick (eqb 2 (kind_of k)) (looks k t.bytes) false
    by (this k) = refl
    by text = refl
    by (word i x y) = refl
    by (path d) = refl
    by (port d) = refl
    by (number s) = refl

and-true : (u v : Bool) → and u v ≡ true → (u ≡ true) × (v ≡ true)
and-true true v e = (refl, e)
and-true false v e = absurd (true≢false (sym e))

keyword-is : (t : Placed) → fits (key 53 ‼ cell) t ≡ true → (t.kind ≡ 7) × (key_of t.bytes ≡ 53)
keyword-is t e =
    let (f, g) = both_true (eqb t.kind 7) (within 53 53 (key_of t.bytes)) e in
    let (h, i) = and-true (leb 53 (key_of t.bytes)) (leb (key_of t.bytes) 53) g in
    let j = leb-true 53 (key_of t.bytes) h in
    let k = leb-true (key_of t.bytes) 53 i in
    (eqb-true t.kind 7 f, omega arith)

key_fits : (t t' : Placed) → fits (key 53 ‼ cell) t ≡ true → fits (key 53 ‼ cell) t' ≡ true → (j : ℕ) → fits (key j ‼ cell) t' ≡ fits (key j ‼ cell) t
key_fits t t' e f j =
    let (a, b) = keyword-is t e in
    let (c, d) = keyword-is t' f in
    rw (a, b, c, d)

heads_fit : (t t' : Placed) (d : Bool) → ((j : ℕ) → fits (key j ‼ cell) t' ≡ fits (key j ‼ cell) t) → Each (λ a. fits a.head t' ≡ fits a.head t) (heads d)
heads_fit t t' d f = (f 43, (f 44, (f 45, (f 46, (f 47, (f 48, (f 49, (f 50, (f 51, (f 52, (f 53, tt)))))))))))

each-drop : {A : Type 0} (P : A → Type 0) (k : ℕ) (l : List A) → Each P l → Each P (drop k l)
each-drop P zero l h = h
each-drop P (suc k) [] h = tt
each-drop P (suc k) (a ∷ l) (x, h) = each-drop P k l h

keyword-same : (t t' : Placed) (k : ℕ) (d : Bool) → fits (key 53 ‼ cell) t ≡ true → fits (key 53 ‼ cell) t' ≡ true →
    feed fits alts (non (header k d) ∷ []) t' ≡ feed fits alts (non (header k d) ∷ []) t
unfolding alts
keyword-same t t' k d e f =
    ap (λ o. onto [] o) (choose-same t t' (drop k (heads d)) (each-drop _ k (heads d) (heads_fit t t' d (key_fits t t' e f))))

-- the incoming text: one cell
pub record Incoming (d : Bool) (ys : List Taken) : Type 0 where
  pub o : Taken
  pub w : Taken
  pub cs : List Taken
  pub split : ys ≡ o ∷ w ∷ cs
  pub block : Block d o w cs
  pub opens' : fits opens o.tok ≡ true
  pub word : fits (key 53 ‼ cell) w.tok ≡ true

pub lit-taken : (c : Term) (ss m : Stack) (x : Taken) → Takes (lit c ∷ ss) x m → (x.by ≡ c) × (m ≡ ss) × (fits c x.tok ≡ true)
lit-taken c ss m x e = by (fits c x.tok) refl e
  where
    by : (v : Bool) → fits c x.tok ≡ v → pick {A = Option (Took Term N)} v (some (record { by = c; left = ss })) none ≡ some (record { by = x.by; left = m }) →
        (x.by ≡ c) × (m ≡ ss) × (fits c x.tok ≡ true)
    by true f e = (sym (took_by e), sym (took_left e), f)
    by false f e = absurd (none≢some _ e)

pub incoming : (d : Bool) (ys : List Taken) → Fed (one_cell_of d) ys [] → Incoming d ys
unfolding one_cell_of
incoming d [] f = absurd (fed_something _ _ f)
incoming d (o ∷ []) f =
    let (m, g, h) = fed_uncons (one_cell_of d) o [] [] f in
    absurd (fed_something _ _ (subst (λ (z : Stack). Fed z [] []) (lit-taken opens _ m o g).1 h))
incoming d (o ∷ (w ∷ cs)) f =
    let (m, g, h) = fed_uncons (one_cell_of d) o (w ∷ cs) [] f in
    let (a, b, c) = lit-taken opens _ m o g in
    let (n, i, j) = fed_uncons _ w cs [] (subst (λ (z : Stack). Fed z (w ∷ cs) []) b h) in
    let (p, q, r) = lit-taken (key 53 ‼ cell) _ n w i in
    record {
      o = o;
      w = w;
      cs = cs;
      split = refl;
      block = record { opener = a; keyword = p; rest = subst (λ (z : Stack). Fed z cs []) q j };
      opens' = c;
      word = r;
    }

takes_as : (ss m : Stack) (x y : Taken) → feed fits alts ss y.tok ≡ feed fits alts ss x.tok → y.by ≡ x.by → Takes ss x m → Takes ss y m
takes_as ss m x y e f t = e ∙ (t ∙ ap (λ (c : Term). some (record { by = c; left = m })) (sym f))

pub fed_below : (d : Bool) (cs : List Taken) → Fed (cell_tail d) cs [] → Fed (cell_tail d ++ non (more d) ∷ []) cs (non (more d) ∷ [])
fed_below d cs f = below fits alts (toks cs) (cell_tail d) (non (more d) ∷ []) _ f

-- THE NEW FILE'S TOKENS, taken
abbrev pub new_taken : List Taken → List Taken → List Taken → ℕ → ℕ → ℕ → ℕ → List Taken
new_taken hs ys zs a c a' c' = hs ++ (map (move_taken a c) ys ++ map (move_taken a' c') zs)

pub new_carried : (xs : List Taken) (n : ℕ) (b : Book) (C : CellAt xs n b) (ys : List Taken) (I : Incoming C.d ys) (a c a' c' : ℕ) →
    Fed file (new_taken C.hs ys C.zs a c a' c') []
new_carried xs n b C ys I a c a' c' =
    let o = move_taken a c I.o in
    let w = move_taken a c I.w in
    let ss : Stack = non (header C.k C.d) ∷ [] in
    let e : Takes C.l o ss =
    takes_as C.l ss C.o o
    (feed-same C.o.tok o.tok (opener_fits C.o.tok o.tok
    (opener_kind C.o.tok (rw C.block.opener at (taker-fits C.l C.o.tok _ C.opener))) (opener_kind I.o.tok I.opens')) C.l)
    (I.block.opener ∙ sym C.block.opener) C.opener in
    let f : Takes ss w (cell_tail C.d ++ non (more C.d) ∷ []) =
    takes_as ss (cell_tail C.d ++ non (more C.d) ∷ []) C.w w
    (keyword-same C.w.tok w.tok C.k C.d (rw C.block.keyword at (taker-fits ss C.w.tok _ C.keyword)) I.word)
    (I.block.keyword ∙ sym C.block.keyword) C.keyword in
    let ms : List Taken = map (move_taken a c) I.cs in
    let ends : Stack = non (more C.d) ∷ [] in
    let g : Fed C.l (map (move_taken a c) (I.o ∷ I.w ∷ I.cs)) (non (more C.d) ∷ []) =
    fed_cons C.l o (w ∷ ms) ends ss e (fed_cons ss w ms ends (cell_tail C.d ++ ends) f (fed_below C.d (map (move_taken a c) I.cs) (fed_moved a c I.cs (cell_tail C.d) [] I.block.rest))) in
    fed_append file C.hs (map (move_taken a c) ys ++ map (move_taken a' c') C.zs) C.l [] C.front
    (fed_append C.l (map (move_taken a c) ys) (map (move_taken a' c') C.zs) (non (more C.d) ∷ []) []
    (subst (λ (z : List Taken). Fed C.l (map (move_taken a c) z) (non (more C.d) ∷ [])) (sym I.split) g)
    (fed_moved a' c' C.zs (non (more C.d) ∷ []) [] C.rest))
