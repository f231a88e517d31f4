-- THE NAMES OF THE NEW FILE: 'After the swap a name's bytes stand in the old file or in the incoming cell.'
-- Assumes nothing.
use Rattle.std.specs.Prelude.{◌≡◌, refl, Bool, true, false, ℕ, ◌+◌, ◌-◌, ◌≤◌, ◌<◌, length, take, drop}
use Rattle.std.proofs.Common.{sym, ap, subst, ◌∙◌, inl, inr, le_refl, arith, length-append, length-drop, take-append-drop, length-take-le, drop-drop, drop_at}
use mathlib.Core.List.{List, [], ◌∷◌, ◌++◌, map, append-nil, append_assoc, append_cancel_left, tail-eq_of_cons-eq, head-eq_of_cons-eq, nil≢cons}
use Rattle.std.proofs.Math.Seq.{append_snoc}
use Rattle.classes.specs.Choice.{pick}
use Rattle.tokens.specs.Stream.{Placed, part, stream, onwards}
use Rattle.grammar.specs.declared.Cell.{Cell}
use Rattle.grammar.specs.Machine.{fine, fine_inj, judges}
use Rattle.grammar.specs.Grammar.{Act, note, skip, Term, opens}
use Rattle.grammar.specs.Meaning.{Item, Log, Book, tidy, told}
use Rattle.grammar.specs.Outcome.{no_log}
use Rattle.laws.specs.Taken.{Taken, toks, tells, opens_cell, opens_entry, those, cell_words, entry_words}
use Rattle.laws.specs.Log.{starts}
use Rattle.laws.proofs.Log.{item_places, cell_places}
use Rattle.sound.specs.Sound.{Each}
use Rattle.splice.proofs.Along.{move_tok, Goes, stream-goes, goes-stream, goes-split}
use Rattle.splice.specs.Swap.{swapped}
use Rattle.splice.proofs.Moved.{move_cell, move_item}
use Rattle.splice.proofs.Span.{Begins, Tail}
use Rattle.splice.proofs.Carried.{Incoming}
use Rattle.splice.proofs.Near.{NearAt, NearCell, NearItem, NearLog, Within, all_near, SameCell, SameItem, cells-move, items_move, cells_stay, items_stay, NearTexts, all_texts, no_texts, SameTexts, texts_stay}
use Rattle.splice.proofs.Parts.{toks-append}

-- TOKENS IN ORDER, up to the end of the last of them
abbrev Ordered : ℕ → ℕ → Taken → Type 0
Ordered p q v = (p ≤ v.tok.start) × (v.tok.start < v.tok.end) × (v.tok.end ≤ q)

goes_ordered : (s : List ℕ) (vs : List Taken) (p q : ℕ) → p ≤ length s → Goes s p (toks vs) q → Each (Ordered p q) vs
goes_ordered s [] p q h g = tt
goes_ordered s (v ∷ vs) p q h (i, j, g) =
    let (a, b, c) = onwards s p _ _ _ _ h i in
    let (_, d, _, _) = goes-stream s (toks vs) v.tok.end q c g in
    ((a, b, d), later vs (omega arith) (goes_ordered s vs v.tok.end q c g))
  where
    later : (vs : List Taken) → p ≤ v.tok.end → Each (Ordered v.tok.end q) vs → Each (Ordered p q) vs
    later [] l e = tt
    later (u ∷ vs) l ((x, y, z), e) = ((omega arith, y, z), later vs l e)

-- the tokens behind one, up to some others
record Order (s : List ℕ) (t : Taken) (vs ws : List Taken) : Type 0 where
  q : ℕ
  ahead : t.tok.start < t.tok.end
  goes : Goes s t.tok.end (toks vs) q
  each : Each (Ordered t.tok.end q) vs
  fits : q ≤ length s
  next : (stream s q).toks ≡ toks ws

order : (s : List ℕ) (us : List Taken) (t : Taken) (vs ws : List Taken) → (stream s 0).toks ≡ toks (us ++ (t ∷ (vs ++ ws))) → Order s t vs ws
order s us t vs ws e =
    let (q0, g0, i0, j0, k0) = stream-goes s (toks us) (t.tok ∷ toks (vs ++ ws)) 0 (omega arith) (e ∙ toks-append us (t ∷ (vs ++ ws))) in
    let (r, (g1, b1, n1), i1, j1, k1) = stream-goes s (t.tok ∷ []) (toks (vs ++ ws)) q0 i0 j0 in
    let (x, y, z) = onwards s q0 _ _ _ _ i0 g1 in
    let j' : (stream s t.tok.end).toks ≡ toks vs ++ toks ws = (rw (← n1) at j1) ∙ toks-append vs ws in
    let (w, f, l, m, _) = stream-goes s (toks vs) (toks ws) t.tok.end z j' in
    record { q = w; ahead = y; goes = f; each = goes_ordered s vs t.tok.end w z f; fits = l; next = m }

-- such tokens stand within these bounds
within_them : (lo hi p q : ℕ) (vs : List Taken) → lo ≤ p → 1 ≤ p → q ≤ hi → Each (Ordered p q) vs → Each (Within lo hi) vs
within_them lo hi p q [] a b c e = tt
within_them lo hi p q (v ∷ vs) a b c ((x, y, z), e) = ((omega arith, omega arith, y, omega arith), within_them lo hi p q vs a b c e)

-- where nothing was added, it stands anywhere
nothing-near : (lo hi : ℕ) (ts : List ℕ) (cs : List Cell) (is : List Item) (l : Log) → l ≡ tidy ts cs is → NearLog lo hi cs is l
nothing-near lo hi ts cs is l e =
    subst (λ (x : Log). NearLog lo hi cs is x) (sym e)
    (record {
      new_cells = [];
      new_items = [];
      cells = sym (append-nil cs);
      items = sym (append-nil is);
      each_cell = tt;
      each_item = tt;
      place = inl refl;
      type = inl (refl, refl);
      path = inl (refl, refl);
      head = record { place = inl refl; first = inl (refl, refl); second = inl (refl, refl) };
    })

at_opener : (o : Taken) (xs : List Taken) (b : Book) → o.by ≡ opens → tells b (o ∷ xs) ≡ tells (told b o.tok b.log) xs
unfolding judges
at_opener o xs b e = rw e

-- BEFORE THE CELL
pub front-near : (s : List ℕ) (hs : List Taken) (o : Taken) (r : List Taken) (b b1 : Book) → Begins hs → (stream s 0).toks ≡ toks (hs ++ (o ∷ r)) →
    b.log ≡ no_log → tells b hs ≡ fine b1 → NearLog 0 o.tok.start [] [] b1.log
unfolding judges
front-near s [] o r b b1 h e l t =
    nothing-near 0 o.tok.start _ [] [] b1.log (ap (λ (x : Book). x.log) (sym (fine_inj t)) ∙ l)
front-near s (x ∷ hs) o r b b1 h e l t =
    let O = order s [] x hs (o ∷ r) e in
    let (q1, (g1, b1', n1), i1, j1, k1) = stream-goes s (o.tok ∷ []) (toks r) O.q O.fits O.next in
    let (u, v, w) = onwards s O.q _ _ _ _ O.fits g1 in
    let a = O.ahead in
    all_near 0 o.tok.start [] [] hs (told b x.tok b.log) b1 (within_them 0 o.tok.start x.tok.end O.q hs (omega arith) (omega arith) u O.each)
    (sym (at_opener x hs b h) ∙ t) (nothing-near 0 o.tok.start _ [] [] b.log l)

pub front_texts : (s : List ℕ) (hs : List Taken) (o : Taken) (r : List Taken) (b b1 : Book) → Begins hs → (stream s 0).toks ≡ toks (hs ++ (o ∷ r)) →
    b.log ≡ no_log → tells b hs ≡ fine b1 → NearTexts o.tok.start b1.log.texts
unfolding judges
front_texts s [] o r b b1 h e l t =
    subst (λ (x : Log). NearTexts o.tok.start x.texts) (sym (ap (λ (x : Book). x.log) (sym (fine_inj t)) ∙ l)) (no_texts o.tok.start)
front_texts s (x ∷ hs) o r b b1 h e l t =
    let O = order s [] x hs (o ∷ r) e in
    let (q1, (g1, b1', n1), i1, j1, k1) = stream-goes s (o.tok ∷ []) (toks r) O.q O.fits O.next in
    let (u, v, w) = onwards s O.q _ _ _ _ O.fits g1 in
    let a = O.ahead in
    all_texts o.tok.start hs (told b x.tok b.log) b1 (within_them 0 o.tok.start x.tok.end O.q hs (omega arith) (omega arith) u O.each)
    (sym (at_opener x hs b h) ∙ t) (subst (λ (y : Log). NearTexts o.tok.start y.texts) (sym l) (no_texts o.tok.start))

-- THE INCOMING CELL
pub incoming_near : (t : List ℕ) (d : Bool) (ys : List Taken) (I : Incoming d ys) (U : Tail I.cs) (b e : Book) → (stream t 0).toks ≡ toks ys → b.log ≡ no_log →
    tells b ys ≡ fine e →
    (I.o.tok.start ≤ U.x.tok.end) × (U.x.tok.end ≤ length t) × NearLog I.o.tok.start U.x.tok.end [] [] e.log
incoming_near t d ys I U b e s l f =
    let vs : List Taken = I.w ∷ I.cs in
    let O = order t [] I.o vs [] (s ∙ (ap toks I.split ∙ ap (λ (z : List Taken). toks (I.o ∷ z)) (sym (append-nil vs)))) in
    let g : Goes t I.o.tok.end (toks (I.w ∷ U.ms) ++ U.x.tok ∷ []) O.q =
    subst (λ (z : List Placed). Goes t I.o.tok.end (I.w.tok ∷ z) O.q) (ap toks U.split ∙ toks-append U.ms (U.x ∷ [])) O.goes in
    let (r, g1, (i, j, k)) = goes-split t (toks (I.w ∷ U.ms)) (U.x.tok ∷ []) I.o.tok.end O.q g in
    let a = O.ahead in
    let c = O.fits in
    let le : I.o.tok.end ≤ U.x.tok.end = omega (arith, (goes-stream t (toks vs) I.o.tok.end O.q (omega arith) O.goes).1) in (
      omega arith,
      omega arith,
      all_near I.o.tok.start U.x.tok.end [] [] vs (told b I.o.tok b.log) e
          (within_them I.o.tok.start U.x.tok.end I.o.tok.end O.q vs (omega arith) (omega arith) (omega arith) O.each)
          (sym (at_opener I.o vs b I.block.opener) ∙ (ap (tells b) (sym I.split) ∙ f)) (nothing-near _ _ _ [] [] b.log l),
    )

-- a token stands in the text
pub token_inside : (s : List ℕ) (us : List Taken) (x : Taken) (zs : List Taken) → (stream s 0).toks ≡ toks (us ++ (x ∷ zs)) →
    (x.tok.start < x.tok.end) × (x.tok.end ≤ length s)
token_inside s us x zs h =
    let (q0, g0, i0, j0, k0) = stream-goes s (toks us) (x.tok ∷ toks zs) 0 (omega arith) (h ∙ toks-append us (x ∷ zs)) in
    let (r, (g1, b1, n1), i1, j1, k1) = stream-goes s (x.tok ∷ []) (toks zs) q0 i0 j0 in
    let (u, v, w) = onwards s q0 _ _ _ _ i0 g1 in
    (v, w)

-- BEHIND THE CELL
pub behind-near : (s : List ℕ) (us : List Taken) (x : Taken) (zs : List Taken) (b2 e : Book) (ts : List ℕ) (cs : List Cell) (is : List Item) →
    (stream s 0).toks ≡ toks (us ++ (x ∷ zs)) → b2.log ≡ tidy ts cs is → tells b2 zs ≡ fine e →
    (x.tok.end ≤ length s) × NearLog x.tok.end (length s) cs is e.log
behind-near s us x zs b2 e ts cs is h l t =
    let O = order s us x zs [] (h ∙ ap (λ (z : List Taken). toks (us ++ (x ∷ z))) (sym (append-nil zs))) in
    let a = O.ahead in
    let c = O.fits in
    let (_, d, _, _) = goes-stream s (toks zs) x.tok.end O.q (token_inside s us x zs h).1 O.goes in (
      omega arith,
      all_near x.tok.end (length s) cs is zs b2 e (within_them x.tok.end (length s) x.tok.end O.q zs (le_refl x.tok.end) (omega arith) c O.each) t
          (nothing-near _ _ ts cs is b2.log l),
    )

-- NO KEYWORD STANDS AT THE VERY BEGINNING, where a bracket does
those-ahead : (f : Act → Bool) (xs : List Taken) → Each (λ v. 1 ≤ v.tok.start) xs → Each (λ t. 1 ≤ t.start) (those f xs)
those-ahead f [] h = tt
those-ahead f (x ∷ xs) (a, h) = by (f x.by.act) (those-ahead f xs h)
  where
    by : (v : Bool) → Each (λ t. 1 ≤ t.start) (those f xs) → Each (λ t. 1 ≤ t.start) (pick v (x.tok ∷ those f xs) (those f xs))
    by true e = (a, e)
    by false e = e

all-ahead : (s : List ℕ) (xs : List Taken) (f : Act → Bool) → Begins xs → f (note skip) ≡ false → (stream s 0).toks ≡ toks xs →
    Each (λ t. 1 ≤ t.start) (those f xs)
all-ahead s [] f h n e = tt
all-ahead s (x ∷ xs) f h n e =
    let O = order s [] x xs [] (e ∙ ap (λ (z : List Taken). toks (x ∷ z)) (sym (append-nil xs))) in
    let a = O.ahead in
    let k : f x.by.act ≡ false = ap (λ (c : Term). f c.act) h ∙ n in
    rw k (those-ahead f xs (ahead xs O.q a O.each))
  where
    ahead : (vs : List Taken) (q : ℕ) → x.tok.start < x.tok.end → Each (Ordered x.tok.end q) vs → Each (λ v. 1 ≤ v.tok.start) vs
    ahead [] q a e = tt
    ahead (v ∷ vs) q a ((b, c, d), e) = (omega arith, ahead vs q a e)

pub cells-ahead : (s : List ℕ) (xs : List Taken) (cs : List Cell) → Begins xs → (stream s 0).toks ≡ toks xs → cell_places cs ≡ starts (cell_words xs) →
    Each (λ c. 1 ≤ c.place) cs
cells-ahead s xs cs h e p = by cs (cell_words xs) p (all-ahead s xs opens_cell h refl e)
  where
    by : (cs : List Cell) (ts : List Placed) → cell_places cs ≡ starts ts → Each (λ t. 1 ≤ t.start) ts → Each (λ c. 1 ≤ c.place) cs
    by [] ts e h = tt
    by (c ∷ cs) [] e h = absurd (nil≢cons (sym e))
    by (c ∷ cs) (t ∷ ts) e (a, h) = (rw (head-eq_of_cons-eq e) a, by cs ts (tail-eq_of_cons-eq e) h)

pub items_ahead : (s : List ℕ) (xs : List Taken) (is : List Item) → Begins xs → (stream s 0).toks ≡ toks xs → item_places is ≡ starts (entry_words xs) →
    Each (λ i. 1 ≤ i.head.place) is
items_ahead s xs is h e p = by is (entry_words xs) p (all-ahead s xs opens_entry h refl e)
  where
    by : (is : List Item) (ts : List Placed) → item_places is ≡ starts ts → Each (λ t. 1 ≤ t.start) ts → Each (λ i. 1 ≤ i.head.place) is
    by [] ts e h = tt
    by (i ∷ is) [] e h = absurd (nil≢cons (sym e))
    by (i ∷ is) (t ∷ ts) e (a, h) = (rw (head-eq_of_cons-eq e) a, by is ts (tail-eq_of_cons-eq e) h)

-- a keyword's place, between lo and hi
abbrev pub StandsIn : ℕ → ℕ → ℕ → Type 0
StandsIn lo hi x = (1 ≤ x) × (lo ≤ x) × (x < hi)

stands_in : (lo hi x : ℕ) → NearAt lo hi x → 1 ≤ x → StandsIn lo hi x
stands_in lo hi x (inl e) h = absurd (omega arith)
stands_in lo hi x (inr (a, b)) h = (h, a, b)

cells_stand : (lo hi : ℕ) (cs : List Cell) → Each (NearCell lo hi) cs → Each (λ c. 1 ≤ c.place) cs → Each (λ c. StandsIn lo hi c.place) cs
cells_stand lo hi [] h k = tt
cells_stand lo hi (c ∷ cs) (a, h) (b, k) = (stands_in lo hi c.place a.place b, cells_stand lo hi cs h k)

items_stand : (lo hi : ℕ) (is : List Item) → Each (NearItem lo hi) is → Each (λ i. 1 ≤ i.head.place) is → Each (λ i. StandsIn lo hi i.head.place) is
items_stand lo hi [] h k = tt
items_stand lo hi (i ∷ is) (a, h) (b, k) = (stands_in lo hi i.head.place a.place b, items_stand lo hi is h k)

-- THE BYTES. s is the file, t the incoming text, n the new file; the old cell stands from p to q, the incoming one from p' to q'
pub record Named (s t n : List ℕ) (p q p' q' : ℕ) (texts : List ℕ) (front : List Cell) (front_items_of : List Item) (incoming : List Cell) (items : List Item) (behind : List Cell)
    (behind_items : List Item) : Type 0 where
  -- the header's texts and what stands before the cell: as in the file, at the same place
  pub texts_same : SameTexts s n texts
  pub front_same_of : Each (λ c. SameCell s c n c) front
  pub front_items_same : Each (λ i. SameItem s i n i) front_items_of
  pub front_at : Each (λ c. StandsIn 0 p c.place) front
  pub front_items_at : Each (λ i. StandsIn 0 p i.head.place) front_items_of
  -- the incoming cell: as in the incoming text
  pub incoming_same : Each (λ c. SameCell t c n (move_cell p' p c)) incoming
  pub items_same : Each (λ i. SameItem t i n (move_item p' p i)) items
  pub incoming_at : Each (λ c. StandsIn p' q' c.place) incoming
  pub items_at : Each (λ i. StandsIn p' q' i.head.place) items
  -- behind the cell: as in the file
  pub behind_same : Each (λ c. SameCell s c n (move_cell q (p + (q' - p')) c)) behind
  pub behind_items_same : Each (λ i. SameItem s i n (move_item q (p + (q' - p')) i)) behind_items
  pub behind_at : Each (λ c. StandsIn q (length s) c.place) behind
  pub behind_items_at : Each (λ i. StandsIn q (length s) i.head.place) behind_items

middle : (t : List ℕ) (p q : ℕ) → p ≤ q → take p t ++ (part p q t ++ drop q t) ≡ t
middle t p q h =
    let z : p + (q - p) ≡ q = omega arith in
    ap (λ (l : List ℕ). take p t ++ (part p q t ++ l)) (sym (drop-drop (q - p) p t ∙ ap (λ (n : ℕ). drop n t) z))
    ∙ (ap (λ (l : List ℕ). take p t ++ l) (take-append-drop (q - p) (drop p t)) ∙ take-append-drop p t)

module _ (s t : List ℕ) (p q p' q' : ℕ) (h : p ≤ length s) (k : q ≤ length s) (i : p' ≤ q') (j : q' ≤ length t) where
  abbrev new : List ℕ
  new = swapped s p q t p' q'

  front-size : length (take p s) ≡ p
  front-size = length-take-le p s h

  in_size : length (take p' t) ≡ p'
  in_size = length-take-le p' t (omega arith)

  mid_size : length (part p' q' t) ≡ q' - p'
  mid_size = length-take-le (q' - p') (drop p' t) (omega (arith, length-drop p' t))

  fronts : (cs : List Cell) → Each (NearCell 0 p) cs → Each (λ c. SameCell s c new c) cs
  fronts cs e =
      subst (λ (x : List ℕ). Each (λ c. SameCell x c new c) cs) (take-append-drop p s)
      (cells_stay (take p s) (part p' q' t ++ drop q s) (drop p s) cs (subst (λ (x : ℕ). Each (NearCell 0 x) cs) (sym front-size) e))

  same_texts : (l : List ℕ) → NearTexts p l → SameTexts s new l
  same_texts l e =
      subst (λ (x : List ℕ). SameTexts x new l) (take-append-drop p s)
      (texts_stay (take p s) (part p' q' t ++ drop q s) (drop p s) l (subst (λ (x : ℕ). NearTexts x l) (sym front-size) e))

  front_items : (is : List Item) → Each (NearItem 0 p) is → Each (λ c. SameItem s c new c) is
  front_items is e =
      subst (λ (x : List ℕ). Each (λ c. SameItem x c new c) is) (take-append-drop p s)
      (items_stay (take p s) (part p' q' t ++ drop q s) (drop p s) is (subst (λ (x : ℕ). Each (NearItem 0 x) is) (sym front-size) e))

  ins : (cs : List Cell) → Each (NearCell p' q') cs → Each (λ c. SameCell t c new (move_cell p' p c)) cs
  ins cs e =
      let z : length (take p' t) + length (part p' q' t) ≡ q' = omega (arith, in_size, mid_size) in
      subst (λ (x : List ℕ). Each (λ c. SameCell x c new (move_cell p' p c)) cs) (middle t p' q' i)
      (subst (λ (x : ℕ). Each (λ c. SameCell (take p' t ++ (part p' q' t ++ drop q' t)) c new (move_cell p' x c)) cs) front-size
      (subst (λ (x : ℕ). Each (λ c. SameCell (take p' t ++ (part p' q' t ++ drop q' t)) c new (move_cell x (length (take p s)) c)) cs) in_size
      (cells-move (take p s) (part p' q' t) (drop q s) (take p' t) (drop q' t) cs
      (subst (λ (x : ℕ). Each (NearCell x (length (take p' t) + length (part p' q' t))) cs) (sym in_size) (subst (λ (x : ℕ). Each (NearCell p' x) cs) (sym z) e)))))

  in_items : (is : List Item) → Each (NearItem p' q') is → Each (λ c. SameItem t c new (move_item p' p c)) is
  in_items is e =
      let z : length (take p' t) + length (part p' q' t) ≡ q' = omega (arith, in_size, mid_size) in
      subst (λ (x : List ℕ). Each (λ c. SameItem x c new (move_item p' p c)) is) (middle t p' q' i)
      (subst (λ (x : ℕ). Each (λ c. SameItem (take p' t ++ (part p' q' t ++ drop q' t)) c new (move_item p' x c)) is) front-size
      (subst (λ (x : ℕ). Each (λ c. SameItem (take p' t ++ (part p' q' t ++ drop q' t)) c new (move_item x (length (take p s)) c)) is) in_size
      (items_move (take p s) (part p' q' t) (drop q s) (take p' t) (drop q' t) is
      (subst (λ (x : ℕ). Each (NearItem x (length (take p' t) + length (part p' q' t))) is) (sym in_size) (subst (λ (x : ℕ). Each (NearItem p' x) is) (sym z) e)))))

  -- the part behind, as the middle of both texts
  abbrev up : List ℕ
  up = take p s ++ part p' q' t

  up-size : length up ≡ p + (q' - p')
  up-size = length-append (take p s) (part p' q' t) ∙ rw (front-size, mid_size)

  end_size : length (take q s) ≡ q
  end_size = length-take-le q s k

  all-size : length (take q s) + length (drop q s) ≡ length s
  all-size = omega (arith, end_size, length-drop q s)

  old_whole : take q s ++ (drop q s ++ []) ≡ s
  old_whole = rw append-nil (take-append-drop q s)

  new-whole : up ++ (drop q s ++ []) ≡ new
  new-whole = rw append-nil (append_assoc (take p s) (part p' q' t) (drop q s))

  behinds : (cs : List Cell) → Each (NearCell q (length s)) cs → Each (λ c. SameCell s c new (move_cell q (p + (q' - p')) c)) cs
  behinds cs e =
      subst (λ (x : List ℕ). Each (λ c. SameCell x c new (move_cell q (p + (q' - p')) c)) cs) old_whole
      (subst (λ (x : List ℕ). Each (λ c. SameCell (take q s ++ (drop q s ++ [])) c x (move_cell q (p + (q' - p')) c)) cs) new-whole
      (subst (λ (x : ℕ). Each (λ c. SameCell (take q s ++ (drop q s ++ [])) c (up ++ (drop q s ++ [])) (move_cell q x c)) cs) up-size
      (subst (λ (x : ℕ). Each (λ c. SameCell (take q s ++ (drop q s ++ [])) c (up ++ (drop q s ++ [])) (move_cell x (length up) c)) cs) end_size
      (cells-move up (drop q s) [] (take q s) [] cs
      (subst (λ (x : ℕ). Each (NearCell x (length (take q s) + length (drop q s))) cs) (sym end_size) (subst (λ (x : ℕ). Each (NearCell q x) cs) (sym all-size) e))))))

  behind_items_lem : (is : List Item) → Each (NearItem q (length s)) is → Each (λ c. SameItem s c new (move_item q (p + (q' - p')) c)) is
  behind_items_lem is e =
      subst (λ (x : List ℕ). Each (λ c. SameItem x c new (move_item q (p + (q' - p')) c)) is) old_whole
      (subst (λ (x : List ℕ). Each (λ c. SameItem (take q s ++ (drop q s ++ [])) c x (move_item q (p + (q' - p')) c)) is) new-whole
      (subst (λ (x : ℕ). Each (λ c. SameItem (take q s ++ (drop q s ++ [])) c (up ++ (drop q s ++ [])) (move_item q x c)) is) up-size
      (subst (λ (x : ℕ). Each (λ c. SameItem (take q s ++ (drop q s ++ [])) c (up ++ (drop q s ++ [])) (move_item x (length up) c)) is) end_size
      (items_move up (drop q s) [] (take q s) [] is
      (subst (λ (x : ℕ). Each (NearItem x (length (take q s) + length (drop q s))) is) (sym end_size) (subst (λ (x : ℕ). Each (NearItem q x) is) (sym all-size) e))))))

  -- all of them
  pub named : (texts : List ℕ) (fc ic bc : List Cell) (fi ii bi : List Item) → NearTexts p texts → Each (NearCell 0 p) fc → Each (NearItem 0 p) fi → Each (NearCell p' q') ic →
      Each (NearItem p' q') ii → Each (NearCell q (length s)) bc → Each (NearItem q (length s)) bi →
      Each (λ c. 1 ≤ c.place) fc → Each (λ i. 1 ≤ i.head.place) fi → Each (λ c. 1 ≤ c.place) ic → Each (λ i. 1 ≤ i.head.place) ii →
      Each (λ c. 1 ≤ c.place) bc → Each (λ i. 1 ≤ i.head.place) bi → Named s t new p q p' q' texts fc fi ic ii bc bi
  named texts fc ic bc fi ii bi w a b c d e f a' b' c' d' e' f' =
      record {
        texts_same = same_texts texts w;
        front_same_of = fronts fc a;
        front_items_same = front_items fi b;
        incoming_same = ins ic c;
        items_same = in_items ii d;
        behind_same = behinds bc e;
        behind_items_same = behind_items_lem bi f;
        front_at = cells_stand 0 p fc a a';
        front_items_at = items_stand 0 p fi b b';
        incoming_at = cells_stand p' q' ic c c';
        items_at = items_stand p' q' ii d d';
        behind_at = cells_stand q (length s) bc e e';
        behind_items_at = items_stand q (length s) bi f f';
      }

-- what stands behind is the same list where what stands before is
pub behind-cells : (a : List Cell) (c c' : Cell) (m m' : List Cell) → (a ++ c ∷ []) ++ m ≡ (a ++ c' ∷ []) ++ m' → (c ≡ c') × (m ≡ m')
behind-cells a c c' m m' e =
    let f : c ∷ m ≡ c' ∷ m' = append_cancel_left a (c ∷ m) (c' ∷ m') (sym (append_snoc a c m) ∙ (e ∙ append_snoc a c' m')) in
    (head-eq_of_cons-eq f, tail-eq_of_cons-eq f)

pub same_items : (a l l' m m' : List Item) → (a ++ l) ++ m ≡ (a ++ l') ++ m' → length l ≡ length l' → m ≡ m'
same_items a l l' m m' e h =
    let f : l ++ m ≡ l' ++ m' = append_cancel_left a (l ++ m) (l' ++ m') (sym (append_assoc a l m) ∙ (e ∙ append_assoc a l' m')) in
    sym (drop_at l m (length l) refl) ∙ (ap (drop (length l)) f ∙ drop_at l' m' (length l) (sym h))

-- THE WORDS: 'A word of the new file is the same word as the one its bytes come from.' The file's tokens before its cell, the incoming text's, and the
-- file's behind its cell: of the same kinds, with the same bytes, at other places
pub record Words (s t n : List ℕ) (p q p' q' : ℕ) : Type 0 where
  pub before : List Placed
  pub outgoing : List Placed
  pub behind : List Placed
  pub old : (stream s 0).toks ≡ before ++ (outgoing ++ behind)
  pub new : (stream n 0).toks ≡ before ++ (map (move_tok p' p) (stream t 0).toks ++ map (move_tok q (p + (q' - p'))) behind)
