-- THE TOKENS OF THE NEW FILE: those before the cell, the incoming cell's, and those behind it, with their places moved.
-- Assumes nothing.
use Rattle.std.specs.Prelude.{ℕ, suc, ◌+◌, ◌-◌, ◌≤◌, ◌<◌, ◌≡◌, refl, Bool, false, List, [], ◌∷◌, ◌++◌, map, length, take, drop, get_or}
use Rattle.std.proofs.Common.{add-zero, le_refl, arith, ap, ◌∙◌, sym, subst, inl, inr, append_assoc, length-append, length-drop, take-append-drop, length-take-le, drop-drop, get_or-drop, eqb-true, eq-eqb}
use Rattle.std.proofs.Math.Seq.{append_snoc, split_at, take-length}
use Rattle.classes.specs.Classes.{class_of}
use Rattle.classes.specs.ClassLaws.{open_byte, close_byte}
use Rattle.tokenforms.specs.Tokens.{Got}
use Rattle.tokenforms.specs.Tokens.{token_at}
use Rattle.tokens.specs.Stream.{Placed, part, stream, onwards}
use Rattle.splice.proofs.Along.{Goes, Bracket, stream-goes, goes-stream, goes-append, goes-split, token_starts, goes_seam, last_seam, part-front, part-behind, move_tok, goes-move, stream-move}
use Rattle.splice.specs.Swap.{swapped}

-- the bytes of the two brackets
opened : (o : ℕ) → class_of o ≡ 2 → o ≡ 40
opened o h = eqb-true o 40 (sym (open_byte o) ∙ eq-eqb (class_of o) 2 h)

closed : (o : ℕ) → class_of o ≡ 3 → o ≡ 41
closed o h = eqb-true o 41 (sym (close_byte o) ∙ eq-eqb (class_of o) 3 h)

opening : Bracket 40
unfolding class_of
opening = inl refl

closing : Bracket 41
unfolding class_of
closing = inr refl

pub map-append : {A B : Type 0} (f : A → B) (l m : List A) → map f (l ++ m) ≡ map f l ++ map f m
map-append f [] m = refl
map-append {B = B} f (a ∷ l) m = ap (λ (x : List B). f a ∷ x) (map-append f l m)

-- bytes up to a byte that two texts share
part_seam : (a x y : List ℕ) (o b e : ℕ) → b ≤ e → e ≤ length a + 1 → part b e (a ++ o ∷ x) ≡ part b e (a ++ o ∷ y)
part_seam a x y o b e h k =
    let z : e ≤ length (a ++ o ∷ []) = omega (arith, length-append a (o ∷ [])) in
    rw (← append_snoc a o x, ← append_snoc a o y) (part-front (a ++ o ∷ []) x b e h z ∙ sym (part-front (a ++ o ∷ []) y b e h z))

-- tokens up to a closing bracket, whatever stands behind it
up_to : (a x y : List ℕ) (ts : List Placed) (c : Placed) (p q r : ℕ) → p ≤ length a → Goes (a ++ 41 ∷ x) p ts q → Goes (a ++ 41 ∷ x) q (c ∷ []) r →
    c.kind ≡ 3 → c.start ≡ length a → Goes (a ++ 41 ∷ y) p (ts ++ c ∷ []) (length a + 1)
unfolding class_of
up_to a x y ts c p q r h g (v, w, e) k s =
    let (lo, _, _, _) = goes-stream (a ++ 41 ∷ x) ts p q (omega (arith, length-append a (41 ∷ x))) g in
    let (b, _, _) = onwards (a ++ 41 ∷ x) q _ _ _ _ lo v in
    let t = token_starts (a ++ 41 ∷ x) q _ _ _ _ v in
    let (_, o, l) = t.mark (omega arith) in
    let v' : token_at (a ++ 41 ∷ x) q ≡ Got c.kind (length a) c.end c.long = v ∙ ap (λ (n : ℕ). Got c.kind n c.end c.long) s in
    let here : token_at (a ++ 41 ∷ y) q ≡ Got 3 (length a) (length a + 1) false = last_seam a x y 41 closing q _ _ _ (omega arith) v' in
    let f : c.end ≡ length a + 1 = omega arith in
    let w' : c.bytes ≡ part c.start c.end (a ++ 41 ∷ y) = w ∙ part_seam a x y 41 c.start c.end (omega arith) (omega arith) in
    goes-append (a ++ 41 ∷ y) ts (c ∷ []) p q (length a + 1)
    (goes_seam a x y 41 closing ts p q _ _ _ _ h (omega arith) v g) (rw (k, s, f, l) here, w', f)

-- x stands before the cell in the file, z behind it; xi and i stand around the incoming cell, which is 40 ∷ (m ++ 41 ∷ [])
module _ (x f z xi m i : List ℕ) where
  abbrev Old : List ℕ
  Old = x ++ 40 ∷ f

  abbrev Incoming : List ℕ
  Incoming = xi ++ (40 ∷ (m ++ 41 ∷ i))

  abbrev New : List ℕ
  New = x ++ (40 ∷ (m ++ 41 ∷ z))

  abbrev inner : Placed → Placed
  inner = move_tok (length xi) (length x)

  front_same : (hs : List Placed) (q k e : ℕ) (l : Bool) → q ≤ length x → Goes Old 0 hs q → token_at Old q ≡ Got k (length x) e l →
      Goes New 0 hs q × (token_at New q ≡ Got 2 (length x) (length x + 1) false)
  unfolding class_of
  front_same hs q k e l h g t =
      (goes_seam x f (m ++ 41 ∷ z) 40 opening hs 0 q k (length x) e l (omega arith) h t g, last_seam x f (m ++ 41 ∷ z) 40 opening q k e l h t)

  -- the incoming cell's tokens behind its opening bracket
  cell_same : (ts : List Placed) (c : Placed) (r : ℕ) → Goes Incoming (length xi + 1) (ts ++ c ∷ []) r → c.kind ≡ 3 →
      c.start ≡ length xi + (length m + 1) → Goes New (length x + 1) (map inner (ts ++ c ∷ [])) (length x + (length m + 2))
  cell_same ts c r g k s =
      let j = goes-move xi x (40 ∷ (m ++ 41 ∷ i)) (ts ++ c ∷ []) 1 r g in
      let j' = rw (map-append inner ts (c ∷ []), ← append_assoc x (40 ∷ m) (41 ∷ i)) at j in
      let (q, u, v) = goes-split (a ++ 41 ∷ i) (map inner ts) (inner c ∷ []) (length x + 1) _ j' in
      let n : length a ≡ length x + (length m + 1) = length-append x (40 ∷ m) ∙ ap (λ (h : ℕ). length x + h) (omega arith) in
      let n' : length a + 1 ≡ length x + (length m + 2) = omega arith in
      rw (map-append inner ts (c ∷ []), ← append_assoc x (40 ∷ m) (41 ∷ z), ← n')
      (up_to a i z (map inner ts) (inner c) (length x + 1) q _ (omega arith) u v k (omega arith))
    where
      a : List ℕ
      a = x ++ 40 ∷ m

  -- all of them; A is the file up to the cell's end
  put-together : (A : List ℕ) (hs ts zs : List Placed) (o c : Placed) (q k e r : ℕ) (l : Bool) → A ++ z ≡ Old → (stream Old (length A)).toks ≡ zs →
      Goes Old 0 hs q → q ≤ length x → token_at Old q ≡ Got k (length x) e l →
      o.kind ≡ 2 → o.start ≡ length xi → o.end ≡ length xi + 1 → o.long ≡ false → o.bytes ≡ part (length xi) (length xi + 1) Incoming →
      Goes Incoming (length xi + 1) (ts ++ c ∷ []) r → c.kind ≡ 3 → c.start ≡ length xi + (length m + 1) →
      ((stream New 0).toks ≡ hs ++ (map inner (o ∷ (ts ++ c ∷ [])) ++ map (move_tok (length A) (length x + (length m + 2))) zs))
      × ((stream New 0).number ≡ (stream Old (length A)).number)
  put-together A hs ts zs o c q k e r l cut zt g h t ok os oe ol ob ig ck cs =
      let (a, b) = front_same hs q k e l h g t in
      let d = cell_same ts c r ig ck cs in
      let s0 : length x + (o.start - length xi) ≡ length x = omega arith in
      let e0 : length x + (o.end - length xi) ≡ length x + 1 = omega arith in
      let f0 : token_at New q ≡ Got o.kind (length x + (o.start - length xi)) (length x + (o.end - length xi)) o.long = rw (ok, s0, e0, ol) b in
      let f1 : o.bytes ≡ part (length x + (o.start - length xi)) (length x + (o.end - length xi)) New = rw (s0, e0) (ob ∙ bytes) in
      let f2 : Goes New (length x + (o.end - length xi)) (map inner (ts ++ c ∷ [])) (length x + (length m + 2)) = rw e0 d in
      let all : Goes New 0 (hs ++ map inner (o ∷ (ts ++ c ∷ []))) (length x + (length m + 2)) =
      goes-append New hs (map inner (o ∷ (ts ++ c ∷ []))) 0 q (length x + (length m + 2)) a (f0, f1, f2) in
      let (u, v, w, y) = goes-stream New (hs ++ map inner (o ∷ (ts ++ c ∷ []))) 0 (length x + (length m + 2)) (omega arith) all in
      let (i0, i1) = stream-move A C z zs 0 (omega arith) (rw (cut, add-zero) zt) in
      let i0' : (stream New (length x + (length m + 2))).toks ≡ map (move_tok (length A) (length x + (length m + 2))) zs = rw (whole, add-zero, size) at i0 in
      let i1' : (stream New (length x + (length m + 2))).number ≡ (stream Old (length A)).number = rw (whole, add-zero, size, cut, add-zero) at i1 in
      (w ∙ (ap (λ (y : List Placed). (hs ++ map inner (o ∷ (ts ++ c ∷ []))) ++ y) i0' ∙ append_assoc hs _ _), y ∙ i1')
    where
      C : List ℕ
      C = x ++ 40 ∷ (m ++ 41 ∷ [])

      whole : C ++ z ≡ New
      whole = append_assoc x (40 ∷ (m ++ 41 ∷ [])) z ∙ ap (λ (y : List ℕ). x ++ 40 ∷ y) (append_snoc m 41 z)

      size : length C ≡ length x + (length m + 2)
      size = length-append x (40 ∷ (m ++ 41 ∷ [])) ∙ ap (λ (n : ℕ). length x + n) (ap suc (length-append m (41 ∷ [])) ∙ omega arith)

      bytes : part (length xi) (length xi + 1) Incoming ≡ part (length x) (length x + 1) New
      bytes = ap (λ n. part n (length xi + 1) Incoming) (sym (add-zero (length xi))) ∙ (part-behind xi (40 ∷ (m ++ 41 ∷ i)) 0 1
          ∙ (sym (part-behind x (40 ∷ (m ++ 41 ∷ z)) 0 1) ∙ ap (λ n. part n (length x + 1) New) (add-zero (length x))))

-- a text's tokens with a pair of brackets among them: where these stand
record Found (s : List ℕ) (hs : List Placed) (o : Placed) (ts : List Placed) (c : Placed) (zs : List Placed) : Type 0 where
  q : ℕ
  before : Goes s 0 hs q
  opens : token_at s q ≡ Got o.kind o.start o.end o.long
  bytes : o.bytes ≡ part o.start o.end s
  inside : Goes s o.end (ts ++ c ∷ []) c.end
  behind : (stream s c.end).toks ≡ zs
  number : (stream s c.end).number ≡ (stream s 0).number
  first : get_or s o.start 0 ≡ 40
  last : get_or s c.start 0 ≡ 41
  one : o.end ≡ o.start + 1
  short : o.long ≡ false
  single : c.end ≡ c.start + 1
  starts : q ≤ o.start
  onwards : o.end ≤ c.start
  ends : c.end ≤ length s

found : (s : List ℕ) (hs : List Placed) (o : Placed) (ts : List Placed) (c : Placed) (zs : List Placed) →
    (stream s 0).toks ≡ hs ++ (o ∷ (ts ++ (c ∷ zs))) → o.kind ≡ 2 → c.kind ≡ 3 → Found s hs o ts c zs
found s hs o ts c zs e ok ck =
    let (q, g, h, i, j) = stream-goes s hs (o ∷ (ts ++ (c ∷ zs))) 0 (omega arith) e in
    let (q1, (g1, b1, n1), h1, i1, j1) = stream-goes s (o ∷ []) (ts ++ (c ∷ zs)) q h i in
    let h1' : o.end ≤ length s = omega arith in
    let i1' : (stream s o.end).toks ≡ ts ++ (c ∷ zs) = rw (← n1) at i1 in
    let j1' : (stream s o.end).number ≡ (stream s q).number = rw (← n1) at j1 in
    let (q2, g2, h2, i2, j2) = stream-goes s ts (c ∷ zs) o.end h1' i1' in
    let (q3, (g3, b3, n3), h3, i3, j3) = stream-goes s (c ∷ []) zs q2 h2 i2 in
    let u = token_starts s q _ _ _ _ g1 in
    let v = token_starts s q2 _ _ _ _ g3 in
    let (u0, u1, u2) = u.mark (omega arith) in
    let (v0, v1, v2) = v.mark (omega arith) in
    let (_, l2, _, _) = goes-stream s ts o.end q2 h1' g2 in
    let (l3, _, _) = onwards s q2 _ _ _ _ h2 g3 in
    let (l4, _, _) = onwards s q _ _ _ _ h g1 in
    record {
      q = q;
      before = g;
      opens = g1;
      bytes = b1;
      inside = goes-append s ts (c ∷ []) o.end q2 c.end g2 (g3, b3, refl);
      behind = rw (← n3) at i3;
      number = (rw (← n3) at j3) ∙ (j2 ∙ (j1' ∙ j));
      first = opened _ (u0 ∙ ok);
      last = closed _ (v0 ∙ ck);
      one = u1;
      short = u2;
      single = v1;
      starts = l4;
      onwards = omega arith;
      ends = omega arith;
    }

-- a text as what stands before the brackets, the opening one, what stands between, the closing one, and what stands behind
around : (s : List ℕ) (b e : ℕ) → b + 1 ≤ e → e < length s → get_or s b 0 ≡ 40 → get_or s e 0 ≡ 41 →
    s ≡ take b s ++ (40 ∷ (part (b + 1) e s ++ 41 ∷ drop (e + 1) s))
around s b e h k f g =
    let x : b + 1 ≡ suc b = omega arith in
    rw x (split_at s b 0 (omega arith) ∙ (ap (λ (c : ℕ). take b s ++ c ∷ drop (suc b) s) f ∙ ap (λ (l : List ℕ). take b s ++ 40 ∷ l) rest))
  where
    n : ℕ
    n = e - suc b

    there : suc b + n ≡ e
    there = omega arith

    beyond : suc b + suc n ≡ e + 1
    beyond = omega arith

    rest : drop (suc b) s ≡ take n (drop (suc b) s) ++ 41 ∷ drop (e + 1) s
    rest =
        split_at (drop (suc b) s) n 0 (omega (arith, length-drop (suc b) s))
        ∙ (ap (λ (c : ℕ). take n (drop (suc b) s) ++ c ∷ drop (suc n) (drop (suc b) s)) (get_or-drop (suc b) s n 0 ∙ (ap (λ (j : ℕ). get_or s j 0) there ∙ g))
        ∙ ap (λ (l : List ℕ). take n (drop (suc b) s) ++ 41 ∷ l) (drop-drop (suc n) (suc b) s ∙ ap (λ (j : ℕ). drop j s) beyond))

between : (s : List ℕ) (b e : ℕ) → b + 1 ≤ e → e < length s → get_or s b 0 ≡ 40 → get_or s e 0 ≡ 41 →
    part b (e + 1) s ≡ 40 ∷ (part (b + 1) e s ++ 41 ∷ [])
between s b e h k f g =
    ap (λ (t : List ℕ). part b (e + 1) t) (around s b e h k f g)
    ∙ (ap2 (sym sizes) (sym ends)
    ∙ (part-behind (take b s) (40 ∷ (m ++ 41 ∷ i)) 0 (length w)
    ∙ (ap (λ (t : List ℕ). part 0 (length w) (40 ∷ t)) (sym (append_snoc m 41 i)) ∙ (part-front w i 0 (length w) (omega arith) (le_refl (length w)) ∙ (ap (λ (n : ℕ). take n w) zero-off ∙ take-length w)))))
  where
    m : List ℕ
    m = part (b + 1) e s

    i : List ℕ
    i = drop (e + 1) s

    w : List ℕ
    w = 40 ∷ (m ++ 41 ∷ [])

    zero-off : length w - 0 ≡ length w
    zero-off = omega arith

    sizes : length (take b s) + 0 ≡ b
    sizes = add-zero _ ∙ length-take-le b s (omega arith)

    ends : length (take b s) + length w ≡ e + 1
    ends =
        let x = length-take-le b s (omega arith) in
        let y = length-append m (41 ∷ []) in
        let z = length-take-le (e - (b + 1)) (drop (b + 1) s) (omega (arith, length-drop (b + 1) s)) in
        omega arith

    ap2 : {p q p' q' : ℕ} → p ≡ p' → q ≡ q' → part p q (take b s ++ (40 ∷ (m ++ 41 ∷ i))) ≡ part p' q' (take b s ++ (40 ∷ (m ++ 41 ∷ i)))
    ap2 u v = rw (u, v)

at_places : (hs ts zs : List Placed) (a a' b b' d d' e e' : ℕ) → a ≡ a' → b ≡ b' → d ≡ d' → e ≡ e' →
    hs ++ (map (move_tok a b) ts ++ map (move_tok d e) zs) ≡ hs ++ (map (move_tok a' b') ts ++ map (move_tok d' e') zs)
at_places hs ts zs a a' b b' d d' e e' p q r s = rw (p, q, r, s)

by-found : (x f z xi m i A : List ℕ) (hs ts zs hs' ts' zs' : List Placed) (o c o' c' : Placed) → Found (x ++ 40 ∷ f) hs o ts c zs →
    Found (xi ++ (40 ∷ (m ++ 41 ∷ i))) hs' o' ts' c' zs' → o'.kind ≡ 2 → c'.kind ≡ 3 → A ++ z ≡ x ++ 40 ∷ f → length x ≡ o.start →
    length xi ≡ o'.start → length A ≡ c.end → length m + 2 ≡ c'.end - o'.start →
    ((stream (x ++ (40 ∷ (m ++ 41 ∷ z))) 0).toks
    ≡ hs ++ (map (move_tok o'.start o.start) (o' ∷ (ts' ++ c' ∷ [])) ++ map (move_tok c.end (o.start + (c'.end - o'.start))) zs))
    × ((stream (x ++ (40 ∷ (m ++ 41 ∷ z))) 0).number ≡ (stream (x ++ 40 ∷ f) 0).number)
by-found x f z xi m i A hs ts zs hs' ts' zs' o c o' c' F I ok ck cut lx li la lm =
    let n = I.one in
    let n' = I.single in
    let n'' = I.onwards in
    let b = F.starts in
    let e1 : o'.end ≡ length xi + 1 = omega arith in
    let h1 : (stream (x ++ 40 ∷ f) (length A)).toks ≡ zs = rw la F.behind in
    let h2 : token_at (x ++ 40 ∷ f) F.q ≡ Got o.kind (length x) o.end o.long = rw lx F.opens in
    let h3 : o'.bytes ≡ part (length xi) (length xi + 1) (xi ++ (40 ∷ (m ++ 41 ∷ i))) = rw (← e1, li) I.bytes in
    let h4 : Goes (xi ++ (40 ∷ (m ++ 41 ∷ i))) (length xi + 1) (ts' ++ c' ∷ []) c'.end = rw (← e1) I.inside in
    let (u, v) = put-together x f z xi m i A hs ts' zs o' c' F.q o.kind o.end c'.end o.long cut h1
    F.before (omega arith) h2 ok (sym li) e1 I.short h3 h4 ck (omega arith) in
    (u ∙ at_places hs (o' ∷ (ts' ++ c' ∷ [])) zs _ _ _ _ _ _ _ _ li lx la (rw (lx, lm)), v ∙ (ap (λ (p : ℕ). (stream (x ++ 40 ∷ f) p).number) la ∙ F.number))

-- THE TOKENS OF THE NEW TEXT. A pair of brackets among the tokens of each text: in place of the first text's part from the one to the other
-- there stands that of the second.
pub tokens_swapped : (s t : List ℕ) (hs ts zs hs' ts' zs' : List Placed) (o c o' c' : Placed) →
    (stream s 0).toks ≡ hs ++ (o ∷ (ts ++ (c ∷ zs))) → o.kind ≡ 2 → c.kind ≡ 3 →
    (stream t 0).toks ≡ hs' ++ (o' ∷ (ts' ++ (c' ∷ zs'))) → o'.kind ≡ 2 → c'.kind ≡ 3 →
    ((stream (swapped s o.start c.end t o'.start c'.end) 0).toks
    ≡ hs ++ (map (move_tok o'.start o.start) (o' ∷ (ts' ++ c' ∷ [])) ++ map (move_tok c.end (o.start + (c'.end - o'.start))) zs))
    × ((stream (swapped s o.start c.end t o'.start c'.end) 0).number ≡ (stream s 0).number)
tokens_swapped s t hs ts zs hs' ts' zs' o c o' c' e ok ck e' ok' ck' =
    let F = found s hs o ts c zs e ok ck in
    let I = found t hs' o' ts' c' zs' e' ok' ck' in
    by F I
  where
    x : List ℕ
    x = take o.start s

    xi : List ℕ
    xi = take o'.start t

    m : List ℕ
    m = part (o'.start + 1) c'.start t

    i : List ℕ
    i = drop (c'.start + 1) t

    f : List ℕ
    f = drop (suc o.start) s

    z : List ℕ
    z = drop c.end s

    Goal : List ℕ → List ℕ → Type 0
    Goal n s =
        ((stream n 0).toks
        ≡ hs ++ (map (move_tok o'.start o.start) (o' ∷ (ts' ++ c' ∷ [])) ++ map (move_tok c.end (o.start + (c'.end - o'.start))) zs))
        × ((stream n 0).number ≡ (stream s 0).number)

    by : Found s hs o ts c zs → Found t hs' o' ts' c' zs' → Goal (swapped s o.start c.end t o'.start c'.end) s
    by F I =
        let a1 = F.ends in
        let a2 = F.onwards in
        let a3 = F.one in
        let b1 = I.ends in
        let b2 = I.onwards in
        let b3 = I.one in
        let b4 = I.single in
        let p : s ≡ x ++ 40 ∷ f = split_at s o.start 0 (omega arith) ∙ ap (λ (c : ℕ). x ++ c ∷ f) F.first in
        let q : t ≡ xi ++ (40 ∷ (m ++ 41 ∷ i)) = around t o'.start c'.start (omega arith) (omega arith) I.first I.last in
        let r : part o'.start c'.end t ≡ 40 ∷ (m ++ 41 ∷ []) =
        ap (λ (n : ℕ). part o'.start n t) b4 ∙ between t o'.start c'.start (omega arith) (omega arith) I.first I.last in
        let n : swapped s o.start c.end t o'.start c'.end ≡ x ++ (40 ∷ (m ++ 41 ∷ z)) =
        ap (λ (y : List ℕ). x ++ (y ++ z)) r ∙ ap (λ (y : List ℕ). x ++ 40 ∷ y) (append_snoc m 41 z) in
        let k = by-found x f z xi m i (take c.end s) hs ts zs hs' ts' zs' o c o' c' (subst (λ (y : List ℕ). Found y hs o ts c zs) p F)
        (subst (λ (y : List ℕ). Found y hs' o' ts' c' zs') q I) ok' ck' (take-append-drop c.end s ∙ p) (length-take-le o.start s (omega arith))
        (length-take-le o'.start t (omega arith)) (length-take-le c.end s a1)
        (omega (arith, length-take-le (c'.start - (o'.start + 1)) (drop (o'.start + 1) t) (omega (arith, length-drop (o'.start + 1) t)))) in
        subst (λ (y : List ℕ). Goal y s) (sym n) (subst (λ (y : List ℕ). Goal (x ++ (40 ∷ (m ++ 41 ∷ z))) y) (sym p) k)
