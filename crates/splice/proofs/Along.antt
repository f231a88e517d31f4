-- The tokens of a text from one place to another: they do not see what stands behind a bracket, nor where they stand.
-- Assumes nothing.
use Rattle.std.specs.Prelude.{ℕ, ◌+◌, ◌-◌, ◌≤◌, ◌<◌, ◌≡◌, refl, Bool, false, ◌⊎◌, leb, drop, get_or, Result, Ok, Err}
use Rattle.std.proofs.Common.{eq-or-lt_of_le, le_refl, arith, ◌∙◌, subst, inl, inr, ⊎_elim, length-append, length-drop, leb-false, eqb-true}
use Rattle.std.proofs.Math.Path.{ap, sym}
use Rattle.std.proofs.Math.Bool.{true}
use mathlib.Core.List.{List, [], ◌∷◌, ◌++◌, map, nil≢cons, head-eq_of_cons-eq, tail-eq_of_cons-eq}
use Rattle.std.proofs.Math.Dec.{eqb}
use Rattle.std.proofs.Math.ListN.{length, get_or-append}
use Rattle.std.proofs.Math.Seq.{drop-append-add, get_or-append_seam}
use Rattle.std.proofs.lemmas.List.{drop-append-le, take-append-le}
use Rattle.std.proofs.lemmas.Bool.{lt-leb}
use Rattle.classes.specs.Choice.{pick}
use Rattle.classes.specs.Classes.{class_of}
use Rattle.scanning.specs.declared.Blank.{Blank}
use Rattle.tokenforms.specs.declared.Token.{Token}
use Rattle.tokenforms.specs.declared.Refusal.{Refusal}
use Rattle.tokenforms.specs.Tokens.{Got, Refused}
use Rattle.scanning.specs.Scan.{local_at, stops, stops_st}
use Rattle.scanning.specs.Machines.{word_stop, word_halts, word_goes, text_halts, close_halts, text_goes, blank_stop, blank_halts, blank_goes, outside}
use Rattle.tokenforms.specs.Tokens.{string_of, token_of, token_here, behind, token_at, block_end}
use Rattle.scanning.specs.Machines.{blank_end, blank_at}
use Rattle.tokens.specs.Stream.{Placed, placed, Stream, part, stream, stream_turn, onward, onwards}
use Rattle.tokenforms.specs.Local.{Alike, Inside, alike_same}
use Rattle.tokens.specs.Shift.{moved, moved_got, moved-stop, token_shift}

-- from the place p on the text's tokens are these, and the last of them ends at q
abbrev pub Goes : List ℕ → ℕ → List Placed → ℕ → Type 0
Goes s p [] q = p ≡ q
Goes s p (t ∷ ts) q =
    (token_at s p ≡ Got t.kind t.start t.end t.long) × (t.bytes ≡ part t.start t.end s) × Goes s t.end ts q

abbrev of_token : {A : Type 0} → (Token → A) → A → Result Token Refusal → A
of_token f z (Ok tok) = f tok
of_token f z (Err why) = z

got_inj : {k k' b b' e e' : ℕ} {l l' : Bool} → Got k b e l ≡ Got k' b' e' l' → (k ≡ k') × (b ≡ b') × (e ≡ e') × (l ≡ l')
got_inj h = (ap (of_token (λ t. t.kind) 0) h, ap (of_token (λ t. t.start) 0) h, ap (of_token (λ t. t.end) 0) h, ap (of_token (λ t. t.long) false) h)

stop≢got : {n q k b e : ℕ} {l : Bool} → Refused n q ≡ Got k b e l → ⊥
stop≢got h = let z : ◌≡◌ {A = ℕ} 0 1 = cc in omega arith

-- the tokens of a text, cut anywhere
abbrev Cut : List ℕ → List Placed → List Placed → ℕ → Type 0
Cut s ts us p = (q : ℕ) × Goes s p ts q × (q ≤ length s) × ((stream s q).toks ≡ us) × ((stream s q).number ≡ (stream s p).number)

pub stream-goes : (s : List ℕ) (ts us : List Placed) (p : ℕ) → p ≤ length s → (stream s p).toks ≡ ts ++ us → Cut s ts us p
stream-goes s [] us p h e = (p, refl, h, e, refl)
stream-goes s (t ∷ ts) us p h e = by (token_at s p) refl (stream_turn s p h) (stream-goes s ts us)
  where
    by : (x : Result Token Refusal) → token_at s p ≡ x → stream s p ≡ onward s x (stream s) →
        ((f : ℕ) → f ≤ length s → (stream s f).toks ≡ ts ++ us → Cut s ts us f) → Cut s (t ∷ ts) us p
    by (Ok tok) i j ih =
        let z : placed s tok.kind tok.start tok.end tok.long ∷ (stream s tok.end).toks ≡ t ∷ (ts ++ us) = sym (ap (λ (r : Stream). r.toks) j) ∙ e in
        let y : placed s tok.kind tok.start tok.end tok.long ≡ t = head-eq_of_cons-eq z in
        let (q, g, m, n, o) = ih tok.end (onwards s p tok.kind tok.start tok.end tok.long h i).2 (tail-eq_of_cons-eq z) in
        (q, subst (λ (x : Placed). Goes s p (x ∷ ts) q) y (i, refl, g), m, n, o ∙ sym (ap (λ (r : Stream). r.number) j))
    by (Err why) i j ih = absurd (nil≢cons (sym (ap (λ (r : Stream). r.toks) j) ∙ e))

-- and put together again
pub goes-stream : (s : List ℕ) (ts : List Placed) (p q : ℕ) → p ≤ length s → Goes s p ts q →
    (q ≤ length s) × (p ≤ q) × ((stream s p).toks ≡ ts ++ (stream s q).toks) × ((stream s p).number ≡ (stream s q).number)
goes-stream s [] p q h e = rw (← e) (h, le_refl p, refl, refl)
goes-stream s (t ∷ ts) p q h (i, j, g) =
    let (x, y, z) = onwards s p _ _ _ _ h i in
    let (m, n, o, u) = goes-stream s ts t.end q z g in
    let w : stream s p ≡ onward s (Got t.kind t.start t.end t.long) (stream s) = stream_turn s p h ∙ ap (λ v. onward s v (stream s)) i in
    let v : placed s t.kind t.start t.end t.long ≡ t =
    ap (λ (b : List ℕ). record { kind = t.kind; start = t.start; end = t.end; long = t.long; bytes = b }) (sym j) in (
      m,
      omega arith,
      ap (λ (r : Stream). r.toks) w ∙ (ap (λ (y : Placed). y ∷ (stream s t.end).toks) v ∙ ap (λ (y : List Placed). t ∷ y) o),
      ap (λ (r : Stream). r.number) w ∙ u,
    )

-- one list of tokens after another
pub goes-append : (s : List ℕ) (ts us : List Placed) (p q r : ℕ) → Goes s p ts q → Goes s q us r → Goes s p (ts ++ us) r
goes-append s [] us p q r e g = rw e g
goes-append s (t ∷ ts) us p q r (i, j, f) g = (i, j, goes-append s ts us t.end q r f g)

pub goes-split : (s : List ℕ) (ts us : List Placed) (p r : ℕ) → Goes s p (ts ++ us) r → (q : ℕ) × Goes s p ts q × Goes s q us r
goes-split s [] us p r g = (p, refl, g)
goes-split s (t ∷ ts) us p r (i, j, f) = let (q, g, h) = goes-split s ts us t.end r f in (q, (i, j, g), h)

-- WHAT A TOKEN IS, by the byte where it starts
pick_is : {P : Type 0} (v : Bool) (x y z : Result Token Refusal) → (v ≡ true → x ≡ z → P) → (v ≡ false → y ≡ z → P) → pick v x y ≡ z → P
pick_is true x y z f g e = f refl e
pick_is false x y z f g e = g refl e

-- a bracket's byte: no scanner looks behind it
abbrev pub Bracket : ℕ → Type 0
Bracket o = (class_of o ≡ 2) ⊎ (class_of o ≡ 3)

pub record Starts (s : List ℕ) (p k b e : ℕ) (l : Bool) : Type 0 where
  pub blanks : b ≡ blank_end s p
  pub outside : eqb (blank_at s p).mode 0 ≡ true
  pub inside : b < length s
  pub mark : k ≤ 5 → (class_of (get_or s b 0) ≡ k) × (e ≡ b + 1) × (l ≡ false)

string_kind : (s : List ℕ) (i j f k b e : ℕ) (l : Bool) → string_of s i j f ≡ Got k b e l → (b ≡ i) × (k ≡ 6)
unfolding string_of
string_kind s i j f k b e l h =
    pick_is (leb (length s) f) _ _ _ (λ t g. absurd (stop≢got g)) (λ t g. let z = got_inj g in (sym z.1, sym z.0)) h

token_is : (s : List ℕ) (i c w k b e : ℕ) (l : Bool) → token_of s i c w ≡ Got k b e l →
    (b ≡ i) × (i < length s) × (k ≤ 5 → (c ≡ k) × (e ≡ i + 1) × (l ≡ false))
unfolding token_of
token_is s i c w k b e l h =
    pick_is (leb (length s) i) _ _ _ (λ t g. absurd (stop≢got g))
    (λ t g. let u = leb-false (length s) i t in
    pick_is (eqb c 0) _ _ _ (λ t g. absurd (stop≢got g))
    (λ t g. pick_is (leb c 5) _ _ _ (λ t g. let z = got_inj g in (sym z.1, u, λ y. (z.0, sym z.2, sym z.3)))
    (λ t g. pick_is (eqb c 6) _ _ _ (λ t g. let z = string_kind s i _ _ k b e l g in (z.0, u, λ y. absurd (omega (arith, z.1))))
    (λ v g. pick_is (eqb c 12) _ _ _ (λ t g. let z = got_inj g in (sym z.1, u, λ y. absurd (omega (arith, eqb-true c 12 t, z.0))))
    (λ v g. pick_is (leb w i) _ _ _ (λ t g. absurd (stop≢got g)) (λ t g. let z = got_inj g in (sym z.1, u, λ y. absurd (omega (arith, z.0)))) g) g) g) g) g) h

behind-is : (s : List ℕ) (i : ℕ) (n : Blank) (k b e : ℕ) (l : Bool) → behind s i n ≡ Got k b e l →
    (eqb n.mode 0 ≡ true) × (token_here s i ≡ Got k b e l)
unfolding behind
behind-is s i n k b e l h =
    pick_is (eqb n.mode 0) _ _ _ (λ t g. (t, g))
    (λ t g. absurd (pick_is (eqb n.mode 1) _ _ _ (λ t g. pick_is (leb (length s) i) _ _ _ (λ t g. stop≢got g) (λ t g. stop≢got g) g)
    (λ t g. pick_is (leb (length s) (block_end s i)) _ _ _ (λ t g. stop≢got g) (λ t g. stop≢got g) g) g)) h

pub token_starts : (s : List ℕ) (p k b e : ℕ) (l : Bool) → token_at s p ≡ Got k b e l → Starts s p k b e l
unfolding token_at
token_starts s p k b e l h =
    let (t, g) = behind-is s (blank_end s p) (blank_at s p) k b e l h in
    let (x, y, z) = token_is s (blank_end s p) _ _ k b e l g in
    record {
      blanks = x;
      outside = t;
      inside = rw x y;
      mark = rw x z;
    }

-- an illegal byte behind a token is no token
illegal_here : (s : List ℕ) (p : ℕ) → p < length s → class_of (get_or s p 0) ≡ 0 → token_at s p ≡ Refused 2 p
unfolding token_at behind token_of blank_stop
illegal_here s p h e =
    let z : blank_halts outside (get_or s p 0) (get_or s (p + 1) 0) ≡ true = rw e in
    rw (stops blank_halts blank_goes s outside p h z, stops_st blank_halts blank_goes s outside p h z, lt-leb (length s) p h, e)

legal : (s : List ℕ) (p k b e : ℕ) (l : Bool) → p ≤ length s → token_at s p ≡ Got k b e l → class_of (get_or s p 0) ≡ 0 → ⊥
legal s p k b e l h i c =
    let (x, y, z) = onwards s p k b e l h i in
    stop≢got (sym (illegal_here s p (omega arith) c) ∙ i)

-- THE SEAM: texts that agree up to a bracket
word_blind : (o : ℕ) → Bracket o → (q d e : ℕ) → word_halts q o d ≡ word_halts q o e
unfolding word_stop
word_blind o (inl h) q d e = rw h
word_blind o (inr h) q d e = rw h

blank_blind : (o : ℕ) → Bracket o → (q : Blank) (d e : ℕ) → blank_halts q o d ≡ blank_halts q o e
unfolding blank_stop
blank_blind o (inl h) q d e = rw h
blank_blind o (inr h) q d e = rw h

pub part-front : (a z : List ℕ) (b e : ℕ) → b ≤ e → e ≤ length a → part b e (a ++ z) ≡ part b e a
part-front a z b e h k =
    let i : b ≤ length a = omega arith in
    let j : e - b ≤ length (drop b a) = omega (arith, length-drop b a) in
    rw (drop-append-le b a z i, take-append-le (e - b) (drop b a) z j)

mark-here : (s : List ℕ) (i o : ℕ) → i < length s → get_or s i 0 ≡ o → Bracket o → token_here s i ≡ Got (class_of o) i (i + 1) false
unfolding token_of
mark-here s i o h e (inl m) = rw (lt-leb (length s) i h, e, m)
mark-here s i o h e (inr m) = rw (lt-leb (length s) i h, e, m)

module _ (a x y : List ℕ) (o : ℕ) (m : Bracket o) where
  abbrev Old : List ℕ
  Old = a ++ o ∷ x

  abbrev New : List ℕ
  New = a ++ o ∷ y

  longer : (length a < length Old) × (length a < length New)
  longer = (omega (arith, length-append a (o ∷ x)), omega (arith, length-append a (o ∷ y)))

  same_byte : (j : ℕ) → j ≤ length a → get_or New j 0 ≡ get_or Old j 0
  same_byte j h =
      ⊎_elim
      (λ e. ap (λ k. get_or New k 0) e ∙ (get_or-append_seam a o y 0 ∙ (sym (get_or-append_seam a o x 0) ∙ sym (ap (λ k. get_or Old k 0) e))))
      (λ l. get_or-append a (o ∷ y) 0 j l ∙ sym (get_or-append a (o ∷ x) 0 j l)) (eq-or-lt_of_le h)

  alike : Alike Old New (length a)
  alike =
      record {
        more = longer;
        get = same_byte;
        word = λ j h n. ap (λ k. j + k) (local_at word_halts word_goes o (word_blind o m) 0 a x y j h n).0;
        spoil = λ j h n. ap (λ k. j + k) (local_at text_halts text_goes o (λ q d e. refl) 0 a x y j h n).0;
        close = λ j h n. ap (λ k. j + k) (local_at close_halts text_goes o (λ q d e. refl) 0 a x y j h n).0;
        blank = λ j h n. let z = local_at blank_halts blank_goes o (blank_blind o m) outside a x y j h n in (ap (λ k. j + k) z.0, z.1);
      }

  next_got : (ts : List Placed) (p q k b e : ℕ) (l : Bool) → Goes Old p ts q → token_at Old q ≡ Got k b e l →
      (k' : ℕ) × (b' : ℕ) × (e' : ℕ) × (l' : Bool) × (token_at Old p ≡ Got k' b' e' l')
  next_got [] p q k b e l g h = (k, b, e, l, ap (token_at Old) g ∙ h)
  next_got (t ∷ ts) p q k b e l (i, j, g) h = (t.kind, t.start, t.end, t.long, i)

  -- tokens that end before it are the same, if one more stands behind them
  pub goes_seam : (ts : List Placed) (p q k b e : ℕ) (l : Bool) → p ≤ length a → q ≤ length a → token_at Old q ≡ Got k b e l →
      Goes Old p ts q → Goes New p ts q
  goes_seam [] p q k b e l h n f g = g
  goes_seam (t ∷ ts) p q k b e l h n f (i, j, g) =
      let (c, d) = longer in
      let (u, v, w) = onwards Old p _ _ _ _ (omega arith) i in
      let (r, z, _, _) = goes-stream Old ts t.end q w g in
      let (k', b', e', l', o') = next_got ts t.end q k b e l g f in
      let y : Inside Old (length a) (token_at Old p) = rw i (omega arith, legal Old t.end k' b' e' l' w o') in (
        alike_same Old New (length a) alike p h y ∙ i,
        j ∙ (part-front a (o ∷ x) t.start t.end (omega arith) (omega arith) ∙ sym (part-front a (o ∷ _) t.start t.end (omega arith) (omega arith))),
        goes_seam ts t.end q k b e l (omega arith) n f g,
      )

  -- and so is the bracket itself
  pub last_seam : (p k e : ℕ) (l : Bool) → p ≤ length a → token_at Old p ≡ Got k (length a) e l → token_at New p ≡ Got (class_of o) (length a) (length a + 1) false
  unfolding token_at behind
  last_seam p k e l h i =
      let t = token_starts Old p k (length a) e l i in
      let f = t.blanks in
      let (u, v) = alike.blank p h (omega arith) in
      let w : blank_end New p ≡ length a = u ∙ sym f in
      let z : eqb (blank_at New p).mode 0 ≡ true = ap (λ (n : Blank). eqb n.mode 0) v ∙ t.outside in
      rw (w, z) (mark-here New (length a) o longer.1 (get_or-append_seam a o y 0) m)

-- THE SAME BYTES AT ANOTHER PLACE: behind c in place of a
abbrev pub move_tok : ℕ → ℕ → Placed → Placed
move_tok a c t = record { kind = t.kind; start = c + (t.start - a); end = c + (t.end - a); long = t.long; bytes = t.bytes }

pub part-behind : (c w : List ℕ) (b e : ℕ) → part (length c + b) (length c + e) (c ++ w) ≡ part b e w
part-behind c w b e =
    let z : length c + e - (length c + b) ≡ e - b = omega arith in
    rw (z, drop-append-add c w b)

turn_at : (c w : List ℕ) (i : ℕ) → i ≤ length w →
    stream (c ++ w) (length c + i) ≡ onward (c ++ w) (moved (length c) (token_at w i)) (stream (c ++ w))
turn_at c w i h =
    stream_turn (c ++ w) (length c + i) (omega (arith, length-append c w)) ∙ ap (λ (x : Result Token Refusal). onward (c ++ w) x (stream (c ++ w))) (token_shift c w i)

module _ (a c w : List ℕ) where
  abbrev mv : Placed → Placed
  mv = move_tok (length a) (length c)

  moved-part : (b e b' e' : ℕ) → b ≡ length a + b' → e ≡ length a + e' →
      part b e (a ++ w) ≡ part (length c + b') (length c + e') (c ++ w)
  moved-part b e b' e' h k = rw (h, k) (part-behind a w b' e' ∙ sym (part-behind c w b' e'))

  pub goes-move : (ts : List Placed) (i q : ℕ) → Goes (a ++ w) (length a + i) ts q →
      Goes (c ++ w) (length c + i) (map mv ts) (length c + (q - length a))
  goes-move [] i q g = omega arith
  goes-move (t ∷ ts) i q (u, v, g) = by (token_at w i) (token_shift a w i) (token_shift c w i) (goes-move ts)
    where
      by : (x : Result Token Refusal) → token_at (a ++ w) (length a + i) ≡ moved (length a) x → token_at (c ++ w) (length c + i) ≡ moved (length c) x →
          ((j q : ℕ) → Goes (a ++ w) (length a + j) ts q → Goes (c ++ w) (length c + j) (map mv ts) (length c + (q - length a))) →
          Goes (c ++ w) (length c + i) (map mv (t ∷ ts)) (length c + (q - length a))
      by (Ok tok) f h ih =
          let (x, y, z, o) = got_inj (sym u ∙ (f ∙ moved_got (length a) tok.kind tok.start tok.end tok.long)) in
          let y' : t.start - length a ≡ tok.start = omega arith in
          let z' : t.end - length a ≡ tok.end = omega arith in
          let r = ih tok.end q (subst (λ (n : ℕ). Goes (a ++ w) n ts q) z g) in
          rw (x, o, y', z') (h ∙ moved_got (length c) tok.kind tok.start tok.end tok.long, v ∙ moved-part t.start t.end tok.start tok.end y z, r)
      by (Err why) f h ih = absurd (stop≢got (sym (moved-stop (length a) why.number why.place) ∙ (sym f ∙ u)))

  same_tok : (k b f : ℕ) (l : Bool) → placed (c ++ w) k (length c + b) (length c + f) l ≡ mv (placed (a ++ w) k (length a + b) (length a + f) l)
  same_tok k b f l =
      let x : length a + b - length a ≡ b = omega arith in
      let y : length a + f - length a ≡ f = omega arith in
      rw (moved-part (length a + b) (length a + f) b f refl refl, x, y)

  abbrev Same : List Placed → ℕ → Type 0
  Same ts i =
      ((stream (c ++ w) (length c + i)).toks ≡ map mv ts) × ((stream (c ++ w) (length c + i)).number ≡ (stream (a ++ w) (length a + i)).number)

  pub stream-move : (ts : List Placed) (i : ℕ) → i ≤ length w → (stream (a ++ w) (length a + i)).toks ≡ ts → Same ts i
  stream-move [] i h e = by (token_at w i) (turn_at a w i h) (turn_at c w i h)
    where
      by : (x : Result Token Refusal) → stream (a ++ w) (length a + i) ≡ onward (a ++ w) (moved (length a) x) (stream (a ++ w)) →
          stream (c ++ w) (length c + i) ≡ onward (c ++ w) (moved (length c) x) (stream (c ++ w)) → Same [] i
      by (Ok tok) u v =
          absurd (nil≢cons (sym e ∙ (ap (λ (r : Stream). r.toks) u ∙ ap (λ (x : Result Token Refusal). (onward (a ++ w) x (stream (a ++ w))).toks) (moved_got (length a) tok.kind tok.start tok.end tok.long))))
      by (Err why) u v =
          let u' = rw (moved-stop (length a) why.number why.place) at u in
          let v' = rw (moved-stop (length c) why.number why.place) at v in
          (ap (λ (r : Stream). r.toks) v', ap (λ (r : Stream). r.number) v' ∙ sym (ap (λ (r : Stream). r.number) u'))
  stream-move (t ∷ ts) i h e = by (token_at w i) refl (turn_at a w i h) (turn_at c w i h) (stream-move ts)
    where
      by : (x : Result Token Refusal) → token_at w i ≡ x → stream (a ++ w) (length a + i) ≡ onward (a ++ w) (moved (length a) x) (stream (a ++ w)) →
          stream (c ++ w) (length c + i) ≡ onward (c ++ w) (moved (length c) x) (stream (c ++ w)) →
          ((j : ℕ) → j ≤ length w → (stream (a ++ w) (length a + j)).toks ≡ ts → Same ts j) → Same (t ∷ ts) i
      by (Ok tok) g u v ih =
          let u' = rw (moved_got (length a) tok.kind tok.start tok.end tok.long) at u in
          let v' = rw (moved_got (length c) tok.kind tok.start tok.end tok.long) at v in
          let z : placed (a ++ w) tok.kind (length a + tok.start) (length a + tok.end) tok.long ∷ (stream (a ++ w) (length a + tok.end)).toks ≡ t ∷ ts =
          sym (ap (λ (r : Stream). r.toks) u') ∙ e in
          let (m, n) = ih tok.end (onwards w i tok.kind tok.start tok.end tok.long h g).2 (tail-eq_of_cons-eq z) in (
            ap (λ (r : Stream). r.toks) v' ∙ (ap (λ (r : List Placed). placed (c ++ w) tok.kind (length c + tok.start) (length c + tok.end) tok.long ∷ r) m
                ∙ ap (λ (x : Placed). x ∷ map mv ts) (same_tok tok.kind tok.start tok.end tok.long ∙ ap mv (head-eq_of_cons-eq z))),
            ap (λ (r : Stream). r.number) v' ∙ (n ∙ sym (ap (λ (r : Stream). r.number) u')),
          )
      by (Err why) g u v ih =
          absurd (nil≢cons (ap (λ (x : Result Token Refusal). (onward (a ++ w) x (stream (a ++ w))).toks) (sym (moved-stop (length a) why.number why.place)) ∙ (sym (ap (λ (r : Stream). r.toks) u) ∙ e)))
