-- Refusal 2 by bytes: every byte before the end of the tokens is legal, and where they end with 2 an illegal byte stands, or a backslash
-- without a byte 0x21 to 0x7E after it.
-- Assumes nothing.
use Rattle.std.specs.Prelude.{◌≡◌, Bool, not, ◌⊎◌, leb, ltb, drop, get_or, Result, Ok, Err}
use Rattle.std.proofs.Math.Path.{refl}
use Rattle.std.proofs.Common.{ap, sym, subst, ◌∙◌, ⊎_elim, not-suc-le-zero, le_of_suc-le-suc, arith, get_or-drop}
use Rattle.std.proofs.Math.Bool.{true, false, true≢false}
use mathlib.Core.List.{List, [], ◌∷◌}
use Rattle.std.proofs.Math.Logic.{inl, inr}
use Prim.Native.Nat.{ℕ, zero, suc, ◌+◌, ◌-◌, ◌≤◌, ◌<◌, zero-le}
use Rattle.std.proofs.Math.Dec.{eqb}
use Rattle.std.proofs.Math.ListN.{length, length-drop}
use borrow.Author.Tests.{leb-true, leb-false, le-leb, eqb-true, eqb-false, ltb-true, ltb-false, not-true, not-false}
use Rattle.classes.specs.Choice.{pick, and, within}
use Rattle.classes.specs.Classes.{class_of}
use Rattle.classes.specs.ClassLaws.{class_most, printable_legal}
use Rattle.scanning.specs.Scan.{scan_len, scan_st, turn, stopped}
use Rattle.scanning.specs.Machines.{
  commences,
  word_stop,
  word_next,
  word_halts,
  word_goes,
  word_end,
  text_stop,
  close_stop,
  text_halts,
  close_halts,
  text_goes,
  blank_stop,
  blank_halts,
  blank_goes,
  outside,
  mode_next,
}
use Rattle.tokenforms.specs.Tokens.{string_of, token_of, behind, token_at, block_end, closing, spoilt}
use Rattle.scanning.specs.Machines.{blank_end, blank_at}
use Rattle.tokenforms.specs.Local.{spoilt_le}
use Rattle.tokens.specs.Stream.{Stream, stream, stream_turn, onward, onwards}
use Rattle.laws.specs.Stops.{since_within, ends}
use Rattle.scanning.specs.declared.Blank.{Blank}
use Rattle.tokenforms.specs.declared.Token.{Token}
use Rattle.tokenforms.specs.declared.Refusal.{Refusal}
use Rattle.tokenforms.specs.Tokens.{Got, Refused}

-- 'Legal bytes are tab, LF, CR and 0x20 to 0x7E': the class of the others is 0
abbrev pub Legal : ℕ → Type 0
Legal c = class_of c ≡ 0 → ⊥

-- 'a backslash without a byte 0x21 to 0x7E after it'
abbrev pub Bare : List ℕ → ℕ → Type 0
Bare s q = (q < length s) × (class_of (get_or s q 0) ≡ 11) × (within 33 126 (get_or s (q + 1) 0) ≡ false)

-- 'illegal byte'
abbrev pub Illegal : List ℕ → ℕ → Type 0
Illegal s q = (q < length s) × (class_of (get_or s q 0) ≡ 0)

within_on : (c : ℕ) → within 33 126 c ≡ true → within 32 126 c ≡ true
within_on c h = by (leb 33 c) (leb c 126) refl h
  where
    by : (v w : Bool) → leb 33 c ≡ v → and v w ≡ true → and (leb 32 c) w ≡ true
    by true w e h = rw (le-leb 32 c (omega (arith, leb-true 33 c e))) h
    by false w e h = absurd (true≢false (sym h))

-- a byte that may be escaped is legal
escaped_legal : (c : ℕ) → within 33 126 c ≡ true → Legal c
escaped_legal c h = printable_legal c (within_on c h)

-- every byte that a scanner takes is one that does not stop it
module _ {St : Type 0} (stop : St → ℕ → ℕ → Bool) (next : St → ℕ → ℕ → St) (ok : (q : St) (c d : ℕ) → stop q c d ≡ false → Legal c) where
  taken_legal : (q : St) (r : List ℕ) (j : ℕ) → j < scan_len stop next q r → Legal (get_or r j 0)
  unfolding scan_len
  taken_legal q [] j h = absurd (not-suc-le-zero h)
  taken_legal q (c ∷ r) j h = by (stop q c (get_or r 0 0)) refl j h (taken_legal (next q c (get_or r 0 0)) r)
    where
      by : (v : Bool) → stop q c (get_or r 0 0) ≡ v → (j : ℕ) → j < pick v 0 (suc (scan_len stop next (next q c (get_or r 0 0)) r)) →
          ((j : ℕ) → j < scan_len stop next (next q c (get_or r 0 0)) r → Legal (get_or r j 0)) → Legal (get_or (c ∷ r) j 0)
      by true e j h ih = absurd (not-suc-le-zero h)
      by false e zero h ih = ok q c (get_or r 0 0) e
      by false e (suc j) h ih = ih j (le_of_suc-le-suc h)

  -- the same from a place of a text on
  pub taken-from : (s : List ℕ) (p : ℕ) (q : St) (j : ℕ) → p ≤ j → j < p + scan_len stop next q (drop p s) → Legal (get_or s j 0)
  taken-from s p q j h k =
      let e : p + (j - p) ≡ j = omega arith in
      subst (λ (c : ℕ). Legal c) (get_or-drop p s (j - p) 0 ∙ ap (λ (n : ℕ). get_or s n 0) e) (taken_legal q (drop p s) (j - p) (omega arith))

blank_ok : (b : Blank) (c d : ℕ) → blank_halts b c d ≡ false → Legal c
unfolding blank_stop
blank_ok b c d h e = true≢false (rw e at h)

text_ok : (q c d : ℕ) → text_halts q c d ≡ false → Legal c
unfolding text_stop
text_ok q c d h e = true≢false (rw e at h)

-- a word: what a backslash takes into it is legal too
abbrev Escaped : ℕ → ℕ → Type 0
Escaped q c = (q ≤ 3) × (leb 2 q ≡ true → within 33 126 c ≡ true)

word_ok : (q c d : ℕ) → Escaped q c → word_halts q c d ≡ false → Legal c
unfolding word_stop
word_ok q c d (h, i) e z = by (leb 2 q) refl (rw z at e)
  where
    by : (v : Bool) → leb 2 q ≡ v → pick v false true ≡ false → ⊥
    by true f g = escaped_legal c (i f) z
    by false f g = true≢false g

word_on : (q k d : ℕ) → q ≤ 3 → word_stop q k d ≡ false → Escaped (word_next q k) d
unfolding word_stop word_next
word_on q k d h e = by (leb 2 q) refl e
  where
    low : (n : ℕ) → n ≤ 1 → Escaped n d
    low n i = (omega arith, λ f. absurd (omega (arith, leb-true 2 n f)))

    slash : (v : Bool) → eqb k 11 ≡ v → q < 2 →
        pick (eqb k 7) false
        (pick (eqb k 9) false
        (pick (eqb k 10) false (pick (eqb k 8) (commences d) (pick v (not (within 33 126 d)) (pick (eqb k 4) (eqb q 0) true))))) ≡ false →
        Escaped (pick v (q + 2) q) d
    slash true f l e = (omega arith, λ g. not-false (within 33 126 d) (rw (eqb-true k 11 f) at e))
    slash false f l e = low q (omega arith)

    close : (v : Bool) → q < 2 → Escaped (pick (eqb k 11) (q + 2) q) d → Escaped (pick v 0 (pick (eqb k 11) (q + 2) q)) d
    close true l i = low 0 zero-le
    close false l i = i

    enter : (v : Bool) → q < 2 → Escaped (pick (eqb k 10) 0 (pick (eqb k 11) (q + 2) q)) d →
        Escaped (pick v 1 (pick (eqb k 10) 0 (pick (eqb k 11) (q + 2) q))) d
    enter true l i = low 1 (omega arith)
    enter false l i = i

    by : (v : Bool) → leb 2 q ≡ v →
        pick v false (pick (eqb k 7) false
        (pick (eqb k 9) false
        (pick (eqb k 10) false
        (pick (eqb k 8) (commences d) (pick (eqb k 11) (not (within 33 126 d)) (pick (eqb k 4) (eqb q 0) true)))))) ≡ false →
        Escaped (pick v (q - 2) (pick (eqb k 9) 1 (pick (eqb k 10) 0 (pick (eqb k 11) (q + 2) q)))) d
    by true f e = low (q - 2) (omega arith)
    by false f e = let l = leb-false 2 q f in enter (eqb k 9) l (close (eqb k 10) l (slash (eqb k 11) refl l e))

word_legal : (q : ℕ) (r : List ℕ) (j : ℕ) → Escaped q (get_or r 0 0) → j < scan_len word_halts word_goes q r → Legal (get_or r j 0)
unfolding scan_len
word_legal q [] j i h = absurd (not-suc-le-zero h)
word_legal q (c ∷ r) j i h = by (word_halts q c (get_or r 0 0)) refl j h (word_legal (word_goes q c (get_or r 0 0)) r)
  where
    by : (v : Bool) → word_halts q c (get_or r 0 0) ≡ v → (j : ℕ) → j < pick v 0 (suc (scan_len word_halts word_goes (word_goes q c (get_or r 0 0)) r)) →
        ((j : ℕ) → Escaped (word_goes q c (get_or r 0 0)) (get_or r 0 0) → j < scan_len word_halts word_goes (word_goes q c (get_or r 0 0)) r →
        Legal (get_or r j 0)) →
        Legal (get_or (c ∷ r) j 0)
    by true e j h ih = absurd (not-suc-le-zero h)
    by false e zero h ih = word_ok q c (get_or r 0 0) i e
    by false e (suc j) h ih = ih j (word_on q (class_of c) (get_or r 0 0) i.0 e) (le_of_suc-le-suc h)

-- where no byte of a word stands at a byte that is neither illegal nor a token's, it is a bare backslash
backslash : (k d : ℕ) → 5 < k → k ≤ 12 → (k ≡ 6 → ⊥) → (k ≡ 12 → ⊥) → word_stop 0 k d ≡ true → blank_stop 0 k d ≡ true →
    (k ≡ 11) × (within 33 126 d ≡ false)
unfolding word_stop blank_stop
backslash k d l u f g e h = plain (eqb k 7) refl
  where
    last : (k ≡ 7 → ⊥) → (k ≡ 9 → ⊥) → (k ≡ 10 → ⊥) → (k ≡ 8 → ⊥) → (k ≡ 11) × (within 33 126 d ≡ false)
    last a b c i = let z : k ≡ 11 = omega arith in (z, not-true (within 33 126 d) (rw z at e))

    slash : (v : Bool) → eqb k 8 ≡ v → (k ≡ 7 → ⊥) → (k ≡ 9 → ⊥) → (k ≡ 10 → ⊥) → (k ≡ 11) × (within 33 126 d ≡ false)
    slash true p a b c =
        let z = eqb-true k 8 p in
        absurd (true≢false (sym (rw z at e) ∙ not-true (commences d) (rw z at h)))
    slash false p a b c = last a b c (eqb-false k 8 p)

    close : (v : Bool) → eqb k 10 ≡ v → (k ≡ 7 → ⊥) → (k ≡ 9 → ⊥) → (k ≡ 11) × (within 33 126 d ≡ false)
    close true p a b = absurd (true≢false (sym (rw (eqb-true k 10 p) at e)))
    close false p a b = slash (eqb k 8) refl a b (eqb-false k 10 p)

    enter : (v : Bool) → eqb k 9 ≡ v → (k ≡ 7 → ⊥) → (k ≡ 11) × (within 33 126 d ≡ false)
    enter true p a = absurd (true≢false (sym (rw (eqb-true k 9 p) at e)))
    enter false p a = close (eqb k 10) refl a (eqb-false k 9 p)

    plain : (v : Bool) → eqb k 7 ≡ v → (k ≡ 11) × (within 33 126 d ≡ false)
    plain true p = absurd (true≢false (sym (rw (eqb-true k 7 p) at e)))
    plain false p = enter (eqb k 9) refl (eqb-false k 7 p)

-- in a comment, its opening lies behind
opening-behind : (b : Blank) (l : List ℕ) → (eqb b.mode 0 ≡ false → 1 ≤ b.since) →
    eqb (scan_st blank_halts blank_goes b l).mode 0 ≡ false → 1 ≤ (scan_st blank_halts blank_goes b l).since
unfolding scan_st blank_goes
opening-behind b [] h e = h e
opening-behind b (c ∷ l) h e =
    by (blank_halts b c (get_or l 0 0)) e (opening-behind (blank_goes b c (get_or l 0 0)) l (one (eqb (mode_next b.mode (class_of c) c (get_or l 0 0)) 0)))
  where
    by : (v : Bool) → eqb (pick v b (scan_st blank_halts blank_goes (blank_goes b c (get_or l 0 0)) l)).mode 0 ≡ false →
        (eqb (scan_st blank_halts blank_goes (blank_goes b c (get_or l 0 0)) l).mode 0 ≡ false →
        1 ≤ (scan_st blank_halts blank_goes (blank_goes b c (get_or l 0 0)) l).since) →
        1 ≤ (pick v b (scan_st blank_halts blank_goes (blank_goes b c (get_or l 0 0)) l)).since
    by true e ih = h e
    by false e ih = ih e

    one : (v : Bool) → v ≡ false → 1 ≤ pick v 0 (b.since + 1)
    one true e = absurd (true≢false e)
    one false e = omega arith

-- what stands before a token's end, and before and at what is none
abbrev Found : List ℕ → ℕ → Result Token Refusal → Type 0
Found s p (Ok tok) = (j : ℕ) → p ≤ j → j < tok.end → Legal (get_or s j 0)
Found s p (Err why) = ((j : ℕ) → p ≤ j → j < why.place → Legal (get_or s j 0)) × (why.number ≡ 2 → Illegal s why.place ⊎ Bare s why.place) × (why.number ≡ 3 → Legal (get_or s why.place 0))

either : (s : List ℕ) (p : ℕ) (t : Bool) (x y : Result Token Refusal) → (t ≡ true → Found s p x) → (t ≡ false → Found s p y) → Found s p (pick t x y)
either s p true x y f g = f refl
either s p false x y f g = g refl

not-nought : (n : ℕ) → eqb n 0 ≡ false → n ≡ 0 → ⊥
not-nought n e f = eqb-false n 0 e f

-- a string's content up to its first illegal byte, and with its closing quote where there is none
module _ (s : List ℕ) (i : ℕ) where
  content_legal : (j : ℕ) → i ≤ j → j < spoilt s i → Legal (get_or s j 0)
  content_legal j h k = taken-from text_halts text_goes text_ok s i 0 j h k

  quote_legal : closing s i < length s → Legal (get_or s (closing s i) 0)
  unfolding close_stop
  quote_legal h e =
      let n = scan_len close_halts text_goes 0 (drop i s) in
      let c = stopped close_halts text_goes 0 (drop i s) (omega (arith, length-drop i s)) in
      by (eqb (scan_st close_halts text_goes 0 (drop i s)) 0) (rw (get_or-drop i s (scan_len close_halts text_goes 0 (drop i s)) 0, e) at c)
    where
      by : (v : Bool) → pick v false false ≡ true → ⊥
      by true e = true≢false (sym e)
      by false e = true≢false (sym e)

  string_legal : closing s i < length s → (j : ℕ) → i ≤ j → j < pick (ltb (spoilt s i) (closing s i)) (spoilt s i) (closing s i + 1) →
      Legal (get_or s j 0)
  string_legal c j h k = by (ltb (spoilt s i) (closing s i)) refl k
    where
      at_quote : (v : Bool) → ltb j (spoilt s i) ≡ v → closing s i ≤ spoilt s i → j < closing s i + 1 → Legal (get_or s j 0)
      at_quote true e l k = content_legal j h (ltb-true j (spoilt s i) e)
      at_quote false e l k =
          let z : closing s i ≡ j = omega (arith, spoilt_le s i, ltb-false j (spoilt s i) e) in
          subst (λ (n : ℕ). Legal (get_or s n 0)) z (quote_legal c)

      by : (v : Bool) → ltb (spoilt s i) (closing s i) ≡ v → j < pick v (spoilt s i) (closing s i + 1) → Legal (get_or s j 0)
      by true e k = content_legal j h k
      by false e k = at_quote (ltb j (spoilt s i)) refl (ltb-false (spoilt s i) (closing s i) e) k

module _ (s : List ℕ) (p : ℕ) (h : p ≤ length s) where
  skipped : (j : ℕ) → p ≤ j → j < blank_end s p → Legal (get_or s j 0)
  skipped j i k = taken-from blank_halts blank_goes blank_ok s p outside j i k

  beyond : (e : ℕ) → ((j : ℕ) → blank_end s p ≤ j → j < e → Legal (get_or s j 0)) → (j : ℕ) → p ≤ j → j < e → Legal (get_or s j 0)
  beyond e f j i k = by (ltb j (blank_end s p)) refl
    where
      by : (v : Bool) → ltb j (blank_end s p) ≡ v → Legal (get_or s j 0)
      by true t = skipped j i (ltb-true j (blank_end s p) t)
      by false t = f j (ltb-false j (blank_end s p) t) k

  one : Legal (get_or s (blank_end s p) 0) → (j : ℕ) → p ≤ j → j < blank_end s p + 1 → Legal (get_or s j 0)
  one l = beyond (blank_end s p + 1) (λ j i k. let z : blank_end s p ≡ j = omega arith in subst (λ (n : ℕ). Legal (get_or s n 0)) z l)

  halted : blank_end s p < length s → blank_halts (blank_at s p) (get_or s (blank_end s p) 0) (get_or s (blank_end s p + 1) 0) ≡ true
  halted l =
      let n = scan_len blank_halts blank_goes outside (drop p s) in
      let e = stopped blank_halts blank_goes outside (drop p s) (omega (arith, length-drop p s)) in
      let z : p + suc n ≡ blank_end s p + 1 = omega arith in
      rw (get_or-drop p s n 0, get_or-drop p s (suc n) 0, z) at e

  -- in a comment only an illegal byte stops
  in_comment : blank_end s p < length s → eqb (blank_at s p).mode 0 ≡ false → class_of (get_or s (blank_end s p) 0) ≡ 0
  unfolding blank_stop
  in_comment l m = by (eqb (class_of (get_or s (blank_end s p) 0)) 0) refl (rw m at (halted l))
    where
      by : (v : Bool) → eqb (class_of (get_or s (blank_end s p) 0)) 0 ≡ v → pick v true false ≡ true → class_of (get_or s (blank_end s p) 0) ≡ 0
      by true e f = eqb-true _ 0 e
      by false e f = absurd (true≢false (sym f))

  -- outside comments: a bare backslash where no token is
  bare : blank_end s p < length s → eqb (blank_at s p).mode 0 ≡ true → word_end s (blank_end s p) ≤ blank_end s p →
      leb (class_of (get_or s (blank_end s p) 0)) 5 ≡ false →
      eqb (class_of (get_or s (blank_end s p) 0)) 6 ≡ false → eqb (class_of (get_or s (blank_end s p) 0)) 12 ≡ false → Bare s (blank_end s p)
  bare l m w a b c =
      let k = class_of (get_or s (blank_end s p) 0) in
      let d = get_or s (blank_end s p + 1) 0 in
      let e = halted l in
      let f = rw (eqb-true (blank_at s p).mode 0 m) at e in
      let (x, y) = backslash k d (leb-false k 5 a) (class_most (get_or s (blank_end s p) 0)) (eqb-false k 6 b) (eqb-false k 12 c)
      (halts (word_halts 0 (get_or s (blank_end s p) 0) d) refl) f in
      (l, x, y)
    where
      halts : (v : Bool) → word_halts 0 (get_or s (blank_end s p) 0) (get_or s (blank_end s p + 1) 0) ≡ v → v ≡ true
      halts true e = refl
      halts false e = absurd (omega (arith, rw (turn word_halts word_goes s 0 (blank_end s p) l, e) at w))

  found_here : eqb (blank_at s p).mode 0 ≡ true →
      Found s p (token_of s (blank_end s p) (class_of (get_or s (blank_end s p) 0)) (word_end s (blank_end s p)))
  unfolding token_of string_of
  found_here m =
      either s p (leb (length s) i) _ _ (λ t. (skipped, λ e. absurd (omega arith), λ e. absurd (omega arith)))
      (λ t. let l = leb-false (length s) i t in
      either s p (eqb k 0) _ _ (λ t. (skipped, λ e. inl (l, eqb-true k 0 t), λ e. absurd (omega arith)))
      (λ n. either s p (leb k 5) _ _ (λ t. one (not-nought k n))
      (λ a. either s p (eqb k 6) _ _
      (λ t. either s p (leb (length s) (closing s (i + 1))) _ _ (λ t. (skipped, λ e. absurd (omega arith), λ e. not-nought k n))
      (λ t. beyond _ (string n (leb-false (length s) (closing s (i + 1)) t))))
      (λ b. either s p (eqb k 12) _ _ (λ t. one (not-nought k n))
      (λ c. either s p (leb (word_end s i) i) _ _
      (λ t. (skipped, λ e. inr (bare l m (leb-true (word_end s i) i t) a b c), λ e. absurd (omega arith)))
      (λ t. beyond _ word))))))
    where
      i : ℕ
      i = blank_end s p

      k : ℕ
      k = class_of (get_or s i 0)

      string : eqb k 0 ≡ false → closing s (i + 1) < length s → (j : ℕ) → i ≤ j →
          j < pick (ltb (spoilt s (i + 1)) (closing s (i + 1))) (spoilt s (i + 1)) (closing s (i + 1) + 1) → Legal (get_or s j 0)
      string n c j a b = by (eqb i j) refl
        where
          by : (v : Bool) → eqb i j ≡ v → Legal (get_or s j 0)
          by true e = subst (λ (y : ℕ). Legal (get_or s y 0)) (eqb-true i j e) (not-nought k n)
          by false e = let z = eqb-false i j e in string_legal s (i + 1) c j (differ z a) b
            where
              differ : (i ≡ j → ⊥) → i ≤ j → i + 1 ≤ j
              differ z a = omega arith

      word : (j : ℕ) → i ≤ j → j < word_end s i → Legal (get_or s j 0)
      word j a b =
          let e : i + (j - i) ≡ j = omega arith in
          subst (λ (c : ℕ). Legal c) (get_or-drop i s (j - i) 0 ∙ ap (λ (n : ℕ). get_or s n 0) e)
          (word_legal 0 (drop i s) (j - i) (zero-le, λ f. absurd (omega (arith, leb-true 2 0 f))) (omega arith))

  found : Found s p (token_at s p)
  unfolding token_at behind
  found =
      either s p (eqb (blank_at s p).mode 0) _ _ found_here
      (λ m. either s p (eqb (blank_at s p).mode 1) _ _
      (λ t. either s p (leb (length s) i) _ _ (λ t. (skipped, λ e. absurd (omega arith), λ e. absurd (omega arith)))
      (λ t. let l = leb-false (length s) i t in (skipped, λ e. inl (l, in_comment l m), λ e. absurd (omega arith))))
      (λ t. either s p (leb (length s) (block_end s i)) _ _
      (λ t. let y = since_within outside (drop p s) in
      let z = opening-behind outside (drop p s) (λ e. absurd (true≢false e)) m in
      ((λ j a b. skipped j a (omega arith)), λ e. absurd (omega arith), λ e. skipped (i - (blank_at s p).since) (omega arith) (omega arith)))
      (λ t. let l : i < length s = omega (arith, leb-false (length s) (block_end s i) t) in
      (skipped, λ e. inl (l, in_comment l m), λ e. absurd (omega arith)))))
    where
      i : ℕ
      i = blank_end s p

-- of all tokens: what stands before their end, and there
abbrev All : List ℕ → ℕ → Stream → Type 0
All s p r = ((j : ℕ) → p ≤ j → j < r.place → Legal (get_or s j 0)) × (r.number ≡ 2 → Illegal s r.place ⊎ Bare s r.place) ×
    (r.number ≡ 3 → Legal (get_or s r.place 0))

all : (f : ℕ) (s : List ℕ) (p : ℕ) → p ≤ length s → length s - p < f → All s p (stream s p)
all zero s p h l = absurd (not-suc-le-zero l)
all (suc f) s p h l = rw (stream_turn s p h) (by (token_at s p) refl (found s p h) (all f s))
  where
    by : (t : Result Token Refusal) → token_at s p ≡ t → Found s p t → ((e : ℕ) → e ≤ length s → length s - e < f → All s e (stream s e)) →
        All s p (onward s t (stream s))
    by (Ok tok) q g ih =
        let (u, v, w) = onwards s p tok.kind tok.start tok.end tok.long h q in
        let (y, z, o) = ih tok.end w (omega arith) in
        ((λ j i n. past j (ltb j tok.end) refl i n y), z, o)
      where
        past : (j : ℕ) (v : Bool) → ltb j tok.end ≡ v → p ≤ j → j < (stream s tok.end).place → ((j : ℕ) → tok.end ≤ j → j < (stream s tok.end).place → Legal (get_or s j 0)) →
            Legal (get_or s j 0)
        past j true t i n y = g j i (ltb-true j tok.end t)
        past j false t i n y = y j (ltb-false j tok.end t) n
    by (Err why) q g ih = g

-- WHAT STANDS WHERE THE TOKENS END WITH 2
pub at-two : (s : List ℕ) → (stream s 0).number ≡ 2 → Illegal s (stream s 0).place ⊎ Bare s (stream s 0).place
at-two s e = (all (suc (length s)) s 0 zero-le (omega arith)).1 e

-- NO ILLEGAL BYTE STANDS BEFORE THE END OF THE TOKENS, nor there but with 2
pub no_illegal : (s : List ℕ) (q : ℕ) → Illegal s q → ((stream s 0).place < q) ⊎ (((stream s 0).place ≡ q) × ((stream s 0).number ≡ 2))
no_illegal s q (l, c) =
    let (y, z, o) = all (suc (length s)) s 0 zero-le (omega arith) in
    by (ltb q (stream s 0).place) refl y o
  where
    there : (stream s 0).place ≤ q → ((stream s 0).number ≡ 3 → Legal (get_or s (stream s 0).place 0)) → (v : Bool) → eqb (stream s 0).place q ≡ v →
        ((stream s 0).place < q) ⊎ (((stream s 0).place ≡ q) × ((stream s 0).number ≡ 2))
    there h o true e =
        let i = eqb-true (stream s 0).place q e in
        inr (
          i,
          ⊎_elim (λ u. u) (λ r. ⊎_elim (λ u. absurd (o u (ap (λ (n : ℕ). class_of (get_or s n 0)) i ∙ c))) (λ (u, v). absurd (omega arith)) r)
              (ends s),
        )
    there h o false e = let i = eqb-false (stream s 0).place q e in inl (less i h)
      where
        less : ((stream s 0).place ≡ q → ⊥) → (stream s 0).place ≤ q → (stream s 0).place < q
        less i h = omega arith

    by : (v : Bool) → ltb q (stream s 0).place ≡ v → ((j : ℕ) → 0 ≤ j → j < (stream s 0).place → Legal (get_or s j 0)) →
        ((stream s 0).number ≡ 3 → Legal (get_or s (stream s 0).place 0)) →
        ((stream s 0).place < q) ⊎ (((stream s 0).place ≡ q) × ((stream s 0).number ≡ 2))
    by true e y o = absurd (y q zero-le (ltb-true q (stream s 0).place e) c)
    by false e y o = there (ltb-false q (stream s 0).place e) o (eqb (stream s 0).place q) refl
