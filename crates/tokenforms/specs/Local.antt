-- token_unique and token_local: a token does not depend on what stands behind it.
-- Assumes nothing.
use Prim.Native.Nat.{ℕ, suc, ◌+◌, ◌-◌, ◌≤◌, ◌<◌}
use Rattle.std.proofs.Common.{eq-or-lt_of_le, add_assoc, add-one, arith, ◌∙◌, ⊎_elim, get_or-drop, drop-drop, leb-false, ltb-true, eqb-true}
use Rattle.std.specs.Prelude.{◌≡◌, Bool, true, ◌⊎◌, List, [], ◌∷◌, ◌++◌, leb, ltb, eqb, length, drop, get_or, Result, Ok, Err}
use Rattle.std.proofs.Math.Path.{refl, ap, sym}
use Rattle.std.proofs.Math.Bool.{false}
use Rattle.std.proofs.Math.ListN.{length-append, get_or-append}
use Rattle.std.proofs.Math.Seq.{get_or-append_seam}
use Rattle.std.proofs.lemmas.Bool.{lt-leb}
use Rattle.classes.specs.Choice.{pick}
use Rattle.classes.specs.Classes.{class_of}
use Rattle.scanning.specs.Scan.{scan_len, scan_st, scan_le, local_at, local_in, stopped, resumes, stops}
use Rattle.scanning.specs.Machines.{word_stop, word_halts, word_goes, word_end, text_stop, close_stop, text_halts, close_halts, text_goes, close_is-text, blank_stop, blank_halts, blank_goes, outside}
use Rattle.tokenforms.specs.Tokens.{closing, spoilt, block_end, string_of, string_at, token_of, token_here, behind, token_at}
use Rattle.scanning.specs.Machines.{blank_end, blank_at}
use Rattle.scanning.specs.declared.Blank.{Blank}
use Rattle.tokenforms.specs.declared.Token.{Token}
use Rattle.tokenforms.specs.declared.Refusal.{Refusal}
use Rattle.tokenforms.specs.Tokens.{Got, Refused}

-- a token of s that ends at n or before, where no illegal byte stands (a string that ends at one is not yet whole)
abbrev pub Inside : List ℕ → ℕ → Result Token Refusal → Type 0
Inside s n (Ok tok) = (tok.end ≤ n) × (class_of (get_or s tok.end 0) ≡ 0 → ⊥)
Inside s n (Err why) = ⊥

-- down a chain of picks: the tests agree, and each branch agrees where it is inside
level : (s : List ℕ) (n : ℕ) (t u : Bool) → u ≡ t → (x x' y y' : Result Token Refusal) → (Inside s n x → x' ≡ x) → (Inside s n y → y' ≡ y) → Inside s n (pick t x y) → pick u x' y' ≡ pick t x y
level s n true u e x x' y y' f g h = rw e (f h)
level s n false u e x x' y y' f g h = rw e (g h)

-- what follows from each branch
whence : {P : Type 0} (s : List ℕ) (n : ℕ) (t : Bool) (x y : Result Token Refusal) → (t ≡ true → Inside s n x → P) → (t ≡ false → Inside s n y → P) → Inside s n (pick t x y) → P
whence s n true x y f g h = f refl h
whence s n false x y f g h = g refl h

-- a string is closed at its first illegal byte or behind it
pub spoilt_le : (s : List ℕ) (j : ℕ) → spoilt s j ≤ closing s j
spoilt_le s j = omega (arith, resumes text_halts close_halts text_goes close_is-text 0 (drop j s))

-- from that byte on, in the state there, it is closed where it is closed
pub closing_on : (s : List ℕ) (j : ℕ)
    → closing s j ≡ spoilt s j + scan_len close_halts text_goes (scan_st text_halts text_goes 0 (drop j s)) (drop (spoilt s j) s)
closing_on s j =
    ap (λ n. j + n) (resumes text_halts close_halts text_goes close_is-text 0 (drop j s) ∙ rw (drop-drop (scan_len text_halts text_goes 0 (drop j s)) j s))
    ∙ sym (add_assoc j _ _)

-- and where that is behind, the byte is illegal indeed
pub spoilt_illegal : (s : List ℕ) (j : ℕ) → spoilt s j < closing s j → class_of (get_or s (spoilt s j) 0) ≡ 0
unfolding text_stop
spoilt_illegal s j h = by (close_stop q (class_of c)) refl (eqb (class_of c) 0) refl because
  where
    r : List ℕ
    r = drop j s

    m : ℕ
    m = scan_len text_halts text_goes 0 r

    q : ℕ
    q = scan_st text_halts text_goes 0 r

    c : ℕ
    c = get_or s (spoilt s j) 0

    early : m < length r
    early = omega (arith, scan_le close_halts text_goes 0 (drop j s))

    because : text_stop q (class_of c) ≡ true
    because = rw (get_or-drop j s m 0) at (stopped text_halts text_goes 0 r early)

    by : (t : Bool) → close_stop q (class_of c) ≡ t → (u : Bool) → eqb (class_of c) 0 ≡ u → pick u true (close_stop q (class_of c)) ≡ true → class_of c ≡ 0
    by t e true f g = eqb-true (class_of c) 0 f
    by t e false f g =
        let z : m + scan_len close_halts text_goes q (drop m r) ≡ m = stops close_halts text_goes r q m early (rw (get_or-drop j s m 0) g) in
        absurd (omega (arith, resumes text_halts close_halts text_goes close_is-text 0 (drop j s)))

string_in : (s : List ℕ) (n i : ℕ) → Inside s n (string_at s i) → closing s (i + 1) < n
unfolding string_of
string_in s n i h =
    whence s n (leb (length s) (closing s (i + 1))) (Refused 3 i) _ (λ t k. absurd k) (λ t k. by (ltb (spoilt s (i + 1)) (closing s (i + 1))) refl k) h
  where
    by : (t : Bool) → ltb (spoilt s (i + 1)) (closing s (i + 1)) ≡ t
        → (pick t (spoilt s (i + 1)) (closing s (i + 1) + 1) ≤ n) × (class_of (get_or s (pick t (spoilt s (i + 1)) (closing s (i + 1) + 1)) 0) ≡ 0 → ⊥)
        → closing s (i + 1) < n
    by true e k = absurd (k.1 (spoilt_illegal s (i + 1) (ltb-true (spoilt s (i + 1)) (closing s (i + 1)) e)))
    by false e k = omega (arith, k.0)

word_in : (s : List ℕ) (n j w : ℕ) → Inside s n (pick (leb w j) (Refused 2 j) (Got 7 j w (ltb 1024 (w - j)))) → (j < w) × (w ≤ n)
word_in s n j w h = whence s n (leb w j) (Refused 2 j) _ (λ t k. absurd k) (λ t k. (leb-false w j t, k.0)) h

-- where a token is inside, it starts there
token_in : (s : List ℕ) (n j k w : ℕ) → Inside s n (token_of s j k w) → j < n
unfolding token_of
token_in s n j k w h =
    whence s n (leb (length s) j) _ _ (λ t z. absurd z)
    (λ t z. whence s n (eqb k 0) _ _ (λ t z. absurd z)
    (λ t z. whence s n (leb k 5) _ _ (λ t z. omega (arith, z.0))
    (λ t z. whence s n (eqb k 6) _ _ (λ t z. omega (arith, string_in s n j z))
    (λ t z. whence s n (eqb k 12) _ _ (λ t z. omega (arith, z.0)) (λ t z. omega (arith, (word_in s n j w z).0, (word_in s n j w z).1)) z) z) z) z) h

behind_in : (s : List ℕ) (n i : ℕ) (b : Blank) → Inside s n (behind s i b) → i < n
unfolding behind
behind_in s n i b z =
    whence s n (eqb b.mode 0) (token_here s i) _ (λ t k. token_in s n i _ _ k)
    (λ t k. absurd (whence s n (eqb b.mode 1) _ _
    (λ t k. whence s n (leb (length s) i) _ _ (λ t k. k) (λ t k. k) k)
    (λ t k. whence s n (leb (length s) (block_end s i)) _ _ (λ t k. k) (λ t k. k) k) k)) z

-- two texts that agree up to n, so far that the scanners which stop there stop at the same place
pub record Alike (s s' : List ℕ) (n : ℕ) : Type 0 where
  pub more : (n < length s) × (n < length s')
  pub get : (j : ℕ) → j ≤ n → get_or s' j 0 ≡ get_or s j 0
  pub word : (j : ℕ) → j ≤ n → word_end s j ≤ n → word_end s' j ≡ word_end s j
  pub spoil : (j : ℕ) → j ≤ n → spoilt s j ≤ n → spoilt s' j ≡ spoilt s j
  pub close : (j : ℕ) → j ≤ n → closing s j ≤ n → closing s' j ≡ closing s j
  pub blank : (j : ℕ) → j ≤ n → blank_end s j ≤ n → (blank_end s' j ≡ blank_end s j) × (blank_at s' j ≡ blank_at s j)

module _ (s s' : List ℕ) (n : ℕ) (a : Alike s s' n) where
  not_end : (j : ℕ) → j ≤ n → (leb (length s) j ≡ false) × (leb (length s') j ≡ false)
  not_end j h = (lt-leb (length s) j (omega (arith, a.more.0)), lt-leb (length s') j (omega (arith, a.more.1)))

  string_of-same : (i e f : ℕ) → f ≤ n → string_of s' i e f ≡ string_of s i e f
  unfolding string_of
  string_of-same i e f h = rw ((not_end f h).0, (not_end f h).1)

  string_at-same : (i : ℕ) → Inside s n (string_at s i) → string_at s' i ≡ string_at s i
  string_at-same i z =
      let l = string_in s n i z in
      let m = spoilt_le s (i + 1) in
      rw (a.spoil (i + 1) (omega arith) (omega arith), a.close (i + 1) (omega arith) (omega arith))
      (string_of-same i (spoilt s (i + 1)) (closing s (i + 1)) (omega arith))

  token_of-same : (j k w w' : ℕ) → j < n → (w ≤ n → w' ≡ w) → Inside s n (token_of s j k w) → token_of s' j k w' ≡ token_of s j k w
  unfolding token_of
  token_of-same j k w w' h f z =
      let word : ℕ → Result Token Refusal = λ v. pick (leb v j) (Refused 2 j) (Got 7 j v (ltb 1024 (v - j))) in
      let one : Result Token Refusal = Got k j (j + 1) false in
      level s n _ _ ((not_end j (omega arith)).1 ∙ sym (not_end j (omega arith)).0) _ _ _ _ (λ t. refl)
      (λ t. level s n (eqb k 0) (eqb k 0) refl (Refused 2 j) (Refused 2 j) _ _ (λ t. refl)
      (λ t. level s n (leb k 5) (leb k 5) refl one one _ _ (λ t. refl)
      (λ t. level s n (eqb k 6) (eqb k 6) refl (string_at s j) (string_at s' j) _ _ (λ t. string_at-same j t)
      (λ t. level s n (eqb k 12) (eqb k 12) refl one one (word w) (word w') (λ t. refl) (λ t. ap word (f (word_in s n j w t).1)) t) t) t) t) z

  token_here-same : (j : ℕ) → Inside s n (token_here s j) → token_here s' j ≡ token_here s j
  token_here-same j z =
      let h = token_in s n j _ _ z in
      ap (λ c. token_of s' j (class_of c) (word_end s' j)) (a.get j (omega arith))
      ∙ token_of-same j (class_of (get_or s j 0)) (word_end s j) (word_end s' j) h (a.word j (omega arith)) z

  behind-same : (i : ℕ) (b : Blank) → Inside s n (behind s i b) → behind s' i b ≡ behind s i b
  unfolding behind
  behind-same i b z =
      level s n (eqb b.mode 0) (eqb b.mode 0) refl (token_here s i) (token_here s' i) _ _ (token_here-same i)
      (λ k. absurd (whence s n (eqb b.mode 1) _ _
      (λ t k. whence s n (leb (length s) i) _ _ (λ t k. k) (λ t k. k) k)
      (λ t k. whence s n (leb (length s) (block_end s i)) _ _ (λ t k. k) (λ t k. k) k) k)) z

  pub alike_same : (i : ℕ) → i ≤ n → Inside s n (token_at s i) → token_at s' i ≡ token_at s i
  unfolding token_at
  alike_same i h z =
      let l = behind_in s n (blank_end s i) (blank_at s i) z in
      let e = a.blank i h (omega arith) in
      rw (e.0, e.1) (behind-same (blank_end s i) (blank_at s i) z)

-- texts that agree up to an opening bracket at a seam: at '(' no scanner looks ahead
module _ (a x y : List ℕ) where
  seam_get : (j : ℕ) → j ≤ length a → get_or (a ++ 40 ∷ y) j 0 ≡ get_or (a ++ 40 ∷ x) j 0
  seam_get j h =
      ⊎_elim
      (λ e. ap (λ k. get_or (a ++ 40 ∷ y) k 0) e ∙ get_or-append_seam a 40 y 0 ∙ sym (get_or-append_seam a 40 x 0) ∙ sym (ap (λ k. get_or (a ++ 40 ∷ x) k 0) e))
      (λ l. get_or-append a (40 ∷ y) 0 j l ∙ sym (get_or-append a (40 ∷ x) 0 j l)) (eq-or-lt_of_le h)

  seam_alike : Alike (a ++ 40 ∷ x) (a ++ 40 ∷ y) (length a)
  unfolding word_stop blank_stop class_of
  seam_alike =
      record {
        more = (omega (arith, length-append a (40 ∷ x)), omega (arith, length-append a (40 ∷ y)));
        get = seam_get;
        word = λ j h n. ap (λ k. j + k) (local_at word_halts word_goes 40 (λ q d e. refl) 0 a x y j h n).0;
        spoil = λ j h n. ap (λ k. j + k) (local_at text_halts text_goes 40 (λ q d e. refl) 0 a x y j h n).0;
        close = λ j h n. ap (λ k. j + k) (local_at close_halts text_goes 40 (λ q d e. refl) 0 a x y j h n).0;
        blank = λ j h n. let z = local_at blank_halts blank_goes 40 (λ q d e. refl) outside a x y j h n in (ap (λ k. j + k) z.0, z.1);
      }

  -- texts that agree up to an opening bracket have the same tokens before it
  pub token_local : (i : ℕ) → i ≤ length a → Inside (a ++ 40 ∷ x) (length a) (token_at (a ++ 40 ∷ x) i)
      → token_at (a ++ 40 ∷ y) i ≡ token_at (a ++ 40 ∷ x) i
  token_local i h z = alike_same (a ++ 40 ∷ x) (a ++ 40 ∷ y) (length a) seam_alike i h z

-- texts that agree on the bytes of a, of which c is the last, and on the next one
module _ (a : List ℕ) (c : ℕ) (x y : List ℕ) (next : get_or x 0 0 ≡ get_or y 0 0) where
  abbrev pub front : List ℕ
  front = a ++ c ∷ []

  more_bytes : length front ≡ suc (length a)
  more_bytes = length-append a (c ∷ []) ∙ add-one (length a)

  inside-alike : Alike (front ++ x) (front ++ y) (length a)
  inside-alike =
      record {
        more = (omega (arith, length-append front x, more_bytes), omega (arith, length-append front y, more_bytes));
        get = λ j h. get_or-append front y 0 j (omega (arith, more_bytes)) ∙ sym (get_or-append front x 0 j (omega (arith, more_bytes)));
        word = λ j h n. ap (λ k. j + k) (local_in word_halts word_goes 0 front x y j next (omega (arith, more_bytes)) (omega (arith, more_bytes))).0;
        spoil = λ j h n. ap (λ k. j + k) (local_in text_halts text_goes 0 front x y j next (omega (arith, more_bytes)) (omega (arith, more_bytes))).0;
        close = λ j h n. ap (λ k. j + k) (local_in close_halts text_goes 0 front x y j next (omega (arith, more_bytes)) (omega (arith, more_bytes))).0;
        blank = λ j h n.
            let z = local_in blank_halts blank_goes outside front x y j next (omega (arith, more_bytes)) (omega (arith, more_bytes)) in (ap (λ k. j + k) z.0, z.1);
      }

  -- a token is determined by the bytes up to one past its end, and the one byte that is looked at behind that
  pub token_unique : (i : ℕ) → i ≤ length a → Inside (front ++ x) (length a) (token_at (front ++ x) i) → token_at (front ++ y) i ≡ token_at (front ++ x) i
  token_unique i h z = alike_same (front ++ x) (front ++ y) (length a) inside-alike i h z
