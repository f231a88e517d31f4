-- Words as numbers, their codes, by which the program tells them apart: a word's first eight bytes are the digits of a number
-- to the base 256, and so are the rest of them.
-- Assumes nothing.
use Rattle.std.specs.Prelude.{◌≡◌, refl, Bool, true, false, List, [], ◌∷◌, ℕ, zero, suc, ◌+◌, ◌-◌, ◌*◌, ◌^◌, ◌≤◌, ◌<◌, eqb, leb, length, take, drop, get_or}
use Rattle.std.proofs.Common.{ap, sym, ◌∙◌, arith, Fits, take-append-drop, length-take, length-drop, drop_of_length-le, take_all, drop-cons, add-one, pow-suc, leb-true, eqb-true, ne_eqb}
use Rattle.std.specs.Int.{w8}
use Rattle.std.proofs.Math.Nat.{pow-le-pow_right}
use Rattle.std.proofs.lemmas.Bool.{eqb-false}
use Rattle.classes.specs.Choice.{pick, and}
use Rattle.words.specs.Words.{Key, same, find}
use Rattle.words.specs.Laws.{both, every, same_eq, same_refl}

-- the number whose digits to the base 256 are a word's bytes, the first the highest; after the digits of a
abbrev pub packed_from : ℕ → List ℕ → ℕ
packed_from a [] = a
packed_from a (x ∷ w) = packed_from (a * 256 + x) w

abbrev pub packed : List ℕ → ℕ
packed w = packed_from 0 w

abbrev keep : Bool → Key → List Key → List Key
keep true k ks = k ∷ ks
keep false k ks = ks

-- the words of a table that are n bytes long
abbrev pub of_length : ℕ → List Key → List Key
of_length n [] = []
of_length n (k ∷ ks) = keep (eqb (length k.word) n) k (of_length n ks)

-- the number beside a word in a table, or 0, by the word's first eight bytes and the rest of them
abbrev pub among : List Key → ℕ → ℕ → ℕ
among [] h r = 0
among (k ∷ ks) h r =
    pick (and (eqb h (packed (take 8 k.word))) (eqb r (packed (drop 8 k.word)))) k.number (among ks h r)

-- (past its end a word counts as 0)
abbrev pub Bytes : List ℕ → Type 0
Bytes w = (i : ℕ) → get_or w i 0 < 256

bytes_take : (n : ℕ) (w : List ℕ) → Bytes w → Bytes (take n w)
bytes_take zero w h i = omega arith
bytes_take (suc n) [] h i = omega arith
bytes_take (suc n) (x ∷ w) h zero = h 0
bytes_take (suc n) (x ∷ w) h (suc i) = bytes_take n w (λ j. h (suc j)) i

bytes_drop : (n : ℕ) (w : List ℕ) → Bytes w → Bytes (drop n w)
bytes_drop zero w h i = h i
bytes_drop (suc n) [] h i = omega arith
bytes_drop (suc n) (x ∷ w) h i = bytes_drop n w (λ j. h (suc j)) i

-- words of one length with the same code are the same
packed-same : (a b : ℕ) (v w : List ℕ) → length v ≡ length w → Bytes v → Bytes w →
    packed_from a v ≡ packed_from b w → (a ≡ b) × (v ≡ w)
packed-same a b [] [] l f g e = (e, refl)
packed-same a b [] (y ∷ w) l f g e = absurd (omega arith)
packed-same a b (x ∷ v) [] l f g e = absurd (omega arith)
packed-same a b (x ∷ v) (y ∷ w) l f g e =
    let h = packed-same (a * 256 + x) (b * 256 + y) v w (omega arith) (λ i. f (suc i)) (λ i. g (suc i)) e in
    let p : x < 256 = f 0 in
    let q : y < 256 = g 0 in
    let r : a ≡ b = omega (arith, h.0) in
    let s : x ≡ y = omega (arith, h.0) in
    (r, cc h.1)

-- two words of one length are the same exactly if both their codes are
same-packed : (v w : List ℕ) → length v ≡ length w → Bytes v → Bytes w →
    same v w ≡ and (eqb (packed (take 8 v)) (packed (take 8 w))) (eqb (packed (drop 8 v)) (packed (drop 8 w)))
same-packed v w l f g =
    by (eqb (packed (take 8 v)) (packed (take 8 w))) (eqb (packed (drop 8 v)) (packed (drop 8 w))) refl refl (same v w) refl
  where
    heads : packed (take 8 v) ≡ packed (take 8 w) → take 8 v ≡ take 8 w
    heads e = (packed-same 0 0 (take 8 v) (take 8 w) (simp (length-take, l)) (bytes_take 8 v f) (bytes_take 8 w g) e).1

    rests : packed (drop 8 v) ≡ packed (drop 8 w) → drop 8 v ≡ drop 8 w
    rests e = (packed-same 0 0 (drop 8 v) (drop 8 w) (simp (length-drop, l)) (bytes_drop 8 v f) (bytes_drop 8 w g) e).1

    whole : take 8 v ≡ take 8 w → drop 8 v ≡ drop 8 w → v ≡ w
    whole p q = sym (take-append-drop 8 v) ∙ rw (p, q) (take-append-drop 8 w)

    by : (a b : Bool) → eqb (packed (take 8 v)) (packed (take 8 w)) ≡ a → eqb (packed (drop 8 v)) (packed (drop 8 w)) ≡ b →
        (s : Bool) → same v w ≡ s → same v w ≡ and a b
    by true true p q s r =
        ap (λ (x : List ℕ). same x w) (whole (heads (eqb-true _ _ p)) (rests (eqb-true _ _ q))) ∙ same_refl w
    by true false p q false r = r
    by false b p q false r = r
    by true false p q true r = absurd (eqb-false _ _ q (ap (λ (x : List ℕ). packed (drop 8 x)) (same_eq v w r)))
    by false b p q true r = absurd (eqb-false _ _ p (ap (λ (x : List ℕ). packed (take 8 x)) (same_eq v w r)))

-- every byte of a table's words is below 256
abbrev pub small : List ℕ → Bool
small [] = true
small (x ∷ w) = and (leb x 255) (small w)

abbrev pub plain : List Key → Bool
plain t = every (λ k. small k.word) t

small_bytes : (w : List ℕ) → small w ≡ true → Bytes w
small_bytes [] e i = omega arith
small_bytes (x ∷ w) e zero = let h = leb-true x 255 (both (leb x 255) (small w) e).0 in omega arith
small_bytes (x ∷ w) e (suc i) = small_bytes w (both (leb x 255) (small w) e).1 i

-- words of different lengths differ
pub apart : (v w : List ℕ) → (length v ≡ length w → ⊥) → same w v ≡ false
apart v w h = by (same w v) refl
  where
    by : (b : Bool) → same w v ≡ b → same w v ≡ false
    by true e = absurd (h (ap length (sym (same_eq w v e))))
    by false e = e

-- a word is found by its length and its two codes
pub find-packed : (t : List Key) (w : List ℕ) (n : ℕ) → plain t ≡ true → Bytes w → length w ≡ n →
    find t w ≡ among (of_length n t) (packed (take 8 w)) (packed (drop 8 w))
find-packed [] w n p f l = refl
find-packed (k ∷ ks) w n p f l = by (eqb (length k.word) n) refl (find-packed ks w n own.1 f l)
  where
    own : (small k.word ≡ true) × (plain ks ≡ true)
    own = both (small k.word) (plain ks) p

    by : (b : Bool) → eqb (length k.word) n ≡ b →
        find ks w ≡ among (of_length n ks) (packed (take 8 w)) (packed (drop 8 w)) →
        find (k ∷ ks) w ≡ among (of_length n (k ∷ ks)) (packed (take 8 w)) (packed (drop 8 w))
    by true e below =
        rw (e, same-packed w k.word (l ∙ sym (eqb-true _ _ e)) f (small_bytes k.word own.0), below)
    by false e below = rw (e, apart k.word w (λ q. eqb-false _ _ e (q ∙ l)), below)

-- what the code answers by a word's length and its codes is the word's number: in one code up to eight bytes, in two codes beyond
pub by_codes : (t : List Key) (w : List ℕ) (n h r a : ℕ) → plain t ≡ true → ((i : ℕ) → Fits w8 (get_or w i 0)) → length w ≡ n →
    h ≡ packed (take 8 w) → r ≡ packed (drop 8 w) → a ≡ among (of_length n t) h r → a ≡ find t w
by_codes t w n h r a p f l e g q = q ∙ rw (e, g) (sym (find-packed t w n p (λ i. let b = f i in omega arith) l))

pub by_code : (t : List Key) (w : List ℕ) (n h a : ℕ) → plain t ≡ true → ((i : ℕ) → Fits w8 (get_or w i 0)) → length w ≡ n → n ≤ 8 →
    h ≡ packed w → a ≡ among (of_length n t) h 0 → a ≡ find t w
by_code t w n h a p f l s e q =
    by_codes t w n h 0 a p f l (e ∙ rw (take_all 8 w (omega arith))) (rw (drop_of_length-le w {i = 8} (omega arith))) q

-- where no word of a table is as long, none is found
pub by_length : (t : List Key) (w : List ℕ) → of_length (length w) t ≡ [] → 0 ≡ find t w
by_length [] w e = refl
by_length (k ∷ ks) w e = by (eqb (length k.word) (length w)) refl (by_length ks w)
  where
    by : (b : Bool) → eqb (length k.word) (length w) ≡ b → (of_length (length w) ks ≡ [] → 0 ≡ find ks w) → 0 ≡ find (k ∷ ks) w
    by true p below = let z : ◌≡◌ {A = ℕ} 0 1 = cc (rw p at e) in absurd (omega arith)
    by false p below = rw (apart k.word w (eqb-false _ _ p)) (below (rw p at e))

-- where a table has one word of a length, its code decides
pub alone : (h code n : ℕ) → pick (eqb h code) n 0 ≡ pick (and (eqb h code) true) n 0
alone h code n = by (eqb h code)
  where
    by : (b : Bool) → pick b n 0 ≡ pick (and b true) n 0
    by true = refl
    by false = refl

-- the test of two lengths that differ
pub unlike : {a b : ℕ} → (b ≡ a → ⊥) → eqb a b ≡ false
unlike {a} {b} h = ne_eqb a b (λ e. h (sym e))

-- packing one byte more
pub packed_turn : (a i : ℕ) (w : List ℕ) → i < length w → packed_from a (drop i w) ≡ packed_from (a * 256 + get_or w i 0) (drop (i + 1) w)
packed_turn a i w h = rw (add-one, drop-cons w i 0)

pub packed-done : (a i : ℕ) (w : List ℕ) → length w ≤ i → packed_from a (drop i w) ≡ a
packed-done a i w h = ap (packed_from a) (drop_of_length-le w {i = i} h)

pub packed_grows : (a x i : ℕ) → a < 256 ^ i → x < 256 → a * 256 + x < 256 ^ (i + 1)
packed_grows a x i h g = rw (add-one, pow-suc) (omega arith)

-- eight bytes fit a u64
pub packed-room : (a i : ℕ) → a < 256 ^ i → i < 8 → a * 256 + 255 < 18446744073709551616
packed-room a i h g = let p : 256 ^ i ≤ 256 ^ 7 = pow-le-pow_right {n = 256} (omega arith) {i = i} {j = 7} (omega arith) in omega arith

-- the part of a word from e on is all that is left of it
pub from_on : (e : ℕ) (w : List ℕ) → take (length w - e) (drop e w) ≡ drop e w
from_on e w = take_all (length w - e) (drop e w) (simp length-drop (omega arith))
