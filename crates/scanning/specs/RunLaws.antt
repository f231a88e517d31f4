-- Laws of runs: one byte more, and the tests on a byte by itself in place of its class.
-- Assumes nothing.
use Rattle.std.specs.Prelude.{ℕ, zero, suc, ◌+◌, ◌≤◌, ◌<◌, ◌≡◌, refl, Bool, true, false, not, List, eqb, leb, length, get_or, drop}
use Rattle.std.proofs.Common.{add-zero, arith, sym, ap, ◌∙◌, true≢false, le-leb, leb-true, leb-false, ne_eqb, eqb-true}
use Rattle.std.proofs.Math.ListN.{get_or-eq_default}
use Rattle.std.proofs.lemmas.Bool.{lt-leb, not-false}
use Rattle.classes.specs.Choice.{pick, and, within}
use Rattle.classes.specs.Classes.{class_of, mark_of}
use Rattle.classes.specs.ClassLaws.{within_low, class_most, colon_byte, slash_byte, square_byte, unsquare_byte, back_byte, marked}
use Rattle.scanning.specs.Scan.{scan_len, scan_st, goes_on, goes_on_st, stops, ends, stops_st, ends_st}
use Rattle.scanning.specs.Machines.{commences, word_stop, word_next, word_halts, word_goes, word_end, blank_stop, blank_halts, blank_goes, outside, white_on, white_same, blank_end, blank_at}
use Rattle.scanning.specs.Runs.{word_from, commented, bracketed, width_of}
use Rattle.scanning.specs.declared.Blank.{Blank}

-- a word goes on from i to i + 1, in the state that its byte leads to
goes : (s : List ℕ) (q i : ℕ) → i < length s → word_halts q (get_or s i 0) (get_or s (i + 1) 0) ≡ false →
    (r : ℕ) → word_goes q (get_or s i 0) (get_or s (i + 1) 0) ≡ r → word_from r s (i + 1) ≡ word_from q s i
goes s q i h e r f = ap (λ (n : ℕ). word_from n s (i + 1)) (sym f) ∙ goes_on word_halts word_goes s q i h e

-- a plain byte
pub plain-goes : (s : List ℕ) (q i : ℕ) → q < 2 → i < length s → class_of (get_or s i 0) ≡ 7 → word_from q s (i + 1) ≡ word_from q s i
unfolding word_stop word_next
plain-goes s q i l h k = goes s q i h (rw (k, lt-leb 2 q l)) q (rw (k, lt-leb 2 q l))

-- whether a word ends before a byte that is not plain, by the byte itself
pub halts_by : (q c d : ℕ) → q < 2 → (class_of c ≡ 7 → ⊥) →
    word_halts q c d ≡ pick (eqb c 91) false (pick (eqb c 93) false (pick (eqb c 47) (commences d) (pick (eqb c 92) (not (within 0x21 0x7E d)) (pick (eqb c 58) (eqb q 0) true))))
unfolding word_stop
halts_by q c d l p = rw (lt-leb 2 q l, ne_eqb (class_of c) 7 p, square_byte c, unsquare_byte c, slash_byte c, back_byte c, colon_byte c)

-- a byte that is not 0 stands within the text
pub more_bytes : (s : List ℕ) (j : ℕ) → 1 ≤ get_or s j 0 → j < length s
more_bytes s j h = by (leb (length s) j) refl
  where
    by : (v : Bool) → leb (length s) j ≡ v → j < length s
    by true e = let z : get_or s j 0 ≡ 0 = get_or-eq_default s 0 (leb-true (length s) j e) in absurd (omega arith)
    by false e = leb-false (length s) j e

-- any other byte that goes on with it; a backslash with the byte that it takes along
escape_goes : (s : List ℕ) (q i : ℕ) → q < 2 → i < length s → get_or s i 0 ≡ 92 → within 0x21 0x7E (get_or s (i + 1) 0) ≡ true →
    (word_from q s (i + 2) ≡ word_from q s i) × (i + 2 ≤ length s)
unfolding word_stop word_next class_of
escape_goes s q i l h e w =
    let m : i + 1 < length s = more_bytes s (i + 1) (omega (arith, within_low 0x21 0x7E (get_or s (i + 1) 0) w)) in
    let t : leb 2 (q + 2) ≡ true = le-leb 2 (q + 2) (omega arith) in
    let first = goes s q i h (rw (e, lt-leb 2 q l, w)) (q + 2) (rw (e, lt-leb 2 q l)) in
    let second = goes s (q + 2) (i + 1) m (rw t) q (rw t (omega arith)) in
    let n : i + 2 ≡ i + 1 + 1 = omega arith in
    (ap (word_from q s) n ∙ second ∙ first, omega arith)

pub word_goes_lem : (s : List ℕ) (q i : ℕ) → q < 2 → i < length s → word_halts q (get_or s i 0) (get_or s (i + 1) 0) ≡ false →
    (word_from (bracketed q (get_or s i 0)) s (i + width_of (get_or s i 0)) ≡ word_from q s i) × (i + width_of (get_or s i 0) ≤ length s)
unfolding word_stop word_next class_of
word_goes_lem s q i l h e = by (eqb (get_or s i 0) 92) refl
  where
    c : ℕ
    c = get_or s i 0

    by : (v : Bool) → eqb c 92 ≡ v → (word_from (bracketed q c) s (i + pick v 2 1) ≡ word_from q s i) × (i + pick v 2 1 ≤ length s)
    by true t =
        let b = eqb-true c 92 t in
        rw (b) (escape_goes s q i l h b (is_within (rw (b, lt-leb 2 q l) at e)))
      where
        is_within : not (within 0x21 0x7E (get_or s (i + 1) 0)) ≡ false → within 0x21 0x7E (get_or s (i + 1) 0) ≡ true
        is_within f = not-false (within 0x21 0x7E (get_or s (i + 1) 0)) f
    by false f = (goes s q i h e (bracketed q c) (rw (lt-leb 2 q l, square_byte c, unsquare_byte c, back_byte c, f)), omega arith)

pub width_some : (c : ℕ) → 1 ≤ width_of c
width_some c = by (eqb c 92)
  where
    by : (v : Bool) → 1 ≤ pick v 2 1
    by true = omega arith
    by false = omega arith

-- white space is passed over byte by byte
pub white_goes : (s : List ℕ) (i : ℕ) → i < length s → class_of (get_or s i 0) ≡ 1 → (blank_end s (i + 1) ≡ blank_end s i) × (blank_at s (i + 1) ≡ blank_at s i)
white_goes s i h k =
    let n = sym (white_same (get_or s i 0) (get_or s (i + 1) 0) k) in
    let o = white_on (get_or s i 0) (get_or s (i + 1) 0) k in (
      ap (λ (q : Blank). i + 1 + scan_len blank_halts blank_goes q (drop (i + 1) s)) n ∙ goes_on blank_halts blank_goes s outside i h o,
      ap (λ (q : Blank). scan_st blank_halts blank_goes q (drop (i + 1) s)) n ∙ goes_on_st blank_halts blank_goes s outside i h o,
    )

-- where neither white space nor a comment begins, nothing is passed over
no_blank : (k d : ℕ) (slash : Bool) → (k ≡ 1 → ⊥) → eqb k 8 ≡ slash → and slash (commences d) ≡ false → blank_stop 0 k d ≡ true
unfolding blank_stop
no_blank k d slash w e f = rw (ne_eqb k 1 w, e) (by (eqb k 0) slash f)
  where
    by : (z v : Bool) → and v (commences d) ≡ false → pick z true (pick v (not (commences d)) true) ≡ true
    by true v h = refl
    by false true h = rw h
    by false false h = refl

pub unblank : (s : List ℕ) (i : ℕ) → (i < length s → class_of (get_or s i 0) ≡ 1 → ⊥) → commented s i ≡ false → (blank_end s i ≡ i) × (blank_at s i ≡ outside)
unblank s i w f = by (leb (length s) i) refl
  where
    by : (v : Bool) → leb (length s) i ≡ v → (blank_end s i ≡ i) × (blank_at s i ≡ outside)
    by true e =
        let l = leb-true (length s) i e in
        (ends blank_halts blank_goes s outside i l, ends_st blank_halts blank_goes s outside i l)
    by false e =
        let l = leb-false (length s) i e in
        let c = get_or s i 0 in
        let h = no_blank (class_of c) (get_or s (i + 1) 0) (eqb c 47) (w l) (slash_byte c) f in
        (stops blank_halts blank_goes s outside i l h, stops_st blank_halts blank_goes s outside i l h)

-- a word begins with a plain byte or one of / [ ] and the backslash
starts : (k d : ℕ) → word_stop 0 k d ≡ false → k ≤ 12 → (7 ≤ k) × (k ≤ 11)
unfolding word_stop
starts k d h m = by (eqb k 7) refl (eqb k 9) refl (eqb k 10) refl (eqb k 8) refl (eqb k 11) refl h
  where
    by : (a : Bool) → eqb k 7 ≡ a → (b : Bool) → eqb k 9 ≡ b → (c : Bool) → eqb k 10 ≡ c → (e : Bool) → eqb k 8 ≡ e → (f : Bool) → eqb k 11 ≡ f →
        pick a false (pick b false (pick c false (pick e (commences d) (pick f (not (within 0x21 0x7E d)) (pick (eqb k 4) true true))))) ≡ false → (7 ≤ k) × (k ≤ 11)
    by true p b q c r e s f t g = let z = eqb-true k 7 p in (omega arith, omega arith)
    by false p true q c r e s f t g = let z = eqb-true k 9 q in (omega arith, omega arith)
    by false p false q true r e s f t g = let z = eqb-true k 10 r in (omega arith, omega arith)
    by false p false q false r true s f t g = let z = eqb-true k 8 s in (omega arith, omega arith)
    by false p false q false r false s true t g = let z = eqb-true k 11 t in (omega arith, omega arith)
    by false p false q false r false s false t g = absurd (true≢false (either (eqb k 4) g))
      where
        either : (v : Bool) → pick v true true ≡ false → true ≡ false
        either true u = u
        either false u = u

pub word_starts : (s : List ℕ) (i : ℕ) → i < length s → i < word_end s i → (7 ≤ class_of (get_or s i 0)) × (class_of (get_or s i 0) ≤ 11)
word_starts s i h l = by (word_halts 0 (get_or s i 0) (get_or s (i + 1) 0)) refl
  where
    by : (v : Bool) → word_halts 0 (get_or s i 0) (get_or s (i + 1) 0) ≡ v → (7 ≤ class_of (get_or s i 0)) × (class_of (get_or s i 0) ≤ 11)
    by true e = let z = stops word_halts word_goes s 0 i h e in absurd (omega arith)
    by false e = starts (class_of (get_or s i 0)) (get_or s (i + 1) 0) e (class_most (get_or s i 0))

-- and no mark goes on with one
mark_halts : (c d : ℕ) → (mark_of c ≡ 0 → ⊥) → word_halts 0 c d ≡ true
mark_halts c d n = by (word_halts 0 c d) refl
  where
    by : (v : Bool) → word_halts 0 c d ≡ v → v ≡ true
    by true e = refl
    by false e =
        let m = marked c (mark_of c) refl n in
        absurd (omega (arith, m.0, m.2, (starts (class_of c) d e (class_most c)).0))

-- where a comment begins, no word does
pub uncommented : (s : List ℕ) (i : ℕ) → i < length s → i < word_end s i → commented s i ≡ false
unfolding word_stop
uncommented s i h l = by (eqb c 47) refl (commences d) refl
  where
    c : ℕ
    c = get_or s i 0

    d : ℕ
    d = get_or s (i + 1) 0

    by : (v : Bool) → eqb c 47 ≡ v → (w : Bool) → commences d ≡ w → and v w ≡ false
    by true e true f =
        let k : class_of c ≡ 8 = eqb-true (class_of c) 8 (slash_byte c ∙ e) in
        let z = stops word_halts word_goes s 0 i h (rw k f) in
        absurd (omega arith)
    by true e false f = refl
    by false e w f = refl

-- so no word goes on from one
pub mark_ends : (s : List ℕ) (i : ℕ) → (mark_of (get_or s i 0) ≡ 0 → ⊥) → word_end s i ≡ i
mark_ends s i n = by (leb (length s) i) refl
  where
    by : (v : Bool) → leb (length s) i ≡ v → word_end s i ≡ i
    by true e = ends word_halts word_goes s 0 i (leb-true (length s) i e)
    by false e = stops word_halts word_goes s 0 i (leb-false (length s) i e) (mark_halts (get_or s i 0) (get_or s (i + 1) 0) n)

-- n plain bytes
pub plain-all : (s : List ℕ) (i n : ℕ) → i + n ≤ length s → ((k : ℕ) → i ≤ k → k < i + n → class_of (get_or s k 0) ≡ 7) → word_from 0 s (i + n) ≡ word_from 0 s i
plain-all s i zero h f = ap (word_from 0 s) (add-zero i)
plain-all s i (suc n) h f =
    ap (word_from 0 s) (let z : i + suc n ≡ i + n + 1 = omega arith in z)
    ∙ plain-goes s 0 (i + n) (omega arith) (omega arith) (f (i + n) (omega arith) (omega arith))
    ∙ plain-all s i n (omega arith) (λ k l u. f k l (omega arith))
