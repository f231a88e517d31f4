-- token_shift: behind a prefix, a text has the tokens that it has alone, with their places moved.
-- Assumes nothing.
use Rattle.std.specs.Prelude.{ℕ, suc, ◌+◌, ◌-◌, ◌≤◌, ◌≡◌, refl, Bool, true, false, List, [], ◌∷◌, ◌++◌, leb, ltb, eqb, length, drop, get_or, Result, Ok, Err}
use Rattle.std.proofs.Common.{add_assoc, arith, length-append, get_or-append-add, le-leb, leb-true, leb-false, lt-ltb, le-ltb, ltb-true, ltb-false}
use Rattle.std.proofs.Math.Seq.{drop-append-add}
use Rattle.std.proofs.lemmas.Bool.{lt-leb}
use Rattle.classes.specs.Choice.{pick}
use Rattle.classes.specs.Classes.{class_of}
use Rattle.scanning.specs.Scan.{scan_len, scan_st, scan-cons, scan_cons_st}
use Rattle.scanning.specs.Machines.{mode_next, word_end, blank_halts, blank_goes, outside}
use Rattle.tokenforms.specs.Tokens.{closing, spoilt, block_end, string_of, string_at, token_of, token_here, behind, token_at}
use Rattle.scanning.specs.declared.Blank.{Blank}
use Rattle.tokenforms.specs.declared.Token.{Token}
use Rattle.tokenforms.specs.declared.Refusal.{Refusal}
use Rattle.tokenforms.specs.Tokens.{Got, Refused}

-- a token n bytes further on
unfoldable pub moved : ℕ → Result Token Refusal → Result Token Refusal
moved n (Ok tok) = Got tok.kind (n + tok.start) (n + tok.end) tok.long
moved n (Err why) = Refused why.number (n + why.place)

pub moved_got : (n k b e : ℕ) (l : Bool) → moved n (Got k b e l) ≡ Got k (n + b) (n + e) l
unfolding moved
moved_got n k b e l = refl

pub moved-stop : (n r p : ℕ) → moved n (Refused r p) ≡ Refused r (n + p)
unfolding moved
moved-stop n r p = refl

moved-pick : (n : ℕ) (b : Bool) (x y : Result Token Refusal) → moved n (pick b x y) ≡ pick b (moved n x) (moved n y)
moved-pick n true x y = refl
moved-pick n false x y = refl

-- tests and differences do not see the move
leb-move : (n a b : ℕ) → leb (n + a) (n + b) ≡ leb a b
leb-move n a b = by (leb a b) refl
  where
    by : (t : Bool) → leb a b ≡ t → leb (n + a) (n + b) ≡ t
    by true e = le-leb (n + a) (n + b) (omega (arith, leb-true a b e))
    by false e = lt-leb (n + a) (n + b) (omega (arith, leb-false a b e))

ltb-move : (n a b : ℕ) → ltb (n + a) (n + b) ≡ ltb a b
ltb-move n a b = by (ltb a b) refl
  where
    by : (t : Bool) → ltb a b ≡ t → ltb (n + a) (n + b) ≡ t
    by true e = lt-ltb (n + a) (n + b) (omega (arith, ltb-true a b e))
    by false e = le-ltb (n + a) (n + b) (omega (arith, ltb-false a b e))

sub-move : (n a b : ℕ) → n + a - (n + b) ≡ a - b
sub-move n a b = omega arith

pick-move : (n : ℕ) (t : Bool) (a b : ℕ) → pick t (n + a) (n + b) ≡ n + pick t a b
pick-move n true a b = refl
pick-move n false a b = refl

string_moves : (a x : List ℕ) (i e f : ℕ) → string_of (a ++ x) (length a + i) (length a + e) (length a + f) ≡ moved (length a) (string_of x i e f)
unfolding string_of
string_moves a x i e f =
    simp (moved-pick, moved_got, moved-stop, length-append, leb-move, ltb-move, add_assoc, sub-move, pick-move)

-- the ends of the scanners move along
spoilt-moves : (a x : List ℕ) (i : ℕ) → spoilt (a ++ x) (length a + i) ≡ length a + spoilt x i
spoilt-moves a x i = rw (drop-append-add a x i) (add_assoc (length a) i _)

closing-moves : (a x : List ℕ) (i : ℕ) → closing (a ++ x) (length a + i) ≡ length a + closing x i
closing-moves a x i = rw (drop-append-add a x i) (add_assoc (length a) i _)

block_moves : (a x : List ℕ) (i : ℕ) → block_end (a ++ x) (length a + i) ≡ length a + block_end x i
block_moves a x i = rw (drop-append-add a x i) (add_assoc (length a) i _)

word_moves : (a x : List ℕ) (i : ℕ) → word_end (a ++ x) (length a + i) ≡ length a + word_end x i
word_moves a x i = rw (drop-append-add a x i) (add_assoc (length a) i _)

string_at-moves : (a x : List ℕ) (i : ℕ) → string_at (a ++ x) (length a + i) ≡ moved (length a) (string_at x i)
string_at-moves a x i =
    rw (add_assoc (length a) i 1, spoilt-moves a x (i + 1), closing-moves a x (i + 1))
    (string_moves a x i (spoilt x (i + 1)) (closing x (i + 1)))

token_of-moves : (a x : List ℕ) (i k e : ℕ) → token_of (a ++ x) (length a + i) k (length a + e) ≡ moved (length a) (token_of x i k e)
unfolding token_of
token_of-moves a x i k e =
    rw (string_at-moves a x i) (simp (moved-pick, moved_got, moved-stop, length-append, leb-move, add_assoc, sub-move))

token_here-moves : (a x : List ℕ) (i : ℕ) → token_here (a ++ x) (length a + i) ≡ moved (length a) (token_here x i)
token_here-moves a x i = rw (word_moves a x i, get_or-append-add a x i 0) (token_of-moves a x i (class_of (get_or x i 0)) (word_end x i))

behind-moves : (a x : List ℕ) (i : ℕ) (b : Blank) → b.since ≤ i → behind (a ++ x) (length a + i) b ≡ moved (length a) (behind x i b)
unfolding behind
behind-moves a x i b h =
    let d : length a + i - b.since ≡ length a + (i - b.since) = omega arith in
    rw (token_here-moves a x i, block_moves a x i, d) (simp (moved-pick, moved-stop, length-append, leb-move))

since_next_lem : (b : Blank) (c d : ℕ) → (blank_goes b c d).since ≤ b.since + 1
unfolding blank_goes
since_next_lem b c d = by (eqb (mode_next b.mode (class_of c) c d) 0)
  where
    by : (t : Bool) → pick t 0 (b.since + 1) ≤ b.since + 1
    by true = omega arith
    by false = omega arith

-- the bytes since an opening are among those taken
since_le : (b : Blank) (r : List ℕ) → (scan_st blank_halts blank_goes b r).since ≤ b.since + scan_len blank_halts blank_goes b r
unfolding scan_len scan_st
since_le b [] = omega arith
since_le b (c ∷ r) =
    rw (scan-cons blank_halts blank_goes b c r, scan_cons_st blank_halts blank_goes b c r)
    (by (blank_halts b c (get_or r 0 0)) (blank_goes b c (get_or r 0 0)) (since_next_lem b c (get_or r 0 0)) (since_le (blank_goes b c (get_or r 0 0)) r))
  where
    by : (t : Bool) (b' : Blank) → b'.since ≤ b.since + 1
        → (scan_st blank_halts blank_goes b' r).since ≤ b'.since + scan_len blank_halts blank_goes b' r
        → (pick t b (scan_st blank_halts blank_goes b' r)).since ≤ b.since + pick t 0 (suc (scan_len blank_halts blank_goes b' r))
    by true b' h k = omega arith
    by false b' h k = omega arith

pub token_shift : (a x : List ℕ) (i : ℕ) → token_at (a ++ x) (length a + i) ≡ moved (length a) (token_at x i)
unfolding token_at
token_shift a x i =
    let b = scan_st blank_halts blank_goes outside (drop i x) in
    let n = scan_len blank_halts blank_goes outside (drop i x) in
    rw (drop-append-add a x i, add_assoc (length a) i n) (behind-moves a x (i + n) b (omega (arith, since_le outside (drop i x))))
