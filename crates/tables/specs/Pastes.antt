-- Words pasted one behind the other are pasted at once.
-- Assumes nothing.
use Rattle.std.specs.Prelude.{◌≡◌, List, [], ◌++◌, ℕ, ◌+◌, ◌≤◌, length, take, drop}
use Rattle.std.proofs.Common.{◌∙◌, sym, append_assoc, append-nil, arith, add-zero, zero-add, length-append, take-append-drop, length-take-le, take_at, take_all, drop_at, drop-drop}
use Rattle.std.proofs.Math.Seq.{paste}
use Rattle.std.proofs.lemmas.List.Edits.{length-paste}

-- all of xs goes to the place a of t
abbrev pub put : List ℕ → ℕ → List ℕ → List ℕ
put t a xs = paste t a xs (length xs)

put_is : (t xs : List ℕ) (a : ℕ) → put t a xs ≡ (take a t ++ xs) ++ drop (a + length xs) t
put_is t xs a = rw (take_all (length xs) xs (omega arith))

-- a row behind what is there already
behind : (p t row : List ℕ) (i : ℕ) → length p ≡ i → put (p ++ drop i t) i row ≡ (p ++ row) ++ drop (i + length row) t
behind p t row i e =
    put_is (p ++ drop i t) row i
    ∙ rw (take_at p (drop i t) i e, ← drop-drop (length row) i (p ++ drop i t), drop_at p (drop i t) i e, drop-drop (length row) i t)

pub put-none : (t : List ℕ) (a : ℕ) → put t a [] ≡ t
put-none t a = put_is t [] a ∙ simp (append-nil, add-zero) (take-append-drop a t)

pub put-put : (t xs ys : List ℕ) (a b : ℕ) → b ≡ a + length xs → b ≤ length t → put (put t a xs) b ys ≡ put t a (xs ++ ys)
put-put t xs ys a b e h =
    let f : length (take a t ++ xs) ≡ b = length-append (take a t) xs ∙ rw (length-take-le a t (omega arith)) (sym e) in
    let g : b + length ys ≡ a + length (xs ++ ys) = (let z = length-append xs ys in omega arith) in
    rw (put_is t xs a, ← e) (behind (take a t ++ xs) t ys b f ∙ rw (append_assoc (take a t) xs ys, g) (sym (put_is t (xs ++ ys) a)))

pub length-put : (t xs : List ℕ) (a : ℕ) → a + length xs ≤ length t → length (put t a xs) ≡ length t
length-put t xs a h = length-paste t a xs (length xs) h (omega arith)

-- from the start on: the words, and what was there behind them
pub put_front : (t xs : List ℕ) → put t 0 xs ≡ xs ++ drop (length xs) t
put_front t xs = put_is t xs 0 ∙ rw (zero-add (length xs))
