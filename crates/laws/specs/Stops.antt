-- The places of a text's tokens rise; what ends the tokens stands behind them all, and is 2, 3, or 4 at the text's end.
-- Assumes nothing.
use Rattle.std.specs.Prelude.{◌≡◌, refl, Bool, true, false, List, [], ◌∷◌, ◌++◌, ◌⊎◌, ℕ, zero, suc, ◌+◌, ◌-◌, ◌≤◌, ◌<◌, leb, eqb, length, drop, get_or, Result, Ok, Err}
use Rattle.std.proofs.Common.{inl, inr, zero-le, not-suc-le-zero, arith, length-drop, leb-true}
use Rattle.classes.specs.Choice.{pick}
use Rattle.classes.specs.Classes.{class_of}
use Rattle.scanning.specs.Scan.{scan_len, scan_st, scan_le}
use Rattle.scanning.specs.Machines.{blank_halts, blank_goes, outside, mode_next}
use Rattle.tokenforms.specs.Tokens.{string_of, token_of, behind, token_at, block_end, closing}
use Rattle.scanning.specs.Machines.{blank_end, blank_at}
use Rattle.tokens.specs.Stream.{Placed, Stream, stream, stream_turn, onward, onwards}
use Rattle.scanning.specs.declared.Blank.{Blank}
use Rattle.tokenforms.specs.declared.Token.{Token}
use Rattle.tokenforms.specs.declared.Refusal.{Refusal}
use Rattle.tokenforms.specs.Tokens.{Got, Refused}

-- the number and the place of what ends the tokens of n bytes
abbrev pub Ends : ℕ → ℕ → ℕ → Type 0
Ends n r q = (r ≡ 2) ⊎ ((r ≡ 3) ⊎ ((r ≡ 4) × (q ≡ n)))

abbrev Stops : ℕ → ℕ → Result Token Refusal → Type 0
Stops p n (Ok tok) = 0 ≤ 0
Stops p n (Err why) = (p ≤ why.place) × Ends n why.number why.place

either : (p n : ℕ) (t : Bool) (x y : Result Token Refusal) → (t ≡ true → Stops p n x) → (t ≡ false → Stops p n y) → Stops p n (pick t x y)
either p n true x y f g = f refl
either p n false x y f g = g refl

two : {p n q : ℕ} → p ≤ q → (p ≤ q) × Ends n 2 q
two h = (h, inl refl)

three : {p n q : ℕ} → p ≤ q → (p ≤ q) × Ends n 3 q
three h = (h, inr (inl refl))

-- the text's end is met at its end
four : {p n q : ℕ} → p ≤ q → q ≤ n → leb n q ≡ true → (p ≤ q) × Ends n 4 q
four {p} {n} {q} h i e = let z = leb-true n q e in (h, inr (inr (refl, omega arith)))

stop_token : (s : List ℕ) (p i k w : ℕ) → p ≤ i → i ≤ length s → Stops p (length s) (token_of s i k w)
unfolding token_of string_of
stop_token s p i k w a b =
    either p (length s) (leb (length s) i) _ _ (λ t. four a b t)
    (λ t. either p (length s) (eqb k 0) _ _ (λ t. two a)
    (λ t. either p (length s) (leb k 5) _ _ (λ t. zero-le)
    (λ t. either p (length s) (eqb k 6) _ _ (λ t. either p (length s) (leb (length s) (closing s (i + 1))) _ _ (λ t. three a) (λ t. zero-le))
    (λ t. either p (length s) (eqb k 12) _ _ (λ t. zero-le)
    (λ t. either p (length s) (leb w i) _ _ (λ t. two a) (λ t. zero-le))))))

-- a comment opened within the white space and comments that were skipped
pub since_within : (b : Blank) (l : List ℕ) → (scan_st blank_halts blank_goes b l).since ≤ b.since + scan_len blank_halts blank_goes b l
unfolding scan_len scan_st blank_goes
since_within b [] = omega arith
since_within b (c ∷ l) =
    by (blank_halts b c (get_or l 0 0)) (scan_st blank_halts blank_goes (blank_goes b c (get_or l 0 0)) l)
    (blank_goes b c (get_or l 0 0)).since (scan_len blank_halts blank_goes (blank_goes b c (get_or l 0 0)) l)
    (since_within (blank_goes b c (get_or l 0 0)) l) (one (eqb (mode_next b.mode (class_of c) c (get_or l 0 0)) 0))
  where
    by : (v : Bool) (x : Blank) (m n : ℕ) → x.since ≤ m + n → m ≤ b.since + 1 → (pick v b x).since ≤ b.since + pick v 0 (suc n)
    by true x m n h i = omega arith
    by false x m n h i = omega arith

    one : (v : Bool) → pick v 0 (b.since + 1) ≤ b.since + 1
    one true = omega arith
    one false = omega arith

pub stop-good : (s : List ℕ) (p : ℕ) → p ≤ length s → Stops p (length s) (token_at s p)
unfolding token_at behind
stop-good s p h =
    let i : blank_end s p ≤ length s = omega (arith, scan_le blank_halts blank_goes outside (drop p s), length-drop p s) in
    let z = since_within outside (drop p s) in
    either p (length s) (eqb (blank_at s p).mode 0) _ _ (λ t. stop_token s p (blank_end s p) _ _ (omega arith) i)
    (λ t. either p (length s) (eqb (blank_at s p).mode 1) _ _
    (λ t. either p (length s) (leb (length s) (blank_end s p)) _ _ (λ t. four (omega arith) i t) (λ t. two (omega arith)))
    (λ t. either p (length s) (leb (length s) (block_end s (blank_end s p))) _ _ (λ t. three (omega arith)) (λ t. two (omega arith))))

-- tokens from a place p on, with what ends them at e: each starts where the last one ended or behind it
abbrev pub Rises : ℕ → List Placed → ℕ → Type 0
Rises p [] e = p ≤ e
Rises p (t ∷ ts) e = (p ≤ t.start) × (t.start < t.end) × Rises t.end ts e

abbrev Good : ℕ → ℕ → Stream → Type 0
Good p n r = Rises p r.toks r.place × Ends n r.number r.place

good : (f : ℕ) (s : List ℕ) (p : ℕ) → p ≤ length s → length s - p < f → Good p (length s) (stream s p)
good zero s p h l = absurd (not-suc-le-zero l)
good (suc f) s p h l = rw (stream_turn s p h) (by (token_at s p) refl (stop-good s p h) (good f s))
  where
    by : (t : Result Token Refusal) → token_at s p ≡ t → Stops p (length s) t → ((e : ℕ) → e ≤ length s → length s - e < f → Good e (length s) (stream s e)) →
        Good p (length s) (onward s t (stream s))
    by (Ok tok) q g ih =
        let (u, v, w) = onwards s p tok.kind tok.start tok.end tok.long h q in
        let (r, z) = ih tok.end w (omega arith) in
        ((u, v, r), z)
    by (Err why) q g ih = g

-- THE PLACES RISE
pub rises : (s : List ℕ) → Rises 0 (stream s 0).toks (stream s 0).place
rises s = (good (suc (length s)) s 0 zero-le (omega arith)).0

-- WHAT ENDS THE TOKENS
pub ends : (s : List ℕ) → Ends (length s) (stream s 0).number (stream s 0).place
ends s = (good (suc (length s)) s 0 zero-le (omega arith)).1

-- a token further on starts further on, and before the end
pub later : (p : ℕ) (a : List Placed) (t : Placed) (b : List Placed) (e : ℕ) → Rises p (a ++ t ∷ b) e → (p ≤ t.start) × (t.start < e)
later p [] t b e (h, i, r) = (h, omega (arith, at_most t.end b e r))
  where
    at_most : (p : ℕ) (l : List Placed) (e : ℕ) → Rises p l e → p ≤ e
    at_most p [] e r = r
    at_most p (t ∷ l) e (h, i, r) = let z = at_most t.end l e r in omega arith
later p (x ∷ a) t b e (h, i, r) = let (j, k) = later x.end a t b e r in (omega arith, k)

pub further : (p : ℕ) (a : List Placed) (t : Placed) (m : List Placed) (u : Placed) (b : List Placed) (e : ℕ) →
    Rises p (a ++ t ∷ (m ++ u ∷ b)) e → t.start < u.start
further p [] t m u b e (h, i, r) = let (j, k) = later t.end m u b e r in omega arith
further p (x ∷ a) t m u b e (h, i, r) = further x.end a t m u b e r
