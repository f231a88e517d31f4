-- The tokens of a text with their places, and what ends them. Tokens go forward and stay inside the text.
-- Assumes nothing.
use Rattle.std.specs.Prelude.{ℕ, zero, suc, ◌+◌, ◌-◌, ◌≤◌, ◌<◌, ◌≡◌, refl, Bool, true, false, List, [], ◌∷◌, leb, ltb, eqb, length, take, drop, Result, Ok, Err, Some, None, Option}
use Rattle.std.proofs.Common.{not-suc-le-zero, arith, sym, ap, subst, ◌∙◌, length-drop, le-leb, leb-false, ltb-true}
use Rattle.std.proofs.lemmas.Option.{none-some, same_Some}
use Rattle.classes.specs.Choice.{pick}
use Rattle.scanning.specs.Scan.{scan_le, ends, ends_st}
use Rattle.scanning.specs.Machines.{word_halts, word_goes, blank_halts, blank_goes, outside}
use Rattle.tokenforms.specs.Tokens.{string_of, token_of, behind, token_at, block_end, closing, spoilt}
use Rattle.scanning.specs.Machines.{blank_end, blank_at}
use Rattle.scanning.specs.declared.Blank.{Blank}
use Rattle.tokenforms.specs.declared.Token.{Token}
use Rattle.tokenforms.specs.declared.Refusal.{Refusal}
use Rattle.tokenforms.specs.Tokens.{Got, Refused}

-- A token starts at i or behind it, and ends behind its start and within n bytes; what is none has its place within them.
abbrev pub Good : ℕ → ℕ → Result Token Refusal → Type 0
Good i n (Ok tok) = (i ≤ tok.start) × (tok.start < tok.end) × (tok.end ≤ n)
Good i n (Err why) = why.place ≤ n

either : (i n : ℕ) (t : Bool) (x y : Result Token Refusal) → (t ≡ true → Good i n x) → (t ≡ false → Good i n y) → Good i n (pick t x y)
either i n true x y f g = f refl
either i n false x y f g = g refl

good_string : (s : List ℕ) (p i : ℕ) → p ≤ i → i < length s → Good p (length s) (string_of s i (spoilt s (i + 1)) (closing s (i + 1)))
unfolding string_of
good_string s p i a b =
    either p (length s) (leb (length s) (closing s (i + 1))) _ _ (λ t. omega arith)
    (λ t. by (ltb (spoilt s (i + 1)) (closing s (i + 1))) refl (leb-false (length s) (closing s (i + 1)) t))
  where
    by : (t : Bool) → ltb (spoilt s (i + 1)) (closing s (i + 1)) ≡ t → closing s (i + 1) < length s
        → (p ≤ i) × (i < pick t (spoilt s (i + 1)) (closing s (i + 1) + 1)) × (pick t (spoilt s (i + 1)) (closing s (i + 1) + 1) ≤ length s)
    by true e h = (omega arith, omega arith, omega (arith, ltb-true (spoilt s (i + 1)) (closing s (i + 1)) e))
    by false e h = (omega arith, omega arith, omega arith)

good_token : (s : List ℕ) (p i k w : ℕ) → p ≤ i → i ≤ length s → w ≤ length s → Good p (length s) (token_of s i k w)
unfolding token_of
good_token s p i k w a b c =
    either p (length s) (leb (length s) i) _ _ (λ t. b)
    (λ t. let l = leb-false (length s) i t in
    either p (length s) (eqb k 0) _ _ (λ t. b)
    (λ t. either p (length s) (leb k 5) _ _ (λ t. (a, omega arith, omega arith))
    (λ t. either p (length s) (eqb k 6) _ _ (λ t. good_string s p i a l)
    (λ t. either p (length s) (eqb k 12) _ _ (λ t. (a, omega arith, omega arith))
    (λ t. either p (length s) (leb w i) _ _ (λ t. b) (λ t. (a, leb-false w i t, c)))))))

good-behind : (s : List ℕ) (p i : ℕ) (b : Blank) → p ≤ i → i ≤ length s → Good p (length s) (behind s i b)
unfolding behind
good-behind s p i b a h =
    either p (length s) (eqb b.mode 0) _ _
    (λ t. good_token s p i _ _ a h (omega (arith, scan_le word_halts word_goes 0 (drop i s), length-drop i s)))
    (λ t. either p (length s) (eqb b.mode 1) _ _
    (λ t. either p (length s) (leb (length s) i) _ _ (λ t. h) (λ t. h))
    (λ t. either p (length s) (leb (length s) (block_end s i)) _ _ (λ t. omega arith) (λ t. h)))

-- tokens go forward and stay inside the text
pub token_good : (s : List ℕ) (p : ℕ) → p ≤ length s → Good p (length s) (token_at s p)
unfolding token_at
token_good s p h =
    good-behind s p (blank_end s p) (blank_at s p) (omega arith)
    (omega (arith, scan_le blank_halts blank_goes outside (drop p s), length-drop p s))

pub onwards : (s : List ℕ) (p k b e : ℕ) (l : Bool) → p ≤ length s → token_at s p ≡ Got k b e l → (p ≤ b) × (b < e) × (e ≤ length s)
onwards s p k b e l h q = subst (λ x. Good p (length s) x) q (token_good s p h)

-- behind the text's end the text ends
pub token_beyond : (s : List ℕ) (p : ℕ) → length s ≤ p → token_at s p ≡ Refused 4 p
unfolding token_at behind token_of
token_beyond s p h =
    rw (ends blank_halts blank_goes s outside p h, ends_st blank_halts blank_goes s outside p h, le-leb (length s) p h)

-- the bytes of a text from b up to e
abbrev pub part : ℕ → ℕ → List ℕ → List ℕ
part b e s = take (e - b) (drop b s)

-- a token with its place, its bytes, and whether it is over 1,024 bytes long (a string: its content)
pub record Placed : Type 0 where
  pub kind : ℕ
  pub start : ℕ
  pub end : ℕ
  pub long : Bool
  pub bytes : List ℕ

abbrev pub placed : List ℕ → ℕ → ℕ → ℕ → Bool → Placed
placed s k b e l = record { kind = k; start = b; end = e; long = l; bytes = part b e s }

-- the tokens of a text from a place on, and the refusal that ends them: 2 or 3, or 4 at the text's end
pub record Stream : Type 0 where
  pub toks : List Placed
  pub number : ℕ
  pub place : ℕ

abbrev pub more : Placed → Stream → Stream
more t r = record { toks = t ∷ r.toks; number = r.number; place = r.place }

abbrev pub onward : List ℕ → Result Token Refusal → (ℕ → Stream) → Stream
onward s (Ok tok) f = more (placed s tok.kind tok.start tok.end tok.long) (f tok.end)
onward s (Err why) f = record { toks = []; number = why.number; place = why.place }

-- of these, the first n; each token goes forward, so that as many as the text has bytes, and one more, are all
unfoldable pub row : ℕ → List ℕ → ℕ → Stream
row zero s p = record { toks = []; number = 0; place = 0 }
row (suc n) s p = onward s (token_at s p) (row n s)

unfoldable pub stream : List ℕ → ℕ → Stream
stream s p = row (suc (length s - p)) s p

enough : (f g : ℕ) (s : List ℕ) (p : ℕ) → p ≤ length s → length s - p < f → length s - p < g → row f s p ≡ row g s p
unfolding row
enough zero g s p h hf hg = absurd (not-suc-le-zero hf)
enough (suc f) zero s p h hf hg = absurd (not-suc-le-zero hg)
enough (suc f) (suc g) s p h hf hg = by (token_at s p) refl (enough f g s)
  where
    by : (t : Result Token Refusal) → token_at s p ≡ t → ((q : ℕ) → q ≤ length s → length s - q < f → length s - q < g → row f s q ≡ row g s q)
        → onward s t (row f s) ≡ onward s t (row g s)
    by (Ok tok) q ih =
        let z = onwards s p tok.kind tok.start tok.end tok.long h q in ap (λ r. more (placed s tok.kind tok.start tok.end tok.long) r) (ih tok.end z.2 (omega arith) (omega arith))
    by (Err why) q ih = refl

-- the tokens from a place on: the one there, and those from its end on
pub stream_turn : (s : List ℕ) (p : ℕ) → p ≤ length s → stream s p ≡ onward s (token_at s p) (stream s)
unfolding row stream
stream_turn s p h = by (token_at s p) refl
  where
    by : (t : Result Token Refusal) → token_at s p ≡ t → onward s t (row (length s - p) s) ≡ onward s t (λ q. row (suc (length s - q)) s q)
    by (Ok tok) q =
        let z = onwards s p tok.kind tok.start tok.end tok.long h q in
        ap (λ r. more (placed s tok.kind tok.start tok.end tok.long) r) (enough (length s - p) (suc (length s - tok.end)) s tok.end z.2 (omega arith) (omega arith))
    by (Err why) q = refl

abbrev pub count : List Placed → ℕ
count [] = 0
count (t ∷ ts) = suc (count ts)

-- where a token ends
abbrev pub end_of : Result Token Refusal → Option ℕ
end_of (Ok tok) = Some tok.end
end_of (Err why) = None

-- so many tokens are left behind one that ends at e, and none where there is none
pub count-one : (s : List ℕ) (p e : ℕ) → p ≤ length s → Some e ≡ end_of (token_at s p)
    → (count (stream s p).toks ≡ suc (count (stream s e).toks)) × (p < e) × (e ≤ length s)
count-one s p e h q = by (token_at s p) refl q
  where
    by : (t : Result Token Refusal) → token_at s p ≡ t → Some e ≡ end_of t → (count (stream s p).toks ≡ suc (count (stream s e).toks)) × (p < e) × (e ≤ length s)
    by (Ok tok) t z =
        let w = onwards s p tok.kind tok.start tok.end tok.long h t in
        let same : e ≡ tok.end = same_Some _ _ z in
        (ap (λ r. count r.toks) (stream_turn s p h) ∙ ap (λ x. count (onward s x (stream s)).toks) t ∙ ap (λ x. suc (count (stream s x).toks)) (sym same), omega arith, omega arith)
    by (Err why) t z = absurd (none-some _ (sym z))

pub count_none : (s : List ℕ) (p : ℕ) → p ≤ length s → None ≡ end_of (token_at s p) → count (stream s p).toks ≡ 0
count_none s p h q = by (token_at s p) refl q
  where
    by : (t : Result Token Refusal) → token_at s p ≡ t → None ≡ end_of t → count (stream s p).toks ≡ 0
    by (Ok tok) t z = absurd (none-some _ z)
    by (Err why) t z = ap (λ r. count r.toks) (stream_turn s p h) ∙ ap (λ x. count (onward s x (stream s)).toks) t
