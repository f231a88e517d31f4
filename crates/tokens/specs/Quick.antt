-- Marks, strings and words that a few tests find.
-- Assumes nothing.
use Rattle.std.specs.Prelude.{ℕ, ◌+◌, ◌-◌, ◌≤◌, ◌<◌, ◌≡◌, false, List, eqb, ltb, length, get_or}
use Rattle.std.proofs.Common.{arith, ap, sym, ◌∙◌, ne_eqb}
use Rattle.classes.specs.Choice.{and}
use Rattle.classes.specs.Classes.{class_of, mark_of}
use Rattle.classes.specs.ClassLaws.{slash_byte, marked}
use Rattle.scanning.specs.Machines.{commences, word_end, blank_end, blank_at}
use Rattle.scanning.specs.RunLaws.{unblank, word_starts, uncommented, plain-all}
use Rattle.tokenforms.specs.Tokens.{behind, string_at, token_at}
use Rattle.tokenforms.specs.HereLaws.{mark-here, string_here, word_here}
use Rattle.tokenforms.specs.Tokens.{Got}
use Rattle.tokens.specs.declared.Sign.{Sign}

pub white_token : (s : List ℕ) (i p : ℕ) → blank_end s i ≡ blank_end s p → blank_at s i ≡ blank_at s p → token_at s i ≡ token_at s p
unfolding token_at
white_token s i p e f = rw (e, f)

pub mark_token : (s : List ℕ) (i k : ℕ) → i < length s → mark_of (get_or s i 0) ≡ k → 2 ≤ k → token_at s i ≡ Got k i (i + 1) false
unfolding token_at behind
mark_token s i k h e l =
    let c = get_or s i 0 in
    let m = marked c k e (λ z. omega arith) in
    let slash : eqb c 47 ≡ false = sym (slash_byte c) ∙ ne_eqb (class_of c) 8 (λ z. omega arith) in
    let u = unblank s i (λ _ z. omega arith) (ap (λ b. and b (commences (get_or s (i + 1) 0))) slash) in
    rw (u.0, u.1) (mark-here s i k h e (λ z. omega arith))

pub string_token : (s : List ℕ) (i : ℕ) → i < length s → get_or s i 0 ≡ 34 → token_at s i ≡ string_at s i
unfolding token_at behind class_of
string_token s i h e =
    let quote : class_of (get_or s i 0) ≡ 6 = rw e in
    let u = unblank s i (λ _ z. omega arith) (rw e) in
    rw (u.0, u.1) (string_here s i h e)

pub word_token : (s : List ℕ) (i e : ℕ) → i < length s → word_end s i ≡ e → i < e → token_at s i ≡ Got 7 i e (ltb 1024 (e - i))
unfolding token_at behind
word_token s i e h w l =
    let b = word_starts s i h (rw w l) in
    let u = unblank s i (λ _ z. omega (arith, b.0)) (uncommented s i h (rw w l)) in
    rw (u.0, u.1) (word_here s i e h w l)

-- plain bytes up to a place from which no word goes on
pub plain_token : (s : List ℕ) (i e : ℕ) → i < e → e ≤ length s → ((k : ℕ) → i ≤ k → k < e → class_of (get_or s k 0) ≡ 7) → word_end s e ≡ e →
    token_at s i ≡ Got 7 i e (ltb 1024 (e - i))
plain_token s i e l h f w =
    let n : i + (e - i) ≡ e = omega arith in
    let r = plain-all s i (e - i) (omega arith) (λ k a b. f k a (omega arith)) in
    word_token s i e (omega arith) (sym r ∙ ap (word_end s) n ∙ w) l

-- a mark seen at once: its token; and the place from which the token is the same
abbrev pub Signed : List ℕ → ℕ → Sign → Type 0
Signed s p r =
    (token_at s r.place ≡ token_at s p) × (r.place ≤ length s) × (2 ≤ r.kind → (token_at s p ≡ Got r.kind r.place (r.place + 1) false) × (r.place + 1 ≤ length s))
