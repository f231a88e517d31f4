-- A mark, a string and a word where neither white space nor a comment begins.
-- Assumes nothing.
use Rattle.std.specs.Prelude.{ℕ, ◌+◌, ◌-◌, ◌<◌, ◌≡◌, false, List, ltb, length, get_or}
use Rattle.std.proofs.Common.{arith, le-leb, ne_eqb}
use Rattle.std.proofs.lemmas.Bool.{lt-leb}
use Rattle.classes.specs.Classes.{class_of, mark_of}
use Rattle.classes.specs.ClassLaws.{marked}
use Rattle.scanning.specs.Machines.{word_end}
use Rattle.scanning.specs.RunLaws.{word_starts}
use Rattle.tokenforms.specs.Tokens.{token_of, token_here, string_at}
use Rattle.tokenforms.specs.Tokens.{Got}

pub mark-here : (s : List ℕ) (i k : ℕ) → i < length s → mark_of (get_or s i 0) ≡ k → (k ≡ 0 → ⊥) → token_here s i ≡ Got k i (i + 1) false
unfolding token_of
mark-here s i k h e n =
    let m = marked (get_or s i 0) k e n in
    rw (lt-leb (length s) i h, m.0, ne_eqb k 0 n, le-leb k 5 m.2)

pub string_here : (s : List ℕ) (i : ℕ) → i < length s → get_or s i 0 ≡ 34 → token_here s i ≡ string_at s i
unfolding token_of class_of
string_here s i h e = rw (lt-leb (length s) i h, e)

pub word_here : (s : List ℕ) (i e : ℕ) → i < length s → word_end s i ≡ e → i < e → token_here s i ≡ Got 7 i e (ltb 1024 (e - i))
unfolding token_of
word_here s i e h w l =
    let k = class_of (get_or s i 0) in
    let b = word_starts s i h (rw w l) in
    rw (lt-leb (length s) i h, ne_eqb k 0 (λ z. omega arith), lt-leb k 5 (omega arith), ne_eqb k 6 (λ z. omega arith), ne_eqb k 12 (λ z. omega arith), w, lt-leb e i l)
