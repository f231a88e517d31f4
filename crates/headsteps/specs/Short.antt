-- A word of a table is never over 1,024 bytes long.
-- Assumes nothing.
use Rattle.std.specs.Prelude.{◌≡◌, refl, Bool, true, false, List, ℕ, ◌+◌, ◌-◌, ◌≤◌, eqb, leb, ltb, length, drop, Result, Ok, Err}
use Rattle.std.proofs.Common.{sym, ◌∙◌, subst, arith, length-drop, length-take-le, leb-true, le-ltb}
use Rattle.classes.specs.Choice.{pick}
use Rattle.scanning.specs.declared.Blank.{Blank}
use Rattle.tokenforms.specs.declared.Token.{Token}
use Rattle.tokenforms.specs.declared.Refusal.{Refusal}
use Rattle.tokenforms.specs.Tokens.{Got}
use Rattle.tokenforms.specs.Tokens.{string_of, token_of, behind, token_at, block_end, spoilt, closing}
use Rattle.scanning.specs.Machines.{blank_end, blank_at}
use Rattle.tokens.specs.Stream.{part, onwards}
use Rattle.words.specs.Words.{Key, find, key_of, scale_of, divider_of, edge_of, unit_of}
use Rattle.words.specs.Words as w
use Rattle.words.specs.Laws.{stands, held, every}
use Rattle.grammar.specs.Grammar.{Table, keys, scales, dividers, edges, units, number_in}

-- a word is too long if it has over 1,024 bytes
abbrev Fair : Result Token Refusal → Type 0
Fair (Ok tok) = tok.kind ≡ 7 → tok.long ≡ ltb 1024 (tok.end - tok.start)
Fair (Err why) = Unit {0}

either : (t : Bool) (x y : Result Token Refusal) → Fair x → Fair y → Fair (pick t x y)
either true x y f g = f
either false x y f g = g

fair_mark : (k i : ℕ) → Fair (Got k i (i + 1) false)
fair_mark k i q = sym (le-ltb 1024 (i + 1 - i) (omega arith))

fair_string : (s : List ℕ) (i e f : ℕ) → Fair (string_of s i e f)
unfolding string_of
fair_string s i e f = either (leb (length s) f) _ _ tt (λ q. absurd (omega arith))

fair_token : (s : List ℕ) (i k e : ℕ) → Fair (token_of s i k e)
unfolding token_of
fair_token s i k e =
    either (leb (length s) i) _ _ tt
    (either (eqb k 0) _ _ tt
    (either (leb k 5) _ _ (fair_mark k i)
    (either (eqb k 6) _ _ (fair_string s i (spoilt s (i + 1)) (closing s (i + 1)))
    (either (eqb k 12) _ _ (fair_mark k i)
    (either (leb e i) _ _ tt (λ q. refl))))))

fair_behind : (s : List ℕ) (i : ℕ) (b : Blank) → Fair (behind s i b)
unfolding behind
fair_behind s i b =
    either (eqb b.mode 0) _ _ (fair_token s i _ _)
    (either (eqb b.mode 1) _ _ (either (leb (length s) i) _ _ tt tt) (either (leb (length s) (block_end s i)) _ _ tt tt))

fair : (s : List ℕ) (p : ℕ) → Fair (token_at s p)
unfolding token_at
fair s p = fair_behind s (blank_end s p) (blank_at s p)

within_16 : (t : List Key) (v : List ℕ) → every (λ k. leb (length k.word) 16) t ≡ true → 1 ≤ find t v → length v ≤ 16
within_16 t v e h =
    leb-true (length v) 16
    (held (λ k. leb (length k.word) 16) t (record { word = v; number = find t v }) e (stands t v (find t v) h refl))

-- no table has a word of more than 16 bytes
at_most_16 : (c : Table) (v : List ℕ) → 1 ≤ number_in c v → length v ≤ 16
unfolding key_of scale_of divider_of edge_of unit_of
at_most_16 keys v h = within_16 w.keywords v refl h
at_most_16 scales v h = within_16 w.scales v refl h
at_most_16 dividers v h = within_16 w.dividers v refl h
at_most_16 edges v h = within_16 w.edges v refl h
at_most_16 units v h = within_16 w.units v refl h

pub short : (s : List ℕ) (p k b e : ℕ) (long : Bool) (c : Table) → p ≤ length s → token_at s p ≡ Got k b e long →
    k ≡ 7 → 1 ≤ number_in c (part b e s) → long ≡ false
short s p k b e long c h tok q f =
    let g = onwards s p k b e long h tok in
    let n : length (part b e s) ≡ e - b = length-take-le (e - b) (drop b s) (rw length-drop (omega (arith, g.2))) in
    let m = at_most_16 c (part b e s) f in
    subst (λ x. Fair x) tok (fair s p) q ∙ le-ltb 1024 (e - b) (omega arith)
