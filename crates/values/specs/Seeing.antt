-- What stands where a number may, found in the two ways: by its token, and as a plain number read where it stands.
-- Assumes nothing.
use Rattle.std.specs.Prelude.{ℕ, ◌-◌, ◌≤◌, ◌≡◌, refl, Bool, true, false, List, ◌⊎◌, eqb, leb, ℤ, get_or, Result, Ok, Err, Some}
use Rattle.std.proofs.Common.{arith, sym, ◌∙◌, inl, inr, ⊎_elim, ne_eqb, eqb-true, leb-true, le-ltb}
use Rattle.classes.specs.Choice.{or, and}
use Rattle.classes.specs.Classes.{class_of}
use Rattle.classes.specs.Each.{between}
use Rattle.scanning.specs.Machines.{word_end}
use Rattle.tokenforms.specs.Tokens.{token_at}
use Rattle.tokenforms.specs.declared.Refusal.{Refusal}
use Rattle.tokenforms.specs.Tokens.{Got}
use Rattle.tokens.specs.Stream.{part, placed}
use Rattle.tokens.specs.Quick.{plain_token}
use Rattle.times.specs.Standing.{is_dotted, plain_time, plainly}
use Rattle.times.specs.StandingLaws.{plainly_time}
use Rattle.grammar.specs.Meaning.{wrongly}
use Rattle.rules.specs.Rules.{number-kind, number_time}
use Rattle.values.specs.declared.Seen.{Seen}
use Rattle.values.specs.declared.Seen.TheVariants as seen
use Rattle.values.specs.Parts.{Sees}

-- a digit or a point is plain in a word
dotted-plain : (c : ℕ) → is_dotted c ≡ true → class_of c ≡ 7
unfolding class_of
dotted-plain c h = eqb-true (class_of c) 7 (by (leb 48 c) (leb c 57) refl refl h)
  where
    by : (v w : Bool) → leb 48 c ≡ v → leb c 57 ≡ w → or (and v w) (eqb c 46) ≡ true → eqb (class_of c) 7 ≡ true
    by true true l u t = between (λ (b : ℕ). eqb (class_of b) 7) true 48 10 refl c (leb-true 48 c l) (omega (arith, leb-true c 57 u))
    by true false l u t = rw (eqb-true c 46 t)
    by false w l u t = rw (eqb-true c 46 t)

-- no mark is a number
mark-wrong : (o : Bool) (k : ℕ) (w : List ℕ) → (k ≡ 7 → ⊥) → wrongly o k w ≡ 4
mark-wrong true k w n = rw (ne_eqb k 7 n)
mark-wrong false k w n = refl

pub mark-seen : (s : List ℕ) (p k b e : ℕ) (l : Bool) (sg : Bool) (unit : ℕ) (o : Bool) → token_at s p ≡ Got k b e l → (k ≡ 3) ⊎ (k ≡ 4) →
    Sees s p sg unit o (Ok (seen.Mark k b e))
mark-seen s p k b e l sg unit o tok w =
    let n : k ≡ 7 → ⊥ = λ q. ⊎_elim (λ x. omega arith) (λ x. omega arith) w in
    (l, tok, rw (mark-wrong o k (part b e s) n) at (number-kind (placed s k b e l) sg unit o n), w)

pub plain-seen : (s : List ℕ) (p : ℕ) (z : ℤ) (e : ℕ) (sg : Bool) (unit : ℕ) (o : Bool) → plainly unit s p ≡ Some (plain_time z e) → eqb (word_end s e) e ≡ true → e - p ≤ 1024 →
    Sees s p sg unit o (Ok (seen.Time z e))
plain-seen s p z e sg unit o h w m =
    let t = plainly_time unit s p z e h in
    let tok = plain_token s p e t.some t.fits (λ k a b. dotted-plain (get_or s k 0) (t.each k a b)) (eqb-true (word_end s e) e w) in
    (7, p, false, rw (le-ltb 1024 (e - p) m) at tok, number_time (placed s 7 p e false) sg unit o z refl (t.time sg) refl, λ q. omega arith, λ q. omega arith)

-- from a place from which the token is the same, the same is seen
pub sees_from : (s : List ℕ) (i p : ℕ) (sg : Bool) (unit : ℕ) (o : Bool) → token_at s i ≡ token_at s p → (r : Result Seen Refusal) →
    Sees s i sg unit o r → Sees s p sg unit o r
sees_from s i p sg unit o same (Ok (seen.Time z e)) (k, b, l, t, h, x, y) = (k, b, l, sym same ∙ t, h, x, y)
sees_from s i p sg unit o same (Ok (seen.Mark k b e)) (l, t, h, w) = (l, sym same ∙ t, h, w)
sees_from s i p sg unit o same (Err why) (inl t) = inl (sym same ∙ t)
sees_from s i p sg unit o same (Err why) (inr (k, b, e, l, t, h, x, y)) = inr (k, b, e, l, sym same ∙ t, h, x, y)
