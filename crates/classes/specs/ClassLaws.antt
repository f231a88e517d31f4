-- Laws of the classes: what each single class is, over all 256 byte values by one computed list each; and what holds of any number, since
-- beyond 0x7E all are illegal.
-- Assumes nothing.
use Rattle.std.specs.Prelude.{ℕ, ◌≤◌, ◌<◌, ◌≡◌, refl, Bool, true, false, not, ◌⊎◌, List, eqb, leb, get_or, replicate}
use Rattle.std.proofs.Common.{zero-le, zero-add, arith, sym, ap, ◌∙◌, true≢false, inl, inr, ⊎_elim, ne_eqb, eq-eqb, leb-true, leb-false}
use Rattle.std.proofs.lemmas.Bool.{lt-leb}
use Rattle.classes.specs.Choice.{pick, and, within}
use Rattle.classes.specs.Each.{each, each_at, between}
use Rattle.classes.specs.Classes.{is_white, is_legal, is_plain, class_of, mark_of}

-- where two functions give the same list of 256 answers, they agree on every byte
pub on_bytes : {A : Type 0} (f g : ℕ → A) → each f 0 256 ≡ each g 0 256 → (b : ℕ) → b < 256 → f b ≡ g b
on_bytes {A} f g e b h =
    sym (each_at f (f b) 256 0 b h ∙ ap f (zero-add b)) ∙ ap (λ (l : List A). get_or l b (f b)) e ∙ each_at g (f b) 256 0 b h ∙ ap g (zero-add b)

pub white_rule : (b : ℕ) → b < 256 → eqb (class_of b) 1 ≡ is_white b
unfolding class_of
white_rule = on_bytes (λ b. eqb (class_of b) 1) is_white refl

pub plain_rule : (b : ℕ) → b < 256 → eqb (class_of b) 7 ≡ is_plain b
unfolding class_of
plain_rule = on_bytes (λ b. eqb (class_of b) 7) is_plain refl

pub legal_rule : (b : ℕ) → b < 256 → not (eqb (class_of b) 0) ≡ is_legal b
unfolding class_of
legal_rule = on_bytes (λ b. not (eqb (class_of b) 0)) is_legal refl

-- a byte of a range is not below it
pub within_low : (lo hi c : ℕ) → within lo hi c ≡ true → lo ≤ c
within_low lo hi c h = by (leb lo c) refl h
  where
    by : (v : Bool) → leb lo c ≡ v → and v (leb c hi) ≡ true → lo ≤ c
    by true e t = leb-true lo c e
    by false e t = absurd (true≢false (sym t))

-- beyond 0x7E
outside : (lo hi c : ℕ) → hi < c → within lo hi c ≡ false
outside lo hi c h = by (leb lo c)
  where
    by : (v : Bool) → and v (leb c hi) ≡ false
    by true = lt-leb c hi h
    by false = refl

pub beyond : (c : ℕ) → 0x7E < c → class_of c ≡ 0
unfolding class_of
beyond c h =
    rw (
      ne_eqb c 9 (λ e. omega arith),
      ne_eqb c 10 (λ e. omega arith),
      ne_eqb c 13 (λ e. omega arith),
      ne_eqb c 32 (λ e. omega arith),
      ne_eqb c 40 (λ e. omega arith),
      ne_eqb c 41 (λ e. omega arith),
      ne_eqb c 58 (λ e. omega arith),
      ne_eqb c 42 (λ e. omega arith),
      ne_eqb c 34 (λ e. omega arith),
      outside 65 90 c (omega arith),
      outside 97 122 c (omega arith),
      outside 48 57 c (omega arith),
      ne_eqb c 95 (λ e. omega arith),
      ne_eqb c 36 (λ e. omega arith),
      ne_eqb c 46 (λ e. omega arith),
      ne_eqb c 43 (λ e. omega arith),
      ne_eqb c 45 (λ e. omega arith),
      ne_eqb c 47 (λ e. omega arith),
      ne_eqb c 91 (λ e. omega arith),
      ne_eqb c 93 (λ e. omega arith),
      ne_eqb c 92 (λ e. omega arith),
      outside 32 126 c h,
    )

-- what is computed up to 0x7E holds of any number, or it is illegal
printable : (f : ℕ → Bool) → each f 0 127 ≡ replicate 127 true → (c : ℕ) → (f c ≡ true) ⊎ (class_of c ≡ 0)
printable f e c = by (leb 127 c) refl
  where
    by : (v : Bool) → leb 127 c ≡ v → (f c ≡ true) ⊎ (class_of c ≡ 0)
    by true h = inr (beyond c (leb-true 127 c h))
    by false h = inl (between f true 0 127 e c zero-le (omega (arith, leb-false 127 c h)))

pub class_most : (c : ℕ) → class_of c ≤ 12
unfolding class_of
class_most c = ⊎_elim (λ t. leb-true (class_of c) 12 t) (λ z. omega arith) (printable (λ (b : ℕ). leb (class_of b) 12) refl c)

pub printable_legal : (c : ℕ) → within 0x20 0x7E c ≡ true → class_of c ≡ 0 → ⊥
unfolding class_of
printable_legal c h z = by (leb 0x20 c) (leb c 0x7E) refl refl h
  where
    by : (v w : Bool) → leb 0x20 c ≡ v → leb c 0x7E ≡ w → and v w ≡ true → ⊥
    by true true l u t =
        true≢false
        (sym (eq-eqb (class_of c) 0 z) ∙ between (λ (b : ℕ). eqb (class_of b) 0) false 0x20 95 refl c (leb-true 0x20 c l) (omega (arith, leb-true c 0x7E u)))
    by true false l u t = true≢false (sym t)
    by false w l u t = true≢false (sym t)

-- a class that one byte has
single : (k n : ℕ) → each (λ (b : ℕ). eqb (class_of b) k) 0 127 ≡ each (λ (b : ℕ). eqb b n) 0 127 → eqb 0 k ≡ false → n < 127 →
    (c : ℕ) → eqb (class_of c) k ≡ eqb c n
single k n e z h c = by (leb 127 c) refl
  where
    by : (v : Bool) → leb 127 c ≡ v → eqb (class_of c) k ≡ eqb c n
    by true t = rw (beyond c (leb-true 127 c t), ne_eqb c n (λ d. omega (arith, leb-true 127 c t))) z
    by false f =
        let l : c < 127 = leb-false 127 c f in
        sym (each_at (λ (b : ℕ). eqb (class_of b) k) false 127 0 c l ∙ ap (λ (b : ℕ). eqb (class_of b) k) (zero-add c))
        ∙ ap (λ (l : List Bool). get_or l c false) e ∙ each_at (λ (b : ℕ). eqb b n) false 127 0 c l ∙ ap (λ (b : ℕ). eqb b n) (zero-add c)

pub open_byte : (c : ℕ) → eqb (class_of c) 2 ≡ eqb c 40
unfolding class_of
open_byte = single 2 40 refl refl (omega arith)

pub close_byte : (c : ℕ) → eqb (class_of c) 3 ≡ eqb c 41
unfolding class_of
close_byte = single 3 41 refl refl (omega arith)

pub colon_byte : (c : ℕ) → eqb (class_of c) 4 ≡ eqb c 58
unfolding class_of
colon_byte = single 4 58 refl refl (omega arith)

pub quote_byte : (c : ℕ) → eqb (class_of c) 6 ≡ eqb c 34
unfolding class_of
quote_byte = single 6 34 refl refl (omega arith)

pub slash_byte : (c : ℕ) → eqb (class_of c) 8 ≡ eqb c 47
unfolding class_of
slash_byte = single 8 47 refl refl (omega arith)

pub square_byte : (c : ℕ) → eqb (class_of c) 9 ≡ eqb c 91
unfolding class_of
square_byte = single 9 91 refl refl (omega arith)

pub unsquare_byte : (c : ℕ) → eqb (class_of c) 10 ≡ eqb c 93
unfolding class_of
unsquare_byte = single 10 93 refl refl (omega arith)

pub back_byte : (c : ℕ) → eqb (class_of c) 11 ≡ eqb c 92
unfolding class_of
back_byte = single 11 92 refl refl (omega arith)

-- a mark is of its class, 2 to 5
pub marked : (c k : ℕ) → mark_of c ≡ k → (k ≡ 0 → ⊥) → (class_of c ≡ k) × (2 ≤ k) × (k ≤ 5)
unfolding mark_of
marked c k e n = by (leb 2 (class_of c)) refl (leb (class_of c) 5) refl e
  where
    by : (v : Bool) → leb 2 (class_of c) ≡ v → (w : Bool) → leb (class_of c) 5 ≡ w → pick (and v w) (class_of c) 0 ≡ k → (class_of c ≡ k) × (2 ≤ k) × (k ≤ 5)
    by true l true u h = (h, omega (arith, leb-true 2 (class_of c) l), omega (arith, leb-true (class_of c) 5 u))
    by true l false u h = absurd (n (sym h))
    by false l w u h = absurd (n (sym h))
