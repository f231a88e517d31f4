-- The questions about one class, in the order in which the code asks them, over all 256 bytes by a computed list each.
-- Assumes nothing.
use Rattle.std.specs.Prelude.{ℕ, ◌+◌, ◌-◌, ◌<◌, ◌≡◌, refl, Bool, not, eqb}
use Rattle.classes.specs.Choice.{pick, or, within}
use Rattle.classes.specs.Classes.{is, from_to, is_letter, class_of, mark_of}
use Rattle.classes.specs.ClassLaws.{on_bytes}

abbrev plain : ℕ → Bool
plain b = or (is_letter b) (pick (within 45 57 b) (not (is "/" b)) (or (is "_" b) (or (is "$" b) (is "+" b))))

abbrev white : ℕ → Bool
white b = or (is " " b) (or (from_to "\t" "\n" b) (is "\r" b))

abbrev mark : ℕ → ℕ
mark b = pick (from_to "(" ")" b) (b - 40 + 2) (pick (is ":" b) 4 (pick (is "*" b) 5 0))

pub plain_asked : (b : ℕ) → b < 256 → eqb (class_of b) 7 ≡ plain b
unfolding class_of
plain_asked = on_bytes (λ b. eqb (class_of b) 7) plain refl

pub white_asked : (b : ℕ) → b < 256 → eqb (class_of b) 1 ≡ white b
unfolding class_of
white_asked = on_bytes (λ b. eqb (class_of b) 1) white refl

pub mark_asked : (b : ℕ) → b < 256 → mark_of b ≡ mark b
unfolding class_of mark_of
mark_asked = on_bytes mark_of mark refl
