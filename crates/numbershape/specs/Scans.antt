-- A pass over digits: where it ends, and the number it makes.
-- Assumes nothing.
use Rattle.std.specs.Prelude.{ℕ, ◌+◌, ◌-◌, ◌*◌, ◌≤◌, ◌<◌, min, ◌≡◌, true, List, [], ◌∷◌, length, get_or, drop}
use Rattle.std.proofs.Common.{ap, sym, ◌∙◌, add-one, arith, drop-cons}
use Rattle.classes.specs.Classes.{is_digit}
use Rattle.numbershape.specs.declared.Scanned.{Scanned}
use Rattle.numbershape.specs.Shape.{run, leading}
use Rattle.numbershape.specs.Value.{horner}
use Rattle.numbershape.specs.Places.{run-cons}
use Rattle.numbershape.specs.Steps.{stop}

-- the digits from a place on: one and the others, or none
pub leading_on : (w : List ℕ) (i : ℕ) → i < length w → is_digit (get_or w i 0) ≡ true
    → leading (drop i w) ≡ (get_or w i 0 - 48) ∷ leading (drop (i + 1) w)
unfolding leading
leading_on w i h e = rw (drop-cons w i 0 h, add-one, run-cons, e)

pub leading-none : (u : List ℕ) → run u ≡ 0 → leading u ≡ []
unfolding leading
leading-none u e = rw e

-- numbers stopped early or late are the same
pub min-horner : (x : ℕ) (ds : List ℕ) → min (horner (min x stop) ds) stop ≡ min (horner x ds) stop
min-horner x [] = omega arith
min-horner x (d ∷ ds) =
    sym (min-horner (min x stop * 10 + d) ds) ∙ ap (λ n. min (horner n ds) stop) (same x d) ∙ min-horner (x * 10 + d) ds
  where
    same : (x d : ℕ) → min (min x stop * 10 + d) stop ≡ min (x * 10 + d) stop
    same x d = omega arith

-- one digit more at i
pub scan_on : (w : List ℕ) (i v : ℕ) → i < length w → is_digit (get_or w i 0) ≡ true
    → min (horner (min (v * 10 + (get_or w i 0 - 48)) stop) (leading (drop (i + 1) w))) stop ≡ min (horner v (leading (drop i w))) stop
scan_on w i v h e = rw (leading_on w i h e) (min-horner (v * 10 + (get_or w i 0 - 48)) (leading (drop (i + 1) w)))

-- none at i
pub scan_end : (w : List ℕ) (i v : ℕ) → run (drop i w) ≡ 0 → v ≤ stop → min (horner v (leading (drop i w))) stop ≡ v
scan_end w i v e h = rw (leading-none (drop i w) e) (omega arith)

-- what a pass over digits finds: its end, and their number behind x, stopped at 10^15 + 1
pub record Scans (w : List ℕ) (i x : ℕ) (r : Scanned) : Type 0 where
  pub end : r.end ≡ i + run (drop i w)
  pub within : r.end ≤ length w
  pub value : r.value ≡ min (horner x (leading (drop i w))) stop
  pub bound : r.value ≤ stop
