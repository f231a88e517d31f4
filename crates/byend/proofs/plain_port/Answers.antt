-- `byend::plain_port` meets its contract.
use Rattle.std.proofs.Common.{◌≡◌, ℕ, zero, suc, ◌+◌, ◌<◌, Bool, true, false, List, MatchBool, length, slice_index, drop, refl, sym, ◌∙◌, rules, arith}
use Rattle.std.specs.List.{AllWithin, HoldsAt}
use Rattle.std.proofs.lemmas.Iterator.{cases_from_all, YieldsList-from_slice}
use Rattle.classes.specs.Choice.{pick}
use Rattle.byend.specs.Ports.{is_plain, plain_from, plain_turn, plain_end}
use Rattle.byend.proofs.plain_port.Goals as goal

stops : (t : Bool) → pick t false false ≡ false
stops true = refl
stops false = refl

module _ (x : List ℕ) where
  -- where each byte from k on is plain, and where the one d places behind k is not
  each : (AllWithin (λ c. is_plain c ≡ true) x 0 (length x)) → (d k : ℕ) → d + k ≡ length x → plain_from (drop k x) ≡ true
  each h zero k e = plain_end x k (omega arith)
  each h (suc d) k e = plain_turn x k (omega arith) ∙ rw (h k 0 (omega arith) (omega arith)) (each h d (k + 1) (omega arith))

  one : (n : ℕ) → n < length x → is_plain (slice_index x n) ≡ false → (d k : ℕ) → d + k ≡ n → plain_from (drop k x) ≡ false
  one n l h zero k e = let m : k ≡ n = omega arith in plain_turn x k (omega arith) ∙ rw (m, h) refl
  one n l h (suc d) k e = plain_turn x k (omega arith) ∙ rw (one n l h d (k + 1) (omega arith)) (stops (is_plain (slice_index x k)))

  plain_is : (r : Bool) → MatchBool r (AllWithin (λ c. is_plain c ≡ true) x 0 (length x)) ((k : ℕ) × (k < length x) × HoldsAt (λ c. is_plain c ≡ false) x k) → r ≡ plain_from x
  plain_is true h = sym (each h (length x) 0 (omega arith))
  plain_is false h = sym (one h.0 h.1 (h.2 0) h.0 0 (omega arith))

pub returns : goal.returns
returns c =
    plain_is c.args.port.now c.all.result
    (cases_from_all _ _ _ (λ x. is_plain x ≡ true) (λ x. is_plain x ≡ false) c.all.ensures.ran (YieldsList-from_slice c.args.port.now cc) (λ x q k. search rules) (λ x q k. search rules))
