-- The rules of the kinds, proved over the whole table.
-- Assumes nothing.
use Rattle.std.specs.Prelude.{ℕ, zero, suc, ◌+◌, ◌<◌, ◌≡◌, refl, List, [], ◌∷◌, get_or}
use Rattle.std.proofs.Common.{zero-add, suc-add, add-suc, add-zero, le_of_suc-le-suc, not-suc-le-zero, sym, ap, ◌∙◌}
use Rattle.kinds.specs.Kinds.{
  Facts,
  unknown,
  table,
  facts_of,
  rule_of,
  is_kind,
  has_edge,
  has_second,
  has_edge2,
  is_signed,
  rows_of,
  is_delay,
  is_check,
  known_rule,
  edge_rule,
  second_rule,
  edge2_rule,
  signed_rule,
  rows_rule,
}

-- f at n numbers from b on
abbrev each : (ℕ → Facts) → ℕ → ℕ → List Facts
each f b zero = []
each f b (suc n) = f b ∷ each f (suc b) n

from : (f : ℕ → Facts) (n b k : ℕ) → k < n → get_or (each f b n) k unknown ≡ f (b + k)
from f zero b k h = absurd (not-suc-le-zero h)
from f (suc n) b zero h = ap f (sym (add-zero b))
from f (suc n) b (suc k) h = from f n (suc b) k (le_of_suc-le-suc h) ∙ ap f (suc-add b k ∙ sym (add-suc b k))

whole : each facts_of 0 256 ≡ each rule_of 0 256
unfolding facts_of table is_kind known_rule edge_rule second_rule edge2_rule signed_rule rows_rule is_delay is_check
whole = refl

-- the rule of the whole table, for every byte
pub kinds_rule : (k : ℕ) → k < 256 → facts_of k ≡ rule_of k
kinds_rule k h =
    sym (from facts_of 256 0 k h ∙ ap facts_of (zero-add k)) ∙ ap (λ l. get_or l k unknown) whole ∙ from rule_of 256 0 k h ∙ ap rule_of (zero-add k)

pub known_rule_lem : (k : ℕ) → k < 256 → is_kind k ≡ known_rule k
unfolding is_kind
known_rule_lem k h = ap (λ (f : Facts). f.known) (kinds_rule k h)

pub edge_rule_lem : (k : ℕ) → k < 256 → has_edge k ≡ edge_rule k
unfolding has_edge
edge_rule_lem k h = ap (λ (f : Facts). f.edge) (kinds_rule k h)

pub second_rule_lem : (k : ℕ) → k < 256 → has_second k ≡ second_rule k
unfolding has_second
second_rule_lem k h = ap (λ (f : Facts). f.second) (kinds_rule k h)

pub edge2_rule_lem : (k : ℕ) → k < 256 → has_edge2 k ≡ edge2_rule k
unfolding has_edge2
edge2_rule_lem k h = ap (λ (f : Facts). f.edge2) (kinds_rule k h)

pub signed_rule_lem : (k : ℕ) → k < 256 → is_signed k ≡ signed_rule k
unfolding is_signed
signed_rule_lem k h = ap (λ (f : Facts). f.signed) (kinds_rule k h)

pub rows_rule_lem : (k : ℕ) → k < 256 → rows_of k ≡ rows_rule k
unfolding rows_of
rows_rule_lem k h = ap (λ (f : Facts). f.rows) (kinds_rule k h)
