-- The index of a sheet's instances by the bucket of their type.
-- Assumes nothing.
use Rattle.std.specs.Prelude.{ℕ, zero, suc, ◌+◌, ◌*◌, ◌%◌, ◌≤◌, ◌<◌, ◌≡◌, refl, Bool, true, false, List, eqb, length, get_or, set}
use Rattle.std.proofs.Common.{◌∙◌, ap, mod-lt, add-one, arith, eqb-true}
use Rattle.std.proofs.lemmas.Bool.{eqb-false}
use Rattle.names.specs.Order.{cmp, same_text}
use Rattle.names.specs.Orders.{cmp_1}
use Rattle.sheetparts.specs.Form.{type_at}
use Rattle.sheetlaws.specs.Sheet.{in_end, nth}
use Rattle.bytype.specs.Chains.{Chained, Noted, put-stays}

-- the bucket of a text's first k bytes, and of the text
unfoldable pub bucket_to : List ℕ → ℕ → ℕ
bucket_to t zero = 0
bucket_to t (suc k) = (bucket_to t k * 31 + get_or t k 0) % 4096

unfoldable pub bucket_of : List ℕ → ℕ
bucket_of t = bucket_to t (length t)

pub bucket-more : (t : List ℕ) (k : ℕ) → bucket_to t (k + 1) ≡ (bucket_to t k * 31 + get_or t k 0) % 4096
unfolding bucket_to
bucket-more t k = rw add-one

pub bucket-small : (t : List ℕ) (k : ℕ) → bucket_to t k < 4096
unfolding bucket_to
bucket-small t zero = omega arith
bucket-small t (suc k) = mod-lt (bucket_to t k * 31 + get_or t k 0) (omega arith)

-- of the k-th instance: its place, and the bucket of its type
abbrev pub spot_of : List ℕ → ℕ → ℕ
spot_of b k = nth (in_end b) k 12

abbrev pub type_bucket : List ℕ → ℕ → ℕ
type_bucket b k = bucket_of (type_at b (spot_of b k))

-- for each instance the number of the next one in its bucket, and behind that its place
abbrev pub link_place : ℕ → ℕ
link_place i = 4096 + 2 * i

abbrev pub spot_place : ℕ → ℕ
spot_place i = 4097 + 2 * i

pub links_far : (i : ℕ) → 4096 ≤ link_place i
links_far i = omega arith

pub links_apart : (i j : ℕ) → link_place i ≡ link_place j → i ≡ j
links_apart i j e = omega arith

pub spots_apart : (i j : ℕ) → spot_place i ≡ spot_place j → i ≡ j
spots_apart i j e = omega arith

-- the table t is the index of the n instances of the sheet b
pub record Indexed (b : List ℕ) (n : ℕ) (t : List ℕ) : Type 0 where
  pub chain : Chained link_place (type_bucket b) n 0 t
  pub spots : Noted spot_place (spot_of b) n t

-- it is, where the table has room for them
abbrev pub IndexReady : List ℕ → ℕ → List ℕ → Type 0
IndexReady b n t = n ≤ 65536 → Indexed b n t

-- an instance of another bucket than a type's is not of that type
pub other_bucket : (b type : List ℕ) (k : ℕ) → eqb (type_bucket b k) (bucket_of type) ≡ false → same_text (type_at b (spot_of b k)) type ≡ false
unfolding same_text
other_bucket b type k e = by (eqb (cmp (type_at b (spot_of b k)) type) 1) refl
  where
    by : (u : Bool) → eqb (cmp (type_at b (spot_of b k)) type) 1 ≡ u → u ≡ false
    by true z = absurd (eqb-false _ _ e (ap bucket_of (cmp_1 _ _ (eqb-true _ _ z))))
    by false z = refl

-- the places stay where one instance more is put in front
pub spots_stay : (b : List ℕ) (n k : ℕ) (t : List ℕ) (h : ℕ) → h < 4096 → link_place k < length t → Noted spot_place (spot_of b) n t
    → Noted spot_place (spot_of b) n (set (set t (link_place k) (get_or t h 0)) h k)
spots_stay b n k t h l long s i g =
    put-stays link_place (type_bucket b) n links_far links_apart k t h l long (spot_place i) (λ q. omega arith) (λ q. omega arith) ∙ s i g
