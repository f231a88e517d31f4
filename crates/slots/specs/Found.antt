-- The records of a sheet that was checked, by their numbers: what stands there, and that it stands there once.
-- Assumes nothing.
use Prim.Native.Nat.{ℕ, zero, suc, ◌<◌}
use Rattle.std.specs.Prelude.{◌≡◌, List, map, length}
use Rattle.std.proofs.Math.Path.{refl, ap}
use Rattle.std.proofs.Common.{sym, ◌∙◌, arith}
use Rattle.std.proofs.Math.Option.{some}
use Rattle.std.proofs.Math.ListN.{get_elem?, length-map}
use Rattle.wire.specs.Wire.{Bytes}
use Rattle.names.specs.Order.{cmp}
use Rattle.names.specs.Orders.{converse}
use Rattle.sheetparts.specs.Form.{Good, key_at, path_at, type_at, cmp_key, check_of}
use Rattle.sheetlaws.specs.Sheet.{Arc, nth, place, ar_next, arcs_at, in_at, in_end, ins_at}
use Rattle.sheetlaws.specs.Whole.{length-arcs_at}
use Rattle.sheet.specs.Search.{Rises, beyond, absent}
use Rattle.sheet.specs.Find.{ArcsGood, InsGood, arcs_rise, ins_rise, sheet_good}
use Rattle.slots.specs.Slots.{as_key, as_instance, records_of, sheet_at}

-- What stands there.

module _ (b : List ℕ) where
  -- the j-th arc, the j-th instance
  arc-from : (m j p : ℕ) → j < m → get_elem? (map (λ (a : Arc). as_key a.key) (arcs_at b m p)) j ≡ some (as_key (key_at b (place b j p)))
  unfolding arcs_at nth
  arc-from zero j p h = absurd (omega arith)
  arc-from (suc m) zero p h = refl
  arc-from (suc m) (suc j) p h = arc-from m j (ar_next b p) (omega arith)

  instance-from : (n j p : ℕ) → j < n → get_elem? (map as_instance (ins_at b n p)) j ≡ some (as_instance (in_at b (nth (in_end b) j p)))
  unfolding ins_at nth
  instance-from zero j p h = absurd (omega arith)
  instance-from (suc n) zero p h = refl
  instance-from (suc n) (suc j) p h = instance-from n j (in_end b p) (omega arith)

  -- how many
  pub length-ins_at : (n p : ℕ) → length (ins_at b n p) ≡ n
  unfolding ins_at
  length-ins_at zero p = refl
  length-ins_at (suc n) p = ap suc (length-ins_at n (in_end b p))

-- It stands there once: keys that rise do not come again.

module _ {A : Type 0} (key : ℕ → A) (next : ℕ → ℕ) (c : A → A → ℕ) (Good : ℕ → ℕ → Type 0) (r : Rises key next c Good) where
  apart : (n p j : ℕ) → Good n p → suc j < n → key (nth next (suc j) p) ≡ key p → ⊥
  unfolding nth
  apart zero p j g h e = absurd (omega arith)
  apart (suc zero) p j g h e = absurd (omega arith)
  apart (suc (suc n)) p j g h e =
      let u = converse c r.order (key p) (key (next p)) (r.rise n p g) in
      let w = beyond key next c (key p) Good r (suc n) (next p) (r.tail (suc n) p g) u in
      absent key next c (key p) (suc n) (next p) j w (omega arith) (rw e (r.order.self (key p)))

  -- so the same key is the same record's
  once : (n p i j : ℕ) → Good n p → i < n → j < n → key (nth next i p) ≡ key (nth next j p) → i ≡ j
  unfolding nth
  once n p zero zero g h k e = refl
  once n p zero (suc j) g h k e = absurd (apart n p j g k (sym e))
  once n p (suc i) zero g h k e = absurd (apart n p i g h e)
  once zero p (suc i) (suc j) g h k e = absurd (omega arith)
  once (suc n) p (suc i) (suc j) g h k e = ap suc (once n (next p) i j (r.tail n p g) (omega arith) (omega arith) e)

module _ (b : List ℕ) (bytes : Bytes b) (n m f : ℕ) (good : check_of b ≡ Good n m f) where
  -- arc number j of the records is the one whose key stands at its place
  pub arc-at : (j : ℕ) → j < m → get_elem? (records_of (sheet_at b n m f)).arcs j ≡ some (as_key (key_at b (place b j f)))
  unfolding records_of
  arc-at j h = arc-from b m j f h

  -- as many as were counted
  pub arcs_length : length (records_of (sheet_at b n m f)).arcs ≡ m
  unfolding records_of
  arcs_length = length-map (arcs_at b m f) (λ (a : Arc). as_key a.key) ∙ length-arcs_at b m f

  -- and so the instances
  pub instance-at : (j : ℕ) → j < n → get_elem? (records_of (sheet_at b n m f)).instances j
      ≡ some (record { path = path_at b (nth (in_end b) j 12); type = type_at b (nth (in_end b) j 12) })
  unfolding records_of as_instance
  instance-at j h = instance-from b n j 12 h

  -- as many as were counted
  pub instances_length : length (records_of (sheet_at b n m f)).instances ≡ n
  unfolding records_of
  instances_length = length-map (ins_at b n 12) as_instance ∙ length-ins_at b n 12

  -- no two arcs have one key
  pub arc_once : (i j : ℕ) → i < m → j < m → key_at b (place b i f) ≡ key_at b (place b j f) → i ≡ j
  arc_once i j h k e = once (key_at b) (ar_next b) cmp_key (ArcsGood b) (arcs_rise b bytes) m f i j (sheet_good b n m f good).arcs h k e

  -- no two instances have one path
  pub instance_once : (i j : ℕ) → i < n → j < n → path_at b (nth (in_end b) i 12) ≡ path_at b (nth (in_end b) j 12) → i ≡ j
  instance_once i j h k e = once (path_at b) (in_end b) cmp (InsGood b) (ins_rise b) n 12 i j (sheet_good b n m f good).instances h k e
