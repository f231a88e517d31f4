-- What a sheet that was checked holds: names of their shapes, and values in range.
-- Assumes nothing.
use Prim.Native.Nat.{ℕ, zero, suc, ◌+◌, ◌-◌, ◌≤◌, ◌<◌}
use Rattle.std.specs.Prelude.{◌≡◌, refl, Bool, true, false, List, [], ◌∷◌, eqb, ℤ, pos, negsuc, length, get_or}
use Rattle.std.proofs.Math.Option.{none, some}
use Rattle.std.proofs.Common.{arith, eqb-true, ne_eqb, of_z}
use Rattle.std.specs.Int.{w64}
use Rattle.classes.specs.Choice.{pick}
use Rattle.wire.specs.Wire.{Bytes}
use Rattle.nameshape.specs.Shape.{Name, is_path}
use Rattle.nameshape.specs.Exactly.{path_exactly, port_exactly}
use Rattle.names.specs.Laws.{PathOrTop, top, below}
use Rattle.kinds.specs.Kinds.{table, facts_of, is_kind, has_second}
use Rattle.sheetparts.specs.Form.{Good, shape_ok, one_end, second_least, value_ok, key_at, path_at, check_of}
use Rattle.sheetlaws.specs.Rule.{least, MayStand, empty, upward, downward, value_rule}
use Rattle.sheetlaws.specs.Sheet.{Arc, From, ArcOk, ArcsOk, FromPath, InOk, InsOk, Fit, values_ok, nth, place, ar_next, arc_at, arcs_at, in_at, in_end, ins_at}
use Rattle.sheetlaws.specs.Sheet as sheet
use Rattle.sheetlaws.specs.Complete.{split}
use Rattle.history.specs.Ranges.{InRange}
use Rattle.history.specs.Sheet.{Slot}
use Rattle.slots.specs.Slots.{meant, slot_number, arc_values, values_of, sheet_at}
use Rattle.slots.specs.Spelled.{sound}

-- Each arc, each instance by itself.

module _ (b : List ℕ) where
  arc_ok_at : (f : From) (m j p : ℕ) → ArcsOk f (arcs_at b m p) → j < m → ArcOk (arc_at b (place b j p))
  unfolding arcs_at nth
  arc_ok_at f zero j p o h = absurd (omega arith)
  arc_ok_at f (suc m) zero p o h = o.0
  arc_ok_at f (suc m) (suc j) p o h = arc_ok_at (sheet.key (key_at b p)) m j (ar_next b p) o.2 (omega arith)

  in_ok_at : (f : FromPath) (n j p : ℕ) → InsOk f (ins_at b n p) → j < n → InOk (in_at b (nth (in_end b) j p))
  unfolding ins_at nth
  in_ok_at f zero j p o h = absurd (omega arith)
  in_ok_at f (suc n) zero p o h = o.0
  in_ok_at f (suc n) (suc j) p o h = in_ok_at (sheet.after (path_at b p)) n j (in_end b p) o.2 (omega arith)

-- The shape of a name.

-- no bytes, or the bytes of a name
no_bytes : (x : List ℕ) → length x ≡ 0 → x ≡ []
no_bytes [] e = refl
no_bytes (c ∷ r) e = absurd (omega arith)

path_of : (x : List ℕ) → shape_ok 0 x ≡ true → PathOrTop x
unfolding shape_ok
path_of x = by (eqb (length x) 0) refl
  where
    by : (t : Bool) → eqb (length x) 0 ≡ t → pick t true (is_path false x) ≡ true → PathOrTop x
    by true z e = rw (no_bytes x (eqb-true (length x) 0 z)) top
    by false z e = below ((path_exactly false x).0 e)

end_of : (x : List ℕ) → 1 ≤ length x → shape_ok 1 x ≡ true → Name true false x
unfolding shape_ok
end_of x h e = (port_exactly false x).0 (rw (ne_eqb (length x) 0 (λ z. omega arith)) at e)

-- an IOPATH has a second end
second_least_lem : (k : ℕ) → k ≡ 1 → second_least k ≡ 1
unfolding second_least one_end is_kind has_second facts_of table
second_least_lem k e = rw e

-- Values in range.

-- what may stand in a slot
may_stand : (k i : ℕ) (z : ℤ) → MayStand k i z → InRange (meant z)
unfolding meant
may_stand k i z empty = tt
may_stand k i z (upward n h l) = by (eqb n 9223372036854775808)
  where
    by : (t : Bool) → InRange (pick t none (some (pos n)))
    by true = tt
    by false = l
may_stand k i z (downward n h l s) = by (eqb (18446744073709551616 - suc n) 9223372036854775808)
  where
    by : (t : Bool) → InRange (pick t none (some (negsuc n)))
    by true = tt
    by false = l

-- nothing else is read where no value stands
least-means : InRange (meant least)
unfolding meant
least-means = tt

range_from : (k n : ℕ) (zs : List ℤ) (i : ℕ) → values_ok k n zs ≡ true → Fit zs → InRange (meant (get_or zs i least))
unfolding values_ok
range_from k n [] i o g = least-means
range_from k n (z ∷ zs) zero o g =
    let q = split (value_ok k n (of_z w64 z)) (values_ok k (n + 1) zs) o in
    may_stand k n z ((value_rule k n z g.0).0 q.0)
range_from k n (z ∷ zs) (suc i) o g =
    let q = split (value_ok k n (of_z w64 z)) (values_ok k (n + 1) zs) o in
    range_from k (n + 1) zs i q.1 g.1

-- over all arcs
range_at : (f : From) (xs : List Arc) (j i : ℕ) → ArcsOk f xs → InRange (meant (get_or (arc_values xs j) i least))
unfolding arc_values
range_at f [] j i o = least-means
range_at f (a ∷ xs) zero i o = range_from a.key.kind 0 a.values i o.0.values.1 o.0.values.2
range_at f (a ∷ xs) (suc j) i o = range_at (sheet.key a.key) xs j i o.2

module _ (b : List ℕ) (bytes : Bytes b) (n m f : ℕ) (good : check_of b ≡ Good n m f) where
  -- a path is the top level's or a name
  pub path_shape : (j : ℕ) → j < n → PathOrTop (path_at b (nth (in_end b) j 12))
  path_shape j h = path_of _ (in_ok_at b sheet.first n j 12 (sound b bytes n m f good).0.instances h).path.1

  -- the second end of an IOPATH is a name
  pub second_shape : (j : ℕ) → j < m → (key_at b (place b j f)).kind ≡ 1 → Name true false (key_at b (place b j f)).second
  second_shape j h e =
      let o = arc_ok_at b sheet.none m j f (sound b bytes n m f good).0.arcs h in
      let l = second_least_lem (key_at b (place b j f)).kind e in
      end_of (key_at b (place b j f)).second (omega (arith, l, o.second.0)) o.second.2

  -- every value is empty or a time that a sheet may hold
  pub values_in_range : (t : Slot) → InRange (values_of (sheet_at b n m f) t)
  unfolding values_of
  values_in_range t = range_at sheet.none (arcs_at b m f) t.arc (slot_number t) (sound b bytes n m f good).0.arcs
