-- The bytes of a sheet that was checked, with other values: where they hold each value, and what writing one there makes of them.
-- Assumes nothing.
use Rattle.std.specs.Prelude.{ℕ, ◌+◌, ◌*◌, ◌≤◌, ◌<◌, ◌≡◌, refl, Bool, true, false, List, []}
use Rattle.std.proofs.Common.{sym, ◌∙◌, zero-add}
use Rattle.std.proofs.Math.Path.{ap}
use native.Mathlib.Omega.{arith}
use Rattle.std.proofs.Math.ListN.{length}
use Rattle.std.proofs.Math.Seq.{paste}
use mir.Syntax.{w64}
use mir.ValLaws.{of_z_fits}
use Rattle.classes.specs.Choice.{pick}
use Rattle.wire.specs.Wire.{Bytes, be64, be_bytes}
use Rattle.wire.specs.Frame.{number_back}
use Rattle.sheetparts.specs.Form.{Good, values_at, check_of}
use Rattle.sheetlaws.specs.Sheet.{enc_arcs, encode, none, WellFormed, place, ins_at, arcs_at}
use Rattle.sheetlaws.specs.Values.{off, All18, all18, off-place}
use Rattle.sheetlaws.specs.Whole.{length-arcs_at, decode_sound}
use Rattle.sheetlaws.specs.Set.{ins_len, ins-length, encode-paste, first-place, good-parts, good-decode, arcs_from}
use Rattle.sheet.specs.Find.{arc_there, sheet_good}
use Rattle.history.specs.Events.{Value}
use Rattle.history.specs.Ranges.{InRange}
use Rattle.history.specs.Sheet.{Slot, Values}
use Rattle.slots.specs.Slots.{numeral, word_of, slot_at, same_slot, put, values_of, arcs_with, with_values, spelled, sheet_at}
use Rattle.slots.specs.Numbers.{same_exactly, value-fits}
use Rattle.slots.specs.Arcs.{arcs_same, arcs_start, length_with, all_with, bytes_with, off_with, set_with}

-- putting in what is there changes nothing
put_same : (v : Values) (u t : Slot) → put v u (v u) t ≡ v t
unfolding put
put_same v u t = by (same_slot t u) refl
  where
    by : (x : Bool) → same_slot t u ≡ x → pick x (v u) (v t) ≡ v t
    by true e = ap v (sym ((same_exactly t u).0 e))
    by false e = refl

module _ (b : List ℕ) (bytes : Bytes b) (n m f : ℕ) (good : check_of b ≡ Good n m f) where
  -- what the check gives: the sheet is well formed, and these are its bytes
  pub sound : WellFormed (sheet_at b n m f) × (encode (sheet_at b n m f) ≡ b)
  sound = decode_sound b (sheet_at b n m f) bytes (good-decode b bytes n m f good)

  -- each arc has its eighteen values
  all : All18 (arcs_at b m f)
  all = all18 none (arcs_at b m f) sound.0.arcs

  -- with its own values they are the bytes of the sheet
  pub start : spelled (sheet_at b n m f) (values_of (sheet_at b n m f)) ≡ b
  unfolding spelled with_values values_of
  start =
      let e = arcs_start none 0 (values_of (sheet_at b n m f)) (arcs_at b m f) sound.0.arcs
      (λ t k g. let q : t.arc ≡ k = omega arith in rw q) in
      rw e sound.1

  -- as many bytes, whatever the values
  pub length-spelled : (v : Values) → length (spelled (sheet_at b n m f) v) ≡ length b
  unfolding spelled with_values encode
  length-spelled v =
      let e = ins-length (ins_at b n 12) (enc_arcs (arcs_with 0 v (arcs_at b m f)) []) (enc_arcs (arcs_at b m f) []) (bytes_with 0 v (arcs_at b m f) all) in
      let l = ap length sound.1 in
      omega (arith, e, l)

  -- an arc's values are there whole
  pub room-all : (j : ℕ) → j < m → values_at b (place b j f) + 144 ≤ length b
  room-all j h = (arc_there b j m f h (sheet_good b n m f good).arcs).1

  -- and so each of them, whatever the values
  pub room : (v : Values) (j i : ℕ) → j < m → i < 18 → values_at b (place b j f) + 8 * i + 8 ≤ length (spelled (sheet_at b n m f) v)
  room v j i h g = let l = length-spelled v in let r = room-all j h in omega (arith, l, r)

  -- the same values at the sheet's slots are the same bytes
  pub spelled_same : (v w : Values) → ((t : Slot) → t.arc < m → v t ≡ w t) → spelled (sheet_at b n m f) v ≡ spelled (sheet_at b n m f) w
  unfolding spelled with_values
  spelled_same v w h =
      let l = length-arcs_at b m f in
      rw (arcs_same 0 v w (arcs_at b m f) (λ t g k. h t (omega arith)))

  -- the place that the code computes for slot i of arc j
  here : (j i : ℕ) → j < m → values_at b (place b j f) + 8 * i ≡ 12 + (ins_len (ins_at b n 12) + (off (arcs_at b m f) j + 8 * i))
  here j i h =
      let q = good-parts b bytes n m f good in
      let s : f ≡ 12 + ins_len (ins_at b n 12) = first-place b bytes f q.0 ∙ ap (λ k. 12 + ins_len (ins_at b k 12)) (sym q.1) in
      let l : j < length (arcs_at b m f) = rw (length-arcs_at b m f) h in
      let o = off-place b none (arcs_at b m f) [] f j sound.0.arcs (arcs_from b bytes m f n good) l in
      omega (arith, s, o)

  -- writing a value's bits there is putting it in its slot
  pub word_set : (v : Values) (j i : ℕ) (x : Value) → j < m → i < 18
      → paste (spelled (sheet_at b n m f) v) (values_at b (place b j f) + 8 * i) (be_bytes (word_of x)) 8
      ≡ spelled (sheet_at b n m f) (put v (slot_at j i) x)
  unfolding spelled with_values word_of
  word_set v j i x h g =
      let l : j < length (arcs_at b m f) = rw (length-arcs_at b m f) h in
      let k : j < length (arcs_with 0 v (arcs_at b m f)) = rw (length_with 0 v (arcs_at b m f)) l in
      let e = set_with 0 j i v x (arcs_at b m f) l g in
      let p = encode-paste (with_values (sheet_at b n m f) v) j i (numeral x) k (all_with 0 v (arcs_at b m f)) g in
      rw (here j i h) (rw (off_with 0 v (arcs_at b m f) j all, e, zero-add) at p)

  -- and reading there gives its bits
  pub word_get : (v : Values) → ((t : Slot) → InRange (v t)) → (j i : ℕ) → j < m → i < 18
      → be64 (spelled (sheet_at b n m f) v) (values_at b (place b j f) + 8 * i) ≡ word_of (v (slot_at j i))
  unfolding word_of
  word_get v r j i h g =
      let u = slot_at j i in
      let e = word_set v j i (v u) h g ∙ spelled_same (put v u (v u)) v (λ t k. put_same v u t) in
      let d = spelled (sheet_at b n m f) v in
      let p = values_at b (place b j f) + 8 * i in
      ap (λ l. be64 l p) (sym e) ∙ number_back d p (word_of (v u)) (room v j i h g) (of_z_fits w64 (numeral (v u)) (value-fits (v u) (r u))).fits
