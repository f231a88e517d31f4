-- A record in which no step has found a fault is the encoding of what is read there.
-- Assumes nothing.
use Prim.Native.Nat.{ℕ, zero, suc, ◌+◌, ◌*◌, ◌/◌, ◌%◌, ◌≤◌, ◌<◌, ◌^◌}
use Rattle.std.specs.Prelude.{◌≡◌, true, List, ◌∷◌, ◌++◌, eqb, Ok}
use Rattle.std.proofs.Math.Path.{refl, ap}
use Rattle.std.proofs.Common.{sym, ◌∙◌, add-one, take-append-drop, length-drop, drop-cons, drop-drop, length-take-le, to_z}
use native.Mathlib.Omega.{arith}
use Rattle.std.proofs.Math.ListN.{length, get_or, drop}
use borrow.Author.Tests.{eqb-true, ne_eqb}
use Rattle.sheetlaws.specs.Goes.{key-is}
use Rattle.wire.specs.Wire.{be64, be_bytes, part, be16, Bytes}
use Rattle.wire.specs.Round.{eight_digits}
use Rattle.sheetparts.specs.Form.{cmp_key, value_step, values_step, first_len, second_len, values_at, key_at, key_step, order_step, ar_step, arcs_step}
use Rattle.sheetparts.specs.Passed.{chain_next, clear, same, value-next, ArGood, ar_next_lem, fields_next}
use Rattle.sheetlaws.specs.Sheet.{none, key, enc_text, enc_value, enc_values, enc_key, enc_arc, enc_arcs, values_ok, Fit, ArcOk, From, Above, ArcsOk, values_of, arc_at, ar_next, arcs_at}
use mir.Syntax.{w64}
use mir.ValLaws.{of_z-to_z, to_z-Fits}

module _ (b : List ℕ) (bytes : Bytes b) where
  pub span_byte : (p q : ℕ) → q ≡ p + 1 → p < length b → drop p b ≡ get_or b p 0 ∷ drop q b
  span_byte p q e h = rw (e, add-one) (drop-cons b p 0 h)

  span_part : (p n q : ℕ) → q ≡ p + n → drop p b ≡ part b p n ++ drop q b
  span_part p n q e = rw (e, ← drop-drop) (sym (take-append-drop n (drop p b)))

  pub span16 : (p q : ℕ) → q ≡ p + 2 → q ≤ length b → drop p b ≡ be16 b p / 256 ∷ be16 b p % 256 ∷ drop q b
  unfolding be16
  span16 p q e h =
      let x = bytes p in
      let y = bytes (p + 1) in
      let d : (get_or b p 0 * 256 + get_or b (p + 1) 0) / 256 ≡ get_or b p 0 = omega arith in
      let m : (get_or b p 0 * 256 + get_or b (p + 1) 0) % 256 ≡ get_or b (p + 1) 0 = omega arith in
      rw (d, m) (span_byte p (p + 1) refl (omega arith) ∙ ap (λ t. get_or b p 0 ∷ t) (span_byte (p + 1) q (omega arith) (omega arith)))

  pub part_length : (p n : ℕ) → p + n ≤ length b → length (part b p n) ≡ n
  part_length p n h = length-take-le n (drop p b) (rw length-drop (omega arith))

  -- a length and as many bytes
  pub span_text : (p n q : ℕ) → be16 b p ≡ n → q ≡ p + 2 + n → q ≤ length b → drop p b ≡ enc_text (part b (p + 2) n) (drop q b)
  span_text p n q e h g =
      rw (part_length (p + 2) n (omega arith), ← e)
      (span16 p (p + 2) refl (omega arith) ∙ ap (λ t. be16 b p / 256 ∷ be16 b p % 256 ∷ t) (span_part (p + 2) (be16 b p) q (rw e h)))

  pub below : (p : ℕ) → be64 b p < 2 ^ 64
  unfolding be64
  below p =
      omega (arith, bytes p, bytes (p + 1), bytes (p + 2), bytes (p + 3), bytes (p + 4), bytes (p + 5), bytes (p + 6), bytes (p + 7))

  eight_bytes : (p q : ℕ) → q ≡ p + 8 → q ≤ length b
      → drop p b ≡ get_or b p 0 ∷ get_or b (p + 1) 0 ∷ get_or b (p + 2) 0 ∷ get_or b (p + 3) 0 ∷ get_or b (p + 4) 0 ∷ get_or b (p + 5) 0
      ∷ get_or b (p + 6) 0 ∷ get_or b (p + 7) 0 ∷ drop q b
  eight_bytes p q e h =
      span_byte p (p + 1) refl (omega arith) ∙ ap (λ t. get_or b p 0 ∷ t)
      (span_byte (p + 1) (p + 2) (omega arith) (omega arith) ∙ ap (λ t. get_or b (p + 1) 0 ∷ t)
      (span_byte (p + 2) (p + 3) (omega arith) (omega arith) ∙ ap (λ t. get_or b (p + 2) 0 ∷ t)
      (span_byte (p + 3) (p + 4) (omega arith) (omega arith) ∙ ap (λ t. get_or b (p + 3) 0 ∷ t)
      (span_byte (p + 4) (p + 5) (omega arith) (omega arith) ∙ ap (λ t. get_or b (p + 4) 0 ∷ t)
      (span_byte (p + 5) (p + 6) (omega arith) (omega arith) ∙ ap (λ t. get_or b (p + 5) 0 ∷ t)
      (span_byte (p + 6) (p + 7) (omega arith) (omega arith) ∙ ap (λ t. get_or b (p + 6) 0 ∷ t)
      (span_byte (p + 7) q (omega arith) (omega arith))))))))

  pub span_value : (p q : ℕ) → q ≡ p + 8 → q ≤ length b → drop p b ≡ enc_value (to_z w64 (be64 b p)) (drop q b)
  unfolding be64
  span_value p q e h = rw (of_z-to_z w64 (be64 b p) (record { fits = below p })) (eight p q e h)
    where
      eight : (p q : ℕ) → q ≡ p + 8 → q ≤ length b → drop p b ≡ be_bytes (be64 b p) ++ drop q b
      eight p q e h =
          let d = eight_digits (get_or b p 0) (get_or b (p + 1) 0) (get_or b (p + 2) 0) (get_or b (p + 3) 0) (get_or b (p + 4) 0) (get_or b (p + 5) 0)
          (get_or b (p + 6) 0) (get_or b (p + 7) 0)
          (bytes p) (bytes (p + 1)) (bytes (p + 2)) (bytes (p + 3)) (bytes (p + 4)) (bytes (p + 5)) (bytes (p + 6)) (bytes (p + 7)) in
          eight_bytes p q e h ∙ ap (λ l. l ++ drop q b) (sym d)

  span_values : (k n i p r : ℕ) → values_step b k n i p ≡ Ok r → drop p b ≡ enc_values (values_of b n p) (drop r b)
  unfolding values_step enc_values values_of
  span_values k zero i p r e = rw (same e)
  span_values k (suc n) i p r e =
      let o = chain_next (value_step b k i p) _ r e in
      let v = value-next b k i p o.0 o.1 in
      span_value p (p + 8) refl v.1 ∙ ap (λ t. enc_value (to_z w64 (be64 b p)) t) (span_values k n (i + 1) (p + 8) r (rw v.0 at o.2))

  text1 : (p q : ℕ) → q ≡ p + 6 + first_len b p → q ≤ length b → drop (p + 4) b ≡ enc_text (part b (p + 6) (first_len b p)) (drop q b)
  unfolding first_len
  text1 p q e h =
      let s : p + 4 + 2 ≡ p + 6 = omega arith in
      rw s at (span_text (p + 4) (be16 b (p + 4)) q refl (omega arith) h)

  text2 : (p q : ℕ) → q ≡ values_at b p → q ≤ length b
      → drop (p + 7 + first_len b p) b ≡ enc_text (part b (p + 9 + first_len b p) (second_len b p)) (drop q b)
  unfolding first_len second_len
  text2 p q e h =
      let s : p + 7 + be16 b (p + 4) + 2 ≡ p + 9 + be16 b (p + 4) = omega arith in
      rw s at (span_text (p + 7 + be16 b (p + 4)) (be16 b (p + 7 + be16 b (p + 4))) q refl (omega arith) h)

  span_arc : (p r : ℕ) → ArGood b p r → drop p b ≡ enc_arc (arc_at b p) (drop r b)
  unfolding enc_key key_at
  span_arc p r g =
      let i = g.inside in
      let j = g.place in
      span_byte p (p + 1) refl (omega arith) ∙ rw g.mark.0 (ap (λ t. 65 ∷ t)
      (span_byte (p + 1) (p + 2) (omega arith) (omega arith) ∙ rw g.mark.1 (ap (λ t. 82 ∷ t)
      (span_byte (p + 2) (p + 3) (omega arith) (omega arith) ∙ ap (λ t. get_or b (p + 2) 0 ∷ t)
      (span_byte (p + 3) (p + 4) (omega arith) (omega arith) ∙ ap (λ t. get_or b (p + 3) 0 ∷ t)
      (text1 p (p + 6 + first_len b p) refl (omega arith) ∙ ap (λ t. enc_text (part b (p + 6) (first_len b p)) t)
      (span_byte (p + 6 + first_len b p) (p + 7 + first_len b p) (omega arith) (omega arith) ∙ ap (λ t. get_or b (p + 6 + first_len b p) 0 ∷ t)
      (text2 p (values_at b p) refl (omega arith) ∙ ap (λ t. enc_text (part b (p + 9 + first_len b p) (second_len b p)) t)
      (span_values (get_or b (p + 2) 0) 18 0 (values_at b p) r g.values)))))))))

  -- what is read is well formed
  values_ok_lem : (k n i p r : ℕ) → values_step b k n i p ≡ Ok r
      → (length (values_of b n p) ≡ n) × (values_ok k i (values_of b n p) ≡ true) × Fit (values_of b n p)
  unfolding values_step values_ok values_of
  values_ok_lem k zero i p r e = (refl, refl, tt)
  values_ok_lem k (suc n) i p r e =
      let o = chain_next (value_step b k i p) _ r e in
      let v = value-next b k i p o.0 o.1 in
      let w = values_ok_lem k n (i + 1) (p + 8) r (rw v.0 at o.2) in (
        ap suc w.0,
        rw (of_z-to_z w64 (be64 b p) (record { fits = below p }), v.2) w.1,
        (
          to_z-Fits w64 (be64 b p) (record {
            fits =
                below p;
          }),
          w.2,
        ),
      )

  arc_ok : (p r : ℕ) → ArGood b p r → ArcOk (arc_at b p)
  unfolding key_at
  arc_ok p r g =
      let i = g.inside in
      let j = g.place in
      let l1 = part_length (p + 6) (first_len b p) (omega arith) in
      let l2 = part_length (p + 9 + first_len b p) (second_len b p) (omega arith) in
      record {
        kind = g.kind;
        edge = g.edge;
        first = (rw l1 g.first.0, rw l1 g.first.1, g.first.2);
        edge2 = g.edge2;
        second = (rw l2 g.second.0, rw l2 g.second.1, g.second.2);
        values = values_ok_lem (get_or b (p + 2) 0) 18 0 (values_at b p) r g.values;
      }

  -- the order that the steps have judged
  ordered : (prev p q v : ℕ) → (prev ≡ 0 → ⊥) → key_step b p ≡ Ok v → order_step b prev p ≡ Ok q → cmp_key (key_at b prev) (key_at b p) ≡ 0
  unfolding order_step
  ordered prev p q v nz k e =
      eqb-true _ _ (clear (eqb (cmp_key (key_at b prev) (key_at b p)) 0) (Ok p) 19 p q (rw (ne_eqb prev 0 nz, k) at e)).0

  pub rises : (prev p r : ℕ) → (prev ≡ 0 → ⊥) → ar_step b prev p ≡ Ok r → cmp_key (key_at b prev) (key_at b p) ≡ 0
  unfolding ar_step
  rises prev p r nz e =
      let o = chain_next (order_step b prev p) _ r e in
      ordered prev p o.0 (values_at b p) nz (key-is b p r (fields_next b p r o.2)) o.1

  abbrev Known : From → ℕ → Type 0
  Known none prev = prev ≡ 0
  Known (key k) prev = (prev ≡ 0 → ⊥) × (key_at b prev ≡ k)

  above : (f : From) (prev p r : ℕ) → Known f prev → ar_step b prev p ≡ Ok r → Above f (key_at b p)
  above none prev p r h e = tt
  above (key k) prev p r h e = rw h.1 at (rises prev p r h.0 e)

  -- sound: arcs without a fault are the encoding of a well-formed list
  pub arcs_sound : (n : ℕ) (f : From) (prev p r : ℕ) → 0 < p → Known f prev → arcs_step b n prev p ≡ Ok r
      → (drop p b ≡ enc_arcs (arcs_at b n p) (drop r b)) × ArcsOk f (arcs_at b n p)
  unfolding arcs_step enc_arcs arcs_at
  arcs_sound zero f prev p r h k e = (rw (same e), tt)
  arcs_sound (suc n) f prev p r h k e =
      let o = chain_next (ar_step b prev p) _ r e in
      let g = ar_next_lem b prev p o.0 o.1 in
      let j = g.place in
      let w = arcs_sound n (key (key_at b p)) p (ar_next b p) r (omega arith) ((λ z. omega arith), refl) (rw g.place at o.2) in
      (span_arc p o.0 g ∙ ap (λ t. enc_arc (arc_at b p) t) (rw g.place w.0), (arc_ok p o.0 g, above f prev p o.0 k o.1, w.1))
