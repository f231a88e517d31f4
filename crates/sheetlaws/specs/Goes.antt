-- The other way: where the fields are there as they should be, a step goes on.
-- Assumes nothing.
use Rattle.std.specs.Prelude.{ℕ, ◌+◌, ◌-◌, ◌≤◌, ◌≡◌, true, List, length, get_or, Ok}
use native.Mathlib.Omega.{arith}
use borrow.Author.Tests.{le-leb, eq-eqb}
use Rattle.wire.specs.Wire.{part, be16, be64}
use Rattle.sheetparts.specs.Form.{shape_ok, edge_top, edge_top2, second_least, second_most, value_ok, room_step, mark_step, kind_step, edge_step, len_step, name_step, value_step, first_len, second_len, values_at, key_step, ar_rest, ar_fields, path_len, type_len, path_step, in_fields, head_step, format_step}
use Rattle.kinds.specs.Kinds.{is_kind}
use Rattle.sheetparts.specs.Passed.{ArGood, InGood}

module _ (b : List ℕ) where
  pub room-is : (n p : ℕ) → p + n ≤ length b → room_step b n p ≡ Ok (p + n)
  unfolding room_step
  room-is n p h = rw (le-leb n (length b - p) (omega arith))

  pub mark-is : (x y p : ℕ) → p + 2 ≤ length b → get_or b p 0 ≡ x → get_or b (p + 1) 0 ≡ y → mark_step b x y p ≡ Ok (p + 2)
  unfolding mark_step
  mark-is x y p h e f = rw (le-leb 2 (length b - p) (omega arith), eq-eqb _ _ e, eq-eqb _ _ f)

  pub kind-is : (p : ℕ) → p + 1 ≤ length b → is_kind (get_or b p 0) ≡ true → kind_step b p ≡ Ok (p + 1)
  unfolding kind_step
  kind-is p h e = rw (le-leb 1 (length b - p) (omega arith), e)

  pub edge_is : (t p : ℕ) → p + 1 ≤ length b → get_or b p 0 ≤ t → edge_step b t p ≡ Ok (p + 1)
  unfolding edge_step
  edge_is t p h e = rw (le-leb 1 (length b - p) (omega arith), le-leb _ _ e)

  pub len_is : (lo hi p : ℕ) → p + 2 + be16 b p ≤ length b → lo ≤ be16 b p → be16 b p ≤ hi → len_step b lo hi p ≡ Ok (p + 2 + be16 b p)
  unfolding len_step
  len_is lo hi p h l m = rw (
    le-leb 2 (length b - p) (omega arith),
    le-leb _ _ l,
    le-leb _ _ m,
    le-leb (be16 b p) (length b - (p + 2)) (omega arith),
  )

  pub name_is : (m lo hi p : ℕ) → p + 2 + be16 b p ≤ length b → lo ≤ be16 b p → be16 b p ≤ hi → shape_ok m (part b (p + 2) (be16 b p)) ≡ true
      → name_step b m lo hi p ≡ Ok (p + 2 + be16 b p)
  unfolding name_step
  name_is m lo hi p h l u s = rw (len_is lo hi p h l u, s)

  pub value-is : (k i p : ℕ) → p + 8 ≤ length b → value_ok k i (be64 b p) ≡ true → value_step b k i p ≡ Ok (p + 8)
  unfolding value_step
  value-is k i p h e = rw (le-leb 8 (length b - p) (omega arith), e)

  -- a good record's key is there whole
  pub key-is : (p r : ℕ) → ArGood b p r → key_step b p ≡ Ok (values_at b p)
  unfolding key_step first_len second_len
  key-is p r g =
      let i = g.inside in
      let j = g.place in
      let s2 : p + 2 + 2 ≡ p + 4 = omega arith in
      let s4 : p + 4 + 2 + be16 b (p + 4) ≡ p + 6 + be16 b (p + 4) = omega arith in
      let s5 : p + 6 + be16 b (p + 4) + 1 ≡ p + 7 + be16 b (p + 4) = omega arith in
      let s6 : p + 7 + be16 b (p + 4) + 2 + be16 b (p + 7 + be16 b (p + 4)) ≡ values_at b p = omega arith in
      rw (
        mark-is 65 82 p (omega arith) g.mark.0 g.mark.1,
        room-is 2 (p + 2) (omega arith),
        s2,
        len_is 1 2049 (p + 4) (omega arith) g.first.0 g.first.1,
        s4,
        room-is 1 (p + 6 + be16 b (p + 4)) (omega arith),
        s5,
        len_is (second_least (get_or b (p + 2) 0)) (second_most (get_or b (p + 2) 0)) (p + 7 + be16 b (p + 4)) (omega arith) g.second.0
            g.second.1,
        s6,
      )

  -- a record with good fields is read through
  pub fields_is : (p r : ℕ) → ArGood b p r → ar_fields b p ≡ Ok r
  unfolding ar_fields ar_rest first_len second_len
  fields_is p r g =
      let i = g.inside in
      let j = g.place in
      let s2 : p + 2 + 1 ≡ p + 3 = omega arith in
      let s3 : p + 3 + 1 ≡ p + 4 = omega arith in
      let t4 : p + 4 + 2 ≡ p + 6 = omega arith in
      let s4 : p + 4 + 2 + be16 b (p + 4) ≡ p + 6 + be16 b (p + 4) = omega arith in
      let s5 : p + 6 + be16 b (p + 4) + 1 ≡ p + 7 + be16 b (p + 4) = omega arith in
      let t6 : p + 7 + be16 b (p + 4) + 2 ≡ p + 9 + be16 b (p + 4) = omega arith in
      let s6 : p + 7 + be16 b (p + 4) + 2 + be16 b (p + 7 + be16 b (p + 4)) ≡ values_at b p = omega arith in
      rw (
        mark-is 65 82 p (omega arith) g.mark.0 g.mark.1,
        kind-is (p + 2) (omega arith) g.kind,
        s2,
        edge_is (edge_top (get_or b (p + 2) 0)) (p + 3) (omega arith) g.edge,
        s3,
        name_is 1 1 2049 (p + 4) (omega arith) g.first.0 g.first.1 (rw t4 g.first.2),
        s4,
        edge_is (edge_top2 (get_or b (p + 2) 0)) (p + 6 + be16 b (p + 4)) (omega arith) g.edge2,
        s5,
        name_is 1 (second_least (get_or b (p + 2) 0)) (second_most (get_or b (p + 2) 0)) (p + 7 + be16 b (p + 4)) (omega arith) g.second.0
            g.second.1 (rw t6 g.second.2),
        s6,
      )
      g.values

  pub path-is : (p r : ℕ) → InGood b p r → path_step b p ≡ Ok (p + 4 + path_len b p)
  unfolding path_step path_len
  path-is p r g =
      let i = g.inside in
      let j = g.place in
      let s2 : p + 2 + 2 + be16 b (p + 2) ≡ p + 4 + be16 b (p + 2) = omega arith in
      rw (mark-is 73 78 p (omega arith) g.mark.0 g.mark.1, len_is 0 1024 (p + 2) (omega arith) (omega arith) g.path.0, s2)

  pub in_fields_is : (p r : ℕ) → InGood b p r → in_fields b p ≡ Ok r
  unfolding in_fields path_len type_len
  in_fields_is p r g =
      let i = g.inside in
      let j = g.place in
      let t2 : p + 2 + 2 ≡ p + 4 = omega arith in
      let s2 : p + 2 + 2 + be16 b (p + 2) ≡ p + 4 + be16 b (p + 2) = omega arith in
      let t4 : p + 4 + be16 b (p + 2) + 2 ≡ p + 6 + be16 b (p + 2) = omega arith in
      let s4 : p + 4 + be16 b (p + 2) + 2 + be16 b (p + 4 + be16 b (p + 2)) ≡ r = omega arith in
      rw (
        mark-is 73 78 p (omega arith) g.mark.0 g.mark.1,
        name_is 0 0 1024 (p + 2) (omega arith) (omega arith) g.path.0 (rw t2 g.path.1),
        s2,
        name_is 2 0 1024 (p + 4 + be16 b (p + 2)) (omega arith) (omega arith) g.type.0 (rw t4 g.type.1),
        s4,
      )

  pub head_is : 12 ≤ length b → get_or b 0 0 ≡ 72 → get_or b 1 0 ≡ 68 → be16 b 2 ≡ 1 → head_step b ≡ Ok 12
  unfolding head_step format_step
  head_is h e f g =
      rw (
        mark-is 72 68 0 (omega arith) e f,
        le-leb 2 (length b - 2) (omega arith),
        eq-eqb _ _ g,
        room-is 4 4 (omega arith),
        room-is 4 8 (omega arith),
      )
