-- What it means that a step goes on: the fields are there, as they should be.
-- Assumes nothing.
use Prim.Native.Nat.{ℕ, zero, suc, ◌+◌, ◌-◌, ◌*◌, ◌≤◌}
use Rattle.std.specs.Prelude.{◌≡◌, refl, Bool, true, false, List, leb, eqb, length, Ok, Err}
use Rattle.std.proofs.Common.{sym, ap, ◌∙◌}
use native.Mathlib.Omega.{arith}
use Rattle.std.proofs.Math.ListN.{get_or}
use borrow.Author.Tests.{leb-true, eqb-true}
use Rattle.classes.specs.Choice.{pick}
use Rattle.wire.specs.Wire.{part, be16, be64}
use Rattle.sheetparts.specs.Form.{Step, SheetCheck, Good, faulty, shape_ok, chain, is_next, edge_top, edge_top2, second_least, second_most, value_ok, room_step, mark_step, kind_step, edge_step, len_step, name_step, value_step, values_step, first_len, second_len, values_at, key_step, order_step, ar_rest, ar_fields, ar_step, path_at, type_at, path_len, type_len, path_step, in_order_step, in_fields, in_step, format_step, head_step, front_step, verdict}
use Rattle.kinds.specs.Kinds.{is_kind}
use Rattle.sheetparts.specs.declared.Fault.{Fault}
use Rattle.sheetparts.specs.declared.Outline.{Outline}

pub never : {A X : Type 0} {e : Fault} {x : A} → Err e ≡ Ok x → X
never e = let z : ◌≡◌ {A = ℕ} 0 1 = cc in absurd (omega arith)

pub same : {p q : ℕ} → ◌≡◌ {A = Step} (Ok p) (Ok q) → q ≡ p
same e = cc

-- the parts of an outline
pub same_good : {n m f i a p : ℕ} → Good n m f ≡ Good i a p → (n ≡ i) × (m ≡ a) × (f ≡ p)
same_good {n} {m} {f} {i} {a} {p} e =
    let o : ◌≡◌ {A = Outline} (record { instances = n; arcs = m; first_arc = f }) (record { instances = i; arcs = a; first_arc = p }) = cc in
    (ap (λ (x : Outline). x.instances) o, ap (λ (x : Outline). x.arcs) o, ap (λ (x : Outline). x.first_arc) o)

pub clear : (t : Bool) (x : Step) (k p q : ℕ) → pick t x (faulty k p) ≡ Ok q → (t ≡ true) × (x ≡ Ok q)
clear true x k p q e = (refl, e)
clear false x k p q e = never e

pub chain_next : (s : Step) (f : ℕ → Step) (r : ℕ) → chain s f ≡ Ok r → (q : ℕ) × (s ≡ Ok q) × (f q ≡ Ok r)
chain_next (Ok q) f r e = (q, refl, e)
chain_next (Err d) f r e = never e

-- a step that does not go on is what the chain answers
pub stuck : (t s : Step) (f : ℕ → Step) → t ≡ s → is_next t ≡ false → t ≡ chain s f
stuck t (Ok q) f e n = let z : ◌≡◌ {A = Bool} true false = ap is_next (sym e) ∙ n in let y : ◌≡◌ {A = ℕ} 0 1 = cc in absurd (omega arith)
stuck t (Err d) f e n = e

pub verdict_bad : (t s : Step) (x y : SheetCheck) → t ≡ s → is_next t ≡ false → verdict t x ≡ verdict s y
verdict_bad (Ok q) s x y e n = let z : ◌≡◌ {A = ℕ} 0 1 = cc in absurd (omega arith)
verdict_bad (Err d) s x y e n = ap (λ u. verdict u y) e

module _ (b : List ℕ) where
  pub room_next : (n p q : ℕ) → p ≤ length b → room_step b n p ≡ Ok q → (q ≡ p + n) × (q ≤ length b)
  unfolding room_step
  room_next n p q h e =
      let o = clear (leb n (length b - p)) (Ok (p + n)) 10 p q e in
      let l = leb-true n (length b - p) o.0 in
      let s = same o.1 in
      (s, omega arith)

  pub mark-next : (x y p q : ℕ) → mark_step b x y p ≡ Ok q → (q ≡ p + 2) × (p + 2 ≤ length b) × (get_or b p 0 ≡ x) × (get_or b (p + 1) 0 ≡ y)
  unfolding mark_step
  mark-next x y p q e =
      let o = clear (leb 2 (length b - p)) _ 10 p q e in
      let l = leb-true 2 (length b - p) o.0 in
      let u = clear (eqb (get_or b p 0) x) _ 10 p q o.1 in
      let v = clear (eqb (get_or b (p + 1) 0) y) _ 10 p q u.1 in
      (same v.1, omega arith, eqb-true _ _ u.0, eqb-true _ _ v.0)

  pub kind-next : (p q : ℕ) → kind_step b p ≡ Ok q → (q ≡ p + 1) × (p + 1 ≤ length b) × (is_kind (get_or b p 0) ≡ true)
  unfolding kind_step
  kind-next p q e =
      let o = clear (leb 1 (length b - p)) _ 10 p q e in
      let l = leb-true 1 (length b - p) o.0 in
      let u = clear (is_kind (get_or b p 0)) _ 20 p q o.1 in
      (same u.1, omega arith, u.0)

  pub edge_next : (t p q : ℕ) → edge_step b t p ≡ Ok q → (q ≡ p + 1) × (p + 1 ≤ length b) × (get_or b p 0 ≤ t)
  unfolding edge_step
  edge_next t p q e =
      let o = clear (leb 1 (length b - p)) _ 10 p q e in
      let l = leb-true 1 (length b - p) o.0 in
      let u = clear (leb (get_or b p 0) t) _ 20 p q o.1 in
      (same u.1, omega arith, leb-true _ _ u.0)

  pub len_next : (lo hi p q : ℕ) → len_step b lo hi p ≡ Ok q → (q ≡ p + 2 + be16 b p) × (q ≤ length b) × (lo ≤ be16 b p) × (be16 b p ≤ hi)
  unfolding len_step
  len_next lo hi p q e =
      let o = clear (leb 2 (length b - p)) _ 10 p q e in
      let l = leb-true 2 (length b - p) o.0 in
      let u = clear (leb lo (be16 b p)) _ 10 p q o.1 in
      let v = clear (leb (be16 b p) hi) _ 10 p q u.1 in
      let w = clear (leb (be16 b p) (length b - (p + 2))) _ 10 (p + 2) q v.1 in
      let m = leb-true (be16 b p) (length b - (p + 2)) w.0 in
      let s = same w.1 in
      (s, omega arith, leb-true _ _ u.0, leb-true _ _ v.0)

  pub name_next_lem : (m lo hi p q : ℕ) → name_step b m lo hi p ≡ Ok q
      → (q ≡ p + 2 + be16 b p) × (q ≤ length b) × (lo ≤ be16 b p) × (be16 b p ≤ hi) × (shape_ok m (part b (p + 2) (be16 b p)) ≡ true)
  unfolding name_step
  name_next_lem m lo hi p q e =
      let o = chain_next (len_step b lo hi p) _ q e in
      let u = clear (shape_ok m (part b (p + 2) (be16 b p))) _ 20 (p + 2) q o.2 in
      let n = len_next lo hi p o.0 o.1 in
      let s = same u.1 in
      (s ∙ n.0, omega arith, n.2, n.3, u.0)

  pub value-next : (k i p q : ℕ) → value_step b k i p ≡ Ok q → (q ≡ p + 8) × (p + 8 ≤ length b) × (value_ok k i (be64 b p) ≡ true)
  unfolding value_step
  value-next k i p q e =
      let o = clear (leb 8 (length b - p)) _ 10 p q e in
      let l = leb-true 8 (length b - p) o.0 in
      let u = clear (value_ok k i (be64 b p)) _ 21 p q o.1 in
      (same u.1, omega arith, u.0)

  pub values_next : (k n i p q : ℕ) → p ≤ length b → values_step b k n i p ≡ Ok q → (q ≡ p + 8 * n) × (q ≤ length b)
  unfolding values_step
  values_next k zero i p q h e = let s = same e in (omega arith, omega arith)
  values_next k (suc n) i p q h e =
      let o = chain_next (value_step b k i p) _ q e in
      let v = value-next k i p o.0 o.1 in
      let r = values_next k n (i + 1) o.0 q (omega arith) o.2 in
      (omega arith, r.1)

  pub format_next : (p q : ℕ) → format_step b p ≡ Ok q → (q ≡ p + 2) × (p + 2 ≤ length b) × (be16 b p ≡ 1)
  unfolding format_step
  format_next p q e =
      let o = clear (leb 2 (length b - p)) _ 10 p q e in
      let l = leb-true 2 (length b - p) o.0 in
      let u = clear (eqb (be16 b p) 1) _ 22 p q o.1 in
      (same u.1, omega arith, eqb-true _ _ u.0)

  pub key-next : (p q : ℕ) → key_step b p ≡ Ok q → (q ≡ values_at b p) × (q ≤ length b)
  unfolding key_step first_len second_len
  key-next p q e =
      let o1 = chain_next (mark_step b 65 82 p) _ q e in
      let m1 = mark-next 65 82 p o1.0 o1.1 in
      let o2 = chain_next (room_step b 2 o1.0) _ q o1.2 in
      let m2 = room_next 2 o1.0 o2.0 (omega arith) o2.1 in
      let o3 = chain_next (len_step b 1 2049 o2.0) _ q o2.2 in
      let m3 = len_next 1 2049 o2.0 o3.0 o3.1 in
      let o4 = chain_next (room_step b 1 o3.0) _ q o3.2 in
      let m4 = room_next 1 o3.0 o4.0 m3.1 o4.1 in
      let m5 = len_next (second_least (get_or b o1.0 0)) (second_most (get_or b o1.0 0)) o4.0 q o4.2 in
      let e2 : o2.0 ≡ p + 4 = omega arith in
      let n3 : o3.0 ≡ p + 6 + be16 b (p + 4) = m3.0 ∙ rw e2 (omega arith) in
      let e4 : o4.0 ≡ p + 7 + be16 b (p + 4) = omega arith in
      (m5.0 ∙ rw e4 (omega arith), m5.1)

  -- what a good arc record is
  pub record ArGood (p r : ℕ) : Type 0 where
    pub mark : (get_or b p 0 ≡ 65) × (get_or b (p + 1) 0 ≡ 82)
    pub kind : is_kind (get_or b (p + 2) 0) ≡ true
    pub edge : get_or b (p + 3) 0 ≤ edge_top (get_or b (p + 2) 0)
    pub first : (1 ≤ first_len b p) × (first_len b p ≤ 2049) × (shape_ok 1 (part b (p + 6) (first_len b p)) ≡ true)
    pub edge2 : get_or b (p + 6 + first_len b p) 0 ≤ edge_top2 (get_or b (p + 2) 0)
    pub second :
        (second_least (get_or b (p + 2) 0) ≤ second_len b p) × (second_len b p ≤ second_most (get_or b (p + 2) 0))
        × (shape_ok 1 (part b (p + 9 + first_len b p) (second_len b p)) ≡ true)
    pub values : values_step b (get_or b (p + 2) 0) 18 0 (values_at b p) ≡ Ok r
    pub place : r ≡ values_at b p + 144
    pub inside : r ≤ length b

  ar_gather : (p q1 q2 q3 q4 q5 q6 r : ℕ) → mark_step b 65 82 p ≡ Ok q1 → kind_step b q1 ≡ Ok q2
      → edge_step b (edge_top (get_or b q1 0)) q2 ≡ Ok q3 → name_step b 1 1 2049 q3 ≡ Ok q4 → edge_step b (edge_top2 (get_or b q1 0)) q4 ≡ Ok q5
      → name_step b 1 (second_least (get_or b q1 0)) (second_most (get_or b q1 0)) q5 ≡ Ok q6 → values_step b (get_or b q1 0) 18 0 q6 ≡ Ok r → ArGood p r
  unfolding first_len second_len
  ar_gather p q1 q2 q3 q4 q5 q6 r h1 h2 h3 h4 h5 h6 h7 =
      let m1 = mark-next 65 82 p q1 h1 in
      let m2 = kind-next q1 q2 h2 in
      let m3 = edge_next (edge_top (get_or b q1 0)) q2 q3 h3 in
      let m4 = name_next_lem 1 1 2049 q3 q4 h4 in
      let m5 = edge_next (edge_top2 (get_or b q1 0)) q4 q5 h5 in
      let m6 = name_next_lem 1 (second_least (get_or b q1 0)) (second_most (get_or b q1 0)) q5 q6 h6 in
      let m7 = values_next (get_or b q1 0) 18 0 q6 r m6.1 h7 in
      let e1 : q1 ≡ p + 2 = m1.0 in
      let e2 : q2 ≡ p + 3 = omega arith in
      let e3 : q3 ≡ p + 4 = omega arith in
      let e4 : q4 ≡ p + 6 + be16 b (p + 4) = m4.0 ∙ rw e3 (omega arith) in
      let e5 : q5 ≡ p + 7 + be16 b (p + 4) = omega arith in
      let e6 : q6 ≡ values_at b p = m6.0 ∙ rw e5 (omega arith) in
      let s6 : p + 7 + be16 b (p + 4) + 2 ≡ p + 9 + be16 b (p + 4) = omega arith in
      let s3 : p + 4 + 2 ≡ p + 6 = omega arith in
      record {
        mark = (m1.2, m1.3);
        kind = rw e1 at m2.2;
        edge = rw (e1, e2) at m3.2;
        first = (rw e3 at m4.2, rw e3 at m4.3, rw (e3, s3) at m4.4);
        edge2 = rw (e1, e4) at m5.2;
        second = (rw (e1, e5) at m6.2, rw (e1, e5) at m6.3, rw (e5, s6) at m6.4);
        values = rw (e1, e6) at h7;
        place = m7.0 ∙ rw e6 (omega arith);
        inside = m7.1;
      }

  pub fields_next : (p r : ℕ) → ar_fields b p ≡ Ok r → ArGood p r
  unfolding ar_fields ar_rest
  fields_next p r e =
      let o1 = chain_next (mark_step b 65 82 p) _ r e in
      let k = get_or b o1.0 0 in
      let o2 = chain_next (kind_step b o1.0) _ r o1.2 in
      let o3 = chain_next (edge_step b (edge_top k) o2.0) _ r o2.2 in
      let o4 = chain_next (name_step b 1 1 2049 o3.0) _ r o3.2 in
      let o5 = chain_next (edge_step b (edge_top2 k) o4.0) _ r o4.2 in
      let o6 = chain_next (name_step b 1 (second_least k) (second_most k) o5.0) _ r o5.2 in
      ar_gather p o1.0 o2.0 o3.0 o4.0 o5.0 o6.0 r o1.1 o2.1 o3.1 o4.1 o5.1 o6.1 o6.2

  pub ar_next_lem : (prev p r : ℕ) → ar_step b prev p ≡ Ok r → ArGood p r
  unfolding ar_step
  ar_next_lem prev p r e = let o = chain_next (order_step b prev p) _ r e in fields_next p r o.2

  pub path-next : (p q : ℕ) → path_step b p ≡ Ok q → (q ≡ p + 4 + path_len b p) × (q ≤ length b)
  unfolding path_step path_len
  path-next p q e =
      let o1 = chain_next (mark_step b 73 78 p) _ q e in
      let m1 = mark-next 73 78 p o1.0 o1.1 in
      let m2 = len_next 0 1024 o1.0 q o1.2 in
      (m2.0 ∙ rw m1.0 (omega arith), m2.1)

  pub record InGood (p r : ℕ) : Type 0 where
    pub mark : (get_or b p 0 ≡ 73) × (get_or b (p + 1) 0 ≡ 78)
    pub path : (path_len b p ≤ 1024) × (shape_ok 0 (path_at b p) ≡ true)
    pub type : (type_len b p ≤ 1024) × (shape_ok 2 (type_at b p) ≡ true)
    pub place : r ≡ p + 6 + path_len b p + type_len b p
    pub inside : r ≤ length b

  in_gather : (p q1 q2 r : ℕ) → mark_step b 73 78 p ≡ Ok q1 → name_step b 0 0 1024 q1 ≡ Ok q2 → name_step b 2 0 1024 q2 ≡ Ok r → InGood p r
  unfolding path_len type_len
  in_gather p q1 q2 r h1 h2 h3 =
      let m1 = mark-next 73 78 p q1 h1 in
      let m2 = name_next_lem 0 0 1024 q1 q2 h2 in
      let m3 = name_next_lem 2 0 1024 q2 r h3 in
      let e1 : q1 ≡ p + 2 = m1.0 in
      let e2 : q2 ≡ p + 4 + be16 b (p + 2) = m2.0 ∙ rw e1 (omega arith) in
      let s1 : p + 2 + 2 ≡ p + 4 = omega arith in
      let s2 : p + 4 + be16 b (p + 2) + 2 ≡ p + 6 + be16 b (p + 2) = omega arith in
      record {
        mark = (m1.2, m1.3);
        path = (rw e1 at m2.3, rw (e1, s1) at m2.4);
        type = (rw e2 at m3.3, rw (e2, s2) at m3.4);
        place = m3.0 ∙ rw e2 (omega arith);
        inside = m3.1;
      }

  pub in_fields_next : (p r : ℕ) → in_fields b p ≡ Ok r → InGood p r
  unfolding in_fields
  in_fields_next p r e =
      let o1 = chain_next (mark_step b 73 78 p) _ r e in
      let o2 = chain_next (name_step b 0 0 1024 o1.0) _ r o1.2 in
      in_gather p o1.0 o2.0 r o1.1 o2.1 o2.2

  pub in_next : (prev p r : ℕ) → in_step b prev p ≡ Ok r → InGood p r
  unfolding in_step
  in_next prev p r e = let o = chain_next (in_order_step b prev p) _ r e in in_fields_next p r o.2

  head_gather : (q1 q2 q3 q : ℕ) → mark_step b 72 68 0 ≡ Ok q1 → format_step b q1 ≡ Ok q2 → room_step b 4 q2 ≡ Ok q3 → room_step b 4 q3 ≡ Ok q
      → (q ≡ 12) × (12 ≤ length b) × (get_or b 0 0 ≡ 72) × (get_or b 1 0 ≡ 68) × (be16 b 2 ≡ 1)
  head_gather q1 q2 q3 q h1 h2 h3 h4 =
      let m1 = mark-next 72 68 0 q1 h1 in
      let m2 = format_next q1 q2 h2 in
      let m3 = room_next 4 q2 q3 (omega arith) h3 in
      let m4 = room_next 4 q3 q m3.1 h4 in
      (omega arith, omega arith, m1.2, m1.3, rw m1.0 at m2.2)

  pub head_next : (q : ℕ) → head_step b ≡ Ok q → (q ≡ 12) × (12 ≤ length b) × (get_or b 0 0 ≡ 72) × (get_or b 1 0 ≡ 68) × (be16 b 2 ≡ 1)
  unfolding head_step
  head_next q e =
      let o1 = chain_next (mark_step b 72 68 0) _ q e in
      let o2 = chain_next (format_step b o1.0) _ q o1.2 in
      let o3 = chain_next (room_step b 4 o2.0) _ q o2.2 in
      head_gather o1.0 o2.0 o3.0 q o1.1 o2.1 o3.1 o3.2

  pub front-next : (f : ℕ) → front_step b ≡ Ok f → 12 ≤ length b
  unfolding front_step
  front-next f e = let o = chain_next (head_step b) _ f e in (head_next o.0 o.1).1
