-- Instances: both ways, as for arcs.
-- Assumes nothing.
use Prim.Native.Nat.{ℕ, zero, suc, ◌+◌, ◌≤◌, ◌<◌}
use Rattle.std.specs.Prelude.{◌≡◌, eqb, get_or, drop, Ok}
use Rattle.std.proofs.Math.Path.{refl, ap}
use Rattle.std.proofs.Common.{◌∙◌}
use mathlib.Core.List.{List, [], ◌∷◌}
use native.Mathlib.Omega.{arith}
use Rattle.std.proofs.Math.ListN.{length}
use borrow.Author.Tests.{eqb-true, eq-eqb, ne_eqb}
use Rattle.wire.specs.Wire.{part, be16, Bytes}
use Rattle.names.specs.Order.{cmp}
use Rattle.sheetparts.specs.Form.{path_len, type_len, path_at, type_at, path_step, in_order_step, in_step, ins_step}
use Rattle.sheetlaws.specs.Sheet.{in_end, first, InOk, FromPath, after, AbovePath, InsOk, Instance, enc_text, enc_in, enc_ins, in_at, ins_at}
use Rattle.sheetparts.specs.Passed.{chain_next, clear, same, InGood, in_next, in_fields_next}
use Rattle.sheetlaws.specs.Goes.{path-is, in_fields_is}
use Rattle.sheetlaws.specs.Sound.{span_byte, span_text, part_length}
use Rattle.sheetlaws.specs.Complete.{un_byte, un_text}

module _ (b : List ℕ) where
  abbrev KnownPath : FromPath → ℕ → Type 0
  KnownPath first prev = prev ≡ 0
  KnownPath (after x) prev = (prev ≡ 0 → ⊥) × (path_at b prev ≡ x)

  in_ordered : (prev p q v : ℕ) → (prev ≡ 0 → ⊥) → path_step b p ≡ Ok v → in_order_step b prev p ≡ Ok q → cmp (path_at b prev) (path_at b p) ≡ 0
  unfolding in_order_step
  in_ordered prev p q v nz k e =
      eqb-true _ _ (clear (eqb (cmp (path_at b prev) (path_at b p)) 0) (Ok p) 19 p q (rw (ne_eqb prev 0 nz, k) at e)).0

  pub in_rises : (prev p r : ℕ) → (prev ≡ 0 → ⊥) → in_step b prev p ≡ Ok r → cmp (path_at b prev) (path_at b p) ≡ 0
  unfolding in_step
  in_rises prev p r nz e =
      let o = chain_next (in_order_step b prev p) _ r e in
      in_ordered prev p o.0 (p + 4 + path_len b p) nz (path-is b p r (in_fields_next b p r o.2)) o.1

  in_above : (f : FromPath) (prev p r : ℕ) → KnownPath f prev → in_step b prev p ≡ Ok r → AbovePath f (path_at b p)
  in_above first prev p r h e = tt
  in_above (after x) prev p r h e = rw h.1 at (in_rises prev p r h.0 e)

  in_goes : (f : FromPath) (prev p r : ℕ) (x : List ℕ) → KnownPath f prev → path_at b p ≡ x → AbovePath f x → InGood b p r → in_step b prev p ≡ Ok r
  unfolding in_step in_order_step
  in_goes first prev p r x h e u g = rw (eq-eqb prev 0 h) (in_fields_is b p r g)
  in_goes (after y) prev p r x h e u g =
      rw (ne_eqb prev 0 h.0, path-is b p r g, eq-eqb (cmp (path_at b prev) (path_at b p)) 0 (rw (h.1, e) u)) (in_fields_is b p r g)

  -- sound
  module _ (bytes : Bytes b) where
    in_text1 : (p q : ℕ) → q ≡ p + 4 + path_len b p → q ≤ length b → drop (p + 2) b ≡ enc_text (path_at b p) (drop q b)
    unfolding path_len
    in_text1 p q e h =
        let s : p + 2 + 2 ≡ p + 4 = omega arith in
        rw s at (span_text b bytes (p + 2) (be16 b (p + 2)) q refl (omega arith) h)

    in_text2 : (p q : ℕ) → q ≡ in_end b p → q ≤ length b → drop (p + 4 + path_len b p) b ≡ enc_text (type_at b p) (drop q b)
    unfolding path_len type_len
    in_text2 p q e h =
        let s : p + 4 + be16 b (p + 2) + 2 ≡ p + 6 + be16 b (p + 2) = omega arith in
        rw s at (span_text b bytes (p + 4 + be16 b (p + 2)) (be16 b (p + 4 + be16 b (p + 2))) q refl (omega arith) h)

    span_in : (p r : ℕ) → InGood b p r → drop p b ≡ enc_in (in_at b p) (drop r b)
    unfolding enc_in
    span_in p r g =
        let i = g.inside in
        let j = g.place in
        span_byte b bytes p (p + 1) refl (omega arith) ∙ rw g.mark.0 (ap (λ t. 73 ∷ t)
        (span_byte b bytes (p + 1) (p + 2) (omega arith) (omega arith) ∙ rw g.mark.1 (ap (λ t. 78 ∷ t)
        (in_text1 p (p + 4 + path_len b p) refl (omega arith) ∙ ap (λ t. enc_text (path_at b p) t) (in_text2 p r j i)))))

    in_ok : (p r : ℕ) → InGood b p r → InOk (in_at b p)
    in_ok p r g =
        let i = g.inside in
        let j = g.place in
        let l1 = part_length b bytes (p + 4) (path_len b p) (omega arith) in
        let l2 = part_length b bytes (p + 6 + path_len b p) (type_len b p) (omega arith) in
        record { path = (rw l1 g.path.0, g.path.1); type = (rw l2 g.type.0, g.type.1) }

    pub ins_sound : (n : ℕ) (f : FromPath) (prev p r : ℕ) → 0 < p → KnownPath f prev → ins_step b n prev p ≡ Ok r
        → (drop p b ≡ enc_ins (ins_at b n p) (drop r b)) × InsOk f (ins_at b n p) × (length (ins_at b n p) ≡ n) × (p ≤ r)
    unfolding ins_step enc_ins ins_at
    ins_sound zero f prev p r h k e = let s = same e in (rw s refl, tt, refl, omega arith)
    ins_sound (suc n) f prev p r h k e =
        let o = chain_next (in_step b prev p) _ r e in
        let g = in_next b prev p o.0 o.1 in
        let j = g.place in
        let w = ins_sound n (after (path_at b p)) p (in_end b p) r (omega arith) ((λ z. omega arith), refl) (rw g.place at o.2) in
        let l = w.3 in (
          span_in p o.0 g ∙ ap (λ t. enc_in (in_at b p) t) (rw g.place w.0),
          (
            in_ok p o.0 g,
            in_above f prev p o.0 k o.1,
            w.1,
          ),
          ap suc w.2,
          omega arith,
        )

  -- complete
  pub record ReadIn (p : ℕ) (i : Instance) (t : List ℕ) : Type 0 where
    pub path : path_at b p ≡ i.path
    pub type : type_at b p ≡ i.type
    pub good : InGood b p (in_end b p)
    pub rest : drop (in_end b p) b ≡ t

  in_finish : (p : ℕ) (i : Instance) (t : List ℕ) → InOk i → get_or b p 0 ≡ 73 → get_or b (p + 1) 0 ≡ 78
      → be16 b (p + 2) ≡ length i.path → part b (p + 4) (length i.path) ≡ i.path
      → be16 b (p + 4 + length i.path) ≡ length i.type → part b (p + 6 + length i.path) (length i.type) ≡ i.type
      → drop (p + 6 + length i.path + length i.type) b ≡ t → p + 6 + length i.path + length i.type ≤ length b → ReadIn p i t
  unfolding path_len type_len
  in_finish p i t o m0 m1 f1 x1 g2 x2 d h =
      let f2 : be16 b (p + 4 + be16 b (p + 2)) ≡ length i.type = rw f1 g2 in
      let e : in_end b p ≡ p + 6 + length i.path + length i.type = rw (f2, f1) refl in
      record {
        path = rw f1 x1;
        type = rw (f2, f1) x2;
        good = record {
          mark = (m0, m1);
          path = (rw f1 o.path.0, rw (f1, x1) o.path.1);
          type = (rw f2 o.type.0, rw (f2, f1, x2) o.type.1);
          place = refl;
          inside = rw e h;
        };
        rest = rw e d;
      }

  un_in : (p : ℕ) (i : Instance) (t : List ℕ) → InOk i → drop p b ≡ enc_in i t → ReadIn p i t
  unfolding enc_in
  un_in p i t o e =
      let h1 = o.path.0 in
      let h2 = o.type.0 in
      let u0 = un_byte b p 73 _ e in
      let u1 = un_byte b (p + 1) 78 _ u0.1 in
      let s1 : p + 1 + 1 ≡ p + 2 = omega arith in
      let u2 = un_text b (p + 2) i.path _ (omega arith) (rw s1 at u1.1) in
      let s2 : p + 2 + 2 + length i.path ≡ p + 4 + length i.path = omega arith in
      let r2 : p + 2 + 2 ≡ p + 4 = omega arith in
      let u3 = un_text b (p + 4 + length i.path) i.type t (omega arith) (rw s2 at u2.2) in
      let s3 : p + 4 + length i.path + 2 + length i.type ≡ p + 6 + length i.path + length i.type = omega arith in
      let r3 : p + 4 + length i.path + 2 ≡ p + 6 + length i.path = omega arith in
      in_finish p i t o u0.0 u1.0 u2.0 (rw r2 at u2.1) u3.0 (rw r3 at u3.1) (rw s3 at u3.2) (omega arith)

  pub ins_complete : (f : FromPath) (xs : List Instance) (prev p : ℕ) (t : List ℕ) → 0 < p → p ≤ length b → KnownPath f prev → InsOk f xs
      → drop p b ≡ enc_ins xs t
      → (ins_at b (length xs) p ≡ xs) × ((r : ℕ) × (ins_step b (length xs) prev p ≡ Ok r) × (drop r b ≡ t) × (p ≤ r) × (r ≤ length b))
  unfolding ins_step enc_ins ins_at
  ins_complete f [] prev p t h y k o e = (refl, (p, refl, e, omega arith, y))
  ins_complete f (i ∷ xs) prev p t h y k o e =
      let u = un_in p i (enc_ins xs t) o.0 e in
      let n = u.good.inside in
      let w = ins_complete (after i.path) xs p (in_end b p) t (omega arith) n ((λ z. omega arith), u.path) o.2 u.rest in
      let l = w.1.3 in (
        rw (u.path, u.type, w.0) refl,
        (
          w.1.0,
          rw (in_goes f prev p (in_end b p) i.path k u.path o.1 u.good) w.1.1,
          w.1.2,
          omega arith,
          w.1.4,
        ),
      )
