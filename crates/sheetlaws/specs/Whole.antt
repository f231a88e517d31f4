-- The whole sheet: decode gives s exactly if s is well formed and encodes to these bytes.
-- Assumes nothing.
use Rattle.std.specs.Prelude.{ℕ, zero, suc, ◌+◌, ◌-◌, ◌/◌, ◌%◌, ◌≤◌, ◌<◌, ◌≡◌, Bool, true, false, ◌↔◌, leb, eqb, Ok, Err}
use Rattle.std.proofs.Math.Path.{refl, ap}
use Rattle.std.proofs.Common.{sym, ◌∙◌, length-drop}
use mathlib.Core.List.{List, [], ◌∷◌}
use native.Mathlib.Omega.{arith}
use Rattle.std.proofs.Math.ListN.{length, get_or, drop, drop_of_length-le}
use borrow.Author.Tests.{eqb-true, eq-eqb, le-leb, leb-true}
use Rattle.classes.specs.Choice.{pick}
use Rattle.wire.specs.Wire.{be32, enc32, Bytes}
use Rattle.sheetparts.specs.Form.{Good, Step, faulty, reach, ar_step, arcs_step, ins_step, head_step, end_step, front_step, back_step, verdict, check_of}
use Rattle.sheetlaws.specs.Sheet.{none, first, Sheet, enc_ins, enc_arcs, encode, ins_at, arcs_at, ar_next, WellFormed, sheet, fault, decode_of, decode}
use Rattle.sheetparts.specs.Passed.{chain_next, clear, same, ar_next_lem, head_next}
use Rattle.sheetlaws.specs.Goes.{head_is}
use Rattle.wire.specs.Round.{four, round32}
use Rattle.sheetlaws.specs.Sound.{span_byte, span16, arcs_sound}
use Rattle.sheetlaws.specs.Complete.{un_byte, un16, arcs_complete}
use Rattle.sheetlaws.specs.Instances.{ins_sound, ins_complete}

pub length-arcs_at : (b : List ℕ) (n p : ℕ) → length (arcs_at b n p) ≡ n
unfolding arcs_at
length-arcs_at b zero p = refl
length-arcs_at b (suc n) p = ap suc (length-arcs_at b n (ar_next b p))

arcs_inside : (b : List ℕ) (n prev p r : ℕ) → p ≤ length b → arcs_step b n prev p ≡ Ok r → r ≤ length b
unfolding arcs_step
arcs_inside b zero prev p r h e = let s = same e in omega arith
arcs_inside b (suc n) prev p r h e =
    let o = chain_next (ar_step b prev p) _ r e in
    arcs_inside b n p o.0 r (ar_next_lem b prev p o.0 o.1).inside o.2

module _ (b : List ℕ) where
  span32 : Bytes b → (p q : ℕ) → q ≡ p + 4 → q ≤ length b → (drop p b ≡ enc32 (be32 b p) (drop q b)) × (be32 b p < 4294967296)
  unfolding be32
  span32 y p q e h =
      let f = four (get_or b p 0) (get_or b (p + 1) 0) (get_or b (p + 2) 0) (get_or b (p + 3) 0) _ (y p) (y (p + 1)) (y (p + 2)) (y (p + 3)) refl in (
        rw (f.0, f.1, f.2, f.3)
            (span_byte b y p (p + 1) refl (omega arith) ∙ ap (λ t. get_or b p 0 ∷ t)
            (span_byte b y (p + 1) (p + 2) (omega arith) (omega arith) ∙ ap (λ t. get_or b (p + 1) 0 ∷ t)
            (span_byte b y (p + 2) (p + 3) (omega arith) (omega arith) ∙ ap (λ t. get_or b (p + 2) 0 ∷ t)
            (span_byte b y (p + 3) q (omega arith) (omega arith))))),
        f.4,
      )

  un32 : (p n : ℕ) (t : List ℕ) → drop p b ≡ enc32 n t → (be32 b p ≡ n) × (drop (p + 4) b ≡ t) × (p + 4 ≤ length b)
  unfolding be32
  un32 p n t e =
      let u = un_byte b p (n / 16777216) _ e in
      let v = un_byte b (p + 1) (n / 65536 % 256) _ u.1 in
      let s1 : p + 1 + 1 ≡ p + 2 = omega arith in
      let w = un_byte b (p + 2) (n / 256 % 256) _ (rw s1 at v.1) in
      let s2 : p + 2 + 1 ≡ p + 3 = omega arith in
      let x = un_byte b (p + 3) (n % 256) t (rw s2 at w.1) in
      let s3 : p + 3 + 1 ≡ p + 4 = omega arith in
      (rw (u.0, v.0, w.0, x.0) (round32 n), rw s3 at x.1, omega arith)

  end_next : (p q : ℕ) → end_step b p ≡ Ok q → p ≡ length b
  unfolding end_step
  end_next p q e = eqb-true _ _ (clear (eqb p (length b)) (Ok p) 10 p q e).0

  -- no fault: well formed, and these bytes
  whole : Bytes b → length b ≤ 16777216 → (q0 f r q : ℕ) → head_step b ≡ Ok q0 → ins_step b (be32 b 4) 0 q0 ≡ Ok f
      → arcs_step b (be32 b 8) 0 f ≡ Ok r → end_step b r ≡ Ok q
      → (WellFormed (record { instances = ins_at b (be32 b 4) 12; arcs = arcs_at b (be32 b 8) f }))
      × (encode (record { instances = ins_at b (be32 b 4) 12; arcs = arcs_at b (be32 b 8) f }) ≡ b)
  unfolding encode
  whole y h q0 f r q e0 e1 e2 e3 =
      let n = head_next b q0 e0 in
      let i = ins_sound b y (be32 b 4) first 0 12 f (omega arith) refl (rw n.0 at e1) in
      let l = i.3 in
      let a = arcs_sound b y (be32 b 8) none 0 f r (omega arith) refl e2 in
      let z = end_next r q e3 in
      let zr : length b ≤ r = omega arith in
      let nil : drop r b ≡ [] = drop_of_length-le b zr in
      let x4 = span32 y 4 8 refl (omega arith) in
      let x8 = span32 y 8 12 refl (omega arith) in
      let m : encode (record { instances = ins_at b (be32 b 4) 12; arcs = arcs_at b (be32 b 8) f }) ≡ b
      = rw (i.2, length-arcs_at b (be32 b 8) f)
      (sym (span_byte b y 0 1 refl (omega arith) ∙ rw n.2 (ap (λ t. 72 ∷ t)
      (span_byte b y 1 2 refl (omega arith) ∙ rw n.3 (ap (λ t. 68 ∷ t)
      (span16 b y 2 4 refl (omega arith) ∙ rw n.4 (ap (λ t. 0 ∷ 1 ∷ t)
      (x4.0 ∙ ap (λ t. enc32 (be32 b 4) t) (x8.0 ∙ ap (λ t. enc32 (be32 b 8) t)
      (i.0 ∙ ap (λ t. enc_ins (ins_at b (be32 b 4) 12) t)
      (a.0 ∙ ap (λ t. enc_arcs (arcs_at b (be32 b 8) f) t) nil))))))))))) in (
        record {
          instances = i.1;
          arcs = a.1;
          counts = (rw i.2 x4.1, rw (length-arcs_at b (be32 b 8) f) x8.1);
          size = let lm =
              ap length m in omega (arith, lm, h);
        },
        m,
      )

-- the arcs stand up to the end
pub arcs_to_end : (b : List ℕ) → Bytes b → (f q : ℕ) → front_step b ≡ Ok f → back_step b f ≡ Ok q → drop f b ≡ enc_arcs (arcs_at b (be32 b 8) f) []
unfolding front_step back_step
arcs_to_end b y f q e1 e2 =
    let o = chain_next (head_step b) _ f e1 in
    let n = head_next b o.0 o.1 in
    let i = ins_sound b y (be32 b 4) first 0 12 f (omega arith) refl (rw n.0 at o.2) in
    let l = i.3 in
    let w = chain_next (arcs_step b (be32 b 8) 0 f) _ q e2 in
    let a = arcs_sound b y (be32 b 8) none 0 f w.0 (omega arith) refl w.1 in
    let z = end_next b w.0 q w.2 in
    let zr : length b ≤ w.0 = omega arith in
    a.0 ∙ ap (λ t. enc_arcs (arcs_at b (be32 b 8) f) t) (drop_of_length-le b zr)

pub inj : {s t : Sheet} → sheet s ≡ sheet t → s ≡ t
inj e = cc

no_fault : {X : Type 0} {k p : ℕ} {s : Sheet} → fault k p ≡ sheet s → X
no_fault e = let z : ◌≡◌ {A = ℕ} 0 1 = cc in absurd (omega arith)

mains : (b : List ℕ) → Bytes b → (f q : ℕ) → length b ≤ 16777216 → front_step b ≡ Ok f → back_step b f ≡ Ok q
    → (WellFormed (record { instances = ins_at b (be32 b 4) 12; arcs = arcs_at b (be32 b 8) f }))
    × (encode (record { instances = ins_at b (be32 b 4) 12; arcs = arcs_at b (be32 b 8) f }) ≡ b)
unfolding front_step back_step
mains b y f q h e1 e2 =
    let o = chain_next (head_step b) _ f e1 in
    let w = chain_next (arcs_step b (be32 b 8) 0 f) _ q e2 in
    whole b y h o.0 f w.0 q o.1 o.2 w.1 w.2

pub decode_sound : (b : List ℕ) (s : Sheet) → Bytes b → decode b ≡ sheet s → WellFormed s × (encode s ≡ b)
unfolding decode check_of
decode_sound b s y e = go (leb (length b) 16777216) refl (front_step b) refl (back_step b (reach (front_step b))) refl e
  where
    main : (f q : ℕ) → length b ≤ 16777216 → front_step b ≡ Ok f → back_step b f ≡ Ok q
        → (WellFormed (record { instances = ins_at b (be32 b 4) 12; arcs = arcs_at b (be32 b 8) f }))
        × (encode (record { instances = ins_at b (be32 b 4) 12; arcs = arcs_at b (be32 b 8) f }) ≡ b)
    main f q h e1 e2 = mains b y f q h e1 e2

    go : (t : Bool) → leb (length b) 16777216 ≡ t → (x : Step) → front_step b ≡ x → (z : Step) → back_step b (reach x) ≡ z
        → decode_of b (pick t (verdict x (verdict z (Good (be32 b 4) (be32 b 8) (reach x)))) (faulty 10 0)) ≡ sheet s → WellFormed s × (encode s ≡ b)
    go true t (Ok f) e1 (Ok q) e2 e = rw (inj e) at (main f q (leb-true _ _ t) e1 e2)
    go true t (Ok f) e1 (Err d) e2 e = no_fault e
    go true t (Err d) e1 z e2 e = no_fault e
    go false t x e1 z e2 e = no_fault e

finish : (s : Sheet) (b : List ℕ) (f r : ℕ) → length b ≤ 16777216 → head_step b ≡ Ok 12 → be32 b 4 ≡ length s.instances
    → be32 b 8 ≡ length s.arcs
    → ins_step b (length s.instances) 0 12 ≡ Ok f → arcs_step b (length s.arcs) 0 f ≡ Ok r → r ≡ length b
    → ins_at b (length s.instances) 12 ≡ s.instances → arcs_at b (length s.arcs) f ≡ s.arcs → decode b ≡ sheet s
unfolding decode check_of front_step back_step end_step
finish s b f r h e0 c4 c8 e1 e2 z x y =
    rw (le-leb (length b) 16777216 h, c4, c8, e0, e1, e2, eq-eqb r (length b) z, x, y)

complete_at : (s : Sheet) (b : List ℕ) → length b ≤ 16777216 → WellFormed s → encode s ≡ b → decode b ≡ sheet s
unfolding encode
complete_at s b h w e =
    let u0 = un_byte b 0 72 _ (sym e) in
    let u1 = un_byte b 1 68 _ u0.1 in
    let u2 = un16 b 2 1 _ (omega arith) u1.1 in
    let u4 = un32 b 4 (length s.instances) _ u2.1 in
    let u8 = un32 b 8 (length s.arcs) _ u4.1 in
    let i = ins_complete b first s.instances 0 12 (enc_arcs s.arcs []) (omega arith) u8.2 refl w.instances u8.1 in
    let l = i.1.3 in
    let a = arcs_complete b none s.arcs 0 i.1.0 [] (omega arith) refl w.arcs i.1.2 in
    let r = arcs_inside b (length s.arcs) 0 i.1.0 a.1.0 i.1.4 a.1.1 in
    let z : length b - a.1.0 ≡ 0 = sym (length-drop a.1.0 b) ∙ ap length a.1.2 in
    finish s b i.1.0 a.1.0 h (head_is b u8.2 u0.0 u1.0 u2.0) u4.0 u8.0 i.1.1 a.1.1 (omega arith) i.0 a.0

complete : (s : Sheet) (b : List ℕ) → WellFormed s → encode s ≡ b → decode b ≡ sheet s
complete s b w e = complete_at s b (rw e at w.size) w e

pub decode_complete : (s : Sheet) → WellFormed s → decode (encode s) ≡ sheet s
decode_complete s w = complete s (encode s) w refl

-- the law
pub sheet_exactly : (b : List ℕ) (s : Sheet) → Bytes b → (decode b ≡ sheet s) ↔ (WellFormed s × (encode s ≡ b))
sheet_exactly b s y = (decode_sound b s y, λ w. complete s b w.0 w.1)
