-- The encoding of what is well formed is read back, without a fault.
-- Assumes nothing.
use Prim.Native.Nat.{ℕ, suc, ◌+◌, ◌-◌, ◌*◌, ◌/◌, ◌%◌, ◌≤◌, ◌<◌}
use Rattle.std.specs.Prelude.{◌≡◌, Bool, ℤ, take, drop, Ok}
use Rattle.std.proofs.Math.Path.{refl, sym, ap}
use Rattle.std.proofs.Common.{◌∙◌, length-append, length-drop, drop-drop, get_or-drop, take_at, drop_at, SFits, to_z, of_z}
use Rattle.std.proofs.Math.Bool.{true, false}
use mathlib.Core.List.{List, [], ◌∷◌, ◌++◌}
use native.Mathlib.Omega.{arith}
use Rattle.std.proofs.Math.Nat.{add-zero}
use Rattle.std.proofs.Math.ListN.{length, get_or}
use borrow.Author.Tests.{eq-eqb, ne_eqb}
use mir.Syntax.{w64}
use mir.ValLaws.{to_z-of_z, of_z_fits}
use Rattle.wire.specs.Wire.{be64, part, be16, enc16}
use Rattle.wire.specs.Round.{round}
use Rattle.classes.specs.Choice.{pick}
use Rattle.sheetparts.specs.Form.{cmp_key, Key, second_most, one_end, value_ok, values_step, first_len, second_len, values_at, key_at, order_step, ar_step, arcs_step}
use Rattle.sheetparts.specs.Passed.{ArGood, values_next}
use Rattle.sheetlaws.specs.Goes.{value-is, key-is, fields_is}
use Rattle.sheetlaws.specs.Sheet.{none, key, Arc, enc_text, enc_value, enc_values, enc_key, enc_arc, enc_arcs, values_ok, Fit, ArcOk, From, Above, ArcsOk, values_of, ar_next, arcs_at}

pub split : (t : Bool) (x : Bool) → pick t x false ≡ true → (t ≡ true) × (x ≡ true)
split true x e = (refl, e)
split false x e = let z : ◌≡◌ {A = ℕ} 0 1 = cc in absurd (omega arith)

module _ (b : List ℕ) where
  pub un_byte : (p x : ℕ) (t : List ℕ) → drop p b ≡ x ∷ t → (get_or b p 0 ≡ x) × (drop (p + 1) b ≡ t) × (p < length b)
  un_byte p x t e =
      let l : length b - p ≡ suc (length t) = sym (length-drop p b) ∙ ap length e in
      (sym (rw add-zero at (get_or-drop p b 0 0)) ∙ ap (λ l. get_or l 0 0) e, sym (drop-drop 1 p b) ∙ ap (drop 1) e, omega arith)

  pub un16 : (p n : ℕ) (t : List ℕ) → n < 65536 → drop p b ≡ enc16 n t → (be16 b p ≡ n) × (drop (p + 2) b ≡ t) × (p + 2 ≤ length b)
  unfolding be16
  un16 p n t h e =
      let u = un_byte p (n / 256) (n % 256 ∷ t) e in
      let v = un_byte (p + 1) (n % 256) t u.1 in
      let s : p + 1 + 1 ≡ p + 2 = omega arith in
      (rw (u.0, v.0) (omega arith), rw s at v.1, omega arith)

  un_part : (p : ℕ) (x t : List ℕ) → p ≤ length b → drop p b ≡ x ++ t
      → (part b p (length x) ≡ x) × (drop (p + length x) b ≡ t) × (p + length x ≤ length b)
  un_part p x t h e =
      let l : length b - p ≡ length x + length t = sym (length-drop p b) ∙ ap length e ∙ length-append x t in (
        ap (take (length x)) e ∙ take_at x t (length x) refl,
        sym (drop-drop (length x) p b) ∙ ap (drop (length x)) e
            ∙ drop_at x t (length x) refl,
        omega arith,
      )

  pub un_text : (p : ℕ) (x t : List ℕ) → length x < 65536 → drop p b ≡ enc_text x t
      → (be16 b p ≡ length x) × (part b (p + 2) (length x) ≡ x) × (drop (p + 2 + length x) b ≡ t) × (p + 2 + length x ≤ length b)
  un_text p x t h e =
      let u = un16 p (length x) (x ++ t) h e in
      let v = un_part (p + 2) x t u.2 u.1 in
      (u.0, v.0, v.1, v.2)

  un_eight : (p c0 c1 c2 c3 c4 c5 c6 c7 : ℕ) (t : List ℕ) → drop p b ≡ c0 ∷ c1 ∷ c2 ∷ c3 ∷ c4 ∷ c5 ∷ c6 ∷ c7 ∷ t
      → (be64 b p ≡ be64 (c0 ∷ c1 ∷ c2 ∷ c3 ∷ c4 ∷ c5 ∷ c6 ∷ c7 ∷ []) 0) × (drop (p + 8) b ≡ t) × (p + 8 ≤ length b)
  unfolding be64
  un_eight p c0 c1 c2 c3 c4 c5 c6 c7 t e =
      let l : length b - p ≡ suc (suc (suc (suc (suc (suc (suc (suc (length t)))))))) = sym (length-drop p b) ∙ ap length e in
      let g : (i : ℕ) → get_or b (p + i) 0 ≡ get_or (c0 ∷ c1 ∷ c2 ∷ c3 ∷ c4 ∷ c5 ∷ c6 ∷ c7 ∷ t) i 0 = λ i. sym (get_or-drop p b i 0)
      ∙ ap (λ l. get_or l i 0) e in
      (rw (rw add-zero at (g 0), g 1, g 2, g 3, g 4, g 5, g 6, g 7), sym (drop-drop 8 p b) ∙ ap (drop 8) e, omega arith)

  un_value : (p : ℕ) (z : ℤ) (t : List ℕ) → SFits w64 z → drop p b ≡ enc_value z t
      → (to_z w64 (be64 b p) ≡ z) × (be64 b p ≡ of_z w64 z) × (drop (p + 8) b ≡ t) × (p + 8 ≤ length b)
  un_value p z t f e =
      let u = un_eight p _ _ _ _ _ _ _ _ t e in
      let n = u.0 ∙ round (of_z w64 z) (of_z_fits w64 z f).fits in
      (ap (to_z w64) n ∙ to_z-of_z w64 z f, n, u.1, u.2)

  un_values : (k i p : ℕ) (zs : List ℤ) (t : List ℕ) → Fit zs → values_ok k i zs ≡ true → drop p b ≡ enc_values zs t
      → (values_of b (length zs) p ≡ zs) × (values_step b k (length zs) i p ≡ Ok (p + 8 * length zs)) × (drop (p + 8 * length zs) b ≡ t)
  unfolding enc_values values_ok values_of values_step
  un_values k i p [] t f o e = let s : p + 8 * 0 ≡ p = omega arith in rw s (refl, refl, e)
  un_values k i p (z ∷ zs) t f o e =
      let u = un_value p z (enc_values zs t) f.0 e in
      let q = split (value_ok k i (of_z w64 z)) (values_ok k (i + 1) zs) o in
      let w = un_values k (i + 1) (p + 8) zs t f.1 q.1 u.2 in
      let s : p + 8 * suc (length zs) ≡ p + 8 + 8 * length zs = omega arith in
      rw s (rw (u.0, w.0) refl, rw (value-is b k i p u.3 (rw u.1 q.0)) w.1, w.2)

  key_eq : (k : Key) (n1 n2 n3 : ℕ) (x y : List ℕ) → n1 ≡ k.kind → x ≡ k.first → n2 ≡ k.edge → y ≡ k.second → n3 ≡ k.edge2
      → record { kind = n1; first = x; edge = n2; second = y; edge2 = n3 } ≡ k
  key_eq k n1 n2 n3 x y e1 e2 e3 e4 e5 = rw (e1, e2, e3, e4, e5)

  second_most-le : (k : ℕ) → second_most k ≤ 2049
  unfolding second_most
  second_most-le k = by (one_end k)
    where
      by : (t : Bool) → pick t 0 2049 ≤ 2049
      by true = omega arith
      by false = omega arith

  pub record Read (p : ℕ) (a : Arc) (t : List ℕ) : Type 0 where
    pub key : key_at b p ≡ a.key
    pub values : values_of b 18 (values_at b p) ≡ a.values
    pub good : ArGood b p (ar_next b p)
    pub rest : drop (ar_next b p) b ≡ t

  finish : (p : ℕ) (a : Arc) (t : List ℕ) → ArcOk a → get_or b p 0 ≡ 65 → get_or b (p + 1) 0 ≡ 82 → get_or b (p + 2) 0 ≡ a.key.kind
      → get_or b (p + 3) 0 ≡ a.key.edge
      → be16 b (p + 4) ≡ length a.key.first → part b (p + 6) (length a.key.first) ≡ a.key.first
      → get_or b (p + 6 + length a.key.first) 0 ≡ a.key.edge2
      → be16 b (p + 7 + length a.key.first) ≡ length a.key.second
      → part b (p + 9 + length a.key.first) (length a.key.second) ≡ a.key.second
      → drop (p + 9 + length a.key.first + length a.key.second) b ≡ enc_values a.values t
      → p + 9 + length a.key.first + length a.key.second ≤ length b → Read p a t
  unfolding first_len second_len key_at
  finish p a t o m0 m1 mk me f1 x1 me2 g2 x2 d h =
      let f2 : be16 b (p + 7 + be16 b (p + 4)) ≡ length a.key.second = rw f1 g2 in
      let v0 : values_at b p ≡ p + 9 + length a.key.first + length a.key.second = rw (f2, f1) refl in
      let l = o.values.0 in
      let w = un_values a.key.kind 0 (p + 9 + length a.key.first + length a.key.second) a.values t o.values.2 o.values.1 d in
      let r : p + 9 + length a.key.first + length a.key.second + 8 * length a.values ≡ ar_next b p = omega arith in
      let y = values_next b a.key.kind (length a.values) 0 (p + 9 + length a.key.first + length a.key.second) _ h w.1 in
      let z : ar_next b p ≤ length b = omega (arith, y.1, r) in
      record {
        key = key_eq a.key _ _ _ _ _ mk (rw f1 x1) me (rw (f2, f1) x2) (rw f1 me2);
        values = rw v0 (rw l at w.0);
        good = record {
          mark = (m0, m1);
          kind = rw mk o.kind;
          edge = rw (mk, me) o.edge;
          first = (rw f1 o.first.0, rw f1 o.first.1, rw (f1, x1) o.first.2);
          edge2 = rw (mk, f1, me2) o.edge2;
          second = (rw (f2, mk) o.second.0, rw (f2, mk) o.second.1, rw (f2, f1, x2) o.second.2);
          values = rw (mk, v0) (rw l at w.1);
          place = refl;
          inside = z;
        };
        rest = rw r at w.2;
      }

  pub un_arc : (p : ℕ) (a : Arc) (t : List ℕ) → ArcOk a → drop p b ≡ enc_arc a t → Read p a t
  unfolding enc_key key_at first_len second_len
  un_arc p a t o e =
      let k = a.key in
      let h1 = o.first in
      let h2 = o.second in
      let h3 = second_most-le k.kind in
      let u0 = un_byte p 65 _ e in
      let u1 = un_byte (p + 1) 82 _ u0.1 in
      let s1 : p + 1 + 1 ≡ p + 2 = omega arith in
      let u2 = un_byte (p + 2) k.kind _ (rw s1 at u1.1) in
      let s2 : p + 2 + 1 ≡ p + 3 = omega arith in
      let u3 = un_byte (p + 3) k.edge _ (rw s2 at u2.1) in
      let s3 : p + 3 + 1 ≡ p + 4 = omega arith in
      let u4 = un_text (p + 4) k.first _ (omega arith) (rw s3 at u3.1) in
      let s4 : p + 4 + 2 + length k.first ≡ p + 6 + length k.first = omega arith in
      let r4 : p + 4 + 2 ≡ p + 6 = omega arith in
      let u5 = un_byte (p + 6 + length k.first) k.edge2 _ (rw s4 at u4.2) in
      let s5 : p + 6 + length k.first + 1 ≡ p + 7 + length k.first = omega arith in
      let u6 = un_text (p + 7 + length k.first) k.second _ (omega arith) (rw s5 at u5.1) in
      let s6 : p + 7 + length k.first + 2 ≡ p + 9 + length k.first = omega arith in
      let s7 : p + 7 + length k.first + 2 + length k.second ≡ p + 9 + length k.first + length k.second = omega arith in
      finish p a t o u0.0 u1.0 u2.0 u3.0 u4.0 (rw r4 at u4.1) u5.0 u6.0 (rw s6 at u6.1) (rw s7 at u6.2) (omega arith)

  abbrev Known : From → ℕ → Type 0
  Known none prev = prev ≡ 0
  Known (key k) prev = (prev ≡ 0 → ⊥) × (key_at b prev ≡ k)

  goes : (f : From) (prev p r : ℕ) (k : Key) → Known f prev → key_at b p ≡ k → Above f k → ArGood b p r → ar_step b prev p ≡ Ok r
  unfolding ar_step order_step
  goes none prev p r k h e u g = rw (eq-eqb prev 0 h) (fields_is b p r g)
  goes (key j) prev p r k h e u g =
      rw (ne_eqb prev 0 h.0, key-is b p r g, eq-eqb (cmp_key (key_at b prev) (key_at b p)) 0 (rw (h.1, e) u)) (fields_is b p r g)

  -- complete: the encoding of a well-formed list is read back, without a fault
  pub arcs_complete : (f : From) (xs : List Arc) (prev p : ℕ) (t : List ℕ) → 0 < p → Known f prev → ArcsOk f xs → drop p b ≡ enc_arcs xs t
      → (arcs_at b (length xs) p ≡ xs) × ((r : ℕ) × (arcs_step b (length xs) prev p ≡ Ok r) × (drop r b ≡ t))
  unfolding arcs_step enc_arcs arcs_at
  arcs_complete f [] prev p t h k o e = (refl, (p, refl, e))
  arcs_complete f (a ∷ xs) prev p t h k o e =
      let u = un_arc p a (enc_arcs xs t) o.0 e in
      let w = arcs_complete (key a.key) xs p (ar_next b p) t (omega arith) ((λ z. omega arith), u.key) o.2 u.rest in
      (rw (u.key, u.values, w.0) refl, (w.1.0, rw (goes f prev p (ar_next b p) a.key k u.key o.1 u.good) w.1.1, w.1.2))
