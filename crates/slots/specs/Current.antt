-- A sheet with the starting sheet's records spells itself: it is the starting sheet with its own values, in range or not.
-- Assumes nothing.
use Prim.Native.Nat.{ℕ, zero, suc, ◌+◌, ◌-◌, ◌*◌, ◌/◌, ◌%◌, ◌≤◌, ◌<◌}
use Rattle.std.specs.Prelude.{◌≡◌, true, get_or}
use Rattle.std.proofs.Math.Path.{refl, sym, ap}
use Rattle.std.proofs.Common.{◌∙◌, add-zero, length-append, length-drop, take-append-drop, get_or-take, get_or-drop, drop-drop, to_z}
use mathlib.Core.List.{List, [], ◌∷◌, ◌++◌, append_assoc}
use native.Mathlib.Omega.{arith}
use Rattle.std.proofs.Math.ListN.{length, take, drop, drop_of_length-le}
use Rattle.std.proofs.Math.Seq.{take_at}
use mir.Syntax.{w64}
use mir.ValLaws.{to_z-Fits}
use Rattle.wire.specs.Wire.{Bytes, be16, be64, part, enc16, enc32}
use Rattle.names.specs.Name.{both}
use Rattle.names.specs.Order.{same_text}
use Rattle.names.specs.Laws.{text_exactly}
use Rattle.sheetparts.specs.Form.{Good, Key, first_len, second_len, values_at, key_at, check_of}
use Rattle.sheetlaws.specs.Rule.{least}
use Rattle.sheetlaws.specs.Sheet.{
  Instance,
  Sheet,
  enc_value,
  enc_values,
  enc_key,
  enc_arcs,
  enc_in,
  enc_ins,
  encode,
  Fit,
  From,
  none,
  key,
  ArcsOk,
  values_of,
  arc_at,
  ar_next,
  arcs_at,
  ins_at,
  nth,
}
use Rattle.sheetlaws.specs.Sound.{below, span_value}
use Rattle.sheetlaws.specs.Complete.{un_arc}
use Rattle.sheetlaws.specs.Values.{key_len, off, off-place}
use Rattle.sheetlaws.specs.Whole.{length-arcs_at}
use Rattle.sheetlaws.specs.Set.{arcs_from}
use Rattle.sheet.specs.Same.{same_keys, same_records}
use Rattle.sheet.specs.Find.{sheet_good}
use Rattle.history.specs.Sheet.{Slot, Values}
use Rattle.slots.specs.Slots.{meant, numeral, slot_number, slot_at, arc_values, arcs_with, with_values, spelled, sheet_at}
use Rattle.slots.specs.Slots as slots
use Rattle.slots.specs.Numbers.{slot_number_lem, numeral-meant}
use Rattle.slots.specs.Arcs.{eighteen, are_eighteen, arc_of_lem, fit_at, length_with}
use Rattle.slots.specs.Spelled.{sound}

-- What follows a key, an instance and all that stands before the arcs follows their bytes.

-- a key
key-append : (k : Key) (t : List ℕ) → enc_key k [] ++ t ≡ enc_key k t
unfolding enc_key
key-append k t =
    let m1 = length k.first in
    let m2 = length k.second in
    ap (λ l. 65 ∷ 82 ∷ k.kind ∷ k.edge ∷ m1 / 256 ∷ m1 % 256 ∷ l)
    (append_assoc k.first (k.edge2 ∷ m2 / 256 ∷ m2 % 256 ∷ (k.second ++ [])) t
    ∙ ap (λ l. k.first ++ k.edge2 ∷ m2 / 256 ∷ m2 % 256 ∷ l) (append_assoc k.second [] t))

-- and how many bytes it has
key-bytes : (k : Key) → length (enc_key k []) ≡ key_len k
unfolding enc_key
key-bytes k = simp length-append (omega arith)

-- an instance, and all of them
in_append : (i : Instance) (s t : List ℕ) → enc_in i s ++ t ≡ enc_in i (s ++ t)
unfolding enc_in
in_append i s t =
    let m1 = length i.path in
    let m2 = length i.type in
    ap (λ l. 73 ∷ 78 ∷ m1 / 256 ∷ m1 % 256 ∷ l)
    (append_assoc i.path (m2 / 256 ∷ m2 % 256 ∷ (i.type ++ s)) t
    ∙ ap (λ l. i.path ++ m2 / 256 ∷ m2 % 256 ∷ l) (append_assoc i.type s t))

ins-append : (is : List Instance) (t : List ℕ) → enc_ins is [] ++ t ≡ enc_ins is t
unfolding enc_ins
ins-append [] t = refl
ins-append (i ∷ is) t = in_append i (enc_ins is []) t ∙ ap (enc_in i) (ins-append is t)

-- the bytes before the arcs: these instances, so many arcs
abbrev front : List Instance → ℕ → List ℕ
front is m = 72 ∷ 68 ∷ enc16 1 (enc32 (length is) (enc32 m (enc_ins is [])))

-- a sheet's bytes: what stands before its arcs, and they
encode-parts : (s : Sheet) (m : ℕ) → length s.arcs ≡ m → encode s ≡ front s.instances m ++ enc_arcs s.arcs []
unfolding encode
encode-parts s m e =
    rw e (ap (λ l. 72 ∷ 68 ∷ enc16 1 (enc32 (length s.instances) (enc32 m l))) (sym (ins-append s.instances (enc_arcs s.arcs []))))

-- Values, whatever they are.

module _ (c : List ℕ) (also : Bytes c) where
  -- n numbers that stand from p on are spelled there
  values_spelled : (n p : ℕ) → p + 8 * n ≤ length c → drop p c ≡ enc_values (values_of c n p) (drop (p + 8 * n) c)
  unfolding enc_values values_of
  values_spelled zero p h = let e : p + 8 * 0 ≡ p = omega arith in rw e
  values_spelled (suc n) p h =
      let e : p + 8 * suc n ≡ p + 8 + 8 * n = omega arith in
      rw e (span_value c also p (p + 8) refl (omega arith) ∙ ap (enc_value (to_z w64 (be64 c p))) (values_spelled n (p + 8) (omega arith)))

  -- as many as are read
  values_count : (n p : ℕ) → length (values_of c n p) ≡ n
  unfolding values_of
  values_count zero p = refl
  values_count (suc n) p = ap suc (values_count n (p + 8))

  -- and 64 bits hold each of them
  values_fit : (n p : ℕ) → Fit (values_of c n p)
  unfolding values_of
  values_fit zero p = tt
  values_fit (suc n) p = (to_z-Fits w64 (be64 c p) (record { fits = below c also p }), values_fit n (p + 8))

-- Two sheets with the same records.

-- a length whose two bytes are the same
be16-same : (b c : List ℕ) (q : ℕ) → get_or c q 0 ≡ get_or b q 0 → get_or c (q + 1) 0 ≡ get_or b (q + 1) 0 → be16 c q ≡ be16 b q
unfolding be16
be16-same b c q x y = rw (x, y)

-- a byte of a part
part_byte : (b : List ℕ) (p m i : ℕ) → p ≤ i → i < p + m → get_or (part b p m) (i - p) 0 ≡ get_or b i 0
part_byte b p m i g h =
    let z : p + (i - p) ≡ i = omega arith in
    get_or-take m (drop p b) (i - p) 0 (omega arith) ∙ get_or-drop p b (i - p) 0 ∙ ap (λ q. get_or b q 0) z

-- the bytes of an arc up to its values are those of its key
key-part : (b : List ℕ) (m p : ℕ) (f : From) → drop p b ≡ enc_arcs (arcs_at b (suc m) p) [] → ArcsOk f (arcs_at b (suc m) p)
    → part b p (values_at b p - p) ≡ enc_key (key_at b p) []
unfolding arcs_at enc_arcs nth off
key-part b m p f d o =
    let k = key_at b p in
    let r = off-place b f (arcs_at b (suc m) p) [] p 0 o d (omega arith) in
    let n = key-bytes k in
    let w : length (enc_key k []) ≡ values_at b p - p = omega (arith, r, n) in
    ap (take (values_at b p - p)) (d ∙ sym (key-append k (enc_values (values_of b 18 (values_at b p)) (enc_arcs (arcs_at b m (ar_next b p)) []))))
    ∙ take_at (enc_key k []) (enc_values (values_of b 18 (values_at b p)) (enc_arcs (arcs_at b m (ar_next b p)) [])) (values_at b p - p) w

module _ (b c : List ℕ) where
  -- a byte of a part that is the same
  same_byte : (p m i : ℕ) → part b p m ≡ part c p m → p ≤ i → i < p + m → get_or c i 0 ≡ get_or b i 0
  same_byte p m i e g h = sym (part_byte c p m i g h) ∙ ap (λ t. get_or t (i - p) 0) (sym e) ∙ part_byte b p m i g h

  -- where the key is the same, the values stand at the same place
  values_place : (p : ℕ) → part b p (values_at b p - p) ≡ part c p (values_at b p - p) → values_at c p ≡ values_at b p
  unfolding first_len second_len
  values_place p e =
      let m = p + 9 + be16 b (p + 4) + be16 b (p + 7 + be16 b (p + 4)) - p in
      let x = be16-same b c (p + 4) (same_byte p m (p + 4) e (omega arith) (omega arith)) (same_byte p m (p + 4 + 1) e (omega arith) (omega arith)) in
      let q = p + 7 + be16 b (p + 4) in
      let y = be16-same b c q (same_byte p m q e (omega arith) (omega arith)) (same_byte p m (q + 1) e (omega arith) (omega arith)) in
      rw (x, y)

  -- the arcs of the one are those of the other, with its own values
  arcs_current : Bytes c → length c ≡ length b → (m j p : ℕ) (f : From) (v : Values) → p ≤ length b → drop p b ≡ enc_arcs (arcs_at b m p) []
      → ArcsOk f (arcs_at b m p) → same_keys b c m p ≡ true
      → ((t : Slot) (k : ℕ) → t.arc ≡ j + k → v t ≡ meant (get_or (arc_values (arcs_at c m p) k) (slot_number t) least))
      → drop p c ≡ enc_arcs (arcs_with j v (arcs_at b m p)) []
  unfolding arcs_at enc_arcs arcs_with arc_values same_keys
  arcs_current also l zero j p f v h d o s g =
      let z : length b - p ≡ 0 = sym (length-drop p b) ∙ ap length d in
      let w : length c ≤ p = omega arith in
      drop_of_length-le c w
  arcs_current also l (suc m) j p f v h d o s g =
      let k = key_at b p in
      let q = values_at b p in
      let u = un_arc b p (arc_at b p) (enc_arcs (arcs_at b m (ar_next b p)) []) o.0 d in
      let t = both (same_text (part b p (q - p)) (part c p (q - p))) _ s in
      let e : part b p (q - p) ≡ part c p (q - p) = (text_exactly _ _).0 t.0 in
      let w = values_place p e in
      let i = u.good.inside in
      let z : p + (q - p) ≡ q = omega arith in
      let here : drop p c ≡ enc_key k (drop q c) = sym (take-append-drop (q - p) (drop p c))
      ∙ ap (λ x. x ++ drop (q - p) (drop p c)) (sym e ∙ key-part b m p f d o)
      ∙ ap (λ x. enc_key k [] ++ x) (drop-drop (q - p) p c ∙ ap (λ r. drop r c) z) ∙ key-append k (drop q c) in
      let own : eighteen j v ≡ values_of c 18 q = are_eighteen j v (values_of c 18 q) (values_count c also 18 q)
      (λ i a. ap numeral (g (slot_at j i) 0 (arc_of_lem j i ∙ sym (add-zero j)) ∙ ap (λ n. meant (get_or (values_of c 18 (values_at c p)) n least)) (slot_number_lem j i a)
      ∙ ap (λ r. meant (get_or (values_of c 18 r) i least)) w)
      ∙ numeral-meant (get_or (values_of c 18 q) i least) (fit_at (values_of c 18 q) i (values_fit c also 18 q) (omega (arith, values_count c also 18 q)))) in
      let rest = arcs_current also l m (suc j) (ar_next b p) (key k) v i u.rest o.2 t.1
      (λ t n a. g t (suc n) (omega arith) ∙ ap (λ r. meant (get_or (arc_values (arcs_at c m (r + 144)) n) (slot_number t) least)) w) in
      here ∙ ap (enc_key k) (values_spelled c also 18 q (omega arith) ∙ ap (λ zs. enc_values zs (drop (ar_next b p) c)) (sym own)
      ∙ ap (enc_values (eighteen j v)) rest)

module _ (b : List ℕ) (bytes : Bytes b) (n m f : ℕ) (good : check_of b ≡ Good n m f) where
  -- the law: 'current sheet's records differ from the starting ones in anything but values'; where they don't, the current sheet is the
  -- starting one with the current values
  pub current_spelled : (c : List ℕ) → Bytes c → length c ≡ length b → same_records b c m f ≡ true
      → c ≡ spelled (sheet_at b n m f) (slots.values_of (sheet_at c n m f))
  unfolding same_records spelled with_values slots.values_of
  current_spelled c also l s =
      let t = both (same_text (part b 0 f) (part c 0 f)) _ s in
      let e : take f b ≡ take f c = (text_exactly _ _).0 t.0 in
      let v = slots.values_of (sheet_at c n m f) in
      let x = front (ins_at b n 12) m in
      let o = sound b bytes n m f good in
      let d = arcs_from b bytes m f n good in
      let h = (sheet_good b n m f good).arcs.3 in
      let y : x ++ enc_arcs (arcs_at b m f) [] ≡ b = sym (encode-parts (sheet_at b n m f) m (length-arcs_at b m f)) ∙ o.1 in
      let l1 = sym (length-append x (enc_arcs (arcs_at b m f) [])) ∙ ap length y in
      let l2 = sym (length-drop f b) ∙ ap length d in
      let w : length x ≡ f = omega (arith, l1, l2, h) in
      let a = arcs_current b c also l m 0 f none v h d o.0.arcs t.1 (λ t k g. let q : t.arc ≡ k = omega arith in rw q) in
      let r = length_with 0 v (arcs_at b m f) ∙ length-arcs_at b m f in
      sym (take-append-drop f c) ∙ ap (λ z. z ++ drop f c) (sym e ∙ ap (take f) (sym y) ∙ take_at x (enc_arcs (arcs_at b m f) []) f w)
      ∙ ap (λ z. x ++ z) a ∙ sym (encode-parts (with_values (sheet_at b n m f) v) m r)
