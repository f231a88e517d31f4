-- Writing one value is setting one slot of the whole sheet that the bytes spell, and the sheet stays well formed.
-- Assumes nothing.
use Prim.Native.Nat.{ℕ, zero, suc, ◌+◌, ◌*◌, ◌/◌, ◌%◌, ◌<◌}
use Rattle.std.proofs.Math.Path.{◌≡◌, refl}
use Rattle.std.proofs.Common.{sym, ap, ◌∙◌, length-append, length-set, SFits, of_z}
use Rattle.std.specs.Prelude.{Bool, leb, ℤ, length, set, Ok, Err}
use Rattle.std.proofs.Math.Bool.{true, false}
use mathlib.Core.List.{List, [], ◌∷◌, ◌++◌}
use native.Mathlib.Omega.{arith}
use Rattle.std.proofs.Math.ListN.{drop}
use Rattle.std.proofs.Math.Seq.{paste}
use Rattle.std.specs.Int.{w64}
use Rattle.classes.specs.Choice.{pick}
use Rattle.wire.specs.Wire.{Bytes, be32, be_bytes, enc16, enc32}
use Rattle.sheetparts.specs.Form.{Good, Step, faulty, Key, reach, value_ok, values_at, path_len, type_len, in_step, ins_step, head_step, front_step, back_step, verdict, check_of}
use Rattle.sheetparts.specs.Passed.{same_good, chain_next, same, in_next, head_next}
use Rattle.sheetlaws.specs.Sheet.{Arc, Instance, Sheet, enc_values, enc_key, enc_arcs, enc_in, enc_ins, encode, none, WellFormed, sheet, decode, place, in_end, ins_at, arcs_at}
use Rattle.sheetlaws.specs.Sound.{part_length}
use Rattle.sheetlaws.specs.Values.{paste-behind, set_slot, off, All18, all18, arcs_paste, kind_of, set_ok, length-set_slot, off-place}
use Rattle.sheetlaws.specs.Whole.{decode_sound, decode_complete, length-arcs_at, arcs_to_end}

-- slot i of arc j of a sheet
abbrev pub set_sheet : Sheet → ℕ → ℕ → ℤ → Sheet
set_sheet s j i z = record { instances = s.instances; arcs = set_slot s.arcs j i z }

-- Lengths.

pub values_length : (zs : List ℤ) (t : List ℕ) → length (enc_values zs t) ≡ 8 * length zs + length t
unfolding enc_values
values_length [] t = omega arith
values_length (z ∷ zs) t = let h = values_length zs t in omega arith

pub key-length : (k : Key) (t u : List ℕ) → length t ≡ length u → length (enc_key k t) ≡ length (enc_key k u)
unfolding enc_key
key-length k t u e = simp length-append (omega arith)

in_length : (i : Instance) (t u : List ℕ) → length t ≡ length u → length (enc_in i t) ≡ length (enc_in i u)
unfolding enc_in
in_length i t u e = simp length-append (omega arith)

arcs_length : (xs : List Arc) (j i : ℕ) (z : ℤ) → length (enc_arcs (set_slot xs j i z) []) ≡ length (enc_arcs xs [])
unfolding enc_arcs set_slot
arcs_length [] j i z = refl
arcs_length (a ∷ xs) zero i z =
    key-length a.key _ _
    (values_length (set a.values i z) (enc_arcs xs []) ∙ rw (length-set a.values i z) (sym (values_length a.values (enc_arcs xs []))))
arcs_length (a ∷ xs) (suc j) i z =
    key-length a.key _ _
    (values_length a.values _ ∙ rw (arcs_length xs j i z) (sym (values_length a.values (enc_arcs xs []))))

pub ins-length : (is : List Instance) (t u : List ℕ) → length t ≡ length u → length (enc_ins is t) ≡ length (enc_ins is u)
unfolding enc_ins
ins-length [] t u e = e
ins-length (i ∷ is) t u e = in_length i _ _ (ins-length is t u e)

encode-length : (s : Sheet) (j i : ℕ) (z : ℤ) → length (encode (set_sheet s j i z)) ≡ length (encode s)
unfolding encode
encode-length s j i z =
    rw (ins-length s.instances (enc_arcs (set_slot s.arcs j i z) []) (enc_arcs s.arcs []) (arcs_length s.arcs j i z))

-- What is pasted behind the instances.

abbrev pub in_len : Instance → ℕ
in_len i = 6 + length i.path + length i.type

abbrev pub ins_len : List Instance → ℕ
ins_len [] = 0
ins_len (i ∷ is) = in_len i + ins_len is

in_paste : (i : Instance) (t s : List ℕ) (k n : ℕ) → paste (enc_in i t) (in_len i + k) s n ≡ enc_in i (paste t k s n)
unfolding enc_in
in_paste i t s k n =
    let m1 = length i.path in
    let m2 = length i.type in
    let e : 6 + length i.path + length i.type + k ≡ 4 + (length i.path + (2 + (length i.type + k))) = omega arith in
    rw e
    (paste-behind (73 ∷ 78 ∷ m1 / 256 ∷ m1 % 256 ∷ []) _ s (m1 + (2 + (m2 + k))) n
    ∙ ap (λ l. 73 ∷ 78 ∷ m1 / 256 ∷ m1 % 256 ∷ l)
    (paste-behind i.path _ s (2 + (m2 + k)) n
    ∙ ap (λ l. i.path ++ l)
    (paste-behind (m2 / 256 ∷ m2 % 256 ∷ []) _ s (m2 + k) n ∙ ap (λ l. m2 / 256 ∷ m2 % 256 ∷ l) (paste-behind i.type t s k n))))

ins-paste : (is : List Instance) (t s : List ℕ) (k n : ℕ) → paste (enc_ins is t) (ins_len is + k) s n ≡ enc_ins is (paste t k s n)
unfolding enc_ins
ins-paste [] t s k n = let e : 0 + k ≡ k = omega arith in rw e
ins-paste (i ∷ is) t s k n =
    let e : in_len i + ins_len is + k ≡ in_len i + (ins_len is + k) = omega arith in
    rw e (in_paste i (enc_ins is t) s (ins_len is + k) n ∙ ap (enc_in i) (ins-paste is t s k n))

pub encode-paste : (s : Sheet) (j i : ℕ) (z : ℤ) → j < length s.arcs → All18 s.arcs → i < 18
    → paste (encode s) (12 + (ins_len s.instances + (off s.arcs j + 8 * i))) (be_bytes (of_z w64 z)) 8 ≡ encode (set_sheet s j i z)
unfolding encode
encode-paste s j i z h a g =
    let n = length s.instances in
    let m = length s.arcs in
    rw (length-set_slot s.arcs j i z)
    (paste-behind (72 ∷ 68 ∷ enc16 1 (enc32 n (enc32 m []))) _ (be_bytes (of_z w64 z)) (ins_len s.instances + (off s.arcs j + 8 * i)) 8
    ∙ ap (λ l. 72 ∷ 68 ∷ enc16 1 (enc32 n (enc32 m l)))
    (ins-paste s.instances (enc_arcs s.arcs []) (be_bytes (of_z w64 z)) (off s.arcs j + 8 * i) 8
    ∙ ap (enc_ins s.instances) (arcs_paste s.arcs [] j i z h a g)))

pub set_formed : (s : Sheet) (j i : ℕ) (z : ℤ) → value_ok (kind_of s.arcs j) i (of_z w64 z) ≡ true → SFits w64 z → WellFormed s
    → WellFormed (set_sheet s j i z)
set_formed s j i z v f w =
    record {
      instances = w.instances;
      arcs = set_ok none s.arcs j i z v f w.arcs;
      counts = (w.counts.0, rw (length-set_slot s.arcs j i z) w.counts.1);
      size = rw (encode-length s j i z) w.size;
    }

-- The place that the code computes is that slot's.

module _ (b : List ℕ) (bytes : Bytes b) where
  ins_end : (n prev p f : ℕ) → ins_step b n prev p ≡ Ok f → f ≡ p + ins_len (ins_at b n p)
  unfolding ins_step ins_at
  ins_end zero prev p f e = let z = same e in omega arith
  ins_end (suc n) prev p f e =
      let o = chain_next (in_step b prev p) _ f e in
      let g = in_next b prev p o.0 o.1 in
      let i = g.inside in
      let l = g.place in
      let h = ins_end n p (in_end b p) f (rw g.place at o.2) in
      let x = part_length b bytes (p + 4) (path_len b p) (omega arith) in
      let y = part_length b bytes (p + 6 + path_len b p) (type_len b p) (omega arith) in
      omega (arith, h, x, y)

  pub first-place : (f : ℕ) → front_step b ≡ Ok f → f ≡ 12 + ins_len (ins_at b (be32 b 4) 12)
  unfolding front_step
  first-place f e =
      let o = chain_next (head_step b) _ f e in
      ins_end (be32 b 4) 0 12 f (rw (head_next b o.0 o.1).0 at o.2)

  -- what a good sheet is
  pub good-parts : (n m f : ℕ) → check_of b ≡ Good n m f → (front_step b ≡ Ok f) × (n ≡ be32 b 4)
  unfolding check_of
  good-parts n m f e = go (leb (length b) 16777216) (front_step b) (back_step b (reach (front_step b))) e
    where
      go : (t : Bool) (x z : Step) → pick t (verdict x (verdict z (Good (be32 b 4) (be32 b 8) (reach x)))) (faulty 10 0) ≡ Good n m f
          → (x ≡ Ok f) × (n ≡ be32 b 4)
      go true (Ok g) (Ok q) e = let s = same_good e in (ap Ok s.2, sym s.0)
      go true (Ok g) (Err d) e = let z : ◌≡◌ {A = ℕ} 0 1 = cc in absurd (omega arith)
      go true (Err d) z e = let z : ◌≡◌ {A = ℕ} 0 1 = cc in absurd (omega arith)
      go false x z e = let z : ◌≡◌ {A = ℕ} 0 1 = cc in absurd (omega arith)

  pub good-decode : (n m f : ℕ) → check_of b ≡ Good n m f → decode b ≡ sheet (record { instances = ins_at b n 12; arcs = arcs_at b m f })
  unfolding decode
  good-decode n m f e = rw e

  pub arcs_from : (m f : ℕ) → (n : ℕ) → check_of b ≡ Good n m f → drop f b ≡ enc_arcs (arcs_at b m f) []
  unfolding check_of
  arcs_from m f n e = go (leb (length b) 16777216) (front_step b) refl (back_step b (reach (front_step b))) refl e
    where
      go : (t : Bool) (x : Step) → front_step b ≡ x → (z : Step) → back_step b (reach x) ≡ z
          → pick t (verdict x (verdict z (Good (be32 b 4) (be32 b 8) (reach x)))) (faulty 10 0) ≡ Good n m f → drop f b ≡ enc_arcs (arcs_at b m f) []
      go true (Ok g) e1 (Ok q) e2 e =
          let s = same_good e in
          rw (← s.2, ← s.1) (arcs_to_end b bytes g q e1 e2)
      go true (Ok g) e1 (Err d) e2 e = let z : ◌≡◌ {A = ℕ} 0 1 = cc in absurd (omega arith)
      go true (Err d) e1 z e2 e = let z : ◌≡◌ {A = ℕ} 0 1 = cc in absurd (omega arith)
      go false x e1 z e2 e = let z : ◌≡◌ {A = ℕ} 0 1 = cc in absurd (omega arith)

  -- the law: after a value that may stand in slot i of arc j is written there, the bytes spell the sheet with that slot set
  pub set_sheet_lem : (n m f j i : ℕ) (z : ℤ) → check_of b ≡ Good n m f → j < m → i < 18
      → value_ok (kind_of (arcs_at b m f) j) i (of_z w64 z) ≡ true → SFits w64 z
      → decode (paste b (values_at b (place b j f) + 8 * i) (be_bytes (of_z w64 z)) 8)
      ≡ sheet (set_sheet (record { instances = ins_at b n 12; arcs = arcs_at b m f }) j i z)
  set_sheet_lem n m f j i z e h g v x =
      let s : Sheet = record { instances = ins_at b n 12; arcs = arcs_at b m f } in
      let d = decode_sound b s bytes (good-decode n m f e) in
      let q = good-parts n m f e in
      let start : f ≡ 12 + ins_len (ins_at b n 12) = first-place f q.0 ∙ ap (λ k. 12 + ins_len (ins_at b k 12)) (sym q.1) in
      let l : j < length (arcs_at b m f) = rw (length-arcs_at b m f) h in
      let o = off-place b none (arcs_at b m f) [] f j d.0.arcs (arcs_from m f n e) l in
      let here : values_at b (place b j f) + 8 * i ≡ 12 + (ins_len (ins_at b n 12) + (off (arcs_at b m f) j + 8 * i)) = omega arith in
      let p = encode-paste s j i z l (all18 none (arcs_at b m f) d.0.arcs) g in
      rw (here, rw d.1 at p) (decode_complete (set_sheet s j i z) (set_formed s j i z v x d.0))
