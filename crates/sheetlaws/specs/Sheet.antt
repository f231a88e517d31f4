-- A timing sheet as lists; its bytes; what is well formed. Each `enc` takes the bytes that follow.
-- Assumes nothing.
use Rattle.std.specs.Prelude.{ℕ, zero, suc, ◌+◌, ◌≤◌, ◌<◌, ◌≡◌, Bool, true, false, List, [], ◌∷◌, ◌++◌, ℤ, length, Ok, Err}
use Rattle.std.specs.Int.{w64}
use Rattle.std.proofs.Common.{SFits, to_z, of_z}
use Rattle.wire.specs.Wire.{be_bytes, be64, enc16, enc32}
use Rattle.classes.specs.Choice.{pick}
use Rattle.sheetparts.specs.Form.{SheetCheck, shape_ok, check_of, cmp_key, Key, edge_top, edge_top2, second_least, second_most, value_ok, values_at, key_at, path_len, type_len, path_at, type_at}
use Rattle.names.specs.Order.{cmp}
use Rattle.kinds.specs.Kinds.{is_kind}

pub record Instance : Type 0 where
  pub path : List ℕ
  pub type : List ℕ

pub record Arc : Type 0 where
  pub key : Key
  pub values : List ℤ

pub record Sheet : Type 0 where
  pub instances : List Instance
  pub arcs : List Arc

-- the bytes
abbrev pub enc_text : List ℕ → List ℕ → List ℕ
enc_text x t = enc16 (length x) (x ++ t)

abbrev pub enc_value : ℤ → List ℕ → List ℕ
enc_value z t = be_bytes (of_z w64 z) ++ t

unfoldable pub enc_values : List ℤ → List ℕ → List ℕ
enc_values [] t = t
enc_values (z ∷ zs) t = enc_value z (enc_values zs t)

unfoldable pub enc_key : Key → List ℕ → List ℕ
enc_key k t =
    65 ∷ 82 ∷ k.kind ∷ k.edge ∷ enc_text k.first (k.edge2 ∷ enc_text k.second t)

abbrev pub enc_arc : Arc → List ℕ → List ℕ
enc_arc a t = enc_key a.key (enc_values a.values t)

unfoldable pub enc_arcs : List Arc → List ℕ → List ℕ
enc_arcs [] t = t
enc_arcs (a ∷ xs) t = enc_arc a (enc_arcs xs t)

unfoldable pub enc_in : Instance → List ℕ → List ℕ
enc_in i t = 73 ∷ 78 ∷ enc_text i.path (enc_text i.type t)

unfoldable pub enc_ins : List Instance → List ℕ → List ℕ
enc_ins [] t = t
enc_ins (i ∷ is) t = enc_in i (enc_ins is t)

unfoldable pub encode : Sheet → List ℕ
encode s =
    72 ∷ 68 ∷ enc16 1 (enc32 (length s.instances) (enc32 (length s.arcs) (enc_ins s.instances (enc_arcs s.arcs []))))

-- what is well formed
unfoldable pub values_ok : ℕ → ℕ → List ℤ → Bool
values_ok k i [] = true
values_ok k i (z ∷ zs) = pick (value_ok k i (of_z w64 z)) (values_ok k (i + 1) zs) false

abbrev pub Fit : List ℤ → Type 0
Fit [] = Unit {0}
Fit (z ∷ zs) = SFits w64 z × Fit zs

pub record ArcOk (a : Arc) : Type 0 where
  pub kind : is_kind a.key.kind ≡ true
  pub edge : a.key.edge ≤ edge_top a.key.kind
  pub first : (1 ≤ length a.key.first) × (length a.key.first ≤ 2049) × (shape_ok 1 a.key.first ≡ true)
  pub edge2 : a.key.edge2 ≤ edge_top2 a.key.kind
  pub second :
      (second_least a.key.kind ≤ length a.key.second) × (length a.key.second ≤ second_most a.key.kind)
      × (shape_ok 1 a.key.second ≡ true)
  pub values : (length a.values ≡ 18) × (values_ok a.key.kind 0 a.values ≡ true) × Fit a.values

-- arcs that are well formed and rise; `from` is the key before them, if there is one
pub data From : Type 0 where
  none : From
  key : Key → From

abbrev pub Above : From → Key → Type 0
Above none k = Unit {0}
Above (key j) k = cmp_key j k ≡ 0

abbrev pub ArcsOk : From → List Arc → Type 0
ArcsOk f [] = Unit {0}
ArcsOk f (a ∷ xs) = ArcOk a × Above f a.key × ArcsOk (key a.key) xs

-- instances that are well formed and rise
pub record InOk (i : Instance) : Type 0 where
  pub path : (length i.path ≤ 1024) × (shape_ok 0 i.path ≡ true)
  pub type : (length i.type ≤ 1024) × (shape_ok 2 i.type ≡ true)

pub data FromPath : Type 0 where
  first : FromPath
  after : List ℕ → FromPath

abbrev pub AbovePath : FromPath → List ℕ → Type 0
AbovePath first x = Unit {0}
AbovePath (after y) x = cmp y x ≡ 0

abbrev pub InsOk : FromPath → List Instance → Type 0
InsOk f [] = Unit {0}
InsOk f (i ∷ xs) = InOk i × AbovePath f i.path × InsOk (after i.path) xs

-- what bytes hold, read with no regard to faults
unfoldable pub values_of : List ℕ → ℕ → ℕ → List ℤ
values_of b zero p = []
values_of b (suc n) p = to_z w64 (be64 b p) ∷ values_of b n (p + 8)

abbrev pub arc_at : List ℕ → ℕ → Arc
arc_at b p = record { key = key_at b p; values = values_of b 18 (values_at b p) }

abbrev pub ar_next : List ℕ → ℕ → ℕ
ar_next b p = values_at b p + 144

unfoldable pub arcs_at : List ℕ → ℕ → ℕ → List Arc
arcs_at b zero p = []
arcs_at b (suc n) p = arc_at b p ∷ arcs_at b n (ar_next b p)

-- the j-th place from p on, where `next` leads from one to the next
unfoldable pub nth : (ℕ → ℕ) → ℕ → ℕ → ℕ
nth next zero p = p
nth next (suc j) p = nth next j (next p)

-- the place of the j-th arc from p on
abbrev pub place : List ℕ → ℕ → ℕ → ℕ
place b j p = nth (ar_next b) j p

abbrev pub in_at : List ℕ → ℕ → Instance
in_at b p = record { path = path_at b p; type = type_at b p }

abbrev pub in_end : List ℕ → ℕ → ℕ
in_end b p = p + 6 + path_len b p + type_len b p

unfoldable pub ins_at : List ℕ → ℕ → ℕ → List Instance
ins_at b zero p = []
ins_at b (suc n) p = in_at b p ∷ ins_at b n (in_end b p)

-- the whole
pub record WellFormed (s : Sheet) : Type 0 where
  pub instances : InsOk first s.instances
  pub arcs : ArcsOk none s.arcs
  pub counts : (length s.instances < 4294967296) × (length s.arcs < 4294967296)
  pub size : length (encode s) ≤ 16777216

pub data Decoded : Type 0 where
  sheet : Sheet → Decoded
  fault : ℕ → ℕ → Decoded

abbrev pub decode_of : List ℕ → SheetCheck → Decoded
decode_of b (Ok o) = sheet (record { instances = ins_at b o.instances 12; arcs = arcs_at b o.arcs o.first_arc })
decode_of b (Err d) = fault d.number d.place

unfoldable pub decode : List ℕ → Decoded
decode b = decode_of b (check_of b)
