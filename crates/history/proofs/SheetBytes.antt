-- The bytes of a sheet: a row of chunks, each fixed or one slot's value. What a change of some values does to the bytes.
-- Assumes nothing.
use Rattle.std.specs.Prelude.{◌≡◌, Bool, true, false, ℕ, suc, ◌+◌, ◌-◌, ◌/◌, ◌%◌, ◌≤◌, ◌<◌, ltb, length}
use Rattle.std.proofs.Math.Path.{refl, ap}
use Rattle.std.proofs.Common.{sym, ◌∙◌, arith, ltb-true, ltb-false, get_or-append-add}
use mathlib.Core.List.{List, [], ◌∷◌, ◌++◌, map}
use Rattle.std.proofs.Math.Option.{Option, none, some}
use Rattle.std.proofs.Math.ListN.{get_or, length-append, get_or-append}
use Rattle.classes.specs.Choice.{pick}
use Rattle.history.specs.Events.{Value, left, affected}
use Rattle.history.specs.Sheet.{Instance, Key, Records, Slot, Values, Cell, Cut, cut, events, arc_slots, patch}
use Rattle.history.proofs.SheetLaws.{patch-outside}

pub data Chunk (Slot : Type 0) : Type 0 where
  fixed : List ℕ → Chunk Slot
  value : Slot → Chunk Slot

unfoldable pub size : {Slot : Type 0} → Chunk Slot → ℕ
size (fixed l) = length l
size (value s) = 8

unfoldable pub slot_of : {Slot : Type 0} → Chunk Slot → Option Slot
slot_of (fixed l) = none
slot_of (value s) = some s

-- the slot, if any, that byte i belongs to
unfoldable pub owner : {Slot : Type 0} → List (Chunk Slot) → ℕ → Option Slot
owner [] i = none
owner (c ∷ more) i = pick (ltb i (size c)) (slot_of c) (owner more (i - size c))

-- code: the eight bytes of a value
module _ {Slot : Type 0} (code : Value → List ℕ) where
  unfoldable pub chunk : (Slot → Value) → Chunk Slot → List ℕ
  chunk v (fixed l) = l
  chunk v (value s) = code (v s)

  unfoldable pub filled : (Slot → Value) → List (Chunk Slot) → List ℕ
  filled v [] = []
  filled v (c ∷ more) = chunk v c ++ filled v more

  same-chunk : (v w : Slot → Value) (c : Chunk Slot) → ((s : Slot) → slot_of c ≡ some s → v s ≡ w s) → chunk v c ≡ chunk w c
  unfolding chunk slot_of
  same-chunk v w (fixed l) f = refl
  same-chunk v w (value s) f = ap code (f s refl)

  module _ (eight : (v : Value) → length (code v) ≡ 8) where
    chunk-size : (v : Slot → Value) (c : Chunk Slot) → length (chunk v c) ≡ size c
    unfolding chunk size
    chunk-size v (fixed l) = refl
    chunk-size v (value s) = eight (v s)

    -- a byte changes only if the value that it belongs to does
    pub byte_same : (v w : Slot → Value) (l : List (Chunk Slot)) (i : ℕ) → ((s : Slot) → owner l i ≡ some s → v s ≡ w s)
        → get_or (filled v l) i 0 ≡ get_or (filled w l) i 0
    unfolding owner filled
    byte_same v w [] i f = refl
    byte_same v w (c ∷ more) i f = go (ltb i (size c)) refl f (byte_same v w more (i - size c))
      where
        front : (u : Slot → Value) → i < size c → get_or (chunk u c ++ filled u more) i 0 ≡ get_or (chunk u c) i 0
        front u h = get_or-append (chunk u c) (filled u more) 0 i (omega (arith, chunk-size u c))

        rest : (u : Slot → Value) → size c ≤ i → get_or (chunk u c ++ filled u more) i 0 ≡ get_or (filled u more) (i - size c) 0
        rest u h = let z : i ≡ length (chunk u c) + (i - size c) = omega (arith, chunk-size u c) in ap (λ (n : ℕ). get_or
            (chunk u c ++ filled u more) n 0) z ∙ get_or-append-add (chunk u c) (filled u more) (i - size c) 0

        go : (b : Bool) → ltb i (size c) ≡ b → ((s : Slot) → pick b (slot_of c) (owner more (i - size c)) ≡ some s → v s ≡ w s)
            → (((s : Slot) → owner more (i - size c) ≡ some s → v s ≡ w s)
            → get_or (filled v more) (i - size c) 0 ≡ get_or (filled w more) (i - size c) 0)
            → get_or (chunk v c ++ filled v more) i 0 ≡ get_or (chunk w c ++ filled w more) i 0
        go true p f ih = front v (ltb-true i (size c) p) ∙ ap (λ (l : List ℕ). get_or l i 0) (same-chunk v w c f) ∙ sym
            (front w (ltb-true i (size c) p))
        go false p f ih = rest v (ltb-false i (size c) p) ∙ ih f ∙ sym (rest w (ltb-false i (size c) p))

    pub length-same : (v w : Slot → Value) (l : List (Chunk Slot)) → length (filled v l) ≡ length (filled w l)
    unfolding filled
    length-same v w [] = refl
    length-same v w (c ∷ more) = simp length-append (omega (arith, chunk-size v c, chunk-size w c, length-same v w more))

-- the chunks of a sheet (document 01, 'The timing sheet')

abbrev pub two : ℕ → List ℕ
two n = n / 256 ∷ n % 256 ∷ []

abbrev pub four : ℕ → List ℕ
four n = two (n / 65536) ++ two (n % 65536)

abbrev pub lengthed : List ℕ → List ℕ
lengthed l = two (length l) ++ l

unfoldable pub instance_chunk : Instance → Chunk Slot
instance_chunk i = fixed (73 ∷ 78 ∷ (lengthed i.path ++ lengthed i.type))

unfoldable pub arc_chunks : ℕ → List Key → List (Chunk Slot)
arc_chunks i [] = []
arc_chunks i (k ∷ more) = fixed (65 ∷ 82 ∷ k.kind ∷ k.edge1 ∷ (lengthed k.end1 ++ (k.edge2 ∷ lengthed k.end2))) ∷ (map value
    (arc_slots i) ++ arc_chunks (suc i) more)

unfoldable pub sheet_chunks : Records → List (Chunk Slot)
sheet_chunks r = fixed (72 ∷ 68 ∷ (two 1 ++ (four (length r.instances) ++ four (length r.arcs)))) ∷ (map instance_chunk
    r.instances ++ arc_chunks 0 r.arcs)

unfoldable pub sheet_bytes : (Value → List ℕ) → Records → Values → List ℕ
sheet_bytes code r v = filled code v (sheet_chunks r)

-- demand 3's last half, in bytes: a patch moves no byte but those of values that the old or the new cell supplies
pub patch-bytes : (records : Records) (code : Value → List ℕ) (eight : (v : Value) → length (code v) ≡ 8) {Word : Type 0}
    (start : Values) (cells : List (Cell Word)) (k : ℕ) (origin : Word) (incoming : Cell Word) (current : Values) (p : Cut (Cell Word)) (i : ℕ)
    → cut cells k ≡ some p
    → ((s : Slot) → owner (sheet_chunks records) i ≡ some s → affected (events records p.one) (events records incoming) s ≡ false)
    → get_or (sheet_bytes code records (left current (patch records start cells k origin incoming current))) i 0
    ≡ get_or (sheet_bytes code records current) i 0
unfolding sheet_bytes
patch-bytes records code eight start cells k origin incoming current p i e f =
    byte_same code eight _ current (sheet_chunks records) i (λ s o. patch-outside records start cells k origin incoming current p s e (f s o))
