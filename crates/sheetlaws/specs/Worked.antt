-- Sheets worked out, each by computation: one whole sheet from its bytes, and small ones that are good or not.
-- Assumes nothing.
use Rattle.std.specs.Prelude.{ℕ, zero, suc, ◌+◌, ◌-◌, ◌*◌, ◌≡◌, refl, Bool, true, false, List, [], ◌∷◌, ◌++◌, leb, eqb, ℤ, pos, negsuc, length, replicate, Ok, Err}
use Prim.Native.Char.{code}
use Prim.Native.String.{String}
use Rattle.std.specs.Int.{w64}
use Rattle.std.proofs.Common.{of_z}
use Rattle.classes.specs.Choice.{pick}
use Rattle.wire.specs.Wire.{be16, be32, be64, be_bytes, enc16, enc32}
use Rattle.nameshape.specs.Shape.{is_name_byte, is_escapable, divider, body_next, bracket_next, name_next, name_run, may_end, is_path, is_port, escapes, may_follow, text_from, is_text}
use Rattle.names.specs.Order.{cmp, cmp_num}
use Rattle.kinds.specs.Kinds.{table, facts_of, is_kind, has_edge, has_second, has_edge2, is_signed, rows_of}
use Rattle.sheetparts.specs.Form.{SheetCheck, shape_ok, one_end, edge_top, edge_top2, second_least, second_most, used, value_ok, room_step, mark_step, kind_step, edge_step, len_step, name_step, value_step, values_step, first_len, second_len, Key, cmp_key, key_at, key_step, order_step, ar_rest, ar_fields, ar_step, arcs_step, path_len, type_len, path_step, in_order_step, in_fields, in_step, ins_step, format_step, head_step, end_step, front_step, back_step, check_of}
use Rattle.sheetlaws.specs.Sheet.{Sheet, values_of, arcs_at, ins_at, decode, sheet}
use Rattle.sheetlaws.specs.Rule.{least}

-- the bytes of a text, and those that a text of hexadecimal digits gives
abbrev text : String → List ℕ
text Prim.Native.String.[] = []
text (Prim.Native.String.◌∷◌ c s) = code c ∷ text s

abbrev nibbles : List ℕ → List ℕ
nibbles [] = []
nibbles (c ∷ s) = pick (eqb c 32) (nibbles s) (pick (leb c 57) (c - 48) (c - 55) ∷ nibbles s)

abbrev pairs : List ℕ → List ℕ
pairs [] = []
pairs (a ∷ []) = []
pairs (a ∷ b ∷ r) = (16 * a + b) ∷ pairs r

abbrev hex : String → List ℕ
hex s = pairs (nibbles (text s))

-- document 01's listing, annotated: an instance, its IOPATH and its SETUP
abbrev example : List ℕ
example =
    hex "48 44 00 01 00 00 00 01 00 00 00 02"
    ++ (hex "49 4E 00 04 78 2E 66 31 00 03 44 46 46"
    ++ (hex "41 52 01 01 00 08 78 2E 66 31 2E 63 6C 6B 00 00 06 78 2E 66 31 2E 71"
    ++ (hex "00 00 00 00 00 03 0D 40 00 00 00 00 00 04 93 E0 00 00 00 00 00 06 1A 80"
    ++ (hex "00 00 00 00 00 06 1A 80 00 00 00 00 00 06 1A 80 00 00 00 00 00 06 1A 80"
    ++ (hex "00 00 00 00 00 03 0D 40 00 00 00 00 00 04 93 E0 00 00 00 00 00 06 1A 80"
    ++ (hex "00 00 00 00 00 03 0D 40 00 00 00 00 00 04 93 E0 00 00 00 00 00 06 1A 80"
    ++ (hex "00 00 00 00 00 06 1A 80 00 00 00 00 00 06 1A 80 00 00 00 00 00 06 1A 80"
    ++ (hex "00 00 00 00 00 06 1A 80 00 00 00 00 00 06 1A 80 00 00 00 00 00 06 1A 80"
    ++ (hex "41 52 0B 00 00 06 78 2E 66 31 2E 64 01 00 08 78 2E 66 31 2E 63 6C 6B"
    ++ (hex "00 00 00 00 00 02 49 F0 00 00 00 00 00 02 49 F0 00 00 00 00 00 02 49 F0"
    ++ (hex "80 00 00 00 00 00 00 00 80 00 00 00 00 00 00 00 80 00 00 00 00 00 00 00"
    ++ (hex "80 00 00 00 00 00 00 00 80 00 00 00 00 00 00 00 80 00 00 00 00 00 00 00"
    ++ (hex "80 00 00 00 00 00 00 00 80 00 00 00 00 00 00 00 80 00 00 00 00 00 00 00"
    ++ (hex "80 00 00 00 00 00 00 00 80 00 00 00 00 00 00 00 80 00 00 00 00 00 00 00"
    ++ (hex "80 00 00 00 00 00 00 00 80 00 00 00 00 00 00 00 80 00 00 00 00 00 00 00")))))))))))))))

abbrev key : ℕ → String → ℕ → String → ℕ → Key
key k a e b f = record { kind = k; first = text a; edge = e; second = text b; edge2 = f }

abbrev row1 : List ℤ
row1 = pos 200000 ∷ pos 300000 ∷ pos 400000 ∷ []

abbrev row2 : List ℤ
row2 = pos 400000 ∷ pos 400000 ∷ pos 400000 ∷ []

abbrev spelt : Sheet
spelt =
    record {
      instances = record { path = text "x.f1"; type = text "DFF" } ∷ [];
      arcs =
          record { key = key 1 "x.f1.clk" 1 "x.f1.q" 0; values = row1 ++ (row2 ++ (row1 ++ (row1 ++ (row2 ++ row2)))) }
          ∷ record { key = key 11 "x.f1.d" 0 "x.f1.clk" 1; values = pos 150000 ∷ pos 150000 ∷ pos 150000 ∷ replicate 15 least }
          ∷ [];
    }

worked : decode example ≡ sheet spelt
unfolding check_of front_step back_step head_step format_step mark_step room_step be16 be32 be64 ins_step in_step in_order_step in_fields path_step path_len type_len arcs_step end_step ar_step order_step ar_fields ar_rest kind_step edge_step name_step len_step values_step value_step value_ok used one_end edge_top edge_top2 second_least second_most table facts_of is_kind has_edge has_second has_edge2 is_signed rows_of shape_ok is_path is_port name_run name_next body_next bracket_next is_name_byte is_escapable divider may_end is_text text_from may_follow escapes key_step key_at first_len second_len cmp_key cmp_num cmp decode values_of arcs_at ins_at
worked = refl

-- Small sheets: whether they are of the form.

abbrev good : SheetCheck → Bool
good (Ok o) = true
good (Err d) = false

-- a sheet of n instances and m arcs, whose bytes are t
abbrev small : ℕ → ℕ → List ℕ → Bool
small n m t = good (check_of (72 ∷ 68 ∷ enc16 1 (enc32 n (enc32 m t))))

abbrev long : List ℕ → List ℕ → List ℕ
long x t = enc16 (length x) (x ++ t)

abbrev instance : String → String → List ℕ → List ℕ
instance p y t = 73 ∷ 78 ∷ long (text p) (long (text y) t)

-- n times the same value
abbrev times : ℕ → ℤ → List ℕ → List ℕ
times zero z t = t
times (suc n) z t = be_bytes (of_z w64 z) ++ times n z t

abbrev arc : ℕ → ℕ → String → ℕ → String → List ℕ → List ℕ
arc k e a f b t = 65 ∷ 82 ∷ k ∷ e ∷ long (text a) (f ∷ long (text b) t)

abbrev none : List ℕ → List ℕ
none t = times 18 least t

-- counts and the end; `[n:n]` at an end's last component only; string content
forms :
    small 0 0 [] ∷ small 0 0 (0 ∷ []) ∷ small 1 0 [] ∷ small 1 0 (instance "a[3]" "T" []) ∷ small 1 0 (instance "a[3:0]" "T" [])
    ∷ small 1 0 (instance "" "" []) ∷ small 1 0 (instance "a" "x\\\"y" []) ∷ small 1 0 (instance "a" "x\"y" [])
    ∷ small 1 0 (instance "a" "x\\" []) ∷ small 0 1 (arc 3 0 "a[3].p[3:0]" 0 "" (none [])) ∷ []
    ≡ true ∷ false ∷ false ∷ true ∷ false ∷ true ∷ true ∷ false ∷ false ∷ true ∷ []
unfolding check_of front_step back_step head_step format_step mark_step room_step be16 be32 be64 ins_step in_step in_order_step in_fields path_step path_len type_len arcs_step end_step ar_step order_step ar_fields ar_rest kind_step edge_step name_step len_step values_step value_step value_ok used one_end edge_top edge_top2 second_least second_most table facts_of is_kind has_edge has_second has_edge2 is_signed rows_of shape_ok is_path is_port name_run name_next body_next bracket_next is_name_byte is_escapable divider may_end is_text text_from may_follow escapes key_step key_at first_len second_len cmp_key cmp_num cmp
forms = refl

-- PORT has one end and no edge, the others two ends; WIDTH has an edge
ends :
    small 0 1 (arc 3 0 "p" 0 "q" (none [])) ∷ small 0 1 (arc 1 0 "p" 0 "" (none [])) ∷ small 0 1 (arc 3 1 "p" 0 "" (none []))
    ∷ small 0 1 (arc 1 8 "p" 0 "q" (none [])) ∷ small 0 1 (arc 1 9 "p" 0 "q" (none [])) ∷ small 0 1 (arc 1 0 "p" 1 "q" (none []))
    ∷ small 0 1 (arc 19 2 "p" 0 "" (none [])) ∷ small 0 1 (arc 4 0 "p" 0 "q" (none [])) ∷ []
    ≡ false ∷ false ∷ false ∷ true ∷ false ∷ false ∷ true ∷ false ∷ []
unfolding check_of front_step back_step head_step format_step mark_step room_step be16 be32 be64 ins_step in_step in_order_step in_fields path_step path_len type_len arcs_step end_step ar_step order_step ar_fields ar_rest kind_step edge_step name_step len_step values_step value_step value_ok used one_end edge_top edge_top2 second_least second_most table facts_of is_kind has_edge has_second has_edge2 is_signed rows_of shape_ok is_path is_port name_run name_next body_next bracket_next is_name_byte is_escapable divider may_end is_text text_from may_follow escapes key_step key_at first_len second_len cmp_key cmp_num cmp
ends = refl

-- strictly rising: instances by path, arcs by their key
rising :
    small 2 0 (instance "a" "T" (instance "a.b" "T" [])) ∷ small 2 0 (instance "a" "T" (instance "a" "U" []))
    ∷ small 2 0 (instance "b" "T" (instance "a" "T" [])) ∷ small 0 2 (arc 3 0 "p" 0 "" (none (arc 3 0 "q" 0 "" (none []))))
    ∷ small 0 2 (arc 3 0 "p" 0 "" (none (arc 3 0 "p" 0 "" (none [])))) ∷ small 0 2 (arc 3 0 "q" 0 "" (none (arc 1 0 "p" 0 "q" (none [])))) ∷ []
    ≡ true ∷ false ∷ false ∷ true ∷ false ∷ false ∷ []
unfolding check_of front_step back_step head_step format_step mark_step room_step be16 be32 be64 ins_step in_step in_order_step in_fields path_step path_len type_len arcs_step end_step ar_step order_step ar_fields ar_rest kind_step edge_step name_step len_step values_step value_step value_ok used one_end edge_top edge_top2 second_least second_most table facts_of is_kind has_edge has_second has_edge2 is_signed rows_of shape_ok is_path is_port name_run name_next body_next bracket_next is_name_byte is_escapable divider may_end is_text text_from may_follow escapes key_step key_at first_len second_len cmp_key cmp_num cmp
rising = refl

-- within 10^15 either way, not below zero in SETUP, its other rows empty
ranges :
    small 0 1 (arc 3 0 "p" 0 "" (times 18 (pos 1000000000000000) [])) ∷ small 0 1 (arc 3 0 "p" 0 "" (times 18 (pos 1000000000000001) []))
    ∷ small 0 1 (arc 3 0 "p" 0 "" (times 18 (negsuc 999999999999999) [])) ∷ small 0 1 (arc 3 0 "p" 0 "" (times 18 (negsuc 1000000000000000) []))
    ∷ small 0 1 (arc 11 0 "p" 0 "q" (times 3 (pos 7) (times 15 least []))) ∷ small 0 1 (arc 11 0 "p" 0 "q" (times 3 (negsuc 7) (times 15 least [])))
    ∷ small 0 1 (arc 11 0 "p" 0 "q" (times 4 (pos 7) (times 14 least []))) ∷ []
    ≡ true ∷ false ∷ true ∷ false ∷ true ∷ false ∷ false ∷ []
unfolding check_of front_step back_step head_step format_step mark_step room_step be16 be32 be64 ins_step in_step in_order_step in_fields path_step path_len type_len arcs_step end_step ar_step order_step ar_fields ar_rest kind_step edge_step name_step len_step values_step value_step value_ok used one_end edge_top edge_top2 second_least second_most table facts_of is_kind has_edge has_second has_edge2 is_signed rows_of shape_ok is_path is_port name_run name_next body_next bracket_next is_name_byte is_escapable divider may_end is_text text_from may_follow escapes key_step key_at first_len second_len cmp_key cmp_num cmp
ranges = refl
