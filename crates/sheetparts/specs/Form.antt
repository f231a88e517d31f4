-- The form of a sheet, field by field: each step goes on at the next field's place, or has the first fault, with its number and its place.
-- (10 a mark, a length, a field that is not whole, a byte too many; 19 the order; 20 a name, a kind, an edge; 21 a value; 22 the format.)
-- Assumes nothing.
use Rattle.std.specs.Prelude.{Result, Ok, Err, ℕ, zero, suc, ◌+◌, ◌-◌, ◌*◌, Bool, true, false, not, List, leb, eqb, length, get_or}
use Rattle.classes.specs.Choice.{pick, and}
use Rattle.wire.specs.Wire.{part, be16, be32, be64}
use Rattle.nameshape.specs.Shape.{is_path, is_port, is_text}
use Rattle.names.specs.Order.{cmp, cmp_num, and_then}
use Rattle.kinds.specs.Kinds.{is_kind, has_edge, has_second, has_edge2, is_signed, rows_of}
use Rattle.sheetparts.specs.declared.Fault.{Fault}
use Rattle.sheetparts.specs.declared.Outline.{Outline}

-- the key of an arc
pub record Key : Type 0 where
  pub kind : ℕ
  pub first : List ℕ
  pub edge : ℕ
  pub second : List ℕ
  pub edge2 : ℕ

-- '`AR` records rise strictly by kind, first end, first edge, second end, second edge'
unfoldable pub cmp_key : Key → Key → ℕ
cmp_key a b =
    and_then (cmp_num a.kind b.kind)
    (and_then (cmp a.first b.first)
    (and_then (cmp_num a.edge b.edge) (and_then (cmp a.second b.second) (cmp_num a.edge2 b.edge2))))

-- a step: the place where it goes on, or the first fault
abbrev pub Step : Type 0
Step = Result ℕ Fault

-- fault k at place p
abbrev pub faulty : {A : Type 0} → ℕ → ℕ → Result A Fault
faulty k p = Err (record { number = k; place = p })

abbrev pub chain : Step → (ℕ → Step) → Step
chain (Ok q) f = f q
chain (Err e) f = Err e

-- where a step goes on; 0 at a fault
abbrev pub reach : Step → ℕ
reach (Ok q) = q
reach (Err e) = 0

-- 'Ends, and paths that aren't empty, have a name's shape with `.`; a type is legal string content.' 0 a path, 1 an end, 2 a type. Whether
-- an end may be empty is a matter of its length.
unfoldable pub shape_ok : ℕ → List ℕ → Bool
shape_ok m x = pick (eqb m 2) (is_text x) (pick (eqb (length x) 0) true (pick (eqb m 1) (is_port false x) (is_path false x)))

-- a kind that has no second end
unfoldable pub one_end : ℕ → Bool
one_end k = and (is_kind k) (not (has_second k))

-- 'Edges: 0 none, then 1 to 8'; 'edges that a kind can't carry are 0': the highest at the first end and at the second
unfoldable pub edge_top : ℕ → ℕ
edge_top k = pick (has_edge k) 8 0

unfoldable pub edge_top2 : ℕ → ℕ
edge_top2 k = pick (has_edge2 k) 8 0

-- '(ends 1 to 2,049)'; 'PORT, WIDTH and PERIOD have .. second length 0': the least and the greatest length of the second end
unfoldable pub second_least : ℕ → ℕ
second_least k = pick (one_end k) 0 1

unfoldable pub second_most : ℕ → ℕ
second_most k = pick (one_end k) 0 2049

-- 'The 18 values are six rows of three sets, row first': how many of them a kind uses
unfoldable pub used : ℕ → ℕ
used k = 3 * rows_of k

-- 'The least 64-bit number means empty; every other value is within 10^15 either way, and not below zero in a check that takes unsigned
-- values'; 'their other rows are empty': the bits n in slot i of an arc of kind k
unfoldable pub value_ok : ℕ → ℕ → ℕ → Bool
value_ok k i n =
    pick (eqb n 9223372036854775808) true
    (pick (leb (used k) i) false
    (pick (leb n 1000000000000000) true (pick (leb 18445744073709551616 n) (is_signed k) false)))

-- The fields.
unfoldable pub room_step : List ℕ → ℕ → ℕ → Step
room_step b n p = pick (leb n (length b - p)) (Ok (p + n)) (faulty 10 p)

unfoldable pub mark_step : List ℕ → ℕ → ℕ → ℕ → Step
mark_step b x y p =
    pick (leb 2 (length b - p))
    (pick (eqb (get_or b p 0) x) (pick (eqb (get_or b (p + 1) 0) y) (Ok (p + 2)) (faulty 10 p)) (faulty 10 p)) (faulty 10 p)

unfoldable pub kind_step : List ℕ → ℕ → Step
kind_step b p = pick (leb 1 (length b - p)) (pick (is_kind (get_or b p 0)) (Ok (p + 1)) (faulty 20 p)) (faulty 10 p)

unfoldable pub edge_step : List ℕ → ℕ → ℕ → Step
edge_step b top p = pick (leb 1 (length b - p)) (pick (leb (get_or b p 0) top) (Ok (p + 1)) (faulty 20 p)) (faulty 10 p)

-- a length from lo to hi and as many bytes
unfoldable pub len_step : List ℕ → ℕ → ℕ → ℕ → Step
len_step b lo hi p =
    pick (leb 2 (length b - p))
    (pick (leb lo (be16 b p))
    (pick (leb (be16 b p) hi) (pick (leb (be16 b p) (length b - (p + 2))) (Ok (p + 2 + be16 b p)) (faulty 10 (p + 2)))
    (faulty 10 p)) (faulty 10 p)) (faulty 10 p)

unfoldable pub name_step : List ℕ → ℕ → ℕ → ℕ → ℕ → Step
name_step b m lo hi p =
    chain (len_step b lo hi p)
    (λ q. pick (shape_ok m (part b (p + 2) (be16 b p))) (Ok q) (faulty 20 (p + 2)))

unfoldable pub value_step : List ℕ → ℕ → ℕ → ℕ → Step
value_step b k i p = pick (leb 8 (length b - p)) (pick (value_ok k i (be64 b p)) (Ok (p + 8)) (faulty 21 p)) (faulty 10 p)

-- n values from slot i on
unfoldable pub values_step : List ℕ → ℕ → ℕ → ℕ → ℕ → Step
values_step b k zero i p = Ok p
values_step b k (suc n) i p = chain (value_step b k i p) (values_step b k n (i + 1))

-- what stands in the `AR` record at p
unfoldable pub first_len : List ℕ → ℕ → ℕ
first_len b p = be16 b (p + 4)

unfoldable pub second_len : List ℕ → ℕ → ℕ
second_len b p = be16 b (p + 7 + be16 b (p + 4))

abbrev pub values_at : List ℕ → ℕ → ℕ
values_at b p = p + 9 + first_len b p + second_len b p

unfoldable pub key_at : List ℕ → ℕ → Key
key_at b p =
    record {
      kind = get_or b (p + 2) 0;
      first = part b (p + 6) (first_len b p);
      edge = get_or b (p + 3) 0;
      second = part b (p + 9 + first_len b p) (second_len b p);
      edge2 = get_or b (p + 6 + first_len b p) 0;
    }

-- whether the key of the record at p is there whole
unfoldable pub key_step : List ℕ → ℕ → Step
key_step b p =
    chain (mark_step b 65 82 p)
    (λ q. chain (room_step b 2 q)
    (λ r. chain (len_step b 1 2049 r)
    (λ s. chain (room_step b 1 s) (λ t. len_step b (second_least (get_or b q 0)) (second_most (get_or b q 0)) t))))

abbrev pub is_next : Step → Bool
is_next (Ok q) = true
is_next (Err e) = false

-- prev is the place of the record before, 0 where there is none
unfoldable pub order_step : List ℕ → ℕ → ℕ → Step
order_step b prev p =
    pick (eqb prev 0) (Ok p)
    (pick (is_next (key_step b p)) (pick (eqb (cmp_key (key_at b prev) (key_at b p)) 0) (Ok p) (faulty 19 p)) (Ok p))

-- what follows an arc's kind k
unfoldable pub ar_rest : List ℕ → ℕ → ℕ → Step
ar_rest b k p =
    chain (edge_step b (edge_top k) p)
    (λ q. chain (name_step b 1 1 2049 q)
    (λ q. chain (edge_step b (edge_top2 k) q)
    (λ q. chain (name_step b 1 (second_least k) (second_most k) q) (λ q. values_step b k 18 0 q))))

unfoldable pub ar_fields : List ℕ → ℕ → Step
ar_fields b p = chain (mark_step b 65 82 p) (λ q. chain (kind_step b q) (λ r. ar_rest b (get_or b q 0) r))

unfoldable pub ar_step : List ℕ → ℕ → ℕ → Step
ar_step b prev p = chain (order_step b prev p) (λ q. ar_fields b p)

unfoldable pub arcs_step : List ℕ → ℕ → ℕ → ℕ → Step
arcs_step b zero prev p = Ok p
arcs_step b (suc n) prev p = chain (ar_step b prev p) (λ q. arcs_step b n p q)

-- The instances: '`IN` records rise strictly by path bytes'.
unfoldable pub path_len : List ℕ → ℕ → ℕ
path_len b p = be16 b (p + 2)

unfoldable pub type_len : List ℕ → ℕ → ℕ
type_len b p = be16 b (p + 4 + path_len b p)

abbrev pub path_at : List ℕ → ℕ → List ℕ
path_at b p = part b (p + 4) (path_len b p)

abbrev pub type_at : List ℕ → ℕ → List ℕ
type_at b p = part b (p + 6 + path_len b p) (type_len b p)

-- whether the path of the record at p is there whole
unfoldable pub path_step : List ℕ → ℕ → Step
path_step b p = chain (mark_step b 73 78 p) (λ q. len_step b 0 1024 q)

unfoldable pub in_order_step : List ℕ → ℕ → ℕ → Step
in_order_step b prev p =
    pick (eqb prev 0) (Ok p)
    (pick (is_next (path_step b p)) (pick (eqb (cmp (path_at b prev) (path_at b p)) 0) (Ok p) (faulty 19 p)) (Ok p))

unfoldable pub in_fields : List ℕ → ℕ → Step
in_fields b p =
    chain (mark_step b 73 78 p) (λ q. chain (name_step b 0 0 1024 q) (λ q. name_step b 2 0 1024 q))

unfoldable pub in_step : List ℕ → ℕ → ℕ → Step
in_step b prev p = chain (in_order_step b prev p) (λ q. in_fields b p)

unfoldable pub ins_step : List ℕ → ℕ → ℕ → ℕ → Step
ins_step b zero prev p = Ok p
ins_step b (suc n) prev p = chain (in_step b prev p) (λ q. ins_step b n p q)

-- the head: mark, format, two counts
unfoldable pub format_step : List ℕ → ℕ → Step
format_step b p = pick (leb 2 (length b - p)) (pick (eqb (be16 b p) 1) (Ok (p + 2)) (faulty 22 p)) (faulty 10 p)

unfoldable pub head_step : List ℕ → Step
head_step b =
    chain (mark_step b 72 68 0)
    (λ q. chain (format_step b q) (λ q. chain (room_step b 4 q) (λ q. room_step b 4 q)))

unfoldable pub end_step : List ℕ → ℕ → Step
end_step b p = pick (eqb p (length b)) (Ok p) (faulty 10 p)

-- up to the first arc; the arcs, and the end
unfoldable pub front_step : List ℕ → Step
front_step b = chain (head_step b) (λ q. ins_step b (be32 b 4) 0 q)

unfoldable pub back_step : List ℕ → ℕ → Step
back_step b f = chain (arcs_step b (be32 b 8) 0 f) (λ q. end_step b q)

-- what is said of a sheet: its outline, or the first fault
abbrev pub SheetCheck : Type 0
SheetCheck = Result Outline Fault

-- n instances, m arcs, the first at f
abbrev pub Good : ℕ → ℕ → ℕ → SheetCheck
Good n m f = Ok (record { instances = n; arcs = m; first_arc = f })

abbrev pub verdict : Step → SheetCheck → SheetCheck
verdict (Ok q) x = x
verdict (Err e) x = Err e

-- a sheet's counts and the place of its first arc, or the first fault: 'at most 16,777,216 bytes'
unfoldable pub check_of : List ℕ → SheetCheck
check_of b =
    pick (leb (length b) 16777216)
    (verdict (front_step b) (verdict (back_step b (reach (front_step b))) (Good (be32 b 4) (be32 b 8) (reach (front_step b)))))
    (faulty 10 0)

-- what a caller is told of a sheet that is not of the form: refusal 10 at place 0 ('starting sheet not of the form above')
abbrev pub refusal_of : SheetCheck → ℕ
refusal_of (Ok o) = 0
refusal_of (Err e) = 10

abbrev pub refusal_place : SheetCheck → ℕ
refusal_place (Ok o) = 0
refusal_place (Err e) = 0
