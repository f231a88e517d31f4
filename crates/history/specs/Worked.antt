-- Worked examples, by computation: document 01's list rules and its listing in one table, and the readings of annotating and patching.
-- Assumes nothing.
use Rattle.std.specs.Prelude.{◌≡◌, refl, List, [], ◌∷◌, map, ℕ, zero, suc, ◌+◌, ℤ, pos, negsuc}
use Rattle.std.proofs.Math.Option.{none, some}
use Prim.Native.String.{String}
use Rattle.classes.specs.Text.{bytes}
use Rattle.nameshape.specs.Shape
use Rattle.names.specs.Order
use Rattle.names.specs.Name
use Rattle.history.specs.Events
use Rattle.history.specs.Events.{Value, Answer, sheet, refused}
use Rattle.history.specs.Sheet
use Rattle.history.specs.Sheet.{Instance, Key, Records, Row, r01, r10, r0z, rz1, r1z, rz0, Corner, minimum, typical, maximum, Slot, Values}
use Rattle.history.specs.Sheet.{Triple, blank, Group, absolute, increment, End, Entry, at, every, Cell, annotate, patch}

-- 1. How sheets, cells and entries are written down here

abbrev pub triple : Value → Value → Value → Triple
triple a b c = record { low = a; middle = b; high = c }

-- `(n)`: 'fills all three sets'
abbrev pub all : ℤ → Triple
all z = triple (some z) (some z) (some z)

abbrev pub inst : String → String → Instance
inst path type = record { path = bytes path; type = bytes type }

-- a PORT arc; an IOPATH arc, with the number of its first edge
abbrev pub port_arc : String → Key
port_arc name = record { kind = 3; edge1 = 0; end1 = bytes name; edge2 = 0; end2 = [] }

abbrev pub path_arc : ℕ → String → String → Key
path_arc edge first second = record { kind = 1; edge1 = edge; end1 = bytes first; edge2 = 0; end2 = bytes second }

abbrev pub records : List Instance → List Key → Records
records instances arcs = record { instances = instances; arcs = arcs }

-- a sheet all of whose values are v
abbrev pub all_are : Value → Values
all_are v s = v

abbrev pub named : ℕ → String → End
named edge name = record { edge = edge; name = some (bytes name) }

abbrev pub lacking : End
lacking = record { edge = 0; name = none }

-- entries, each with the word that its keyword is
abbrev pub port : ℕ → Group → String → List Triple → Entry ℕ
port w g name values = record { word = w; kind = 3; group = g; first = named 0 name; second = lacking; values = values }

abbrev pub path : ℕ → Group → ℕ → String → String → List Triple → Entry ℕ
path w g edge first second values = record { word = w; kind = 1; group = g; first = named edge first; second = named 0 second; values = values }

abbrev pub device : ℕ → Group → End → List Triple → Entry ℕ
device w g end values = record { word = w; kind = 4; group = g; first = end; second = lacking; values = values }

-- `(PORT name (n))` under ABSOLUTE and under INCREMENT
abbrev sets : ℕ → String → ℕ → Entry ℕ
sets w name n = port w absolute name (all (pos n) ∷ [])

abbrev adds : ℕ → String → ℕ → Entry ℕ
adds w name n = port w increment name (all (pos n) ∷ [])

-- a cell with a path ("" is the top level), and one with `*`
abbrev pub cell : ℕ → String → String → List (Entry ℕ) → Cell ℕ
cell w type path entries = record { word = w; type = bytes type; part = at (bytes path); entries = entries }

abbrev pub cells : ℕ → String → List (Entry ℕ) → Cell ℕ
cells w type entries = record { word = w; type = bytes type; part = every; entries = entries }

-- one row of arc i
abbrev pub row_of : Values → ℕ → Row → Triple
row_of v i r = let set : Corner → Value = λ c. v (record { arc = i; row = r; corner = c }) in triple (set minimum) (set typical) (set maximum)

-- its six rows; nothing after a refusal
abbrev pub rows_of : ℕ → Answer Slot ℕ → List Triple
rows_of i (sheet v) = map (row_of v i) (r01 ∷ r10 ∷ r0z ∷ rz1 ∷ r1z ∷ rz0 ∷ [])
rows_of i (refused n w) = []

-- six rows with one value in all
abbrev pub alike : Value → List Triple
alike v = let t : Triple = triple v v v in t ∷ t ∷ t ∷ t ∷ t ∷ t ∷ []

abbrev pub even : ℕ → List Triple
even n = alike (some (pos n))

-- 2. The table

-- the entries of one cell, and the rows that they leave on an empty arc
pub record Case : Type 0 where
  pub entries : List (Entry ℕ)
  pub leaves : List Triple

-- the values of a list, told apart by numbers: 0 is `()`, n is n:10+n:20+n
abbrev value : ℕ → Triple
value zero = blank
value (suc n) = triple (some (pos (suc n))) (some (pos (11 + n))) (some (pos (21 + n)))

abbrev list : List ℕ → List ℕ → Case
list written leaves = record { entries = path 2 absolute 1 "clk" "q" (map value written) ∷ []; leaves = map value leaves }

abbrev pub cases : List Case
cases =
    -- 'One value goes to all rows.'
    list (1 ∷ []) (1 ∷ 1 ∷ 1 ∷ 1 ∷ 1 ∷ 1 ∷ [])
    -- 'Two: 1,2,1,1,2,2.'
    ∷ list (1 ∷ 2 ∷ []) (1 ∷ 2 ∷ 1 ∷ 1 ∷ 2 ∷ 2 ∷ [])
    -- 'Three: 1,2,3,1,3,2.'
    ∷ list (1 ∷ 2 ∷ 3 ∷ []) (1 ∷ 2 ∷ 3 ∷ 1 ∷ 3 ∷ 2 ∷ [])
    -- 'Four or five: as six with trailing `()`.'
    ∷ list (1 ∷ 2 ∷ 3 ∷ 4 ∷ []) (1 ∷ 2 ∷ 3 ∷ 4 ∷ 0 ∷ 0 ∷ [])
    ∷ list (1 ∷ 2 ∷ 3 ∷ 4 ∷ 5 ∷ []) (1 ∷ 2 ∷ 3 ∷ 4 ∷ 5 ∷ 0 ∷ [])
    ∷ list (1 ∷ 2 ∷ 3 ∷ 4 ∷ 5 ∷ 6 ∷ []) (1 ∷ 2 ∷ 3 ∷ 4 ∷ 5 ∷ 6 ∷ [])
    -- the listing: `(2:3:4) (5)` under ABSOLUTE, then `() (-1)` under INCREMENT, at 100 ps. 'On an empty arc both IOPATH entries leave
    -- rows 01, 0z, z1 at 200000:300000:400000 and rows 10, 1z, z0 at 400000 three times.'
    ∷ (let low : Triple = triple (some (pos 200000)) (some (pos 300000)) (some (pos 400000)) in
    let high : Triple = all (pos 400000) in
    record {
      entries = path 2 absolute 1 "clk" "q" (low ∷ all (pos 500000) ∷ []) ∷ path 3 increment 1 "clk" "q" (blank ∷ all (negsuc 99999) ∷ []) ∷ [];
      leaves = low ∷ high ∷ low ∷ low ∷ high ∷ high ∷ [];
    })
    ∷ []

-- the listing's cell with these entries, on a sheet with its instance and one empty IOPATH arc
abbrev pub listing : List (Entry ℕ) → Answer Slot ℕ
listing entries = annotate (records (inst "x.f1" "DFF" ∷ []) (path_arc 1 "x.f1.clk" "x.f1.q" ∷ [])) (all_are none) (cell 1 "DFF" "x.f1" entries ∷ [])

pub worked : map (λ (c : Case). rows_of 0 (listing c.entries)) cases ≡ map (λ (c : Case). c.leaves) cases
unfolding annotate patch Events.summed Events.step Events.next Events.final Events.fails_with Events.supplied Events.any_of Events.or_else
    Events.when Events.unless Events.history Events.supply Events.lenient Events.failing Events.number Events.outcome Events.annotated
    Events.affected Events.patched Sheet.each Sheet.by_row_of Sheet.nth Sheet.delay_rows Sheet.check_rows Sheet.rows Sheet.amount Sheet.giving
    Sheet.end_name Sheet.ends_at Sheet.matches Sheet.part_is Sheet.applies Sheet.addresses Sheet.lacks Sheet.unapplied Sheet.cell_number Sheet.if_arc
    Sheet.given Sheet.cell_event Sheet.entry_event Sheet.events Sheet.file_events Sheet.below Sheet.arc_slots Sheet.slots_of Sheet.behind Sheet.cut
    Sheet.swapped Sheet.patch_cut Name.full Name.same_name Name.one_below Name.last_start Name.start_from Name.start_behind Order.cmp Order.same_text
    Shape.escapes
worked = refl

-- 3. Readings. The file's words are 1 and up, the incoming cell's 11 and up, 0 is the file's first place

abbrev one_port : Records
one_port = records (inst "a" "T" ∷ []) (port_arc "a.p" ∷ [])

abbrev top : Records
top = records (inst "" "T" ∷ []) (port_arc "p" ∷ [])

abbrev edged : Records
edged = records (inst "" "T" ∷ []) (path_arc 1 "a" "q" ∷ [])

abbrev deep : Records
deep = records (inst "a" "T" ∷ []) (path_arc 0 "x.y" "a.b.q" ∷ path_arc 0 "x.y" "a.q" ∷ [])

abbrev escaped : Records
escaped = records (inst "" "T" ∷ inst "d" "T" ∷ []) (path_arc 0 "i" "d.e[1:0]" ∷ path_arc 0 "i" "d\\.e" ∷ [])

abbrev two : Records
two = records (inst "a" "T" ∷ inst "b" "T" ∷ []) (port_arc "a.p" ∷ port_arc "b.q" ∷ [])

abbrev ports : Records
ports = records (inst "" "T" ∷ []) (port_arc "p" ∷ port_arc "q" ∷ [])

-- v on the first arc, the others empty
abbrev first_only : Value → ℕ → Value
first_only v zero = v
first_only v (suc i) = none

abbrev on_first : ℕ → Values
on_first n s = first_only (some (pos n)) s.arc

-- a cell that adds to an empty value, and one that does nothing
abbrev adding : List (Cell ℕ)
adding = cell 1 "T" "a" (adds 2 "p" 1 ∷ []) ∷ cell 3 "T" "a" [] ∷ []

abbrev adding2 : List (Cell ℕ)
adding2 = cell 1 "T" "a" (adds 2 "p" 1 ∷ []) ∷ cell 3 "T" "a" (sets 4 "p" 5 ∷ []) ∷ []

abbrev both : List (Cell ℕ)
both = cell 1 "T" "" (adds 2 "p" 1 ∷ adds 3 "q" 1 ∷ []) ∷ cell 4 "T" "" [] ∷ []

pub record Patches : Type 0 where
  -- an incoming cell that 13 refuses supplies nothing
  refused_cell : patch one_port (all_are none) adding 2 0 (cell 11 "U" "a" (sets 12 "p" 5 ∷ [])) (all_are none) ≡ refused 13 11
  -- an incoming cell of which one entry gets 14: its other entries supply
  others_supply : patch one_port (all_are none) adding 2 0 (cell 11 "T" "a" (sets 12 "p" 5 ∷ sets 13 "q" 5 ∷ [])) (all_are none) ≡ refused 15 2
  -- and with the 14 alone
  lacking-alone : patch one_port (all_are none) adding 2 0 (cell 11 "T" "a" (sets 13 "q" 5 ∷ [])) (all_are none) ≡ refused 14 13
  -- an outgoing cell that 13 would refuse supplies nothing
  outgoing_refused : rows_of 0 (patch one_port (all_are (some (pos 10)))
      (cell 1 "U" "a" (sets 2 "p" 5 ∷ []) ∷ []) 1 0 (cell 11 "T" "a" []) (all_are (some (pos 77))))
      ≡ even 77
  -- an entry that lacks its arc in one instance supplies it in another
  lacks_in_one : rows_of 0 (patch two (all_are (some (pos 10))) (cells 1 "T" (sets 2 "p" 3 ∷ []) ∷ cell 3 "T" "a" [] ∷ []) 2 0
      (cell 11 "T" "a" (adds 12 "p" 1 ∷ [])) (all_are (some (pos 10))))
      ≡ even 4
  -- which annotating refuses
  lacks_refused : annotate two (all_are (some (pos 10))) (cells 1 "T" (sets 2 "p" 3 ∷ []) ∷ []) ≡ refused 14 2
  -- 15 in an earlier cell of the file comes before 12 in the incoming one
  earlier_first : patch one_port (all_are none) adding2 2 0 (cell 11 "T" "b" []) (all_are none) ≡ refused 15 2
  -- one in a later cell never does
  later_never : patch one_port (all_are none) adding2 1 0 (cell 11 "T" "b" []) (all_are none) ≡ refused 12 11
  -- 15 and 16 are judged on the affected slots only
  affected-judged : rows_of 0 (patch ports (on_first 10) both 2 0 (cell 11 "T" "" (sets 12 "p" 5 ∷ [])) (on_first 10)) ≡ even 5
  -- though annotating refuses
  all-judged : annotate ports (on_first 10) both ≡ refused 15 3
  -- a slot that nobody supplies any more has its starting value
  back_to-start : rows_of 0 (patch top (all_are (some (pos 10))) (cell 1 "T" "" (sets 2 "p" 5 ∷ []) ∷ []) 1 0
      (cell 11 "T" "" []) (all_are (some (pos 77))))
      ≡ even 10
  -- an outgoing INCREMENT that 15 would refuse still supplies
  outgoing_empty : rows_of 0 (patch top (all_are none) (cell 1 "T" "" (adds 2 "p" 1 ∷ []) ∷ []) 1 0 (cell 11 "T" "" []) (all_are (some (pos 7))))
      ≡ alike none
  -- another cell that 12 refuses is let pass in patching
  other_let_pass : rows_of 0 (patch one_port (all_are (some (pos 10)))
      (cell 1 "T" "b" [] ∷ cell 3 "T" "a" [] ∷ []) 2 0 (cell 11 "T" "a" (sets 12 "p" 5 ∷ [])) (all_are (some (pos 10))))
      ≡ even 5
  -- and refused in annotating
  other_refused : annotate one_port (all_are (some (pos 10))) (cell 1 "T" "b" [] ∷ cell 11 "T" "a" (sets 12 "p" 5 ∷ []) ∷ []) ≡ refused 12 1
  -- 17: cell number 0
  number_0 : patch top (all_are none) (cell 1 "T" "" [] ∷ []) 0 0 (cell 11 "T" "" []) (all_are none) ≡ refused 17 0
  -- 17: beyond the last
  number_beyond : patch top (all_are none) (cell 1 "T" "" [] ∷ []) 2 0 (cell 11 "T" "" []) (all_are none) ≡ refused 17 0

pub patches : Patches
unfolding annotate patch Events.summed Events.step Events.next Events.final Events.fails_with Events.supplied Events.any_of Events.or_else
    Events.when Events.unless Events.history Events.supply Events.lenient Events.failing Events.number Events.outcome Events.annotated
    Events.affected Events.patched Sheet.each Sheet.by_row_of Sheet.nth Sheet.delay_rows Sheet.check_rows Sheet.rows Sheet.amount Sheet.giving
    Sheet.end_name Sheet.ends_at Sheet.matches Sheet.part_is Sheet.applies Sheet.addresses Sheet.lacks Sheet.unapplied Sheet.cell_number Sheet.if_arc
    Sheet.given Sheet.cell_event Sheet.entry_event Sheet.events Sheet.file_events Sheet.below Sheet.arc_slots Sheet.slots_of Sheet.behind Sheet.cut
    Sheet.swapped Sheet.patch_cut Name.full Name.same_name Name.one_below Name.last_start Name.start_from Name.start_behind Order.cmp Order.same_text
    Shape.escapes
patches = record {
  refused_cell = refl;
  others_supply = refl;
  lacking-alone = refl;
  outgoing_refused = refl;
  lacks_in_one = refl;
  lacks_refused = refl;
  earlier_first = refl;
  later_never = refl;
  affected-judged = refl;
  all-judged = refl;
  back_to-start = refl;
  outgoing_empty = refl;
  other_let_pass = refl;
  other_refused = refl;
  number_0 = refl;
  number_beyond = refl;
}

pub record Annotations : Type 0 where
  -- 12 at the top level
  no_top : annotate one_port (all_are none) (cell 1 "T" "" [] ∷ []) ≡ refused 12 1
  -- 13 at the top level
  top-type : annotate top (all_are none) (cell 1 "U" "" [] ∷ []) ≡ refused 13 1
  -- `*` includes the top level
  every-top : rows_of 0 (annotate top (all_are none) (cells 1 "T" (sets 2 "p" 1 ∷ []) ∷ [])) ≡ even 1
  -- `*` with no instance does nothing
  every-none : rows_of 0 (annotate edged (all_are (some (pos 0))) (cells 1 "U" (path 2 absolute 0 "p" "p" (all (pos 1) ∷ []) ∷ []) ∷ [])) ≡ even 0
  -- edges match exactly
  edge_exact : annotate edged (all_are none) (cell 1 "T" "" (path 2 absolute 0 "a" "q" (all (pos 1) ∷ []) ∷ []) ∷ []) ≡ refused 14 2
  -- DEVICE takes any
  edge_device : rows_of 0 (annotate edged (all_are none) (cell 1 "T" "" (device 2 absolute (named 0 "q") (all (pos 1) ∷ []) ∷ []) ∷ [])) ≡ even 1
  -- 14 holds for an entry that supplies nothing
  lacking-blank : annotate edged (all_are none) (cell 1 "T" "" (path 2 absolute 0 "a" "q" (blank ∷ []) ∷ []) ∷ []) ≡ refused 14 2
  -- DEVICE looks at second ends only; its port may have several components
  device-port : map (λ (i : ℕ). rows_of i (annotate deep (all_are (some (pos 0)))
      (cell 1 "T" "a" (device 2 absolute (named 0 "b.q") (all (pos 1) ∷ []) ∷ []) ∷ []))) (0 ∷ 1 ∷ [])
      ≡ even 1 ∷ even 0 ∷ []
  -- DEVICE without a port: the path plus one component
  device-bare : map (λ (i : ℕ). rows_of i (annotate deep (all_are (some (pos 0)))
      (cell 1 "T" "a" (device 2 absolute lacking (all (pos 1) ∷ []) ∷ []) ∷ []))) (0 ∷ 1 ∷ [])
      ≡ even 0 ∷ even 1 ∷ []
  -- with escapes minded, `d\.e` being one component, and the top level's path empty
  device-escaped : map (λ (i : ℕ). rows_of i (annotate escaped (all_are (some (pos 0)))
      (cell 1 "T" "" (device 2 absolute lacking (all (pos 1) ∷ []) ∷ []) ∷ []))) (0 ∷ 1 ∷ [])
      ≡ even 0 ∷ even 1 ∷ []
  -- DEVICE under `*`: one instance without such an arc is enough for 14
  device-every : annotate (records (inst "a" "T" ∷ inst "b" "T" ∷ []) (path_arc 0 "a.i" "a.q" ∷ [])) (all_are none)
      (cells 1 "T" (device 2 absolute (named 0 "q") (all (pos 1) ∷ []) ∷ []) ∷ [])
      ≡ refused 14 2
  -- 15 over all slots before 16
  fifteen_first : annotate (records (inst "" "T" ∷ []) (path_arc 0 "a" "q" ∷ path_arc 0 "b" "q" ∷ [])) (on_first 1000000000000000)
      (cell 1 "T" "" (device 2 increment (named 0 "q") (all (pos 1) ∷ []) ∷ []) ∷ [])
      ≡ refused 15 2
  -- 14 over all instances before 15
  fourteen_first : annotate (records (inst "a" "T" ∷ inst "b" "T" ∷ []) (port_arc "a.p" ∷ [])) (all_are none) (cells 1 "T" (adds 2 "p" 1 ∷ []) ∷ [])
      ≡ refused 14 2
  -- sums are judged at each step
  step-by-step : annotate top (all_are (some (pos 1000000000000000)))
      (cell 1 "T" "" (adds 2 "p" 1 ∷ port 3 increment "p" (all (negsuc 0) ∷ []) ∷ []) ∷ [])
      ≡ refused 16 2
  -- an INCREMENT on an empty value that a later ABSOLUTE covers
  covered_later : annotate top (all_are none) (cell 1 "T" "" (adds 2 "p" 1 ∷ sets 3 "p" 1 ∷ []) ∷ []) ≡ refused 15 2
  -- negative results stay: 5 - 7
  negative_stays : rows_of 0 (annotate top (all_are (some (pos 5))) (cell 1 "T" "" (port 2 increment "p" (all (negsuc 6) ∷ []) ∷ []) ∷ []))
      ≡ alike (some (negsuc 1))

pub annotations : Annotations
unfolding annotate patch Events.summed Events.step Events.next Events.final Events.fails_with Events.supplied Events.any_of Events.or_else
    Events.when Events.unless Events.history Events.supply Events.lenient Events.failing Events.number Events.outcome Events.annotated
    Events.affected Events.patched Sheet.each Sheet.by_row_of Sheet.nth Sheet.delay_rows Sheet.check_rows Sheet.rows Sheet.amount Sheet.giving
    Sheet.end_name Sheet.ends_at Sheet.matches Sheet.part_is Sheet.applies Sheet.addresses Sheet.lacks Sheet.unapplied Sheet.cell_number Sheet.if_arc
    Sheet.given Sheet.cell_event Sheet.entry_event Sheet.events Sheet.file_events Sheet.below Sheet.arc_slots Sheet.slots_of Sheet.behind Sheet.cut
    Sheet.swapped Sheet.patch_cut Name.full Name.same_name Name.one_below Name.last_start Name.start_from Name.start_behind Order.cmp Order.same_text
    Shape.escapes
annotations = record {
  no_top = refl;
  top-type = refl;
  every-top = refl;
  every-none = refl;
  edge_exact = refl;
  edge_device = refl;
  lacking-blank = refl;
  device-port = refl;
  device-bare = refl;
  device-escaped = refl;
  device-every = refl;
  fifteen_first = refl;
  fourteen_first = refl;
  step-by-step = refl;
  covered_later = refl;
  negative_stays = refl;
}
