-- Sheets, cells and entries; which arcs an entry of a cell addresses, what it supplies; annotating and patching.
-- Assumes nothing.
use Rattle.std.specs.Prelude.{Bool, true, not, List, [], ◌∷◌, ◌++◌, map, ℕ, zero, suc, eqb, length, ℤ}
use Rattle.std.proofs.Math.Option.{Option, none, some}
use Rattle.std.proofs.Math.ListN.{get_elem?}
use Rattle.classes.specs.Choice.{pick, and}
use Rattle.names.specs.Order.{same_text}
use Rattle.names.specs.Name.{full, same_name, one_below}
use Rattle.history.specs.Events.{Value, Supply, nothing, replace, add, Event, Answer, refused, any_of, when, annotated, patched}

-- names in canonical form (`.` for the divider), and type texts
abbrev pub Bytes : Type 0
Bytes = List ℕ

-- one list after the other
unfoldable pub each : {A B : Type 0} → (A → List B) → List A → List B
each f [] = []
each f (a ∷ more) = f a ++ each f more

-- 1. The sheet's records

-- '`IN`: u16 length and path (0 to 1,024), u16 length and type'
pub record Instance : Type 0 where
  pub path : Bytes
  pub type : Bytes

-- '`AR`: u8 kind, u8 edge, u16 length and first end, u8 edge, u16 length and second end': all of it but its values
pub record Key : Type 0 where
  pub kind : ℕ
  pub edge1 : ℕ
  pub end1 : Bytes
  pub edge2 : ℕ
  pub end2 : Bytes

pub record Records : Type 0 where
  pub instances : List Instance
  pub arcs : List Key

-- 'Rows are 01, 10, 0z, z1, 1z, z0'
pub data Row : Type 0 where
  r01 r10 r0z rz1 r1z rz0 : Row

-- 'all three sets (minimum, typical, maximum)'
pub data Corner : Type 0 where
  minimum typical maximum : Corner

-- 'The 18 values are six rows of three sets': one of them; arcs are numbered from 0
pub record Slot : Type 0 where
  pub arc : ℕ
  pub row : Row
  pub corner : Corner

abbrev pub Values : Type 0
Values = Slot → Value

-- 2. What a text says

-- a value as written: 'each of the three numbers is supplied or absent'
pub record Triple : Type 0 where
  pub low : Option ℤ
  pub middle : Option ℤ
  pub high : Option ℤ

-- 'group (A, I or T)'
pub data Group : Type 0 where
  absolute increment check : Group

-- An end as written, its divider turned into `.`; none where the entry has none. 'Edges: 0 none, then 1 to 8 as listed'
pub record End : Type 0 where
  pub edge : ℕ
  pub name : Option Bytes

-- 'The entry list has kind, group (A, I or T), keyword place, both ends with edges, and the values as written.'
pub record Entry (Word : Type 0) : Type 0 where
  pub word : Word
  pub kind : ℕ
  pub group : Group
  pub first : End
  pub second : End
  pub values : List Triple

-- 'INSTANCE with a path, nothing (the top level) or `*`': `at` a path, of length 0 at the top level
pub data Part : Type 0 where
  at : Bytes → Part
  every : Part

-- 'keyword place, type text, instance path', and its entries
pub record Cell (Word : Type 0) : Type 0 where
  pub word : Word
  pub type : Bytes
  pub part : Part
  pub entries : List (Entry Word)

-- 'Kinds: 1 IOPATH'; DEVICE is none of the sheet's, and 4 stands for it
abbrev pub iopath : ℕ
iopath = 1

abbrev pub device : ℕ
device = 4

-- 3. What an entry supplies to a row and a corner

-- the value `()`, and one that is not written
abbrev pub blank : Triple
blank = record { low = none; middle = none; high = none }

-- one for each row
unfoldable pub by_row_of : {A : Type 0} → A → A → A → A → A → A → Row → A
by_row_of a b c d e f r01 = a
by_row_of a b c d e f r10 = b
by_row_of a b c d e f r0z = c
by_row_of a b c d e f rz1 = d
by_row_of a b c d e f r1z = e
by_row_of a b c d e f rz0 = f

-- value number n of a list, from 0
unfoldable pub nth : List Triple → ℕ → Triple
nth [] n = blank
nth (a ∷ more) zero = a
nth (a ∷ more) (suc n) = nth more n

-- 'One value goes to all rows. Two: 1,2,1,1,2,2. Three: 1,2,3,1,3,2. Four or five: as six with trailing `()`.'
unfoldable pub delay_rows : List Triple → Row → Triple
delay_rows [] = by_row_of blank blank blank blank blank blank
delay_rows (a ∷ []) = by_row_of a a a a a a
delay_rows (a ∷ b ∷ []) = by_row_of a b a a b b
delay_rows (a ∷ b ∷ c ∷ []) = by_row_of a b c a c b
delay_rows (a ∷ b ∷ c ∷ d ∷ more) = by_row_of a b c d (nth more 0) (nth more 1)

-- 'Checks use row 1, two-value checks rows 1 and 2; their other rows are empty.'
unfoldable pub check_rows : List Triple → Row → Triple
check_rows l = by_row_of (nth l 0) (nth l 1) blank blank blank blank

-- by the entry's group
unfoldable pub rows : Group → List Triple → Row → Triple
rows absolute = delay_rows
rows increment = delay_rows
rows check = check_rows

-- the number of one set
unfoldable pub amount : Triple → Corner → Option ℤ
amount t minimum = t.low
amount t typical = t.middle
amount t maximum = t.high

-- ABSOLUTE and a check replace, INCREMENT adds; an absent number does neither
unfoldable pub giving : Group → Option ℤ → Supply
giving g none = nothing
giving absolute (some t) = replace t
giving increment (some t) = add t
giving check (some t) = replace t

-- 4. Which arcs an entry of a cell addresses

-- 'An end's full name is the instance path, `.` and the written name; at the top level the written name alone.'
-- An end that the entry lacks is none on the sheet: 'PORT, WIDTH and PERIOD have second edge 0 and second length 0'
unfoldable pub end_name : Bytes → Option Bytes → Bytes
end_name path none = []
end_name path (some name) = full path name

-- 'ending at the named port; without a port, every one whose second end is the instance path plus one component'
unfoldable pub ends_at : Bytes → Option Bytes → Bytes → Bool
ends_at path (some name) end = same_name end (full path name)
ends_at path none end = one_below path end

-- The entry, applied to the instance with this path, addresses this arc: 'An entry addresses the arc of its kind, edges and full names.
-- DEVICE addresses every IOPATH arc ending at the named port'
unfoldable pub matches : {Word : Type 0} → Bytes → Entry Word → Key → Bool
matches path e k = pick (eqb e.kind device)
    (and (eqb k.kind iopath) (ends_at path e.first.name k.end2))
    (and (eqb k.kind e.kind)
    (and (and (eqb k.edge1 e.first.edge) (same_name k.end1 (end_name path e.first.name)))
    (and (eqb k.edge2 e.second.edge) (same_name k.end2 (end_name path e.second.name)))))

-- x, if the arc is there and passes the test
unfoldable pub if_arc : Option Key → (Key → Bool) → Supply → Supply
if_arc none test x = nothing
if_arc (some k) test x = pick (test k) x nothing

-- '`INSTANCE` alone means path length 0; `*` means every instance of that type'
unfoldable pub part_is : Part → Bytes → Bool
part_is (at p) path = same_name path p
part_is every path = true

-- Why a cell applies to no instance: 12, 'no such instance'; 13, 'type differs'; for `*`, 'with none the cell does nothing'
unfoldable pub unapplied : List Instance → Part → Option ℕ
unapplied l (at p) = pick (any_of (λ (i : Instance). same_name i.path p) l) (some 13) (some 12)
unapplied l every = none

-- 'A cell with a path applies to that instance, whose `IN` type must equal the CELLTYPE text'
unfoldable pub applies : {Word : Type 0} → Cell Word → Instance → Bool
applies c i = and (part_is c.part i.path) (same_text i.type c.type)

module _ (records : Records) {Word : Type 0} where
  -- the entry addresses this arc in some instance that its cell applies to
  unfoldable pub addresses : Cell Word → Entry Word → Key → Bool
  addresses c e k = any_of (λ (i : Instance). and (applies c i) (matches i.path e k)) records.instances

  -- 14: 'some addressed instance lacks the arc (DEVICE: has no such arc at all)'
  unfoldable pub lacks : Cell Word → Entry Word → Bool
  lacks c e = any_of (λ (i : Instance). and (applies c i) (not (any_of (matches i.path e) records.arcs))) records.instances

  -- 12 or 13, if the cell applies to no instance and is not let pass
  unfoldable pub cell_number : Cell Word → Option ℕ
  cell_number c = pick (any_of (applies c) records.instances) none (unapplied records.instances c.part)

  -- What the entry supplies to a slot. 'Another cell that 12 or 13 would refuse supplies nothing, nor does an entry where its arc is lacking': no
  -- rule of its own, for the one addresses no arc, and the other supplies arcs only
  unfoldable pub given : Cell Word → Entry Word → Slot → Supply
  given c e s = if_arc (get_elem? records.arcs s.arc) (addresses c e)
      (giving e.group (amount (rows e.group e.values s.row) s.corner))

  -- 5. A cell's events: its keyword, then its entries

  unfoldable pub cell_event : Cell Word → Event Slot Word
  cell_event c = record { word = c.word; own = cell_number c; gives = λ s. nothing }

  unfoldable pub entry_event : Cell Word → Entry Word → Event Slot Word
  entry_event c e = record { word = e.word; own = when (lacks c e) 14; gives = given c e }

  unfoldable pub events : Cell Word → List (Event Slot Word)
  events c = cell_event c ∷ map (entry_event c) c.entries

  unfoldable pub file_events : List (Cell Word) → List (Event Slot Word)
  file_events cells = each events cells

-- 6. All slots of a sheet

-- the numbers below n, rising
unfoldable pub below : ℕ → List ℕ
below zero = []
below (suc n) = below n ++ (n ∷ [])

-- 'six rows of three sets, row first'
unfoldable pub arc_slots : ℕ → List Slot
arc_slots i = each (λ (r : Row). each (λ (c : Corner). record { arc = i; row = r; corner = c } ∷ []) (minimum ∷ typical ∷ maximum ∷ []))
    (r01 ∷ r10 ∷ r0z ∷ rz1 ∷ r1z ∷ rz0 ∷ [])

unfoldable pub slots_of : Records → List Slot
slots_of records = each arc_slots (below (length records.arcs))

-- 7. Annotating and patching

-- a list, cut at one of its elements
pub record Cut (A : Type 0) : Type 0 where
  pub before : List A
  pub one : A
  pub after : List A

-- the cut, with one more element before it
unfoldable pub behind : {A : Type 0} → A → Option (Cut A) → Option (Cut A)
behind a none = none
behind a (some p) = some (record { before = a ∷ p.before; one = p.one; after = p.after })

-- 'cell number from 1': none if it is '0 or beyond the last'
unfoldable pub cut : {A : Type 0} → List A → ℕ → Option (Cut A)
cut l zero = none
cut [] (suc k) = none
cut (a ∷ more) (suc zero) = some (record { before = []; one = a; after = more })
cut (a ∷ more) (suc (suc k)) = behind a (cut more (suc k))

-- the list with another element in this place
unfoldable pub swapped : {A : Type 0} → Cut A → A → List A
swapped p a = p.before ++ (a ∷ p.after)

module _ (records : Records) {Word : Type 0} where
  -- annotating the values `start` with the cells of a file
  unfoldable pub annotate : Values → List (Cell Word) → Answer Slot Word
  annotate start cells = annotated (slots_of records) start (file_events records cells)

  -- 17: 'cell number 0 or beyond the last'
  unfoldable pub patch_cut : Values → Option (Cut (Cell Word)) → Word → Cell Word → Values → Answer Slot Word
  patch_cut start none origin incoming current = refused 17 origin
  patch_cut start (some p) origin incoming current =
      patched (slots_of records) start (file_events records p.before) (events records p.one) (file_events records p.after)
      (events records incoming) current

  -- 'Given: starting sheet, file, cell number from 1, incoming text, current sheet'; origin is the word of a refusal 17: place 0 in the file
  unfoldable pub patch : Values → List (Cell Word) → ℕ → Word → Cell Word → Values → Answer Slot Word
  patch start cells k origin incoming current = patch_cut start (cut cells k) origin incoming current
