-- What the tokens mean (document 01, 'What reading leaves'), and how a token is judged: in the order of the refusal numbers.
-- Assumes nothing.
use Rattle.std.specs.Prelude.{◌≡◌, refl, Bool, true, false, List, [], ◌∷◌, ◌++◌, ℕ, zero, suc, ◌+◌, ◌-◌, ◌*◌, eqb, leb, ℤ, length, set, Some, None, Result, Ok, Err}
use Rattle.classes.specs.Choice.{pick}
use Rattle.tokens.specs.Stream.{Placed}
use Rattle.words.specs.Words.{key_of, edge_of, scale_of, unit_of}
use Rattle.numbershape.specs.Value.{number_of}
use Rattle.numbershape.specs.declared.NotTime.{NotTime}
use Rattle.numbershape.specs.declared.NotTime.TheVariants.{Fine, Beyond, Wrong}
use Rattle.grammar.specs.Machine.{Res, fine, bad, bad≢fine}
use Rattle.grammar.specs.declared.Value.{Value}
use Rattle.grammar.specs.declared.Entry.{Entry}
use Rattle.grammar.specs.declared.Cell.{Cell}
use Rattle.grammar.specs.Grammar.{Cls, this, text, word, path, port, Note, skip, heading, type, top, named, any, finish, edged, end, plain, empty, all, whole, close, Act, note, divide, scaled, unity, joined, cell, entry, Term}
use Rattle.grammar.specs.Grammar as G

-- 'The entry list has kind, group (A, I or T), keyword place, both ends with edges, and the values as written.'
pub record Item : Type 0 where
  pub head : Entry
  pub values : List Value

-- the cell in hand: what is known of it, and how many entries stood before it
pub record Begun : Type 0 where
  pub place : ℕ
  pub typefrom : ℕ
  pub typeto : ℕ
  pub sort : ℕ
  pub pathfrom : ℕ
  pub pathto : ℕ
  pub before : ℕ

-- what was read: where the header's texts stand, the cells, the entries; and what is in hand, a cell, an entry's head and values, a value
pub record Log : Type 0 where
  pub texts : List ℕ
  pub cells : List Cell
  pub items : List Item
  pub begun : Begun
  pub head : Entry
  pub values : List Value
  pub value : Value

-- all that a reading knows but the stack
pub record Book : Type 0 where
  pub opened : Bool  -- the last token was an opening bracket
  pub slash : Bool  -- the divider is /
  pub unit : ℕ  -- the time scale is 10 ^ unit femtoseconds
  pub cell_room : ℕ  -- the room that is left
  pub item_room : ℕ
  pub log : Log

abbrev pub nothing : Value
nothing = record { min = None; typ = None; max = None }

abbrev pub head_of : ℕ → ℕ → ℕ → Entry
head_of k g p = record { kind = k; group = g; place = p; edge1 = 0; from1 = 0; to1 = 0; edge2 = 0; from2 = 0; to2 = 0 }

abbrev pub no_head : Entry
no_head = head_of 0 0 0

abbrev pub no_cell : Begun
no_cell = record { place = 0; typefrom = 0; typeto = 0; sort = 0; pathfrom = 0; pathto = 0; before = 0 }

-- texts of the header, cells and entries, and nothing in hand
abbrev pub tidy : List ℕ → List Cell → List Item → Log
tidy ts cs is = record { texts = ts; cells = cs; items = is; begun = no_cell; head = no_head; values = []; value = nothing }

-- the log with another value in hand, with a value more, with another head
abbrev pub valued : Value → Log → Log
valued v l = record { texts = l.texts; cells = l.cells; items = l.items; begun = l.begun; head = l.head; values = l.values; value = v }

abbrev pub pushed : Value → Log → Log
pushed v l = record { texts = l.texts; cells = l.cells; items = l.items; begun = l.begun; head = l.head; values = l.values ++ v ∷ []; value = nothing }

abbrev pub headed : Entry → Log → Log
headed h l = record { texts = l.texts; cells = l.cells; items = l.items; begun = l.begun; head = h; values = l.values; value = l.value }

-- an entry begins
abbrev pub started : ℕ → ℕ → ℕ → Log → Log
started k g p l =
    record { texts = l.texts; cells = l.cells; items = l.items; begun = l.begun; head = head_of k g p; values = []; value = l.value }

abbrev pub item_of : Log → Item
item_of l = record { head = l.head; values = l.values }

-- entries more, and none in hand
abbrev pub entered : List Item → Log → Log
entered is l =
    record { texts = l.texts; cells = l.cells; items = l.items ++ is; begun = l.begun; head = no_head; values = []; value = nothing }

abbrev pub celled : Begun → Log → Log
celled c l = record { texts = l.texts; cells = l.cells; items = l.items; begun = c; head = l.head; values = l.values; value = l.value }

-- the k-th of the header's texts stands from b to e
abbrev pub titled : ℕ → ℕ → ℕ → Log → Log
titled k b e l =
    record { texts = set (set l.texts (2 * k) b) (2 * k + 1) e; cells = l.cells; items = l.items; begun = l.begun; head = l.head; values = l.values; value = l.value }

abbrev pub typed : ℕ → ℕ → Begun → Begun
typed b e c = record { place = c.place; typefrom = b; typeto = e; sort = c.sort; pathfrom = c.pathfrom; pathto = c.pathto; before = c.before }

abbrev pub pathed : ℕ → ℕ → ℕ → Begun → Begun
pathed k b e c = record { place = c.place; typefrom = c.typefrom; typeto = c.typeto; sort = k; pathfrom = b; pathto = e; before = c.before }

-- 'keyword place, type text, instance path, number of entries'
abbrev pub cell_of : Begun → ℕ → Cell
cell_of c n =
    record { place = c.place; typefrom = c.typefrom; typeto = c.typeto; sort = c.sort; pathfrom = c.pathfrom; pathto = c.pathto; entries = n }

-- a cell more, and none in hand
abbrev pub finished : Log → Log
finished l =
    record { texts = l.texts; cells = l.cells ++ cell_of l.begun (length l.items - l.begun.before) ∷ []; items = l.items; begun = no_cell; head = l.head; values = l.values; value = l.value }

abbrev pub edge_put : Bool → ℕ → Entry → Entry
edge_put false e h = record { kind = h.kind; group = h.group; place = h.place; edge1 = e; from1 = h.from1; to1 = h.to1; edge2 = h.edge2; from2 = h.from2; to2 = h.to2 }
edge_put true e h = record { kind = h.kind; group = h.group; place = h.place; edge1 = h.edge1; from1 = h.from1; to1 = h.to1; edge2 = e; from2 = h.from2; to2 = h.to2 }

-- an end with its edge
abbrev pub end_put : Bool → ℕ → ℕ → ℕ → Entry → Entry
end_put false g b e h = record { kind = h.kind; group = h.group; place = h.place; edge1 = g; from1 = b; to1 = e; edge2 = h.edge2; from2 = h.from2; to2 = h.to2 }
end_put true g b e h = record { kind = h.kind; group = h.group; place = h.place; edge1 = h.edge1; from1 = h.from1; to1 = h.to1; edge2 = g; from2 = b; to2 = e }

abbrev pub edge_of_end : Bool → Entry → ℕ
edge_of_end false h = h.edge1
edge_of_end true h = h.edge2

pub end_put_lem : (i : Bool) (g b e : ℕ) (h : Entry) → end_put i (edge_of_end i (edge_put i g h)) b e (edge_put i g h) ≡ end_put i g b e h
end_put_lem false g b e h = refl
end_put_lem true g b e h = refl

-- the log after a token
abbrev pub noted : Note → Placed → Log → Log
noted skip t l = l
noted (heading k) t l = titled k (t.start + 1) (t.end - 1) l
noted type t l = celled (typed (t.start + 1) (t.end - 1) l.begun) l
noted top t l = celled (pathed 0 0 0 l.begun) l
noted named t l = celled (pathed 1 t.start t.end l.begun) l
noted any t l = celled (pathed 2 0 0 l.begun) l
noted finish t l = finished l
noted (edged i) t l = headed (edge_put i (edge_of t.bytes) l.head) l
noted (end i) t l = headed (end_put i (edge_of_end i l.head) t.start t.end l.head) l
noted (plain i) t l = headed (end_put i 0 t.start t.end l.head) l
noted G.none t l = valued nothing l
noted empty t l = pushed nothing l
noted all t l = pushed (record { min = l.value.min; typ = l.value.min; max = l.value.min }) l
noted whole t l = pushed l.value l
noted close t l = entered (item_of l ∷ []) l

-- a value with its next number
abbrev pub timely : ℕ → ℤ → Value → Value
timely zero z v = record { min = Some z; typ = None; max = None }
timely (suc zero) z v = record { min = v.min; typ = Some z; max = None }
timely (suc (suc k)) z v = record { min = v.min; typ = v.typ; max = Some z }

-- marks are of any length; a word or a string may be too long
abbrev pub overlong : Cls → Placed → Bool
overlong (this k) t = false
overlong text t = t.long
overlong (word i a b) t = t.long
overlong (path d) t = t.long
overlong (port d) t = t.long
overlong (G.number s) t = t.long

-- 'word or string content over 1,024 bytes as written' (8)
abbrev pub lengthy : Cls → Placed → Res Book → Res Book
lengthy c t r = pick (overlong c t) (bad 8 t.start) r

-- the book after a token, with all else as it was
abbrev pub told : Book → Placed → Log → Book
told b t l = record { opened = eqb t.kind 2; slash = b.slash; unit = b.unit; cell_room = b.cell_room; item_room = b.item_room; log = l }

abbrev pub measured : Book → Placed → ℕ → Book
measured b t u = record { opened = eqb t.kind 2; slash = b.slash; unit = u; cell_room = b.cell_room; item_room = b.item_room; log = b.log }

-- 'time not a whole femtosecond' (6), 'whole, but beyond 10^15' (7)
abbrev pub timed : Book → Cls → ℕ → Placed → Result ℤ NotTime → Res Book
timed b c k t (Ok z) = lengthy c t (fine (told b t (valued (timely k z b.log.value) b.log)))
timed b c k t (Err Fine) = bad 6 t.start
timed b c k t (Err Beyond) = bad 7 t.start
timed b c k t (Err Wrong) = bad 4 t.start

-- what is no time is never taken
pub refused≢fine : (b : Book) (c : Cls) (k : ℕ) (t : Placed) (n : NotTime) {d : Book} → timed b c k t (Err n) ≡ fine d → ⊥
refused≢fine b c k t Fine e = bad≢fine e
refused≢fine b c k t Beyond e = bad≢fine e
refused≢fine b c k t Wrong e = bad≢fine e

abbrev pub begins : ℕ → Log → Begun
begins p l = record { place = p; typefrom = 0; typeto = 0; sort = 0; pathfrom = 0; pathto = 0; before = length l.items }

-- THE JUDGMENT of a token that the grammar takes: 6 or 7, then 8, then 'no room for this cell or entry' (9)
abbrev pub judge_by : Book → Cls → Act → Placed → Res Book
judge_by b c (note n) t = lengthy c t (fine (told b t (noted n t b.log)))
judge_by b c (divide d) t =
    lengthy c t (fine (record { opened = eqb t.kind 2; slash = d; unit = b.unit; cell_room = b.cell_room; item_room = b.item_room; log = b.log }))
judge_by b c scaled t = lengthy c t (fine (measured b t (scale_of t.bytes - 1)))
judge_by b c unity t = lengthy c t (fine (measured b t (b.unit + (unit_of t.bytes - 1))))
judge_by b c joined t = lengthy c t (fine (measured b t (scale_of t.bytes - 11)))
judge_by b c cell t =
    lengthy c t (pick (eqb b.cell_room 0) (bad 9 t.start)
    (fine (record { opened = eqb t.kind 2; slash = b.slash; unit = b.unit; cell_room = b.cell_room - 1; item_room = b.item_room; log = celled (begins t.start b.log) b.log })))
judge_by b c (entry g) t =
    lengthy c t (pick (eqb b.item_room 0) (bad 9 t.start)
    (fine (record { opened = eqb t.kind 2; slash = b.slash; unit = b.unit; cell_room = b.cell_room; item_room = b.item_room - 1; log = started (key_of t.bytes) g t.start b.log })))
judge_by b c (G.time s k) t = timed b c k t (number_of s b.unit t.bytes)

abbrev pub judge : Book → Term → Placed → Res Book
judge b c t = judge_by b c.cls c.act t

-- and of one that it does not take: 5 for a word of the list right behind an opening bracket, else 4
abbrev pub wrongly : Bool → ℕ → List ℕ → ℕ
wrongly opened k w = pick opened (pick (eqb k 7) (pick (leb 90 (key_of w)) 5 4) 4) 4

abbrev pub wrong : Book → Placed → ℕ
wrong b t = wrongly b.opened t.kind t.bytes
