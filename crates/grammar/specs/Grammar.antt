-- The carried part of SDF (document 01, 'The part of SDF we carry', after Annex A of IEEE 1497): a table of places with their
-- alternatives, each of which begins with a token; and what each token means.
-- Assumes nothing.
use Rattle.std.specs.Prelude.{Bool, true, false, List, [], ◌∷◌, ◌++◌, ℕ, ◌+◌, eqb, ltb, drop}
use Rattle.classes.specs.Choice.{pick, within}
use Rattle.tokens.specs.Stream.{Placed}
use Rattle.words.specs.Words.{key_of, scale_of, divider_of, edge_of, unit_of}
use Rattle.nameshape.specs.Shape.{is_path, is_port}
use Rattle.numbershape.specs.Shape.{is_number}
use Rattle.grammar.specs.Ll.{Sym, lit, non, Alt}

pub data Table : Type 0 where
  keys scales dividers edges units : Table

-- which tokens may stand at a place
pub data Cls : Type 0 where
  this : ℕ → Cls  -- the mark of this kind: 2 ( 3 ) 4 : 5 *
  text : Cls  -- a quoted string
  word : Table → ℕ → ℕ → Cls  -- a word of this table, by its number from .. to ..
  path port : Bool → Cls  -- an instance path, a port's name; the divider is / where this is true, else .
  number : Bool → Cls  -- a number; a sign may lead it where this is true

-- what a token means: a note in the log, or more than that
pub data Note : Type 0 where
  skip : Note
  heading : ℕ → Note  -- the header's text of this number
  type top named any : Note  -- a cell's type; its path: none, this word, every one
  finish : Note  -- a cell's closing bracket
  edged end plain : Bool → Note  -- the edge of its second end, or of its first (false); the end behind it; an end without an edge
  none : Note  -- a colon where a value's first number would stand
  empty all whole : Note  -- a value's closing bracket: nothing stands in it, one number, a triple
  close : Note  -- an entry's closing bracket

pub data Act : Type 0 where
  note : Note → Act
  divide : Bool → Act  -- from here on the divider is this
  scaled unity joined : Act  -- a time scale's number, its unit, both
  cell : Act  -- a cell's keyword
  entry : ℕ → Act  -- an entry's keyword, in this group
  time : Bool → ℕ → Act  -- a value's first number, its second, its third (0, 1, 2), signed or not

pub record Term : Type 0 where
  pub cls : Cls
  pub act : Act

-- the places; d is the divider, f whether something stands before that has to
pub data N : Type 0 where
  header : ℕ → Bool → N  -- the keyword of a header entry, of this number or a later one, or of the first cell; and all that follows
  divider timescale : N  -- the rest of DIVIDER and of TIMESCALE
  bare bare1 : N  -- the rest of a bare number or triple, with its closing bracket; behind its first number
  bare2 bare3 : Bool → N  -- behind one colon; behind two
  value first : Bool → N  -- the rest of a value, signed or not, with its closing bracket; behind its first number
  second third : Bool → Bool → N
  more instance specs spec deltype : Bool → N
  deltypes checks : Bool → Bool → N
  delays : ℕ → Bool → Bool → N  -- the entries of a DELAY group, 'A' (65) or 'I' (73)
  delay : ℕ → Bool → N
  device check : Bool → N
  end? : Bool → Bool → N  -- an end that may have an edge: the second or the first (false)
  values : ℕ → N  -- behind so many values: another one or the closing bracket

infix 70 ◌!◌
abbrev pub ◌!◌ : Cls → Note → Term
c ! a = record { cls = c; act = note a }

infix 70 ◌‼◌
abbrev pub ◌‼◌ : Cls → Act → Term
c ‼ a = record { cls = c; act = a }

infixr 60 ◌⇒◌
abbrev pub ◌⇒◌ : Term → List (Sym Term N) → Alt Term N
c ⇒ ss = record { head = c; rest = ss }

infixr 50 ◌∣◌
abbrev pub ◌∣◌ : Alt Term N → List (Alt Term N) → List (Alt Term N)
a ∣ l = a ∷ l

abbrev pub opens : Term
opens = this 2 ! skip

abbrev pub closes : Note → Term
closes a = this 3 ! a

abbrev pub colon : Note → Term
colon a = this 4 ! a

abbrev pub key : ℕ → Cls
key k = word keys k k

abbrev pub keyword : ℕ → Term
keyword k = key k ! skip

abbrev pub ⟨ : Sym Term N
⟨ = lit opens

abbrev pub ⟩ : Sym Term N
⟩ = lit (closes skip)

abbrev pub ⟩close : Sym Term N
⟩close = lit (closes close)

-- where nothing stands yet a closing bracket is too soon
abbrev pub closed : Bool → List (Alt Term N) → List (Alt Term N)
closed f l = pick f (closes skip ⇒ [] ∣ l) l

-- 'A cell: CELLTYPE with a string; INSTANCE with a path, nothing (the top level) or *; then any number of DELAY and TIMINGCHECK sections'
abbrev pub cell_tail : Bool → List (Sym Term N)
cell_tail d = ⟨ ∷ lit (keyword 54) ∷ lit (text ! type) ∷ ⟩ ∷ ⟨ ∷ lit (keyword 55) ∷ non (instance d) ∷ non (specs d) ∷ []

-- behind a header entry: the next one's keyword
abbrev pub next : ℕ → Bool → List (Sym Term N)
next k d = ⟩ ∷ ⟨ ∷ non (header k d) ∷ []

-- a header entry with a string: its keyword, the text's number, and the next entry's
abbrev pub text_head : ℕ → ℕ → ℕ → Bool → Alt Term N
text_head n h k d = keyword n ⇒ lit (text ! (heading h)) ∷ next k d

-- 'Header entries in this order, all but the first optional', and the first cell
abbrev pub heads : Bool → List (Alt Term N)
heads d =
    text_head 43 1 1 d ∣  -- DESIGN
    text_head 44 2 2 d ∣  -- DATE
    text_head 45 3 3 d ∣  -- VENDOR
    text_head 46 4 4 d ∣  -- PROGRAM
    text_head 47 5 5 d ∣  -- VERSION
    keyword 48 ⇒ non divider ∷ [] ∣  -- DIVIDER
    keyword 49 ⇒ non bare ∷ ⟨ ∷ non (header 7 d) ∷ [] ∣  -- VOLTAGE
    text_head 50 6 8 d ∣  -- PROCESS
    keyword 51 ⇒ non bare ∷ ⟨ ∷ non (header 9 d) ∷ [] ∣  -- TEMPERATURE
    keyword 52 ⇒ non timescale ∷ next 10 d ∣  -- TIMESCALE
    key 53 ‼ cell ⇒ cell_tail d ++ non (more d) ∷ [] ∣ []  -- CELL

-- 'a list of 1 to 6 signed values'
abbrev pub value_list : List (Sym Term N)
value_list = ⟨ ∷ non (value true) ∷ non (values 1) ∷ []

abbrev pub one_value : Bool → List (Sym Term N)
one_value s = ⟨ ∷ non (value s) ∷ ⟩close ∷ []

abbrev pub two_values : Bool → List (Sym Term N)
two_values s = ⟨ ∷ non (value s) ∷ ⟨ ∷ non (value s) ∷ ⟩close ∷ []

abbrev pub two_ends : Bool → List (Sym Term N) → List (Sym Term N)
two_ends d ss = non (end? false d) ∷ non (end? true d) ∷ ss

-- what follows each entry's keyword
abbrev pub iopath_tail : Bool → List (Sym Term N)
iopath_tail d = non (end? false d) ∷ lit (port d ! (plain true)) ∷ value_list

abbrev pub interconnect_tail : Bool → List (Sym Term N)
interconnect_tail d = lit (port d ! (plain false)) ∷ lit (port d ! (plain true)) ∷ value_list

abbrev pub port_tail : Bool → List (Sym Term N)
port_tail d = lit (port d ! (plain false)) ∷ value_list

unfoldable pub alts : N → List (Alt Term N)
alts (header k d) = drop k (heads d)
alts divider = word dividers 1 1 ‼ (divide false) ⇒ next 6 false ∣ word dividers 2 2 ‼ (divide true) ⇒ next 6 true ∣ []
alts timescale = word scales 1 3 ‼ scaled ⇒ lit (word units 1 16 ‼ unity) ∷ [] ∣ word scales 11 28 ‼ joined ⇒ [] ∣ []
alts bare = number true ! skip ⇒ non bare1 ∷ [] ∣ colon skip ⇒ non (bare2 false) ∷ [] ∣ []
alts bare1 = closes skip ⇒ [] ∣ colon skip ⇒ non (bare2 true) ∷ [] ∣ []
alts (bare2 f) = number true ! skip ⇒ lit (colon skip) ∷ non (bare3 true) ∷ [] ∣ colon skip ⇒ non (bare3 f) ∷ [] ∣ []
alts (bare3 f) = number true ! skip ⇒ ⟩ ∷ [] ∣ pick f (closes skip ⇒ [] ∣ []) []
alts (value s) = closes empty ⇒ [] ∣ number s ‼ (time s 0) ⇒ non (first s) ∷ [] ∣ colon none ⇒ non (second false s) ∷ [] ∣ []
alts (first s) = closes all ⇒ [] ∣ colon skip ⇒ non (second true s) ∷ [] ∣ []
alts (second f s) = number s ‼ (time s 1) ⇒ lit (colon skip) ∷ non (third true s) ∷ [] ∣ colon skip ⇒ non (third f s) ∷ [] ∣ []
alts (third f s) = number s ‼ (time s 2) ⇒ lit (closes whole) ∷ [] ∣ pick f (closes whole ⇒ [] ∣ []) []
alts (more d) = closes skip ⇒ [] ∣ opens ⇒ non (header 10 d) ∷ [] ∣ []
alts (instance d) = closes top ⇒ [] ∣ path d ! named ⇒ ⟩ ∷ [] ∣ this 5 ! any ⇒ ⟩ ∷ [] ∣ []
alts (specs d) = closes finish ⇒ [] ∣ opens ⇒ non (spec d) ∷ [] ∣ []
alts (spec d) =
    keyword 56 ⇒ non (deltypes false d) ∷ non (specs d) ∷ [] ∣  -- DELAY
    keyword 57 ⇒ non (checks false d) ∷ non (specs d) ∷ [] ∣ []  -- TIMINGCHECK
alts (deltypes f d) = closed f (opens ⇒ non (deltype d) ∷ [] ∣ [])
alts (deltype d) =
    keyword 58 ⇒ non (delays 65 false d) ∷ non (deltypes true d) ∷ [] ∣  -- ABSOLUTE
    keyword 59 ⇒ non (delays 73 false d) ∷ non (deltypes true d) ∷ [] ∣ []  -- INCREMENT
alts (delays g f d) = closed f (opens ⇒ non (delay g d) ∷ non (delays g true d) ∷ [] ∣ [])
alts (delay g d) =
    key 1 ‼ (entry g) ⇒ iopath_tail d ∣
    key 2 ‼ (entry g) ⇒ interconnect_tail d ∣
    key 3 ‼ (entry g) ⇒ port_tail d ∣
    key 4 ‼ (entry g) ⇒ non (device d) ∷ [] ∣ []
alts (device d) = port d ! (plain false) ⇒ value_list ∣ opens ⇒ non (value true) ∷ non (values 1) ∷ [] ∣ []
alts (checks f d) = closed f (opens ⇒ non (check d) ∷ non (checks true d) ∷ [] ∣ [])
alts (check d) =
    word keys 11 12 ‼ (entry 84) ⇒ two_ends d (one_value false) ∣  -- SETUP, HOLD
    word keys 14 15 ‼ (entry 84) ⇒ two_ends d (one_value false) ∣  -- RECOVERY, REMOVAL
    key 17 ‼ (entry 84) ⇒ two_ends d (one_value true) ∣  -- SKEW
    key 13 ‼ (entry 84) ⇒ two_ends d (two_values true) ∣  -- SETUPHOLD
    key 16 ‼ (entry 84) ⇒ two_ends d (two_values true) ∣  -- RECREM
    key 21 ‼ (entry 84) ⇒ two_ends d (two_values true) ∣  -- NOCHANGE
    key 18 ‼ (entry 84) ⇒ two_ends d (two_values false) ∣  -- BIDIRECTSKEW
    word keys 19 20 ‼ (entry 84) ⇒ non (end? false d) ∷ one_value false ∣ []  -- WIDTH, PERIOD
alts (end? i d) = port d ! (plain i) ⇒ [] ∣ opens ⇒ lit (word edges 1 8 ! (edged i)) ∷ lit (port d ! (end i)) ∷ ⟩ ∷ [] ∣ []
alts (values n) = closes close ⇒ [] ∣ pick (ltb n 6) (opens ⇒ non (value true) ∷ non (values (n + 1)) ∷ [] ∣ []) []

-- 'A file: (DELAYFILE, the header, one or more cells, )'
unfoldable pub file : List (Sym Term N)
file = ⟨ ∷ lit (keyword 41) ∷ ⟨ ∷ lit (keyword 42) ∷ lit (text ! (heading 0)) ∷ next 0 false

-- 'The incoming text is one cell'
unfoldable pub one_cell_of : Bool → List (Sym Term N)
one_cell_of d = ⟨ ∷ lit (key 53 ‼ cell) ∷ cell_tail d

-- the kind of the tokens that a class takes, and which of that kind
abbrev pub kind_of : Cls → ℕ
kind_of (this k) = k
kind_of text = 6
kind_of (word t a b) = 7
kind_of (path d) = 7
kind_of (port d) = 7
kind_of (number s) = 7

abbrev pub number_in : Table → List ℕ → ℕ
number_in keys w = key_of w
number_in scales w = scale_of w
number_in dividers w = divider_of w
number_in edges w = edge_of w
number_in units w = unit_of w

abbrev pub looks : Cls → List ℕ → Bool
looks (this k) w = true
looks text w = true
looks (word t a b) w = within a b (number_in t w)
looks (path d) w = is_path d w
looks (port d) w = is_port d w
looks (number s) w = is_number s w

abbrev pub fits : Term → Placed → Bool
fits c t = pick (eqb t.kind (kind_of c.cls)) (looks c.cls t.bytes) false
