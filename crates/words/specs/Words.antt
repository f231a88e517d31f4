-- Which word is which: tables of words with their numbers, as document 01 lists them
-- ('Keywords are upper case, edges and units lower case').
-- Assumes nothing.
use Rattle.std.specs.Prelude.{Bool, true, false, List, [], ◌∷◌, ◌++◌, map, ℕ, ◌+◌, eqb}
use Prim.Native.String.{String}
use Rattle.classes.specs.Text.{bytes}
use Rattle.classes.specs.Choice.{pick, and}

-- a word of a table and the number beside it
pub record Key : Type 0 where
  pub word : List ℕ
  pub number : ℕ

infix 70 ◌is◌
abbrev pub ◌is◌ : String → ℕ → Key
w is n = record { word = bytes w; number = n }

-- whether two words are the same, byte by byte
abbrev pub same : List ℕ → List ℕ → Bool
same [] [] = true
same [] (y ∷ ys) = false
same (x ∷ xs) [] = false
same (x ∷ xs) (y ∷ ys) = and (eqb x y) (same xs ys)

-- the number beside a word in a table, or 0
abbrev pub find : List Key → List ℕ → ℕ
find [] w = 0
find (k ∷ ks) w = pick (same w k.word) k.number (find ks w)

-- 'IOPATH, INTERCONNECT, PORT or DEVICE', by the sheet's kinds ('1 IOPATH, 2 INTERCONNECT, 3 PORT'); 4 is DEVICE, which no sheet has
abbrev pub delays : List Key
delays = "IOPATH" is 1 ∷ "INTERCONNECT" is 2 ∷ "PORT" is 3 ∷ "DEVICE" is 4 ∷ []

-- '11 to 21 SETUP, HOLD, SETUPHOLD, RECOVERY, REMOVAL, RECREM, SKEW, BIDIRECTSKEW, WIDTH, PERIOD, NOCHANGE'
abbrev pub checks : List Key
checks =
    "SETUP" is 11 ∷ "HOLD" is 12 ∷ "SETUPHOLD" is 13 ∷ "RECOVERY" is 14 ∷ "REMOVAL" is 15 ∷ "RECREM" is 16
    ∷ "SKEW" is 17 ∷ "BIDIRECTSKEW" is 18 ∷ "WIDTH" is 19 ∷ "PERIOD" is 20 ∷ "NOCHANGE" is 21 ∷ []

-- 'A file: (DELAYFILE, the header ..'; 'Header entries in this order .. SDFVERSION, DESIGN, DATE, VENDOR, PROGRAM, VERSION, DIVIDER,
-- VOLTAGE, PROCESS, TEMPERATURE, TIMESCALE'
abbrev pub heads : List Key
heads =
    "DELAYFILE" is 41 ∷ "SDFVERSION" is 42 ∷ "DESIGN" is 43 ∷ "DATE" is 44 ∷ "VENDOR" is 45 ∷ "PROGRAM" is 46 ∷ "VERSION" is 47
    ∷ "DIVIDER" is 48 ∷ "VOLTAGE" is 49 ∷ "PROCESS" is 50 ∷ "TEMPERATURE" is 51 ∷ "TIMESCALE" is 52 ∷ []

-- 'A cell: CELLTYPE with a string; INSTANCE ..; then any number of DELAY and TIMINGCHECK sections'; 'ABSOLUTE and INCREMENT groups'
abbrev pub parts : List Key
parts =
    "CELL" is 53 ∷ "CELLTYPE" is 54 ∷ "INSTANCE" is 55 ∷ "DELAY" is 56 ∷ "TIMINGCHECK" is 57 ∷ "ABSOLUTE" is 58 ∷ "INCREMENT" is 59 ∷ []

-- 'Not carried yet: COND, CONDELSE, SCOND, CCOND, RETAIN, PATHPULSE, PATHPULSEPERCENT, NETDELAY, TIMINGENV, LABEL'
abbrev pub not_carried : List Key
not_carried =
    "COND" is 90 ∷ "CONDELSE" is 91 ∷ "SCOND" is 92 ∷ "CCOND" is 93 ∷ "RETAIN" is 94 ∷ "PATHPULSE" is 95
    ∷ "PATHPULSEPERCENT" is 96 ∷ "NETDELAY" is 97 ∷ "TIMINGENV" is 98 ∷ "LABEL" is 99 ∷ []

-- every word that means something after a '('
abbrev pub keywords : List Key
keywords = delays ++ checks ++ heads ++ parts ++ not_carried

-- 'posedge, negedge, 01, 10, 0z, z1, 1z, z0'; 'Edges: 0 none, then 1 to 8 as listed above'
abbrev pub edges : List Key
edges = "posedge" is 1 ∷ "negedge" is 2 ∷ "01" is 3 ∷ "10" is 4 ∷ "0z" is 5 ∷ "z1" is 6 ∷ "1z" is 7 ∷ "z0" is 8 ∷ []

-- 's, ms, us, ns, ps or fs': n stands for 10 ^ (n - 1) femtoseconds
abbrev pub units : List Key
units = "fs" is 1 ∷ "ps" is 4 ∷ "ns" is 7 ∷ "us" is 10 ∷ "ms" is 13 ∷ "s" is 16 ∷ []

-- '1, 10, 100, 1.0, 10.0 or 100.0': n stands for 10 ^ (n - 1)
abbrev pub multiples : List Key
multiples = "1" is 1 ∷ "10" is 2 ∷ "100" is 3 ∷ "1.0" is 1 ∷ "10.0" is 2 ∷ "100.0" is 3 ∷ []

-- a multiple and a unit in one word: 10 ^ (m - 1) of 10 ^ (n - 1) femtoseconds are 10 ^ (m + n - 2), written as m + n + 9
abbrev pub with_unit : Key → Key → Key
with_unit u m = record { word = m.word ++ u.word; number = m.number + u.number + 9 }

-- each multiple with each unit
abbrev pub joined : List Key → List Key → List Key
joined ms [] = []
joined ms (u ∷ us) = map (with_unit u) ms ++ joined ms us

-- the first word of a TIMESCALE ('spaced or not'): 1 to 3, a multiple, whose unit is the next word;
-- from 11 on, both in one, 10 ^ (n - 11) femtoseconds
abbrev pub scales : List Key
scales = multiples ++ joined multiples units

-- 'DIVIDER takes . or /'
abbrev pub dividers : List Key
dividers = "." is 1 ∷ "/" is 2 ∷ []

-- the number of a word of each kind, 0 for any other word
unfoldable pub key_of : List ℕ → ℕ
key_of w = find keywords w

unfoldable pub edge_of : List ℕ → ℕ
edge_of w = find edges w

unfoldable pub unit_of : List ℕ → ℕ
unit_of w = find units w

unfoldable pub multiple_of : List ℕ → ℕ
multiple_of w = find multiples w

unfoldable pub scale_of : List ℕ → ℕ
scale_of w = find scales w

unfoldable pub divider_of : List ℕ → ℕ
divider_of w = find dividers w
