-- What an arc of each kind can carry: one table, and its rule, proved over the whole table.
-- Assumes nothing.
use Rattle.std.specs.Prelude.{ℕ, Bool, true, false, List, [], ◌∷◌, eqb, get_or}
use Rattle.classes.specs.Choice.{pick, or, within}

pub record Facts : Type 0 where
  pub known : Bool
  -- an edge at its first end, a second end, an edge there
  pub edge : Bool
  pub second : Bool
  pub edge2 : Bool
  -- values below zero
  pub signed : Bool
  -- how many of the six rows of values
  pub rows : ℕ

abbrev pub unknown : Facts
unknown = record { known = false; edge = false; second = false; edge2 = false; signed = false; rows = 0 }

abbrev pub kind : Bool → Bool → Bool → Bool → ℕ → Facts
kind e s f g n = record { known = true; edge = e; second = s; edge2 = f; signed = g; rows = n }

-- 'Kinds: 1 IOPATH, 2 INTERCONNECT, 3 PORT, 11 to 21 SETUP, HOLD, SETUPHOLD, RECOVERY, REMOVAL, RECREM, SKEW, BIDIRECTSKEW, WIDTH, PERIOD,
-- NOCHANGE.' Each with: edge, second end, edge there, signed, rows.
unfoldable pub table : List Facts
table =
    unknown
    ∷ kind true true false true 6  -- 1 IOPATH
    ∷ kind false true false true 6  -- 2 INTERCONNECT
    ∷ kind false false false true 6  -- 3 PORT
    ∷ unknown
    ∷ unknown
    ∷ unknown
    ∷ unknown
    ∷ unknown
    ∷ unknown
    ∷ unknown
    ∷ kind true true true false 1  -- 11 SETUP
    ∷ kind true true true false 1  -- 12 HOLD
    ∷ kind true true true true 2  -- 13 SETUPHOLD
    ∷ kind true true true false 1  -- 14 RECOVERY
    ∷ kind true true true false 1  -- 15 REMOVAL
    ∷ kind true true true true 2  -- 16 RECREM
    ∷ kind true true true true 1  -- 17 SKEW
    ∷ kind true true true false 2  -- 18 BIDIRECTSKEW
    ∷ kind true false false false 1  -- 19 WIDTH
    ∷ kind true false false false 1  -- 20 PERIOD
    ∷ kind true true true true 2  -- 21 NOCHANGE
    ∷ []

unfoldable pub facts_of : ℕ → Facts
facts_of k = get_or table k unknown

unfoldable pub is_kind : ℕ → Bool
is_kind k = (facts_of k).known

unfoldable pub has_edge : ℕ → Bool
has_edge k = (facts_of k).edge

unfoldable pub has_second : ℕ → Bool
has_second k = (facts_of k).second

unfoldable pub has_edge2 : ℕ → Bool
has_edge2 k = (facts_of k).edge2

unfoldable pub is_signed : ℕ → Bool
is_signed k = (facts_of k).signed

unfoldable pub rows_of : ℕ → ℕ
rows_of k = (facts_of k).rows

-- The rules, by number.

-- an entry of a DELAY, of a TIMINGCHECK
unfoldable pub is_delay : ℕ → Bool
is_delay k = within 1 3 k

unfoldable pub is_check : ℕ → Bool
is_check k = within 11 21 k

unfoldable pub known_rule : ℕ → Bool
known_rule k = or (is_delay k) (is_check k)

-- 'Only IOPATH's first end may carry an edge.' and, in a TIMINGCHECK, 'Any end here may carry an edge.'
unfoldable pub edge_rule : ℕ → Bool
edge_rule k = or (eqb k 1) (is_check k)

-- 'PORT, WIDTH and PERIOD have second edge 0 and second length 0'
unfoldable pub second_rule : ℕ → Bool
second_rule k = pick (eqb k 3) false (pick (eqb k 19) false (pick (eqb k 20) false (is_kind k)))

unfoldable pub edge2_rule : ℕ → Bool
edge2_rule k = pick (eqb k 19) false (pick (eqb k 20) false (is_check k))

-- 'a list of 1 to 6 signed values'; 'SKEW (two ends, one signed); SETUPHOLD, RECREM, NOCHANGE (two ends, two signed)'
unfoldable pub signed_rule : ℕ → Bool
signed_rule k = or (is_delay k) (or (eqb k 13) (or (eqb k 16) (or (eqb k 17) (eqb k 21))))

-- 'Checks use row 1, two-value checks rows 1 and 2'
unfoldable pub rows_rule : ℕ → ℕ
rows_rule k =
    pick (is_delay k) 6
    (pick (eqb k 13) 2 (pick (eqb k 16) 2 (pick (eqb k 18) 2 (pick (eqb k 21) 2 (pick (is_check k) 1 0)))))

abbrev pub rule_of : ℕ → Facts
rule_of k =
    record {
      known = known_rule k;
      edge = edge_rule k;
      second = second_rule k;
      edge2 = edge2_rule k;
      signed = signed_rule k;
      rows = rows_rule k;
    }
