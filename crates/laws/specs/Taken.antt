-- The words in which the laws speak of a text: what it is read as, its tokens with the terminals that take them, the time scale in force,
-- the keywords of its cells and entries; and what may be amiss with a token that the grammar takes (refusals 6 to 9).
-- Assumes nothing.
use Rattle.std.specs.Prelude.{◌≡◌, refl, Bool, true, false, List, [], ◌∷◌, ◌++◌, ℕ, ◌+◌, ◌-◌, ◌≤◌, ℤ, length, Ok, Err}
use Rattle.classes.specs.Choice.{pick}
use Rattle.tokens.specs.Stream.{Placed}
use Rattle.words.specs.Words.{scale_of, unit_of}
use Rattle.numbershape.specs.Value.{number_of}
use Rattle.numbershape.specs.declared.NotTime.TheVariants.{Fine, Beyond}
use Rattle.grammar.specs.Ll.{Derives}
use Rattle.grammar.specs.Machine.{Res, judges}
use Rattle.grammar.specs.Grammar.{Act, note, divide, scaled, unity, joined, cell, entry, time, Term, alts, fits, file, one_cell_of}
use Rattle.grammar.specs.Meaning.{Book, overlong, judge, wrong}
use Rattle.grammar.specs.Reading.{At, reading}
use Rattle.grammar.specs.Outcome.{Stack, state, no_log, within-limit, read_file, read_cell_of}

-- what a text is read as: what it has to be, with which divider and time scale, and with room for so many cells and entries
pub record As : Type 0 where
  pub start : Stack
  pub slash : Bool
  pub unit : ℕ
  pub cell_room : ℕ
  pub item_room : ℕ

abbrev pub as_file : ℕ → ℕ → As
as_file cr ir = record { start = file; slash = false; unit = 6; cell_room = cr; item_room = ir }

abbrev pub as_cell : Bool → ℕ → ℕ → ℕ → As
as_cell slash unit cr ir = record { start = one_cell_of slash; slash = slash; unit = unit; cell_room = cr; item_room = ir }

-- before the first token
abbrev pub starting : As → At
starting a = state a.start false a.slash a.unit a.cell_room a.item_room no_log

abbrev pub read_as_of : As → List ℕ → Res At
read_as_of a s = within-limit s (reading s (starting a) 0)

-- the definitions that the reader's contracts cite
pub file-is : (cr ir : ℕ) (s : List ℕ) → read_file cr ir s ≡ read_as_of (as_file cr ir) s
unfolding read_file
file-is cr ir s = refl

pub cell-is : (slash : Bool) (unit cr ir : ℕ) (s : List ℕ) → read_cell_of slash unit cr ir s ≡ read_as_of (as_cell slash unit cr ir) s
unfolding read_cell_of
cell-is slash unit cr ir s = refl

-- a token, and the terminal of the grammar that takes it
pub record Taken : Type 0 where
  pub by : Term
  pub tok : Placed

abbrev pub terms : List Taken → List Term
terms [] = []
terms (x ∷ xs) = x.by ∷ terms xs

abbrev pub toks : List Taken → List Placed
toks [] = []
toks (x ∷ xs) = x.tok ∷ toks xs

-- these tokens, so taken, are a carried file (or cell)
abbrev pub Carried : Stack → List Taken → Type 0
Carried ss xs = Derives fits alts ss (toks xs) (terms xs)

-- what the tokens say, from what is known before them on: the definition's own judgment, token by token
abbrev pub tells : Book → List Taken → Res Book
tells b xs = judges fits alts judge wrong (λ t. t.start) b (terms xs) (toks xs)

-- a property of every token and the tokens before it
abbrev pub Every : (List Taken → Taken → Type 0) → List Taken → Type 0
Every P xs = (before after : List Taken) (x : Taken) → xs ≡ before ++ x ∷ after → P before x

-- 'TIMESCALE takes 1, 10, 100, 1.0, 10.0 or 100.0 with s, ms, us, ns, ps or fs, spaced or not': the scale behind a token is 10 ^ this
abbrev pub rescaled : Act → Placed → ℕ → ℕ
rescaled (note n) t u = u
rescaled (divide d) t u = u
rescaled scaled t u = scale_of t.bytes - 1
rescaled unity t u = u + (unit_of t.bytes - 1)
rescaled joined t u = scale_of t.bytes - 11
rescaled cell t u = u
rescaled (entry g) t u = u
rescaled (time s k) t u = u

-- and behind some tokens
abbrev pub scale_behind : ℕ → List Taken → ℕ
scale_behind u [] = u
scale_behind u (x ∷ xs) = scale_behind (rescaled x.by.act x.tok u) xs

abbrev pub opens_cell : Act → Bool
opens_cell (note n) = false
opens_cell (divide d) = false
opens_cell scaled = false
opens_cell unity = false
opens_cell joined = false
opens_cell cell = true
opens_cell (entry g) = false
opens_cell (time s k) = false

abbrev pub opens_entry : Act → Bool
opens_entry (note n) = false
opens_entry (divide d) = false
opens_entry scaled = false
opens_entry unity = false
opens_entry joined = false
opens_entry cell = false
opens_entry (entry g) = true
opens_entry (time s k) = false

-- of the tokens, those with such an action
abbrev pub those : (Act → Bool) → List Taken → List Placed
those f [] = []
those f (x ∷ xs) = pick (f x.by.act) (x.tok ∷ those f xs) (those f xs)

-- the keywords of the cells and of the entries, in file order
abbrev pub cell_words : List Taken → List Placed
cell_words xs = those opens_cell xs

abbrev pub entry_words : List Taken → List Placed
entry_words xs = those opens_entry xs

-- 'A time is the exact product in femtoseconds: whole, and at most 10^15 either way.' Here with a scale of 10 ^ u
abbrev pub Timely : ℕ → Taken → Type 0
Timely u x = (s : Bool) (k : ℕ) → x.by.act ≡ time s k → (z : ℤ) × (number_of s u x.tok.bytes ≡ Ok z)

-- no 'word or string content over 1,024 bytes as written'
abbrev pub Short : Taken → Type 0
Short x = overlong x.by.cls x.tok ≡ false

-- WHAT MAY BE AMISS with a token x that the grammar takes, behind such tokens: the number of the refusal
pub data Amiss (unit cell_room item_room : ℕ) (before : List Taken) (x : Taken) : ℕ → Type 0 where
  -- 6: 'time not a whole femtosecond'
  broken : (s : Bool) (k : ℕ) → x.by.act ≡ time s k → number_of s (scale_behind unit before) x.tok.bytes ≡ Err Fine →
      Amiss unit cell_room item_room before x 6
  -- 7: 'whole, but beyond 10^15'
  beyond : (s : Bool) (k : ℕ) → x.by.act ≡ time s k → number_of s (scale_behind unit before) x.tok.bytes ≡ Err Beyond →
      Amiss unit cell_room item_room before x 7
  -- 8: 'word or string content over 1,024 bytes as written'
  long : overlong x.by.cls x.tok ≡ true → Amiss unit cell_room item_room before x 8
  -- 9: 'no room for this cell or entry'
  no_cell : opens_cell x.by.act ≡ true → cell_room ≤ length (cell_words before) → Amiss unit cell_room item_room before x 9
  no_entry : opens_entry x.by.act ≡ true → item_room ≤ length (entry_words before) → Amiss unit cell_room item_room before x 9
