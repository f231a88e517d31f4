-- How far runs of bytes go: those of a word, and white space.
-- Assumes nothing.
use Rattle.std.specs.Prelude.{ℕ, ◌+◌, ◌≤◌, ◌<◌, ◌≡◌, Bool, List, length, get_or, drop}
use Rattle.classes.specs.Choice.{pick, and}
use Rattle.classes.specs.Classes.{is, class_of}
use Rattle.scanning.specs.Scan.{scan_len}
use Rattle.scanning.specs.Machines.{commences, word_halts, word_goes, blank_end, blank_at}
use Rattle.scanning.specs.declared.Skipped.{Skipped}

-- where a word ends that is at i in the state q
abbrev pub word_from : ℕ → List ℕ → ℕ → ℕ
word_from q s i = i + scan_len word_halts word_goes q (drop i s)

-- from p up to r there is white space; at r no more follows
pub record WhiteTo (s : List ℕ) (p r : ℕ) : Type 0 where
  pub on : p ≤ r
  pub fits : r ≤ length s
  pub ends : blank_end s r ≡ blank_end s p
  pub state : blank_at s r ≡ blank_at s p
  pub stop : r < length s → class_of (get_or s r 0) ≡ 1 → ⊥

-- white space and comments from p on end where r says, and in which state
pub record SkippedTo (s : List ℕ) (p : ℕ) (r : Skipped) : Type 0 where
  pub ends : r.place ≡ blank_end s p
  pub state : r.blank ≡ blank_at s p
  pub counted : r.blank.since ≤ r.place
  pub fits : r.place ≤ length s

-- '// .. and /* .. start a comment'
abbrev pub commented : List ℕ → ℕ → Bool
commented s i = and (is "/" (get_or s i 0)) (commences (get_or s (i + 1) 0))

-- the state of a word inside brackets and outside
abbrev pub state_of : Bool → ℕ
state_of inside = pick inside 1 0

-- ': belongs to it only after an unescaped [, up to the next unescaped ]': 1 behind [, 0 behind ]
abbrev pub bracketed : ℕ → ℕ → ℕ
bracketed q c = pick (is "[" c) 1 (pick (is "]" c) 0 q)

-- 'A backslash takes the next byte .. into the word'
abbrev pub width_of : ℕ → ℕ
width_of c = pick (is "\\" c) 2 1
