-- 'group (A, I or T)': whatever the grammar still waits for, each entry's group is a byte. One more test of the table, computed.
-- Assumes nothing.
use Rattle.std.specs.Prelude.{◌≡◌, refl, Bool, true, false, [], ◌∷◌, ◌+◌, ltb}
use Rattle.std.proofs.Math.Option.{some}
use Rattle.classes.specs.Choice.{pick}
use Rattle.tokens.specs.Stream.{Placed}
use Rattle.grammar.specs.Ll.{non, Took, feed}
use Rattle.grammar.specs.Grammar.{
  Act,
  note,
  divide,
  scaled,
  unity,
  joined,
  cell,
  entry,
  time,
  Term,
  N,
  header,
  timescale,
  bare,
  bare1,
  bare2,
  bare3,
  value,
  first,
  second,
  third,
  more,
  instance,
  specs,
  spec,
  deltype,
  deltypes,
  checks,
  delays,
  delay,
  device,
  check,
  end?,
  values,
  ◌⇒◌,
  ◌∣◌,
  opens,
  closes,
  close,
  heads,
  alts,
  fits,
  file,
  one_cell_of,
}
use Rattle.grammar.specs.Grammar as G
use Rattle.grammar.specs.Outcome.{Stack}
use Rattle.laws.specs.Sides.{Whole, a_file, a_cell}
use Rattle.sound.specs.Coming.{passes, agree, agree-drop, taken-passes}

-- an entry's group is a byte
abbrev pub grouped : Act → Bool
grouped (note n) = true
grouped (divide d) = true
grouped scaled = true
grouped unity = true
grouped joined = true
grouped cell = true
grouped (entry g) = ltb g 256
grouped (time s k) = true

-- and that of every entry that may come at a place
abbrev groups : N → Bool
groups (header k d) = true
groups G.divider = true
groups timescale = true
groups bare = true
groups bare1 = true
groups (bare2 f) = true
groups (bare3 f) = true
groups (value s) = true
groups (first s) = true
groups (second f s) = true
groups (third f s) = true
groups (more d) = true
groups (instance d) = true
groups (specs d) = true
groups (spec d) = true
groups (deltype d) = true
groups (deltypes f d) = true
groups (checks f d) = true
groups (delays g f d) = ltb g 256
groups (delay g d) = ltb g 256
groups (device d) = true
groups (check d) = true
groups (end? i d) = true
groups (values n) = true

-- of all that is still to come
abbrev pub all_grouped : Stack → Bool
all_grouped ss = passes grouped groups ss

-- THE TEST: each alternative of a place that may come
table : (n : N) → groups n ≡ true → agree grouped groups (alts n) ≡ true
unfolding alts
table (header k d) e = agree-drop grouped groups k (heads d) refl
table G.divider e = refl
table timescale e = refl
table bare e = refl
table bare1 e = refl
table (bare2 f) e = refl
table (bare3 true) e = refl
table (bare3 false) e = refl
table (value s) e = refl
table (first s) e = refl
table (second f s) e = refl
table (third true s) e = refl
table (third false s) e = refl
table (more d) e = refl
table (instance d) e = refl
table (specs d) e = refl
table (spec d) e = refl
table (deltype d) e = refl
table (deltypes true d) e = refl
table (deltypes false d) e = refl
table (checks true d) e = refl
table (checks false d) e = refl
table (delays g true d) e = rw e
table (delays g false d) e = rw e
table (delay g d) e = rw e
table (device d) e = refl
table (check d) e = refl
table (end? i d) e = refl
table (values n) e = by (ltb n 6)
  where
    by : (v : Bool) → agree grouped groups (closes close ⇒ [] ∣ (pick v (opens ⇒ non (value true) ∷ non (values (n + 1)) ∷ [] ∣ []) [])) ≡ true
    by true = refl
    by false = refl

pub whole-grouped : {ss : Stack} → Whole ss → all_grouped ss ≡ true
unfolding file one_cell_of
whole-grouped a_file = refl
whole-grouped (a_cell d) = refl

-- a token is taken by a terminal whose group is a byte, and so is what is still to come
pub taken-grouped : (ss : Stack) (t : Placed) (w : Took Term N) → all_grouped ss ≡ true → feed fits alts ss t ≡ some w →
    (grouped w.by.act ≡ true) × (all_grouped w.left ≡ true)
taken-grouped ss t w g e = taken-passes grouped groups table ss t w g e
