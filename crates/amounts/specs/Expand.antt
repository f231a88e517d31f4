-- The expanded list of words, against what the history of a slot is given by an entry's values.
-- Assumes nothing.
use Rattle.std.specs.Prelude.{◌≡◌, ℕ, zero, suc, ◌+◌, ◌*◌, ◌/◌, ◌%◌, ◌<◌, ◌≤◌, Bool, true, false, List, [], ◌∷◌, map, length, get_or, ℤ, slice_index, slice_index_or, unsigned_abs, Some, None}
use Rattle.std.specs.Prelude as supplied
use Rattle.std.proofs.Math.Path.{refl}
use Rattle.std.proofs.Common.{◌∙◌, ne_eqb}
use Rattle.std.proofs.Math.Option.{Option, none, some}
use native.Mathlib.Omega.{arith}
use Rattle.std.proofs.lemmas.Bool.{lt-leb}
use Rattle.grammar.specs.declared.Value.{Value}
use Rattle.grammar.specs.Meaning.{nothing}
use Rattle.tables.specs.Layout.{amount_word, value_words, values_row}
use Rattle.history.specs.Events.{limit}
use Rattle.history.specs.Ranges.{InRange}
use Rattle.history.specs.Sheet.{Group, absolute, increment, check, Row, r01, r10, r0z, rz1, r1z, rz0, Corner, minimum, typical, maximum, Triple, blank, nth, by_row_of, delay_rows, check_rows, rows, amount}
use Rattle.slots.specs.Slots.{numeral, word_of, slot_at}
use Rattle.amounts.specs.Amounts.{given, delay_choice, choice, value_row, expanded}

-- 'each of the three numbers is supplied or absent'
unfoldable pub amount_of : supplied.Option ℤ → Option ℤ
amount_of None = none
amount_of (Some z) = some z

unfoldable pub triple_of : Value → Triple
triple_of v = record { low = amount_of v.min; middle = amount_of v.typ; high = amount_of v.max }

unfoldable pub is_check : Group → Bool
is_check absolute = false
is_check increment = false
is_check check = true

-- the words of a row
abbrev row_words : Triple → List ℕ
row_words t = word_of t.low ∷ word_of t.middle ∷ word_of t.high ∷ []

-- 1. A value in a table and its words

amount_word_lem : (a : supplied.Option ℤ) → amount_word a ≡ word_of (amount_of a)
unfolding amount_of word_of numeral
amount_word_lem None = refl
amount_word_lem (Some z) = refl

value_words_lem : (v : Value) → value_words v ≡ row_words (triple_of v)
unfolding triple_of
value_words_lem v = rw (amount_word_lem v.min, amount_word_lem v.typ, amount_word_lem v.max)

-- value k, or none where there is none
nth_words : (vs : List Value) (k : ℕ) → value_words (slice_index_or vs k nothing) ≡ row_words (nth (map triple_of vs) k)
unfolding nth word_of numeral
nth_words [] k = refl
nth_words (v ∷ vs) zero = value_words_lem v
nth_words (v ∷ vs) (suc k) = nth_words vs k

-- where the words of value k stand
words_at : (vs : List Value) (k : ℕ) → k < 6
    → (slice_index (values_row vs 6) (3 * k) ≡ amount_word (get_or vs k nothing).min) × (slice_index (values_row vs 6) (3 * k + 1) ≡ amount_word (get_or vs k nothing).typ)
    × (slice_index (values_row vs 6) (3 * k + 2) ≡ amount_word (get_or vs k nothing).max)
unfolding values_row
words_at vs zero h = (refl, refl, refl)
words_at vs (suc zero) h = (refl, refl, refl)
words_at vs (suc (suc zero)) h = (refl, refl, refl)
words_at vs (suc (suc (suc zero))) h = (refl, refl, refl)
words_at vs (suc (suc (suc (suc zero)))) h = (refl, refl, refl)
words_at vs (suc (suc (suc (suc (suc zero))))) h = (refl, refl, refl)
words_at vs (suc (suc (suc (suc (suc (suc k)))))) h = absurd (omega arith)

-- 2. The rows

abbrev every_row : List Row
every_row = r01 ∷ r10 ∷ r0z ∷ rz1 ∷ r1z ∷ rz0 ∷ []

module _ (t : List ℕ) (at : ℕ) (vs : List Value) (stand : (i : ℕ) → i < 18 → slice_index t (at + i) ≡ slice_index (values_row vs 6) i) where
  row_is : (k : ℕ) → k < 6 → value_row t at k ≡ row_words (nth (map triple_of vs) k)
  unfolding value_row
  row_is k h =
      let w = words_at vs k h in
      let one : at + 3 * k + 1 ≡ at + (3 * k + 1) = omega arith in
      let two : at + 3 * k + 2 ≡ at + (3 * k + 2) = omega arith in
      let a = stand (3 * k) (omega arith) ∙ w.0 in
      let b = stand (3 * k + 1) (omega arith) ∙ w.1 in
      let c = stand (3 * k + 2) (omega arith) ∙ w.2 in
      rw (lt-leb 6 k h, one, two, a, b, c) (nth_words vs k)

  no_row : value_row t at 6 ≡ row_words blank
  unfolding value_row word_of numeral
  no_row = refl

  check_rows_lem : map (value_row t at) (0 ∷ 1 ∷ 6 ∷ 6 ∷ 6 ∷ 6 ∷ []) ≡ map (λ r. row_words (check_rows (map triple_of vs) r)) every_row
  unfolding check_rows by_row_of
  check_rows_lem = rw (row_is 0 (omega arith), row_is 1 (omega arith), no_row)

-- four values or more
many : (n : ℕ) → delay_choice (suc (suc (suc (suc n)))) ≡ 0 ∷ 1 ∷ 2 ∷ 3 ∷ 4 ∷ 5 ∷ []
unfolding delay_choice
many n =
    let m = suc (suc (suc (suc n))) in
    rw (ne_eqb m 1 (λ e. omega arith), ne_eqb m 2 (λ e. omega arith), ne_eqb m 3 (λ e. omega arith))

-- by how many values there are
delay_rows_lem : (t : List ℕ) (at : ℕ) (vs : List Value) → ((i : ℕ) → i < 18 → slice_index t (at + i) ≡ slice_index (values_row vs 6) i)
    → map (value_row t at) (delay_choice (length vs)) ≡ map (λ r. row_words (delay_rows (map triple_of vs) r)) every_row
unfolding delay_choice delay_rows by_row_of nth
delay_rows_lem t at [] s =
    let f = row_is t at [] s in
    rw (f 0 (omega arith), f 1 (omega arith), f 2 (omega arith), f 3 (omega arith), f 4 (omega arith), f 5 (omega arith))
delay_rows_lem t at (a ∷ []) s = rw (row_is t at (a ∷ []) s 0 (omega arith))
delay_rows_lem t at (a ∷ b ∷ []) s =
    let f = row_is t at (a ∷ b ∷ []) s in
    rw (f 0 (omega arith), f 1 (omega arith))
delay_rows_lem t at (a ∷ b ∷ c ∷ []) s =
    let f = row_is t at (a ∷ b ∷ c ∷ []) s in
    rw (f 0 (omega arith), f 1 (omega arith), f 2 (omega arith))
delay_rows_lem t at (a ∷ b ∷ c ∷ d ∷ more) s =
    let f = row_is t at (a ∷ b ∷ c ∷ d ∷ more) s in
    rw (many (length more), f 0 (omega arith), f 1 (omega arith), f 2 (omega arith), f 3 (omega arith), f 4 (omega arith), f 5 (omega arith))

all-rows : (t : List ℕ) (at : ℕ) (g : Group) (vs : List Value) → ((i : ℕ) → i < 18 → slice_index t (at + i) ≡ slice_index (values_row vs 6) i)
    → expanded t at (is_check g) (length vs) ≡ map (λ r. row_words (rows g (map triple_of vs) r)) every_row
unfolding expanded choice is_check rows
all-rows t at absolute vs s = delay_rows_lem t at vs s
all-rows t at increment vs s = delay_rows_lem t at vs s
all-rows t at check vs s = check_rows_lem t at vs s

-- 3. One slot

row_of : (f : Row → Triple) (q : ℕ) → q < 6 → slice_index_or (map (λ r. row_words (f r)) every_row) q [] ≡ row_words (f (slice_index_or every_row q rz0))
row_of f zero h = refl
row_of f (suc zero) h = refl
row_of f (suc (suc zero)) h = refl
row_of f (suc (suc (suc zero))) h = refl
row_of f (suc (suc (suc (suc zero)))) h = refl
row_of f (suc (suc (suc (suc (suc zero))))) h = refl
row_of f (suc (suc (suc (suc (suc (suc q)))))) h = absurd (omega arith)

set_of : (t : Triple) (r : ℕ) → r < 3 → slice_index (row_words t) r ≡ word_of (amount t (slice_index_or (minimum ∷ typical ∷ maximum ∷ []) r maximum))
unfolding amount
set_of t zero h = refl
set_of t (suc zero) h = refl
set_of t (suc (suc zero)) h = refl
set_of t (suc (suc (suc r))) h = absurd (omega arith)

-- what slot i is given, where the six values of an entry stand in a table
pub expanded-is : (t : List ℕ) (at : ℕ) (g : Group) (vs : List Value) → ((i : ℕ) → i < 18 → slice_index t (at + i) ≡ slice_index (values_row vs 6) i)
    → (i : ℕ) → i < 18 → given (expanded t at (is_check g) (length vs)) i ≡ word_of (amount (rows g (map triple_of vs) (slot_at 0 i).row) (slot_at 0 i).corner)
unfolding given slot_at
expanded-is t at g vs s i h =
    rw (all-rows t at g vs s, row_of (rows g (map triple_of vs)) (i / 3) (omega arith))
    (set_of (rows g (map triple_of vs) (slice_index_or every_row (i / 3) rz0)) (i % 3) (omega arith))

-- 4. Numbers stay in range

-- 'at most 10^15 either way'
abbrev pub InTime : supplied.Option ℤ → Type 0
InTime None = Unit {0}
InTime (Some z) = unsigned_abs z ≤ limit

-- of each value
abbrev pub Timely : List Value → Type 0
Timely [] = Unit {0}
Timely (v ∷ vs) = (InTime v.min × InTime v.typ × InTime v.max) × Timely vs

record Ranged (t : Triple) : Type 0 where
  low : InRange t.low
  middle : InRange t.middle
  high : InRange t.high

amount_ranged : (a : supplied.Option ℤ) → InTime a → InRange (amount_of a)
unfolding amount_of
amount_ranged None h = h
amount_ranged (Some z) h = h

value_ranged : (v : Value) → InTime v.min → InTime v.typ → InTime v.max → Ranged (triple_of v)
unfolding triple_of
value_ranged v a b c = record { low = amount_ranged v.min a; middle = amount_ranged v.typ b; high = amount_ranged v.max c }

blank_ranged : Ranged blank
blank_ranged = record { low = tt; middle = tt; high = tt }

nth_ranged : (vs : List Value) → Timely vs → (k : ℕ) → Ranged (nth (map triple_of vs) k)
unfolding nth
nth_ranged [] h k = blank_ranged
nth_ranged (v ∷ vs) h zero = value_ranged v h.0.0 h.0.1 h.0.2
nth_ranged (v ∷ vs) h (suc k) = nth_ranged vs h.1 k

by_row : {a b c d e f : Triple} → Ranged a → Ranged b → Ranged c → Ranged d → Ranged e → Ranged f → (r : Row) → Ranged (by_row_of a b c d e f r)
unfolding by_row_of
by_row a b c d e f r01 = a
by_row a b c d e f r10 = b
by_row a b c d e f r0z = c
by_row a b c d e f rz1 = d
by_row a b c d e f r1z = e
by_row a b c d e f rz0 = f

delay_ranged : (vs : List Value) → Timely vs → (r : Row) → Ranged (delay_rows (map triple_of vs) r)
unfolding delay_rows nth
delay_ranged [] h = by_row blank_ranged blank_ranged blank_ranged blank_ranged blank_ranged blank_ranged
delay_ranged (a ∷ []) h =
    let x = nth_ranged (a ∷ []) h 0 in
    by_row x x x x x x
delay_ranged (a ∷ b ∷ []) h =
    let x = nth_ranged (a ∷ b ∷ []) h in
    by_row (x 0) (x 1) (x 0) (x 0) (x 1) (x 1)
delay_ranged (a ∷ b ∷ c ∷ []) h =
    let x = nth_ranged (a ∷ b ∷ c ∷ []) h in
    by_row (x 0) (x 1) (x 2) (x 0) (x 2) (x 1)
delay_ranged (a ∷ b ∷ c ∷ d ∷ more) h =
    let x = nth_ranged (a ∷ b ∷ c ∷ d ∷ more) h in
    by_row (x 0) (x 1) (x 2) (x 3) (x 4) (x 5)

rows_ranged : (g : Group) (vs : List Value) → Timely vs → (r : Row) → Ranged (rows g (map triple_of vs) r)
unfolding rows check_rows
rows_ranged absolute vs h r = delay_ranged vs h r
rows_ranged increment vs h r = delay_ranged vs h r
rows_ranged check vs h r = by_row (nth_ranged vs h 0) (nth_ranged vs h 1) blank_ranged blank_ranged blank_ranged blank_ranged r

-- what an entry supplies to a slot is within the limit
pub amount_in_range : (g : Group) (vs : List Value) → Timely vs → (r : Row) (c : Corner) → InRange (amount (rows g (map triple_of vs) r) c)
unfolding amount
amount_in_range g vs h r minimum = (rows_ranged g vs h r).low
amount_in_range g vs h r typical = (rows_ranged g vs h r).middle
amount_in_range g vs h r maximum = (rows_ranged g vs h r).high
