-- When each of the refusals 1 to 9 of document 01 holds of a text, and at which place.
-- Assumes nothing.
use Rattle.std.specs.Prelude.{◌≡◌, List, [], ◌∷◌, ◌++◌, ◌⊎◌, ℕ, ◌≤◌, ◌<◌, length}
use Rattle.tokens.specs.Stream.{Placed, stream}
use Rattle.words.specs.Words.{find, not_carried}
use Rattle.grammar.specs.Ll.{Derives}
use Rattle.grammar.specs.Grammar.{Term, alts, fits}
use Rattle.grammar.specs.Outcome.{text_limit}
use Rattle.laws.specs.Sides.{Begins}
use Rattle.laws.specs.Bytes.{Illegal, Bare}
use Rattle.laws.specs.Taken.{As, Taken, toks, Carried, Amiss}

-- 'the token is a word from the "not carried" list right after ('
pub record Listed (before : List Placed) (t : Placed) : Type 0 where
  pub earlier : List Placed
  pub bracket : Placed
  pub right_after : before ≡ earlier ++ bracket ∷ []
  pub opening : bracket.kind ≡ 2
  pub a_word_of : t.kind ≡ 7
  pub on_list : 1 ≤ find not_carried t.bytes

-- the text's tokens up to x begin some carried file (or cell), and are taken so
pub record There (a : As) (s : List ℕ) (before : List Taken) (x : Taken) : Type 0 where
  pub rest : List Placed
  pub tokens : (stream s 0).toks ≡ toks before ++ x.tok ∷ rest
  pub after : List Taken
  pub carried : Carried a.start (before ++ x ∷ after)

-- WHEN A REFUSAL HOLDS of a text, by its number and its place; 'some carried file' is one with any times, lengths and rooms
pub data Holds (a : As) (s : List ℕ) : ℕ → ℕ → Type 0 where
  -- 1, at 0: 'text longer than 16,777,216 bytes'
  too_large : text_limit < length s → Holds a s 1 0
  -- 2, at that byte: 'illegal byte'
  illegal : (q : ℕ) → Illegal s q → Holds a s 2 q
  -- 2, at that byte: 'or, outside strings, comments and escapes', so where the tokens end, 'a backslash without a byte 0x21 to 0x7E after it'
  bare_slash : (stream s 0).number ≡ 2 → Bare s (stream s 0).place → Holds a s 2 (stream s 0).place
  -- 3, at its opening, where the tokens end: 'comment or string never closed'
  unclosed : (stream s 0).number ≡ 3 → Holds a s 3 (stream s 0).place
  -- 4, at the token: 'the tokens before begin some carried file, with this one none does, and 5 doesn't hold'
  wrong_token : (before after : List Placed) (t : Placed) → (stream s 0).toks ≡ before ++ t ∷ after →
      Begins a.start before → (Begins a.start (before ++ t ∷ []) → ⊥) → (Listed before t → ⊥) → Holds a s 4 t.start
  -- 4, at the length: 'or the text ends too soon'
  too_soon : (stream s 0).number ≡ 4 → Begins a.start (stream s 0).toks →
      ((cs : List Term) → Derives fits alts a.start (stream s 0).toks cs → ⊥) → Holds a s 4 (length s)
  -- 5, at the word: 'as 4, but the token is a word from the "not carried" list right after ('
  on_the_list : (before after : List Placed) (t : Placed) → (stream s 0).toks ≡ before ++ t ∷ after →
      Begins a.start before → (Begins a.start (before ++ t ∷ []) → ⊥) → Listed before t → Holds a s 5 t.start
  -- 6, 7, 8, 9, at the token: as `Amiss` has them, of a token that the grammar takes
  amiss : (before : List Taken) (x : Taken) (n : ℕ) → There a s before x → Amiss a.unit a.cell_room a.item_room before x n →
      Holds a s n x.tok.start

-- 'the lowest place wins, then the lowest number'
abbrev pub Before : ℕ → ℕ → ℕ → ℕ → Type 0
Before n q m p = (q < p) ⊎ ((q ≡ p) × (n ≤ m))
