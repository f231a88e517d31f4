-- Whole cells, one after the other, up to the end of the text: contracts and rules.
-- Assumes nothing.
use Rattle.std.specs.Prelude.{◌≡◌, Bool, false, List, [], ◌∷◌, ◌++◌, ℕ, ◌+◌, ◌-◌, ◌*◌, ◌≤◌, eqb, leb, length, Result, Ok, Err}
use Rattle.std.proofs.Math.Path.{refl, sym}
use Rattle.std.proofs.Common.{◌∙◌, append-nil, arith, length-append}
use Rattle.std.proofs.Math.Bool.{true}
use borrow.Author.Tests.{eq-eqb, ne_eqb, eqb-true, leb-true}
use Rattle.classes.specs.Choice.{pick, and, within}
use Rattle.tokenforms.specs.Tokens.{Got, Refused}
use Rattle.tokenforms.specs.Tokens.{token_at}
use Rattle.tokens.specs.Stream.{placed, part}
use Rattle.words.specs.Words.{key_of}
use Rattle.grammar.specs.Answers.{HandAt}
use Rattle.tokenforms.specs.declared.Refusal.{Refusal}
use Rattle.grammar.specs.Ll.{lit, non}
use Rattle.grammar.specs.Machine.{Res, fine, bad}
use Rattle.grammar.specs.declared.Cell.{Cell}
use Rattle.grammar.specs.declared.Hand.{Hand}
use Rattle.grammar.specs.declared.ReadBody.{ReadBody}
use Rattle.grammar.specs.Grammar.{alts, header, more, cell_tail, keys, key, cell, ◌‼◌, ◌⇒◌}
use Rattle.grammar.specs.Meaning.{Log, Item, begins, celled, pathed, typed, finished, tidy, wrongly}
use Rattle.grammar.specs.Reading.{At, reading, goes, halts, turn}
use Rattle.grammar.specs.Outcome.{Stack, state}
use Rattle.rules.specs.Promises.{holds, InHand}
use Rattle.rules.specs.Rules.{ahead, heads}
use Rattle.headsteps.specs.Short.{short}
use Rattle.headsteps.specs.Steps.{Takes}
use Rattle.cells.specs.Cells.{after, BodyDone, BodyNot, filled}
use Rattle.cellhead.specs.Heads.{HeadRead}
use Rattle.cellhead.specs.declared.CellHead.{CellHead}
use Rattle.tables.specs.Layout.{cell_rows}
use Rattle.tables.specs.Pastes.{put}
use Rattle.readcells.specs.declared.More.{More}
use Rattle.readcells.specs.declared.More.TheVariants as mr

-- A CELL behind its keyword, which stands at pl
abbrev pub begun_at : ℕ → List ℕ → List Cell → List Item → Log
begun_at pl ts cs is = celled (begins pl (tidy ts cs is)) (tidy ts cs is)

abbrev pub cell_at : ℕ → ℕ → ℕ → ℕ → ℕ → ℕ → ℕ → Cell
cell_at pl b e k f t n = record { place = pl; typefrom = b; typeto = e; sort = k; pathfrom = f; pathto = t; entries = n }

-- it was read, with these entries
abbrev pub TailDone : List ℕ → ℕ → Bool → ℕ → ℕ → ℕ → ℕ → Cell → List Item → Type 0
TailDone s p d unit room pl e c js =
    (ss : Stack) (cr : ℕ) (ts : List ℕ) (cs : List Cell) (is : List Item) →
    reading s (state (cell_tail d ++ ss) false d unit cr room (begun_at pl ts cs is)) p ≡
    reading s (state ss false d unit cr (room - length js) (tidy ts (cs ++ c ∷ []) (is ++ js))) e

abbrev pub TailNot : List ℕ → ℕ → Bool → ℕ → ℕ → ℕ → ℕ → ℕ → Type 0
TailNot s p d unit room pl n q =
    (ss : Stack) (cr : ℕ) (ts : List ℕ) (cs : List Cell) (is : List Item) → reading s (state (cell_tail d ++ ss) false d unit cr room (begun_at pl ts cs is)) p ≡ bad n q

-- a table with these cells from this row on, where it is to be filled
abbrev pub filled_cells : Bool → List ℕ → ℕ → List Cell → List ℕ
filled_cells fill u row cs = pick fill (put u (7 * row) (cell_rows cs)) u

abbrev pub TailRead : List ℕ → ℕ → Bool → ℕ → ℕ → ℕ → Bool → ℕ → List ℕ → List ℕ → ℕ → List ℕ → List ℕ → Result ReadBody Refusal → Type 0
TailRead s p d unit room pl fill crow u u' row t t' (Ok body) =
    (c : Cell) × (js : List Item) × (length js ≡ body.count) × TailDone s p d unit room pl body.end c js × (body.count ≤ room) × (body.end ≤ length s)
    × (t' ≡ filled fill t row js) × (u' ≡ filled_cells fill u crow (c ∷ []))
TailRead s p d unit room pl fill crow u u' row t t' (Err why) =
    TailNot s p d unit room pl why.number why.place × (fill ≡ false → (t' ≡ t) × (u' ≡ u))

-- what a cell's closing bracket leaves
closes-cell : (pl b e k f t : ℕ) (ts : List ℕ) (cs : List Cell) (is js : List Item) →
    finished (after js (celled (pathed k f t (typed b e (begins pl (tidy ts cs is)))) (begun_at pl ts cs is))) ≡
    tidy ts (cs ++ cell_at pl b e k f t (length js) ∷ []) (is ++ js)
closes-cell pl b e k f t ts cs is [] =
    let z : length is - length is ≡ 0 = omega arith in rw (z, append-nil is)
closes-cell pl b e k f t ts cs is (j ∷ js) =
    let z : length (is ++ j ∷ js) - length is ≡ length (j ∷ js) = (let y = length-append is (j ∷ js) in omega arith) in rw z

module _ (s : List ℕ) (p : ℕ) (d : Bool) (unit room pl : ℕ) where
  pub tail_head_not : (n q : ℕ) → HeadRead s p d (Refused n q) → TailNot s p d unit room pl n q
  tail_head_not n q u = λ ss cr ts cs is. u ss unit cr room _

  module _ (h : CellHead) (u : HeadRead s p d (Ok h)) where
    pub tail_body_not : (n x : ℕ) → BodyNot s h.end d unit room n x → TailNot s p d unit room pl n x
    tail_body_not n x v = λ ss cr ts cs is. u.0 ss unit cr room _ ∙ v ss cr _

    pub tail_done : (x n : ℕ) (js : List Item) → length js ≡ n → BodyDone s h.end d unit room x n js →
        TailDone s p d unit room pl x (cell_at pl h.typefrom h.typeto h.sort h.pathfrom h.pathto n) js
    tail_done x n js m v = λ ss cr ts cs is.
        u.0 ss unit cr room _ ∙ v ss cr _ ∙ rw (← m, closes-cell pl h.typefrom h.typeto h.sort h.pathfrom h.pathto ts cs is js)

-- BEHIND A CELL: the next one's keyword in hand, or the file's closing bracket
abbrev pub more_to : List ℕ → Result More Refusal → Stack → Bool → ℕ → ℕ → ℕ → Log → Res At
more_to s (Ok (mr.Next h)) ss d unit cr ir l = holds s (Ok h) (state (non (header 10 d) ∷ ss) true d unit cr ir l)
more_to s (Ok (mr.Last e)) ss d unit cr ir l = reading s (state ss false d unit cr ir l) e
more_to s (Err why) ss d unit cr ir l = bad why.number why.place

abbrev pub MoreIn : List ℕ → Result More Refusal → Type 0
MoreIn s (Ok (mr.Next h)) = InHand s (Ok h)
MoreIn s (Ok (mr.Last e)) = e ≤ length s
MoreIn s (Err why) = Unit {0}

abbrev pub MoreRead : List ℕ → ℕ → Bool → Result More Refusal → Type 0
MoreRead s p d r =
    ((ss : Stack) (unit cr ir : ℕ) (l : Log) → reading s (state (non (more d) ∷ ss) false d unit cr ir l) p ≡ more_to s r ss d unit cr ir l) × MoreIn s r

-- a token in hand is the next cell's keyword, or what stands in its place
abbrev pub next : Result Hand Refusal → Result More Refusal
next (Ok hand) = Ok (mr.Next hand)
next (Err why) = Err why

pub more-stops : (s : List ℕ) (p n q : ℕ) (d : Bool) → p ≤ length s → token_at s p ≡ Refused n q → MoreRead s p d (Refused n q)
more-stops s p n q d h t = (λ ss unit cr ir l. halts s _ ss _ p n q h t, tt)

module _ (s : List ℕ) (p k b e : ℕ) (long : Bool) (h : p ≤ length s) (tok : token_at s p ≡ Got k b e long) (d : Bool) where
  pub more_last : k ≡ 3 → MoreRead s p d (Ok (mr.Last e))
  unfolding alts
  more_last q = (λ ss unit cr ir l. goes s _ p 3 b e long (fine _) h (rw q at tok) refl, (ahead s p k b e long h tok).1)

  pub more-next : (r : Result Hand Refusal) → k ≡ 2 → Takes s e [] true r → MoreRead s p d (next r)
  unfolding alts
  more-next (Ok hand) q u = (λ ss unit cr ir l. goes s _ p 2 b e long (fine _) h (rw q at tok) refl ∙ u.0 _ ss d unit cr ir l, u.1)
  more-next (Err why) q u = (λ ss unit cr ir l. goes s _ p 2 b e long (fine _) h (rw q at tok) refl ∙ u.0 _ ss d unit cr ir l, tt)

  pub more-wrong : (k ≡ 3 → ⊥) → (k ≡ 2 → ⊥) → MoreRead s p d (Refused 4 b)
  unfolding alts
  more-wrong x y = (λ ss unit cr ir l. goes s _ p k b e long (bad 4 b) h tok (rw (ne_eqb k 3 x, ne_eqb k 2 y)), tt)

-- AT THE END: nothing may stand there
abbrev pub ended_to : Result ℕ Refusal → At → Res At
ended_to (Ok e) st = fine st
ended_to (Err why) st = bad why.number why.place

abbrev pub EndRead : List ℕ → ℕ → Result ℕ Refusal → Type 0
EndRead s p r = (d : Bool) (unit cr ir : ℕ) (l : Log) → reading s (state [] false d unit cr ir l) p ≡ ended_to r (state [] false d unit cr ir l)

pub end_here : (s : List ℕ) (p n q : ℕ) → p ≤ length s → token_at s p ≡ Refused n q → n ≡ 4 → EndRead s p (Ok q)
end_here s p n q h t z = λ d unit cr ir l. turn s _ p h ∙ rw (t, z)

pub end_stops : (s : List ℕ) (p n q : ℕ) → p ≤ length s → token_at s p ≡ Refused n q → (n ≡ 4 → ⊥) → EndRead s p (Refused n q)
end_stops s p n q h t z = λ d unit cr ir l. turn s _ p h ∙ rw (t, ne_eqb n 4 z)

pub end_more : (s : List ℕ) (p k b e : ℕ) (long : Bool) → p ≤ length s → token_at s p ≡ Got k b e long → EndRead s p (Refused 4 b)
end_more s p k b e long h tok = λ d unit cr ir l. goes s _ p k b e long (bad 4 b) h tok refl

-- THE WORD CELL in hand, where it has to stand: behind the bracket of a cell by itself, and in a file
module _ (s : List ℕ) (p k b e v : ℕ) (long : Bool) (i : InHand s (HandAt p k b e long v)) (d : Bool) where
  a_word : v ≡ 53 → k ≡ 7
  a_word z = by (eqb k 7) refl
    where
      by : (f : Bool) → eqb k 7 ≡ f → k ≡ 7
      by true f = eqb-true k 7 f
      by false f = absurd (let y : v ≡ 0 = i.2 ∙ rw f in omega arith)

  its_key : v ≡ 53 → key_of (part b e s) ≡ 53
  its_key z = let y : v ≡ key_of (part b e s) = i.2 ∙ rw (eq-eqb k 7 (a_word z)) in sym y ∙ z

  pub word_full : v ≡ 53 → (ss : Stack) (unit ir : ℕ) (l : Log) → reading s (state (lit (key 53 ‼ cell) ∷ ss) true d unit 0 ir l) p ≡ bad 9 b
  word_full z ss unit ir l =
      let f = short s p k b e long keys i.0 i.1 (a_word z) (rw (its_key z) (omega arith)) in
      goes s _ p k b e long (bad 9 b) i.0 i.1 (rw (eq-eqb k 7 (a_word z), its_key z, f))

  pub word_begins : v ≡ 53 → (ss : Stack) (unit cr ir : ℕ) (ts : List ℕ) (cs : List Cell) (is : List Item) → (cr ≡ 0 → ⊥) →
      reading s (state (lit (key 53 ‼ cell) ∷ ss) true d unit cr ir (tidy ts cs is)) p ≡ reading s (state ss false d unit (cr - 1) ir (begun_at b ts cs is)) e
  word_begins z ss unit cr ir ts cs is n =
      let f = short s p k b e long keys i.0 i.1 (a_word z) (rw (its_key z) (omega arith)) in
      let y : eqb k 2 ≡ false = rw (a_word z) refl in
      goes s _ p k b e long (fine _) i.0 i.1 (rw (eq-eqb k 7 (a_word z), its_key z, f, ne_eqb cr 0 n, y))

  not-cell : (v ≡ 53 → ⊥) → k ≡ 7 → within 53 53 (key_of (part b e s)) ≡ false
  not-cell n q = by (leb 53 x) refl (leb x 53) refl
    where
      x : ℕ
      x = key_of (part b e s)

      same : v ≡ x
      same = i.2 ∙ rw (eq-eqb k 7 q)

      by : (f : Bool) → leb 53 x ≡ f → (g : Bool) → leb x 53 ≡ g → and (leb 53 x) (leb x 53) ≡ false
      by true f true g = absurd (n (same ∙ (let a = leb-true 53 x f in let c = leb-true x 53 g in omega arith)))
      by true f false g = rw (f, g)
      by false f g c = rw f

  pub word_wrong : (w : ℕ) → (v ≡ 53 → ⊥) → w ≡ wrongly true k (part b e s) → (ss : Stack) (unit cr ir : ℕ) (l : Log) →
      reading s (state (lit (key 53 ‼ cell) ∷ ss) true d unit cr ir l) p ≡ bad w b
  word_wrong w n q ss unit cr ir l = by (eqb k 7) refl
    where
      by : (f : Bool) → eqb k 7 ≡ f → reading s (state (lit (key 53 ‼ cell) ∷ ss) true d unit cr ir l) p ≡ bad w b
      by true f = goes s _ p k b e long (bad w b) i.0 i.1 (rw (q, f, not-cell n (eqb-true k 7 f), f))
      by false f = goes s _ p k b e long (bad w b) i.0 i.1 (rw (q, f, f))

  -- in a file it is the last that may stand behind a header entry's bracket
  last_head : (ss : Stack) (unit cr ir : ℕ) (l : Log) →
      reading s (state (non (header 10 d) ∷ ss) true d unit cr ir l) p ≡
      reading s (state (lit (key 53 ‼ cell) ∷ cell_tail d ++ non (more d) ∷ ss) true d unit cr ir l) p
  unfolding alts
  last_head ss unit cr ir l =
      goes s _ p k b e long _ i.0 i.1
      (heads (header 10 d) (key 53 ‼ cell ⇒ cell_tail d ++ non (more d) ∷ []) ss true d unit cr ir l (placed s k b e long) refl)
      ∙ sym (goes s _ p k b e long _ i.0 i.1 refl)

  pub cell_full : v ≡ 53 → (ss : Stack) (unit ir : ℕ) (l : Log) → reading s (state (non (header 10 d) ∷ ss) true d unit 0 ir l) p ≡ bad 9 b
  cell_full z ss unit ir l = last_head ss unit 0 ir l ∙ word_full z _ unit ir l

  pub cell_word_lem : v ≡ 53 → (ss : Stack) (unit cr ir : ℕ) (ts : List ℕ) (cs : List Cell) (is : List Item) → (cr ≡ 0 → ⊥) →
      reading s (state (non (header 10 d) ∷ ss) true d unit cr ir (tidy ts cs is)) p ≡
      reading s (state (cell_tail d ++ non (more d) ∷ ss) false d unit (cr - 1) ir (begun_at b ts cs is)) e
  cell_word_lem z ss unit cr ir ts cs is n = last_head ss unit cr ir _ ∙ word_begins z _ unit cr ir ts cs is n

  pub cell-wrong : (w : ℕ) → (v ≡ 53 → ⊥) → w ≡ wrongly true k (part b e s) → (ss : Stack) (unit cr ir : ℕ) (l : Log) →
      reading s (state (non (header 10 d) ∷ ss) true d unit cr ir l) p ≡ bad w b
  cell-wrong w n q ss unit cr ir l = last_head ss unit cr ir l ∙ word_wrong w n q _ unit cr ir l
