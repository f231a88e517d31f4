-- Cells: contracts and rules of the readers that go through a cell's sections, and fill the tables.
-- Assumes nothing.
use Rattle.std.specs.Prelude.{◌≡◌, refl, Bool, true, false, List, [], ◌∷◌, ◌++◌, ℕ, ◌+◌, ◌-◌, ◌*◌, ◌≤◌, ◌<◌, length, Result, Ok, Err}
use Rattle.std.proofs.Common.{ap, ◌∙◌, sym, append_assoc, arith}
use Rattle.classes.specs.Choice.{pick}
use Rattle.tokenforms.specs.declared.Refusal.{Refusal}
use Rattle.grammar.specs.Ll.{non}
use Rattle.grammar.specs.Machine.{bad}
use Rattle.grammar.specs.declared.Value.{Value}
use Rattle.grammar.specs.declared.Entry.{Entry}
use Rattle.grammar.specs.declared.Within.{Within}
use Rattle.grammar.specs.declared.Within.TheVariants as within
use Rattle.grammar.specs.declared.Turn.TheVariants as turn
use Rattle.grammar.specs.declared.ReadBody.{ReadBody}
use Rattle.tokenforms.specs.Tokens.{Got, Refused}
use Rattle.tokenforms.specs.Tokens.{token_at}
use Rattle.grammar.specs.Grammar.{delay, check, specs}
use Rattle.grammar.specs.Meaning.{Log, Item, entered, finished, no_head, nothing}
use Rattle.grammar.specs.Reading.{reading}
use Rattle.grammar.specs.Outcome.{Stack, state}
use Rattle.rules.specs.Promises.{Listable, item}
use Rattle.rules.specs.Bodies.{below, item_place, Turned}
use Rattle.tables.specs.Layout.{entry_row, entry_rows, length_entries, entries_append, entries_one}
use Rattle.tables.specs.Pastes.{put, put-none, put-put}

-- the log after these entries
abbrev pub after : List Item → Log → Log
after [] l = l
after (i ∷ is) l = entered (i ∷ is) l

pub after_more : (is : List Item) (i : Item) (l : Log) → entered (i ∷ []) (after is l) ≡ after (is ++ i ∷ []) l
after_more [] i l = refl
after_more (x ∷ is) i l =
    ap (λ (z : List Item). record { texts = l.texts; cells = l.cells; items = z; begun = l.begun; head = no_head; values = []; value = nothing })
    (append_assoc l.items (x ∷ is) (i ∷ []))

-- the letter of the entries of a group, or 0 where the entries are checks
abbrev pub group_of : Within → ℕ
group_of within.Cell = 0
group_of within.Delay = 0
group_of within.Absolute = 65
group_of within.Increment = 73
group_of within.Check = 0

pub in_group : (w : Within) (d : Bool) → (group_of w ≡ 0 → ⊥) → item_place w d ≡ delay (group_of w) d
in_group within.Cell d h = absurd (h refl)
in_group within.Delay d h = absurd (h refl)
in_group within.Absolute d h = refl
in_group within.Increment d h = refl
in_group within.Check d h = absurd (h refl)

pub in_check : (w : Within) (d : Bool) → group_of w ≡ 0 → item_place w d ≡ check d
in_check within.Cell d h = refl
in_check within.Delay d h = refl
in_check within.Absolute d h = absurd (let z : ◌≡◌ {A = ℕ} 65 0 = h in omega arith)
in_check within.Increment d h = absurd (let z : ◌≡◌ {A = ℕ} 73 0 = h in omega arith)
in_check within.Check d h = refl

-- these n entries of a cell have been read, from its first section on, up to this place
abbrev pub Along : List ℕ → ℕ → Bool → ℕ → ℕ → ℕ → ℕ → Within → Bool → List Item → Type 0
Along s p0 d unit room p n w f is =
    (ss : Stack) (cr : ℕ) (l : Log) →
    reading s (state (non (specs d) ∷ ss) false d unit cr room l) p0 ≡ reading s (state (below w f d ++ ss) false d unit cr (room - n) (after is l)) p

-- all its entries, and its closing bracket
abbrev pub BodyDone : List ℕ → ℕ → Bool → ℕ → ℕ → ℕ → ℕ → List Item → Type 0
BodyDone s p0 d unit room e n is =
    (ss : Stack) (cr : ℕ) (l : Log) →
    reading s (state (non (specs d) ∷ ss) false d unit cr room l) p0 ≡ reading s (state ss false d unit cr (room - n) (finished (after is l))) e

abbrev pub BodyNot : List ℕ → ℕ → Bool → ℕ → ℕ → ℕ → ℕ → Type 0
BodyNot s p0 d unit room n q =
    (ss : Stack) (cr : ℕ) (l : Log) → reading s (state (non (specs d) ∷ ss) false d unit cr room l) p0 ≡ bad n q

-- a table with these entries from this row on, where it is to be filled
abbrev pub filled : Bool → List ℕ → ℕ → List Item → List ℕ
filled fill t row is = pick fill (put t (28 * row) (entry_rows is)) t

abbrev pub BodyRead : List ℕ → ℕ → Bool → ℕ → ℕ → Bool → ℕ → List ℕ → List ℕ → Result ReadBody Refusal → Type 0
BodyRead s p d unit room fill row t t' (Ok body) =
    (is : List Item) × (length is ≡ body.count) × BodyDone s p d unit room body.end body.count is × (body.count ≤ room) × (p < body.end) × (body.end ≤ length s) × (t' ≡ filled fill t row is)
BodyRead s p d unit room fill row t t' (Err why) = BodyNot s p d unit room why.number why.place × (fill ≡ false → t' ≡ t)

pub along-start : (s : List ℕ) (p : ℕ) (d : Bool) (unit room : ℕ) → Along s p d unit room p 0 within.Cell true []
along-start s p d unit room = λ ss cr l. let z : room - 0 ≡ room = omega arith in rw z

module _ (s : List ℕ) (p0 : ℕ) (d : Bool) (unit room p n : ℕ) (w : Within) (f : Bool) (is : List Item) (a : Along s p0 d unit room p n w f is) where
  pub along_on : (w' : Within) (f' : Bool) (q : ℕ) → Turned s p w f d (Ok (turn.On w' f' q)) → Along s p0 d unit room q n w' f' is
  along_on w' f' q u = λ ss cr l. a ss cr l ∙ u.0 ss unit cr (room - n) (after is l)

  pub along-done : (q : ℕ) → Turned s p w f d (Ok (turn.Done q)) → BodyDone s p0 d unit room q n is
  along-done q u = λ ss cr l. a ss cr l ∙ u.0 ss unit cr (room - n) (after is l)

  pub along-not : (m q : ℕ) → Turned s p w f d (Refused m q) → BodyNot s p0 d unit room m q
  along-not m q u = λ ss cr l. a ss cr l ∙ u.0 ss unit cr (room - n) (after is l)

  module _ (q : ℕ) (u : Turned s p w f d (Ok (turn.Entry q))) where
    pub along_bad : (m x : ℕ) (h : Entry) (vs : List Value) → Listable s q (item_place w d) d unit (room - n) (Refused m x) h vs → BodyNot s p0 d unit room m x
    along_bad m x h vs e = λ ss cr l. a ss cr l ∙ u.0 ss unit cr (room - n) (after is l) ∙ e (below w true d ++ ss) cr (after is l)

    pub along-entry : (x : ℕ) (h : Entry) (vs : List Value) → Listable s q (item_place w d) d unit (room - n) (Ok x) h vs →
        Along s p0 d unit room x (n + 1) w true (is ++ item h vs ∷ [])
    along-entry x h vs e = λ ss cr l.
        let z : room - n - 1 ≡ room - (n + 1) = omega arith in
        a ss cr l ∙ u.0 ss unit cr (room - n) (after is l) ∙ e.0 (below w true d ++ ss) cr (after is l) ∙ rw (z, after_more is (item h vs) l)

-- one entry more in the table
pub filled_none : (fill : Bool) (t : List ℕ) (row : ℕ) → filled fill t row [] ≡ t
unfolding entry_rows
filled_none true t row = put-none t (28 * row)
filled_none false t row = refl

pub filled_more : (t : List ℕ) (row n : ℕ) (is : List Item) (i : Item) → length is ≡ n → 28 * (row + n) ≤ length t →
    put (filled true t row is) (28 * (row + n)) (entry_row i) ≡ filled true t row (is ++ i ∷ [])
filled_more t row n is i e h =
    let m = length_entries is in
    let b : 28 * (row + n) ≡ 28 * row + length (entry_rows is) = omega arith in
    put-put t (entry_rows is) (entry_row i) (28 * row) (28 * (row + n)) b h
    ∙ ap (λ z. put t (28 * row) z) (ap (λ z. entry_rows is ++ z) (sym (entries_one i)) ∙ sym (entries_append is (i ∷ [])))

-- where the table is filled, the row is written behind the others; where it is not, nothing is
pub filled_on : (fill : Bool) (t : List ℕ) (row n : ℕ) (is : List Item) (i : Item) → length is ≡ n → 28 * (row + n) ≤ length t →
    pick fill (put (filled fill t row is) (28 * (row + n)) (entry_row i)) (filled fill t row is) ≡ filled fill t row (is ++ i ∷ [])
filled_on true t row n is i e h = filled_more t row n is i e h
filled_on false t row n is i e h = refl
