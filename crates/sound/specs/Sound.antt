-- What a reading leaves is in range: times, kinds, edges, groups and sorts of paths are what a sheet or a slot can hold; the cells have all
-- the entries; and the ends stand in the text.
-- Assumes nothing.
use Rattle.std.specs.Prelude.{◌≡◌, refl, Bool, true, false, List, [], ◌∷◌, ◌++◌, ℕ, zero, suc, ◌+◌, ◌-◌, ◌≤◌, ◌<◌, eqb, ℤ, nat_abs, length, Result, Ok, Err, Some, None, Option}
use Rattle.std.proofs.Common.{sym, subst, ◌∙◌, arith, zero-le, length-append, eqb-true, ltb-true}
use Rattle.std.proofs.Math.Option.{none, some}
use Rattle.classes.specs.Choice.{pick}
use Rattle.tokenforms.specs.declared.Token.{Token}
use Rattle.tokenforms.specs.declared.Refusal.{Refusal}
use Rattle.tokenforms.specs.Tokens.{Got, Refused}
use Rattle.tokenforms.specs.Tokens.{token_at}
use Rattle.tokens.specs.Stream.{Placed, onward, row, stream, onwards}
use Rattle.words.specs.Words.{key_of, edge_of, keywords, edges}
use Rattle.words.specs.Scales.{find_most}
use Rattle.numbershape.specs.Value.{number_of}
use Rattle.times.specs.Exact.{time_near}
use Rattle.numbershape.specs.declared.NotTime.{NotTime}
use Rattle.grammar.specs.declared.Value.{Value}
use Rattle.grammar.specs.declared.Entry.{Entry}
use Rattle.grammar.specs.declared.Cell.{Cell}
use Rattle.grammar.specs.Machine.{fine, bad, fine_inj, bad≢fine, judges}
use Rattle.grammar.specs.Grammar.{
  Cls,
  Note,
  skip,
  heading,
  type,
  top,
  named,
  any,
  finish,
  edged,
  end,
  plain,
  empty,
  all,
  whole,
  close,
  Act,
  note,
  divide,
  scaled,
  unity,
  joined,
  cell,
  entry,
  time,
}
use Rattle.grammar.specs.Grammar as G
use Rattle.grammar.specs.Meaning.{refused≢fine}
use Rattle.grammar.specs.Meaning.{
  Item,
  Begun,
  Log,
  Book,
  head_of,
  valued,
  pushed,
  headed,
  started,
  item_of,
  entered,
  celled,
  cell_of,
  finished,
  titled,
  edge_put,
  end_put,
  edge_of_end,
  noted,
  timely,
  overlong,
  timed,
  begins,
  judge,
  judge_by,
}
use Rattle.grammar.specs.Reading.{At}
use Rattle.grammar.specs.Outcome.{Stack, no_log, read_file, read_cell_of}
use Rattle.laws.specs.Walk.{through, along_inv, kept_if, some_inj}
use Rattle.laws.specs.Sides.{Whole, a_file, a_cell}
use Rattle.laws.specs.Taken.{As, as_file, as_cell, starting, read_as_of, file-is, cell-is, Taken, terms, toks, tells}
use Rattle.laws.specs.Phases.{leaves, turns, proper, moves, every, from, to, closed-off}
use Rattle.laws.proofs.Judged.{pick_fine}
use Rattle.laws.proofs.Behind.{then_fine, Fed, fed, fed_uncons}
use Rattle.laws.proofs.Exactly.{follows, says}
use Rattle.sound.specs.Groups.{grouped, all_grouped, whole-grouped, taken-grouped}

-- every element of a list
abbrev pub Each : {A : Type 0} → (A → Type 0) → List A → Type 0
Each P [] = Unit {0}
Each P (a ∷ l) = P a × Each P l

-- 'each of the three numbers is supplied or absent', 'at most 10^15 either way'
abbrev pub InTime : Option ℤ → Type 0
InTime None = Unit {0}
InTime (Some z) = nat_abs z ≤ 1000000000000000

abbrev pub SoundValue : Value → Type 0
SoundValue v = InTime v.min × InTime v.typ × InTime v.max

-- 'The entry list has kind, group (A, I or T), keyword place, both ends with edges, and the values as written.'
pub record SoundItem (i : Item) : Type 0 where
  pub kind : i.head.kind < 256
  pub edge1 : i.head.edge1 < 256
  pub edge2 : i.head.edge2 < 256
  pub group : i.head.group < 256
  pub values : Each SoundValue i.values

-- 'number of entries', of all the cells together
unfoldable pub total : List Cell → ℕ
total [] = 0
total (c ∷ cs) = c.entries + total cs

pub record SoundLog (l : Log) : Type 0 where
  pub items : Each SoundItem l.items
  pub cells : Each (λ c. c.sort < 256) l.cells
  -- each listed entry belongs to a listed cell
  pub entries : total l.cells ≡ length l.items

-- both ends of an entry stand in a text of n bytes (a missing one stands from 0 to 0), and its keyword does
pub record Inside (n : ℕ) (i : Item) : Type 0 where
  pub place : i.head.place ≤ n
  pub first : i.head.from1 ≤ i.head.to1
  pub first_ends : i.head.to1 ≤ n
  pub second : i.head.from2 ≤ i.head.to2
  pub second_ends : i.head.to2 ≤ n

each_append : {A : Type 0} (P : A → Type 0) (l m : List A) → Each P l → Each P m → Each P (l ++ m)
each_append P [] m h k = k
each_append P (a ∷ l) m (x, h) k = (x, each_append P l m h k)

each_map : {A : Type 0} (P Q : A → Type 0) → ((a : A) → P a → Q a) → (l : List A) → Each P l → Each Q l
each_map P Q f [] h = tt
each_map P Q f (a ∷ l) (x, h) = (f a x, each_map P Q f l h)

-- WHAT HOLDS ALL ALONG. An entry's head is in range, in hand or listed
record Fit (n : ℕ) (h : Entry) : Type 0 where
  kind : h.kind < 256
  edge1 : h.edge1 < 256
  edge2 : h.edge2 < 256
  group : h.group < 256
  place : h.place ≤ n
  first : h.from1 ≤ h.to1
  first_ends : h.to1 ≤ n
  second : h.from2 ≤ h.to2
  second_ends : h.to2 ≤ n

abbrev Good : ℕ → Item → Type 0
Good n i = Fit n i.head × Each SoundValue i.values

abbrev Sorted : Cell → Type 0
Sorted c = c.sort < 256

-- outside the cells (0) the listed cells have all the listed entries; in a cell they have those before it
record Holds (n q : ℕ) (l : Log) : Type 0 where
  items : Each (Good n) l.items
  cells : Each Sorted l.cells
  head : Fit n l.head
  values : Each SoundValue l.values
  value : SoundValue l.value
  sort : l.begun.sort < 256
  entries : total l.cells ≡ pick (eqb q 0) (length l.items) l.begun.before
  most : total l.cells ≤ length l.items

key_byte : (w : List ℕ) → key_of w < 256
unfolding key_of
key_byte w = omega (arith, find_most keywords w 99 refl)

edge_byte : (w : List ℕ) → edge_of w < 256
unfolding edge_of
edge_byte w = omega (arith, find_most edges w 8 refl)

no_head_lem : (n k g p : ℕ) → k < 256 → g < 256 → p ≤ n → Fit n (head_of k g p)
no_head_lem n k g p a b c =
    record {
      kind = a;
      edge1 = omega arith;
      edge2 = omega arith;
      group = b;
      place = c;
      first = zero-le;
      first_ends = zero-le;
      second = zero-le;
      second_ends = zero-le;
    }

fit_edge : (n : ℕ) (i : Bool) (e : ℕ) (h : Entry) → e < 256 → Fit n h → Fit n (edge_put i e h)
fit_edge n false e h b f =
    record {
      kind = f.kind;
      edge1 = b;
      edge2 = f.edge2;
      group = f.group;
      place = f.place;
      first = f.first;
      first_ends = f.first_ends;
      second = f.second;
      second_ends = f.second_ends;
    }
fit_edge n true e h b f =
    record {
      kind = f.kind;
      edge1 = f.edge1;
      edge2 = b;
      group = f.group;
      place = f.place;
      first = f.first;
      first_ends = f.first_ends;
      second = f.second;
      second_ends = f.second_ends;
    }

fit_end : (n : ℕ) (i : Bool) (g b e : ℕ) (h : Entry) → g < 256 → b ≤ e → e ≤ n → Fit n h → Fit n (end_put i g b e h)
fit_end n false g b e h x y z f =
    record {
      kind = f.kind;
      edge1 = x;
      edge2 = f.edge2;
      group = f.group;
      place = f.place;
      first = y;
      first_ends = z;
      second = f.second;
      second_ends = f.second_ends;
    }
fit_end n true g b e h x y z f =
    record {
      kind = f.kind;
      edge1 = f.edge1;
      edge2 = x;
      group = f.group;
      place = f.place;
      first = f.first;
      first_ends = f.first_ends;
      second = y;
      second_ends = z;
    }

edge_held : (n : ℕ) (i : Bool) (h : Entry) → Fit n h → edge_of_end i h < 256
edge_held n false h f = f.edge1
edge_held n true h f = f.edge2

-- the log with something else in hand
module _ (n q : ℕ) (l : Log) (h : Holds n q l) where
  with_head : (e : Entry) → Fit n e → Holds n q (headed e l)
  with_head e f =
      record {
        items = h.items;
        cells = h.cells;
        head = f;
        values = h.values;
        value = h.value;
        sort = h.sort;
        entries = h.entries;
        most = h.most;
      }

  with_value : (v : Value) → SoundValue v → Holds n q (valued v l)
  with_value v f =
      record {
        items = h.items;
        cells = h.cells;
        head = h.head;
        values = h.values;
        value = f;
        sort = h.sort;
        entries = h.entries;
        most = h.most;
      }

  with_more : (v : Value) → SoundValue v → Holds n q (pushed v l)
  with_more v f =
      record {
        items = h.items;
        cells = h.cells;
        head = h.head;
        values = each_append SoundValue l.values (v ∷ []) h.values (f, tt);
        value = (tt, tt, tt);
        sort = h.sort;
        entries = h.entries;
        most = h.most;
      }

  with_cell : (c : Begun) → c.sort < 256 → c.before ≡ l.begun.before → Holds n q (celled c l)
  with_cell c f e =
      record {
        items = h.items;
        cells = h.cells;
        head = h.head;
        values = h.values;
        value = h.value;
        sort = f;
        entries = rw e h.entries;
        most = h.most;
      }

  with_title : (k b e : ℕ) → Holds n q (titled k b e l)
  with_title k b e =
      record {
        items = h.items;
        cells = h.cells;
        head = h.head;
        values = h.values;
        value = h.value;
        sort = h.sort;
        entries = h.entries;
        most = h.most;
      }

total-more : (cs : List Cell) (c : Cell) → total (cs ++ c ∷ []) ≡ total cs + c.entries
unfolding total
total-more [] c = omega arith
total-more (x ∷ cs) c = let z = total-more cs c in omega arith

-- a cell's closing bracket and an entry's; a cell's keyword and an entry's
finished-holds : (n : ℕ) (l : Log) → Holds n 1 l → Holds n 0 (finished l)
finished-holds n l h =
    let z = total-more l.cells (cell_of l.begun (length l.items - l.begun.before)) in
    let e = h.entries in
    let m = h.most in
    record {
      items = h.items;
      cells = each_append Sorted l.cells (_ ∷ []) h.cells (h.sort, tt);
      head = h.head;
      values = h.values;
      value = h.value;
      sort = omega arith;
      entries = omega arith;
      most = omega arith;
    }

entered-holds : (n : ℕ) (l : Log) → Holds n 2 l → Holds n 1 (entered (item_of l ∷ []) l)
entered-holds n l h =
    let z = length-append l.items (item_of l ∷ []) in
    let m = h.most in
    record {
      items = each_append (Good n) l.items (_ ∷ []) h.items ((h.head, h.values), tt);
      cells = h.cells;
      head = no_head_lem n 0 0 0 (omega arith) (omega arith) zero-le;
      values = tt;
      value = (tt, tt, tt);
      sort = h.sort;
      entries = h.entries;
      most = omega arith;
    }

begun_holds : (n p : ℕ) (l : Log) → Holds n 0 l → Holds n 1 (celled (begins p l) l)
begun_holds n p l h =
    record {
      items = h.items;
      cells = h.cells;
      head = h.head;
      values = h.values;
      value = h.value;
      sort = omega arith;
      entries = h.entries;
      most = h.most;
    }

started-holds : (n k g p : ℕ) (l : Log) → k < 256 → g < 256 → p ≤ n → Holds n 1 l → Holds n 2 (started k g p l)
started-holds n k g p l a b c h =
    record {
      items = h.items;
      cells = h.cells;
      head = no_head_lem n k g p a b c;
      values = tt;
      value = h.value;
      sort = h.sort;
      entries = h.entries;
      most = h.most;
    }

-- where a reading stays, and where it turns
stays : (n q p : ℕ) (l : Log) → some q ≡ some p → Holds n q l → Holds n p l
stays n q p l e h = subst (λ (x : ℕ). Holds n x l) (some_inj e) h

turned : (n q k p o : ℕ) (l m : Log) → pick (eqb q k) (some o) none ≡ some p → Holds n q l → (Holds n k l → Holds n o m) → Holds n p m
turned n q k p o l m e h f =
    let (v, g) = kept_if (eqb q k) (some o) p e in
    subst (λ (x : ℕ). Holds n x m) (some_inj g) (f (subst (λ (x : ℕ). Holds n x l) (eqb-true q k v) h))

-- a token stands in a text of n bytes
abbrev Stands : ℕ → Placed → Type 0
Stands n t = (t.start ≤ t.end) × (t.end ≤ n)

noted-holds : (k : Note) (t : Placed) (n q p : ℕ) (l : Log) → leaves q k ≡ some p → Stands n t → Holds n q l → Holds n p (noted k t l)
noted-holds skip t n q p l e s h = stays n q p _ e h
noted-holds (heading k) t n q p l e s h = stays n q p _ e (with_title n q l h k _ _)
noted-holds type t n q p l e s h = stays n q p _ e (with_cell n q l h _ h.sort refl)
noted-holds top t n q p l e s h = stays n q p _ e (with_cell n q l h _ (omega arith) refl)
noted-holds named t n q p l e s h = stays n q p _ e (with_cell n q l h _ (omega arith) refl)
noted-holds any t n q p l e s h = stays n q p _ e (with_cell n q l h _ (omega arith) refl)
noted-holds finish t n q p l e s h = turned n q 1 p 0 l _ e h (finished-holds n l)
noted-holds (edged i) t n q p l e s h = stays n q p _ e (with_head n q l h _ (fit_edge n i _ l.head (edge_byte t.bytes) h.head))
noted-holds (end i) t n q p l e (a, b) h =
    stays n q p _ e (with_head n q l h _ (fit_end n i _ _ _ l.head (edge_held n i l.head h.head) a b h.head))
noted-holds (plain i) t n q p l e (a, b) h = stays n q p _ e (with_head n q l h _ (fit_end n i _ _ _ l.head (omega arith) a b h.head))
noted-holds G.none t n q p l e s h = stays n q p _ e (with_value n q l h _ (tt, tt, tt))
noted-holds empty t n q p l e s h = stays n q p _ e (with_more n q l h _ (tt, tt, tt))
noted-holds all t n q p l e s h = let (a, b, c) = h.value in stays n q p _ e (with_more n q l h _ (a, a, a))
noted-holds whole t n q p l e s h = stays n q p _ e (with_more n q l h _ h.value)
noted-holds close t n q p l e s h = turned n q 2 p 1 l _ e h (entered-holds n l)

timely_sound : (k : ℕ) (z : ℤ) (v : Value) → nat_abs z ≤ 1000000000000000 → SoundValue v → SoundValue (timely k z v)
timely_sound zero z v f h = (f, tt, tt)
timely_sound (suc zero) z v f (a, b, c) = (a, f, tt)
timely_sound (suc (suc k)) z v f (a, b, c) = (a, b, f)

-- a token that passes where only its length is judged
simply : (n p : ℕ) (c : Cls) (t : Placed) (d₀ d : Book) → Holds n p d₀.log → pick (overlong c t) (bad 8 t.start) (fine d₀) ≡ fine d →
    Holds n p d.log
simply n p c t d₀ d h e = subst (λ (x : Book). Holds n p x.log) (fine_inj (pick_fine (overlong c t) 8 t.start (fine d₀) d e).1) h

-- ONE TOKEN that passes
one-step : (n : ℕ) (b : Book) (c : Cls) (a : Act) (t : Placed) (d : Book) (q p : ℕ) → turns q a ≡ some p → grouped a ≡ true → Stands n t →
    judge_by b c a t ≡ fine d → Holds n q b.log → Holds n p d.log
one-step n b c (note k) t d q p m g s e h = simply n p c t _ d (noted-holds k t n q p b.log m s h) e
one-step n b c (divide w) t d q p m g s e h = simply n p c t _ d (stays n q p _ m h) e
one-step n b c scaled t d q p m g s e h = simply n p c t _ d (stays n q p _ m h) e
one-step n b c unity t d q p m g s e h = simply n p c t _ d (stays n q p _ m h) e
one-step n b c joined t d q p m g s e h = simply n p c t _ d (stays n q p _ m h) e
one-step n b c cell t d q p m g s e h =
    let (v, f) = pick_fine (overlong c t) 8 t.start _ d e in
    let (r, i) = pick_fine (eqb b.cell_room 0) 9 t.start _ d f in
    subst (λ (x : Book). Holds n p x.log) (fine_inj i) (turned n q 0 p 1 b.log _ m h (begun_holds n t.start b.log))
one-step n b c (entry k) t d q p m g (x, y) e h =
    let (v, f) = pick_fine (overlong c t) 8 t.start _ d e in
    let (r, i) = pick_fine (eqb b.item_room 0) 9 t.start _ d f in
    subst (λ (x : Book). Holds n p x.log) (fine_inj i)
    (turned n q 1 p 2 b.log _ m h
    (started-holds n _ k t.start b.log (key_byte t.bytes) (ltb-true k 256 g) (omega arith)))
one-step n b c (time w k) t d q p m g s e h = by (number_of w b.unit t.bytes) refl e
  where
    by : (v : Result ℤ NotTime) → number_of w b.unit t.bytes ≡ v → timed b c k t v ≡ fine d → Holds n p d.log
    by (Ok z) f e =
        simply n p c t _ d
        (stays n q p _ m (with_value n q b.log h _ (timely_sound k z b.log.value (time_near w b.unit t.bytes z f) h.value))) e
    by (Err y) f e = absurd (refused≢fine b c k t y e)

-- ALL TOKENS that passed
all_steps : (n : ℕ) (xs : List Taken) (ss l : Stack) (b d : Book) (q p : ℕ) → all_grouped ss ≡ true → Fed ss xs l →
    through moves every from to q (terms xs) ≡ some p →
    Each (Stands n) (toks xs) → tells b xs ≡ fine d → Holds n q b.log → Holds n p d.log
unfolding through judges
all_steps n [] ss l b d q p g f m s e h = subst (λ (x : Book). Holds n p x.log) (fine_inj e) (stays n q p _ m h)
all_steps n (x ∷ xs) ss l b d q p g f m (s, more) e h =
    let (o, i, j) = along_inv (moves q x.by) _ p m in
    let (k, u, v) = fed_uncons ss x xs l f in
    let (w, y) = taken-grouped ss x.tok _ g u in
    let (c, z, r) = then_fine (judge b x.by x.tok) (λ y. tells y xs) d e in
    all_steps n xs k l c d o p y v j more r
    (one-step n b x.by.cls x.by.act x.tok c q o (kept_if (proper x.by.cls x.by.act) _ o i).1 w s z h)

start-holds : (n : ℕ) → Holds n 0 no_log
unfolding total
start-holds n =
    record {
      items = tt;
      cells = tt;
      head = no_head_lem n 0 0 0 (omega arith) (omega arith) zero-le;
      values = tt;
      value = (tt, tt, tt);
      sort = omega arith;
      entries = refl;
      most = zero-le;
    }

-- a text's tokens stand in it
row_stands : (f : ℕ) (s : List ℕ) (p : ℕ) → p ≤ length s → Each (Stands (length s)) (row f s p).toks
unfolding row
row_stands zero s p h = tt
row_stands (suc f) s p h = by (token_at s p) refl (row_stands f s)
  where
    by : (t : Result Token Refusal) → token_at s p ≡ t → ((q : ℕ) → q ≤ length s → Each (Stands (length s)) (row f s q).toks) →
        Each (Stands (length s)) (onward s t (row f s)).toks
    by (Ok tok) g ih = let (x, y, z) = onwards s p tok.kind tok.start tok.end tok.long h g in ((omega arith, z), ih tok.end z)
    by (Err why) g ih = tt

-- WHAT HOLDS of every text that is read
read_holds : (a : As) → Whole a.start → (s : List ℕ) (st : At) → read_as_of a s ≡ fine st → Holds (length s) 0 st.book.log
unfolding stream
read_holds a w s st e =
    let (xs, f) = follows a w s st e in
    let g = fed a.start xs f.carried in
    all_steps (length s) xs a.start [] (starting a).book st.book 0 0 (whole-grouped w) g (closed-off w (toks xs) (terms xs) g)
    (subst (λ (l : List Placed). Each (Stands (length s)) l) (sym f.tokens) (row_stands _ s 0 zero-le)) (says a w s st xs e f).told
    (start-holds (length s))

sound_log : (n : ℕ) (l : Log) → Holds n 0 l → SoundLog l
sound_log n l h =
    record {
      items = each_map (Good n) SoundItem
          (λ i (f, v). record { kind = f.kind; edge1 = f.edge1; edge2 = f.edge2; group = f.group; values = v }) l.items h.items;
      cells = h.cells;
      entries = h.entries;
    }

inside_log : (n : ℕ) (l : Log) → Holds n 0 l → Each (Inside n) l.items
inside_log n l h =
    each_map (Good n) (Inside n)
    (λ i (f, v). record { place = f.place; first = f.first; first_ends = f.first_ends; second = f.second; second_ends = f.second_ends })
    l.items h.items

-- WHAT IS LEFT IS IN RANGE, of a file and of a patch's cell
pub read_sound : (cr ir : ℕ) (s : List ℕ) (st : At) → read_file cr ir s ≡ fine st → SoundLog st.book.log
read_sound cr ir s st e = sound_log (length s) st.book.log (read_holds (as_file cr ir) a_file s st (sym (file-is cr ir s) ∙ e))

pub cell_sound : (slash : Bool) (unit cr ir : ℕ) (s : List ℕ) (st : At) → read_cell_of slash unit cr ir s ≡ fine st → SoundLog st.book.log
cell_sound slash unit cr ir s st e =
    sound_log (length s) st.book.log (read_holds (as_cell slash unit cr ir) (a_cell slash) s st (sym (cell-is slash unit cr ir s) ∙ e))

-- and the ends stand in the text
pub read_inside : (cr ir : ℕ) (s : List ℕ) (st : At) → read_file cr ir s ≡ fine st → Each (Inside (length s)) st.book.log.items
read_inside cr ir s st e = inside_log (length s) st.book.log (read_holds (as_file cr ir) a_file s st (sym (file-is cr ir s) ∙ e))

pub cell-inside : (slash : Bool) (unit cr ir : ℕ) (s : List ℕ) (st : At) → read_cell_of slash unit cr ir s ≡ fine st →
    Each (Inside (length s)) st.book.log.items
cell-inside slash unit cr ir s st e =
    inside_log (length s) st.book.log (read_holds (as_cell slash unit cr ir) (a_cell slash) s st (sym (cell-is slash unit cr ir s) ∙ e))
