-- The grammar's side conditions, each a test that is computed: no token fits two alternatives of one place, and whatever is still
-- waited for can come. With them: what refusal 4 says.
-- Assumes nothing.
use Rattle.std.specs.Prelude.{◌≡◌, refl, Bool, true, false, ◌↔◌, ℕ, zero, suc, ◌≤◌, ◌+◌, eqb, leb, ltb, length, take, drop}
use Rattle.std.proofs.Common.{sym, ap, subst, ◌∙◌, true≢false, ⊎_elim, arith, le_of_suc-le-suc, not-suc-le-zero, zero-le, leb-true, ltb-true, eqb-true}
use mathlib.Core.List.Memᴰ
use mathlib.Core.List.{List, [], ◌∷◌, ◌++◌, append-nil, Memᴰ}
use Rattle.std.proofs.Math.Option.{Option, none, some}
use Prim.Native.String.{String}
use Rattle.std.proofs.lemmas.Bool.{eqb-false}
use Rattle.classes.specs.Choice.{pick, within}
use Rattle.classes.specs.Text.{bytes}
use Rattle.tokens.specs.Stream.{Placed}
use Rattle.words.specs.Words as words
use Rattle.words.specs.Words.{Key, key_of, scale_of, divider_of, edge_of, unit_of}
use Rattle.words.specs.Laws.{both}
use Rattle.nameshape.specs.Shape.{is_name_byte, is_escapable, divider, body_next, bracket_next, name_next, name_run, may_end, is_path, is_port}
use Rattle.numbershape.specs.Shape.{run, signs, digits_then, marked, exponent_fits, fraction_fits, is_number}
use Rattle.grammar.specs.Ll.{non, Alt, Row, choose, feeds, before, both_true, Derives, done, back, complete, stuck, emptied}
use Rattle.grammar.specs.Grammar.{
  Table,
  keys,
  scales,
  dividers,
  edges,
  units,
  Cls,
  this,
  text,
  word,
  path,
  port,
  number,
  close,
  cell,
  Term,
  N,
  header,
  timescale,
  bare,
  bare1,
  bare2,
  bare3,
  value,
  first,
  second,
  third,
  more,
  instance,
  specs,
  spec,
  deltype,
  deltypes,
  checks,
  delays,
  delay,
  device,
  check,
  end?,
  values,
  ◌‼◌,
  ◌⇒◌,
  ◌∣◌,
  opens,
  closes,
  key,
  cell_tail,
  heads,
  alts,
  fits,
  looks,
  kind_of,
  number_in,
  file,
  one_cell_of,
}
use Rattle.grammar.specs.Grammar as G
use Rattle.grammar.specs.Outcome.{Stack}
use Rattle.laws.specs.Walk.{walk, agrees, agrees-drop, kept_if, kept, ends}

-- NO TOKEN FITS TWO ALTERNATIVES OF ONE PLACE

-- two ranges that do not meet
abbrev pub past : ℕ → ℕ → ℕ → ℕ → Bool
past a b c d = pick (ltb b c) true (ltb d a)

abbrev table_number : Table → ℕ
table_number keys = 0
table_number scales = 1
table_number dividers = 2
table_number edges = 3
table_number units = 4

abbrev table_of : ℕ → Table
table_of n = pick (eqb n 0) keys (pick (eqb n 1) scales (pick (eqb n 2) dividers (pick (eqb n 3) edges units)))

-- no token fits both of two classes of one kind, where they are ranges of one table that do not meet
abbrev pub disjoint : Cls → Cls → Bool
disjoint (this k) d = false
disjoint text d = false
disjoint (word t a b) (this k) = false
disjoint (word t a b) text = false
disjoint (word t a b) (word u c d) = pick (eqb (table_number t) (table_number u)) (past a b c d) false
disjoint (word t a b) (path d) = false
disjoint (word t a b) (port d) = false
disjoint (word t a b) (number s) = false
disjoint (path e) d = false
disjoint (port e) d = false
disjoint (number e) d = false

abbrev pub apart : Cls → Cls → Bool
apart c d = pick (eqb (kind_of c) (kind_of d)) (disjoint c d) true

range : (x a b c d : ℕ) → past a b c d ≡ true → within a b x ≡ true → within c d x ≡ true → ⊥
range x a b c d p q r =
    let (e, f) = both (leb a x) (leb x b) q in
    let (g, h) = both (leb c x) (leb x d) r in
    go (ltb b c) refl p (leb-true a x e) (leb-true x b f) (leb-true c x g) (leb-true x d h)
  where
    go : (v : Bool) → ltb b c ≡ v → pick v true (ltb d a) ≡ true → a ≤ x → x ≤ b → c ≤ x → x ≤ d → ⊥
    go true v p e f g h = let z = ltb-true b c v in omega arith
    go false v p e f g h = let z = ltb-true d a p in omega arith

no : {X : Type 0} → false ≡ true → X
no e = absurd (true≢false (sym e))

table_back : (t : Table) → table_of (table_number t) ≡ t
table_back keys = refl
table_back scales = refl
table_back dividers = refl
table_back edges = refl
table_back units = refl

one_table : (t u : Table) → eqb (table_number t) (table_number u) ≡ true → u ≡ t
one_table t u e = sym (table_back u) ∙ (ap table_of (sym (eqb-true (table_number t) (table_number u) e)) ∙ table_back t)

disjoint_sound : (c d : Cls) (w : List ℕ) → disjoint c d ≡ true → looks c w ≡ true → looks d w ≡ true → ⊥
disjoint_sound (this k) d w p q r = no p
disjoint_sound text d w p q r = no p
disjoint_sound (word t a b) (this k) w p q r = no p
disjoint_sound (word t a b) text w p q r = no p
disjoint_sound (word t a b) (word u c d) w p q r =
    let (e, f) = both_true (eqb (table_number t) (table_number u)) (past a b c d) p in
    range (number_in t w) a b c d f q (subst (λ (x : Table). within c d (number_in x w) ≡ true) (one_table t u e) r)
disjoint_sound (word t a b) (path d) w p q r = no p
disjoint_sound (word t a b) (port d) w p q r = no p
disjoint_sound (word t a b) (number s) w p q r = no p
disjoint_sound (path e) d w p q r = no p
disjoint_sound (port e) d w p q r = no p
disjoint_sound (number e) d w p q r = no p

apart_sound : (c d : Term) (t : Placed) → apart c.cls d.cls ≡ true → fits c t ≡ true → fits d t ≡ true → ⊥
apart_sound c d t p q r =
    let (e, f) = both_true (eqb t.kind (kind_of c.cls)) (looks c.cls t.bytes) q in
    let (g, h) = both_true (eqb t.kind (kind_of d.cls)) (looks d.cls t.bytes) r in
    go (eqb (kind_of c.cls) (kind_of d.cls)) refl p (eqb-true t.kind (kind_of c.cls) e) (eqb-true t.kind (kind_of d.cls) g) f h
  where
    go : (v : Bool) → eqb (kind_of c.cls) (kind_of d.cls) ≡ v → pick v (disjoint c.cls d.cls) true ≡ true →
        t.kind ≡ kind_of c.cls → t.kind ≡ kind_of d.cls → looks c.cls t.bytes ≡ true → looks d.cls t.bytes ≡ true → ⊥
    go true v p e g f h = disjoint_sound c.cls d.cls t.bytes p f h
    go false v p e g f h = eqb-false (kind_of c.cls) (kind_of d.cls) v (sym e ∙ g)

abbrev pub apart_from : Cls → List (Alt Term N) → Bool
apart_from c [] = true
apart_from c (a ∷ ys) = pick (apart c a.head.cls) (apart_from c ys) false

-- THE FIRST TEST: any two alternatives of a list are apart
abbrev pub all_apart : List (Alt Term N) → Bool
all_apart [] = true
all_apart (a ∷ ys) = pick (apart_from a.head.cls ys) (all_apart ys) false

from_sound : (c : Term) (l : List (Alt Term N)) (a : Alt Term N) (t : Placed) → apart_from c.cls l ≡ true → Memᴰ a l →
    fits c t ≡ true → fits a.head t ≡ true → ⊥
from_sound c [] a t p m q r = Memᴰ.not-nil m
from_sound c (x ∷ ys) a t p m q r =
    let (e, f) = both_true (apart c.cls x.head.cls) (apart_from c.cls ys) p in
    ⊎_elim (λ z. apart_sound c x.head t e q (rw z at r)) (λ z. from_sound c ys a t f z q r) (Memᴰ.cases_cons m)

pairs : (l : List (Alt Term N)) (a b : Alt Term N) (t : Placed) → all_apart l ≡ true → Memᴰ a l → Memᴰ b l →
    fits a.head t ≡ true → fits b.head t ≡ true → a ≡ b
pairs [] a b t p m n q r = absurd (Memᴰ.not-nil m)
pairs (x ∷ ys) a b t p m n q r =
    let (e, f) = both_true (apart_from x.head.cls ys) (all_apart ys) p in
    ⊎_elim
    (λ y. ⊎_elim (λ z. y ∙ sym z) (λ z. absurd (from_sound x.head ys b t e z (rw y at q) r)) (Memᴰ.cases_cons n))
    (λ y. ⊎_elim (λ z. absurd (from_sound x.head ys a t e y (rw z at r) q)) (λ z. pairs ys a b t f y z q r) (Memᴰ.cases_cons n))
    (Memᴰ.cases_cons m)

apart-drop : (k : ℕ) (l : List (Alt Term N)) → all_apart l ≡ true → all_apart (drop k l) ≡ true
apart-drop zero l e = e
apart-drop (suc k) [] e = refl
apart-drop (suc k) (a ∷ l) e = apart-drop k l (both_true (apart_from a.head.cls l) (all_apart l) e).1

-- computed for every place of the grammar
tested : (n : N) → all_apart (alts n) ≡ true
unfolding alts
tested (header k d) = apart-drop k (heads d) refl
tested G.divider = refl
tested timescale = refl
tested bare = refl
tested bare1 = refl
tested (bare2 f) = refl
tested (bare3 true) = refl
tested (bare3 false) = refl
tested (value s) = refl
tested (first s) = refl
tested (second f s) = refl
tested (third true s) = refl
tested (third false s) = refl
tested (more d) = refl
tested (instance d) = refl
tested (specs d) = refl
tested (spec d) = refl
tested (deltype d) = refl
tested (deltypes true d) = refl
tested (deltypes false d) = refl
tested (checks true d) = refl
tested (checks false d) = refl
tested (delays g true d) = refl
tested (delays g false d) = refl
tested (delay g d) = refl
tested (device d) = refl
tested (check d) = refl
tested (end? i d) = refl
tested (values n) = by (ltb n 6)
  where
    by : (v : Bool) → all_apart (closes close ⇒ [] ∣ (pick v (opens ⇒ non (value true) ∷ non (values (n + 1)) ∷ [] ∣ []) [])) ≡ true
    by true = refl
    by false = refl

pub sdf_apart : (n : N) (a b : Alt Term N) (t : Placed) → Memᴰ a (alts n) → Memᴰ b (alts n) →
    fits a.head t ≡ true → fits b.head t ≡ true → a ≡ b
sdf_apart n a b t m k p q = pairs (alts n) a b t (tested n) m k p q

-- WHATEVER IS STILL WAITED FOR CAN COME

-- tokens as they are written: a mark by its kind, 6 for an empty string; a word
abbrev written : ℕ → String
written k = pick (eqb k 2) "(" (pick (eqb k 3) ")" (pick (eqb k 4) ":" (pick (eqb k 5) "*" "\"\"")))

abbrev mark : ℕ → Placed
mark k = record { kind = k; start = 0; end = 0; long = false; bytes = bytes (written k) }

abbrev spelt : List ℕ → Placed
spelt w = record { kind = 7; start = 0; end = 0; long = false; bytes = w }

abbrev says : String → Placed
says w = spelt (bytes w)

-- tokens that complete a check, a delay, a group, a file from its first cell's keyword on
abbrev a_check : List Placed
a_check = says "WIDTH" ∷ says "a" ∷ mark 2 ∷ mark 3 ∷ mark 3 ∷ []

abbrev a_delay : List Placed
a_delay = says "PORT" ∷ says "a" ∷ mark 2 ∷ mark 3 ∷ mark 3 ∷ []

abbrev a_group : List Placed
a_group = says "ABSOLUTE" ∷ mark 2 ∷ a_delay ++ mark 3 ∷ mark 3 ∷ []

abbrev cell_word : Placed
cell_word = says "CELL"

abbrev cell_rest : List Placed
cell_rest = mark 2 ∷ says "CELLTYPE" ∷ mark 6 ∷ mark 3 ∷ mark 2 ∷ says "INSTANCE" ∷ mark 3 ∷ mark 3 ∷ mark 3 ∷ []

-- and each place
abbrev samples : N → List Placed
samples (header k d) = cell_word ∷ cell_rest
samples G.divider = says "." ∷ mark 3 ∷ mark 2 ∷ cell_word ∷ cell_rest
samples timescale = says "1fs" ∷ []
samples bare = says "1" ∷ mark 3 ∷ []
samples bare1 = mark 3 ∷ []
samples (bare2 f) = says "1" ∷ mark 4 ∷ mark 3 ∷ []
samples (bare3 f) = says "1" ∷ mark 3 ∷ []
samples (value s) = mark 3 ∷ []
samples (first s) = mark 3 ∷ []
samples (second f s) = says "1" ∷ mark 4 ∷ mark 3 ∷ []
samples (third f s) = says "1" ∷ mark 3 ∷ []
samples (more d) = mark 3 ∷ []
samples (instance d) = mark 3 ∷ []
samples (specs d) = mark 3 ∷ []
samples (spec d) = says "TIMINGCHECK" ∷ mark 2 ∷ a_check ++ mark 3 ∷ mark 3 ∷ []
samples (deltype d) = a_group
samples (deltypes f d) = mark 2 ∷ a_group
samples (checks f d) = mark 2 ∷ a_check ++ mark 3 ∷ []
samples (delays g f d) = mark 2 ∷ a_delay ++ mark 3 ∷ []
samples (delay g d) = a_delay
samples (device d) = says "a" ∷ mark 2 ∷ mark 3 ∷ mark 3 ∷ []
samples (check d) = a_check
samples (end? i d) = says "a" ∷ []
samples (values n) = mark 3 ∷ []

-- every place may come; of the header's entries there are ten, and then the first cell
abbrev pub may : N → Bool
may (header k d) = leb k 10
may G.divider = true
may timescale = true
may bare = true
may bare1 = true
may (bare2 f) = true
may (bare3 f) = true
may (value s) = true
may (first s) = true
may (second f s) = true
may (third f s) = true
may (more d) = true
may (instance d) = true
may (specs d) = true
may (spec d) = true
may (deltype d) = true
may (deltypes f d) = true
may (checks f d) = true
may (delays g f d) = true
may (delay g d) = true
may (device d) = true
may (check d) = true
may (end? i d) = true
may (values n) = true

abbrev unfit : Placed → List (Alt Term N) → Bool
unfit t [] = true
unfit t (x ∷ xs) = pick (fits x.head t) false (unfit t xs)

-- a token that fits only the last alternative is taken by that, however many are dropped before it
last_chosen : (xs : List (Alt Term N)) (y : Alt Term N) (t : Placed) (k : ℕ) → k ≤ length xs → unfit t xs ≡ true → fits y.head t ≡ true →
    choose fits (drop k (xs ++ y ∷ [])) t ≡ some y
last_chosen [] y t zero h u f = rw f
last_chosen [] y t (suc k) h u f = absurd (not-suc-le-zero h)
last_chosen (x ∷ xs) y t zero h u f = by (fits x.head t) refl u (λ v. last_chosen xs y t zero zero-le v f)
  where
    by : (b : Bool) → fits x.head t ≡ b → pick b false (unfit t xs) ≡ true → (unfit t xs ≡ true → choose fits (xs ++ y ∷ []) t ≡ some y) →
        choose fits (x ∷ (xs ++ y ∷ [])) t ≡ some y
    by true e u ih = absurd (true≢false (sym u))
    by false e u ih = rw e (ih u)
last_chosen (x ∷ xs) y t (suc k) h u f = last_chosen xs y t k (le_of_suc-le-suc h) (by (fits x.head t) u) f
  where
    by : (b : Bool) → pick b false (unfit t xs) ≡ true → unfit t xs ≡ true
    by true u = absurd (true≢false (sym u))
    by false u = u

-- the keyword of the first cell may come in place of any header entry
cell-chosen : (d : Bool) (k : ℕ) → k ≤ 10 → choose fits (drop k (heads d)) cell_word ≡ some (key 53 ‼ cell ⇒ cell_tail d ++ non (more d) ∷ [])
unfolding key_of
cell-chosen d k h = last_chosen (take 10 (heads d)) (key 53 ‼ cell ⇒ cell_tail d ++ non (more d) ∷ []) cell_word k h refl refl

completed : (d : Bool) → emptied fits alts (feeds fits alts (cell_tail d ++ non (more d) ∷ []) cell_rest) ≡ true
unfolding alts feeds key_of scale_of divider_of edge_of unit_of is_name_byte is_escapable divider body_next bracket_next name_next name_run may_end is_path is_port
    run signs digits_then marked exponent_fits fraction_fits is_number
completed true = refl
completed false = refl

unlabelled : (c : Term) (o : Option (Row Term N)) → emptied fits alts o ≡ true → emptied fits alts (before c o) ≡ true
unlabelled c none e = e
unlabelled c (some r) e = e

header_completes : (k : ℕ) (d : Bool) → k ≤ 10 → emptied fits alts (feeds fits alts (non (header k d) ∷ []) (cell_word ∷ cell_rest)) ≡ true
unfolding alts feeds
header_completes k d h =
    rw (cell-chosen d k h) (unlabelled (key 53 ‼ cell) (feeds fits alts (cell_tail d ++ non (more d) ∷ []) cell_rest) (completed d))

-- THE SECOND TEST: the samples complete their places
completes : (n : N) → may n ≡ true → emptied fits alts (feeds fits alts (non n ∷ []) (samples n)) ≡ true
unfolding alts feeds key_of scale_of divider_of edge_of unit_of is_name_byte is_escapable divider body_next bracket_next name_next name_run may_end is_path is_port
    run signs digits_then marked exponent_fits fraction_fits is_number
completes (header k d) m = header_completes k d (leb-true k 10 m)
completes G.divider m = refl
completes timescale m = refl
completes bare m = refl
completes bare1 m = refl
completes (bare2 true) m = refl
completes (bare2 false) m = refl
completes (bare3 true) m = refl
completes (bare3 false) m = refl
completes (value true) m = refl
completes (value false) m = refl
completes (first true) m = refl
completes (first false) m = refl
completes (second true true) m = refl
completes (second true false) m = refl
completes (second false true) m = refl
completes (second false false) m = refl
completes (third true true) m = refl
completes (third true false) m = refl
completes (third false true) m = refl
completes (third false false) m = refl
completes (more true) m = refl
completes (more false) m = refl
completes (instance true) m = refl
completes (instance false) m = refl
completes (specs true) m = refl
completes (specs false) m = refl
completes (spec true) m = refl
completes (spec false) m = refl
completes (deltype true) m = refl
completes (deltype false) m = refl
completes (deltypes true true) m = refl
completes (deltypes true false) m = refl
completes (deltypes false true) m = refl
completes (deltypes false false) m = refl
completes (checks true true) m = refl
completes (checks true false) m = refl
completes (checks false true) m = refl
completes (checks false false) m = refl
completes (delays g true true) m = refl
completes (delays g true false) m = refl
completes (delays g false true) m = refl
completes (delays g false false) m = refl
completes (delay g true) m = refl
completes (delay g false) m = refl
completes (device true) m = refl
completes (device false) m = refl
completes (check true) m = refl
completes (check false) m = refl
completes (end? i true) m = refl
completes (end? i false) m = refl
completes (values n) m = refl

-- a word with this number in a table
abbrev word_at : List Key → ℕ → List ℕ
word_at [] n = []
word_at (k ∷ ks) n = pick (eqb k.number n) k.word (word_at ks n)

-- a token of each class
abbrev sample_of : Cls → Placed
sample_of (this k) = mark k
sample_of text = mark 6
sample_of (word keys a b) = spelt (word_at words.keywords a)
sample_of (word scales a b) = spelt (word_at words.scales a)
sample_of (word dividers a b) = spelt (word_at words.dividers a)
sample_of (word edges a b) = spelt (word_at words.edges a)
sample_of (word units a b) = spelt (word_at words.units a)
sample_of (path d) = says "a"
sample_of (port d) = says "a"
sample_of (number s) = says "1"

abbrev sample : Term → Placed
sample c = sample_of c.cls

-- a terminal may come if its sample fits it
abbrev comes : ℕ → Term → Option ℕ
comes q c = pick (fits c (sample c)) (some q) none

abbrev nought : N → ℕ
nought n = 0

-- THE THIRD TEST: all that stands in the table may come
table : (n : N) → agrees comes may nought nought 0 0 (alts n) ≡ true
unfolding walk agrees alts feeds key_of scale_of divider_of edge_of unit_of is_name_byte is_escapable divider body_next bracket_next name_next name_run may_end
    is_path is_port run signs digits_then marked exponent_fits fraction_fits is_number
table (header k true) = agrees-drop comes may nought nought k 0 0 (heads true) refl
table (header k false) = agrees-drop comes may nought nought k 0 0 (heads false) refl
table G.divider = refl
table timescale = refl
table bare = refl
table bare1 = refl
table (bare2 true) = refl
table (bare2 false) = refl
table (bare3 true) = refl
table (bare3 false) = refl
table (value true) = refl
table (value false) = refl
table (first true) = refl
table (first false) = refl
table (second true true) = refl
table (second true false) = refl
table (second false true) = refl
table (second false false) = refl
table (third true true) = refl
table (third true false) = refl
table (third false true) = refl
table (third false false) = refl
table (more true) = refl
table (more false) = refl
table (instance true) = refl
table (instance false) = refl
table (specs true) = refl
table (specs false) = refl
table (spec true) = refl
table (spec false) = refl
table (deltype true) = refl
table (deltype false) = refl
table (deltypes true true) = refl
table (deltypes true false) = refl
table (deltypes false true) = refl
table (deltypes false false) = refl
table (checks true true) = refl
table (checks true false) = refl
table (checks false true) = refl
table (checks false false) = refl
table (delays g true true) = refl
table (delays g true false) = refl
table (delays g false true) = refl
table (delays g false false) = refl
table (delay g true) = refl
table (delay g false) = refl
table (device true) = refl
table (device false) = refl
table (check true) = refl
table (check false) = refl
table (end? i true) = refl
table (end? i false) = refl
table (values n) = by (ltb n 6)
  where
    by : (v : Bool) → agrees comes may nought nought 0 0
        (closes close ⇒ [] ∣ (pick v (opens ⇒ non (value true) ∷ non (values (n + 1)) ∷ [] ∣ []) [])) ≡ true
    by true = refl
    by false = refl

-- WHAT A TEXT MAY BE: a whole file, or a patch's one cell
pub data Whole : Stack → Type 0 where
  a_file : Whole file
  a_cell : (d : Bool) → Whole (one_cell_of d)

may_come : {ss : Stack} → Whole ss → walk comes may nought nought 0 ss ≡ some 0
unfolding file one_cell_of walk alts feeds key_of scale_of divider_of edge_of unit_of is_name_byte is_escapable divider body_next bracket_next name_next name_run
    may_end is_path is_port run signs digits_then marked exponent_fits fraction_fits is_number
may_come a_file = refl
may_come (a_cell true) = refl
may_come (a_cell false) = refl

-- 'the tokens .. begin some carried file' (or cell)
abbrev pub Begins : Stack → List Placed → Type 0
Begins ss ts = (us : List Placed) × (cs : List Term) × Derives fits alts ss (ts ++ us) cs

-- the machine is fed to the end exactly where the tokens are a carried file (or cell)
pub sdf_complete : (ss : Stack) (ts : List Placed) (cs : List Term) →
    Derives fits alts ss ts cs ↔ (feeds fits alts ss ts ≡ some (record { labels = cs; left = [] }))
sdf_complete ss ts cs = (
  complete fits alts sdf_apart ts ss cs,
  λ e. subst (λ (x : List Placed). Derives fits alts ss x cs) (append-nil ts)
      (subst (λ (x : List Term). Derives fits alts ss (ts ++ []) x) (append-nil cs) (back fits alts ts [] ss _ [] e done)),
)

-- what is still waited for can come
pub sdf_ends : {ss : Stack} → Whole ss → (ts : List Placed) (r : Row Term N) → feeds fits alts ss ts ≡ some r →
    (us : List Placed) × (cs : List Term) × Derives fits alts r.left us cs
sdf_ends {ss} w ts r e =
    let (p, a, b) = kept comes may nought nought fits alts table ts ss 0 0 r (may_come w) e in
    ends comes may nought nought fits alts table sample samples (λ q c p m. (kept_if (fits c (sample c)) (some q) p m).0) completes r.left p 0 b

-- REFUSAL 4'S WORDING. As long as the machine goes on, the tokens so far begin some carried file (or cell), with the terminals that took them
pub sdf_begins : {ss : Stack} → Whole ss → (ts : List Placed) (r : Row Term N) → feeds fits alts ss ts ≡ some r →
    (us : List Placed) × (cs : List Term) × Derives fits alts ss (ts ++ us) (r.labels ++ cs)
sdf_begins {ss} w ts r e = let (us, cs, d) = sdf_ends w ts r e in (us, cs, back fits alts ts us ss r cs e d)

-- and where it stops, nothing derived begins with these tokens
pub sdf_stuck : (ss : Stack) (ts : List Placed) → feeds fits alts ss ts ≡ none → Begins ss ts → ⊥
sdf_stuck ss ts e (us, cs, d) = stuck fits alts sdf_apart ts us ss cs e d
