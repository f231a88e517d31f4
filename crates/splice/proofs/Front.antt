-- What stands before a cell: with other room it is read alike; and where a cell may begin, nothing is in hand.
-- Assumes nothing.
use Rattle.std.specs.Prelude.{◌≡◌, refl, Bool, true, false, List, [], ◌∷◌, ℕ, zero, suc, ◌+◌, ◌-◌, ◌≤◌, eqb, ltb, length, ℤ, Result, Ok, Err}
use Rattle.std.proofs.Common.{sym, ap, subst, ◌∙◌, arith, eqb-true, ne_eqb}
use Rattle.std.proofs.Math.Option.{Option, none, some}
use Rattle.classes.specs.Choice.{pick}
use Rattle.tokens.specs.Stream.{Placed}
use Rattle.numbershape.specs.Value.{number_of}
use Rattle.numbershape.specs.declared.NotTime.{NotTime}
use Rattle.grammar.specs.Ll.{non}
use Rattle.grammar.specs.Machine.{Res, fine, bad, ◌then◌, fine_inj, judges}
use Rattle.grammar.specs.Grammar.{Cls, Note, skip, heading, type, top, named, any, finish, edged, end, plain, empty, all, whole, close, Act, note, divide, scaled, unity, joined, cell, entry, time, Term, N, header, timescale, bare, bare1, bare2, bare3, value, first, second, third, more, instance, specs, spec, deltype, deltypes, checks, delays, delay, device, check, end?, values, ◌⇒◌, ◌∣◌, opens, closes, heads, alts, fits, file}
use Rattle.grammar.specs.Grammar as G
use Rattle.grammar.specs.Meaning.{Log, Book, nothing, no_head, no_cell, tidy, noted, overlong, refused≢fine, timed, judge, judge_by}
use Rattle.grammar.specs.Outcome.{no_log}
use Rattle.laws.specs.Walk.{walk, through, agrees, agrees-drop, along_inv, kept_if, kept, some_inj}
use Rattle.laws.specs.Phases.{every, from, to}
use Rattle.laws.specs.Taken.{Taken, terms, toks, tells, opens_cell, opens_entry, those, cell_words, entry_words}
use Rattle.laws.proofs.Judged.{pick_fine}
use Rattle.laws.proofs.Behind.{then_fine, those-cons, Fed}
use Rattle.splice.proofs.Phases.{in_note, in_act}

-- THE ROOM: a book with other room
abbrev pub roomed : ℕ → ℕ → Book → Book
roomed cr ir b = record { opened = b.opened; slash = b.slash; unit = b.unit; cell_room = cr; item_room = ir; log = b.log }

room_simply : (v : Bool) (n q cr ir : ℕ) (d₀ d : Book) → pick v (bad n q) (fine d₀) ≡ fine d →
    pick v (bad n q) (fine (roomed cr ir d₀)) ≡ fine (roomed (cr - 0) (ir - 0) d)
room_simply v n q cr ir d₀ d e =
    let (f, g) = pick_fine v n q (fine d₀) d e in
    let a : cr - 0 ≡ cr = omega arith in
    let b : ir - 0 ≡ ir = omega arith in
    rw (f, a, b) (ap (λ (x : Book). fine (roomed cr ir x)) (fine_inj g))

-- one token, with room enough
room-step : (cr ir : ℕ) (b : Book) (c : Cls) (x : Act) (t : Placed) (d : Book) → (opens_cell x ≡ true → 1 ≤ cr) → (opens_entry x ≡ true → 1 ≤ ir) →
    judge_by b c x t ≡ fine d →
    judge_by (roomed cr ir b) c x t ≡ fine (roomed (cr - pick (opens_cell x) 1 0) (ir - pick (opens_entry x) 1 0) d)
room-step cr ir b c (note n) t d p q e = room_simply (overlong c t) 8 t.start cr ir _ d e
room-step cr ir b c (divide w) t d p q e = room_simply (overlong c t) 8 t.start cr ir _ d e
room-step cr ir b c scaled t d p q e = room_simply (overlong c t) 8 t.start cr ir _ d e
room-step cr ir b c unity t d p q e = room_simply (overlong c t) 8 t.start cr ir _ d e
room-step cr ir b c joined t d p q e = room_simply (overlong c t) 8 t.start cr ir _ d e
room-step cr ir b c cell t d p q e =
    let (v, f) = pick_fine (overlong c t) 8 t.start _ d e in
    let (w, i) = pick_fine (eqb b.cell_room 0) 9 t.start _ d f in
    let room : eqb cr 0 ≡ false = ne_eqb cr 0 (λ z. let y = p refl in omega arith) in
    let none : ir - 0 ≡ ir = omega arith in
    rw (v, room, none) (ap (λ (x : Book). fine (roomed (cr - 1) ir x)) (fine_inj i))
room-step cr ir b c (entry g) t d p q e =
    let (v, f) = pick_fine (overlong c t) 8 t.start _ d e in
    let (w, i) = pick_fine (eqb b.item_room 0) 9 t.start _ d f in
    let room : eqb ir 0 ≡ false = ne_eqb ir 0 (λ z. let y = q refl in omega arith) in
    let none : cr - 0 ≡ cr = omega arith in
    rw (v, room, none) (ap (λ (x : Book). fine (roomed cr (ir - 1) x)) (fine_inj i))
room-step cr ir b c (time s k) t d p q e = by (number_of s b.unit t.bytes) e
  where
    by : (v : Result ℤ NotTime) → timed b c k t v ≡ fine d → timed (roomed cr ir b) c k t v ≡ fine (roomed (cr - 0) (ir - 0) d)
    by (Ok z) e = room_simply (overlong c t) 8 t.start cr ir _ d e
    by (Err y) e = absurd (refused≢fine b c k t y e)

pick-size : (v : Bool) (t : Placed) → pick v 1 0 ≡ length (pick v (t ∷ []) [])
pick-size true t = refl
pick-size false t = refl

needs-one : (f : Act → Bool) (x : Taken) (xs : List Taken) (n : ℕ) → length (those f (x ∷ xs)) ≤ n → f x.by.act ≡ true → 1 ≤ n
needs-one f x xs n h e = let g = rw e at h in omega arith

leaves_rest : (f : Act → Bool) (x : Taken) (xs : List Taken) (n : ℕ) → length (those f (x ∷ xs)) ≤ n →
    length (those f xs) ≤ n - pick (f x.by.act) 1 0
leaves_rest f x xs n h = let y = pick-size (f x.by.act) x.tok in let z = those-cons f x xs in omega arith

-- ALL TOKENS, with room enough: the same book, but for the room
pub read_roomed : (xs : List Taken) (cr ir : ℕ) (b d : Book) → length (cell_words xs) ≤ cr → length (entry_words xs) ≤ ir → tells b xs ≡ fine d →
    (cr' : ℕ) × (ir' : ℕ) × (tells (roomed cr ir b) xs ≡ fine (roomed cr' ir' d))
unfolding judges
read_roomed [] cr ir b d h k e = (cr, ir, ap (λ (x : Book). fine (roomed cr ir x)) (fine_inj e))
read_roomed (x ∷ xs) cr ir b d h k e =
    let (y, f, g) = then_fine (judge b x.by x.tok) (λ y. tells y xs) d e in
    let s = room-step cr ir b x.by.cls x.by.act x.tok y (needs-one opens_cell x xs cr h) (needs-one opens_entry x xs ir k) f in
    let (cr', ir', z) = read_roomed xs (cr - pick (opens_cell x.by.act) 1 0) (ir - pick (opens_entry x.by.act) 1 0) y d
    (leaves_rest opens_cell x xs cr h) (leaves_rest opens_entry x xs ir k) g in
    (cr', ir', ap (λ (r : Res Book). r then (λ v. tells v xs)) s ∙ z)

-- NOTHING IN HAND. Outside the cells (0) the grammar takes tokens of a header and a cell's keyword, inside them the tokens of a cell.
abbrev out_note : ℕ → Note → Option ℕ
out_note q skip = some q
out_note q (heading k) = pick (eqb q 0) (some 0) none
out_note q type = in_note q type
out_note q top = in_note q top
out_note q named = in_note q named
out_note q any = in_note q any
out_note q finish = in_note q finish
out_note q (edged i) = in_note q (edged i)
out_note q (end i) = in_note q (end i)
out_note q (plain i) = in_note q (plain i)
out_note q G.none = in_note q G.none
out_note q empty = in_note q empty
out_note q all = in_note q all
out_note q whole = in_note q whole
out_note q close = in_note q close

abbrev out_act : ℕ → Act → Option ℕ
out_act q (note n) = out_note q n
out_act q (divide d) = pick (eqb q 0) (some 0) none
out_act q scaled = pick (eqb q 0) (some 0) none
out_act q unity = pick (eqb q 0) (some 0) none
out_act q joined = pick (eqb q 0) (some 0) none
out_act q cell = pick (eqb q 0) (some 1) none
out_act q (entry g) = in_act q (entry g)
out_act q (time s k) = in_act q (time s k)

abbrev out_moves : ℕ → Term → Option ℕ
out_moves q c = out_act q c.act

-- THE TEST of the whole table
table : (n : N) → agrees out_moves every from to (from n) (to n) (alts n) ≡ true
unfolding alts walk agrees
table (header k d) = agrees-drop out_moves every from to k 0 0 (heads d) refl
table G.divider = refl
table timescale = refl
table bare = refl
table bare1 = refl
table (bare2 f) = refl
table (bare3 true) = refl
table (bare3 false) = refl
table (value s) = refl
table (first s) = refl
table (second f s) = refl
table (third true s) = refl
table (third false s) = refl
table (more d) = refl
table (instance d) = refl
table (specs d) = refl
table (spec d) = refl
table (deltype d) = refl
table (deltypes true d) = refl
table (deltypes false d) = refl
table (checks true d) = refl
table (checks false d) = refl
table (delays g true d) = refl
table (delays g false d) = refl
table (delay g d) = refl
table (device d) = refl
table (check d) = refl
table (end? i d) = refl
table (values n) = by (ltb n 6)
  where
    by : (v : Bool) → agrees out_moves every from to 2 1
        (closes close ⇒ [] ∣ (pick v (opens ⇒ non (value true) ∷ non (values (n + 1)) ∷ [] ∣ []) [])) ≡ true
    by true = refl
    by false = refl

-- no entry in hand
record Free (l : Log) : Type 0 where
  head : l.head ≡ no_head
  values : l.values ≡ []
  value : l.value ≡ nothing

-- nor a cell
abbrev Idle : ℕ → Log → Type 0
Idle zero l = Free l × (l.begun ≡ no_cell)
Idle (suc zero) l = Free l
Idle (suc (suc q)) l = Unit {0}

turned : (q k p o : ℕ) (l m : Log) → pick (eqb q k) (some o) none ≡ some p → Idle q l → (Idle k l → Idle o m) → Idle p m
turned q k p o l m e h f =
    let (v, g) = kept_if (eqb q k) (some o) p e in
    subst (λ (x : ℕ). Idle x m) (some_inj g) (f (subst (λ (x : ℕ). Idle x l) (eqb-true q k v) h))

free_as : (l m : Log) → m.head ≡ l.head → m.values ≡ l.values → m.value ≡ l.value → Free l → Free m
free_as l m p q r f = record { head = p ∙ f.head; values = q ∙ f.values; value = r ∙ f.value }

note_idle : (k : Note) (t : Placed) (q p : ℕ) (l : Log) → out_note q k ≡ some p → Idle q l → Idle p (noted k t l)
note_idle skip t q p l e h = subst (λ (x : ℕ). Idle x l) (some_inj e) h
note_idle (heading k) t q p l e h = turned q 0 p 0 l _ e h (λ (f, g). (free_as l _ refl refl refl f, g))
note_idle type t q p l e h = turned q 1 p 1 l _ e h (λ f. free_as l _ refl refl refl f)
note_idle top t q p l e h = turned q 1 p 1 l _ e h (λ f. free_as l _ refl refl refl f)
note_idle named t q p l e h = turned q 1 p 1 l _ e h (λ f. free_as l _ refl refl refl f)
note_idle any t q p l e h = turned q 1 p 1 l _ e h (λ f. free_as l _ refl refl refl f)
note_idle finish t q p l e h = turned q 1 p 0 l _ e h (λ f. (free_as l _ refl refl refl f, refl))
note_idle (edged i) t q p l e h = turned q 2 p 2 l _ e h (λ f. tt)
note_idle (end i) t q p l e h = turned q 2 p 2 l _ e h (λ f. tt)
note_idle (plain i) t q p l e h = turned q 2 p 2 l _ e h (λ f. tt)
note_idle G.none t q p l e h = turned q 2 p 2 l _ e h (λ f. tt)
note_idle empty t q p l e h = turned q 2 p 2 l _ e h (λ f. tt)
note_idle all t q p l e h = turned q 2 p 2 l _ e h (λ f. tt)
note_idle whole t q p l e h = turned q 2 p 2 l _ e h (λ f. tt)
note_idle close t q p l e h = turned q 2 p 1 l _ e h (λ f. record { head = refl; values = refl; value = refl })

idle_simply : (v : Bool) (n s p : ℕ) (d₀ d : Book) → Idle p d₀.log → pick v (bad n s) (fine d₀) ≡ fine d → Idle p d.log
idle_simply v n s p d₀ d h e = subst (λ (x : Book). Idle p x.log) (fine_inj (pick_fine v n s (fine d₀) d e).1) h

act_idle : (b : Book) (c : Cls) (x : Act) (t : Placed) (d : Book) (q p : ℕ) → out_act q x ≡ some p → judge_by b c x t ≡ fine d → Idle q b.log →
    Idle p d.log
act_idle b c (note n) t d q p m e h = idle_simply (overlong c t) 8 t.start p _ d (note_idle n t q p b.log m h) e
act_idle b c (divide w) t d q p m e h = idle_simply (overlong c t) 8 t.start p _ d (turned q 0 p 0 b.log b.log m h (λ f. f)) e
act_idle b c scaled t d q p m e h = idle_simply (overlong c t) 8 t.start p _ d (turned q 0 p 0 b.log b.log m h (λ f. f)) e
act_idle b c unity t d q p m e h = idle_simply (overlong c t) 8 t.start p _ d (turned q 0 p 0 b.log b.log m h (λ f. f)) e
act_idle b c joined t d q p m e h = idle_simply (overlong c t) 8 t.start p _ d (turned q 0 p 0 b.log b.log m h (λ f. f)) e
act_idle b c cell t d q p m e h =
    idle_simply (eqb b.cell_room 0) 9 t.start p _ d (turned q 0 p 1 b.log _ m h (λ (f, g). free_as b.log _ refl refl refl f))
    (pick_fine (overlong c t) 8 t.start _ d e).1
act_idle b c (entry g) t d q p m e h =
    idle_simply (eqb b.item_room 0) 9 t.start p _ d (turned q 1 p 2 b.log _ m h (λ f. tt)) (pick_fine (overlong c t) 8 t.start _ d e).1
act_idle b c (time s k) t d q p m e h = by (number_of s b.unit t.bytes) e
  where
    by : (v : Result ℤ NotTime) → timed b c k t v ≡ fine d → Idle p d.log
    by (Ok z) e = idle_simply (overlong c t) 8 t.start p _ d (turned q 2 p 2 b.log _ m h (λ f. tt)) e
    by (Err y) e = absurd (refused≢fine b c k t y e)

all_idle : (xs : List Taken) (b d : Book) (q p : ℕ) → through out_moves every from to q (terms xs) ≡ some p → tells b xs ≡ fine d → Idle q b.log →
    Idle p d.log
unfolding through judges
all_idle [] b d q p m e h =
    subst (λ (x : Book). Idle p x.log) (fine_inj e) (subst (λ (x : ℕ). Idle x b.log) (some_inj m) h)
all_idle (x ∷ xs) b d q p m e h =
    let (o, i, j) = along_inv (out_moves q x.by) _ p m in
    let (y, f, g) = then_fine (judge b x.by x.tok) (λ y. tells y xs) d e in
    all_idle xs y d o p j g (act_idle b x.by.cls x.by.act x.tok y q o i f h)

-- a reading of a file that has come to a cell's keyword, or to a header's: what was read, and nothing in hand
pub tidy_there : (xs : List Taken) (b d : Book) (k : ℕ) (w : Bool) → Fed file xs (non (header k w) ∷ []) → b.log ≡ no_log → tells b xs ≡ fine d →
    d.log ≡ tidy d.log.texts d.log.cells d.log.items
unfolding file walk
tidy_there xs b d k w f n e =
    let (p, a, g) = kept out_moves every from to fits alts table (toks xs) file 0 0 _ refl f in
    by p g (all_idle xs b d 0 p a e (subst (λ (l : Log). Idle 0 l) (sym n) (record { head = refl; values = refl; value = refl }, refl)))
  where
    by : (p : ℕ) → walk out_moves every from to p (non (header k w) ∷ []) ≡ some 0 → Idle p d.log →
        d.log ≡ tidy d.log.texts d.log.cells d.log.items
    by zero g (h, i) = rw (i, h.head, h.values, h.value)
    by (suc p) g h =
        let (o, i, j) = along_inv (pick (eqb (suc p) 0) (some 0) none) (λ x. some x) 0 g in
        let z = eqb-true (suc p) 0 (kept_if (eqb (suc p) 0) (some 0) o i).0 in
        absurd (omega arith)
