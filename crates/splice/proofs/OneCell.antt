-- ONE CELL, wherever it stands: its tokens add one cell with its entries to what was read, and only their places tell where they stand.
-- Assumes nothing.
use Rattle.std.specs.Prelude.{◌≡◌, Bool, ℕ, zero, suc, ◌+◌, ◌-◌, ◌≤◌, ◌<◌, eqb, ℤ, Result, Ok, Err}
use Rattle.std.proofs.Math.Path.{refl, sym, subst}
use Rattle.std.proofs.Common.{ap, ◌∙◌, length-append, eqb-true, ne_eqb}
use Rattle.std.proofs.Math.Bool.{true, false}
use mathlib.Core.List.{List, [], ◌∷◌, ◌++◌, map, append-nil, append_assoc}
use Rattle.std.proofs.Math.Option.{none, some}
use native.Mathlib.Omega.{arith}
use Rattle.std.proofs.Math.ListN.{length}
use Rattle.std.proofs.lemmas.List.{length-map}
use Rattle.classes.specs.Choice.{pick}
use Rattle.tokens.specs.Stream.{Placed}
use Rattle.words.specs.Words.{key_of}
use Rattle.numbershape.specs.Value.{number_of}
use Rattle.numbershape.specs.declared.NotTime.{NotTime}
use Rattle.grammar.specs.declared.Value.{Value}
use Rattle.grammar.specs.declared.Entry.{Entry}
use Rattle.grammar.specs.declared.Cell.{Cell}
use Rattle.grammar.specs.Ll.{none≢some}
use Rattle.grammar.specs.Machine.{Res, fine, bad, ◌then◌, fine_inj, judges}
use Rattle.grammar.specs.Grammar.{Cls, this, text, word, path, port, Note, skip, heading, type, top, named, any, finish, edged, end, plain, empty, all, whole, close, Act, note, divide, scaled, unity, joined, cell, entry, time, Term, cell_tail, opens, key, ◌‼◌}
use Rattle.grammar.specs.Grammar as G
use Rattle.grammar.specs.Meaning.{Item, Begun, Log, Book, nothing, no_head, tidy, valued, pushed, headed, started, item_of, entered, celled, cell_of, finished, edge_put, end_put, edge_of_end, noted, timely, overlong, refused≢fine, timed, begins, told, judge, judge_by}
use Rattle.laws.specs.Walk.{through, along_inv, kept_if, some_inj}
use Rattle.laws.specs.Taken.{Taken, terms, toks, tells, opens_entry, those, entry_words}
use Rattle.laws.specs.Phases.{from, to}
use Rattle.laws.proofs.Judged.{pick_fine, passed}
use Rattle.laws.proofs.Behind.{then_fine, Fed, those-cons}
use Rattle.sound.specs.Sound.{Each}
use Rattle.splice.proofs.Along.{move_tok}
use Rattle.splice.proofs.Swap.{map-append}
use Rattle.splice.proofs.Phases.{in_note, in_act, in_moves, in_cell_of, in_cell}
use Rattle.splice.specs.Moved.{move_at}
use Rattle.splice.proofs.Moved.{move-none, move_some, move-next, move_last, move_cell, move_entry, move_item, move_begun, move_taken, move-no_head}

-- a token that a move from a on may move
abbrev pub Stands : ℕ → Taken → Type 0
Stands a x = (a ≤ x.tok.start) × (1 ≤ x.tok.start) × (x.tok.start < x.tok.end)

-- no entry in hand
record Free (l : Log) : Type 0 where
  head : l.head ≡ no_head
  values : l.values ≡ []
  value : l.value ≡ nothing

-- Two readings of one cell, behind what they read before: texts of the header, cells and entries.
module _ (a c : ℕ) (ts ts' : List ℕ) (cs cs' : List Cell) (is is' : List Item) where
  -- in the cell
  record In (l m : Log) : Type 0 where
    new : List Item
    texts : l.texts ≡ ts
    texts' : m.texts ≡ ts'
    cells : l.cells ≡ cs
    cells' : m.cells ≡ cs'
    items : l.items ≡ is ++ new
    items' : m.items ≡ is' ++ map (move_item a c) new
    before : l.begun.before ≡ length is
    begun : m.begun ≡ move_begun a c (length is') l.begun
    head : m.head ≡ move_entry a c l.head
    values : m.values ≡ l.values
    value : m.value ≡ l.value

  -- behind it
  pub record Done (l m : Log) : Type 0 where
    pub new : List Item
    pub cell : Cell
    pub log : l ≡ tidy ts (cs ++ cell ∷ []) (is ++ new)
    pub log' : m ≡ tidy ts' (cs' ++ move_cell a c cell ∷ []) (is' ++ map (move_item a c) new)
    pub count : cell.entries ≡ length new

  abbrev Mid : ℕ → Log → Log → Type 0
  Mid zero l m = Done l m
  Mid (suc zero) l m = In l m × Free l
  Mid (suc (suc q)) l m = In l m

  -- the logs with something else in hand
  module _ (l m : Log) (h : In l m) where
    with_cell : (b b' : Begun) → b.before ≡ l.begun.before → b' ≡ move_begun a c (length is') b → In (celled b l) (celled b' m)
    with_cell b b' e f =
        record {
          new = h.new;
          texts = h.texts;
          texts' = h.texts';
          cells = h.cells;
          cells' = h.cells';
          items = h.items;
          items' = h.items';
          before = e ∙ h.before;
          begun = f;
          head = h.head;
          values = h.values;
          value = h.value;
        }

    with_head : (e e' : Entry) → e' ≡ move_entry a c e → In (headed e l) (headed e' m)
    with_head e e' f =
        record {
          new = h.new;
          texts = h.texts;
          texts' = h.texts';
          cells = h.cells;
          cells' = h.cells';
          items = h.items;
          items' = h.items';
          before = h.before;
          begun = h.begun;
          head = f;
          values = h.values;
          value = h.value;
        }

    with_value : (v v' : Value) → v' ≡ v → In (valued v l) (valued v' m)
    with_value v v' f =
        record {
          new = h.new;
          texts = h.texts;
          texts' = h.texts';
          cells = h.cells;
          cells' = h.cells';
          items = h.items;
          items' = h.items';
          before = h.before;
          begun = h.begun;
          head = h.head;
          values = h.values;
          value = f;
        }

    with_more : (v v' : Value) → v' ≡ v → In (pushed v l) (pushed v' m)
    with_more v v' f =
        record {
          new = h.new;
          texts = h.texts;
          texts' = h.texts';
          cells = h.cells;
          cells' = h.cells';
          items = h.items;
          items' = h.items';
          before = h.before;
          begun = h.begun;
          head = h.head;
          values = rw (h.values, f);
          value = refl;
        }

    with_start : (k g p p' : ℕ) → p' ≡ move_at a c p → In (started k g p l) (started k g p' m)
    with_start k g p p' f =
        record {
          new = h.new;
          texts = h.texts;
          texts' = h.texts';
          cells = h.cells;
          cells' = h.cells';
          items = h.items;
          items' = h.items';
          before = h.before;
          begun = h.begun;
          head = rw (f, move-none a c);
          values = refl;
          value = h.value;
        }

    -- an entry's closing bracket
    with_item : In (entered (item_of l ∷ []) l) (entered (item_of m ∷ []) m)
    with_item =
        let e : item_of m ≡ move_item a c (item_of l) = rw (h.head, h.values) in
        record {
          new = h.new ++ item_of l ∷ [];
          texts = h.texts;
          texts' = h.texts';
          cells = h.cells;
          cells' = h.cells';
          items = ap (λ (x : List Item). x ++ item_of l ∷ []) h.items ∙ append_assoc is h.new (item_of l ∷ []);
          items' = ap (λ (x : List Item). x ++ item_of m ∷ []) h.items' ∙ (append_assoc is' (map (move_item a c) h.new) (item_of m ∷ [])
              ∙ (ap (λ (x : Item). is' ++ (map (move_item a c) h.new ++ x ∷ [])) e
              ∙ ap (λ (x : List Item). is' ++ x) (sym (map-append (move_item a c) h.new (item_of l ∷ [])))));
          before = h.before;
          begun = h.begun;
          head = sym (move-no_head a c);
          values = refl;
          value = refl;
        }

    -- the cell's closing bracket
    with_finish : Free l → Done (finished l) (finished m)
    with_finish f =
        let n : length l.items - l.begun.before ≡ length h.new =
        rw (h.items, h.before) (omega (arith, length-append is h.new)) in
        let n' : length m.items - m.begun.before ≡ length h.new =
        rw (h.items', h.begun) (omega (arith, length-append is' (map (move_item a c) h.new), length-map h.new (move_item a c))) in
        record {
          new = h.new;
          cell = cell_of l.begun (length h.new);
          log = rw (n, h.texts, h.cells, h.items, f.head, f.values, f.value);
          log' = rw (n', h.texts', h.cells', h.items', h.begun, h.head, h.values, h.value, f.head, f.values, f.value, move-none a c);
          count = refl;
        }

  -- where a reading turns
  turned : (q k p o : ℕ) (l m l' m' : Log) → pick (eqb q k) (some o) none ≡ some p → Mid q l m → (Mid k l m → Mid o l' m') → Mid p l' m'
  turned q k p o l m l' m' e h f =
      let (v, g) = kept_if (eqb q k) (some o) p e in
      subst (λ (x : ℕ). Mid x l' m') (some_inj g) (f (subst (λ (x : ℕ). Mid x l m) (eqb-true q k v) h))

  -- an end with its edge, moved
  edge_moves : (i : Bool) (g : ℕ) (x y : Entry) → y ≡ move_entry a c x → edge_put i g y ≡ move_entry a c (edge_put i g x)
  edge_moves false g x y e = rw e
  edge_moves true g x y e = rw e

  end_moves : (i : Bool) (g b b' e e' : ℕ) (x y : Entry) → y ≡ move_entry a c x → b' ≡ move_at a c b → e' ≡ move_at a c e →
      end_put i g b' e' y ≡ move_entry a c (end_put i g b e x)
  end_moves false g b b' e e' x y f p q = rw (f, p, q)
  end_moves true g b b' e e' x y f p q = rw (f, p, q)

  edge_same : (i : Bool) (x y : Entry) → y ≡ move_entry a c x → edge_of_end i y ≡ edge_of_end i x
  edge_same false x y e = rw e
  edge_same true x y e = rw e

  module _ (t : Placed) (lo : a ≤ t.start) (pos : 1 ≤ t.start) (ahead : t.start < t.end) where
    from-moves : c + (t.start - a) ≡ move_at a c t.start
    from-moves = sym (move_some a c t.start pos)

    to-moves : c + (t.end - a) ≡ move_at a c t.end
    to-moves = sym (move_some a c t.end (omega arith))

    note_mid : (k : Note) (q p : ℕ) (l m : Log) → in_note q k ≡ some p → Mid q l m → Mid p (noted k t l) (noted k (move_tok a c t) m)
    note_mid skip q p l m e h = subst (λ (x : ℕ). Mid x l m) (some_inj e) h
    note_mid (heading k) q p l m e h = absurd (none≢some p e)
    note_mid type q p l m e h =
        turned q 1 p 1 l m _ _ e h
        (λ (i, f). (
          with_cell l m i _ _ refl (rw (i.begun, move-next a c t.start lo, move_last a c t.start t.end lo pos ahead)),
          record { head = f.head; values = f.values; value = f.value },
        ))
    note_mid top q p l m e h =
        turned q 1 p 1 l m _ _ e h
        (λ (i, f). (with_cell l m i _ _ refl (rw (i.begun, move-none a c)), record { head = f.head; values = f.values; value = f.value }))
    note_mid named q p l m e h =
        turned q 1 p 1 l m _ _ e h
        (λ (i, f). (with_cell l m i _ _ refl (rw (i.begun, from-moves, to-moves)), record { head = f.head; values = f.values; value = f.value }))
    note_mid any q p l m e h =
        turned q 1 p 1 l m _ _ e h
        (λ (i, f). (with_cell l m i _ _ refl (rw (i.begun, move-none a c)), record { head = f.head; values = f.values; value = f.value }))
    note_mid finish q p l m e h = turned q 1 p 0 l m _ _ e h (λ (i, f). with_finish l m i f)
    note_mid (edged i) q p l m e h = turned q 2 p 2 l m _ _ e h (λ j. with_head l m j _ _ (edge_moves i _ l.head m.head j.head))
    note_mid (end i) q p l m e h =
        turned q 2 p 2 l m _ _ e h
        (λ j. with_head l m j _ _
        (ap (λ (g : ℕ). end_put i g (c + (t.start - a)) (c + (t.end - a)) m.head) (edge_same i l.head m.head j.head)
        ∙ end_moves i _ _ _ _ _ l.head m.head j.head from-moves to-moves))
    note_mid (plain i) q p l m e h =
        turned q 2 p 2 l m _ _ e h (λ j. with_head l m j _ _ (end_moves i _ _ _ _ _ l.head m.head j.head from-moves to-moves))
    note_mid G.none q p l m e h = turned q 2 p 2 l m _ _ e h (λ j. with_value l m j _ _ refl)
    note_mid empty q p l m e h = turned q 2 p 2 l m _ _ e h (λ j. with_more l m j _ _ refl)
    note_mid all q p l m e h = turned q 2 p 2 l m _ _ e h (λ j. with_more l m j _ _ (rw j.value))
    note_mid whole q p l m e h = turned q 2 p 2 l m _ _ e h (λ j. with_more l m j _ _ j.value)
    note_mid close q p l m e h =
        turned q 2 p 1 l m _ _ e h (λ j. (with_item l m j, record { head = refl; values = refl; value = refl }))

    overlong-same : (k : Cls) → overlong k (move_tok a c t) ≡ overlong k t
    overlong-same (this k) = refl
    overlong-same text = refl
    overlong-same (word i x y) = refl
    overlong-same (path d) = refl
    overlong-same (port d) = refl
    overlong-same (G.number s) = refl

    -- ONE TOKEN in the cell. Nothing but the log and the room changes.
    record Step (b b' d : Book) (p : ℕ) (r : Res Book) : Type 0 where
      d' : Book
      fine' : r ≡ fine d'
      mid : Mid p d.log d'.log
      slash : d.slash ≡ b.slash
      unit : d.unit ≡ b.unit
      slash' : d'.slash ≡ b'.slash
      unit' : d'.unit ≡ b'.unit

    simply : (b b' d₀ d₀' d : Book) (k : Cls) (p : ℕ) → Mid p d₀.log d₀'.log → d₀.slash ≡ b.slash → d₀.unit ≡ b.unit →
        d₀'.slash ≡ b'.slash → d₀'.unit ≡ b'.unit → pick (overlong k t) (bad 8 t.start) (fine d₀) ≡ fine d →
        Step b b' d p (pick (overlong k (move_tok a c t)) (bad 8 (c + (t.start - a))) (fine d₀'))
    simply b b' d₀ d₀' d k p h s u s' u' e =
        let (v, f) = pick_fine (overlong k t) 8 t.start (fine d₀) d e in
        subst (λ (x : Book). Step b b' x p (pick (overlong k (move_tok a c t)) (bad 8 (c + (t.start - a))) (fine d₀'))) (fine_inj f)
        (record { d' = d₀'; fine' = rw (overlong-same k, v); mid = h; slash = s; unit = u; slash' = s'; unit' = u' })

    one-step : (b b' d : Book) (k : Cls) (x : Act) (q p : ℕ) → in_act q x ≡ some p → b'.unit ≡ b.unit → (opens_entry x ≡ true → 1 ≤ b'.item_room) →
        Mid q b.log b'.log → judge_by b k x t ≡ fine d → Step b b' d p (judge_by b' k x (move_tok a c t))
    one-step b b' d k (note n) q p m u r h e = simply b b' _ _ d k p (note_mid n q p b.log b'.log m h) refl refl refl refl e
    one-step b b' d k (divide w) q p m u r h e = absurd (none≢some p m)
    one-step b b' d k scaled q p m u r h e = absurd (none≢some p m)
    one-step b b' d k unity q p m u r h e = absurd (none≢some p m)
    one-step b b' d k joined q p m u r h e = absurd (none≢some p m)
    one-step b b' d k cell q p m u r h e = absurd (none≢some p m)
    one-step b b' d k (entry g) q p m u r h e =
        let (v, f) = pick_fine (overlong k t) 8 t.start _ d e in
        let (w, i) = pick_fine (eqb b.item_room 0) 9 t.start _ d f in
        let room : eqb b'.item_room 0 ≡ false = ne_eqb b'.item_room 0 (λ z. let y = r refl in omega arith) in
        subst (λ (x : Book). Step b b' x p (judge_by b' k (entry g) (move_tok a c t))) (fine_inj i)
        (record {
          d' = record {
            opened = eqb t.kind 2;
            slash = b'.slash;
            unit = b'.unit;
            cell_room = b'.cell_room;
            item_room = b'.item_room - 1;
            log = started (key_of t.bytes) g (c + (t.start - a)) b'.log;
          };
          fine' = rw (overlong-same k, v, room);
          mid = turned q 1 p 2 b.log b'.log _ _ m h (λ (j, _). with_start b.log b'.log j _ g _ _ from-moves);
          slash = refl;
          unit = refl;
          slash' = refl;
          unit' = refl;
        })
    one-step b b' d k (time s n) q p m u r h e =
        subst (λ (y : ℕ). Step b b' d p (timed b' k n (move_tok a c t) (number_of s y t.bytes))) (sym u) (by (number_of s b.unit t.bytes) e)
      where
        by : (v : Result ℤ NotTime) → timed b k n t v ≡ fine d → Step b b' d p (timed b' k n (move_tok a c t) v)
        by (Ok z) e =
            simply b b' _ _ d k p
            (turned q 2 p 2 b.log b'.log _ _ m h (λ j. with_value b.log b'.log j _ _ (ap (timely n z) j.value))) refl refl refl refl e
        by (Err y) e = absurd (refused≢fine b k n t y e)

  -- ALL TOKENS of the cell behind its keyword
  record Steps (b b' d : Book) (p : ℕ) (xs : List Taken) : Type 0 where
    d' : Book
    fine' : tells b' (map (move_taken a c) xs) ≡ fine d'
    mid : Mid p d.log d'.log
    slash : d.slash ≡ b.slash
    unit : d.unit ≡ b.unit
    slash' : d'.slash ≡ b'.slash
    unit' : d'.unit ≡ b'.unit

  all_steps : (xs : List Taken) (b b' d : Book) (q p : ℕ) → through in_moves in_cell_of from to q (terms xs) ≡ some p → Each (Stands a) xs →
      b'.unit ≡ b.unit → length (entry_words xs) ≤ b'.item_room → Mid q b.log b'.log → tells b xs ≡ fine d → Steps b b' d p xs
  unfolding through judges
  all_steps [] b b' d q p m s u r h e =
      subst (λ (x : Book). Steps b b' x p []) (fine_inj e)
      (record { d' = b'; fine' = refl; mid = subst (λ (x : ℕ). Mid x b.log b'.log) (some_inj m) h; slash = refl; unit = refl; slash' = refl; unit' = refl })
  all_steps (x ∷ xs) b b' d q p m ((s0, s1, s2), more) u r h e =
      let (o, i, j) = along_inv (in_moves q x.by) _ p m in
      let (f, g, k) = then_fine (judge b x.by x.tok) (λ y. tells y xs) d e in
      let w = those-cons opens_entry x xs in
      let room : opens_entry x.by.act ≡ true → 1 ≤ b'.item_room = λ v. let z : length (those opens_entry (x ∷ [])) ≡ 1 = rw v in omega arith in
      let z = one-step x.tok s0 s1 s2 b b' f x.by.cls x.by.act q o i u room h g in
      let y = (passed b' (move_taken a c x) z.d' z.fine').entries in
      let size : length (entry_words (move_taken a c x ∷ [])) ≡ length (entry_words (x ∷ [])) = same_size (opens_entry x.by.act) x.tok (move_tok a c x.tok) in
      let n = all_steps xs f z.d' d o p j more (z.unit' ∙ (u ∙ sym z.unit)) (omega arith) z.mid k in
      record {
        d' = n.d';
        fine' = rw z.fine' n.fine';
        mid = n.mid;
        slash = n.slash ∙ z.slash;
        unit = n.unit ∙ z.unit;
        slash' = n.slash' ∙ z.slash';
        unit' = n.unit' ∙ z.unit';
      }
    where
      same_size : (v : Bool) (t t' : Placed) → length (pick v (t' ∷ []) []) ≡ length (pick v (t ∷ []) [])
      same_size true t t' = refl
      same_size false t t' = refl

  -- the cell's keyword
  record Opened (b b' d : Book) (r : Res Book) : Type 0 where
    d' : Book
    fine' : r ≡ fine d'
    in' : In d.log d'.log
    free : Free d.log
    slash : d.slash ≡ b.slash
    unit : d.unit ≡ b.unit
    slash' : d'.slash ≡ b'.slash
    unit' : d'.unit ≡ b'.unit
    room' : d'.item_room ≡ b'.item_room

  keyword-step : (b b' d : Book) (k : Cls) (t : Placed) → a ≤ t.start → 1 ≤ t.start → t.start < t.end → 1 ≤ b'.cell_room → b.log ≡ tidy ts cs is →
      b'.log ≡ tidy ts' cs' is' → judge_by b k cell t ≡ fine d → Opened b b' d (judge_by b' k cell (move_tok a c t))
  keyword-step b b' d k t lo pos ahead r p p' e =
      let (v, f) = pick_fine (overlong k t) 8 t.start _ d e in
      let (w, i) = pick_fine (eqb b.cell_room 0) 9 t.start _ d f in
      let room : eqb b'.cell_room 0 ≡ false = ne_eqb b'.cell_room 0 (λ z. omega arith) in
      subst (λ (x : Book). Opened b b' x (judge_by b' k cell (move_tok a c t))) (fine_inj i)
      (record {
        d' = record {
          opened = eqb t.kind 2;
          slash = b'.slash;
          unit = b'.unit;
          cell_room = b'.cell_room - 1;
          item_room = b'.item_room;
          log = celled (begins (c + (t.start - a)) b'.log) b'.log;
        };
        fine' = rw (overlong-same t lo pos ahead k, v, room);
        in' = record {
          new = [];
          texts = ap (λ (l : Log). l.texts) p;
          texts' = ap (λ (l : Log). l.texts) p';
          cells = ap (λ (l : Log). l.cells) p;
          cells' = ap (λ (l : Log). l.cells) p';
          items = ap (λ (l : Log). l.items) p ∙ sym (append-nil is);
          items' = ap (λ (l : Log). l.items) p' ∙ sym (append-nil is');
          before = ap (λ (l : Log). length l.items) p;
          begun = rw (from-moves t lo pos ahead, move-none a c) (ap (λ (l : Log). begins (move_at a c t.start) l) p');
          head = ap (λ (l : Log). l.head) p' ∙ (sym (move-no_head a c) ∙ ap (λ (l : Log). move_entry a c l.head) (sym p));
          values = ap (λ (l : Log). l.values) p' ∙ ap (λ (l : Log). l.values) (sym p);
          value = ap (λ (l : Log). l.value) p' ∙ ap (λ (l : Log). l.value) (sym p);
        };
        free = record { head = ap (λ (l : Log). l.head) p; values = ap (λ (l : Log). l.values) p; value = ap (λ (l : Log). l.value) p };
        slash = refl;
        unit = refl;
        slash' = refl;
        unit' = refl;
        room' = refl;
      })

-- the tokens of a cell: its opening bracket, its keyword, and what follows
pub record Block (d : Bool) (o w : Taken) (xs : List Taken) : Type 0 where
  pub opener : o.by ≡ opens
  pub keyword : w.by ≡ key 53 ‼ cell
  pub rest : Fed (cell_tail d) xs []

-- Read behind other texts, cells and entries, and at other places, they add the same cell and entries, with their places moved.
pub record Adds (a c : ℕ) (ts ts' : List ℕ) (cs cs' : List Cell) (is is' : List Item) (b b' e : Book) (xs : List Taken) : Type 0 where
  pub e' : Book
  pub told : tells b' (map (move_taken a c) xs) ≡ fine e'
  pub done : Done a c ts ts' cs cs' is is' e.log e'.log
  pub slash : e.slash ≡ b.slash
  pub unit : e.unit ≡ b.unit
  pub slash' : e'.slash ≡ b'.slash
  pub unit' : e'.unit ≡ b'.unit

at-terms : (o w : Taken) (xs : List Taken) (p q : Term) (b : Book) → o.by ≡ p → w.by ≡ q →
    tells b (o ∷ w ∷ xs) ≡ judge b p o.tok then (λ x. judge x q w.tok then (λ y. tells y xs))
unfolding judges
at-terms o w xs p q b e f = rw (← e, ← f)

pub cell-adds : (a c : ℕ) (ts ts' : List ℕ) (cs cs' : List Cell) (is is' : List Item) (d : Bool) (o w : Taken) (xs : List Taken) (b b' e : Book) →
    Block d o w xs → Stands a w → Each (Stands a) xs → b.log ≡ tidy ts cs is → b'.log ≡ tidy ts' cs' is' → b'.unit ≡ b.unit →
    1 ≤ b'.cell_room → length (entry_words xs) ≤ b'.item_room → tells b (o ∷ w ∷ xs) ≡ fine e →
    Adds a c ts ts' cs cs' is is' b b' e (o ∷ w ∷ xs)
cell-adds a c ts ts' cs cs' is is' d o w xs b b' e k (s0, s1, s2) more p p' u r i f =
    let t = move_tok a c o.tok in
    let (x, g, h) = then_fine (judge b opens o.tok) (λ x. judge x (key 53 ‼ cell) w.tok then (λ y. tells y xs)) e (sym (at-terms o w xs opens (key 53 ‼ cell) b k.opener k.keyword) ∙ f) in
    let (y, j, l) = then_fine (judge x (key 53 ‼ cell) w.tok) (λ y. tells y xs) e h in
    let q = fine_inj g in
    let z = keyword-step a c ts ts' cs cs' is is' (told b o.tok b.log) (told b' t b'.log) y (key 53) w.tok s0 s1 s2 r p p'
    (ap (λ (v : Book). judge v (key 53 ‼ cell) w.tok) q ∙ j) in
    let n = all_steps a c ts ts' cs cs' is is' xs y z.d' e 1 0 (in_cell d (toks xs) (terms xs) k.rest) more
    (z.unit' ∙ (u ∙ sym z.unit)) (rw z.room' i) (z.in', z.free) l in
    record {
      e' = n.d';
      told = at-terms (move_taken a c o) (move_taken a c w) (map (move_taken a c) xs) opens (key 53 ‼ cell) b' k.opener k.keyword
          ∙ (ap (λ (v : Res Book). v then (λ y. tells y (map (move_taken a c) xs))) z.fine' ∙ n.fine');
      done = n.mid;
      slash = n.slash ∙ z.slash;
      unit = n.unit ∙ z.unit;
      slash' = n.slash' ∙ z.slash';
      unit' = n.unit' ∙ z.unit';
    }
