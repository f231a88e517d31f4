-- 'Patching is annotating with the new file': demand 3, with the new file's own text. Joins the law of the new file's reading (crate splice) and that
-- of the patch's answer (crate patch).
-- Assumes nothing.
use Prim.Native.Nat.{ℕ, zero, suc, ◌+◌, ◌-◌, ◌<◌, ◌≤◌}
use Rattle.std.specs.Prelude.{◌≡◌, Bool, ◌↔◌, eqb, take, drop}
use Rattle.std.proofs.Math.Path.{refl, sym, ap}
use Rattle.std.proofs.Common.{◌∙◌, subst, true≢false, le_refl, drop-drop, drop_at, lt-ltb, le-ltb, ne_eqb, eq-eqb}
use Rattle.std.proofs.Math.Bool.{true, false}
use mathlib.Core.List.{List, [], ◌∷◌, ◌++◌, map}
use Rattle.std.proofs.Math.Option.{Option, some}
use native.Mathlib.Omega.{arith}
use Rattle.std.proofs.Math.ListN.{length, length-drop}
use Rattle.std.proofs.Math.Seq.{take-append-le, drop-append-le}
use Rattle.tokens.specs.Stream.{stream}
use Rattle.grammar.specs.declared.Cell as read
use Rattle.grammar.specs.Machine.{fine}
use Rattle.grammar.specs.Ll.{non, Row, feeds}
use Rattle.grammar.specs.Grammar.{Term, N, header, opens, file, one_cell_of}
use Rattle.grammar.specs.Meaning.{Item, Log, Book}
use Rattle.grammar.specs.Reading.{At}
use Rattle.grammar.specs.Outcome.{Stack, text_limit, read_file, read_cell_of}
use Rattle.laws.specs.Walk.{some_inj}
use Rattle.laws.specs.Taken.{as_file, starting, Taken, toks, cell_words}
use Rattle.laws.proofs.Behind.{Fed, fed}
use Rattle.laws.proofs.Exactly.{read_exactly, cell_exactly, read_says}
use Rattle.patch.specs.Sound.{Each, total, cell_sound}
use Rattle.patch.specs.One.{cell_slash}
use Rattle.splice.specs.Moved.{move_at}
use Rattle.splice.proofs.Moved.{move-none, move_some, move_cell, move_item}
use Rattle.splice.proofs.OneCell.{Stands}
use Rattle.splice.proofs.Blocks.{Takes}
use Rattle.splice.proofs.Several.{each_left, each_right}
use Rattle.splice.proofs.Near.{SameCell, SameItem}
use Rattle.splice.proofs.Names.{StandsIn}
use Rattle.splice.proofs.Shape.{is_header}
use Rattle.splice.specs.Span.{cell_from, cell_to, taken_of, new_file_of}
use Rattle.splice.proofs.Span.{taken_is, CellAt, cell-at, Tail, tail_of}
use Rattle.splice.proofs.Carried.{incoming, lit-taken}
use Rattle.splice.proofs.Parts.{old, old_keeps, old_stands, entries_at, behind_token, from1, to1}
use Rattle.splice.proofs.Splice.{Spliced, splice}
use Rattle.wire.specs.Wire.{Bytes}
use Rattle.sheetparts.specs.Form.{Good, check_of}
use Rattle.sheetlaws.specs.Sheet.{Sheet, decode}
use Rattle.history.specs.Events.{Answer, sheet, refused}
use Rattle.history.specs.Sheet.{Slot, Values, Cell, Cut, cut, behind, swapped}
use Rattle.history.specs.Sheet as history
use Rattle.history.specs.Places.{renamed_entry, renamed_cell, renamed_answer}
use Rattle.patch.specs.Slots.{values_of, sheet_at}
use Rattle.patch.specs.Instances.{records_at}
use Rattle.patch.specs.Says.{name_at, entry_of, part_at, cell_of, cells_of}
use Rattle.patch.specs.CellList.{each_take, each-drop}
use Rattle.patch.specs.Annotated.TheVariants as annotated
use Rattle.patch.specs.Annotating as annotating
use Rattle.patch.specs.Where.{Where, at}
use Rattle.patch.specs.CellRuns.{cells-length}
use Rattle.patch.specs.Patched.TheVariants as patched
use Rattle.patch.specs.Swapped.{says_of, sheet_of}
use Rattle.patch.specs.Meaning.{said, first_cell, Course, course, answer_of, current_of}
use Rattle.patch.specs.Demand.{patch-is_annotating, accepted}
use Rattle.demand.specs.Demand.{moved}

pub moved_front : (p q p' q' x : ℕ) → StandsIn 0 p x → moved p q p' q' (at false x) ≡ x
unfolding moved
moved_front p q p' q' x (a, b, c) = rw (lt-ltb x p c)

pub moved_incoming : (p q p' q' x : ℕ) → StandsIn p' q' x → moved p q p' q' (at true x) ≡ move_at p' p x
unfolding moved
moved_incoming p q p' q' x (a, b, c) = sym (move_some p' p x a)

pub moved-behind : (p q p' q' n x : ℕ) → p ≤ q → StandsIn q n x → moved p q p' q' (at false x) ≡ move_at q (p + (q' - p')) x
unfolding moved
moved-behind p q p' q' n x h (a, b, c) = rw (le-ltb x p (omega arith)) (sym (move_some q (p + (q' - p')) x a))

-- 2. What is listed of a text says the same in another, where its names have the same bytes

map_same : {A : Type 0} (l : List A) → map (λ (a : A). a) l ≡ l
map_same [] = refl
map_same {A} (a ∷ l) = ap (λ (x : List A). a ∷ x) (map_same l)

map-take : {A B : Type 0} (f : A → B) (k : ℕ) (l : List A) → take k (map f l) ≡ map f (take k l)
map-take f zero l = refl
map-take f (suc k) [] = refl
map-take {A} {B} f (suc k) (a ∷ l) = ap (λ (x : List B). f a ∷ x) (map-take f k l)

map-drop : {A B : Type 0} (f : A → B) (k : ℕ) (l : List A) → drop k (map f l) ≡ map f (drop k l)
map-drop f zero l = refl
map-drop f (suc k) [] = refl
map-drop f (suc k) (a ∷ l) = map-drop f k l

map-append : {A B : Type 0} (f : A → B) (x y : List A) → map f (x ++ y) ≡ map f x ++ map f y
map-append f [] y = refl
map-append f (a ∷ x) y = rw (map-append f x y)

length-map : {A B : Type 0} (f : A → B) (l : List A) → length (map f l) ≡ length l
length-map f [] = refl
length-map f (a ∷ l) = ap suc (length-map f l)

-- an entry i of the text s, and i' of the text n: alike but for where they stand
record LikeItem (g : Where → ℕ) (side : Bool) (s n : List ℕ) (i i' : Item) : Type 0 where
  place : i'.head.place ≡ g (at side i.head.place)
  kind : i'.head.kind ≡ i.head.kind
  group : i'.head.group ≡ i.head.group
  edge1 : i'.head.edge1 ≡ i.head.edge1
  edge2 : i'.head.edge2 ≡ i.head.edge2
  values : i'.values ≡ i.values
  missing : eqb i'.head.to1 0 ≡ eqb i.head.to1 0
  names : SameItem s i n i'

record LikeCell (g : Where → ℕ) (side : Bool) (s n : List ℕ) (c c' : read.Cell) : Type 0 where
  place : c'.place ≡ g (at side c.place)
  sort : c'.sort ≡ c.sort
  entries : c'.entries ≡ c.entries
  names : SameCell s c n c'

module _ (g : Where → ℕ) (side : Bool) (s n : List ℕ) (slash : Bool) where
  like_entry : (i i' : Item) → LikeItem g side s n i i' → entry_of (λ p. p) n slash i' ≡ renamed_entry g (entry_of (at side) s slash i)
  unfolding entry_of renamed_entry name_at
  like_entry i i' L =
      rw (L.place, L.kind, L.group, L.edge1, L.edge2, L.values, L.missing, L.names.0, L.names.1)

  module _ (f : Item → Item) (h : read.Cell → read.Cell) where
    like_entries : (is : List Item) → Each (λ i. LikeItem g side s n i (f i)) is
        → map (entry_of (λ p. p) n slash) (map f is) ≡ map (renamed_entry g) (map (entry_of (at side) s slash) is)
    like_entries [] e = refl
    like_entries (i ∷ is) e = rw (like_entry i (f i) e.0, like_entries is e.1)

    like_cell : (c : read.Cell) (l : List Item) → LikeCell g side s n c (h c) → Each (λ i. LikeItem g side s n i (f i)) l
        → cell_of (λ p. p) n slash (h c) (map f l) ≡ renamed_cell g (cell_of (at side) s slash c l)
    unfolding cell_of renamed_cell part_at name_at
    like_cell c l L e = rw (L.place, L.sort, L.names.0, L.names.1, like_entries l e)

    like_cells : (cs : List read.Cell) (is : List Item) → Each (λ c. LikeCell g side s n c (h c)) cs → Each (λ i. LikeItem g side s n i (f i)) is
        → cells_of (λ p. p) n slash (map h cs) (map f is) ≡ map (renamed_cell g) (cells_of (at side) s slash cs is)
    unfolding cells_of
    like_cells [] is a e = refl
    like_cells (c ∷ cs) is a e =
        ap (λ (m : ℕ). cell_of (λ p. p) n slash (h c) (take m (map f is)) ∷ cells_of (λ p. p) n slash (map h cs) (drop m (map f is))) a.0.entries
        ∙ rw (
          map-take f c.entries is,
          map-drop f c.entries is,
          like_cell c (take c.entries is) a.0 (each_take (λ i. LikeItem g side s n i (f i)) is e c.entries),
          like_cells cs (drop c.entries is) a.1 (each-drop (λ i. LikeItem g side s n i (f i)) is e c.entries),
        )

-- cells with their entries, in two parts
module _ {Word : Type 0} (word : ℕ → Word) (text : List ℕ) (slash : Bool) where
  cells-append : (x y : List read.Cell) (is : List Item)
      → cells_of word text slash (x ++ y) is ≡ cells_of word text slash x is ++ cells_of word text slash y (drop (total x) is)
  unfolding cells_of total
  cells-append [] y is = refl
  cells-append (c ∷ x) y is =
      ap (λ (l : List (Cell Word)). cell_of word text slash c (take c.entries is) ∷ l)
      (cells-append x y (drop c.entries is) ∙ rw (drop-drop (total x) c.entries is))

  cells_short : (x : List read.Cell) (is js : List Item) → total x ≤ length is → cells_of word text slash x (is ++ js) ≡ cells_of word text slash x is
  unfolding cells_of total
  cells_short [] is js h = refl
  cells_short (c ∷ x) is js h =
      rw (
        take-append-le c.entries is js (omega arith),
        drop-append-le c.entries is js (omega arith),
        cells_short x (drop c.entries is) js (omega (arith, length-drop c.entries is)),
      )

  cells-split : (x y : List read.Cell) (is js : List Item) → total x ≡ length is
      → cells_of word text slash (x ++ y) (is ++ js) ≡ cells_of word text slash x is ++ cells_of word text slash y js
  cells-split x y is js h =
      cells-append x y (is ++ js)
      ∙ rw (cells_short x is js (omega arith), drop_at is js (total x) (sym h))

-- number k of a list in two parts
cut_mid : {A : Type 0} (x : List A) (a : A) (rest : List A) → cut (x ++ (a ∷ rest)) (suc (length x)) ≡ some (record { before = x; one = a; after = rest })
unfolding cut behind
cut_mid [] a rest = refl
cut_mid (y ∷ x) a rest = rw (cut_mid x a rest)

cut-same : {A : Type 0} (p q : Cut A) → ◌≡◌ {A = Option (Cut A)} (some p) (some q) → p ≡ q
cut-same p q e = cc

-- 3. Where the cells stand: the file's behind a bracket, and it does not end before it starts

no_file : (o : Taken) (l : Stack) (k : ℕ) (d : Bool) → Fed file [] l → Takes l o (non (header k d) ∷ []) → ⊥
unfolding feeds file
no_file o l k d f t =
    let e : file ≡ l = ap (λ (r : Row Term N). r.left) (some_inj f) in
    let g : Takes file o (non (header k d) ∷ []) = subst (λ (x : Stack). Takes x o (non (header k d) ∷ [])) (sym e) t in
    true≢false (ap is_header (lit-taken opens _ (non (header k d) ∷ []) o g).1)

module _ (s : List ℕ) (xs : List Taken) (n : ℕ) (b : Book) (C : CellAt xs n b) (T : Tail C.cs) (e : (stream s 0).toks ≡ toks xs) where
  behind-first : 1 ≤ C.o.tok.start
  behind-first = by C.hs (e ∙ ap toks C.split) C.front
    where
      by : (hs : List Taken) → (stream s 0).toks ≡ toks (hs ++ (C.o ∷ C.w ∷ (C.cs ++ C.zs))) → Fed file hs C.l → 1 ≤ C.o.tok.start
      by [] h f = absurd (no_file C.o C.l C.k C.d f C.opener)
      by (x ∷ hs) h f =
          (each_right (Stands 0) hs (C.o ∷ C.w ∷ (C.cs ++ C.zs)) (behind_token s [] x (hs ++ (C.o ∷ C.w ∷ (C.cs ++ C.zs))) 0 h (omega arith)).1).0.1

  ends_behind : C.o.tok.start ≤ T.x.tok.end
  ends_behind =
      let (a, h) = behind_token s C.hs C.o (C.w ∷ (C.cs ++ C.zs)) C.o.tok.end (e ∙ ap toks C.split) (le_refl C.o.tok.end) in
      let i = each_left (Stands C.o.tok.end) C.cs C.zs h.1 in
      let j = each_right (Stands C.o.tok.end) T.ms (T.x ∷ []) (subst (Each (Stands C.o.tok.end)) T.split i) in
      let (u, v, w) = j.0 in
      omega arith

pub cell_stands : (cr ir : ℕ) (s : List ℕ) (st : At) (k cr2 ir2 : ℕ) (t : List ℕ) (st2 : At)
    → read_file cr ir s ≡ fine st → 1 ≤ k → k ≤ length st.book.log.cells → read_cell_of st.book.slash st.book.unit cr2 ir2 t ≡ fine st2
    → (1 ≤ cell_from k (taken_of file s)) × (cell_from k (taken_of file s) ≤ cell_to k (taken_of file s))
cell_stands cr ir s st zero cr2 ir2 t st2 e h i e2 = absurd (omega arith)
cell_stands cr ir s st (suc n) cr2 ir2 t st2 e h i e2 =
    let (xs, f) = (read_exactly cr ir s).0 (st, e) in
    let (ys, f2) = (cell_exactly st.book.slash st.book.unit cr2 ir2 t).0 (st2, e2) in
    let x = taken_is (as_file cr ir) s xs f in
    let S = read_says cr ir s st xs e f in
    let b : Book = (starting (as_file cr ir)).book in
    let few : n < length (cell_words xs) = omega (arith, S.cell_count) in
    let C = cell-at xs n b st.book few refl (fed file xs f.carried) S.told in
    let O = old xs n b st.book C refl S.told in
    let T = tail_of C.d C.cs C.block.rest in
    let (s1, s2, _) = old_stands s xs n b C T (sym f.tokens) in
    let (sl, _) = old_keeps xs n b st.book C O s1 s2 in
    let I = incoming C.d ys (subst (λ (z : Bool). Fed (one_cell_of z) ys []) sl (fed (one_cell_of st.book.slash) ys f2.carried)) in
    let U = tail_of C.d I.cs I.block.rest in
    rw (x, from1 s t xs ys n b C I T U, to1 s t xs ys n b C I T U)
    (behind-first s xs n b C T (sym f.tokens), ends_behind s xs n b C T (sym f.tokens))

-- 4. The new file's cells

-- an end that is missing is missing after the move, and no other is
move_missing : (a c x : ℕ) → 1 ≤ c → eqb (move_at a c x) 0 ≡ eqb x 0
move_missing a c zero h = rw (move-none a c)
move_missing a c (suc x) h =
    rw (move_some a c (suc x) (omega arith)) (ne_eqb (c + (suc x - a)) 0 (λ z. omega arith) ∙ sym (ne_eqb (suc x) 0 (λ z. omega arith)))

module _ (s n : List ℕ) (g : Where → ℕ) (side : Bool) (a c : ℕ) (P : ℕ → Type 0) (low : 1 ≤ c)
    (g-is : (x : ℕ) → P x → g (at side x) ≡ move_at a c x) where
  moved_items : (is : List Item) → Each (λ i. SameItem s i n (move_item a c i)) is → Each (λ i. P i.head.place) is
      → Each (λ i. LikeItem g side s n i (move_item a c i)) is
  moved_items [] e h = tt
  moved_items (i ∷ is) (e, es) (h, hs) = (
    record {
      place = sym (g-is i.head.place h);
      kind = refl;
      group = refl;
      edge1 = refl;
      edge2 = refl;
      values = refl;
      missing = move_missing a c i.head.to1 low;
      names = e;
    },
    moved_items is es hs,
  )

  moved-cells : (cs : List read.Cell) → Each (λ x. SameCell s x n (move_cell a c x)) cs → Each (λ x. P x.place) cs
      → Each (λ x. LikeCell g side s n x (move_cell a c x)) cs
  moved-cells [] e h = tt
  moved-cells (x ∷ cs) (e, es) (h, hs) =
      (record { place = sym (g-is x.place h); sort = refl; entries = refl; names = e }, moved-cells cs es hs)

module _ (s n : List ℕ) (g : Where → ℕ) (P : ℕ → Type 0) (g-is : (x : ℕ) → P x → g (at false x) ≡ x) where
  kept_items : (is : List Item) → Each (λ i. SameItem s i n i) is → Each (λ i. P i.head.place) is → Each (λ i. LikeItem g false s n i i) is
  kept_items [] e h = tt
  kept_items (i ∷ is) (e, es) (h, hs) = (
    record {
      place = sym (g-is i.head.place h);
      kind = refl;
      group = refl;
      edge1 = refl;
      edge2 = refl;
      values = refl;
      missing = refl;
      names = e;
    },
    kept_items is es hs,
  )

  kept_cells : (cs : List read.Cell) → Each (λ x. SameCell s x n x) cs → Each (λ x. P x.place) cs → Each (λ x. LikeCell g false s n x x) cs
  kept_cells [] e h = tt
  kept_cells (x ∷ cs) (e, es) (h, hs) =
      (record { place = sym (g-is x.place h); sort = refl; entries = refl; names = e }, kept_cells cs es hs)

first-is : (word : ℕ → Where) (t : List ℕ) (slash : Bool) (c : read.Cell) (is : List Item)
    → cells_of word t slash (c ∷ []) is ≡ first_cell (cells_of word t slash (c ∷ []) is) ∷ []
unfolding cells_of first_cell
first-is word t slash c is = refl

module _ (s t n : List ℕ) (k p q p' q' : ℕ) (st st2 st' : At) (S : Spliced s t n k p q p' q' st st2 st') (low : 1 ≤ p) (ends : p ≤ q)
    (slash2 : st2.book.slash ≡ st.book.slash) (count2 : total st2.book.log.cells ≡ length st2.book.log.items) where
  slash : Bool
  slash = st.book.slash

  g : Where → ℕ
  g = moved p q p' q'

  -- the three parts of the new file, as the two texts say them
  fronts : List (Cell Where)
  fronts = cells_of (at false) s slash S.front S.front_items_of

  comer : List (Cell Where)
  comer = cells_of (at true) t slash (S.incoming ∷ []) st2.book.log.items

  behinds : List (Cell Where)
  behinds = cells_of (at false) s slash S.behind S.behind_items

  goes : Cell Where
  goes = cell_of (at false) s slash S.outgoing (take S.outgoing.entries (S.out_items ++ S.behind_items))

  here : Cut (Cell Where)
  here = record { before = fronts; one = goes; after = behinds }

  old_said : said false s st ≡ fronts ++ (goes ∷ behinds)
  unfolding said fronts behinds goes slash cells_of
  old_said =
      ap (λ (l : List read.Cell). cells_of (at false) s st.book.slash l st.book.log.items) S.cells
      ∙ ap (cells_of (at false) s st.book.slash (S.front ++ S.outgoing ∷ S.behind)) S.items
      ∙ cells-split (at false) s st.book.slash S.front (S.outgoing ∷ S.behind) S.front_items_of (S.out_items ++ S.behind_items) S.front_count
      ∙ ap (λ (l : List (Cell Where)). cells_of (at false) s st.book.slash S.front S.front_items_of ++ l) later
    where
      later : cells_of (at false) s st.book.slash (S.outgoing ∷ S.behind) (S.out_items ++ S.behind_items)
          ≡ cell_of (at false) s st.book.slash S.outgoing (take S.outgoing.entries (S.out_items ++ S.behind_items))
          ∷ cells_of (at false) s st.book.slash S.behind S.behind_items
      later =
          ap (λ (l : List Item). cell_of (at false) s st.book.slash S.outgoing (take S.outgoing.entries (S.out_items ++ S.behind_items))
          ∷ cells_of (at false) s st.book.slash S.behind l) (drop_at S.out_items S.behind_items S.outgoing.entries (sym S.out_count))

  old_cut : cut (said false s st) k ≡ some here
  unfolding here fronts slash
  old_cut =
      let m : suc (length fronts) ≡ k =
      ap suc (cells-length (at false) s st.book.slash S.front S.front_items_of) ∙ (let z = S.number in omega arith) in
      ap (λ (l : List (Cell Where)). cut l k) old_said
      ∙ ap (cut (fronts ++ (goes ∷ behinds))) (sym m)
      ∙ cut_mid fronts goes behinds

  in_said : said true t st2 ≡ comer
  unfolding said comer slash
  in_said =
      ap (λ (z : Bool). cells_of (at true) t z st2.book.log.cells st2.book.log.items) slash2
      ∙ ap (λ (l : List read.Cell). cells_of (at true) t st.book.slash l st2.book.log.items) S.one

  new-parts : annotating.said n st' ≡ map (renamed_cell g) fronts ++ (map (renamed_cell g) comer ++ map (renamed_cell g) behinds)
  unfolding annotating.said fronts comer behinds g slash total
  new-parts =
      let N = S.names in
      let c1 : ℕ = p + (q' - p') in
      let l1 : 1 ≤ c1 = omega arith in
      let one-count : total (move_cell p' p S.incoming ∷ []) ≡ length (map (move_item p' p) st2.book.log.items) =
      counted ∙ sym (length-map (move_item p' p) st2.book.log.items) in
      let F = like_cells (moved p q p' q') false s n st.book.slash (λ i. i) (λ c. c) S.front S.front_items_of
      (kept_cells s n (moved p q p' q') (StandsIn 0 p) (moved_front p q p' q') S.front N.front_same_of N.front_at)
      (kept_items s n (moved p q p' q') (StandsIn 0 p) (moved_front p q p' q') S.front_items_of N.front_items_same N.front_items_at) in
      let I = like_cells (moved p q p' q') true t n st.book.slash (move_item p' p) (move_cell p' p) (S.incoming ∷ []) st2.book.log.items
      (moved-cells t n (moved p q p' q') true p' p (StandsIn p' q') low (moved_incoming p q p' q') (S.incoming ∷ []) N.incoming_same N.incoming_at)
      (moved_items t n (moved p q p' q') true p' p (StandsIn p' q') low (moved_incoming p q p' q') st2.book.log.items N.items_same N.items_at) in
      let B = like_cells (moved p q p' q') false s n st.book.slash (move_item q c1) (move_cell q c1) S.behind S.behind_items
      (moved-cells s n (moved p q p' q') false q c1 (StandsIn q (length s)) l1 (λ x. moved-behind p q p' q' (length s) x ends) S.behind N.behind_same N.behind_at)
      (moved_items s n (moved p q p' q') false q c1 (StandsIn q (length s)) l1 (λ x. moved-behind p q p' q' (length s) x ends) S.behind_items N.behind_items_same
      N.behind_items_at) in
      ap (λ (z : Bool). cells_of (λ x. x) n z st'.book.log.cells st'.book.log.items) S.slash
      ∙ ap (λ (l : Log). cells_of (λ x. x) n st.book.slash l.cells l.items) S.log
      ∙ cells-split (λ x. x) n st.book.slash S.front (move_cell p' p S.incoming ∷ map (move_cell q c1) S.behind) S.front_items_of
      (map (move_item p' p) st2.book.log.items ++ map (move_item q c1) S.behind_items) S.front_count
      ∙ ap (λ (l : List (Cell ℕ)). cells_of (λ x. x) n st.book.slash S.front S.front_items_of ++ l)
      (cells-split (λ x. x) n st.book.slash (move_cell p' p S.incoming ∷ []) (map (move_cell q c1) S.behind) (map (move_item p' p) st2.book.log.items)
      (map (move_item q c1) S.behind_items) one-count
      ∙ ap (λ (l : List (Cell ℕ)). l ++ cells_of (λ x. x) n st.book.slash (map (move_cell q c1) S.behind) (map (move_item q c1) S.behind_items)) I
      ∙ ap (λ (l : List (Cell ℕ)). map (renamed_cell (moved p q p' q')) (cells_of (at true) t st.book.slash (S.incoming ∷ []) st2.book.log.items) ++ l) B)
      ∙ ap (λ (l : List (Cell ℕ)). l ++ (map (renamed_cell (moved p q p' q')) (cells_of (at true) t st.book.slash (S.incoming ∷ []) st2.book.log.items)
      ++ map (renamed_cell (moved p q p' q')) (cells_of (at false) s st.book.slash S.behind S.behind_items)))
      (sym (ap (cells_of (λ x. x) n st.book.slash (map (λ c. c) S.front)) (map_same S.front_items_of)
      ∙ ap (λ (l : List read.Cell). cells_of (λ x. x) n st.book.slash l S.front_items_of) (map_same S.front)) ∙ F)
    where
      counted : total (move_cell p' p S.incoming ∷ []) ≡ length st2.book.log.items
      counted = ap total (sym S.one) ∙ count2

  -- THE NEW FILE'S CELLS: those of the file with the incoming one in place of number k, each word where it stands in the new file
  pub new-cells : (split : Cut (Cell Where)) → cut (said false s st) k ≡ some split
      → annotating.said n st' ≡ map (renamed_cell (moved p q p' q')) (swapped split (first_cell (said true t st2)))
  unfolding swapped g comer here slash
  new-cells split e =
      let x : split ≡ here = cut-same split here (sym e ∙ old_cut) in
      let y : comer ≡ first_cell (said true t st2) ∷ [] =
      first-is (at true) t st.book.slash S.incoming st2.book.log.items ∙ ap (λ (l : List (Cell Where)). first_cell l ∷ []) (sym in_said) in
      new-parts
      ∙ ap (λ (l : List (Cell Where)). map (renamed_cell g) fronts ++ (map (renamed_cell g) l ++ map (renamed_cell g) behinds)) y
      ∙ sym (ap (λ (c : Cut (Cell Where)). map (renamed_cell g) (c.before ++ (first_cell (said true t st2) ∷ c.after))) x
      ∙ map-append (renamed_cell g) fronts (first_cell (said true t st2) ∷ behinds))

-- 5. Demand 3

-- where a word stands in the new file, from the texts alone
abbrev pub new_place : (text : List ℕ) (number : ℕ) (slash : Bool) (incoming : List ℕ) → Where → ℕ
new_place text number slash incoming =
    moved (cell_from number (taken_of file text)) (cell_to number (taken_of file text)) (cell_from 1 (taken_of (one_cell_of slash) incoming))
    (cell_to 1 (taken_of (one_cell_of slash) incoming))

-- 'Patching is annotating with the new file.' c is the patch's course, c' that of annotating the starting sheet with the new file's own text; g says
-- where in it a word stands
pub record Demand3 (start current : List ℕ) (g : Where → ℕ) (s : Sheet) (st' : At) (c : Course) (c' : annotating.Course) : Type 0 where
  -- both courses end with one answer: the patch's, told by the words of the file and of the incoming text, is annotating's, told by the new file's
  pub answer : Answer Slot Where
  pub says : answer_of c ≡ says_of answer
  pub annotates : c' ≡ annotating.judged s st' (renamed_answer g answer)
  -- the patch is accepted exactly if annotating with the new file is
  pub done : (answer_of c ≡ patched.Done) ↔ (annotating.answer_of c' ≡ annotated.Done)
  -- and then the current sheet becomes what annotating with the new file leaves in the output sheet, byte by byte
  pub leaves : (out : List ℕ) → answer_of c ≡ patched.Done → current_of start current c ≡ annotating.out_of start out c'
  -- the patch is refused exactly if annotating with the new file is: with the same number, at the word that stands there in the new file
  pub refuses : (n : ℕ) (w : Where) → answer_of c ≡ patched.Refused n w.place w.incoming → annotating.answer_of c' ≡ annotated.Refused n (g w)
  pub refused_by : (n x : ℕ) → annotating.answer_of c' ≡ annotated.Refused n x
      → (w : Where) × (g w ≡ x) × (answer_of c ≡ patched.Refused n w.place w.incoming)
  -- 'A refused patch keeps the current sheet.'
  pub kept : (n x : ℕ) (b : Bool) → answer_of c ≡ patched.Refused n x b → current_of start current c ≡ current

done_refused : (n x : ℕ) (b : Bool) → patched.Done ≡ patched.Refused n x b → ⊥
done_refused n x b e = let z : ◌≡◌ {A = ℕ} 0 1 = cc in omega arith

annotated_refused : (n x : ℕ) → annotated.Done ≡ annotated.Refused n x → ⊥
annotated_refused n x e = let z : ◌≡◌ {A = ℕ} 0 1 = cc in omega arith

same-annotated : (n n' x x' : ℕ) → annotated.Refused n x ≡ annotated.Refused n' x' → (n ≡ n') × (x ≡ x')
same-annotated n n' x x' e = (cc, cc)

same-refusal : (n n' : ℕ) (w w' : Where) → patched.Refused n w.place w.incoming ≡ patched.Refused n' w'.place w'.incoming → (n ≡ n') × (w ≡ w')
same-refusal n n' w w' e =
    let i : w.place ≡ w'.place = cc in
    let j : w.incoming ≡ w'.incoming = cc in
    (cc, ap (at w.incoming) i ∙ ap (λ (b : Bool). at b w'.place) j)

-- the course of annotating with a text that is read
new-course : (start text : List ℕ) (cr ir n m f : ℕ) (st : At) → check_of start ≡ Good n m f → read_file cr ir text ≡ fine st
    → annotating.course start text cr ir (length start)
    ≡ annotating.judged (sheet_at start n m f) st (history.annotate (records_at start n m f) (values_of (sheet_at start n m f)) (annotating.said text st))
unfolding annotating.course decode
new-course start text cr ir n m f st good read = rw (good, eq-eqb (length start) (length start) refl, read)

-- from the one answer
one_answer : (start current : List ℕ) (n m f : ℕ) (g : Where → ℕ) (st' : At) (c : Course) (c' : annotating.Course) (a : Answer Slot Where)
    → answer_of c ≡ says_of a → current_of start current c ≡ sheet_of start current n m f a
    → c' ≡ annotating.judged (sheet_at start n m f) st' (renamed_answer g a) → Demand3 start current g (sheet_at start n m f) st' c c'
unfolding renamed_answer annotating.answer_of annotating.out_of
one_answer start current n m f g st' c c' (sheet v) x y z =
    let d : annotating.answer_of c' ≡ annotated.Done = ap annotating.answer_of z in
    record {
      answer = sheet v;
      says = x;
      annotates = z;
      done = (λ e. d, λ e. x);
      leaves = λ out e. y ∙ sym (ap (annotating.out_of start out) z);
      refuses = λ k w e. absurd (done_refused k w.place w.incoming (sym x ∙ e));
      refused_by = λ k w e. absurd (annotated_refused k w (sym d ∙ e));
      kept = λ k w b e. absurd (done_refused k w b (sym x ∙ e));
    }
one_answer start current n m f g st' c c' (refused k w) x y z =
    let d : annotating.answer_of c' ≡ annotated.Refused k (g w) = ap annotating.answer_of z in
    record {
      answer = refused k w;
      says = x;
      annotates = z;
      done = (λ e. absurd (done_refused k w.place w.incoming (sym e ∙ x)), λ e. absurd (annotated_refused k (g w) (sym e ∙ d)));
      leaves = λ out e. absurd (done_refused k w.place w.incoming (sym e ∙ x));
      refuses = λ k' w' e.
          let (i, j) = same-refusal k k' w w' (sym x ∙ e) in
          d ∙ ap (λ (u : ℕ). annotated.Refused u (g w)) i ∙ ap (λ (u : Where). annotated.Refused k' (g u)) j;
      refused_by = λ k' q e.
          let (i, j) = same-annotated k k' (g w) q (sym d ∙ e) in
          (w, j, x ∙ ap (λ (u : ℕ). patched.Refused u w.place w.incoming) i);
      kept = λ k' q b e. y;
    }

-- DEMAND 3. Annotating with the file was accepted, and the current sheet is what it left; number `number` is one of the file's cells; the incoming text
-- was read as one cell; the new file is within the limit, and there is room for its cells and entries. Then the new file is read, and patching is
-- annotating with it.
pub demand_3 : (start text : List ℕ) (number : ℕ) (incoming current : List ℕ) (cr ir cr2 ir2 cr' ir' : ℕ) → Bytes start → Bytes current
    → (long : ℕ) (out : List ℕ) (s : Sheet) (st : At) (v : Values)
    → annotating.course start text cr ir long ≡ annotating.judged s st (sheet v)
    → current ≡ annotating.out_of start out (annotating.course start text cr ir long) → 1 ≤ number → number ≤ length st.book.log.cells → (st2 : At)
    → read_cell_of st.book.slash st.book.unit cr2 ir2 incoming ≡ fine st2
    → length (new_file_of text number st.book.slash incoming) ≤ text_limit → length st.book.log.cells ≤ cr'
    → length st.book.log.items - entries_at (number - 1) st + length st2.book.log.items ≤ ir'
    → (st' : At) × (read_file cr' ir' (new_file_of text number st.book.slash incoming) ≡ fine st')
    × Demand3 start current (new_place text number st.book.slash incoming) s st' (course start text number incoming current cr ir cr2 ir2)
    (annotating.course start (new_file_of text number st.book.slash incoming) cr' ir' (length start))
demand_3 start text number comes current cr ir cr2 ir2 cr' ir' bs bc long out s st v e now low high st2 read2 size rc ri =
    let (n0, m0, f0, a0) = accepted start text cr ir long s st v e in
    let (n, m, f, good, is, A) = patch-is_annotating start text number comes current cr ir cr2 ir2 bs bc long out s st v e now low high st2 read2 in
    let (st', r, S) = splice cr ir text st number cr2 ir2 comes st2 cr' ir' a0.read low high read2 size rc ri in
    let (l1, l2) = cell_stands cr ir text st number cr2 ir2 comes st2 a0.read low high read2 in
    let g = new_place text number st.book.slash comes in
    let N = new_file_of text number st.book.slash comes in
    let cells = new-cells text comes N number _ _ _ _ st st2 st' S l1 l2 (cell_slash st.book.slash st.book.unit cr2 ir2 comes st2 read2).0
    (cell_sound st.book.slash st.book.unit cr2 ir2 comes st2 read2).entries A.split A.there in
    let answer : Answer Slot Where =
    history.annotate (records_at start n m f) (values_of (sheet_at start n m f)) (swapped A.split (first_cell (said true comes st2))) in
    let told : history.annotate (records_at start n m f) (values_of (sheet_at start n m f)) (annotating.said N st') ≡ renamed_answer g answer =
    ap (history.annotate (records_at start n m f) (values_of (sheet_at start n m f))) cells ∙ A.places g in
    let ran = new-course start N cr' ir' n m f st' good r ∙ ap (annotating.judged (sheet_at start n m f) st') told in (
      st',
      r,
      subst (λ (x : Sheet). Demand3 start current g x st' (course start text number comes current cr ir cr2 ir2) (annotating.course start N cr' ir' (length start)))
          (sym is) (one_answer start current n m f g st' _ _ answer A.says A.leaves ran),
    )
