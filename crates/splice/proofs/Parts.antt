-- The old file's reading in three parts: before a cell, the cell, behind it; and the new file's, with the incoming cell in the middle.
-- Assumes nothing.
use Rattle.std.specs.Prelude.{◌≡◌, refl, Bool, true, List, [], ◌∷◌, ◌++◌, map, ℕ, suc, ◌+◌, ◌-◌, ◌≤◌, ◌<◌, eqb, length, get_or, replicate}
use Rattle.std.proofs.Common.{sym, ap, subst, ◌∙◌, append-nil, append_assoc, le_refl, arith, length-append, eqb-true}
use Rattle.std.proofs.Math.Option.{none, some}
use Rattle.std.proofs.Math.Seq.{append_snoc}
use Rattle.std.proofs.lemmas.List.{get_or_at}
use Rattle.classes.specs.Choice.{pick}
use Rattle.tokens.specs.Stream.{Placed, stream, onwards}
use Rattle.grammar.specs.declared.Cell.{Cell}
use Rattle.grammar.specs.Ll.{non, feeds, both_true}
use Rattle.grammar.specs.Machine.{Res, fine, ◌then◌}
use Rattle.grammar.specs.Grammar.{Act, opens, closes, finish, cell, header, more, file, cell_tail, fits}
use Rattle.grammar.specs.Meaning.{Item, Log, Book, tidy, told}
use Rattle.grammar.specs.Reading.{At}
use Rattle.grammar.specs.Outcome.{Stack, no_log}
use Rattle.laws.specs.Walk.{walk, through, along_inv, kept_if}
use Rattle.laws.specs.Phases.{moves, every, from, to, in_turn, taker-fits}
use Rattle.laws.specs.Sides.{a_file}
use Rattle.laws.specs.Taken.{As, starting, Taken, terms, toks, tells, opens_cell, opens_entry, those, cell_words, entry_words}
use Rattle.laws.proofs.Behind.{then_fine, tells-append, behind, Fed, fed_uncons, fed_append}
use Rattle.laws.proofs.Log.{item_places, cell_places, listed}
use Rattle.laws.proofs.Counts.{entry_counts}
use Rattle.sound.specs.Sound.{Each, total}
use Rattle.splice.proofs.Along.{Goes, stream-goes, move_tok}
use Rattle.splice.specs.Swap.{swapped}
use Rattle.splice.proofs.Swap.{tokens_swapped}
use Rattle.splice.proofs.Moved.{move_cell, move_item, move_taken}
use Rattle.splice.proofs.OneCell.{Stands, Block, Adds, cell-adds}
use Rattle.splice.proofs.Blocks.{fed_cons, cells_follow}
use Rattle.splice.proofs.Several.{those-append, count-moved, at_term, each_left, each_right, AddsAll, cells-add}
use Rattle.splice.proofs.Front.{roomed, read_roomed, tidy_there}
use Rattle.splice.specs.Span.{cell_from, cell_to, new_file}
use Rattle.splice.proofs.Span.{CellAt, Tail, Begins, from_at, to_at, outside_there, closes_there, starts-length, no_cell_word}
use Rattle.splice.proofs.Carried.{Incoming, new_taken, opener_kind, fed_below, lit-taken}

-- TOKENS IN ORDER: behind a token each starts where that ends or later, and none is empty
goes_order : (s : List ℕ) (vs : List Taken) (p q : ℕ) → p ≤ length s → Goes s p (toks vs) q →
    Each (λ v. (p ≤ v.tok.start) × (v.tok.start < v.tok.end)) vs
goes_order s [] p q h g = tt
goes_order s (v ∷ vs) p q h (i, j, g) =
    let (a, b, c) = onwards s p _ _ _ _ h i in
    ((a, b), later vs (goes_order s vs v.tok.end q c g))
  where
    later : (vs : List Taken) → Each (λ u. (v.tok.end ≤ u.tok.start) × (u.tok.start < u.tok.end)) vs →
        Each (λ u. (p ≤ u.tok.start) × (u.tok.start < u.tok.end)) vs
    later [] e = tt
    later (u ∷ vs) ((x, y), e) = let (a, b, c) = onwards s p _ _ _ _ h i in ((omega arith, y), later vs e)

pub toks-append : (xs ys : List Taken) → toks (xs ++ ys) ≡ toks xs ++ toks ys
toks-append [] ys = refl
toks-append (x ∷ xs) ys = ap (λ (l : List Placed). x.tok ∷ l) (toks-append xs ys)

pub behind_token : (s : List ℕ) (us : List Taken) (t : Taken) (vs : List Taken) (a : ℕ) → (stream s 0).toks ≡ toks (us ++ t ∷ vs) → a ≤ t.tok.end →
    (t.tok.start < t.tok.end) × Each (Stands a) vs
behind_token s us t vs a e h =
    let (q, g, i, j, k) = stream-goes s (toks us) (t.tok ∷ toks vs) 0 (omega arith) (e ∙ toks-append us (t ∷ vs)) in
    let (r, (g1, b1, n1), i1, j1, k1) = stream-goes s (t.tok ∷ []) (toks vs) q i j in
    let (x, y, z) = onwards s q _ _ _ _ i g1 in
    let j' : (stream s t.tok.end).toks ≡ toks vs ++ [] = rw append-nil (rw (← n1) at j1) in
    let (w, f, _, _, _) = stream-goes s (toks vs) [] t.tok.end z j' in
    (y, each_stands vs (goes_order s vs t.tok.end w z f) y)
  where
    each_stands : (vs : List Taken) → Each (λ v. (t.tok.end ≤ v.tok.start) × (v.tok.start < v.tok.end)) vs → t.tok.start < t.tok.end →
        Each (Stands a) vs
    each_stands [] e y = tt
    each_stands (v ∷ vs) ((p, q), e) y = ((omega arith, omega arith, q), each_stands vs e y)

-- THE OLD FILE'S READING, in three parts
pub record Old (xs : List Taken) (n : ℕ) (b e : Book) (C : CellAt xs n b) : Type 0 where
  pub b1 : Book
  pub b2 : Book
  pub t1 : tells b C.hs ≡ fine b1
  pub t2 : tells b1 (C.o ∷ C.w ∷ C.cs) ≡ fine b2
  pub t3 : tells b2 C.zs ≡ fine e
  pub there : tells b (C.hs ++ C.o ∷ []) ≡ fine (told b1 C.o.tok b1.log)
  pub tidy1 : b1.log ≡ tidy b1.log.texts b1.log.cells b1.log.items
  pub slash1 : b1.slash ≡ C.d

fed_none : (ss : Stack) → Fed ss [] ss
unfolding feeds
fed_none ss = refl

fed_there : (xs : List Taken) (n : ℕ) (b : Book) (C : CellAt xs n b) → Fed file (C.hs ++ C.o ∷ []) (non (header C.k C.d) ∷ [])
fed_there xs n b C =
    fed_append file C.hs (C.o ∷ []) C.l (non (header C.k C.d) ∷ []) C.front
    (fed_cons C.l C.o [] (non (header C.k C.d) ∷ []) (non (header C.k C.d) ∷ []) C.opener (fed_none (non (header C.k C.d) ∷ [])))

pub old : (xs : List Taken) (n : ℕ) (b e : Book) (C : CellAt xs n b) → b.log ≡ no_log → tells b xs ≡ fine e → Old xs n b e C
old xs n b e C nl t =
    let (b1, t1, r) = then_fine (tells b C.hs) (λ z. tells z (C.o ∷ C.w ∷ (C.cs ++ C.zs))) e
    (sym (tells-append b C.hs (C.o ∷ C.w ∷ (C.cs ++ C.zs))) ∙ (ap (tells b) (sym C.split) ∙ t)) in
    let (b2, t2, t3) = then_fine (tells b1 (C.o ∷ C.w ∷ C.cs)) (λ z. tells z C.zs) e (sym (tells-append b1 (C.o ∷ C.w ∷ C.cs) C.zs) ∙ r) in
    let th : tells b (C.hs ++ C.o ∷ []) ≡ fine (told b1 C.o.tok b1.log) =
    tells-append b C.hs (C.o ∷ []) ∙ (ap (λ (v : Res Book). v then (λ z. tells z (C.o ∷ []))) t1 ∙ at_term C.o opens b1 C.block.opener) in
    record {
      b1 = b1;
      b2 = b2;
      t1 = t1;
      t2 = t2;
      t3 = t3;
      there = th;
      tidy1 = tidy_there (C.hs ++ C.o ∷ []) b (told b1 C.o.tok b1.log) C.k C.d (fed_there xs n b C) nl th;
      slash1 = C.slash (told b1 C.o.tok b1.log) th;
    }

-- COUNTING the cells and entries of the parts
pub block_cells : (d : Bool) (o w : Taken) (cs : List Taken) → Block d o w cs → length (cell_words (o ∷ w ∷ cs)) ≡ suc (length (cell_words cs))
block_cells d o w cs k = rw (k.opener, k.keyword)

pub block_entries : (d : Bool) (o w : Taken) (cs : List Taken) → Block d o w cs → length (entry_words (o ∷ w ∷ cs)) ≡ length (entry_words cs)
block_entries d o w cs k = rw (k.opener, k.keyword)

cells-length : (cs : List Cell) → length (cell_places cs) ≡ length cs
cells-length [] = refl
cells-length (c ∷ cs) = ap suc (cells-length cs)

items_length : (is : List Item) → length (item_places is) ≡ length is
items_length [] = refl
items_length (i ∷ is) = ap suc (items_length is)

counts : (a : As) (xs : List Taken) (e : Book) → through moves every from to 0 (terms xs) ≡ some 0 → tells (starting a).book xs ≡ fine e →
    (length e.log.items ≡ length (entry_words xs)) × (length e.log.cells ≡ length (cell_words xs))
counts a xs e h t =
    let (u, v) = listed a xs e h t in (
      sym (items_length e.log.items) ∙ (ap length u ∙ starts-length (entry_words xs)),
      sym (cells-length e.log.cells) ∙ (ap length v ∙ starts-length (cell_words xs)),
    )

pub those-sum : (f : Act → Bool) (xs ys : List Taken) → length (those f (xs ++ ys)) ≡ length (those f xs) + length (those f ys)
those-sum f xs ys = ap length (those-append f xs ys) ∙ length-append (those f xs) (those f ys)

walk_more : (p : ℕ) (d : Bool) → walk moves every from to p (non (more d) ∷ []) ≡ some 0 → p ≡ 0
unfolding walk
walk_more p d e =
    let (o, i, j) = along_inv (pick (eqb p 0) (some 0) none) (λ x. some x) 0 e in
    eqb-true p 0 (kept_if (eqb p 0) (some 0) o i).0

fed_behind : (xs : List Taken) (n : ℕ) (b : Book) (C : CellAt xs n b) → Fed file (C.hs ++ (C.o ∷ C.w ∷ C.cs)) (non (more C.d) ∷ [])
fed_behind xs n b C =
    let ends : Stack = non (more C.d) ∷ [] in
    let ss : Stack = non (header C.k C.d) ∷ [] in
    fed_append file C.hs (C.o ∷ C.w ∷ C.cs) C.l ends C.front
    (fed_cons C.l C.o (C.w ∷ C.cs) ends ss C.opener
    (fed_cons ss C.w C.cs ends (cell_tail C.d ++ ends) C.keyword (fed_below C.d C.cs C.block.rest)))

pub record Sizes (hs cs : List Taken) (b1 b2 : Book) : Type 0 where
  pub cells1 : length b1.log.cells ≡ length (cell_words hs)
  pub items1 : length b1.log.items ≡ length (entry_words hs)
  pub items2 : length b2.log.items ≡ length (entry_words hs) + length (entry_words cs)

pub sizes : (a : As) (xs : List Taken) (n : ℕ) (e : Book) (C : CellAt xs n (starting a).book) (O : Old xs n (starting a).book e C) →
    Sizes C.hs C.cs O.b1 O.b2
sizes a xs n e C O =
    let b = (starting a).book in
    let (u, v) = counts a (C.hs ++ C.o ∷ []) (told O.b1 C.o.tok O.b1.log) (outside_there (C.hs ++ C.o ∷ []) C.k C.d (fed_there xs n b C)) O.there in
    let (p, g, h) = in_turn a_file (toks (C.hs ++ (C.o ∷ C.w ∷ C.cs))) _ (fed_behind xs n b C) in
    let t : tells b (C.hs ++ (C.o ∷ C.w ∷ C.cs)) ≡ fine O.b2 =
    tells-append b C.hs (C.o ∷ C.w ∷ C.cs) ∙ (ap (λ (v : Res Book). v then (λ z. tells z (C.o ∷ C.w ∷ C.cs))) O.t1 ∙ O.t2) in
    let (x, y) = counts a (C.hs ++ (C.o ∷ C.w ∷ C.cs)) O.b2 (g ∙ ap (λ (z : ℕ). some z) (walk_more p C.d h)) t in
    let one : length (entry_words (C.o ∷ [])) ≡ 0 = rw C.block.opener in
    record {
      cells1 = v ∙ no_cell_word C.o C.hs C.block.opener;
      items1 = u ∙ (those-sum opens_entry C.hs (C.o ∷ []) ∙ omega arith);
      items2 = x ∙ (those-sum opens_entry C.hs (C.o ∷ C.w ∷ C.cs)
          ∙ ap (λ (z : ℕ). length (entry_words C.hs) + z) (block_entries C.d C.o C.w C.cs C.block));
    }

-- the old cell, and the cells behind it, read as they stand
pub old_cell : (xs : List Taken) (n : ℕ) (b e : Book) (C : CellAt xs n b) (O : Old xs n b e C) → Each (Stands 0) (C.w ∷ C.cs) →
    Adds 0 0 O.b1.log.texts O.b1.log.texts O.b1.log.cells O.b1.log.cells O.b1.log.items O.b1.log.items O.b1 O.b1 O.b2
    (C.o ∷ C.w ∷ C.cs)
old_cell xs n b e C O (s, ss) =
    let B = behind (C.o ∷ C.w ∷ C.cs) O.b1 O.b2 O.t2 in
    let u = B.cells_fit in
    let v = B.entries_fit_of in
    cell-adds 0 0 _ _ _ _ _ _ C.d C.o C.w C.cs O.b1 O.b1 O.b2 C.block s ss O.tidy1 O.tidy1 refl
    (omega (arith, block_cells C.d C.o C.w C.cs C.block)) (omega (arith, block_entries C.d C.o C.w C.cs C.block)) O.t2

-- from the cell on the divider and the time scale stay
pub old_keeps : (xs : List Taken) (n : ℕ) (b e : Book) (C : CellAt xs n b) (O : Old xs n b e C) → Each (Stands 0) (C.w ∷ C.cs) → Each (Stands 0) C.zs →
    (e.slash ≡ C.d) × (e.unit ≡ O.b1.unit)
old_keeps xs n b e C O s s' =
    let A = old_cell xs n b e C O s in
    let B = behind C.zs O.b2 e O.t3 in
    let M = cells-add 0 0 _ _ C.d C.zs (cells_follow C.d C.zs C.rest) _ _ _ _ O.b2 O.b2 e s' A.done.log A.done.log refl
    B.cells_fit B.entries_fit_of O.t3 in
    (M.slash ∙ (A.slash ∙ O.slash1), M.unit ∙ A.unit)

-- THE NEW FILE'S READING. Its room is enough for the cells and entries.
pub record NewRun (b e b1 eI : Book) (hs ys zs : List Taken) (p q p' q' cr ir : ℕ) : Type 0 where
  pub e' : Book
  pub told' : tells (roomed cr ir b) (new_taken hs ys zs p' p q q') ≡ fine e'
  pub outgoing : Cell
  pub out_items : List Item
  pub new : Cell
  pub new_items : List Item
  pub behind_cells : List Cell
  pub behind_items : List Item
  pub old_log : e.log ≡ tidy b1.log.texts ((b1.log.cells ++ outgoing ∷ []) ++ behind_cells) ((b1.log.items ++ out_items) ++ behind_items)
  pub in_log : eI.log ≡ tidy (replicate 14 0) (new ∷ []) new_items
  pub new_log : e'.log ≡ tidy b1.log.texts ((b1.log.cells ++ move_cell p' p new ∷ []) ++ map (move_cell q q') behind_cells)
      ((b1.log.items ++ map (move_item p' p) new_items) ++ map (move_item q q') behind_items)
  pub out_count : outgoing.entries ≡ length out_items
  pub behind_count : total behind_cells ≡ length behind_items
  pub slash' : e'.slash ≡ b1.slash
  pub unit' : e'.unit ≡ b1.unit

rooms_left : (f : Act → Bool) (a c a' c' : ℕ) (hs ys zs : List Taken) (room room1 : ℕ) → length (those f (new_taken hs ys zs a c a' c')) ≤ room →
    room1 ≡ room - length (those f hs) → (length (those f hs) ≤ room) × (length (those f ys) + length (those f zs) ≤ room1)
rooms_left f a c a' c' hs ys zs room room1 h e =
    let u = those-sum f hs (map (move_taken a c) ys ++ map (move_taken a' c') zs) in
    let v = those-sum f (map (move_taken a c) ys) (map (move_taken a' c') zs) in
    let w = count-moved f a c ys in
    let x = count-moved f a' c' zs in
    (omega arith, omega arith)

-- the incoming cell in place of the old one
new-cell : (ts : List ℕ) (cs : List Cell) (is : List Item) (p p' : ℕ) (d : Bool) (ys : List Taken) (J : Incoming d ys) (bI eI b1 : Book) →
    Each (Stands p') (J.w ∷ J.cs) → bI.log ≡ no_log → b1.log ≡ tidy ts cs is → b1.unit ≡ bI.unit → length (cell_words ys) ≤ b1.cell_room →
    length (entry_words ys) ≤ b1.item_room → tells bI ys ≡ fine eI → Adds p' p (replicate 14 0) ts [] cs [] is bI b1 eI ys
new-cell ts cs is p p' d ys J bI eI b1 (s, ss) l l' u r i t =
    let r' : length (cell_words (J.o ∷ J.w ∷ J.cs)) ≤ b1.cell_room = subst (λ (z : List Taken). length (cell_words z) ≤ b1.cell_room) J.split r in
    let i' : length (entry_words (J.o ∷ J.w ∷ J.cs)) ≤ b1.item_room = subst (λ (z : List Taken). length (entry_words z) ≤ b1.item_room) J.split i in
    subst (λ (z : List Taken). Adds p' p (replicate 14 0) ts [] cs [] is bI b1 eI z) (sym J.split)
    (cell-adds p' p (replicate 14 0) ts [] cs [] is d J.o J.w J.cs bI b1 eI J.block s ss l l' u
    (omega (arith, block_cells d J.o J.w J.cs J.block)) (omega (arith, block_entries d J.o J.w J.cs J.block))
    (ap (tells bI) (sym J.split) ∙ t))

put-runs : (b e b1 b1' b2 eI : Book) (hs ys zs os : List Taken) (p q p' q' cr ir : ℕ)
    (A : Adds 0 0 b1.log.texts b1.log.texts b1.log.cells b1.log.cells b1.log.items b1.log.items b1 b1 b2 os)
    (bI : Book) (A' : Adds p' p (replicate 14 0) b1.log.texts [] b1.log.cells [] b1.log.items bI b1' eI ys)
    (M : AddsAll q q' b1.log.texts b1.log.texts (b1.log.cells ++ A.done.cell ∷ []) (b1.log.cells ++ move_cell p' p A'.done.cell ∷ [])
    (b1.log.items ++ A.done.new) (b1.log.items ++ map (move_item p' p) A'.done.new) b2 A'.e' e zs) →
    tells (roomed cr ir b) hs ≡ fine b1' → b1'.slash ≡ b1.slash → b1'.unit ≡ b1.unit → NewRun b e b1 eI hs ys zs p q p' q' cr ir
put-runs b e b1 b1' b2 eI hs ys zs os p q p' q' cr ir A bI A' M t s u =
    record {
      e' = M.e';
      told' = tells-append (roomed cr ir b) hs (map (move_taken p' p) ys ++ map (move_taken q q') zs)
          ∙ (ap (λ (v : Res Book). v then (λ z. tells z (map (move_taken p' p) ys ++ map (move_taken q q') zs))) t
          ∙ (tells-append b1' (map (move_taken p' p) ys) (map (move_taken q q') zs)
          ∙ (ap (λ (v : Res Book). v then (λ z. tells z (map (move_taken q q') zs))) A'.told ∙ M.told)));
      outgoing = A.done.cell;
      out_items = A.done.new;
      new = A'.done.cell;
      new_items = A'.done.new;
      behind_cells = M.cells;
      behind_items = M.items;
      old_log = M.log;
      in_log = A'.done.log;
      new_log = M.log';
      out_count = A.done.count;
      behind_count = M.count;
      slash' = M.slash' ∙ (A'.slash' ∙ s);
      unit' = M.unit' ∙ (A'.unit' ∙ u);
    }

pub new-run : (xs : List Taken) (n : ℕ) (b e : Book) (C : CellAt xs n b) (O : Old xs n b e C) (ys : List Taken) (J : Incoming C.d ys) (bI eI : Book)
    (p q p' q' cr ir : ℕ) → Each (Stands 0) (C.w ∷ C.cs) → Each (Stands p') (J.w ∷ J.cs) → Each (Stands q) C.zs → bI.log ≡ no_log →
    O.b1.unit ≡ bI.unit → tells bI ys ≡ fine eI → length (cell_words (new_taken C.hs ys C.zs p' p q q')) ≤ cr →
    length (entry_words (new_taken C.hs ys C.zs p' p q q')) ≤ ir → NewRun b e O.b1 eI C.hs ys C.zs p q p' q' cr ir
new-run xs n b e C O ys J bI eI p q p' q' cr ir s s' s'' l u t rc ri =
    let (c0, _) = rooms_left opens_cell p' p q q' C.hs ys C.zs cr _ rc refl in
    let (i0, _) = rooms_left opens_entry p' p q q' C.hs ys C.zs ir _ ri refl in
    let (cr1, ir1, t1) = read_roomed C.hs cr ir b O.b1 c0 i0 O.t1 in
    by cr1 ir1 t1 (old_cell xs n b e C O s)
  where
    by : (cr1 ir1 : ℕ) → tells (roomed cr ir b) C.hs ≡ fine (roomed cr1 ir1 O.b1) →
        Adds 0 0 O.b1.log.texts O.b1.log.texts O.b1.log.cells O.b1.log.cells O.b1.log.items O.b1.log.items O.b1 O.b1 O.b2
        (C.o ∷ C.w ∷ C.cs) → NewRun b e O.b1 eI C.hs ys C.zs p q p' q' cr ir
    by cr1 ir1 t1 A =
        let B = behind C.hs (roomed cr ir b) (roomed cr1 ir1 O.b1) t1 in
        let (_, c1) = rooms_left opens_cell p' p q q' C.hs ys C.zs cr cr1 rc B.cells in
        let (_, i1) = rooms_left opens_entry p' p q q' C.hs ys C.zs ir ir1 ri B.entries in
        on A c1 i1 (new-cell O.b1.log.texts O.b1.log.cells O.b1.log.items p p' C.d ys J bI eI (roomed cr1 ir1 O.b1) s' l O.tidy1 u
        (omega arith) (omega arith) t)
      where
        on : (A : Adds 0 0 O.b1.log.texts O.b1.log.texts O.b1.log.cells O.b1.log.cells O.b1.log.items O.b1.log.items O.b1 O.b1 O.b2
            (C.o ∷ C.w ∷ C.cs)) → length (cell_words ys) + length (cell_words C.zs) ≤ cr1 → length (entry_words ys) + length (entry_words C.zs) ≤ ir1 →
            Adds p' p (replicate 14 0) O.b1.log.texts [] O.b1.log.cells [] O.b1.log.items bI (roomed cr1 ir1 O.b1) eI ys →
            NewRun b e O.b1 eI C.hs ys C.zs p q p' q' cr ir
        on A c1 i1 A' =
            let B = behind (map (move_taken p' p) ys) (roomed cr1 ir1 O.b1) A'.e' A'.told in
            let x = B.cells in
            let y = B.entries in
            let v = count-moved opens_cell p' p ys in
            let w = count-moved opens_entry p' p ys in
            put-runs b e O.b1 (roomed cr1 ir1 O.b1) O.b2 eI C.hs ys C.zs (C.o ∷ C.w ∷ C.cs) p q p' q' cr ir A bI A'
            (cells-add q q' O.b1.log.texts O.b1.log.texts C.d C.zs (cells_follow C.d C.zs C.rest) _ _ _ _ O.b2 A'.e' e s''
            A.done.log A'.done.log' (A'.unit' ∙ sym A.unit) (omega arith) (omega arith) O.t3) t1 refl refl

-- WHAT THE OLD CELL COUNTS
counts_append : (l m : List Cell) → entry_counts (l ++ m) ≡ entry_counts l ++ entry_counts m
counts_append [] m = refl
counts_append (c ∷ l) m = ap (λ (x : List ℕ). c.entries ∷ x) (counts_append l m)

counts_length : (l : List Cell) → length (entry_counts l) ≡ length l
counts_length [] = refl
counts_length (c ∷ l) = ap suc (counts_length l)

pub total-append : (l m : List Cell) → total (l ++ m) ≡ total l + total m
unfolding total
total-append [] m = omega arith
total-append (c ∷ l) m = let z = total-append l m in omega arith

count_at : (l : List Cell) (c : Cell) (m : List Cell) (n : ℕ) → length l ≡ n → get_or (entry_counts (l ++ c ∷ m)) n 0 ≡ c.entries
count_at l c m n h =
    ap (λ (x : List ℕ). get_or x n 0) (counts_append l (c ∷ m)) ∙ get_or_at (entry_counts l) c.entries (entry_counts m) 0 n (counts_length l ∙ h)

-- the entries of the cell number n, from 0
abbrev pub entries_at : ℕ → At → ℕ
entries_at n st = get_or (entry_counts st.book.log.cells) n 0

pub old_entries : (a : As) (xs : List Taken) (n : ℕ) (e : Book) (C : CellAt xs n (starting a).book) (O : Old xs n (starting a).book e C) →
    Each (Stands 0) (C.w ∷ C.cs) → Each (Stands 0) C.zs → get_or (entry_counts e.log.cells) n 0 ≡ length (entry_words C.cs)
old_entries a xs n e C O s s' = by (old_cell xs n (starting a).book e C O s)
  where
    by : Adds 0 0 O.b1.log.texts O.b1.log.texts O.b1.log.cells O.b1.log.cells O.b1.log.items O.b1.log.items O.b1 O.b1 O.b2
        (C.o ∷ C.w ∷ C.cs) → get_or (entry_counts e.log.cells) n 0 ≡ length (entry_words C.cs)
    by A =
        let B = behind C.zs O.b2 e O.t3 in
        let M = cells-add 0 0 _ _ C.d C.zs (cells_follow C.d C.zs C.rest) _ _ _ _ O.b2 O.b2 e s' A.done.log A.done.log refl
        B.cells_fit B.entries_fit_of O.t3 in
        let Z = sizes a xs n e C O in
        let z1 = Z.items1 in
        let z2 = Z.items2 in
        let y : length O.b2.log.items ≡ length O.b1.log.items + length A.done.new =
        ap (λ (l : Log). length l.items) A.done.log ∙ length-append O.b1.log.items A.done.new in
        let x : e.log.cells ≡ O.b1.log.cells ++ A.done.cell ∷ M.cells =
        ap (λ (l : Log). l.cells) M.log ∙ append_snoc O.b1.log.cells A.done.cell M.cells in
        ap (λ (l : List Cell). get_or (entry_counts l) n 0) x
        ∙ (count_at O.b1.log.cells A.done.cell M.cells n (Z.cells1 ∙ C.number) ∙ (A.done.count ∙ omega arith))

-- EACH TOKEN fits the terminal that takes it
each_fits : (xs : List Taken) (ss l : Stack) → Fed ss xs l → Each (λ x. fits x.by x.tok ≡ true) xs
each_fits [] ss l f = tt
each_fits (x ∷ xs) ss l f =
    let (m, g, h) = fed_uncons ss x xs l f in
    (taker-fits ss x.tok _ g, each_fits xs m l h)

closer_kind : (t : Placed) → fits (closes finish) t ≡ true → t.kind ≡ 3
closer_kind t e = eqb-true t.kind 3 (both_true (eqb t.kind 3) true e).0

last_kind : (d : Bool) (cs : List Taken) → Fed (cell_tail d) cs [] → (T : Tail cs) → T.x.tok.kind ≡ 3
last_kind d cs f T =
    let (g, _) = each_right (λ x. fits x.by x.tok ≡ true) T.ms (T.x ∷ [])
    (subst (λ (z : List Taken). Each (λ x. fits x.by x.tok ≡ true) z) T.split (each_fits cs (cell_tail d) [] f)) in
    closer_kind T.x.tok (rw T.last at g)

pub file-begins : (hs : List Taken) (l : Stack) → Fed file hs l → Begins hs
unfolding file
file-begins [] l f = tt
file-begins (h ∷ hs) l f = let (m, g, i) = fed_uncons file h hs l f in (lit-taken opens _ m h g).0

toks-moved : (a c : ℕ) (xs : List Taken) → toks (map (move_taken a c) xs) ≡ map (move_tok a c) (toks xs)
toks-moved a c [] = refl
toks-moved a c (x ∷ xs) = ap (λ (l : List Placed). move_tok a c x.tok ∷ l) (toks-moved a c xs)

-- a cell's tokens, its last one apart
apart : (hs : List Taken) (o w : Taken) (cs zs : List Taken) (T : Tail cs) →
    toks (hs ++ (o ∷ w ∷ (cs ++ zs))) ≡ toks hs ++ (o.tok ∷ (toks (w ∷ T.ms) ++ (T.x.tok ∷ toks zs)))
apart hs o w cs zs T =
    toks-append hs (o ∷ w ∷ (cs ++ zs))
    ∙ ap (λ (l : List Placed). toks hs ++ (o.tok ∷ (w.tok ∷ l)))
    (ap (λ (z : List Taken). toks (z ++ zs)) T.split ∙ (ap toks (append_assoc T.ms (T.x ∷ []) zs) ∙ toks-append T.ms (T.x ∷ zs)))

-- the tokens of the incoming text
all_of : (d : Bool) (ys : List Taken) (I : Incoming d ys) (U : Tail I.cs) →
    toks ys ≡ I.o.tok ∷ (toks (I.w ∷ U.ms) ++ U.x.tok ∷ [])
all_of d ys I U =
    ap toks I.split ∙ ap (λ (l : List Placed). I.o.tok ∷ (I.w.tok ∷ l)) (ap toks U.split ∙ toks-append U.ms (U.x ∷ []))

pub toks-new : (hs ys zs : List Taken) (a c a' c' : ℕ) →
    toks (new_taken hs ys zs a c a' c') ≡ toks hs ++ (map (move_tok a c) (toks ys) ++ map (move_tok a' c') (toks zs))
toks-new hs ys zs a c a' c' =
    toks-append hs (map (move_taken a c) ys ++ map (move_taken a' c') zs)
    ∙ ap (λ (l : List Placed). toks hs ++ l) (toks-append (map (move_taken a c) ys) (map (move_taken a' c') zs)
    ∙ (ap (λ (l : List Placed). l ++ toks (map (move_taken a' c') zs)) (toks-moved a c ys)
    ∙ ap (λ (l : List Placed). map (move_tok a c) (toks ys) ++ l) (toks-moved a' c' zs)))

-- where the tokens stand
pub old_stands : (s : List ℕ) (xs : List Taken) (n : ℕ) (b : Book) (C : CellAt xs n b) (T : Tail C.cs) → (stream s 0).toks ≡ toks xs → Each (Stands 0) (C.w ∷ C.cs) × Each (Stands 0) C.zs × Each (Stands T.x.tok.end) C.zs
old_stands s xs n b C T e =
    let (_, h) = behind_token s C.hs C.o (C.w ∷ (C.cs ++ C.zs)) 0 (e ∙ ap toks C.split) (omega arith) in
    let k : xs ≡ (C.hs ++ (C.o ∷ C.w ∷ T.ms)) ++ T.x ∷ C.zs =
    C.split ∙ (ap (λ (z : List Taken). C.hs ++ (C.o ∷ C.w ∷ z)) (ap (λ (z : List Taken). z ++ C.zs) T.split ∙ append_assoc T.ms (T.x ∷ []) C.zs)
    ∙ sym (append_assoc C.hs (C.o ∷ C.w ∷ T.ms) (T.x ∷ C.zs))) in
    let (_, i) = behind_token s (C.hs ++ (C.o ∷ C.w ∷ T.ms)) T.x C.zs T.x.tok.end (e ∙ ap toks k) (le_refl T.x.tok.end) in
    (each_left (Stands 0) (C.w ∷ C.cs) C.zs h, each_right (Stands 0) (C.w ∷ C.cs) C.zs h, i)

-- THE NEW FILE'S TOKENS, by the brackets
module _ (s t : List ℕ) (xs ys : List Taken) (n : ℕ) (b : Book) (C : CellAt xs n b) (I : Incoming C.d ys) (T : Tail C.cs) (U : Tail I.cs) where
  abbrev pub N : List ℕ
  N = swapped s C.o.tok.start T.x.tok.end t I.o.tok.start U.x.tok.end

  abbrev pub q' : ℕ
  q' = C.o.tok.start + (U.x.tok.end - I.o.tok.start)

  abbrev pub ns : List Taken
  ns = new_taken C.hs ys C.zs I.o.tok.start C.o.tok.start T.x.tok.end q'

  pub new_tokens : (stream s 0).toks ≡ toks xs → (stream t 0).toks ≡ toks ys → ((stream N 0).toks ≡ toks ns) × ((stream N 0).number ≡ (stream s 0).number)
  new_tokens e f =
      let (u, v) = tokens_swapped s t (toks C.hs) (toks (C.w ∷ T.ms)) (toks C.zs) [] (toks (I.w ∷ U.ms)) [] C.o.tok T.x.tok I.o.tok U.x.tok
      (e ∙ (ap toks C.split ∙ apart C.hs C.o C.w C.cs C.zs T))
      (opener_kind C.o.tok (rw C.block.opener at (taker-fits C.l C.o.tok _ C.opener))) (last_kind C.d C.cs C.block.rest T)
      (f ∙ all_of C.d ys I U) (opener_kind I.o.tok I.opens') (last_kind C.d I.cs I.block.rest U) in (
        u ∙ sym (toks-new C.hs ys C.zs I.o.tok.start C.o.tok.start T.x.tok.end q'
            ∙ ap (λ (l : List Placed). toks C.hs ++ (map (move_tok I.o.tok.start C.o.tok.start) l ++ map (move_tok T.x.tok.end q') (toks C.zs)))
            (all_of C.d ys I U)),
        v,
      )

  -- the places of both cells
  pub from1 : cell_from (suc n) xs ≡ C.o.tok.start
  from1 =
      ap (cell_from (suc n)) C.split
      ∙ from_at C.hs C.o C.w (C.cs ++ C.zs) n (file-begins C.hs C.l C.front) C.block.opener C.block.keyword C.number

  pub to1 : cell_to (suc n) xs ≡ T.x.tok.end
  to1 =
      ap (cell_to (suc n)) C.split
      ∙ to_at C.hs C.o C.w C.cs C.zs n T C.block.opener C.block.keyword
      (closes_there C.hs C.o C.k C.d C.block.opener (fed_there xs n b C) ∙ C.number)

  in_full : ys ≡ I.o ∷ I.w ∷ (I.cs ++ [])
  in_full = I.split ∙ ap (λ (z : List Taken). I.o ∷ I.w ∷ z) (sym (append-nil I.cs))

  pub from2 : cell_from 1 ys ≡ I.o.tok.start
  from2 = ap (cell_from 1) in_full ∙ from_at [] I.o I.w (I.cs ++ []) 0 tt I.block.opener I.block.keyword refl

  pub to2 : cell_to 1 ys ≡ U.x.tok.end
  to2 = ap (cell_to 1) in_full ∙ to_at [] I.o I.w I.cs [] 0 U I.block.opener I.block.keyword refl

  pub same-file : new_file s xs (suc n) t ys ≡ N
  same-file = rw (from1, to1, from2, to2)

  pub new_stands : (stream t 0).toks ≡ toks ys → Each (Stands I.o.tok.start) (I.w ∷ I.cs)
  new_stands f =
      let (h, _) = behind_token t [] I.o (I.w ∷ I.cs) 0 (f ∙ ap toks I.split) (omega arith) in
      (behind_token t [] I.o (I.w ∷ I.cs) I.o.tok.start (f ∙ ap toks I.split) (omega arith)).1
