-- SPLICE: the new file's reading. It has the old file's cells and entries, with the incoming cell and its entries in place of those of the
-- cell number k, and places moved: a place of the part before stays; one of the incoming text, from its '(' on, moves to where the old cell's
-- '(' stood; one of the part behind moves by the difference in length. The header's texts, the divider and the time scale are the old file's.
-- Assumes nothing.
use Rattle.std.specs.Prelude.{◌≡◌, refl, Bool, List, [], ◌∷◌, ◌++◌, map, ℕ, zero, suc, ◌+◌, ◌-◌, ◌≤◌, ◌<◌, length}
use Rattle.std.proofs.Common.{sym, ap, subst, ◌∙◌, append_assoc, arith, length-append}
use Rattle.std.proofs.Math.Seq.{append_snoc}
use Rattle.tokens.specs.Stream.{Placed, stream}
use Rattle.grammar.specs.declared.Cell.{Cell}
use Rattle.grammar.specs.Machine.{fine}
use Rattle.grammar.specs.Grammar.{file, one_cell_of}
use Rattle.grammar.specs.Meaning.{Item, Log, Book, tidy}
use Rattle.grammar.specs.Reading.{At, runs}
use Rattle.grammar.specs.Outcome.{text_limit, read_file, read_cell_of}
use Rattle.laws.specs.Taken.{as_file, as_cell, starting, file-is, Taken, toks, opens_cell, opens_entry, cell_words, entry_words}
use Rattle.laws.proofs.Behind.{Fed, fed, reaches}
use Rattle.laws.proofs.Exactly.{Follows, Says, read_exactly, cell_exactly, read_says, cell-says, whole}
use Rattle.sound.specs.Sound.{Each, total, read_sound}
use Rattle.splice.proofs.Along.{move_tok}
use Rattle.splice.proofs.Moved.{move_cell, move_item, move_taken}
use Rattle.splice.proofs.OneCell.{Stands, Adds}
use Rattle.splice.proofs.Near.{NearCell, NearItem, NearTexts}
use Rattle.splice.proofs.Names.{Words, Named, named, front-near, front_texts, incoming_near, behind-near, token_inside, behind-cells, same_items, cells-ahead, items_ahead}
use Rattle.splice.proofs.Several.{count-moved, each_left, each_right}
use Rattle.splice.specs.Span.{cell_from, cell_to, new_file, taken_of, new_file_of}
use Rattle.splice.proofs.Span.{taken_is, CellAt, cell-at, Tail, tail_of, Begins}
use Rattle.splice.proofs.Carried.{Incoming, incoming, new_taken, new_carried}
use Rattle.splice.proofs.Parts.{Old, old, sizes, old_cell, old_keeps, file-begins, toks-append, toks-new, old_entries, entries_at, NewRun, new-run, those-sum, block_cells, block_entries, total-append, N, q', new_tokens, from1, to1, from2, to2, same-file, old_stands, new_stands}

-- what the file (the text s, read as st), the incoming text (t, st2) and the new file (n, st') list; the file's cell number k stands from p to q,
-- the incoming cell from p' to q'
pub record Spliced (s t n : List ℕ) (k p q p' q' : ℕ) (st st2 st' : At) : Type 0 where
  pub front : List Cell
  pub outgoing : Cell
  pub behind : List Cell
  pub front_items_of : List Item
  pub out_items : List Item
  pub behind_items : List Item
  pub incoming : Cell
  -- the old file's cells and entries, in three parts; k - 1 cells stand before
  pub cells : st.book.log.cells ≡ front ++ outgoing ∷ behind
  pub items : st.book.log.items ≡ front_items_of ++ (out_items ++ behind_items)
  pub number : length front + 1 ≡ k
  pub front_count : total front ≡ length front_items_of
  pub out_count : outgoing.entries ≡ length out_items
  pub behind_count : total behind ≡ length behind_items
  -- the incoming text has one cell
  pub one : st2.book.log.cells ≡ incoming ∷ []
  -- the new file's cells and entries, and nothing in hand
  pub log : st'.book.log ≡ tidy st.book.log.texts (front ++ move_cell p' p incoming ∷ map (move_cell q (p + (q' - p'))) behind)
      (front_items_of ++ (map (move_item p' p) st2.book.log.items ++ map (move_item q (p + (q' - p'))) behind_items))
  pub slash : st'.book.slash ≡ st.book.slash
  pub unit : st'.book.unit ≡ st.book.unit
  pub stack : st'.stack ≡ []
  -- 'A word of the new file is the same word as the one its bytes come from.' 'After the swap a name's bytes stand in the old file or in the
  -- incoming cell.'
  pub words : Words s t n p q p' q'
  pub names : Named s t n p q p' q' st.book.log.texts front front_items_of (incoming ∷ []) st2.book.log.items behind behind_items

regrouped : (f : Item → Item) (ts ts' : List ℕ) (a : List Cell) (x : Cell) (b : List Cell) (c d d' e : List Item) (l : Log) → ts ≡ ts' → d ≡ d' →
    l ≡ tidy ts ((a ++ x ∷ []) ++ b) ((c ++ map f d) ++ e) → l ≡ tidy ts' (a ++ x ∷ b) (c ++ (map f d' ++ e))
regrouped f ts ts' a x b c d d' e l p q h = h ∙ rw (append_snoc a x b, append_assoc c (map f d) e, p, q)

-- from the runs of the parts
spliced_by : (sT tT nT : List ℕ) (n p q p' q' cr ir : ℕ) (b b1 : Book) (hs ys zs : List Taken) (st st2 : At) (R : NewRun b st.book b1 st2.book hs ys zs p q p' (p + (q' - p')) cr ir) →
    length b1.log.cells ≡ n → total st.book.log.cells ≡ length st.book.log.items → st.book.slash ≡ b1.slash → st.book.unit ≡ b1.unit →
    Words sT tT nT p q p' q' →
    Named sT tT nT p q p' q' st.book.log.texts b1.log.cells b1.log.items (R.new ∷ []) st2.book.log.items R.behind_cells R.behind_items →
    Spliced sT tT nT (suc n) p q p' q' st st2 (record { stack = []; book = R.e' })
unfolding total
spliced_by sT tT nT n p q p' q' cr ir b b1 hs ys zs st st2 R c t s u words names =
    let x : st.book.log.cells ≡ b1.log.cells ++ R.outgoing ∷ R.behind_cells =
    ap (λ (l : Log). l.cells) R.old_log ∙ append_snoc b1.log.cells R.outgoing R.behind_cells in
    let y : st.book.log.items ≡ b1.log.items ++ (R.out_items ++ R.behind_items) =
    ap (λ (l : Log). l.items) R.old_log ∙ append_assoc b1.log.items R.out_items R.behind_items in
    let v = ap total x ∙ total-append b1.log.cells (R.outgoing ∷ R.behind_cells) in
    let w = ap length y ∙ (length-append b1.log.items (R.out_items ++ R.behind_items)
    ∙ ap (λ (z : ℕ). length b1.log.items + z) (length-append R.out_items R.behind_items)) in
    let o = R.out_count in
    let h = R.behind_count in
    record {
      front = b1.log.cells;
      outgoing = R.outgoing;
      behind = R.behind_cells;
      front_items_of = b1.log.items;
      out_items = R.out_items;
      behind_items = R.behind_items;
      incoming = R.new;
      cells = x;
      items = y;
      number = omega arith;
      front_count = omega arith;
      out_count = o;
      behind_count = h;
      one = ap (λ (l : Log). l.cells) R.in_log;
      log = regrouped (move_item p' p) b1.log.texts st.book.log.texts b1.log.cells (move_cell p' p R.new) _ b1.log.items R.new_items
          st2.book.log.items _ R.e'.log (sym (ap (λ (l : Log). l.texts) R.old_log)) (sym (ap (λ (l : Log). l.items) R.in_log)) R.new_log;
      slash = R.slash' ∙ sym s;
      unit = R.unit' ∙ sym u;
      stack = refl;
      words = words;
      names = names;
    }

-- from the parts of both texts
module _ (cr ir : ℕ) (s : List ℕ) (st : At) (xs : List Taken) (f : Follows (as_file cr ir) s xs) (S : Says (as_file cr ir) xs st)
    (slash : Bool) (unit cr2 ir2 : ℕ) (t : List ℕ) (st2 : At) (ys : List Taken) (f2 : Follows (as_cell slash unit cr2 ir2) t ys)
    (S2 : Says (as_cell slash unit cr2 ir2) ys st2) (n : ℕ) (C : CellAt xs n (starting (as_file cr ir)).book)
    (O : Old xs n (starting (as_file cr ir)).book st.book C) (I : Incoming C.d ys) (T : Tail C.cs) (U : Tail I.cs) where
  abbrev b : Book
  b = (starting (as_file cr ir)).book

  abbrev p : ℕ
  p = C.o.tok.start

  abbrev q : ℕ
  q = T.x.tok.end

  abbrev p2 : ℕ
  p2 = I.o.tok.start

  abbrev q2 : ℕ
  q2 = U.x.tok.end

  abbrev new : List Taken
  new = new_taken C.hs ys C.zs p2 p q (p + (q2 - p2))

  -- as many cells as before, and entries
  new-cells : length (cell_words new) ≡ length st.book.log.cells
  new-cells =
      let a = those-sum opens_cell C.hs (map (move_taken p2 p) ys ++ map (move_taken q (p + (q2 - p2))) C.zs) in
      let c = those-sum opens_cell (map (move_taken p2 p) ys) (map (move_taken q (p + (q2 - p2))) C.zs) in
      let d = count-moved opens_cell p2 p ys in
      let e = count-moved opens_cell q (p + (q2 - p2)) C.zs in
      let g = ap (λ (z : List Taken). length (cell_words z)) I.split ∙ block_cells C.d I.o I.w I.cs I.block in
      let h = U.words in
      let i = S.cell_count ∙ (ap (λ (z : List Taken). length (cell_words z)) C.split ∙ those-sum opens_cell C.hs (C.o ∷ C.w ∷ (C.cs ++ C.zs))) in
      let j = those-sum opens_cell (C.o ∷ C.w ∷ C.cs) C.zs in
      let k = block_cells C.d C.o C.w C.cs C.block in
      let l = T.words in
      omega arith

  new_entries : length (entry_words new) + length (entry_words C.cs) ≡ length st.book.log.items + length st2.book.log.items
  new_entries =
      let a = those-sum opens_entry C.hs (map (move_taken p2 p) ys ++ map (move_taken q (p + (q2 - p2))) C.zs) in
      let c = those-sum opens_entry (map (move_taken p2 p) ys) (map (move_taken q (p + (q2 - p2))) C.zs) in
      let d = count-moved opens_entry p2 p ys in
      let e = count-moved opens_entry q (p + (q2 - p2)) C.zs in
      let h = S2.entry_count in
      let i = S.entry_count ∙ (ap (λ (z : List Taken). length (entry_words z)) C.split ∙ those-sum opens_entry C.hs (C.o ∷ C.w ∷ (C.cs ++ C.zs))) in
      let j = those-sum opens_entry (C.o ∷ C.w ∷ C.cs) C.zs in
      let k = block_entries C.d C.o C.w C.cs C.block in
      omega arith

  old_few : length (entry_words C.cs) ≤ length st.book.log.items
  old_few =
      let i = S.entry_count ∙ (ap (λ (z : List Taken). length (entry_words z)) C.split ∙ those-sum opens_entry C.hs (C.o ∷ C.w ∷ (C.cs ++ C.zs))) in
      let j = those-sum opens_entry (C.o ∷ C.w ∷ C.cs) C.zs in
      let k = block_entries C.d C.o C.w C.cs C.block in
      omega arith

  -- the new file is read
  abbrev Law : List ℕ → ℕ → ℕ → ℕ → ℕ → ℕ → ℕ → Type 0
  Law m cr' ir' p q p2 q2 = (st' : At) × (read_file cr' ir' m ≡ fine st') × Spliced s t m (suc n) p q p2 q2 st st2 st'

  -- the words
  new_words : Words s t (N s t xs ys n b C I T U) p q p2 q2
  new_words =
      record {
        before = toks C.hs;
        outgoing = toks (C.o ∷ C.w ∷ C.cs);
        behind = toks C.zs;
        old = sym f.tokens ∙ (ap toks C.split ∙ (toks-append C.hs (C.o ∷ C.w ∷ (C.cs ++ C.zs))
            ∙ ap (λ (l : List Placed). toks C.hs ++ l) (toks-append (C.o ∷ C.w ∷ C.cs) C.zs)));
        new = (new_tokens s t xs ys n b C I T U (sym f.tokens) (sym f2.tokens)).0
            ∙ (toks-new C.hs ys C.zs p2 p q (p + (q2 - p2))
            ∙ ap (λ (l : List Placed). toks C.hs ++ (map (move_tok p2 p) l ++ map (move_tok q (p + (q2 - p2))) (toks C.zs))) f2.tokens);
      }

  -- the names' bytes
  new_names : (cr' ir' : ℕ) (R : NewRun b st.book O.b1 st2.book C.hs ys C.zs p q p2 (p + (q2 - p2)) cr' ir') → Each (Stands 0) (C.w ∷ C.cs) →
      Named s t (N s t xs ys n b C I T U) p q p2 q2 st.book.log.texts O.b1.log.cells O.b1.log.items (R.new ∷ []) st2.book.log.items R.behind_cells R.behind_items
  new_names cr' ir' R s1 = by (old_cell xs n b st.book C O s1)
    where
      tokens1 : (stream s 0).toks ≡ toks (C.hs ++ (C.o ∷ C.w ∷ (C.cs ++ C.zs)))
      tokens1 = sym f.tokens ∙ ap toks C.split

      tokens2 : (stream s 0).toks ≡ toks ((C.hs ++ (C.o ∷ C.w ∷ T.ms)) ++ (T.x ∷ C.zs))
      tokens2 =
          tokens1 ∙ ap toks (ap (λ (z : List Taken). C.hs ++ (C.o ∷ C.w ∷ z)) (ap (λ (z : List Taken). z ++ C.zs) T.split ∙ append_assoc T.ms (T.x ∷ []) C.zs)
          ∙ sym (append_assoc C.hs (C.o ∷ C.w ∷ T.ms) (T.x ∷ C.zs)))

      cells1 : Each (λ c. 1 ≤ c.place) ((O.b1.log.cells ++ R.outgoing ∷ []) ++ R.behind_cells)
      cells1 =
          subst (λ (x : List Cell). Each (λ c. 1 ≤ c.place) x) (ap (λ (l : Log). l.cells) R.old_log)
          (cells-ahead s xs st.book.log.cells (file-begins xs [] (fed file xs f.carried)) (sym f.tokens) S.cell_list)

      items1 : Each (λ i. 1 ≤ i.head.place) ((O.b1.log.items ++ R.out_items) ++ R.behind_items)
      items1 =
          subst (λ (x : List Item). Each (λ i. 1 ≤ i.head.place) x) (ap (λ (l : Log). l.items) R.old_log)
          (items_ahead s xs st.book.log.items (file-begins xs [] (fed file xs f.carried)) (sym f.tokens) S.entry_list)

      begins2 : Begins ys
      begins2 = subst Begins (sym I.split) I.block.opener

      cells2 : Each (λ c. 1 ≤ c.place) (R.new ∷ [])
      cells2 =
          subst (λ (x : List Cell). Each (λ c. 1 ≤ c.place) x) (ap (λ (l : Log). l.cells) R.in_log)
          (cells-ahead t ys st2.book.log.cells begins2 (sym f2.tokens) S2.cell_list)

      items2 : Each (λ i. 1 ≤ i.head.place) st2.book.log.items
      items2 = items_ahead t ys st2.book.log.items begins2 (sym f2.tokens) S2.entry_list

      by : Adds 0 0 O.b1.log.texts O.b1.log.texts O.b1.log.cells O.b1.log.cells O.b1.log.items O.b1.log.items O.b1 O.b1 O.b2
          (C.o ∷ C.w ∷ C.cs) →
          Named s t (N s t xs ys n b C I T U) p q p2 q2 st.book.log.texts O.b1.log.cells O.b1.log.items (R.new ∷ []) st2.book.log.items R.behind_cells R.behind_items
      by A =
          let F = front-near s C.hs C.o (C.w ∷ (C.cs ++ C.zs)) b O.b1 (file-begins C.hs C.l C.front) tokens1 refl O.t1 in
          let (g1, g2, G) = incoming_near t C.d ys I U (starting (as_cell slash unit cr2 ir2)).book st2.book (sym f2.tokens) refl S2.told in
          let (h1, H) = behind-near s (C.hs ++ (C.o ∷ C.w ∷ T.ms)) T.x C.zs O.b2 st.book _ _ _ tokens2 A.done.log O.t3 in
          let (i1, i2) = token_inside s C.hs C.o (C.w ∷ (C.cs ++ C.zs)) tokens1 in
          let (c1, c2) = behind-cells O.b1.log.cells R.outgoing A.done.cell R.behind_cells H.new_cells (sym (ap (λ (l : Log). l.cells) R.old_log) ∙ H.cells) in
          let e = same_items O.b1.log.items R.out_items A.done.new R.behind_items H.new_items (sym (ap (λ (l : Log). l.items) R.old_log) ∙ H.items)
          (sym R.out_count ∙ (ap (λ (x : Cell). x.entries) c1 ∙ A.done.count)) in
          let X = front_texts s C.hs C.o (C.w ∷ (C.cs ++ C.zs)) b O.b1 (file-begins C.hs C.l C.front) tokens1 refl O.t1 in
          named s t p q p2 q2 (omega arith) h1 g1 g2 st.book.log.texts O.b1.log.cells (R.new ∷ []) R.behind_cells O.b1.log.items st2.book.log.items R.behind_items
          (subst (λ (x : List ℕ). NearTexts p x) (sym (ap (λ (l : Log). l.texts) R.old_log)) X)
          (subst (λ (x : List Cell). Each (NearCell 0 p) x) (sym F.cells) F.each_cell) (subst (λ (x : List Item). Each (NearItem 0 p) x) (sym F.items) F.each_item)
          (subst (λ (x : List Cell). Each (NearCell p2 q2) x) (sym G.cells ∙ ap (λ (l : Log). l.cells) R.in_log) G.each_cell)
          (subst (λ (x : List Item). Each (NearItem p2 q2) x) (sym G.items) G.each_item)
          (subst (λ (x : List Cell). Each (NearCell q (length s)) x) (sym c2) H.each_cell) (subst (λ (x : List Item). Each (NearItem q (length s)) x) (sym e) H.each_item)
          (each_left _ O.b1.log.cells (R.outgoing ∷ []) (each_left _ (O.b1.log.cells ++ R.outgoing ∷ []) R.behind_cells cells1))
          (each_left _ O.b1.log.items R.out_items (each_left _ (O.b1.log.items ++ R.out_items) R.behind_items items1)) cells2 items2
          (each_right _ (O.b1.log.cells ++ R.outgoing ∷ []) R.behind_cells cells1) (each_right _ (O.b1.log.items ++ R.out_items) R.behind_items items1)

  by-run : (cr' ir' : ℕ) → length (N s t xs ys n b C I T U) ≤ text_limit → st.book.slash ≡ C.d → st.book.unit ≡ O.b1.unit →
      total st.book.log.cells ≡ length st.book.log.items →
      Each (Stands 0) (C.w ∷ C.cs) →
      NewRun b st.book O.b1 st2.book C.hs ys C.zs p q p2 (p + (q2 - p2)) cr' ir' → Law (N s t xs ys n b C I T U) cr' ir' p q p2 q2
  by-run cr' ir' h sl un tot s1 R =
      let (u, v) = new_tokens s t xs ys n b C I T U (sym f.tokens) (sym f2.tokens) in (
        record { stack = []; book = R.e' },
        file-is cr' ir' (N s t xs ys n b C I T U)
            ∙ whole (as_file cr' ir') (N s t xs ys n b C I T U) R.e' h
            (ap (runs (starting (as_file cr' ir'))) u ∙ reaches (as_file cr' ir') new [] R.e' (new_carried xs n b C ys I p2 p q (p + (q2 - p2))) R.told')
            (v ∙ f.ended),
        spliced_by s t (N s t xs ys n b C I T U) n p q p2 q2 cr' ir' b O.b1 C.hs ys C.zs st st2 R ((sizes (as_file cr ir) xs n st.book C O).cells1 ∙ C.number) tot
            (sl ∙ sym O.slash1) un new_words (new_names cr' ir' R s1),
      )

  by_parts : (cr' ir' : ℕ) → unit ≡ st.book.unit → length (new_file s xs (suc n) t ys) ≤ text_limit → length st.book.log.cells ≤ cr' →
      length st.book.log.items - entries_at n st + length st2.book.log.items ≤ ir' → total st.book.log.cells ≡ length st.book.log.items →
      Law (new_file s xs (suc n) t ys) cr' ir' (cell_from (suc n) xs) (cell_to (suc n) xs) (cell_from 1 ys) (cell_to 1 ys)
  by_parts cr' ir' u h rc ri tot =
      let (s1, s2, s3) = old_stands s xs n b C T (sym f.tokens) in
      let (sl, un) = old_keeps xs n b st.book C O s1 s2 in
      let x = old_entries (as_file cr ir) xs n st.book C O s1 s2 in
      let y = old_few in
      let w = new_entries in
      let h' : length (N s t xs ys n b C I T U) ≤ text_limit = subst (λ (z : List ℕ). length z ≤ text_limit) (same-file s t xs ys n b C I T U) h in
      let c : length (cell_words new) ≤ cr' = omega (arith, new-cells) in
      let i : length (entry_words new) ≤ ir' = omega arith in
      let R = new-run xs n b st.book C O ys I (starting (as_cell slash unit cr2 ir2)).book st2.book p q p2 (p + (q2 - p2)) cr' ir' s1
      (new_stands s t xs ys n b C I T U (sym f2.tokens)) s3 refl (sym un ∙ sym u) S2.told c i in
      let L = by-run cr' ir' h' sl un tot s1 R in
      subst (λ (z : List ℕ). Law z cr' ir' (cell_from (suc n) xs) (cell_to (suc n) xs) (cell_from 1 ys) (cell_to 1 ys)) (sym (same-file s t xs ys n b C I T U))
      (rw (from1 s t xs ys n b C I T U, to1 s t xs ys n b C I T U, from2 s t xs ys n b C I T U, to2 s t xs ys n b C I T U) L)

-- THE LAW, where the tokens of both texts are taken so: if a file is read, k is the number of one of its cells, and a text is read as one cell
-- with the file's divider and time scale, then the new file is read too, within the limit and with room enough
pub splice_taken : (cr ir : ℕ) (s : List ℕ) (st : At) (xs : List Taken) (k cr2 ir2 : ℕ) (t : List ℕ) (st2 : At) (ys : List Taken) (cr' ir' : ℕ) →
    read_file cr ir s ≡ fine st → Follows (as_file cr ir) s xs → 1 ≤ k → k ≤ length st.book.log.cells →
    read_cell_of st.book.slash st.book.unit cr2 ir2 t ≡ fine st2 → Follows (as_cell st.book.slash st.book.unit cr2 ir2) t ys →
    length (new_file s xs k t ys) ≤ text_limit → length st.book.log.cells ≤ cr' →
    length st.book.log.items - entries_at (k - 1) st + length st2.book.log.items ≤ ir' →
    (st' : At) × (read_file cr' ir' (new_file s xs k t ys) ≡ fine st') × Spliced s t (new_file s xs k t ys) k (cell_from k xs) (cell_to k xs) (cell_from 1 ys) (cell_to 1 ys) st st2 st'
splice_taken cr ir s st xs zero cr2 ir2 t st2 ys cr' ir' e f h k e2 f2 l rc ri = absurd (omega arith)
splice_taken cr ir s st xs (suc n) cr2 ir2 t st2 ys cr' ir' e f h k e2 f2 l rc ri =
    let S = read_says cr ir s st xs e f in
    let S2 = cell-says st.book.slash st.book.unit cr2 ir2 t st2 ys e2 f2 in
    let b : Book = (starting (as_file cr ir)).book in
    let few : n < length (cell_words xs) = omega (arith, S.cell_count) in
    let C = cell-at xs n b st.book few refl (fed file xs f.carried) S.told in
    let O = old xs n b st.book C refl S.told in
    let T = tail_of C.d C.cs C.block.rest in
    let (s1, s2, _) = old_stands s xs n b C T (sym f.tokens) in
    let (sl, _) = old_keeps xs n b st.book C O s1 s2 in
    let I = incoming C.d ys (subst (λ (z : Bool). Fed (one_cell_of z) ys []) sl (fed (one_cell_of st.book.slash) ys f2.carried)) in
    let U = tail_of C.d I.cs I.block.rest in
    let m : suc n - 1 ≡ n = omega arith in
    by_parts cr ir s st xs f S st.book.slash st.book.unit cr2 ir2 t st2 ys f2 S2 n C O I T U cr' ir' refl l rc
    (subst (λ (z : ℕ). length st.book.log.items - entries_at z st + length st2.book.log.items ≤ ir') m ri) (read_sound cr ir s st e).entries

-- SPLICE, from the bytes alone
pub splice : (cr ir : ℕ) (s : List ℕ) (st : At) (k cr2 ir2 : ℕ) (t : List ℕ) (st2 : At) (cr' ir' : ℕ) →
    read_file cr ir s ≡ fine st → 1 ≤ k → k ≤ length st.book.log.cells → read_cell_of st.book.slash st.book.unit cr2 ir2 t ≡ fine st2 →
    length (new_file_of s k st.book.slash t) ≤ text_limit → length st.book.log.cells ≤ cr' →
    length st.book.log.items - entries_at (k - 1) st + length st2.book.log.items ≤ ir' →
    (st' : At) × (read_file cr' ir' (new_file_of s k st.book.slash t) ≡ fine st')
    × Spliced s t (new_file_of s k st.book.slash t) k (cell_from k (taken_of file s)) (cell_to k (taken_of file s)) (cell_from 1 (taken_of (one_cell_of st.book.slash) t))
    (cell_to 1 (taken_of (one_cell_of st.book.slash) t)) st st2 st'
unfolding new_file_of
splice cr ir s st k cr2 ir2 t st2 cr' ir' e h i e2 l rc ri =
    let (xs, f) = (read_exactly cr ir s).0 (st, e) in
    let (ys, f2) = (cell_exactly st.book.slash st.book.unit cr2 ir2 t).0 (st2, e2) in
    let x = taken_is (as_file cr ir) s xs f in
    let y = taken_is (as_cell st.book.slash st.book.unit cr2 ir2) t ys f2 in
    splice_taken cr ir s st (taken_of file s) k cr2 ir2 t st2 (taken_of (one_cell_of st.book.slash) t) cr' ir' e (subst (λ (z : List Taken). Follows (as_file cr ir) s z) (sym x) f) h i e2
    (subst (λ (z : List Taken). Follows (as_cell st.book.slash st.book.unit cr2 ir2) t z) (sym y) f2) l rc ri
