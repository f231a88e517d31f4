-- CELL AFTER CELL: behind other cells and entries, and at other places, they add the same cells and entries with their places moved.
-- Assumes nothing.
use Rattle.std.specs.Prelude.{◌≡◌, refl, Bool, true, false, ℕ, suc, ◌+◌, ◌-◌, ◌≤◌, length}
use Rattle.std.proofs.Common.{sym, ap, subst, ◌∙◌, arith}
use mathlib.Core.List.{List, [], ◌∷◌, ◌++◌, map, append-nil, append_assoc}
use Rattle.std.proofs.Math.ListN.{length-append}
use Rattle.std.proofs.lemmas.List.{length-map}
use Rattle.std.proofs.Math.Seq.{append_snoc}
use Rattle.classes.specs.Choice.{pick}
use Rattle.tokens.specs.Stream.{Placed}
use Rattle.grammar.specs.declared.Cell.{Cell}
use Rattle.grammar.specs.Machine.{Res, fine, ◌then◌, fine_inj, judges}
use Rattle.grammar.specs.Grammar.{Act, skip, Term, closes}
use Rattle.grammar.specs.Meaning.{Item, Book, tidy, told, judge}
use Rattle.laws.specs.Taken.{Taken, tells, opens_cell, opens_entry, those, cell_words, entry_words}
use Rattle.laws.proofs.Behind.{then_fine, tells-append, behind}
use Rattle.sound.specs.Sound.{Each, total}
use Rattle.splice.proofs.Along.{move_tok}
use Rattle.splice.proofs.Swap.{map-append}
use Rattle.splice.proofs.Moved.{move_cell, move_item, move_taken}
use Rattle.splice.proofs.OneCell.{Stands, Block, Adds, cell-adds}
use Rattle.splice.proofs.Blocks.{Cells, last, next}

pub those-append : (f : Act → Bool) (xs ys : List Taken) → those f (xs ++ ys) ≡ those f xs ++ those f ys
those-append f [] ys = refl
those-append f (x ∷ xs) ys = by (f x.by.act) (those-append f xs ys)
  where
    by : (v : Bool) → those f (xs ++ ys) ≡ those f xs ++ those f ys →
        pick v (x.tok ∷ those f (xs ++ ys)) (those f (xs ++ ys)) ≡ pick v (x.tok ∷ those f xs) (those f xs) ++ those f ys
    by true e = ap (λ (l : List Placed). x.tok ∷ l) e
    by false e = e

pub those-moved : (f : Act → Bool) (a c : ℕ) (xs : List Taken) → those f (map (move_taken a c) xs) ≡ map (move_tok a c) (those f xs)
those-moved f a c [] = refl
those-moved f a c (x ∷ xs) = by (f x.by.act) (those-moved f a c xs)
  where
    by : (v : Bool) → those f (map (move_taken a c) xs) ≡ map (move_tok a c) (those f xs) →
        pick v (move_tok a c x.tok ∷ those f (map (move_taken a c) xs)) (those f (map (move_taken a c) xs))
        ≡ map (move_tok a c) (pick v (x.tok ∷ those f xs) (those f xs))
    by true e = ap (λ (l : List Placed). move_tok a c x.tok ∷ l) e
    by false e = e

pub count-moved : (f : Act → Bool) (a c : ℕ) (xs : List Taken) → length (those f (map (move_taken a c) xs)) ≡ length (those f xs)
count-moved f a c xs = ap length (those-moved f a c xs) ∙ length-map (those f xs) (move_tok a c)

pub each_left : {A : Type 0} (P : A → Type 0) (l m : List A) → Each P (l ++ m) → Each P l
each_left P [] m h = tt
each_left P (a ∷ l) m (x, h) = (x, each_left P l m h)

pub each_right : {A : Type 0} (P : A → Type 0) (l m : List A) → Each P (l ++ m) → Each P m
each_right P [] m h = h
each_right P (a ∷ l) m (x, h) = each_right P l m h

pub at_term : (x : Taken) (p : Term) (b : Book) → x.by ≡ p → tells b (x ∷ []) ≡ judge b p x.tok then (λ y. fine y)
unfolding judges
at_term x p b e = rw (← e)

pub record AddsAll (a c : ℕ) (ts ts' : List ℕ) (cs cs' : List Cell) (is is' : List Item) (b b' e : Book) (xs : List Taken) : Type 0 where
  pub e' : Book
  pub told : tells b' (map (move_taken a c) xs) ≡ fine e'
  pub cells : List Cell
  pub items : List Item
  pub log : e.log ≡ tidy ts (cs ++ cells) (is ++ items)
  pub log' : e'.log ≡ tidy ts' (cs' ++ map (move_cell a c) cells) (is' ++ map (move_item a c) items)
  pub count : total cells ≡ length items
  pub slash : e.slash ≡ b.slash
  pub unit : e.unit ≡ b.unit
  pub slash' : e'.slash ≡ b'.slash
  pub unit' : e'.unit ≡ b'.unit

rooms : (f : Act → Bool) (a c : ℕ) (xs zs : List Taken) (room room' : ℕ) → length (those f (xs ++ zs)) ≤ room →
    room' ≡ room - length (those f (map (move_taken a c) xs)) → length (those f zs) ≤ room'
rooms f a c xs zs room room' h e =
    let y = count-moved f a c xs in
    let z : length (those f (xs ++ zs)) ≡ length (those f xs) + length (those f zs) =
    ap length (those-append f xs zs) ∙ length-append (those f xs) (those f zs) in
    omega arith

-- one cell, and those behind it
module _ (a c : ℕ) (ts ts' : List ℕ) (cs cs' : List Cell) (is is' : List Item) (b b' y e : Book) (vs us : List Taken)
    (A : Adds a c ts ts' cs cs' is is' b b' y vs)
    (M : AddsAll a c ts ts' (cs ++ A.done.cell ∷ []) (cs' ++ move_cell a c A.done.cell ∷ []) (is ++ A.done.new)
    (is' ++ map (move_item a c) A.done.new) y A.e' e us) where
  both_told : tells b' (map (move_taken a c) (vs ++ us)) ≡ fine M.e'
  both_told =
      ap (tells b') (map-append (move_taken a c) vs us) ∙ (tells-append b' (map (move_taken a c) vs) (map (move_taken a c) us)
      ∙ (ap (λ (v : Res Book). v then (λ z. tells z (map (move_taken a c) us))) A.told ∙ M.told))

  both-add : AddsAll a c ts ts' cs cs' is is' b b' e (vs ++ us)
  unfolding total
  both-add =
      let n = M.count in
      let n' = A.done.count in
      record {
        e' = M.e';
        told = both_told;
        cells = A.done.cell ∷ M.cells;
        items = A.done.new ++ M.items;
        log = rw (← append_snoc cs A.done.cell M.cells, ← append_assoc is A.done.new M.items) M.log;
        log' = rw (
          map-append (move_item a c) A.done.new M.items,
          ← append_snoc cs' (move_cell a c A.done.cell) (map (move_cell a c) M.cells),
          ← append_assoc is' (map (move_item a c) A.done.new) (map (move_item a c) M.items),
        ) M.log';
        count = omega (arith, length-append A.done.new M.items);
        slash = M.slash ∙ A.slash;
        unit = M.unit ∙ A.unit;
        slash' = M.slash' ∙ A.slash';
        unit' = M.unit' ∙ A.unit';
      }

-- a cell's keyword, and the entries' in it
block_cells : (d : Bool) (o w : Taken) (xs us : List Taken) (n : ℕ) → Block d o w xs → length (cell_words (o ∷ w ∷ (xs ++ us))) ≤ n → 1 ≤ n
block_cells d o w xs us n k h =
    let z : length (cell_words (o ∷ w ∷ (xs ++ us))) ≡ suc (length (cell_words (xs ++ us))) = rw (k.opener, k.keyword) in
    omega arith

block_entries : (d : Bool) (o w : Taken) (xs us : List Taken) (n : ℕ) → Block d o w xs → length (entry_words (o ∷ w ∷ (xs ++ us))) ≤ n →
    length (entry_words xs) ≤ n
block_entries d o w xs us n k h =
    let z : length (entry_words (o ∷ w ∷ (xs ++ us))) ≡ length (entry_words xs) + length (entry_words us) =
    rw (k.opener, k.keyword) (ap length (those-append opens_entry xs us) ∙ length-append (entry_words xs) (entry_words us)) in
    omega arith

pub cells-add : (a c : ℕ) (ts ts' : List ℕ) (d : Bool) (zs : List Taken) → Cells d zs → (cs cs' : List Cell) (is is' : List Item) (b b' e : Book) →
    Each (Stands a) zs → b.log ≡ tidy ts cs is → b'.log ≡ tidy ts' cs' is' → b'.unit ≡ b.unit → length (cell_words zs) ≤ b'.cell_room →
    length (entry_words zs) ≤ b'.item_room → tells b zs ≡ fine e → AddsAll a c ts ts' cs cs' is is' b b' e zs
unfolding total
cells-add a c ts ts' d zs (last x p) cs cs' is is' b b' e s l l' u r i f =
    let q : told b x.tok b.log ≡ e = fine_inj (sym (at_term x (closes skip) b p) ∙ f) in
    subst (λ (y : Book). AddsAll a c ts ts' cs cs' is is' b b' y (x ∷ [])) q
    (record {
      e' = told b' (move_tok a c x.tok) b'.log;
      told = at_term (move_taken a c x) (closes skip) b' p;
      cells = [];
      items = [];
      log = rw (append-nil, append-nil) l;
      log' = rw (append-nil, append-nil) l';
      count = refl;
      slash = refl;
      unit = refl;
      slash' = refl;
      unit' = refl;
    })
cells-add a c ts ts' d zs (next o w xs us k more) cs cs' is is' b b' e (_, (s1, s)) l l' u r i f =
    let (y, g, h) = then_fine (tells b (o ∷ w ∷ xs)) (λ v. tells v us) e (sym (tells-append b (o ∷ w ∷ xs) us) ∙ f) in
    by y (cell-adds a c ts ts' cs cs' is is' d o w xs b b' y k s1 (each_left (Stands a) xs us s) l l' u
    (block_cells d o w xs us b'.cell_room k r) (block_entries d o w xs us b'.item_room k i) g) h
    (λ ds ds' js js' y y' l l' u r i f. cells-add a c ts ts' d us more ds ds' js js' y y' e (each_right (Stands a) xs us s) l l' u r i f)
  where
    by : (y : Book) → Adds a c ts ts' cs cs' is is' b b' y (o ∷ w ∷ xs) → tells y us ≡ fine e →
        ((ds ds' : List Cell) (js js' : List Item) (y y' : Book) → y.log ≡ tidy ts ds js → y'.log ≡ tidy ts' ds' js' → y'.unit ≡ y.unit →
        length (cell_words us) ≤ y'.cell_room → length (entry_words us) ≤ y'.item_room → tells y us ≡ fine e →
        AddsAll a c ts ts' ds ds' js js' y y' e us) → AddsAll a c ts ts' cs cs' is is' b b' e (o ∷ w ∷ (xs ++ us))
    by y A h ih =
        both-add a c ts ts' cs cs' is is' b b' y e (o ∷ w ∷ xs) us A
        (ih _ _ _ _ y A.e' A.done.log A.done.log' (A.unit' ∙ (u ∙ sym A.unit))
        (rooms opens_cell a c (o ∷ w ∷ xs) us b'.cell_room A.e'.cell_room r (behind (map (move_taken a c) (o ∷ w ∷ xs)) b' A.e' A.told).cells)
        (rooms opens_entry a c (o ∷ w ∷ xs) us b'.item_room A.e'.item_room i (behind (map (move_taken a c) (o ∷ w ∷ xs)) b' A.e' A.told).entries) h)
