-- READ EXACTLY: a text is read exactly if it is within the limit, its tokens are a carried file (or cell), every time, word and string is
-- fine and the rooms suffice; and what is left then is what the tokens say, each cell and each entry once, in file order.
-- Assumes nothing.
use Rattle.std.specs.Prelude.{◌≡◌, refl, Bool, true, false, ◌↔◌, ℕ, suc, ◌-◌, ◌≤◌, eqb, ltb, length}
use Rattle.std.proofs.Common.{sym, ap, subst, ◌∙◌, arith, eqb-true, ltb-false, le-ltb}
use mathlib.Core.List.{List, [], ◌∷◌, ◌++◌, head-eq_of_cons-eq, tail-eq_of_cons-eq, nil≢cons}
use Rattle.classes.specs.Choice.{pick}
use Rattle.tokens.specs.Stream.{Placed, stream}
use Rattle.grammar.specs.declared.Cell.{Cell}
use Rattle.grammar.specs.Ll.{Row, feeds}
use Rattle.grammar.specs.Machine.{Res, fine, bad, ◌then◌, fine_inj, bad≢fine, judges}
use Rattle.grammar.specs.Grammar.{Act, Term, N, alts, fits}
use Rattle.grammar.specs.Meaning.{Item, Book, judge}
use Rattle.grammar.specs.Reading.{At, runs, ended, reading}
use Rattle.grammar.specs.Outcome.{Stack, text_limit, read_file, read_cell_of}
use Rattle.laws.specs.Walk.{some_inj}
use Rattle.laws.specs.Sides.{Whole, a_file, a_cell, sdf_complete}
use Rattle.laws.specs.Phases.{Sound, taker_sound, closed-off}
use Rattle.laws.specs.Taken.{As, as_file, as_cell, starting, read_as_of, file-is, cell-is, Taken, terms, toks, Carried, tells, Every, scale_behind, opens_cell, opens_entry, those, cell_words, entry_words, Timely, Short}
use Rattle.laws.proofs.Judged.{Passed, passed, blamed, nothing_amiss}
use Rattle.laws.proofs.Behind.{Behind, behind, tells-append, then_fine, those-cons, Fed, fed, fed_split, fed_uncons, reached, reaches}
use Rattle.laws.specs.Log.{starts}
use Rattle.laws.proofs.Log.{item_places, cell_places, listed}
use Rattle.laws.proofs.Counts.{entry_counts, per_cell, counted}

-- a text follows all the rules, its tokens being taken so
pub record Follows (a : As) (s : List ℕ) (xs : List Taken) : Type 0 where
  -- no 'text longer than 16,777,216 bytes' (1)
  pub size : length s ≤ text_limit
  -- no illegal byte, and no comment or string that is never closed (2, 3): the tokens end at the text's end
  pub ended : (stream s 0).number ≡ 4
  pub tokens : toks xs ≡ (stream s 0).toks
  -- 'The part of SDF we carry' (4, 5)
  pub carried : Carried a.start xs
  -- 'A time is the exact product in femtoseconds: whole, and at most 10^15 either way', by the time scale in force there (6, 7)
  pub times : Every (λ before x. Timely (scale_behind a.unit before) x) xs
  -- no 'word or string content over 1,024 bytes as written' (8)
  pub sizes : Every (λ before x. Short x) xs
  -- room for every cell and every entry (9)
  pub cells : length (cell_words xs) ≤ a.cell_room
  pub entries : length (entry_words xs) ≤ a.item_room

-- what is left says what the tokens say: judged token by token; each cell and each entry is listed once, in file order, at its keyword's
-- place, and each cell with the number of the entries' keywords up to the next cell's
pub record Says (a : As) (xs : List Taken) (st : At) : Type 0 where
  pub told : tells (starting a).book xs ≡ fine st.book
  pub cell_list : cell_places st.book.log.cells ≡ starts (cell_words xs)
  pub entry_list : item_places st.book.log.items ≡ starts (entry_words xs)
  pub cell_count : length st.book.log.cells ≡ length (cell_words xs)
  pub entry_count : length st.book.log.items ≡ length (entry_words xs)
  pub of_each_cell : entry_counts st.book.log.cells ≡ per_cell xs

-- a reading that is fine: its parts
record Parts (a : As) (s : List ℕ) (st : At) : Type 0 where
  size : length s ≤ text_limit
  run : runs (starting a) (stream s 0).toks ≡ fine st
  empty : st.stack ≡ []
  number : (stream s 0).number ≡ 4

pub ended_fine : (l : Stack) (x st : At) (n q : ℕ) → ended l x n q ≡ fine st → (l ≡ []) × (n ≡ 4) × (x ≡ st)
ended_fine [] x st n q e = by (eqb n 4) refl e
  where
    by : (v : Bool) → eqb n 4 ≡ v → pick v (fine x) (bad n q) ≡ fine st → (◌≡◌ {A = Stack} [] []) × (n ≡ 4) × (x ≡ st)
    by true p e = (refl, eqb-true n 4 p, fine_inj e)
    by false p e = absurd (bad≢fine e)
ended_fine (y ∷ l) x st n q e = absurd (bad≢fine e)

pub within : (a : As) (s : List ℕ) (r : Res At) (st : At) → pick (ltb text_limit (length s)) (bad 1 0) r ≡ fine st →
    (length s ≤ text_limit) × (r ≡ fine st)
within a s r st e = by (ltb text_limit (length s)) refl e
  where
    by : (v : Bool) → ltb text_limit (length s) ≡ v → pick v (bad 1 0) r ≡ fine st → (length s ≤ text_limit) × (r ≡ fine st)
    by true p e = absurd (bad≢fine e)
    by false p e = (ltb-false text_limit (length s) p, e)

parts : (a : As) (s : List ℕ) (st : At) → read_as_of a s ≡ fine st → Parts a s st
unfolding reading
parts a s st e =
    let (h, f) = within a s (reading s (starting a) 0) st e in
    let (x, g, i) = then_fine (runs (starting a) (stream s 0).toks) _ st f in
    let (j, k, l) = ended_fine x.stack x st (stream s 0).number (stream s 0).place i in
    record { size = h; run = g ∙ ap (λ (y : At). fine y) l; empty = sym (ap (λ (y : At). y.stack) l) ∙ j; number = k }

pub whole : (a : As) (s : List ℕ) (d : Book) → length s ≤ text_limit →
    runs (starting a) (stream s 0).toks ≡ fine (record { stack = []; book = d }) →
    (stream s 0).number ≡ 4 → read_as_of a s ≡ fine (record { stack = []; book = d })
unfolding reading
whole a s d h e n = rw (le-ltb text_limit (length s) h, e, n)

-- each token of those that passed, with what is known before it
pub at_each : (b d : Book) (xs before after : List Taken) (x : Taken) → tells b xs ≡ fine d → xs ≡ before ++ x ∷ after →
    (c : Book) × (e : Book) × Behind b before c × Passed c x e
unfolding judges
at_each b d xs before after x e i =
    let (c, f, g) = then_fine (tells b before) (λ y. tells y (x ∷ after)) d
    (sym (tells-append b before (x ∷ after)) ∙ (ap (tells b) (sym i) ∙ e)) in
    let (z, h, j) = then_fine (judge c x.by x.tok) (λ y. tells y after) d g in
    (c, z, behind before b c f, passed c x z h)

-- a taken token of a carried text is sound
pub each_sound : {ss : Stack} → Whole ss → (xs : List Taken) → Carried ss xs → Every (λ before x. Sound x.by x.tok) xs
each_sound {ss} w xs d before after x e =
    let (l, f, g) = fed_split ss before (x ∷ after) [] (subst (λ (y : List Taken). Fed ss y []) e (fed ss xs d)) in
    let (m, h, i) = fed_uncons l x after [] g in
    taker_sound w (toks before) _ x.tok _ f h

here : (f : Act → Bool) (x : Taken) (xs : List Taken) (n : ℕ) → length (those f (x ∷ xs)) ≤ n → f x.by.act ≡ true → 1 ≤ n
here f x xs n h e = let g = rw e at h in omega arith

behind_it : (f : Act → Bool) (x : Taken) (xs : List Taken) (n m : ℕ) → length (those f (x ∷ xs)) ≤ n → m ≡ n - length (those f (x ∷ [])) →
    length (those f xs) ≤ m
behind_it f x xs n m h e = let z = those-cons f x xs in omega arith

-- tokens with which all is well pass
pass : (xs : List Taken) (b : Book) → Every (λ before x. Sound x.by x.tok) xs →
    Every (λ before x. Timely (scale_behind b.unit before) x) xs →
    Every (λ before x. Short x) xs → length (cell_words xs) ≤ b.cell_room → length (entry_words xs) ≤ b.item_room → (d : Book) × (tells b xs ≡ fine d)
unfolding judges
pass [] b o t s c i = (b, refl)
pass (x ∷ xs) b o t s c i = by (judge b x.by x.tok) refl (pass xs)
  where
    Rest : Type 0
    Rest = (d : Book) → Every (λ before y. Sound y.by y.tok) xs → Every (λ before y. Timely (scale_behind d.unit before) y) xs →
        Every (λ before y. Short y) xs → length (cell_words xs) ≤ d.cell_room → length (entry_words xs) ≤ d.item_room →
        (e : Book) × (tells d xs ≡ fine e)

    by : (r : Res Book) → judge b x.by x.tok ≡ r → Rest → (d : Book) × ((r then (λ y. tells y xs)) ≡ fine d)
    by (fine d) e ih =
        let p = passed b x d e in
        ih d (λ before after y f. o (x ∷ before) after y (ap (λ (l : List Taken). x ∷ l) f))
        (λ before after y f. subst (λ (u : ℕ). Timely (scale_behind u before) y) (sym p.unit)
        (t (x ∷ before) after y (ap (λ (l : List Taken). x ∷ l) f)))
        (λ before after y f. s (x ∷ before) after y (ap (λ (l : List Taken). x ∷ l) f))
        (behind_it opens_cell x xs b.cell_room d.cell_room c p.cells) (behind_it opens_entry x xs b.item_room d.item_room i p.entries)
    by (bad n q) e ih =
        absurd (nothing_amiss b.unit b.cell_room b.item_room x (t [] xs x refl) (s [] xs x refl)
        (here opens_cell x xs b.cell_room c) (here opens_entry x xs b.item_room i) n (blamed b x n q (o [] xs x refl) e).amiss)

module _ (a : As) (w : Whole a.start) (s : List ℕ) where
  pub follows : (st : At) → read_as_of a s ≡ fine st → (xs : List Taken) × Follows a s xs
  follows st e =
      let p = parts a s st e in
      let (xs, i, f, g) = reached a (stream s 0).toks st p.run in
      let b = behind xs (starting a).book st.book g in (
        xs,
        record {
          size = p.size;
          ended = p.number;
          tokens = i;
          carried = (sdf_complete a.start (toks xs) (terms xs)).1 (subst (λ (l : Stack). Fed a.start xs l) p.empty f);
          times = λ before after x h.
              let (c, d, k, j) = at_each (starting a).book st.book xs before after x g h in subst (λ (u : ℕ). Timely u x) k.unit j.timely;
          sizes = λ before after x h. let (c, d, k, j) = at_each (starting a).book st.book xs before after x g h in j.short;
          cells = b.cells_fit;
          entries = b.entries_fit_of;
        },
      )

  pub is_read : (xs : List Taken) → Follows a s xs → (st : At) × (read_as_of a s ≡ fine st)
  is_read xs f =
      let (d, e) = pass xs (starting a).book (each_sound w xs f.carried) f.times f.sizes f.cells f.entries in (
        record { stack = []; book = d },
        whole a s d f.size (ap (runs (starting a)) (sym f.tokens) ∙ reaches a xs [] d (fed a.start xs f.carried) e) f.ended,
      )

same-pair : (c d : Term) (t u : Placed) → c ≡ d → t ≡ u → ◌≡◌ {A = Taken} (record { by = c; tok = t }) (record { by = d; tok = u })
same-pair c d t u e f = rw (e, f)

same-pairs : (xs ys : List Taken) → toks xs ≡ toks ys → terms xs ≡ terms ys → xs ≡ ys
same-pairs [] [] e f = refl
same-pairs [] (y ∷ ys) e f = absurd (nil≢cons e)
same-pairs (x ∷ xs) [] e f = absurd (nil≢cons (sym e))
same-pairs (x ∷ xs) (y ∷ ys) e f =
    let p : x ≡ y = same-pair x.by y.by x.tok y.tok (head-eq_of_cons-eq f) (head-eq_of_cons-eq e) in
    let q = same-pairs xs ys (tail-eq_of_cons-eq e) (tail-eq_of_cons-eq f) in
    cc

-- tokens are taken in one way only
pub one_way : (ss : Stack) (xs ys : List Taken) (l m : Stack) → toks xs ≡ toks ys → Fed ss xs l → Fed ss ys m → xs ≡ ys
one_way ss xs ys l m e f g =
    same-pairs xs ys e (ap (λ (r : Row Term N). r.labels) (some_inj (sym f ∙ (ap (feeds fits alts ss) e ∙ g))))

count_items : (is : List Item) (ts : List Placed) → item_places is ≡ starts ts → length is ≡ length ts
count_items [] [] e = refl
count_items [] (t ∷ ts) e = absurd (nil≢cons e)
count_items (i ∷ is) [] e = absurd (nil≢cons (sym e))
count_items (i ∷ is) (t ∷ ts) e = ap suc (count_items is ts (tail-eq_of_cons-eq e))

count-cells : (cs : List Cell) (ts : List Placed) → cell_places cs ≡ starts ts → length cs ≡ length ts
count-cells [] [] e = refl
count-cells [] (t ∷ ts) e = absurd (nil≢cons e)
count-cells (c ∷ cs) [] e = absurd (nil≢cons (sym e))
count-cells (c ∷ cs) (t ∷ ts) e = ap suc (count-cells cs ts (tail-eq_of_cons-eq e))

module _ (a : As) (w : Whole a.start) (s : List ℕ) where
  -- the rules are followed in one way only
  pub follows_once : (xs ys : List Taken) → Follows a s xs → Follows a s ys → xs ≡ ys
  follows_once xs ys f g =
      one_way a.start xs ys [] [] (f.tokens ∙ sym g.tokens) (fed a.start xs f.carried) (fed a.start ys g.carried)

  -- and what is left then is what the tokens say
  pub says : (st : At) (xs : List Taken) → read_as_of a s ≡ fine st → Follows a s xs → Says a xs st
  says st xs e f =
      let p = parts a s st e in
      let (ys, i, g, h) = reached a (stream s 0).toks st p.run in
      let j = one_way a.start ys xs _ [] (i ∙ sym f.tokens) g (fed a.start xs f.carried) in
      let k : tells (starting a).book xs ≡ fine st.book = ap (tells (starting a).book) (sym j) ∙ h in
      let o = closed-off w (toks xs) (terms xs) (fed a.start xs f.carried) in
      let (u, v) = listed a xs st.book o k in
      record {
        told = k;
        cell_list = v;
        entry_list = u;
        cell_count = count-cells st.book.log.cells (cell_words xs) v;
        entry_count = count_items st.book.log.items (entry_words xs) u;
        of_each_cell = counted a xs st.book o k;
      }

-- READ EXACTLY, for a file and for a patch's cell
pub read_exactly : (cr ir : ℕ) (s : List ℕ) →
    ((st : At) × (read_file cr ir s ≡ fine st)) ↔ ((xs : List Taken) × Follows (as_file cr ir) s xs)
read_exactly cr ir s = (
  λ (st, e). follows (as_file cr ir) a_file s st (sym (file-is cr ir s) ∙ e),
  λ (xs, f). let (st, e) = is_read (as_file cr ir) a_file s xs f in (st, file-is cr ir s ∙ e),
)

pub cell_exactly : (slash : Bool) (unit cr ir : ℕ) (s : List ℕ) →
    ((st : At) × (read_cell_of slash unit cr ir s ≡ fine st)) ↔ ((xs : List Taken) × Follows (as_cell slash unit cr ir) s xs)
cell_exactly slash unit cr ir s = (
  λ (st, e). follows (as_cell slash unit cr ir) (a_cell slash) s st (sym (cell-is slash unit cr ir s) ∙ e),
  λ (xs, f). let (st, e) = is_read (as_cell slash unit cr ir) (a_cell slash) s xs f in (st, cell-is slash unit cr ir s ∙ e),
)

-- and what is left is what the tokens say
pub read_says : (cr ir : ℕ) (s : List ℕ) (st : At) (xs : List Taken) → read_file cr ir s ≡ fine st → Follows (as_file cr ir) s xs →
    Says (as_file cr ir) xs st
read_says cr ir s st xs e f = says (as_file cr ir) a_file s st xs (sym (file-is cr ir s) ∙ e) f

pub cell-says : (slash : Bool) (unit cr ir : ℕ) (s : List ℕ) (st : At) (xs : List Taken) → read_cell_of slash unit cr ir s ≡ fine st →
    Follows (as_cell slash unit cr ir) s xs → Says (as_cell slash unit cr ir) xs st
cell-says slash unit cr ir s st xs e f = says (as_cell slash unit cr ir) (a_cell slash) s st xs (sym (cell-is slash unit cr ir s) ∙ e) f
