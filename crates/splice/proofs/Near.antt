-- WHERE WHAT WAS READ STANDS: what tokens add to a reading stands where they do; and the bytes there are the same in the new file.
-- Assumes nothing.
use Rattle.std.specs.Prelude.{◌≡◌, refl, Bool, true, false, ◌⊎◌, ℕ, ◌+◌, ◌-◌, ◌*◌, ◌≤◌, ◌<◌, eqb, leb, ltb, length, get_or, set, replicate, ℤ, Result, Ok, Err}
use Rattle.std.proofs.Common.{sym, ap, ◌∙◌, inl, inr, zero-add, arith, length-append, length-set, get_or-set_same, get_or-set_other, leb-true, leb-false, le-leb, eqb-true, ltb-true, ltb-false}
use Rattle.std.proofs.Math.Path.{subst}
use mathlib.Core.List.{List, [], ◌∷◌, ◌++◌, append_assoc}
use Rattle.std.proofs.lemmas.List.{get_or-replicate}
use Rattle.std.proofs.Math.ListN.{get_or-eq_default}
use Rattle.std.proofs.Math.Seq.{set_out}
use Rattle.std.proofs.lemmas.Bool.{lt-leb, eqb-false}
use Rattle.classes.specs.Choice.{pick}
use Rattle.tokens.specs.Stream.{Placed, part}
use Rattle.names.specs.Name.{part_of}
use Rattle.numbershape.specs.Value.{number_of}
use Rattle.numbershape.specs.declared.NotTime.{NotTime}
use Rattle.grammar.specs.declared.Entry.{Entry}
use Rattle.grammar.specs.declared.Cell.{Cell}
use Rattle.grammar.specs.Machine.{fine, bad, fine_inj, judges}
use Rattle.grammar.specs.Grammar.{Cls, Note, skip, heading, type, top, named, any, finish, edged, end, plain, empty, all, whole, close, Act, note, divide, scaled, unity, joined, cell, entry, time}
use Rattle.grammar.specs.Grammar as G
use Rattle.grammar.specs.Meaning.{Item, Begun, Log, Book, head_of, headed, celled, cell_of, finished, entered, item_of, edge_put, end_put, noted, overlong, refused≢fine, timed, judge, judge_by}
use Rattle.laws.specs.Taken.{Taken, tells}
use Rattle.laws.proofs.Judged.{pick_fine}
use Rattle.laws.proofs.Behind.{then_fine}
use Rattle.sound.specs.Sound.{Each}
use Rattle.splice.proofs.Along.{part-front, part-behind}
use Rattle.splice.specs.Moved.{move_at}
use Rattle.splice.proofs.Moved.{move-none, move_some, move_cell, move_item}

-- a part that stands between lo and hi, or nowhere (from 0 to 0)
abbrev pub Near : ℕ → ℕ → ℕ → ℕ → Type 0
Near lo hi b e = ((b ≡ 0) × (e ≡ 0)) ⊎ ((lo ≤ b) × (b ≤ hi) × (lo ≤ e) × (e ≤ hi) × (1 ≤ b) × (1 ≤ e))

-- a keyword that stands there, or none
abbrev pub NearAt : ℕ → ℕ → ℕ → Type 0
NearAt lo hi x = (x ≡ 0) ⊎ ((lo ≤ x) × (x < hi))

pub record NearCell (lo hi : ℕ) (c : Cell) : Type 0 where
  pub place : NearAt lo hi c.place
  pub type : Near lo hi c.typefrom c.typeto
  pub path : Near lo hi c.pathfrom c.pathto

pub record NearEntry (lo hi : ℕ) (h : Entry) : Type 0 where
  pub place : NearAt lo hi h.place
  pub first : Near lo hi h.from1 h.to1
  pub second : Near lo hi h.from2 h.to2

abbrev pub NearItem : ℕ → ℕ → Item → Type 0
NearItem lo hi i = NearEntry lo hi i.head

-- what is listed behind cs and is, and what is in hand
pub record NearLog (lo hi : ℕ) (cs : List Cell) (is : List Item) (l : Log) : Type 0 where
  pub new_cells : List Cell
  pub new_items : List Item
  pub cells : l.cells ≡ cs ++ new_cells
  pub items : l.items ≡ is ++ new_items
  pub each_cell : Each (NearCell lo hi) new_cells
  pub each_item : Each (NearItem lo hi) new_items
  pub place : NearAt lo hi l.begun.place
  pub type : Near lo hi l.begun.typefrom l.begun.typeto
  pub path : Near lo hi l.begun.pathfrom l.begun.pathto
  pub head : NearEntry lo hi l.head

abbrev pub Within : ℕ → ℕ → Taken → Type 0
Within lo hi x = (lo ≤ x.tok.start) × (1 ≤ x.tok.start) × (x.tok.start < x.tok.end) × (x.tok.end ≤ hi)

each_more : {A : Type 0} (P : A → Type 0) (l : List A) (a : A) → Each P l → P a → Each P (l ++ a ∷ [])
each_more P [] a h p = (p, tt)
each_more P (x ∷ l) a (y, h) p = (y, each_more P l a h p)

no_entry_lem : (lo hi k g p : ℕ) → NearAt lo hi p → NearEntry lo hi (head_of k g p)
no_entry_lem lo hi k g p h = record { place = h; first = inl (refl, refl); second = inl (refl, refl) }

edge_near : (lo hi : ℕ) (i : Bool) (g : ℕ) (h : Entry) → NearEntry lo hi h → NearEntry lo hi (edge_put i g h)
edge_near lo hi false g h n = record { place = n.place; first = n.first; second = n.second }
edge_near lo hi true g h n = record { place = n.place; first = n.first; second = n.second }

end_near : (lo hi : ℕ) (i : Bool) (g b e : ℕ) (h : Entry) → Near lo hi b e → NearEntry lo hi h → NearEntry lo hi (end_put i g b e h)
end_near lo hi false g b e h m n = record { place = n.place; first = m; second = n.second }
end_near lo hi true g b e h m n = record { place = n.place; first = n.first; second = m }

module _ (lo hi : ℕ) (cs : List Cell) (is : List Item) where
  -- the log with something else in hand
  module _ (l : Log) (h : NearLog lo hi cs is l) where
    near-cell : (c : Begun) → NearAt lo hi c.place → Near lo hi c.typefrom c.typeto → Near lo hi c.pathfrom c.pathto → NearLog lo hi cs is (celled c l)
    near-cell c pl t p =
        record { new_cells = h.new_cells; new_items = h.new_items; cells = h.cells; items = h.items; each_cell = h.each_cell; each_item = h.each_item; place = pl; type = t; path = p; head = h.head }

    near_head : (e : Entry) → NearEntry lo hi e → NearLog lo hi cs is (headed e l)
    near_head e n =
        record { new_cells = h.new_cells; new_items = h.new_items; cells = h.cells; items = h.items; each_cell = h.each_cell; each_item = h.each_item; place = h.place; type = h.type; path = h.path; head = n }

    -- nothing that has a place
    near_as : (m : Log) → m.cells ≡ l.cells → m.items ≡ l.items → m.begun ≡ l.begun → m.head ≡ l.head → NearLog lo hi cs is m
    near_as m a b c d =
        record { new_cells = h.new_cells; new_items = h.new_items; cells = a ∙ h.cells; items = b ∙ h.items; each_cell = h.each_cell; each_item = h.each_item; place = rw c h.place; type = rw c h.type; path = rw c h.path; head = rw d h.head }

    near_finish : NearLog lo hi cs is (finished l)
    near_finish =
        record { new_cells = h.new_cells ++ cell_of l.begun (length l.items - l.begun.before) ∷ []; new_items = h.new_items; cells = ap (λ (x : List Cell). x ++ cell_of l.begun (length l.items - l.begun.before) ∷ []) h.cells ∙ append_assoc cs h.new_cells (cell_of l.begun (length l.items - l.begun.before) ∷ []); items = h.items; each_cell = each_more (NearCell lo hi) h.new_cells (cell_of l.begun (length l.items - l.begun.before)) h.each_cell (record { place = h.place; type = h.type; path = h.path }); each_item = h.each_item; place = inl refl; type = inl (refl, refl); path = inl (refl, refl); head = h.head }

    near_close : NearLog lo hi cs is (entered (item_of l ∷ []) l)
    near_close =
        record { new_cells = h.new_cells; new_items = h.new_items ++ item_of l ∷ []; cells = h.cells; items = ap (λ (x : List Item). x ++ item_of l ∷ []) h.items ∙ append_assoc is h.new_items (item_of l ∷ []); each_cell = h.each_cell; each_item = each_more (NearItem lo hi) h.new_items (item_of l) h.each_item h.head; place = h.place; type = h.type; path = h.path; head = no_entry_lem lo hi 0 0 0 (inl refl) }

  -- a token's bytes, and those between its quotes
  whole-near : (b e : ℕ) → lo ≤ b → 1 ≤ b → b < e → e ≤ hi → Near lo hi b e
  whole-near b e p q r s = inr (p, omega arith, omega arith, s, q, omega arith)

  quoted_near : (b e : ℕ) → lo ≤ b → 1 ≤ b → b < e → e ≤ hi → Near lo hi (b + 1) (e - 1)
  quoted_near b e p q r s = inr (omega arith, omega arith, omega arith, omega arith, omega arith, omega arith)

  note_near : (k : Note) (t : Placed) (l : Log) → lo ≤ t.start → 1 ≤ t.start → t.start < t.end → t.end ≤ hi → NearLog lo hi cs is l →
      NearLog lo hi cs is (noted k t l)
  note_near skip t l a b c d h = h
  note_near (heading k) t l a b c d h = near_as l h _ refl refl refl refl
  note_near type t l a b c d h = near-cell l h _ h.place (quoted_near t.start t.end a b c d) h.path
  note_near top t l a b c d h = near-cell l h _ h.place h.type (inl (refl, refl))
  note_near named t l a b c d h = near-cell l h _ h.place h.type (whole-near t.start t.end a b c d)
  note_near any t l a b c d h = near-cell l h _ h.place h.type (inl (refl, refl))
  note_near finish t l a b c d h = near_finish l h
  note_near (edged i) t l a b c d h = near_head l h _ (edge_near lo hi i _ l.head h.head)
  note_near (end i) t l a b c d h = near_head l h _ (end_near lo hi i _ _ _ l.head (whole-near t.start t.end a b c d) h.head)
  note_near (plain i) t l a b c d h = near_head l h _ (end_near lo hi i _ _ _ l.head (whole-near t.start t.end a b c d) h.head)
  note_near G.none t l a b c d h = near_as l h _ refl refl refl refl
  note_near empty t l a b c d h = near_as l h _ refl refl refl refl
  note_near all t l a b c d h = near_as l h _ refl refl refl refl
  note_near whole t l a b c d h = near_as l h _ refl refl refl refl
  note_near close t l a b c d h = near_close l h

  near_simply : (v : Bool) (n s : ℕ) (d₀ d : Book) → NearLog lo hi cs is d₀.log → pick v (bad n s) (fine d₀) ≡ fine d → NearLog lo hi cs is d.log
  near_simply v n s d₀ d h e = subst (λ (x : Book). NearLog lo hi cs is x.log) (fine_inj (pick_fine v n s (fine d₀) d e).1) h

  act_near : (b : Book) (c : Cls) (x : Act) (t : Placed) (d : Book) → lo ≤ t.start → 1 ≤ t.start → t.start < t.end → t.end ≤ hi →
      judge_by b c x t ≡ fine d → NearLog lo hi cs is b.log → NearLog lo hi cs is d.log
  act_near b c (note n) t d p q r s e h = near_simply (overlong c t) 8 t.start _ d (note_near n t b.log p q r s h) e
  act_near b c (divide w) t d p q r s e h = near_simply (overlong c t) 8 t.start _ d h e
  act_near b c scaled t d p q r s e h = near_simply (overlong c t) 8 t.start _ d h e
  act_near b c unity t d p q r s e h = near_simply (overlong c t) 8 t.start _ d h e
  act_near b c joined t d p q r s e h = near_simply (overlong c t) 8 t.start _ d h e
  act_near b c cell t d p q r s e h =
      near_simply (eqb b.cell_room 0) 9 t.start _ d (near-cell b.log h _ (inr (p, omega arith)) (inl (refl, refl)) (inl (refl, refl)))
      (pick_fine (overlong c t) 8 t.start _ d e).1
  act_near b c (entry g) t d p q r s e h =
      near_simply (eqb b.item_room 0) 9 t.start _ d
      (near_as (headed (head_of _ g t.start) b.log) (near_head b.log h _ (no_entry_lem lo hi _ g t.start (inr (p, omega arith)))) _ refl refl refl refl)
      (pick_fine (overlong c t) 8 t.start _ d e).1
  act_near b c (time w k) t d p q r s e h = by (number_of w b.unit t.bytes) e
    where
      by : (v : Result ℤ NotTime) → timed b c k t v ≡ fine d → NearLog lo hi cs is d.log
      by (Ok z) e = near_simply (overlong c t) 8 t.start _ d (near_as b.log h _ refl refl refl refl) e
      by (Err y) e = absurd (refused≢fine b c k t y e)

  -- ALL TOKENS
  pub all_near : (xs : List Taken) (b d : Book) → Each (Within lo hi) xs → tells b xs ≡ fine d → NearLog lo hi cs is b.log → NearLog lo hi cs is d.log
  unfolding judges
  all_near [] b d s e h = subst (λ (x : Book). NearLog lo hi cs is x.log) (fine_inj e) h
  all_near (x ∷ xs) b d ((p, q, r, s), ss) e h =
      let (y, f, g) = then_fine (judge b x.by x.tok) (λ y. tells y xs) d e in
      all_near xs y d ss g (act_near b x.by.cls x.by.act x.tok y p q r s f h)

-- THE SAME BYTES
empty-part : (s : List ℕ) → part_of s 0 0 ≡ []
unfolding part_of
empty-part s = by (leb 0 (length s))
  where
    by : (v : Bool) → pick {A = List ℕ} v [] [] ≡ []
    by true = refl
    by false = refl

-- a part of the middle of a text
inside-part : (x y z : List ℕ) (b e : ℕ) → b ≤ length y → e ≤ length y → part_of (x ++ (y ++ z)) (length x + b) (length x + e) ≡ part_of y b e
unfolding part_of
inside-part x y z b e h k = by (leb b e) refl
  where
    long : length x + e ≤ length (x ++ (y ++ z))
    long = omega (arith, length-append x (y ++ z), length-append y z)

    by : (v : Bool) → leb b e ≡ v →
        pick (leb (length x + b) (length x + e)) (pick (leb (length x + e) (length (x ++ (y ++ z)))) (part (length x + b) (length x + e) (x ++ (y ++ z))) []) []
        ≡ pick v (pick (leb e (length y)) (part b e y) []) []
    by true f =
        rw (le-leb (length x + b) (length x + e) (omega (arith, leb-true b e f)), le-leb (length x + e) (length (x ++ (y ++ z))) long, le-leb e (length y) k)
        (part-behind x (y ++ z) b e ∙ part-front y z b e (leb-true b e f) k)
    by false f = rw (lt-leb (length x + b) (length x + e) (omega (arith, leb-false b e f)))

-- the middle of a text, in another text
pub part-moves : (x y z x' z' : List ℕ) (b e : ℕ) → Near (length x') (length x' + length y) b e →
    part_of (x ++ (y ++ z)) (move_at (length x') (length x) b) (move_at (length x') (length x) e) ≡ part_of (x' ++ (y ++ z')) b e
part-moves x y z x' z' b e (inl (p, q)) =
    rw (p, q, move-none (length x') (length x)) (empty-part (x ++ (y ++ z)) ∙ sym (empty-part (x' ++ (y ++ z'))))
part-moves x y z x' z' b e (inr (p, q, r, s, t, u)) =
    let b0 : length x' + (b - length x') ≡ b = omega arith in
    let e0 : length x' + (e - length x') ≡ e = omega arith in
    rw (move_some (length x') (length x) b t, move_some (length x') (length x) e u)
    (inside-part x y z (b - length x') (e - length x') (omega arith) (omega arith)
    ∙ (sym (inside-part x' y z' (b - length x') (e - length x') (omega arith) (omega arith))
    ∙ at_these (x' ++ (y ++ z')) _ _ _ _ b0 e0))
  where
    at_these : (s : List ℕ) (b b' e e' : ℕ) → b ≡ b' → e ≡ e' → part_of s b e ≡ part_of s b' e'
    at_these s b b' e e' p q = rw (p, q)

-- the front of a text, in another text
pub part_stays : (x z z' : List ℕ) (b e : ℕ) → Near 0 (length x) b e → part_of (x ++ z) b e ≡ part_of (x ++ z') b e
part_stays x z z' b e (inl (p, q)) = rw (p, q) (empty-part (x ++ z) ∙ sym (empty-part (x ++ z')))
part_stays x z z' b e (inr (p, q, r, s, t, u)) =
    (rw (zero-add, zero-add) at (inside-part [] x z b e q s)) ∙ sym (rw (zero-add, zero-add) at (inside-part [] x z' b e q s))

-- WHAT A NAME SAYS: a cell's type and path, and an entry's ends, have the same bytes in two texts
abbrev pub SameCell : List ℕ → Cell → List ℕ → Cell → Type 0
SameCell s c s' c' =
    (part_of s' c'.typefrom c'.typeto ≡ part_of s c.typefrom c.typeto) × (part_of s' c'.pathfrom c'.pathto ≡ part_of s c.pathfrom c.pathto)

abbrev pub SameItem : List ℕ → Item → List ℕ → Item → Type 0
SameItem s i s' i' =
    (part_of s' i'.head.from1 i'.head.to1 ≡ part_of s i.head.from1 i.head.to1)
    × (part_of s' i'.head.from2 i'.head.to2 ≡ part_of s i.head.from2 i.head.to2)

each_same : {A : Type 0} (P Q : A → Type 0) → ((a : A) → P a → Q a) → (l : List A) → Each P l → Each Q l
each_same P Q f [] h = tt
each_same P Q f (a ∷ l) (x, h) = (f a x, each_same P Q f l h)

pub cells-move : (x y z x' z' : List ℕ) (cs : List Cell) → Each (NearCell (length x') (length x' + length y)) cs →
    Each (λ c. SameCell (x' ++ (y ++ z')) c (x ++ (y ++ z)) (move_cell (length x') (length x) c)) cs
cells-move x y z x' z' cs h =
    each_same (NearCell (length x') (length x' + length y)) _ (λ c n. (part-moves x y z x' z' _ _ n.type, part-moves x y z x' z' _ _ n.path)) cs h

pub items_move : (x y z x' z' : List ℕ) (is : List Item) → Each (NearItem (length x') (length x' + length y)) is →
    Each (λ i. SameItem (x' ++ (y ++ z')) i (x ++ (y ++ z)) (move_item (length x') (length x) i)) is
items_move x y z x' z' is h =
    each_same (NearItem (length x') (length x' + length y)) _ (λ i n. (part-moves x y z x' z' _ _ n.first, part-moves x y z x' z' _ _ n.second)) is h

pub cells_stay : (x z z' : List ℕ) (cs : List Cell) → Each (NearCell 0 (length x)) cs → Each (λ c. SameCell (x ++ z') c (x ++ z) c) cs
cells_stay x z z' cs h = each_same (NearCell 0 (length x)) _ (λ c n. (part_stays x z z' _ _ n.type, part_stays x z z' _ _ n.path)) cs h

pub items_stay : (x z z' : List ℕ) (is : List Item) → Each (NearItem 0 (length x)) is → Each (λ i. SameItem (x ++ z') i (x ++ z) i) is
items_stay x z z' is h = each_same (NearItem 0 (length x)) _ (λ i n. (part_stays x z z' _ _ n.first, part_stays x z z' _ _ n.second)) is h

-- THE HEADER'S TEXTS: fourteen places, two to a text
abbrev pub NearTexts : ℕ → List ℕ → Type 0
NearTexts hi l = (length l ≡ 14) × ((i : ℕ) → Near 0 hi (get_or l (2 * i) 0) (get_or l (2 * i + 1) 0))

set_texts : (hi : ℕ) (l : List ℕ) (k b e : ℕ) → Near 0 hi b e → NearTexts hi l → NearTexts hi (set (set l (2 * k) b) (2 * k + 1) e)
set_texts hi l k b e m (n, h) = (length-set (set l (2 * k) b) (2 * k + 1) e ∙ (length-set l (2 * k) b ∙ n), λ i. by i (eqb i k) refl (leb 7 k) refl)
  where
    by : (i : ℕ) (v : Bool) → eqb i k ≡ v → (w : Bool) → leb 7 k ≡ w →
        Near 0 hi (get_or (set (set l (2 * k) b) (2 * k + 1) e) (2 * i) 0) (get_or (set (set l (2 * k) b) (2 * k + 1) e) (2 * i + 1) 0)
    by i v f true g =
        let z = leb-true 7 k g in
        rw (set_out l (2 * k) b (omega arith), set_out l (2 * k + 1) e (omega arith)) (h i)
    by i true f false g =
        let z = leb-false 7 k g in
        let y = eqb-true i k f in
        let x : get_or (set (set l (2 * k) b) (2 * k + 1) e) (2 * i) 0 ≡ b =
        rw y (get_or-set_other (set l (2 * k) b) (2 * k + 1) (2 * k) e 0 (λ q. omega arith) ∙ get_or-set_same l (2 * k) b 0 (omega arith)) in
        let w : get_or (set (set l (2 * k) b) (2 * k + 1) e) (2 * i + 1) 0 ≡ e =
        rw y (get_or-set_same (set l (2 * k) b) (2 * k + 1) e 0 (omega (arith, length-set l (2 * k) b))) in
        rw (x, w) m
    by i false f false g =
        let y = eqb-false i k f in
        let x : get_or (set (set l (2 * k) b) (2 * k + 1) e) (2 * i) 0 ≡ get_or l (2 * i) 0 =
        get_or-set_other (set l (2 * k) b) (2 * k + 1) (2 * i) e 0 (λ q. omega arith) ∙ get_or-set_other l (2 * k) (2 * i) b 0 (λ q. y (omega arith)) in
        let w : get_or (set (set l (2 * k) b) (2 * k + 1) e) (2 * i + 1) 0 ≡ get_or l (2 * i + 1) 0 =
        get_or-set_other (set l (2 * k) b) (2 * k + 1) (2 * i + 1) e 0 (λ q. y (omega arith)) ∙ get_or-set_other l (2 * k) (2 * i + 1) b 0 (λ q. omega arith) in
        rw (x, w) (h i)

note_texts : (hi : ℕ) (k : Note) (t : Placed) (l : Log) → 1 ≤ t.start → t.start < t.end → t.end ≤ hi → NearTexts hi l.texts →
    NearTexts hi (noted k t l).texts
note_texts hi skip t l a b c h = h
note_texts hi (heading k) t l a b c h = set_texts hi l.texts k (t.start + 1) (t.end - 1) (quoted_near 0 hi [] [] t.start t.end (omega arith) a b c) h
note_texts hi type t l a b c h = h
note_texts hi top t l a b c h = h
note_texts hi named t l a b c h = h
note_texts hi any t l a b c h = h
note_texts hi finish t l a b c h = h
note_texts hi (edged i) t l a b c h = h
note_texts hi (end i) t l a b c h = h
note_texts hi (plain i) t l a b c h = h
note_texts hi G.none t l a b c h = h
note_texts hi empty t l a b c h = h
note_texts hi all t l a b c h = h
note_texts hi whole t l a b c h = h
note_texts hi close t l a b c h = h

texts_simply : (hi : ℕ) (v : Bool) (n s : ℕ) (d₀ d : Book) → NearTexts hi d₀.log.texts → pick v (bad n s) (fine d₀) ≡ fine d → NearTexts hi d.log.texts
texts_simply hi v n s d₀ d h e = subst (λ (x : Book). NearTexts hi x.log.texts) (fine_inj (pick_fine v n s (fine d₀) d e).1) h

act_texts : (hi : ℕ) (b : Book) (c : Cls) (x : Act) (t : Placed) (d : Book) → 1 ≤ t.start → t.start < t.end → t.end ≤ hi → judge_by b c x t ≡ fine d →
    NearTexts hi b.log.texts → NearTexts hi d.log.texts
act_texts hi b c (note n) t d q r s e h = texts_simply hi (overlong c t) 8 t.start _ d (note_texts hi n t b.log q r s h) e
act_texts hi b c (divide w) t d q r s e h = texts_simply hi (overlong c t) 8 t.start _ d h e
act_texts hi b c scaled t d q r s e h = texts_simply hi (overlong c t) 8 t.start _ d h e
act_texts hi b c unity t d q r s e h = texts_simply hi (overlong c t) 8 t.start _ d h e
act_texts hi b c joined t d q r s e h = texts_simply hi (overlong c t) 8 t.start _ d h e
act_texts hi b c cell t d q r s e h = texts_simply hi (eqb b.cell_room 0) 9 t.start _ d h (pick_fine (overlong c t) 8 t.start _ d e).1
act_texts hi b c (entry g) t d q r s e h = texts_simply hi (eqb b.item_room 0) 9 t.start _ d h (pick_fine (overlong c t) 8 t.start _ d e).1
act_texts hi b c (time w k) t d q r s e h = by (number_of w b.unit t.bytes) e
  where
    by : (v : Result ℤ NotTime) → timed b c k t v ≡ fine d → NearTexts hi d.log.texts
    by (Ok z) e = texts_simply hi (overlong c t) 8 t.start _ d h e
    by (Err y) e = absurd (refused≢fine b c k t y e)

pub all_texts : (hi : ℕ) (xs : List Taken) (b d : Book) → Each (Within 0 hi) xs → tells b xs ≡ fine d → NearTexts hi b.log.texts → NearTexts hi d.log.texts
unfolding judges
all_texts hi [] b d s e h = subst (λ (x : Book). NearTexts hi x.log.texts) (fine_inj e) h
all_texts hi (x ∷ xs) b d ((p, q, r, s), ss) e h =
    let (y, f, g) = then_fine (judge b x.by x.tok) (λ y. tells y xs) d e in
    all_texts hi xs y d ss g (act_texts hi b x.by.cls x.by.act x.tok y q r s f h)

-- no text of the header stands anywhere
pub no_texts : (hi : ℕ) → NearTexts hi (replicate 14 0)
no_texts hi = (refl, λ i. by i (ltb (2 * i) 14) refl (ltb (2 * i + 1) 14) refl)
  where
    zero_there : (j : ℕ) (v : Bool) → ltb j 14 ≡ v → ◌≡◌ {A = ℕ} (get_or (replicate 14 0) j 0) 0
    zero_there j true e = get_or-replicate 14 j 0 0 (ltb-true j 14 e)
    zero_there j false e = get_or-eq_default (replicate 14 0) 0 (ltb-false j 14 e)

    by : (i : ℕ) (v : Bool) → ltb (2 * i) 14 ≡ v → (w : Bool) → ltb (2 * i + 1) 14 ≡ w →
        Near 0 hi (get_or (replicate 14 0) (2 * i) 0) (get_or (replicate 14 0) (2 * i + 1) 0)
    by i v e w f = inl (zero_there (2 * i) v e, zero_there (2 * i + 1) w f)

-- the header's texts have the same bytes in two texts
abbrev pub SameTexts : List ℕ → List ℕ → List ℕ → Type 0
SameTexts s s' l = (i : ℕ) → part_of s' (get_or l (2 * i) 0) (get_or l (2 * i + 1) 0) ≡ part_of s (get_or l (2 * i) 0) (get_or l (2 * i + 1) 0)

pub texts_stay : (x z z' : List ℕ) (l : List ℕ) → NearTexts (length x) l → SameTexts (x ++ z') (x ++ z) l
texts_stay x z z' l (n, h) i = part_stays x z z' _ _ (h i)
