-- An entry's row of a table, read back: the entry's head, and the list that it expands to.
-- Assumes nothing.
use Rattle.std.specs.Prelude.{ℕ, ◌+◌, ◌%◌, ◌<◌, ◌≡◌, refl, Bool, true, false, List, [], ◌∷◌, eqb, length, get_or}
use Rattle.std.proofs.Common.{ap, ◌∙◌, arith, add-zero, get_or-append-add, eqb-true}
use Rattle.classes.specs.Choice.{pick}
use Rattle.grammar.specs.declared.Cell.{Cell}
use Rattle.grammar.specs.declared.Entry.{Entry}
use Rattle.grammar.specs.declared.Value.{Value}
use Rattle.grammar.specs.Meaning.{Item}
use Rattle.tables.specs.Layout.{cell_row, head_row, values_row, entry_row}
use Rattle.views.specs.Views.{cell_at, head_at}
use Rattle.sound.specs.Sound.{SoundItem, SoundValue, Each}
use Rattle.history.specs.Sheet.{absolute, increment, check}
use Rattle.amounts.specs.Laws.{is_add}
use Rattle.amounts.specs.Amounts.{expanded}
use Rattle.amounts.specs.Expand.{is_check, Timely, expanded-is, amount_in_range}
use Rattle.applying.specs.Says.{group_of, entry_of}
use Rattle.applying.specs.Arcs.{Expanded}

-- the 28 words from p on are the entry's row, the 7 words the cell's
abbrev pub EntryIs : List ℕ → ℕ → Item → Type 0
EntryIs t p i = (w : ℕ) → w < 28 → get_or t (p + w) 0 ≡ get_or (entry_row i) w 0

abbrev pub CellIs : List ℕ → ℕ → Cell → Type 0
CellIs t p c = (w : ℕ) → w < 7 → get_or t (p + w) 0 ≡ get_or (cell_row c) w 0

small : (x : ℕ) → x < 256 → x % 256 ≡ x
small x h = omega arith

-- a record is known by its fields
same_head : (g : Entry) (kind group place edge1 from1 to1 edge2 from2 to2 : ℕ) → kind ≡ g.kind → group ≡ g.group → place ≡ g.place
    → edge1 ≡ g.edge1 → from1 ≡ g.from1 → to1 ≡ g.to1 → edge2 ≡ g.edge2 → from2 ≡ g.from2 → to2 ≡ g.to2
    → record { kind = kind; group = group; place = place; edge1 = edge1; from1 = from1; to1 = to1; edge2 = edge2; from2 = from2; to2 = to2 } ≡ g
same_head g kind group place edge1 from1 to1 edge2 from2 to2 a b c d e f i j k = rw (a, b, c, d, e, f, i, j, k)

same-cell : (g : Cell) (place typefrom typeto sort pathfrom pathto entries : ℕ) → place ≡ g.place → typefrom ≡ g.typefrom → typeto ≡ g.typeto
    → sort ≡ g.sort → pathfrom ≡ g.pathfrom → pathto ≡ g.pathto → entries ≡ g.entries
    → record { place = place; typefrom = typefrom; typeto = typeto; sort = sort; pathfrom = pathfrom; pathto = pathto; entries = entries } ≡ g
same-cell g place typefrom typeto sort pathfrom pathto entries a b c d e f i = rw (a, b, c, d, e, f, i)

byte_word : (t : List ℕ) (p w x y : ℕ) → get_or t (p + w) 0 ≡ x → x ≡ y → y < 256 → get_or t (p + w) 0 % 256 ≡ y
byte_word t p w x y e f h = ap (λ z. z % 256) (e ∙ f) ∙ small y h

pub head_is : (t : List ℕ) (p : ℕ) (i : Item) → EntryIs t p i → SoundItem i → head_at t p ≡ i.head
unfolding head_at entry_row
head_is t p i r s =
    let first : get_or t p 0 ≡ i.head.kind = rw add-zero at (r 0 (omega arith)) in
    same_head i.head _ _ _ _ _ _ _ _ _ (ap (λ z. z % 256) first ∙ small _ s.kind) (byte_word t p 1 _ _ (r 1 (omega arith)) refl s.group) (r 2 (omega arith))
    (byte_word t p 3 _ _ (r 3 (omega arith)) refl s.edge1) (r 4 (omega arith)) (r 5 (omega arith))
    (byte_word t p 6 _ _ (r 6 (omega arith)) refl s.edge2) (r 7 (omega arith)) (r 8 (omega arith))

pub cell-is : (t : List ℕ) (p : ℕ) (c : Cell) → CellIs t p c → c.sort < 256 → cell_at t p ≡ c
unfolding cell_at
cell-is t p c r s =
    let first : get_or t p 0 ≡ c.place = rw add-zero at (r 0 (omega arith)) in
    same-cell c _ _ _ _ _ _ _ first (r 1 (omega arith)) (r 2 (omega arith)) (byte_word t p 3 _ _ (r 3 (omega arith)) refl s) (r 4 (omega arith))
    (r 5 (omega arith)) (r 6 (omega arith))

-- how many values are written, and their words
pub count-is : (t : List ℕ) (p : ℕ) (i : Item) → EntryIs t p i → get_or t (p + 9) 0 ≡ length i.values
unfolding entry_row
count-is t p i r = r 9 (omega arith)

pub words_are : (t : List ℕ) (p : ℕ) (i : Item) → EntryIs t p i → (k : ℕ) → k < 18 → get_or t (p + 10 + k) 0 ≡ get_or (values_row i.values 6) k 0
unfolding entry_row
words_are t p i r k h =
    let e : p + 10 + k ≡ p + (10 + k) = omega arith in
    rw e (r (10 + k) (omega arith) ∙ get_or-append-add (head_row i.head (length i.values)) (values_row i.values 6) k 0)

-- the letters of the groups
pub group_adds : (g : ℕ) → eqb g 73 ≡ is_add (group_of g)
unfolding group_of is_add
group_adds g = go (eqb g 73) (eqb g 84)
  where
    go : (a b : Bool) → a ≡ is_add (pick a increment (pick b check absolute))
    go true b = refl
    go false true = refl
    go false false = refl

pub group_checks : (g : ℕ) → eqb g 84 ≡ is_check (group_of g)
unfolding group_of is_check
group_checks g = go (eqb g 73) refl (eqb g 84) refl
  where
    go : (a : Bool) → eqb g 73 ≡ a → (b : Bool) → eqb g 84 ≡ b → b ≡ is_check (pick a increment (pick b check absolute))
    go true x true y = let z = eqb-true g 73 x in let w = eqb-true g 84 y in absurd (omega arith)
    go true x false y = refl
    go false x true y = refl
    go false x false y = refl

-- the times that reading leaves
pub timely : (vs : List Value) → Each SoundValue vs → Timely vs
timely [] s = tt
timely (v ∷ vs) s = (s.0, timely vs s.1)

-- the row's words expand to what the entry supplies
pub item-expanded : {Word : Type 0} (word : ℕ → Word) (text : List ℕ) (slash : Bool) (t : List ℕ) (p : ℕ) (i : Item) → EntryIs t p i → SoundItem i
    → Expanded (entry_of word text slash i) (expanded t (p + 10) (eqb i.head.group 84) (get_or t (p + 9) 0)) (eqb i.head.group 73)
unfolding entry_of
item-expanded word text slash t p i r s =
    let g = group_of i.head.group in
    record {
      adds = group_adds i.head.group;
      words = λ k h. rw (group_checks i.head.group, count-is t p i r) (expanded-is t (p + 10) g i.values (words_are t p i r) k h);
      times = λ u. amount_in_range g i.values (timely i.values s.values) u.row u.corner;
    }
