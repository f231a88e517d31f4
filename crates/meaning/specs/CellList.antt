-- The cells of a text, each with its entries, one after the other.
-- Assumes nothing.
use Prim.Native.Nat.{ℕ, zero, suc, ◌+◌, ◌-◌, ◌*◌, ◌<◌, ◌≤◌}
use Rattle.std.specs.Prelude.{◌≡◌, Bool, length, get_or, take, drop}
use Rattle.std.proofs.Math.Path.{refl, ap}
use Rattle.std.proofs.Common.{sym, ◌∙◌, arith, zero-add, length-drop, drop-drop, length-take-le, get_or-take, get_or-drop}
use mathlib.Core.List.{List, [], ◌∷◌, ◌++◌, append_assoc}
use Rattle.grammar.specs.declared.Cell as read
use Rattle.grammar.specs.Meaning.{Item}
use Rattle.entryarcs.specs.Sound.{Each, SoundItem, total}
use Rattle.history.specs.Sheet.{Records, Cell, events, file_events, each}
use Rattle.entryarcs.specs.Says.{cell_of, cells_of}
use Rattle.meaning.specs.Entries.{no_item, EntriesAre}
use Rattle.meaning.specs.Cells.{entries_before, no_cell, CellsAre}

-- what is said of each is said of those that are left and of one
pub each_take : {A : Type 0} (P : A → Type 0) (l : List A) → Each P l → (k : ℕ) → Each P (take k l)
each_take P l e zero = tt
each_take P [] e (suc k) = tt
each_take P (a ∷ l) e (suc k) = (e.0, each_take P l e.1 k)

pub each-drop : {A : Type 0} (P : A → Type 0) (l : List A) → Each P l → (k : ℕ) → Each P (drop k l)
each-drop P l e zero = e
each-drop P [] e (suc k) = tt
each-drop P (a ∷ l) e (suc k) = each-drop P l e.1 k

pub each_at : {A : Type 0} (P : A → Type 0) (l : List A) (d : A) → Each P l → (k : ℕ) → k < length l → P (get_or l k d)
each_at P [] d e k h = absurd (omega arith)
each_at P (a ∷ l) d e zero h = e.0
each_at P (a ∷ l) d e (suc k) h = each_at P l d e.1 k (omega arith)

-- the entries of the first k cells
abbrev pub before : List read.Cell → ℕ → ℕ
before cs k = total (take k cs)

pub before-next : (cs : List read.Cell) (k : ℕ) → k < length cs → before cs (suc k) ≡ before cs k + (get_or cs k no_cell).entries
unfolding total
before-next [] k h = absurd (omega arith)
before-next (c ∷ cs) zero h = omega arith
before-next (c ∷ cs) (suc k) h = let e = before-next cs k (omega arith) in omega arith

pub before-within : (cs : List read.Cell) (k : ℕ) → before cs k ≤ total cs
unfolding total
before-within cs zero = omega arith
before-within [] (suc k) = omega arith
before-within (c ∷ cs) (suc k) = let e = before-within cs k in omega arith

pub before-all : (cs : List read.Cell) (k : ℕ) → k < length cs → before cs k + (get_or cs k no_cell).entries ≤ total cs
before-all cs k h = let e = before-next cs k h in let w = before-within cs (suc k) in omega arith

-- as the table has it
pub before-is : (t : List ℕ) (count : ℕ) (cs : List read.Cell) → CellsAre t count cs → (k : ℕ) → k ≤ count → entries_before t k ≡ before cs k
unfolding entries_before total
before-is t count cs a zero h = refl
before-is t count cs a (suc k) h =
    let l : k < length cs = (let z = a.0 in omega arith) in
    let r : get_or t (7 * k + 6) 0 ≡ (get_or cs k no_cell).entries = a.1 k (omega arith) 6 (omega arith) in
    let e = before-next cs k l in
    let w = before-is t count cs a k (omega arith) in
    omega (arith, r, e, w)

module _ {Word : Type 0} (word : ℕ → Word) (text : List ℕ) (slash : Bool) where
  -- cell number k with its entries
  abbrev pub cell_no : List read.Cell → List Item → ℕ → Cell Word
  cell_no cs is k = cell_of word text slash (get_or cs k no_cell) (take (get_or cs k no_cell).entries (drop (before cs k) is))

  -- the cells before it, itself, and those behind it
  pub cells_at : (cs : List read.Cell) (is : List Item) (k : ℕ) → k < length cs
      → (rest : List (Cell Word)) × (cells_of word text slash cs is ≡ cells_of word text slash (take k cs) is ++ (cell_no cs is k ∷ rest))
  unfolding cells_of total
  cells_at [] is k h = absurd (omega arith)
  cells_at (c ∷ cs) is zero h = (cells_of word text slash cs (drop c.entries is), refl)
  cells_at (c ∷ cs) is (suc k) h =
      let r = cells_at cs (drop c.entries is) k (omega arith) in
      (r.0, ap (λ l. cell_of word text slash c (take c.entries is) ∷ l) (r.1 ∙ rw (drop-drop (before cs k) c.entries is)))

  pub cells-next : (cs : List read.Cell) (is : List Item) (k : ℕ) → k < length cs
      → cells_of word text slash (take (suc k) cs) is ≡ cells_of word text slash (take k cs) is ++ (cell_no cs is k ∷ [])
  unfolding cells_of total
  cells-next [] is k h = absurd (omega arith)
  cells-next (c ∷ cs) is zero h = refl
  cells-next (c ∷ cs) is (suc k) h =
      ap (λ l. cell_of word text slash c (take c.entries is) ∷ l) (cells-next cs (drop c.entries is) k (omega arith)
      ∙ rw (drop-drop (before cs k) c.entries is))

-- the events of a list of cells in two parts
pub file-append : (records : Records) {Word : Type 0} (x y : List (Cell Word))
    → file_events records (x ++ y) ≡ file_events records x ++ file_events records y
unfolding file_events each
file-append records [] y = refl
file-append records (c ∷ x) y = rw (file-append records x y) (sym (append_assoc (events records c) _ _))

-- cell number k's entries stand in the table
pub entries_part : (t : List ℕ) (cs : List read.Cell) (is : List Item) → EntriesAre t 0 (total cs) is → (k : ℕ) → k < length cs
    → EntriesAre t (before cs k) (get_or cs k no_cell).entries (take (get_or cs k no_cell).entries (drop (before cs k) is))
entries_part t cs is a k h =
    let e = (get_or cs k no_cell).entries in
    let b = before cs k in
    let w = before-all cs k h in
    let l = a.0 in
    let n : length (drop b is) ≡ length is - b = length-drop b is in (
      length-take-le e (drop b is) (omega (arith, n, l, w)),
      (λ j q.
          let r = a.1 (b + j) (omega arith) in
          let z : 0 + (b + j) ≡ b + j = zero-add (b + j) in
          rw (get_or-take e (drop b is) j no_item q, get_or-drop b is j no_item) (rw z at r)),
      each_take SoundItem (drop b is) (each-drop SoundItem is a.2 b) e,
    )
