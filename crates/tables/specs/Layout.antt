-- The layout of the tables that reading leaves (document 01, 'What reading leaves'): a cell is 7 words, an entry 28.
-- Assumes nothing.
use Rattle.std.specs.Prelude.{◌≡◌, refl, List, [], ◌∷◌, ◌++◌, ℕ, zero, suc, ◌+◌, ◌*◌, ◌≤◌, ◌<◌, length, take, get_or, Some, None, Option, ℤ}
use Rattle.std.proofs.Common.{◌∙◌, sym, append_assoc, append-nil, arith, add-one, length-append, length-take, get_or-take, of_z}
use Rattle.std.proofs.Math.ListN.{get_or-eq_default}
use Rattle.std.specs.Int.{w64}
use Rattle.grammar.specs.declared.Value.{Value}
use Rattle.grammar.specs.declared.Entry.{Entry}
use Rattle.grammar.specs.declared.Cell.{Cell}
use Rattle.grammar.specs.Meaning.{Item, nothing}

-- 'keyword place, type text, instance path, number of entries'; the path is 0 the top level, 1 from .. to .., 2 '*'
abbrev pub cell_row : Cell → List ℕ
cell_row c = c.place ∷ c.typefrom ∷ c.typeto ∷ c.sort ∷ c.pathfrom ∷ c.pathto ∷ c.entries ∷ []

-- 'each of the three numbers is supplied or absent': femtoseconds in two's complement, the least number for an absent one
abbrev pub amount_word : Option ℤ → ℕ
amount_word None = 9223372036854775808
amount_word (Some z) = of_z w64 z

abbrev pub value_words : Value → List ℕ
value_words v = amount_word v.min ∷ amount_word v.typ ∷ amount_word v.max ∷ []

-- the first i of six values; those that are not written are absent
unfoldable pub values_row : List Value → ℕ → List ℕ
values_row vs zero = []
values_row vs (suc i) = values_row vs i ++ value_words (get_or vs i nothing)

-- 'kind, group (A, I or T), keyword place, both ends with edges', and how many values follow
abbrev pub head_row : Entry → ℕ → List ℕ
head_row h n = h.kind ∷ h.group ∷ h.place ∷ h.edge1 ∷ h.from1 ∷ h.to1 ∷ h.edge2 ∷ h.from2 ∷ h.to2 ∷ n ∷ []

unfoldable pub entry_row : Item → List ℕ
entry_row i = head_row i.head (length i.values) ++ values_row i.values 6

-- all of them, in file order
unfoldable pub cell_rows : List Cell → List ℕ
cell_rows [] = []
cell_rows (c ∷ cs) = cell_row c ++ cell_rows cs

unfoldable pub entry_rows : List Item → List ℕ
entry_rows [] = []
entry_rows (i ∷ is) = entry_row i ++ entry_rows is

pub length_values : (vs : List Value) (i : ℕ) → length (values_row vs i) ≡ 3 * i
unfolding values_row
length_values vs zero = refl
length_values vs (suc i) = length-append (values_row vs i) (value_words (get_or vs i nothing)) ∙ (let z = length_values vs i in omega arith)

pub length-entry : (i : Item) → length (entry_row i) ≡ 28
unfolding entry_row
length-entry i = length-append (head_row i.head (length i.values)) (values_row i.values 6) ∙ (let z = length_values i.values 6 in omega arith)

pub length-cells : (cs : List Cell) → length (cell_rows cs) ≡ 7 * length cs
unfolding cell_rows
length-cells [] = refl
length-cells (c ∷ cs) = length-append (cell_row c) (cell_rows cs) ∙ (let z = length-cells cs in omega arith)

pub length_entries : (is : List Item) → length (entry_rows is) ≡ 28 * length is
unfolding entry_rows
length_entries [] = refl
length_entries (i ∷ is) = length-append (entry_row i) (entry_rows is) ∙ (let z = length_entries is in let y = length-entry i in omega arith)

pub cells-more : (cs : List Cell) (c : Cell) → cell_rows (cs ++ c ∷ []) ≡ cell_rows cs ++ cell_row c
unfolding cell_rows
cells-more [] c = refl
cells-more (x ∷ cs) c = rw (cells-more cs c) (sym (append_assoc (cell_row x) (cell_rows cs) (cell_row c)))

pub entries_append : (is js : List Item) → entry_rows (is ++ js) ≡ entry_rows is ++ entry_rows js
unfolding entry_rows
entries_append [] js = refl
entries_append (x ∷ is) js = rw (entries_append is js) (sym (append_assoc (entry_row x) (entry_rows is) (entry_rows js)))

pub entries_one : (i : Item) → entry_rows (i ∷ []) ≡ entry_row i
unfolding entry_rows
entries_one i = append-nil (entry_row i)

-- one value more
pub values_turn : (vs : List Value) (i : ℕ) → values_row vs (i + 1) ≡ values_row vs i ++ value_words (get_or vs i nothing)
unfolding values_row
values_turn vs i = rw (add-one i)

-- of a list of which count values are written
pub value-here : (l : List Value) (count i : ℕ) → i < count → get_or (take count l) i nothing ≡ get_or l i nothing
value-here l count i h = get_or-take count l i nothing h

pub value-past : (l : List Value) (count i : ℕ) → count ≤ i → get_or (take count l) i nothing ≡ nothing
value-past l count i h = get_or-eq_default (take count l) nothing (simp length-take (omega arith))
