-- The rows of a table that a reading left are the records of the entries that were read.
-- Assumes nothing.
use Rattle.std.specs.Prelude.{◌≡◌, refl, Bool, List, [], ◌∷◌, ℕ, ◌+◌, ◌*◌, ◌<◌, length, get_or}
use Rattle.std.proofs.Common.{arith, zero-add, add-zero}
use Rattle.grammar.specs.declared.Entry.{Entry}
use Rattle.grammar.specs.Machine.{fine}
use Rattle.grammar.specs.Meaning.{Item}
use Rattle.grammar.specs.Reading.{At}
use Rattle.grammar.specs.Outcome.{read_file, read_cell_of}
use Rattle.meaning.specs.Sound.{SoundItem, SoundLog, read_sound, cell_sound}
use Rattle.tables.specs.Layout.{values_row}
use Rattle.tables.specs.Left.{entries_left}
use Rattle.meaning.specs.Rows.{EntryIs, head_is, count-is, words_are}
use Rattle.meaning.specs.Entries.{no_item}
use Rattle.meaning.specs.CellList.{each_at}
use Rattle.meaning.specs.TableLaws.{tables_sound}
use Rattle.entryrecords.specs.declared.EntryRecord.{EntryRecord}
use Rattle.entryrecords.specs.Entries.{numbers_at, entry_of, entry_read}

-- one more number
both : (a b : ℕ) (l m : List ℕ) → a ≡ b → l ≡ m → a ∷ l ≡ b ∷ m
both a b l m e f = rw (e, f)

numbers_are : (t : List ℕ) (p : ℕ) (i : Item) → EntryIs t p i → numbers_at t (p + 10) ≡ values_row i.values 6
unfolding numbers_at values_row
numbers_are t p i r =
    let w = words_are t p i r in
    let first : get_or t (p + 10) 0 ≡ get_or (values_row i.values 6) 0 0 = rw add-zero at (w 0 (omega arith)) in
    both _ _ _ _ first (both _ _ _ _ (w 1 (omega arith)) (both _ _ _ _ (w 2 (omega arith)) (both _ _ _ _ (w 3 (omega arith)) (both _ _ _ _ (w 4 (omega arith))
    (both _ _ _ _ (w 5 (omega arith)) (both _ _ _ _ (w 6 (omega arith)) (both _ _ _ _ (w 7 (omega arith)) (both _ _ _ _ (w 8 (omega arith))
    (both _ _ _ _ (w 9 (omega arith)) (both _ _ _ _ (w 10 (omega arith)) (both _ _ _ _ (w 11 (omega arith)) (both _ _ _ _ (w 12 (omega arith))
    (both _ _ _ _ (w 13 (omega arith)) (both _ _ _ _ (w 14 (omega arith)) (both _ _ _ _ (w 15 (omega arith)) (both _ _ _ _ (w 16 (omega arith))
    (both _ _ _ _ (w 17 (omega arith)) refl)))))))))))))))))

-- a record is known by its fields
same-entry : (h g : Entry) (n k : ℕ) (l m : List ℕ) → h ≡ g → n ≡ k → l ≡ m
    → ◌≡◌ {A = EntryRecord} (record { head = h; count = n; numbers = l }) (record { head = g; count = k; numbers = m })
same-entry h g n k l m e f x = rw (e, f, x)

-- THE MEANING of a row: after a text is read, the record of row k is its k-th entry
pub entry-is : (st : At) (t : List ℕ) (k : ℕ) → SoundLog st.book.log → k < length st.book.log.items
    → entry_of (entries_left (fine st) t) k ≡ entry_read (get_or st.book.log.items k no_item)
entry-is st t k sound h =
    let is = st.book.log.items in
    let table = entries_left (fine st) t in
    let all = (tables_sound st [] t sound).entries in
    let count = all.0 in
    let row : EntryIs table (28 * k) (get_or is k no_item) = rw (zero-add k) at (all.1 k (omega (arith, h, count))) in
    let good = each_at SoundItem is no_item all.2 k h in
    same-entry _ _ _ _ _ _ (head_is table (28 * k) (get_or is k no_item) row good) (count-is table (28 * k) (get_or is k no_item) row)
    (numbers_are table (28 * k) (get_or is k no_item) row)

-- of a file, and of a cell that is issued again
pub file-entry : (cr ir : ℕ) (s : List ℕ) (st : At) (t : List ℕ) (k : ℕ) → read_file cr ir s ≡ fine st → k < length st.book.log.items
    → entry_of (entries_left (fine st) t) k ≡ entry_read (get_or st.book.log.items k no_item)
file-entry cr ir s st t k e = entry-is st t k (read_sound cr ir s st e)

pub cell-entry : (slash : Bool) (unit cr ir : ℕ) (s : List ℕ) (st : At) (t : List ℕ) (k : ℕ) → read_cell_of slash unit cr ir s ≡ fine st
    → k < length st.book.log.items → entry_of (entries_left (fine st) t) k ≡ entry_read (get_or st.book.log.items k no_item)
cell-entry slash unit cr ir s st t k e = entry-is st t k (cell_sound slash unit cr ir s st e)
