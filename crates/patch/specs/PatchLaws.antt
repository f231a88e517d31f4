-- From the swap to the whole patch: what it answers and leaves, for every input.
-- Assumes nothing.
use Prim.Native.Nat.{ℕ, suc, ◌+◌, ◌-◌, ◌*◌, ◌/◌, ◌<◌, ◌≤◌}
use Rattle.std.proofs.Math.Path.{◌≡◌, refl, sym, ap}
use Rattle.std.proofs.Common.{◌∙◌, subst, inl, inr, take_all}
use Rattle.std.specs.Prelude.{Bool, List, [], ◌∷◌, ◌⊎◌, eqb, ltb, length, get_or, Result, Ok, Err}
use Rattle.std.proofs.Math.Bool.{true, false}
use native.Mathlib.Omega.{arith}
use Rattle.std.proofs.Math.Nat.{add-zero}
use borrow.Author.Tests.{eq-eqb, ne_eqb, lt-ltb, le-ltb}
use Rattle.classes.specs.Choice.{or}
use Rattle.wire.specs.Wire.{Bytes}
use Rattle.grammar.specs.declared.Cell as read
use Rattle.grammar.specs.Machine.{Res, fine, bad}
use Rattle.grammar.specs.Meaning.{Item}
use Rattle.grammar.specs.Reading.{At}
use Rattle.grammar.specs.Outcome.{read_file, read_cell_of}
use Rattle.meant.specs.Sound.{total, cell_sound}
use Rattle.meant.specs.One.{one_cell, cell_slash}
use Rattle.tables.specs.Left.{cells_left, entries_left}
use Rattle.readcells.specs.Files.{FileIs, unit_of}
use Rattle.readcells.specs.Files as files
use Rattle.readcells.specs.declared.Counts.{Counts}
use Rattle.readcells.specs.Refusal.{Refusal}
use Rattle.readcells.specs.declared.FileRead.{FileRead}
use Rattle.sheetparts.specs.Form.{Good, faulty, check_of}
use Rattle.meant.specs.Same.{same_records}
use Rattle.meant.specs.Slots.{values_of, sheet_at}
use Rattle.meant.specs.Current.{current_spelled}
use Rattle.meant.specs.Says.{cell_of, cells_of}
use Rattle.meant.specs.Rows.{CellIs}
use Rattle.meant.specs.Entries.{EntriesAre}
use Rattle.meant.specs.Cells.{entries_before, CellsAre}
use Rattle.meant.specs.TableLaws.{Tables, tables_sound}
use Rattle.annotate.specs.TextLaws.{read_tables}
use Rattle.meant.specs.Where.{at}
use Rattle.swaparcs.specs.declared.Swap.{Swap}
use Rattle.swaparcs.specs.Swap.{Given, olds, comer}
use Rattle.swaparcs.specs.Loops.{SwapReady}
use Rattle.swap.specs.declared.Patched.{Patched}
use Rattle.swap.specs.declared.Patched.TheVariants as patched
use Rattle.swap.specs.Swapped.{SwapRun}
use Rattle.patch.specs.declared.Counted.{Counted}
use Rattle.patch.specs.Meaning.{said, first_cell, by_cell, by_file, course, answer_of, current_of, file_table, cell_table}
use Rattle.patch.specs.Counted.{count_of, cells_read, CountedIs}
use Rattle.patch.specs.Incoming.{ByIncoming, CellPatched}

-- the number and the place of an answer that refuses
abbrev number_of : Result Counts Refusal → ℕ
number_of (Ok counts) = 0
number_of (Err why) = why.number

abbrev place_of : Result Counts Refusal → ℕ
place_of (Ok counts) = 0
place_of (Err why) = why.place

-- 1. The incoming text, read as one cell

first-is : (u : List ℕ) (cs : List read.Cell) (c : read.Cell) → cs ≡ c ∷ [] → CellsAre u 1 cs → CellIs u 0 c × (c.sort < 256)
first-is u cs c e a = let w = subst (CellsAre u 1) e a in (w.1 0 (omega arith), w.2.0)

first_said : (incoming : List ℕ) (slash d : Bool) (cs : List read.Cell) (c : read.Cell) (is : List Item) → cs ≡ c ∷ [] → d ≡ slash
    → length is ≡ c.entries → cell_of (at true) incoming slash c is ≡ first_cell (cells_of (at true) incoming d cs is)
unfolding first_cell cells_of
first_said incoming slash d cs c is e f l = rw (e, f, take_all c.entries is (omega (arith, l)))

module _ (slash : Bool) (unit cr ir : ℕ) (incoming : List ℕ) (st2 : At) (e : read_cell_of slash unit cr ir incoming ≡ fine st2) (u2 t2 : List ℕ) where
  -- what stands in its tables: one cell and its entries
  pub one-tables : Tables st2 (cells_left (fine st2) u2) (entries_left (fine st2) t2) 1
  one-tables =
      let o = one_cell slash unit cr ir incoming st2 e in
      let l : length st2.book.log.cells ≡ 1 = ap length o.1 in
      subst (Tables st2 (cells_left (fine st2) u2) (entries_left (fine st2) t2)) l (tables_sound st2 u2 t2 (cell_sound slash unit cr ir incoming st2 e))

  module _ (cells entries : List ℕ) (count k : ℕ) where
    -- the swap's numbers
    pub ready : (swap : Swap) → 7 * count ≤ length cells → 28 * entries_before cells count ≤ length entries → k < count
        → swap.cells ≡ count → swap.outgoing ≡ k → swap.before ≡ entries_before cells k → swap.leaving ≡ get_or cells (7 * k + 6) 0
        → swap.coming ≡ get_or (cells_left (fine st2) u2) 6 0
        → SwapReady cells entries (cells_left (fine st2) u2) (entries_left (fine st2) t2) swap
    unfolding entries_before
    ready swap room room2 h c o b l g =
        let t = one-tables in
        let x = t.cells_fit in
        let y = t.entries_fit_of in
        record {
          room = rw c room;
          entries_room = rw c room2;
          there = rw (c, o) h;
          before = rw o b;
          leaving = rw o l;
          room2 = omega (arith, x);
          coming = g;
          entries_room2 = rw g (omega (arith, y));
        }

    -- what the tables say
    pub given : (b : List ℕ) (n m f : ℕ) (file : List ℕ) (cs : List read.Cell) (is : List Item) → CellsAre cells count cs
        → EntriesAre entries 0 (total cs) is → k < count
        → (g : Given cells entries (cells_left (fine st2) u2) (entries_left (fine st2) t2) count k)
        × (olds b n m f file incoming slash g ≡ cells_of (at false) file slash cs is)
        × (comer b n m f file incoming slash g ≡ first_cell (said true incoming st2))
    unfolding said total
    given b n m f file cs is c a h =
        let o = one_cell slash unit cr ir incoming st2 e in
        let w : total st2.book.log.cells ≡ o.0.entries = ap total o.1 ∙ add-zero o.0.entries in
        let t = one-tables in
        let ts = rw w at t.entries in
        let one = first-is (cells_left (fine st2) u2) st2.book.log.cells o.0 o.1 t.cells in
        let z = ts.0 in (
          record {
            cs = cs;
            is = is;
            cell2 = o.0;
            is2 = st2.book.log.items;
            cells_are_of = c;
            entries_are = a;
            cell_is = one.0;
            sort2 = one.1;
            entries_are2 = ts;
            there = h;
          },
          refl,
          first_said incoming slash st2.book.slash st2.book.log.cells o.0 st2.book.log.items o.1
              (cell_slash slash unit cr ir incoming st2 e).0 z,
        )

-- 2. One cell patched

module _ (b : List ℕ) (n m f : ℕ) (file incoming : List ℕ) (slash : Bool) (unit : ℕ) (cells entries : List ℕ) (count k : ℕ)
    (cells2 cells2' entries2 entries2' : List ℕ) (r : FileRead)
    (file-is : FileIs (read_cell_of slash unit (length cells2 / 7) (length entries2 / 28) incoming) cells2 cells2' entries2 entries2' r) where
  -- the incoming text's own refusal
  pub cell_unread : (why : Refusal) → r.answer ≡ Err why → (current : List ℕ)
      → CellPatched b n m f file incoming slash unit cells entries count k cells2 cells2' entries2 entries2' current current (patched.Refused why.number why.place true)
  cell_unread why e current bytes good cs is c a v s =
      go (read_cell_of slash unit (length cells2 / 7) (length entries2 / 28) incoming) (sym e ∙ file-is.says) file-is.cells file-is.entries
    where
      go : (o : Res At) → Err why ≡ files.answer_of o → cells2' ≡ cells_left o cells2 → entries2' ≡ entries_left o entries2
          → ByIncoming b n m f file incoming slash unit cells entries count k o cs is cells2 cells2' entries2 entries2' current current v (patched.Refused why.number why.place true)
      go (fine st) e c d = let z : ◌≡◌ {A = ℕ} 0 1 = cc in absurd (omega arith)
      go (bad y p) e c d =
          let a : why.number ≡ y = ap number_of e in
          let b : why.place ≡ p = ap place_of e in
          (rw (a, b), c, d, refl)

  -- how many cells it has
  pub none_come : (why : Refusal) → r.answer ≡ Err why → 0 ≡ cells_read (read_cell_of slash unit (length cells2 / 7) (length entries2 / 28) incoming)
  none_come why e = ap count_of (sym e ∙ file-is.says)

  pub one-comes : (counts : Counts) → r.answer ≡ Ok counts → counts.cells ≡ cells_read (read_cell_of slash unit (length cells2 / 7) (length entries2 / 28) incoming)
  one-comes counts e = ap count_of (sym e ∙ file-is.says)

  -- or what the swap of the cell that was read asks
  pub cell_ready : (counts : Counts) → r.answer ≡ Ok counts → (swap : Swap) → 7 * count ≤ length cells
      → 28 * entries_before cells count ≤ length entries → k < count → swap.cells ≡ count → swap.outgoing ≡ k → swap.before ≡ entries_before cells k
      → swap.leaving ≡ get_or cells (7 * k + 6) 0 → swap.coming ≡ get_or cells2' 6 0 → SwapReady cells entries cells2' entries2' swap
  cell_ready counts e swap room room2 h c o before leaving coming =
      go (read_cell_of slash unit (length cells2 / 7) (length entries2 / 28) incoming) refl (sym e ∙ file-is.says) file-is.cells file-is.entries
    where
      go : (x : Res At) → read_cell_of slash unit (length cells2 / 7) (length entries2 / 28) incoming ≡ x → Ok counts ≡ files.answer_of x
          → cells2' ≡ cells_left x cells2 → entries2' ≡ entries_left x entries2 → SwapReady cells entries cells2' entries2' swap
      go (bad y q) x e c2 d2 = let z : ◌≡◌ {A = ℕ} 0 1 = cc in absurd (omega arith)
      go (fine st2) x e c2 d2 =
          let w =
          ready slash unit (length cells2 / 7) (length entries2 / 28) incoming st2 x cells2 entries2 cells entries count k swap room room2 h c o before
          leaving (coming ∙ ap (λ (y : List ℕ). get_or y 6 0) c2) in
          subst (λ (y : List ℕ). SwapReady cells entries cells2' y swap) (sym d2)
          (subst (λ (y : List ℕ). SwapReady cells entries y (entries_left (fine st2) entries2) swap) (sym c2) w)

  -- and what it says
  pub cell_read : (counts : Counts) → r.answer ≡ Ok counts → k < count → (swap : Swap) → swap.cells ≡ count → swap.outgoing ≡ k
      → (current current' : List ℕ) (a : Patched)
      → SwapRun b n m f file incoming slash cells entries cells2' entries2' swap current current' a
      → CellPatched b n m f file incoming slash unit cells entries count k cells2 cells2' entries2 entries2' current current' a
  cell_read counts e h swap p o current current' a run bytes good cs is c i v s =
      go (read_cell_of slash unit (length cells2 / 7) (length entries2 / 28) incoming) refl (sym e ∙ file-is.says) file-is.cells file-is.entries
    where
      go : (x : Res At) → read_cell_of slash unit (length cells2 / 7) (length entries2 / 28) incoming ≡ x → Ok counts ≡ files.answer_of x
          → cells2' ≡ cells_left x cells2 → entries2' ≡ entries_left x entries2
          → ByIncoming b n m f file incoming slash unit cells entries count k x cs is cells2 cells2' entries2 entries2' current current' v a
      go (bad y q) x e c2 d2 = let z : ◌≡◌ {A = ℕ} 0 1 = cc in absurd (omega arith)
      go (fine st2) x e c2 d2 =
          let g = given slash unit (length cells2 / 7) (length entries2 / 28) incoming st2 x cells2 entries2 cells entries swap.cells swap.outgoing b n m
          f file cs is (rw p c) i (rw (p, o) h) in
          let half =
          subst (λ (y : List ℕ). SwapRun b n m f file incoming slash cells entries y entries2' swap current current' a) c2 run in
          let whole =
          subst (λ (y : List ℕ). SwapRun b n m f file incoming slash cells entries (cells_left (fine st2) cells2) y swap current current' a) d2 half in
          let w = whole bytes good g.0 v s in
          let z = rw (g.1, g.2, o) at w in
          (c2, d2, z.0, z.1)

-- 3. For every input

-- a refusal, where so many cells of the file were read and none of the incoming text
abbrev after : (number place : ℕ) (side : Bool) (cells : ℕ) → Counted
after number place side cells = record { answer = patched.Refused number place side; cells = cells; incoming = 0 }

module _ (start file : List ℕ) (number : ℕ) (incoming current : List ℕ) (cr ir cr2 ir2 : ℕ) (u t u2 t2 : List ℕ) where
  -- 10
  pub patch-unfit : (k p : ℕ) → check_of start ≡ faulty k p
      → CountedIs start (course start file number incoming current cr ir cr2 ir2) u u t t u2 u2 t2 t2 current current (after 10 0 false 0)
  unfolding course answer_of current_of file_table cell_table
  patch-unfit k p e =
      rw e (record { says = refl; cells = refl; entries = refl; incoming_cells = refl; incoming_entries = refl; sheet = refl }, refl, refl)

  module _ (n m f : ℕ) (good : check_of start ≡ Good n m f) where
    -- 11
    pub patch-length : (length current ≡ length start → ⊥)
        → CountedIs start (course start file number incoming current cr ir cr2 ir2) u u t t u2 u2 t2 t2 current current (after 11 0 false 0)
    unfolding course answer_of current_of file_table cell_table
    patch-length h =
        rw (good, ne_eqb (length current) (length start) h)
        (record { says = refl; cells = refl; entries = refl; incoming_cells = refl; incoming_entries = refl; sheet = refl }, refl, refl)

    -- 18
    pub patch_records : length current ≡ length start → same_records start current m f ≡ false
        → CountedIs start (course start file number incoming current cr ir cr2 ir2) u u t t u2 u2 t2 t2 current current (after 18 0 false 0)
    unfolding course answer_of current_of file_table cell_table
    patch_records h s =
        rw (good, eq-eqb (length current) (length start) h, s)
        (record { says = refl; cells = refl; entries = refl; incoming_cells = refl; incoming_entries = refl; sheet = refl }, refl, refl)

    module _ (same : length current ≡ length start) (alike : same_records start current m f ≡ true) (u' t' : List ℕ) (r : FileRead)
        (file-is : FileIs (read_file cr ir file) u u' t t' r) where
      -- the course of two sheets that fit
      fits : course start file number incoming current cr ir cr2 ir2 ≡ by_file start file number incoming current cr2 ir2 n m f (read_file cr ir file)
      unfolding course
      fits = rw (good, eq-eqb (length current) (length start) same, alike)

      -- the file's own refusal
      pub patch_unread : (why : Refusal) → r.answer ≡ Err why
          → CountedIs start (course start file number incoming current cr ir cr2 ir2) u u' t t' u2 u2 t2 t2 current current (after why.number why.place false 0)
      unfolding answer_of current_of file_table cell_table
      patch_unread why e = rw fits (go (read_file cr ir file) (sym e ∙ file-is.says) file-is.cells file-is.entries)
        where
          go : (o : Res At) → Err why ≡ files.answer_of o → u' ≡ cells_left o u → t' ≡ entries_left o t
              → CountedIs start (by_file start file number incoming current cr2 ir2 n m f o) u u' t t' u2 u2 t2 t2 current current (after why.number why.place false 0)
          go (fine st) e c d = let z : ◌≡◌ {A = ℕ} 0 1 = cc in absurd (omega arith)
          go (bad y p) e c d =
              let a : why.number ≡ y = ap number_of e in
              let b : why.place ≡ p = ap place_of e in
              (record { says = rw (a, b); cells = c; entries = d; incoming_cells = refl; incoming_entries = refl; sheet = refl }, refl, refl)

      -- 17
      pub patch-number : (counts : Counts) → r.answer ≡ Ok counts → (number ≡ 0) ⊎ (counts.cells < number)
          → CountedIs start (course start file number incoming current cr ir cr2 ir2) u u' t t' u2 u2 t2 t2 current current (after 17 0 false counts.cells)
      unfolding answer_of current_of file_table cell_table
      patch-number counts e h =
          let l = read_tables start file cr ir u u' t t' current n m f good same r file-is counts e in
          let z : or (eqb number 0) (ltb (length l.0.book.log.cells) number) ≡ true = beyond _ (rw l.5.cells.0 h) in
          rw (fits, l.1, z) (record { says = refl; cells = l.2; entries = l.3; incoming_cells = refl; incoming_entries = refl; sheet = refl }, sym l.5.cells.0, refl)
        where
          any : (x : Bool) → or x true ≡ true
          any true = refl
          any false = refl

          beyond : (k : ℕ) → (number ≡ 0) ⊎ (k < number) → or (eqb number 0) (ltb k number) ≡ true
          beyond k (inl h) = rw (eq-eqb number 0 h)
          beyond k (inr h) = rw (lt-ltb k number h) (any (eqb number 0))

      -- both texts, or the incoming one's refusal
      pub patch_read : Bytes start → Bytes current → (counts : Counts) → r.answer ≡ Ok counts → 1 ≤ number → number ≤ counts.cells
          → cr2 ≡ length u2 / 7 → ir2 ≡ length t2 / 28 → (u2' t2' current' : List ℕ) (a : Counted)
          → CellPatched start n m f file incoming r.slash r.unit u' t' counts.cells (number - 1) u2 u2' t2 t2' current current' a.answer
          → a.cells ≡ counts.cells → a.incoming ≡ cells_read (read_cell_of r.slash r.unit (length u2 / 7) (length t2 / 28) incoming)
          → CountedIs start (course start file number incoming current cr ir cr2 ir2) u u' t t' u2 u2' t2 t2' current current' a
      unfolding answer_of current_of file_table cell_table said
      patch_read bytes also counts e low high p q u2' t2' current' a run counted come =
          let l = read_tables start file cr ir u u' t t' current n m f good same r file-is counts e in
          let st = l.0 in
          let unit : r.unit ≡ st.book.unit = file-is.unit ∙ ap unit_of l.1 in
          let v = values_of (sheet_at current n m f) in
          let w = turn st r.slash r.unit l.4 unit run bytes good st.book.log.cells st.book.log.items l.5.cells l.5.entries v
          (current_spelled start bytes n m f good current also same alike) in
          let s = l.5.cells.0 in
          let x = ne_eqb number 0 (λ z. omega arith) in
          let y = le-ltb (length st.book.log.cells) number (omega (arith, s, high)) in
          let d : suc (number - 1) ≡ number = omega arith in
          rw (fits, l.1, x, y, p, q) (go st l.2 l.3 d (counted ∙ sym s) (read_cell_of st.book.slash st.book.unit (length u2 / 7) (length t2 / 28) incoming) w
          (come ∙ ap (λ (d : Bool). cells_read (read_cell_of d r.unit (length u2 / 7) (length t2 / 28) incoming)) l.4
          ∙ ap (λ (x : ℕ). cells_read (read_cell_of st.book.slash x (length u2 / 7) (length t2 / 28) incoming)) unit))
        where
          turn : (st : At) (slash : Bool) (unit : ℕ) → slash ≡ st.book.slash → unit ≡ st.book.unit
              → CellPatched start n m f file incoming slash unit u' t' counts.cells (number - 1) u2 u2' t2 t2' current current' a.answer
              → CellPatched start n m f file incoming st.book.slash st.book.unit u' t' counts.cells (number - 1) u2 u2' t2 t2' current current' a.answer
          turn st slash unit p q w = rw (p, q) at w

          go : (st : At) → u' ≡ cells_left (fine st) u → t' ≡ entries_left (fine st) t → suc (number - 1) ≡ number → a.cells ≡ length st.book.log.cells → (o : Res At)
              → ByIncoming start n m f file incoming st.book.slash st.book.unit u' t' counts.cells (number - 1) o st.book.log.cells
              st.book.log.items u2 u2' t2 t2' current current' (values_of (sheet_at current n m f)) a.answer → a.incoming ≡ cells_read o
              → CountedIs start (by_cell start file number incoming current n m f st o) u u' t t' u2 u2' t2 t2' current current' a
          go st c d z x (bad y q) w i = (record { says = w.0; cells = c; entries = d; incoming_cells = w.1; incoming_entries = w.2; sheet = w.3 }, x, i)
          go st c d z x (fine st2) w i =
              let k = rw z at w in
              (record { says = k.2; cells = c; entries = d; incoming_cells = k.0; incoming_entries = k.1; sheet = k.3 }, x, i)
