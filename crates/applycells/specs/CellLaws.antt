-- A cell's keyword and its entries, and the loop over cells, keep to the history.
-- Assumes nothing.
use Rattle.std.specs.Prelude.{ℕ, suc, ◌*◌, ◌<◌, ◌≡◌, Bool, length, get_or, take, Option, Some, None}
use Rattle.std.proofs.Math.Path.{refl, subst}
use Rattle.std.proofs.Common.{◌∙◌, arith, take_all}
use Rattle.std.proofs.Math.Bool.{true, false}
use mathlib.Core.List.{List, [], ◌∷◌, ◌++◌, append_assoc, append-nil}
use Rattle.std.proofs.Math.Option as maybe
use Rattle.std.proofs.Math.Option.{none, some}
use Rattle.std.proofs.Math.Dec.{eqb}
use Rattle.classes.specs.Choice.{pick}
use Rattle.wire.specs.Wire.{Bytes}
use Rattle.names.specs.Order.{same_text}
use Rattle.names.specs.Name.{canon, part_of}
use Rattle.grammar.specs.declared.Cell as read
use Rattle.grammar.specs.Meaning.{Item}
use Rattle.meaning.specs.Sound.{total}
use Rattle.sheetparts.specs.Form.{Good, check_of, type_at}
use Rattle.meaning.specs.Find.{find_instance}
use Rattle.views.specs.Views.{cell_at}
use Rattle.history.specs.Events.{nothing, step, final, fails_with, Event, any_of, or_else, when, stuck, judge, folded}
use Rattle.history.proofs.EventLaws.{fold_step}
use Rattle.history.specs.Sheet.{slots_of, Slot, Values, Cell, at, cell_number, cell_event, events, file_events, each}
use Rattle.meaning.specs.Says.{cell_of, cells_of, part_at, name_at}
use Rattle.meaning.specs.Rows.{cell-is}
use Rattle.meaning.specs.Instances.{records_at}
use Rattle.meaning.specs.Addressed.{cell_absent, cell-found, cell_differs, cell_same, cell-every}
use Rattle.meaning.specs.declared.Whom.{Whom}
use Rattle.meaning.specs.declared.Whom.TheVariants.{One, Every, Nobody}
use Rattle.meaning.specs.declared.Annotated.{Annotated}
use Rattle.meaning.specs.declared.Annotated.TheVariants.{Done, Refused}
use Rattle.meaning.specs.Whom.{whom_of, typed_as, For}
use Rattle.meaning.specs.Entries.{Kept, Went, entry_events, EntriesAre, EntriesRun}
use Rattle.meaning.specs.Cells.{entries_before, no_cell, CellsAre, CellRun, CellsRun}
use Rattle.meaning.specs.CellList.{each_at, before, before-is, cell_no, cells_at, cells-next, file-append, entries_part}
use Rattle.applycells.specs.EntryLaws.{here, went-stop, went_on}

-- a keyword supplies nothing, so its own number is all
quiet : (x : ℕ) (now : Values) (l : List Slot) → any_of (λ (t : Slot). fails_with x (step (now t) nothing)) l ≡ false
unfolding any_of fails_with step
quiet x now [] = refl
quiet x now (t ∷ l) = quiet x now l

module _ (b : List ℕ) (bytes : Bytes b) (n m f : ℕ) (good : check_of b ≡ Good n m f) (text : List ℕ) (slash : Bool) where
  own_judged : (l : List Slot) (now : Values) (c : Cell ℕ) → judge l now (cell_event (records_at b n m f) c) ≡ cell_number (records_at b n m f) c
  unfolding judge stuck cell_event or_else when
  own_judged l now c = rw (quiet 15 now l, quiet 16 now l) (go (cell_number (records_at b n m f) c))
    where
      go : (o : maybe.Option ℕ) → or_else o none ≡ o
      go none = refl
      go (some x) = refl

  -- 1. Which instances a cell applies to

  -- what the search for its instance says of a cell
  abbrev WhomIs : Whom → Cell ℕ → Type 0
  WhomIs (One p) c = For b n (One p) c × (cell_number (records_at b n m f) c ≡ none)
  WhomIs Every c = For b n Every c × (cell_number (records_at b n m f) c ≡ none)
  WhomIs (Nobody x) c = cell_number (records_at b n m f) c ≡ some x

  found_whom : (path : List ℕ) (c : Cell ℕ) → c.part ≡ at path → (o : Option ℕ) → find_instance b path n 12 ≡ o → WhomIs (typed_as b c.type o) c
  unfolding typed_as
  found_whom path c p None e = cell_absent b bytes n m f good c path p e
  found_whom path c p (Some q) e = go (same_text (type_at b q) c.type) refl
    where
      go : (t : Bool) → same_text (type_at b q) c.type ≡ t → WhomIs (pick t (One q) (Nobody 13)) c
      go true d =
          let k = cell-found b bytes n m f good c path q e in
          ((k.0, k.1, k.2, rw k.3 p, d), cell_same b bytes n m f good c path q p e d)
      go false d = cell_differs b bytes n m f good c path q p e d

  whom_is : (cell : read.Cell) (is : List Item) → WhomIs (whom_of b text slash n cell) (cell_of here text slash cell is)
  unfolding whom_of cell_of part_at name_at
  whom_is cell is = go (eqb cell.sort 2) refl
    where
      go : (t : Bool) → eqb cell.sort 2 ≡ t
          → WhomIs (pick t Every (typed_as b (part_of text cell.typefrom cell.typeto) (find_instance b (canon slash (part_of text cell.pathfrom cell.pathto)) n 12)))
          (cell_of here text slash cell is)
      go true e = (rw e, cell-every b bytes n m f good (cell_of here text slash cell is) (rw e))
      go false e = found_whom (canon slash (part_of text cell.pathfrom cell.pathto)) (cell_of here text slash cell is) (rw e) _ refl

  -- 2. One cell

  cell-events : (cell : read.Cell) (is : List Item)
      → events (records_at b n m f) (cell_of here text slash cell is)
      ≡ cell_event (records_at b n m f) (cell_of here text slash cell is) ∷ entry_events b text slash n m f (cell_of here text slash cell is) is
  unfolding events cell_of entry_events
  cell-events cell is = refl

  -- a keyword that is let pass
  keyword : (now : Values) (c : Cell ℕ) → cell_number (records_at b n m f) c ≡ none → (more : List (Event Slot ℕ))
      → folded (slots_of (records_at b n m f)) now (cell_event (records_at b n m f) c ∷ more) ≡ folded (slots_of (records_at b n m f)) now more
  unfolding cell_event final step
  keyword now c e more =
      fold_step (slots_of (records_at b n m f)) now now (cell_event (records_at b n m f) c) more (own_judged (slots_of (records_at b n m f)) now c ∙ e)

  -- 12 and 13 at the cell's keyword
  pub cell_refused : (cells : List ℕ) (row : ℕ) (entries : List ℕ) (first : ℕ) (out out' : List ℕ) (x : ℕ)
      → whom_of b text slash n (cell_at cells row) ≡ Nobody x
      → CellRun b text slash n m f cells row entries first out out' (Refused x (cell_at cells row).place)
  unfolding cell_event cell_of
  cell_refused cells row entries first out out' x e y g cell is now r s a k =
      let c = cell_of here text slash cell is in
      let v = cell-is cells row cell r s in
      let o : cell_number (records_at b n m f) c ≡ some x = subst (λ (w : Whom). WhomIs w c) (rw v at e) (whom_is cell is) in
      rw (cell-events cell is, v)
      (went-stop b bytes n m f good text slash now [] (entry_events b text slash n m f c is) out out' (cell_event (records_at b n m f) c) x
      (now, k, λ more. refl) (own_judged (slots_of (records_at b n m f)) now c ∙ o))

  -- and else its entries
  pub cell_entries : (cells : List ℕ) (row : ℕ) (entries : List ℕ) (first : ℕ) (out out' : List ℕ) (whom : Whom) (a : Annotated)
      → whom_of b text slash n (cell_at cells row) ≡ whom → ((x : ℕ) → whom ≡ Nobody x → ⊥)
      → EntriesRun b text slash n m f entries first (cell_at cells row).entries whom
      (part_of text (cell_at cells row).typefrom (cell_at cells row).typeto) out out' a
      → CellRun b text slash n m f cells row entries first out out' a
  unfolding cell_of
  cell_entries cells row entries first out out' whom a e h run y g cell is now r s are k =
      let c = cell_of here text slash cell is in
      let v = cell-is cells row cell r s in
      let w : WhomIs whom c = subst (λ (w : Whom). WhomIs w c) (rw v at e) (whom_is cell is) in
      let u = both whom w h in
      rw (cell-events cell is)
      (went_on b bytes n m f good text slash now (cell_event (records_at b n m f) c ∷ []) (entry_events b text slash n m f c is) out out' a
      (now, k, keyword now c u.1) ((rw v at run) y g c is now are refl u.0 k))
    where
      both : (whom : Whom) → WhomIs whom (cell_of here text slash cell is) → ((x : ℕ) → whom ≡ Nobody x → ⊥)
          → For b n whom (cell_of here text slash cell is) × (cell_number (records_at b n m f) (cell_of here text slash cell is) ≡ none)
      both (One p) w h = w
      both Every w h = w
      both (Nobody x) w h = absurd (h x refl)

  -- 3. The loop

  module _ (cells : List ℕ) (count : ℕ) (entries out : List ℕ) where
    -- the first k cells were gone through
    abbrev pub CellsSoFar : ℕ → List ℕ → Type 0
    CellsSoFar k o =
        (cs : List read.Cell) (is : List Item) (now : Values) → CellsAre cells count cs → EntriesAre entries 0 (total cs) is → Kept b n m f out now
        → Went b n m f now (file_events (records_at b n m f) (cells_of here text slash (take k cs) is)) o Done

    pub cells-none : CellsSoFar 0 out
    unfolding cells_of file_events each
    cells-none cs is now c e k = (now, k, λ more. refl)

    -- the events of the cells before number k, and its own
    abbrev past : List read.Cell → List Item → ℕ → List (Event Slot ℕ)
    past cs is k = file_events (records_at b n m f) (cells_of here text slash (take k cs) is)

    abbrev this : List read.Cell → List Item → ℕ → List (Event Slot ℕ)
    this cs is k = events (records_at b n m f) (cell_no here text slash cs is k)

    -- what the run of cell number k says
    one : (k : ℕ) (o o' : List ℕ) (first : ℕ) (a : Annotated) → k < count → first ≡ entries_before cells k
        → CellRun b text slash n m f cells (7 * k) entries first o o' a
        → (cs : List read.Cell) (is : List Item) (now : Values) → CellsAre cells count cs → EntriesAre entries 0 (total cs) is → Kept b n m f o now
        → Went b n m f now (events (records_at b n m f) (cell_no here text slash cs is k)) o' a
    one k o o' first a h d run cs is now c e kept =
        let l : k < length cs = rw c.0 h in
        let z : first ≡ before cs k = d ∙ before-is cells count cs c k (omega arith) in
        (rw z at run) bytes good (get_or cs k no_cell) _ now (c.1 k h) (each_at (λ (x : read.Cell). x.sort < 256) cs no_cell c.2 k l)
        (entries_part entries cs is e k l) kept

    pub cells-more : (k : ℕ) (o o' : List ℕ) (first : ℕ) → k < count → first ≡ entries_before cells k → CellsSoFar k o
        → CellRun b text slash n m f cells (7 * k) entries first o o' Done → CellsSoFar (suc k) o'
    unfolding file_events each
    cells-more k o o' first h d so run cs is now c e kept =
        let w = so cs is now c e kept in
        rw (cells-next here text slash cs is k (rw c.0 h), file-append (records_at b n m f), append-nil)
        (went_on b bytes n m f good text slash now (past cs is k) (this cs is k) o o' Done w (one k o o' first Done h d run cs is w.0 c e w.1))

    pub cells-stop : (k : ℕ) (o o' : List ℕ) (first x q : ℕ) → k < count → first ≡ entries_before cells k → CellsSoFar k o
        → CellRun b text slash n m f cells (7 * k) entries first o o' (Refused x q)
        → CellsRun b text slash n m f cells count entries out o' (Refused x q)
    unfolding file_events each
    cells-stop k o o' first x q h d so run y g cs is now c e kept =
        let w = so cs is now c e kept in
        let s = cells_at here text slash cs is k (rw c.0 h) in
        let v = went_on b bytes n m f good text slash now (past cs is k) (this cs is k) o o' (Refused x q) w (one k o o' first (Refused x q) h d run cs is w.0 c e w.1) in
        rw (s.1, file-append (records_at b n m f)) (further now (past cs is k) (this cs is k) (file_events (records_at b n m f) s.0) o' x q v)
      where
        further : (now : Values) (es fs rest : List (Event Slot ℕ)) (o : List ℕ) (x q : ℕ) → Went b n m f now (es ++ fs) o (Refused x q)
            → Went b n m f now (es ++ (fs ++ rest)) o (Refused x q)
        further now es fs rest o x q v = λ more. rw (append_assoc es (fs ++ rest) more, append_assoc fs rest more, ← append_assoc es fs (rest ++ more)) (v (rest ++ more))

    pub cells_end : (o : List ℕ) → CellsSoFar count o → CellsRun b text slash n m f cells count entries out o Done
    cells_end o so y g cs is now c e kept = rw (take_all count cs (omega (arith, c.0))) at (so cs is now c e kept)
